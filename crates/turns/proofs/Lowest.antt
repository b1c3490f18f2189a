-- The lowest of the marks that a search finds. Assumes nothing.
use mathlib.Core.Path.{◌≡◌, refl, sym, ap, ◌∙◌}
use mathlib.Core.Bool.{Bool, true, false, cond, ◌||◌}
use Prim.Native.Nat.{ℕ, zero, suc, ◌<◌, ◌≤◌}
use native.Mathlib.Omega.{arith}
use lib.Dec.{ltb}
use borrow.Author.Tests.{ltb-true, ltb-false}
use Rattle.std.specs.Prelude.{Option, Some, None, MatchOption}
use Rattle.std.specs.Option.{unwrap_or}
use Rattle.charts.specs.State.{some, lowest}
use Rattle.charts.proofs.Tools.{never, by_test, lowest_none}
use Rattle.deciding.specs.Marks.{first_marked}

-- the lowest mark, where one is found and where none is
pub lowest_nowhere : (f : ℕ → Bool) (n d : ℕ) → ((k : ℕ) → k < n → f k ≡ false) → lowest f n d ≡ d
lowest_nowhere f zero d h = refl
lowest_nowhere f (suc n) d h = ap (λ b. lowest f n (cond b n d)) (h n (omega arith)) ∙ lowest_nowhere f n d (λ k l. h k (omega arith))

pub lowest_at : (f : ℕ → Bool) (n d i : ℕ) → i < n → f i ≡ true → ((k : ℕ) → k < i → f k ≡ false) → lowest f n d ≡ i
lowest_at f zero d i h t e = absurd (omega arith)
lowest_at f (suc n) d i h t e = by_test (ltb i n) (λ l. lowest_at f n _ i (ltb-true i n l) t e) (λ l. let g : n ≤ i = ltb-false i n l in let q : i ≡ n = omega arith in
    ap (λ b. lowest f n (cond b n d)) (ap f (sym q) ∙ t) ∙ lowest_nowhere f n n (λ k o. e k (omega arith)) ∙ sym q)

-- what `find` over the numbers below n says of its result
abbrev pub Finds : (ℕ → Bool) → ℕ → Option ℕ → Type 0
Finds f n r = MatchOption r ((k : ℕ) → 0 ≤ k → k < n → f k ≡ false) (λ i. (0 ≤ i) × (i < n) × (f i ≡ true) × ((k : ℕ) → 0 ≤ k → k < i → f k ≡ false))

pub lowest_found : (f : ℕ → Bool) (n d : ℕ) (r : Option ℕ) → Finds f n r → unwrap_or r d ≡ lowest f n d
lowest_found f n d (Some i) (_, h, t, e) = sym (lowest_at f n d i h t (λ k l. e k (omega arith) l))
lowest_found f n d None e = sym (lowest_nowhere f n d (λ k l. e k (omega arith) l))

pub lowest_same : (f : ℕ → Bool) (n d e : ℕ) → some f n ≡ true → lowest f n d ≡ lowest f n e
lowest_same f zero d e t = never t
lowest_same f (suc n) d e t = go (f n) refl (lowest_same f n d e)
  where
    go : (b : Bool) → f n ≡ b → (some f n ≡ true → lowest f n d ≡ lowest f n e) → lowest f n (cond b n d) ≡ lowest f n (cond b n e)
    go true q r = refl
    go false q r = r (sym (ap (λ b. b || some f n) q) ∙ t)

-- the lowest of the marks, else 0
pub lowest_marked : (f : ℕ → Bool) (n : ℕ) (r : Option ℕ) → r ≡ first_marked f n → unwrap_or r 0 ≡ lowest f n 0
lowest_marked f n r e = ap (λ r. unwrap_or r 0) e ∙ by_test (some f n) (λ t. rw t) (λ t. rw t (sym (lowest_none f n 0 t)))
