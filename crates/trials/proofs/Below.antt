-- `any` over the numbers below n is `some`. Assumes nothing.
use mathlib.Core.Path.{◌≡◌, refl, sym, ap, ap₂, ◌∙◌}
use mathlib.Core.Bool.{Bool, true, false, ◌||◌}
use Prim.Native.Nat.{ℕ, zero, suc, ◌+◌}
use native.Mathlib.Omega.{arith}
use Rattle.std.specs.List.{list_any, range_with_len}
use Rattle.charts.specs.State.{some}

-- some of the numbers from a on, by the first and the rest
some_first : (f : ℕ → Bool) (n : ℕ) → some f (suc n) ≡ (f 0 || some (λ k. f (suc k)) n)
some_first f zero = refl
some_first f (suc n) = ap (λ b. f (suc n) || b) (some_first f n) ∙ swap (f (suc n)) (f 0) (some (λ k. f (suc k)) n)
  where
    swap : (a b c : Bool) → a || (b || c) ≡ b || (a || c)
    swap true true c = refl
    swap true false c = refl
    swap false true c = refl
    swap false false c = refl

any_from : (f : ℕ → Bool) (a n : ℕ) → list_any f (range_with_len a n) ≡ some (λ k. f (a + k)) n
any_from f a zero = refl
any_from f a (suc n) = ap₂ (λ x y. f x || y) a_0 (any_from f (a + 1) n ∙ ap (λ g. some g n) (λ t k. f (a_1 k t))) ∙ sym (some_first (λ k. f (a + k)) n)
  where
    a_0 : a ≡ a + 0
    a_0 = omega arith

    a_1 : (k : ℕ) → a + 1 + k ≡ a + suc k
    a_1 k = omega arith

pub any_below : (f : ℕ → Bool) (n : ℕ) → list_any f (range_with_len 0 n) ≡ some f n
any_below f n = any_from f 0 n ∙ ap (λ g. some g n) (λ t k. f (zero_add k t))
  where
    zero_add : (k : ℕ) → 0 + k ≡ k
    zero_add k = omega arith
