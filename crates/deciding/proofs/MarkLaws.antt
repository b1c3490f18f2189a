-- Marks read, stored and cleared in an array. Assumes nothing.
use Rattle.std.proofs.Common.{◌≡◌, refl, sym, ap, ap₂, ◌∙◌, Bool, true, false, cond, ◌&&◌, ◌||◌, not, List, ◌++◌, ℕ, zero, suc, ◌+◌, ◌-◌, ◌<◌, ◌≤◌, eqb, ltb, min, arith, length, set, drop, replicate, Option, Some, None}
use mathlib.Core.Path.{fun_ext}
use borrow.Author.Tests.{eqb-true, ne_eqb, ltb-true, ltb-false}
use Rattle.std.specs.Option.{MatchOption, unwrap_or}
use Rattle.std.specs.List.{list_any, range_with_len}
use Rattle.std.proofs.Math.ListN.{get_or-eq_default}
use Rattle.std.proofs.lemmas.List.{length-replicate, get_or-replicate, get_or_append_left, get_or-append_right, get_or-drop}
use Rattle.charts.specs.State.{some, others, upd, lowest}
use Rattle.charts.proofs.Tools.{and_yes, pick, by_test, upd_same, some_at, some_agree, some-none, lowest_none}
use Rattle.charts.proofs.Views.{get_d_set}
use Rattle.charts.specs.View.{mark}
use Rattle.deciding.specs.Marks.{unmarked, first_marked}

pub mark_set : (l : List Bool) (i : ℕ) (a : Bool) → i < length l → mark (set l i a) ≡ upd (mark l) i a
mark_set l i a h = fun_ext (get_d_set l i a false h)

-- in an array of 63 marks no node from 63 on is marked
past : (l : List Bool) (k : ℕ) → length l ≡ 63 → 63 ≤ k → mark l k ≡ false
past l k s h = get_or-eq_default l false (omega arith)

off : (l : List Bool) (i k : ℕ) → length l ≡ 63 → 63 ≤ k → upd (mark l) i false k ≡ false
off l i k s h = pick (λ b. b ≡ false) (eqb k i) false (mark l k) refl (past l k s h)

-- where no node from m on is marked, looking at the first m is looking at all
some_past : (f : ℕ → Bool) (m n : ℕ) → ((k : ℕ) → m ≤ k → f k ≡ false) → m ≤ n → some f n ≡ some f m
some_past f m zero h g = let e : m ≡ 0 = omega arith in ap (some f) (sym e)
some_past f m (suc n) h g = by_test (ltb n m)
    (λ t. let l = ltb-true n m t in let e : suc n ≡ m = omega arith in ap (some f) e)
    (λ t. let l = ltb-false n m t in ap (λ b. b || some f n) (h n l) ∙ some_past f m n h l)

lowest_past : (f : ℕ → Bool) (m n d : ℕ) → ((k : ℕ) → m ≤ k → f k ≡ false) → m ≤ n → lowest f n d ≡ lowest f m d
lowest_past f m zero d h g = let e : m ≡ 0 = omega arith in ap (λ k. lowest f k d) (sym e)
lowest_past f m (suc n) d h g = by_test (ltb n m)
    (λ t. let l = ltb-true n m t in let e : suc n ≡ m = omega arith in ap (λ k. lowest f k d) e)
    (λ t. let l = ltb-false n m t in ap (λ b. lowest f n (cond b n d)) (h n l) ∙ lowest_past f m n d h l)

some_first : (f : ℕ → Bool) (m n : ℕ) → m ≡ min n 63 → ((k : ℕ) → 63 ≤ k → f k ≡ false) → some f m ≡ some f n
some_first f m n e h = by_test (ltb n 63)
    (λ t. let l = ltb-true n 63 t in let z : m ≡ n = omega arith in ap (some f) z)
    (λ t. let l = ltb-false n 63 t in sym (some_past f m n (λ k g. h k (omega arith)) (omega arith)))

lowest_first : (f : ℕ → Bool) (m n d : ℕ) → m ≡ min n 63 → ((k : ℕ) → 63 ≤ k → f k ≡ false) → lowest f m d ≡ lowest f n d
lowest_first f m n d e h = by_test (ltb n 63)
    (λ t. let l = ltb-true n 63 t in let z : m ≡ n = omega arith in ap (λ k. lowest f k d) z)
    (λ t. let l = ltb-false n 63 t in sym (lowest_past f m n d (λ k g. h k (omega arith)) (omega arith)))

-- a search by `any` over the numbers below n
or_swap : (a b c : Bool) → a || (b || c) ≡ b || (a || c)
or_swap true true c = refl
or_swap true false c = refl
or_swap false b c = refl

some_front : (f : ℕ → Bool) (n : ℕ) → some f (suc n) ≡ f 0 || some (λ k. f (suc k)) n
some_front f zero = refl
some_front f (suc n) = ap (λ b. f (suc n) || b) (some_front f n) ∙ or_swap (f (suc n)) (f 0) _

any_below : (f : ℕ → Bool) (a n : ℕ) → list_any f (range_with_len a n) ≡ some (λ k. f (a + k)) n
any_below f a zero = refl
any_below f a (suc n) =
    let z : a + 0 ≡ a = omega arith in
    ap₂ (λ x y. f x || y) (sym z) (any_below f (a + 1) n ∙ some_agree (λ k. f (a + 1 + k)) (λ k. f (a + suc k)) n (λ k l. let e : a + 1 + k ≡ a + suc k = omega arith in ap f e))
    ∙ sym (some_front (λ k. f (a + k)) n)

pub any_other : (l : List Bool) (i m n : ℕ) → length l ≡ 63 → m ≡ min n 63 → list_any (λ k. not (eqb k i) && mark l k) (range_with_len 0 m) ≡ others (mark l) i n
any_other l i m n s e =
    any_below (λ k. not (eqb k i) && mark l k) 0 m
    ∙ some_agree (λ k. not (eqb (0 + k) i) && mark l (0 + k)) (upd (mark l) i false) m (λ k h. let z : 0 + k ≡ k = omega arith in rw z (same (eqb k i) (mark l k)))
    ∙ some_first (upd (mark l) i false) m n e (λ k h. off l i k s h)
  where
    same : (a b : Bool) → not a && b ≡ cond a false b
    same true b = refl
    same false b = refl

-- the lowest of the numbers below n, found by `find`
lowest_is : (f : ℕ → Bool) (n i d : ℕ) → i < n → f i ≡ true → ((k : ℕ) → k < i → f k ≡ false) → lowest f n d ≡ i
lowest_is f zero i d h y w = absurd (omega arith)
lowest_is f (suc n) i d h y w = by_test (ltb i n)
    (λ t. lowest_is f n i _ (ltb-true i n t) y w)
    (λ t. let l = ltb-false i n t in let e : n ≡ i = omega arith in
    rw (e, y) (lowest_none f i i (some-none f i w)))

pub found_lowest : (l : List Bool) (m n : ℕ) (r : Option ℕ) → length l ≡ 63 → m ≡ min n 63 →
    MatchOption r ((k : ℕ) → 0 ≤ k → k < m → mark l k ≡ false) (λ i. (0 ≤ i) × (i < m) × (mark l i ≡ true) × ((k : ℕ) → 0 ≤ k → k < i → mark l k ≡ false)) →
    r ≡ first_marked (mark l) n
found_lowest l m n None s e h =
    let z : some (mark l) n ≡ false = sym (some_first (mark l) m n e (λ k g. past l k s g)) ∙ some-none (mark l) m (λ k g. h k (omega arith) g) in rw z
found_lowest l m n (Some i) s e h =
    let z : some (mark l) n ≡ true = sym (some_first (mark l) m n e (λ k g. past l k s g)) ∙ some_at (mark l) m i h.1 h.2 in
    let w : lowest (mark l) n 0 ≡ i = sym (lowest_first (mark l) m n 0 e (λ k g. past l k s g)) ∙ lowest_is (mark l) m i 0 h.1 h.2 (λ k g. h.3 k (omega arith) g) in
    rw (z, w)

pub first_or : (f : ℕ → Bool) (n : ℕ) → unwrap_or (first_marked f n) 0 ≡ lowest f n 0
first_or f n = by_test (some f n) (λ t. rw t) (λ t. rw (t, lowest_none f n 0 t))

-- once the mark of node i is set to `own`
pub some_own : (f : ℕ → Bool) (i n : ℕ) (own : Bool) → some (upd f i own) n ≡ (own && ltb i n || others f i n)
some_own f i n true = by_test (ltb i n)
    (λ t. rw t (some_at (upd f i true) n i (ltb-true i n t) (upd_same f i true)))
    (λ t. let l = ltb-false i n t in rw t (some_agree (upd f i true) (upd f i false) n (λ k h. rw (ne_eqb k i (λ e. omega arith)))))
some_own f i n false = refl

-- no node is 63
pub others_none : (l : List Bool) (n : ℕ) → length l ≡ 63 → others (mark l) 63 n ≡ some (mark l) n
others_none l n s = some_agree (upd (mark l) 63 false) (mark l) n (λ k h. by_test (eqb k 63)
    (λ t. let e : k ≡ 63 = eqb-true k 63 t in rw t (sym (past l k s (omega arith))))
    (λ t. rw t))

gone : (b : Bool) → b && false ≡ false
gone true = refl
gone false = refl

-- clearing the marks of the nodes below n
pub unmarked_front : (l : List Bool) (n : ℕ) → n ≤ length l → mark (replicate n false ++ drop n l) ≡ unmarked true n (mark l)
unmarked_front l n h = fun_ext at
  where
    at : (k : ℕ) → mark (replicate n false ++ drop n l) k ≡ mark l k && not (ltb k n)
    at k = by_test (ltb k n)
        (λ t. let g = ltb-true k n t in rw (get_or_append_left (replicate n false) (drop n l) false k (rw (length-replicate n false) g), get_or-replicate n k false false g, t) (sym (gone (mark l k))))
        (λ t. let g = ltb-false k n t in let e : n + (k - n) ≡ k = omega arith in
        rw (get_or-append_right (replicate n false) (drop n l) n k false (length-replicate n false) g, get_or-drop n l (k - n) false, e, t) (sym (and_yes (mark l k))))
