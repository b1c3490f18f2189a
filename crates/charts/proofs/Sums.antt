-- Sums, most of them over the nodes, and the receivers left of a delivery.
use mathlib.Core.Path.{◌≡◌, refl, sym, ap, subst, ◌∙◌}
use mathlib.Core.Logic.{◌≢◌, ◌⊎◌, inl, inr}
use mathlib.Core.Bool.{Bool, true, false, cond, ◌||◌}
use Prim.Native.Nat.{ℕ, zero, suc, ◌<◌, ◌≤◌, ◌+◌, ◌-◌, ◌*◌}
use native.Mathlib.Omega.{arith}
use lib.Dec.{eqb, ltb}
use borrow.Author.Tests.{eqb-true, eqb-false, ltb-true, ltb-false, lt-ltb, le-ltb, leb-true}
use Rattle.charts.specs.declared.Mode.{Mode}
use Rattle.charts.specs.declared.Cell.{Cell}
use Rattle.charts.specs.Modes.{place_of, is_asked}
use Rattle.charts.specs.State.{upd, some, askers, count, total}
use Rattle.charts.specs.Actions.{first_other, next_other}
use Rattle.charts.proofs.Tools.{pick_by, by_test, upd_same, upd_other, pick}
use Rattle.charts.specs.Demand.{one}
use Rattle.charts.proofs.Places.{law_mode}
use Rattle.charts.proofs.Stages.{weigh, weights, left, undecided}

pub total_le : (v : ℕ → ℕ) (n : ℕ) → ((k : ℕ) → v k ≤ 2) → total v n ≤ 2 * n
total_le v zero h = omega arith
total_le v (suc n) h = omega (arith, total_le v n h, h n)

-- where one of them is 0
pub total_gap : (v : ℕ → ℕ) (n w : ℕ) → ((k : ℕ) → v k ≤ 2) → w < n → v w ≡ 0 → total v n + 2 ≤ 2 * n
total_gap v zero w h l e = absurd (omega arith)
total_gap v (suc n) w h l e = go (eqb w n) refl (total_gap v n w h)
  where
    go : (b : Bool) → eqb w n ≡ b → (w < n → v w ≡ 0 → total v n + 2 ≤ 2 * n) → total v n + v n + 2 ≤ 2 * suc n
    go true q r = let z : v n ≡ 0 = subst (λ y. v y ≡ 0) (eqb-true w n q) e in omega (arith, total_le v n h)
    go false q r = let d : w ≢ n = eqb-false w n q in omega (arith, r (omega arith) e, h n)

pub total_agree : (u v : ℕ → ℕ) (n : ℕ) → ((k : ℕ) → k < n → u k ≡ v k) → total u n ≡ total v n
total_agree u v zero h = refl
total_agree u v (suc n) h = omega (arith, total_agree u v n (λ k l. h k (omega arith)), h n (omega arith))

-- two functions that differ at i alone
total_diff : (u v : ℕ → ℕ) (i n : ℕ) → ((k : ℕ) → k < n → k ≢ i → u k ≡ v k) → i < n → total u n + v i ≡ total v n + u i
total_diff u v i zero h l = absurd (omega arith)
total_diff u v i (suc n) h l = go (eqb n i) refl (total_diff u v i n (λ k z. h k (omega arith)))
  where
    below : (k : ℕ) → k < n → n ≡ i → k ≢ i
    below k l e z = absurd (omega arith)

    go : (b : Bool) → eqb n i ≡ b → (i < n → total u n + v i ≡ total v n + u i) → total u n + u n + v i ≡ total v n + v n + u i
    go true q r =
        let e : n ≡ i = eqb-true n i q in
        omega (arith, ap u e, ap v e, total_agree u v n (λ k l. h k (omega arith) (below k l e)))
    go false q r = let d : n ≢ i = eqb-false n i q in omega (arith, r (omega arith), h n (omega arith) d)

pub total_none : (v : ℕ → ℕ) (n : ℕ) → ((k : ℕ) → k < n → v k ≡ 0) → total v n ≡ 0
total_none v zero h = refl
total_none v (suc n) h = omega (arith, total_none v n (λ k l. h k (omega arith)), h n (omega arith))

-- sums of sums
pub total-add : (u v : ℕ → ℕ) (n : ℕ) → total (λ k. u k + v k) n ≡ total u n + total v n
total-add u v zero = refl
total-add u v (suc n) = omega (arith, total-add u v n)

pub total_swap : (f : ℕ → ℕ → ℕ) (n m : ℕ) → total (λ i. total (f i) m) n ≡ total (λ j. total (λ i. f i j) n) m
total_swap f zero m = sym (total_none (λ j. 0) m (λ k z. refl))
total_swap f (suc n) m = ap (λ x. x + total (f n) m) (total_swap f n m) ∙ sym (total-add (λ j. total (λ i. f i j) n) (f n) m)

-- where all but i are 0
pub total-one : (v : ℕ → ℕ) (i n : ℕ) → i < n → ((k : ℕ) → k < n → k ≢ i → v k ≡ 0) → total v n ≡ v i
total-one v i n l h = omega (arith, total_diff v (λ k. 0) i n h l, total_none (λ k. 0) n (λ k z. refl))

-- where all but one are 0
pub total_sole : (v : ℕ → ℕ) (n who : ℕ) → ((k : ℕ) → v k ≤ 2) → ((k : ℕ) → k < n → k ≢ who → v k ≡ 0) → total v n ≤ 2
total_sole v n who h z = by_test (ltb who n)
    (λ e. omega (arith, total-one v who n (ltb-true who n e) z, h who))
    (λ e. let l : n ≤ who = ltb-false who n e in omega (arith, total_none v n (λ k o. z k o (λ q. absurd (omega arith)))))

pub weigh_le : (m : Mode) → weigh (place_of m) ≤ 2
weigh_le m = leb-true _ 2 (law_mode (λ p. lib.Dec.leb (weigh p) 2) tt m)

-- a sum over the cells after another cell at i: of the weights, and of the nodes that are Asked
sum_upd : (h : Cell → ℕ) (f : ℕ → Cell) (i : ℕ) (c : Cell) (n : ℕ) → i < n → total (λ k. h (upd f i c k)) n + h (f i) ≡ total (λ k. h (f k)) n + h c
sum_upd h f i c n l =
    total_diff (λ k. h (upd f i c k)) (λ k. h (f k)) i n (λ k z q. ap h (upd_other f i c k q)) l
    ∙ ap (λ d. total (λ k. h (f k)) n + h d) (upd_same f i c)

pub weights_upd : (f : ℕ → Cell) (i : ℕ) (c : Cell) (n : ℕ) → i < n → total (weights (upd f i c)) n + weights f i ≡ total (weights f) n + weigh (place_of c.mode)
weights_upd f i c n l = sum_upd (λ d. weigh (place_of d.mode)) f i c n l

-- a count is a sum of ones and zeros
count_total : (f : ℕ → Bool) (n : ℕ) → count f n ≡ total (λ k. one (f k)) n
count_total f zero = refl
count_total f (suc n) = ap (λ x. x + one (f n)) (count_total f n)

pub undecided_upd : (f : ℕ → Cell) (i : ℕ) (c : Cell) (n : ℕ) → i < n → undecided (upd f i c) n + one (is_asked (f i).mode) ≡ undecided f n + one (is_asked c.mode)
undecided_upd f i c n l = omega (arith, count_total (askers (upd f i c)) n, count_total (askers f) n, sum_upd (λ d. one (is_asked d.mode)) f i c n l)

pub count-le : (f : ℕ → Bool) (n : ℕ) → count f n ≤ n
count-le f zero = omega arith
count-le f (suc n) = omega (arith, count-le f n, pick (λ x. x ≤ 1) (f n) 1 0 (omega arith) (omega arith))

-- none is counted where none is
pub count_some : (f : ℕ → Bool) (n : ℕ) → ltb 0 (count f n) ≡ some f n
count_some f zero = refl
count_some f (suc n) = go (f n) (count_some f n)
  where
    go : (b : Bool) → ltb 0 (count f n) ≡ some f n → ltb 0 (count f n + cond b 1 0) ≡ b || some f n
    go true e = lt-ltb 0 (count f n + 1) (omega arith)
    go false e = let z : count f n + 0 ≡ count f n = omega arith in ap (λ x. ltb 0 x) z ∙ e

-- the next receiver after j
pub next_is : (w j : ℕ) → ((suc j ≡ w) × (next_other w j ≡ suc (suc j))) ⊎ ((suc j ≢ w) × (next_other w j ≡ suc j))
next_is w j = pick_by (λ x. ((suc j ≡ w) × (x ≡ suc (suc j))) ⊎ ((suc j ≢ w) × (x ≡ suc j))) (eqb (suc j) w) _ _ (λ e. inl (eqb-true (suc j) w e, refl)) (λ e. inr (eqb-false (suc j) w e, refl))

pub next_apart : (w j : ℕ) → next_other w j ≢ w
next_apart w j = go (next_is w j)
  where
    go : ((suc j ≡ w) × (next_other w j ≡ suc (suc j))) ⊎ ((suc j ≢ w) × (next_other w j ≡ suc j)) → next_other w j ≢ w
    go (inl (e, z)) q = absurd (omega arith)
    go (inr (e, z)) q = e (sym z ∙ q)

-- those who heard before the next receiver: j and those before it
pub next_past : (w j k : ℕ) → k < next_other w j → k ≢ j → k ≢ w → k < j
next_past w j k l p q = go (next_is w j)
  where
    go : ((suc j ≡ w) × (next_other w j ≡ suc (suc j))) ⊎ ((suc j ≢ w) × (next_other w j ≡ suc j)) → k < j
    go (inl (e, y)) = omega arith
    go (inr (e, y)) = omega arith

pub next_past_j : (w j : ℕ) → j < next_other w j
next_past_j w j = go (next_is w j)
  where
    go : ((suc j ≡ w) × (next_other w j ≡ suc (suc j))) ⊎ ((suc j ≢ w) × (next_other w j ≡ suc j)) → j < next_other w j
    go (inl (e, y)) = omega arith
    go (inr (e, y)) = omega arith

pub left_pos : (w j n : ℕ) → w < n → j < n → j ≢ w → 0 < left w j n
left_pos w j n h l q = pick_by (λ x. 0 < x) (ltb w j) _ _ (λ e. omega arith) (λ e. omega (arith, ltb-false w j e))

pub left_lt : (w j n : ℕ) → 1 ≤ n → left w j n + 1 ≤ n
left_lt w j n h = pick_by (λ x. x + 1 ≤ n) (ltb w j) _ _ (λ e. omega (arith, ltb-true w j e)) (λ e. omega arith)

-- one receiver fewer
pub left_next : (w j n : ℕ) → j < n → w < n → j ≢ w → next_other w j < n → left w (next_other w j) n < left w j n
left_next w j n l h q u = go (next_is w j)
  where
    go : ((suc j ≡ w) × (next_other w j ≡ suc (suc j))) ⊎ ((suc j ≢ w) × (next_other w j ≡ suc j)) → left w (next_other w j) n < left w j n
    go (inl (e, z)) = rw (lt-ltb w (next_other w j) (omega arith), le-ltb w j (omega arith)) (omega arith)
    go (inr (e, z)) = by (ltb w j) refl
      where
        by : (b : Bool) → ltb w j ≡ b → left w (next_other w j) n < cond b (n - j) (n - suc j)
        by true x = let y : w < j = ltb-true w j x in rw (lt-ltb w (next_other w j) (omega arith)) (omega arith)
        by false x = let y : j ≤ w = ltb-false w j x in rw (le-ltb w (next_other w j) (omega arith)) (omega arith)

-- the first receiver
pub first-lt : (i n : ℕ) → 2 ≤ n → first_other i < n
first-lt i n h = pick_by (λ x. x < n) (eqb i 0) _ _ (λ e. omega arith) (λ e. omega arith)

pub first_apart : (i : ℕ) → first_other i ≢ i
first_apart i = pick_by (λ x. x ≢ i) (eqb i 0) _ _ (λ e q. absurd (omega (arith, eqb-true i 0 e))) (λ e q. eqb-false i 0 e (sym q))

pub first-none : (i k : ℕ) → k < first_other i → k ≢ i → ⊥
first-none i k = pick_by (λ x. k < x → k ≢ i → ⊥) (eqb i 0) _ _ (λ e l q. absurd (omega (arith, eqb-true i 0 e))) (λ e l q. absurd (omega arith))
