-- The next row, cell by cell of the table. Assumes nothing.
use mathlib.Core.Path.{◌≡◌, refl, sym, ap, ◌∙◌}
use mathlib.Core.Bool.{Bool, true, false, cond}
use mathlib.Core.List.{List}
use Prim.Native.Nat.{ℕ, zero, suc, ◌+◌, ◌-◌, ◌*◌, ◌/◌, ◌%◌, ◌<◌, ◌≤◌}
use native.Mathlib.Numerals.{add-one}
use native.Mathlib.Omega.{arith}
use lib.Dec.{eqb}
use lib.ListN.{length, get_or, set, replicate, length-set, get_or-replicate}
use lib.Seq.{ext_get_or, get_or-set_same, get_or-set_other}
use borrow.Author.Tests.{eqb-true, eqb-false}
use Rattle.charts.specs.State.{total}
use Rattle.charts.specs.Table.{entry}
use Rattle.charts.specs.Sequences.{next, next_row}
use Rattle.charts.proofs.Sums.{total_agree}
use Rattle.charts.proofs.Sequences.{entry_lt, row_at}
use Rattle.link.specs.Reading.{place_in, cells}
use Rattle.link.proofs.Reading.{next_place}
use Rattle.counting.specs.Rows.{place_at, sum_of}

-- the number that the table holds for cell i names where it leads
pub leads_to : (i : ℕ) → i < 350 → place_in (get_or cells i 0) ≡ place_at i
leads_to i h =
    let e : 14 * (i / 14) + i % 14 ≡ i = omega arith in
    ap (λ j. place_in (get_or cells j 0)) (sym e) ∙ next_place (i / 14) (i % 14) (omega arith) (omega arith)

-- a sum over the cells of n modes is one over the modes
total_cat : (f : ℕ → ℕ) (m n : ℕ) → total f (m + n) ≡ total f m + total (λ k. f (m + k)) n
total_cat f m zero = let e : m + 0 ≡ m = omega arith in ap (total f) e ∙ omega arith
total_cat f m (suc n) = let e : m + suc n ≡ suc (m + n) = omega arith in ap (total f) e ∙ omega (arith, total_cat f m n)

by_modes : (f : ℕ → ℕ → ℕ) (n : ℕ) → total (λ i. f (i / 14) (i % 14)) (14 * n) ≡ total (λ p. total (f p) 14) n
by_modes f zero = refl
by_modes f (suc n) =
    let e : 14 * suc n ≡ 14 * n + 14 = omega arith in
    ap (total (λ i. f (i / 14) (i % 14))) e
    ∙ total_cat (λ i. f (i / 14) (i % 14)) (14 * n) 14
    ∙ ap (λ x. x + total (λ c. f ((14 * n + c) / 14) ((14 * n + c) % 14)) 14) (by_modes f n)
    ∙ ap (λ x. total (λ p. total (f p) 14) n + x) (total_agree _ _ 14 own)
  where
    own : (c : ℕ) → c < 14 → f ((14 * n + c) / 14) ((14 * n + c) % 14) ≡ f n c
    own c h =
        let p : (14 * n + c) / 14 ≡ n = omega arith in
        let q : (14 * n + c) % 14 ≡ c = omega arith in
        rw (p, q) refl

-- sums of more, and of more of them
total_mono : (u v : ℕ → ℕ) (n : ℕ) → ((k : ℕ) → u k ≤ v k) → total u n ≤ total v n
total_mono u v zero h = omega arith
total_mono u v (suc n) h = omega (arith, total_mono u v n h, h n)

total_first : (u : ℕ → ℕ) (m n : ℕ) → m ≤ n → total u m ≤ total u n
total_first u m n h = let e : n ≡ m + (n - m) = omega arith in rw e (omega (arith, total_cat u m (n - m)))

-- what cell i takes to q of a row
abbrev pub taken : List ℕ → ℕ → ℕ → ℕ
taken row q i = cond (eqb (place_at i) q) (get_or row (i / 14) 0) 0

-- the next row once the first i cells have taken what their modes have
pub record Taken (row after : List ℕ) (i : ℕ) : Type 0 where
  pub size : length after ≡ 25
  pub each : (q : ℕ) → q < 25 → get_or after q 0 ≡ total (taken row q) i

pub none_taken : (row : List ℕ) → Taken row (replicate 25 0) 0
none_taken row = record { size = refl; each = λ q h. get_or-replicate 25 q 0 0 h }

-- a list with x added at p
stored : (l : List ℕ) (p q x : ℕ) (b : Bool) → eqb p q ≡ b → q < length l → get_or (set l p (get_or l p 0 + x)) q 0 ≡ get_or l q 0 + cond b x 0
stored l p q x true e h = let same : p ≡ q = eqb-true p q e in rw same (get_or-set_same l q (get_or l q 0 + x) 0 h)
stored l p q x false e h = get_or-set_other l p q (get_or l p 0 + x) 0 (λ z. eqb-false p q e (sym z)) ∙ omega arith

pub one_more : (row after : List ℕ) (i : ℕ) → Taken row after i → Taken row (set after (place_at i) (get_or after (place_at i) 0 + get_or row (i / 14) 0)) (i + 1)
one_more row after i t =
    let x = get_or row (i / 14) 0 in
    record {
      size = length-set after (place_at i) (get_or after (place_at i) 0 + x) ∙ t.size;
      each = λ q h. rw (add-one i) (stored after (place_at i) q x (eqb (place_at i) q) refl (rw t.size h) ∙ ap (λ y. y + taken row q i) (t.each q h));
    }

-- all 350 cells together make the next row
pub all_taken : (row after : List ℕ) → Taken row after 350 → after ≡ next_row row
unfolding next_row
all_taken row after t =
    ext_get_or 0 after (next_row row) t.size
    (λ q l. let h : q < 25 = rw t.size at l in t.each q h ∙ by_modes (λ p c. cond (eqb (entry p c).place q) (get_or row p 0) 0) 25 ∙ sym (row_at (next (λ p. get_or row p 0)) q h))

-- no count is more than all that the modes have, 14 times
total_times : (f : ℕ → ℕ) (n : ℕ) → total (λ p. total (λ c. f p) 14) n ≡ 14 * total f n
total_times f zero = refl
total_times f (suc n) = omega (arith, total_times f n)

all_fit : (f : ℕ → ℕ) (n i x : ℕ) → i < 14 * n → x ≤ total (λ j. f (j / 14)) i → x + f (i / 14) ≤ 14 * total f n
all_fit f n i x h l = omega (arith, total_first (λ j. f (j / 14)) (suc i) (14 * n) h, by_modes (λ p c. f p) n, total_times f n)

pub sum_fits : (row after : List ℕ) (i : ℕ) → Taken row after i → i < 350 → get_or after (place_at i) 0 + get_or row (i / 14) 0 ≤ 14 * sum_of row
unfolding sum_of
sum_fits row after i t h = all_fit (λ p. get_or row p 0) 25 i (get_or after (place_at i) 0) h (rw (t.each (place_at i) (entry_lt (i / 14) (i % 14))) own)
  where
    at_most : (b : Bool) (x : ℕ) → cond b x 0 ≤ x
    at_most true x = omega arith
    at_most false x = omega arith

    own : total (taken row (place_at i)) i ≤ total (λ j. get_or row (j / 14) 0) i
    own = total_mono (taken row (place_at i)) (λ j. get_or row (j / 14) 0) i (λ j. at_most (eqb (place_at j) (place_at i)) (get_or row (j / 14) 0))
