-- The rows that are made. Assumes nothing.
use mathlib.Core.Path.{◌≡◌, refl, ap, ◌∙◌}
use mathlib.Core.Logic.{◌≢◌}
use Prim.Native.Nat.{ℕ, ◌<◌, ◌≤◌, ◌^◌}
use native.Mathlib.Nat.{one-le-pow, pow-le-pow_right}
use native.Mathlib.Omega.{arith}
use lib.ListN.{get_or, replicate}
use lib.Dec.{lit<}
use borrow.Author.Tests.{le-leb}
use Rattle.charts.specs.Sequences.{ending, row}
use Rattle.charts.proofs.Sums.{total_agree}
use Rattle.charts.proofs.Sequences.{adds_up, row_at}
use Rattle.counting.specs.Rows.{sum_of, row_made}

pub row_sum : (k : ℕ) → sum_of (row k) ≡ 14 ^ k
unfolding sum_of row
row_sum k = total_agree (λ p. get_or (row k) p 0) (ending k) 25 (λ p h. row_at (ending k) p h) ∙ adds_up k

-- what next_row asks for: sequences of fewer than 16 classes have room for one more
pub row_small : (k : ℕ) → k < 16 → sum_of (row k) ≤ 14 ^ 15
row_small k h = rw (row_sum k) (pow-le-pow_right {n = 14} (lit< tt) {i = k} {j = 15} (omega arith))

pub made : (k : ℕ) → k ≤ 16 → row_made k ≡ row k
unfolding row_made
made k h = rw (le-leb k 16 h) refl

-- what is answered past 16 is no row
pub no_row : (k : ℕ) → row k ≢ replicate 25 0
unfolding sum_of
no_row k e = let none : sum_of (row k) ≡ 0 = ap sum_of e in absurd (omega (arith, row_sum k, one-le-pow k 14 (lit< tt)))
