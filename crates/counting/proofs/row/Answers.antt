use mathlib.Core.Path.{◌≡◌, refl, sym, ◌∙◌}
use native.Mathlib.Numerals.{add-one}
use native.Mathlib.Omega.{arith}
use borrow.Author.Tests.{lt-leb}
use Rattle.charts.proofs.Sequences.{follows, row_0}
use Rattle.counting.specs.Rows.{row_made}
use Rattle.counting.proofs.Rows.{row_small, made}
use Rattle.counting.proofs.row.Goals as goal

pub returns-then-k-gt-LONGEST : goal.returns-then-k-gt-LONGEST
unfolding row_made
returns-then-k-gt-LONGEST c = rw (lt-leb c.args.k 16 (omega (arith, c.if-k-gt-LONGEST.true))) refl

pub loop-length-init : goal.loop-length-init
loop-length-init c = sym row_0

pub next_row-row-requires : goal.next_row-row-requires
next_row-row-requires c = record { table_value = c.table-table.ensures; row_bound = rw c.loop-length.invariant (row_small c.loop-length._length (omega (arith, c.loop-length-test.true, c.if-k-gt-LONGEST.false))) }

pub loop-length-preserved : goal.loop-length-preserved
loop-length-preserved c = c.next_row-row.ensures ∙ rw (add-one c.loop-length._length, c.loop-length.invariant) (sym (follows c.loop-length._length))

pub returns : goal.returns
returns c = let all : c.loop-length._length ≡ c.args.k = omega (arith, c.loop-length.auto._length-end, c.loop-length-test.false) in
    rw (made c.args.k (omega (arith, c.if-k-gt-LONGEST.false)), ← all) c.loop-length.invariant
