use mathlib.Core.Path.{◌≡◌}
use native.Mathlib.Omega.{arith}
use Rattle.counting.proofs.Cells.{none_taken, one_more, all_taken, sum_fits}
use Rattle.counting.proofs.next_row.Goals as goal

pub loop-i-init : goal.loop-i-init
loop-i-init c = none_taken _

pub place_at-requires : goal.place_at-requires
place_at-requires c = record { table_value = c.requires.table_value; i_bound = omega (arith, c.loop-i-test.true) }

pub overflow_add-next : goal.overflow_add-next
overflow_add-next c = let fits = sum_fits c.args.row c.loop-i.next c.loop-i.i c.loop-i.invariant (omega (arith, c.loop-i-test.true)) in
    rw c.place_at.ensures.value (omega (arith, fits, c.requires.row_bound))

pub loop-i-preserved : goal.loop-i-preserved
loop-i-preserved c = rw c.place_at.ensures.value (one_more c.args.row c.loop-i.next c.loop-i.i c.loop-i.invariant)

pub returns : goal.returns
returns c = let all : c.loop-i.i ≡ 350 = omega (arith, c.loop-i.auto.i-end, c.loop-i-test.false) in
    all_taken c.args.row c.loop-i.next (rw all at c.loop-i.invariant)
