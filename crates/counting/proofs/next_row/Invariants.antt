use Rattle.counting.proofs.Cells.{Taken}
use Rattle.counting.proofs.next_row.Given as goal

abbrev pub invariant-loop-i : goal.invariant-loop-i
invariant-loop-i l = Taken l.row l.next l.i
