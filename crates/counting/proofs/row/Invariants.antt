use mathlib.Core.Path.{◌≡◌}
use Rattle.charts.specs.Sequences as Sequences
use Rattle.counting.proofs.row.Given as goal

abbrev pub invariant-loop-length : goal.invariant-loop-length
invariant-loop-length l = l.row ≡ Sequences.row l._length
