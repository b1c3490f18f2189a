use mathlib.Core.Path.{◌≡◌}
use lib.ListN.{length}
use Rattle.runfile.specs.Block.{plus}
use Rattle.runfile.proofs.Sums.{added}
use Rattle.runfile.proofs.add_row.Given as goal

abbrev pub invariant-loop-c : goal.invariant-loop-c
invariant-loop-c l = (length l.t ≡ 16) × (length l.u ≡ 16) × (plus l.initial.t l.row ≡ added l.c l.t l.row) × (plus l.initial.u l.initial.t ≡ added l.c l.u l.t)
