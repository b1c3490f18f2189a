use mathlib.Core.Path.{◌≡◌}
use Prim.Native.Nat.{◌+◌, ◌*◌}
use lib.ListN.{drop}
use Rattle.runfile.specs.Block.{weigh, total}
use Rattle.runfile.proofs.columns.Given as goal

abbrev pub invariant-loop-c : goal.invariant-loop-c
invariant-loop-c l = (16 * total l.u + weigh 0 l.t ≡ l.sum + (16 * total (drop l.c l.u) + weigh l.c (drop l.c l.t)))
