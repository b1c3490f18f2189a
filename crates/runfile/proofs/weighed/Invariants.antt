use mathlib.Core.Path.{◌≡◌}
use Prim.Native.Nat.{◌+◌}
use lib.ListN.{drop}
use Rattle.runfile.specs.Block.{weigh}
use Rattle.runfile.proofs.weighed.Given as goal

abbrev pub invariant-loop-i : goal.invariant-loop-i
invariant-loop-i l = (weigh l.at l.bytes ≡ l.sum + weigh (l.at + l.i) (drop l.i l.bytes))
