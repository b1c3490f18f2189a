use mathlib.Core.Path.{◌≡◌}
use Prim.Native.Nat.{◌≤◌}
use lib.ListN.{length, drop}
use Rattle.runfile.specs.Block.{count_in}
use Rattle.runfile.proofs.Traces.{Sums}
use Rattle.runfile.proofs.action_sums.Given as goal

abbrev pub invariant-loop-k : goal.invariant-loop-k
invariant-loop-k l = (count_in l.block ≤ 31) × (length l.block ≡ 512) × Sums (drop 14 l.block) l.k l.so_far l.sums
