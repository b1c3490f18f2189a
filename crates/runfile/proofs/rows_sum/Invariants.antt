use mathlib.Core.Path.{◌≡◌}
use Prim.Native.Nat.{◌+◌, ◌*◌, ◌-◌}
use lib.ListN.{length}
use lib.Seq.{slice}
use Rattle.runfile.specs.Block.{weigh, total}
use Rattle.runfile.proofs.rows_sum.Given as goal

abbrev pub invariant-loop-k : goal.invariant-loop-k
invariant-loop-k l = (length l.t ≡ 16)
    × (length l.u ≡ 16)
    × (total l.t ≡ total (slice (496 - 16 * l.k) 496 l.block))
    × (16 * total l.u + weigh 0 l.t ≡ weigh 0 (slice (496 - 16 * l.k) 496 l.block))
