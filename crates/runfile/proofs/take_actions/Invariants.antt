use mathlib.Core.Path.{◌≡◌}
use Prim.Native.Nat.{◌*◌, ◌-◌}
use lib.ListN.{length, take, drop}
use lib.Seq.{sets}
use Rattle.charts.specs.Layout.{actions_of}
use Rattle.runfile.specs.Block.{zeros}
use Rattle.runfile.specs.Write.{first_refusal}
use Rattle.runfile.proofs.Traces.{Sums}
use Rattle.runfile.proofs.take_actions.Given as goal

abbrev pub invariant-loop-k : goal.invariant-loop-k
invariant-loop-k l = (length l.block ≡ 512)
    × (first_refusal l.n (actions_of l.count l.records) ≡ first_refusal l.n (actions_of (l.count - l.k) (drop (16 * l.k) l.records)))
    × (l.block ≡ sets (zeros 512) 14 (take (16 * l.k) l.records))
    × Sums l.records l.k l.sum l.sums
