use mathlib.Core.Path.{◌≡◌}
use Prim.Native.Nat.{◌+◌, ◌*◌, ◌≤◌}
use Rattle.charts.specs.View.{view}
use Rattle.bus.specs.Asking.{askers_in}
use Rattle.player.specs.Printed.{actions_in}
use Rattle.player.specs.Feeding.{part_of}
use Rattle.player.proofs.Loop.{left, Same}
use Rattle.player.proofs.block.play_actions.Given as goal

abbrev pub invariant-loop-k : goal.invariant-loop-k
invariant-loop-k l = (l.end ≤ l.at + 64 * l.k)
    × Same l.initial.out l.at (part_of (actions_in l.count l.piece) (view l.initial.state) l.first) l.out l.end (part_of (left l.count l.k l.piece) (view l.state) (l.first + l.k))
    × (l.asked ≡ askers_in l.state.nodes l.state.n)
