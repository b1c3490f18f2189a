use mathlib.Core.Path.{◌≡◌}
use Prim.Native.Nat.{◌+◌}
use Rattle.files.specs.Pieces.{actions_in}
use Rattle.files.proofs.Pieces.{left}
use Rattle.walk.specs.Feeding.{part_of}
use Rattle.summing.specs.Summed.{tracing}
use Rattle.summing.proofs.block.look_at_actions.Given as goal

abbrev pub invariant-loop-k : goal.invariant-loop-k
invariant-loop-k l = (l.out ≡ l.initial.out) × (part_of tracing (actions_in l.count l.piece) l.n l.first ≡ part_of tracing (left l.count l.k l.piece) l.n (l.first + l.k))
