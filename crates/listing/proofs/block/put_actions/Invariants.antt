use Prim.Native.Nat.{◌+◌, ◌*◌, ◌≤◌}
use Rattle.files.specs.Pieces.{actions_in}
use Rattle.files.proofs.Pieces.{left}
use Rattle.walk.specs.Feeding.{part_of}
use Rattle.walk.proofs.Loop.{Same}
use Rattle.listing.specs.Listed.{naming}
use Rattle.listing.proofs.block.put_actions.Given as goal

abbrev pub invariant-loop-k : goal.invariant-loop-k
invariant-loop-k l = (l.end ≤ l.at + 64 * l.k)
    × Same l.initial.out l.at (part_of naming (actions_in l.count l.piece) l.n l.first) l.out l.end (part_of naming (left l.count l.k l.piece) l.n (l.first + l.k))
