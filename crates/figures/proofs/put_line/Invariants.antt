use mathlib.Core.Path.{◌≡◌}
use Prim.Native.Nat.{◌+◌, ◌*◌, ◌≤◌}
use lib.ListN.{length, take}
use Rattle.transcript.specs.Room.{Puts}
use Rattle.figures.proofs.Lines.{spaced}
use Rattle.figures.proofs.put_line.Given as goal

abbrev pub invariant-loop-x : goal.invariant-loop-x
invariant-loop-x l = (length l.out ≡ length l.initial.out) × (l.end ≤ l.at + 20 + 21 * l.x-index) × Puts l.initial.out l.initial.end (spaced (take l.x-index l.rest)) l.end l.out
