-- The laws of the loop over a block's actions, for the player's turns. Assumes nothing.
use mathlib.Core.Path.{◌≡◌}
use mathlib.Core.Bool.{true, false}
use mathlib.Core.List.{List}
use Prim.Native.Nat.{ℕ}
use Rattle.charts.specs.Step.{Result, is_accepted}
use Rattle.transcript.specs.Lines.{line_of, refused_line}
use Rattle.transcript.specs.Room.{Puts}
use Rattle.walk.proofs.Loop as L
use Rattle.walk.proofs.Loop.{Put}
use Rattle.player.specs.Printed.{turn}
use Rattle.player.specs.Feeding.{Part, turn_of}
pub use Rattle.files.proofs.Pieces.{left, left_all, left_none, left_more}
pub use Rattle.walk.proofs.Loop.{Same, at_start, ends}

module _ (i kind : ℕ) (r : Result) (later : Part) {start buf after : List ℕ} {at end next : ℕ} {whole : Part} (same : Same start at whole buf end (turn_of i kind r later)) where
  pub go_on : is_accepted r ≡ true → Puts buf end (line_of i kind r.report) next after → Same start at whole after next later
  go_on = L.go_on i (turn i kind r) later same

  pub stop : is_accepted r ≡ false → Puts buf end (refused_line i r.number) next after → Put start at whole after next r.state true
  stop = L.stop i (turn i kind r) later same
