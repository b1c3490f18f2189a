-- A file of a list of actions prints the text of that list. Assumes nothing.
use mathlib.Core.Path.{◌≡◌, refl}
use mathlib.Core.List.{List}
use Prim.Native.Nat.{ℕ}
use Rattle.charts.specs.declared.Action.{Action}
use Rattle.files.specs.File.{IsFile}
use Rattle.walk.proofs.Files.{file_walked}
use Rattle.player.specs.Printed.{playing, printed, list_printed}

-- of every file of a list of actions
pub file_printed : (n : ℕ) (l : List Action) (bytes : List ℕ) → IsFile n l bytes → printed bytes ≡ list_printed n l
file_printed = file_walked playing (λ first number count n b. refl)
