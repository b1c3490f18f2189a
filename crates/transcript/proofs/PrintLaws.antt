-- Lines by their words. Assumes nothing.
use mathlib.Core.Path.{◌≡◌, refl}
use mathlib.Core.List.{List, [], ◌∷◌, ◌++◌}
use Prim.Native.Nat.{ℕ}
use Rattle.transcript.specs.Lines.{line}
use Rattle.transcript.specs.Room.{Puts}
use Rattle.transcript.specs.Printed.{line_after}

pub line_after_lem : (w : List ℕ) (l : List (List ℕ)) → line (w ∷ l) ≡ w ++ line_after l
line_after_lem w [] = refl
line_after_lem w (v ∷ l) = refl

-- the same text, said otherwise
pub at_text : {buf after : List ℕ} {at end : ℕ} {s t : List ℕ} → t ≡ s → Puts buf at s end after → Puts buf at t end after
at_text e p = rw e p
