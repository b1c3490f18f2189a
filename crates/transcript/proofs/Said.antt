-- The words of a report end a line: a space stands before them. Assumes nothing.
use Prim.Native.Nat.{ℕ}
use mathlib.Core.Path.{◌≡◌, refl}
use mathlib.Core.List.{List, ◌∷◌, ◌++◌}
use Rattle.charts.specs.declared.Report.{Report}
use Rattle.charts.specs.declared.Report.TheVariants.{Silent, Won, Lost, Sent, Acked, Miss, Drop, Good, Dcrc, Broad}
use Rattle.transcript.specs.Lines.{line, said}

pub line_said : (w : List ℕ) (r : Report) → line (w ∷ said r) ≡ w ++ (32 ∷ line (said r))
line_said w Silent = refl
line_said w (Won i) = refl
line_said w (Lost i) = refl
line_said w (Sent i x) = refl
line_said w (Acked i a x) = refl
line_said w (Miss i x) = refl
line_said w (Drop i m) = refl
line_said w (Good i h d) = refl
line_said w (Dcrc i h) = refl
line_said w (Broad i h d) = refl
