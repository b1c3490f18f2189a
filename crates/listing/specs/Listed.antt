-- The text that `list` prints of a run file: the file walked, and each action's turn its line.
use Rattle.std.specs.Prelude.{List, [], ℕ}
use Rattle.charts.specs.Records.{read}
use Rattle.charts.specs.declared.Action.{Action}
use Rattle.charts.specs.Numbers.{err_number}
use Rattle.transcript.specs.Printed.{action_line}
use Rattle.walk.specs.Walk.{Turn, Walker, nodes_once, walked}

-- an action looked at by 2 to 6 (13 and 15 after 5), and its line; the state of the walk is block 0's n
abbrev pub turn : Action → ℕ → Turn ℕ
turn a n = record { number = err_number (read n a); line = action_line a; state = n }

-- "one line for each action"; "A refused block or action ends the listing with the line that `play` prints for it"; nothing stands at the end
abbrev pub naming : Walker ℕ
naming = record {
  heading = λ first number count n b. nodes_once first n;
  opening = λ n. n;
  nodes = λ n. n;
  turn = λ i a n. turn a n;
  done = λ i. [];
}

-- the text of a file, whatever its bytes are
abbrev pub listed : List ℕ → List ℕ
listed bytes = walked naming bytes
