-- The text that a run file prints ("A run printed"): the file walked, and each action's turn a step of the charts.
use Rattle.std.specs.Prelude.{List, ℕ}
use Rattle.charts.specs.declared.Action.{Action}
use Rattle.charts.specs.State.{State, fresh}
use Rattle.charts.specs.Step.{Result, step}
use Rattle.transcript.specs.Lines.{line_of, done_line}
use Rattle.walk.specs.Walk.{Turn, Walker, nodes_once, walked, list_walked}
pub use Rattle.files.specs.Pieces.{actions_in}

-- "The player's line: index, kind, then `-` or node and report"
abbrev pub turn : ℕ → ℕ → Result → Turn State
turn i kind r = record { number = r.number; line = line_of i kind r.report; state = r.state }

-- `nodes` before block 0's actions, which find a fresh bus; "then each action, when its turn comes, by 2 to 7"; `done` and the count
abbrev pub playing : Walker State
playing = record {
  heading = λ first number count n b. nodes_once first n;
  opening = fresh;
  nodes = λ s. s.n;
  turn = λ i a s. turn i a.kind (step s a);
  done = done_line;
}

-- the text of a file
abbrev pub printed : List ℕ → List ℕ
printed bytes = walked playing bytes

-- the text of a list of actions, played on a fresh bus of n nodes; it is that of every file of the list (proofs/Files.antt)
abbrev pub list_printed : ℕ → List Action → List ℕ
list_printed n l = list_walked playing n l
