-- What the player does with one piece of a file, and with the file's end.
use Rattle.std.specs.Prelude.{List, ℕ}
use Rattle.charts.specs.declared.Action.{Action}
use Rattle.charts.specs.State.{State, fresh}
use Rattle.charts.specs.Step.{Result, begin}
use Rattle.charts.specs.View.{view}
use Rattle.bus.specs.Advance.{advance_of}
use Rattle.charts.specs.declared.Bus.{Bus}
use Rattle.files.specs.declared.order.Stage.{Stage}
use Rattle.files.specs.declared.order.Stage.TheVariants.{Unopened}
use Rattle.transcript.specs.Lines.{done_line}
use Rattle.walk.specs.Walk.{Walker, nodes_once}
use Rattle.walk.specs.Feeding as F
use Rattle.walk.specs.Feeding.{Walking}
use Rattle.player.specs.Printed.{turn}
pub use Rattle.walk.specs.Feeding.{line_then}

-- the player's fields, its bus seen as a state
abbrev pub playing_at : Bus → Stage → Walking State
playing_at b g = record { state = view b; stage = g }

-- the walk with the functions of crate `bus`: the fresh bus that it gives, and `advance`, which is the charts' step where the state is valid
abbrev pub advancing : Walker State
advancing = record {
  heading = λ first number count n b. nodes_once first n;
  opening = λ n. (begin n).state;
  nodes = λ s. s.n;
  turn = λ i a s. turn i a.kind (advance_of s a);
  done = done_line;
}

-- what the actions of a block give, one by one
abbrev pub Part : Type 0
Part = F.Part State

abbrev pub turn_of : ℕ → ℕ → Result → Part → Part
turn_of i kind r later = F.turn_of i (turn i kind r) later

abbrev pub part_of : List Action → State → ℕ → Part
part_of l s i = F.part_of advancing l s i

-- the player before a file
abbrev pub started : Walking State
started = record { state = fresh 0; stage = Unopened }
