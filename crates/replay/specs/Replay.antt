-- What a replay answers, and that demand 3 holds of it.
use Rattle.std.specs.Prelude.{◌≡◌, true, List, ℕ, ◌/◌, length}
use Rattle.charts.specs.declared.Action.{Action}
use Rattle.charts.specs.Numbers.{refusal_number}
use Rattle.charts.specs.State.{State}
use Rattle.charts.specs.Valid.{is_size}
use Rattle.charts.specs.Step.{begin, after}
use Rattle.charts.specs.View.{view}
use Rattle.charts.specs.Demand.{accepted_of, final, Demand3}
use Rattle.charts.specs.Layout.{actions_of}
use Rattle.replay.specs.declared.Replayed.{Replayed}

-- the whole records of a list of bytes, 16 bytes each
abbrev pub records_in : List ℕ → List Action
records_in s = actions_of (length s / 16) s

-- the number that the fresh bus for n came with, how many actions of the list were accepted, and the state that the list left
pub record Replay : Type 0 where
  pub number : ℕ
  pub accepted : ℕ
  pub state : State

abbrev pub seen_replay : Replayed → Replay
seen_replay r = record { number = refusal_number r.refusal; accepted = r.accepted; state = view r.bus }

-- "each later one the state that the step before returned, after a refusal as well"
abbrev pub played_on : ℕ → State → List Action → Replay
played_on number s l = record { number = number; accepted = accepted_of s l; state = after s l }

-- "The first is handed the fresh bus for n". (Where n is refused by 1, every action is refused by 12.)
abbrev pub replay_of : ℕ → List Action → Replay
replay_of n l = played_on (begin n).number (begin n).state l

-- the answer is the charts', and where n is from 2 to 63 the whole of demand 3 holds of the list and of the state returned
pub record Replays (n : ℕ) (l : List Action) (r : Replayed) : Type 0 where
  pub played : seen_replay r ≡ replay_of n l
  pub returned : is_size n ≡ true → view r.bus ≡ final n l
  pub demand : is_size n ≡ true → Demand3 n l
