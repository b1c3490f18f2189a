-- A step on every state and every action record, a fresh bus for every n, and the play of a list.
use Rattle.std.specs.Prelude.{Bool, cond, List, [], ◌∷◌, ℕ, eqb, Err, Ok}
use Rattle.charts.specs.declared.Refusal.TheVariants as R
use Rattle.charts.specs.declared.Report.{Report}
use Rattle.charts.specs.declared.Report.TheVariants.{Silent}
use Rattle.charts.specs.declared.Move.{Move}
use Rattle.charts.specs.declared.Action.{Action}
use Rattle.charts.specs.Numbers as N
use Rattle.charts.specs.Numbers.{number_of}
use Rattle.charts.specs.Reception.{hears}
use Rattle.charts.specs.State.{State, wons, pendings, holders, askers, some, moved, remarked, fresh}
use Rattle.charts.specs.Actions.{Outcome, closed, does, when, may_be_open, target, outcome}
use Rattle.charts.specs.Records.{Decoded, move_of, read}
use Rattle.charts.specs.Valid.{is_size, valid}

-- what a step returns: the number of its refusal or 0, its report and the state
pub record Result : Type 0 where
  pub number : ℕ
  pub report : Report
  pub state : State

-- "A refused step returns the number, the state handed in and no report."
abbrev pub refuses : State → ℕ → Result
refuses s k = record { number = k; report = Silent; state = s }

-- the outcome of an action about node i, carried out; an action that is not open is refused by 7
abbrev pub carry_out : State → ℕ → Outcome → Result
carry_out s i closed = refuses s N.not_open
carry_out s i (does r p c x) = record { number = N.accepted; report = r; state = remarked x (moved s p i c) }

-- the node that an action is about, and what it comes to
abbrev pub about : State → Move → ℕ
about s m = target s.n s.phase (pendings s.cell) m

abbrev pub outcome_of : State → Move → Outcome
outcome_of s m = outcome hears s.n s.phase s.concatenated (about s m) (s.cell (about s m)) (wons s.cell) (pendings s.cell) (holders s.cell) m

-- some node of the bus is Asked
abbrev pub some_asked : State → Bool
some_asked s = some (askers s.cell) s.n

abbrev pub may_act : State → Move → Bool
may_act s m = may_be_open (some_asked s) m

abbrev pub comes_to : State → Move → Outcome
comes_to s m = when (may_act s m) (outcome_of s m)

unfoldable pub play : State → Move → Result
play s m = carry_out s (about s m) (comes_to s m)

-- "A step looks at 12, then 2 to 7" (13 after 5, 15 after 13).
unfoldable pub look : State → Action → Decoded
look s a = cond (valid s) (read s.n a) (Err R.NotValid)

abbrev pub step_with : State → Decoded → Result
step_with s (Err k) = refuses s (number_of k)
step_with s (Ok m) = play s m

unfoldable pub step : State → Action → Result
step s a = step_with s (look s a)

-- "A refused fresh bus returns number 1 with a state like a fresh one whose n is 0."
unfoldable pub begin : ℕ → Result
begin n = cond (is_size n) (record { number = N.accepted; report = Silent; state = fresh n }) (refuses (fresh 0) N.wrong_size)

-- "each later one the state that the step before returned, after a refusal as well": the state after a list, and what the steps returned
abbrev pub after : State → List Action → State
after s [] = s
after s (a ∷ l) = after (step s a).state l

abbrev pub results : State → List Action → List Result
results s [] = []
results s (a ∷ l) = step s a ∷ results (step s a).state l

-- "Reports and acceptances, here and below, are the steps'": what a step answers to a record is a refusal with its number, or the action that it accepted with its report
pub data Event : Type 0 where
  refusal : ℕ → Event
  accepted : Move → Report → Event

abbrev pub is_accepted : Result → Bool
is_accepted r = eqb r.number N.accepted

abbrev pub event_of : Action → Result → Event
event_of a r = cond (is_accepted r) (accepted (move_of a) r.report) (refusal r.number)

-- "The first is handed the fresh bus for n, each later one the state that the step before returned, after a refusal as well."
abbrev pub events : State → List Action → List Event
events s [] = []
events s (a ∷ l) = event_of a (step s a) ∷ events (step s a).state l
