-- A step that looks at those clauses of 12 alone that make it safe: n and the phase, and no node's record. On a valid state it is the charts' step (proofs/Advances.antt).
use Rattle.std.specs.Prelude.{Bool, cond, ◌&&◌, ℕ, Ok, Err}
use Rattle.charts.specs.declared.Phase.{Phase}
use Rattle.charts.specs.declared.Action.{Action}
use Rattle.charts.specs.declared.Move.{Move}
use Rattle.charts.specs.declared.Refusal.TheVariants.{NotValid}
use Rattle.charts.specs.Numbers.{number_of}
use Rattle.charts.specs.Reception.{Reception}
use Rattle.charts.specs.State.{State, wons, pendings, holders}
use Rattle.charts.specs.Actions.{Outcome, when, may_be_open, outcome}
use Rattle.charts.specs.Records.{Decoded, read}
use Rattle.charts.specs.Valid.{is_size, phase_fits}
use Rattle.charts.specs.Step.{Result, refuses, carry_out, about, step_with}

unfoldable pub glance : ℕ → Phase → Action → Decoded
glance n p a = cond (is_size n && phase_fits n p) (read n a) (Err NotValid)

unfoldable pub advance_of : State → Action → Result
advance_of s a = step_with s (glance s.n s.phase a)

-- The same where what nodes do with signals is h, and q says whether a node is Asked. (proofs/InPlace.antt: by the chart's table, and where q is right, it is `advance_of`.)
abbrev pub comes_to_by : Reception → Bool → State → Move → Outcome
comes_to_by h q s m = when (may_be_open q m) (outcome h s.n s.phase s.concatenated (about s m) (s.cell (about s m)) (wons s.cell) (pendings s.cell) (holders s.cell) m)

abbrev pub step_by : Reception → Bool → State → Decoded → Result
step_by h q s (Err k) = refuses s (number_of k)
step_by h q s (Ok m) = carry_out s (about s m) (comes_to_by h q s m)

unfoldable pub advance_by : Reception → Bool → State → Action → Result
advance_by h q s a = step_by h q s (glance s.n s.phase a)
