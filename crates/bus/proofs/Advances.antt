-- On a valid state the step that looks at n and the phase alone is the charts' step, and leads to a valid state again. Assumes nothing.
use mathlib.Core.Path.{◌≡◌}
use mathlib.Core.Bool.{true, ◌&&◌}
use Rattle.charts.specs.declared.Action.{Action}
use Rattle.charts.specs.State.{State}
use Rattle.charts.specs.Step.{look, step}
use Rattle.charts.specs.Valid.{is_size, phase_fits, valid}
use Rattle.charts.proofs.Validity.{valid_kept}
use Rattle.bus.specs.Advance.{glance, advance_of}
use Rattle.bus.proofs.ReadLaws.{regroup}

safe : (s : State) → valid s ≡ true → (is_size s.n && phase_fits s.n s.phase) ≡ true
unfolding valid
safe s e = regroup (is_size s.n) (phase_fits s.n s.phase) _ e

pub advance_is_step : (s : State) (a : Action) → valid s ≡ true → advance_of s a ≡ step s a
unfolding advance_of glance step look
advance_is_step s a e = rw (safe s e, e)

pub advance_valid : (s : State) (a : Action) → valid s ≡ true → valid (advance_of s a).state ≡ true
advance_valid s a e = rw (advance_is_step s a e) (valid_kept s a e)
