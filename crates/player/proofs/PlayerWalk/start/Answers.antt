use mathlib.Core.Path.{ap}
use Rattle.charts.specs.Step.{Result, begin}
use Rattle.files.specs.declared.order.Stage.TheVariants.{Unopened}
use Rattle.charts.specs.State.{State}
use Rattle.walk.specs.Feeding.{Walking}
use Rattle.player.proofs.PlayerWalk.start.Goals as goal

abbrev opened : Result → Walking State
opened r = record { state = r.state; stage = Unopened }

pub returns : goal.returns
unfolding begin
returns c = ap opened c.fresh.ensures
