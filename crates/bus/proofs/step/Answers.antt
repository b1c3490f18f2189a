use Rattle.std.proofs.Common.{◌∙◌}
use Rattle.charts.specs.Step.{step}
use Rattle.bus.proofs.ReadLaws.{ready_look}
use Rattle.bus.proofs.step.Goals as goal

pub hand_on-requires : goal.hand_on-requires
hand_on-requires c = rw c.look.ensures (ready_look _ _)

pub returns : goal.returns
unfolding step
returns c = c.hand_on.ensures ∙ rw c.look.ensures
