use Rattle.std.proofs.Common.{◌∙◌}
use Rattle.bus.proofs.ReadLaws.{ready_glance}
use Rattle.bus.proofs.InPlace.{advances}
use Rattle.bus.proofs.advance.Goals as goal

pub hand_on-requires : goal.hand_on-requires
hand_on-requires c = rw c.glance.ensures (ready_glance _ _ _ _)

pub returns : goal.returns
returns c = c.hand_on.ensures ∙ rw c.glance.ensures (advances _ _)
