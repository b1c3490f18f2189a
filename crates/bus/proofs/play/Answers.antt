use Rattle.std.proofs.Common.{◌∙◌}
use Rattle.bus.proofs.ReadLaws.{ready_glance}
use Rattle.bus.proofs.InPlace.{advances_by}
use Rattle.bus.proofs.play.Goals as goal

pub carry_out-requires : goal.carry_out-requires
carry_out-requires c = rw c.glance-d.ensures (ready_glance _ _ _ _)

pub returns : goal.returns
returns c = c.carry_out.ensures ∙ rw c.glance-d.ensures (advances_by _ _ _ _)
