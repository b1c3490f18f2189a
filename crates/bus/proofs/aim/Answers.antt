use Rattle.bus.proofs.ReadLaws.{ready_glance}
use Rattle.bus.proofs.aim.Goals as goal

pub aim-requires : goal.aim-requires
aim-requires c = rw c.glance-decoded.ensures (ready_glance _ _ _ _)
