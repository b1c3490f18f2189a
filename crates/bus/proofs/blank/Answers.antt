use Rattle.bus.proofs.ViewLaws.{fresh_view}
use Rattle.bus.proofs.blank.Goals as goal

pub returns : goal.returns
returns c = fresh_view 63 c.args.n
