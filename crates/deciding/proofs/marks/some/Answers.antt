use Rattle.std.proofs.Common.{◌∙◌}
use Rattle.deciding.proofs.MarkLaws.{others_none}
use Rattle.deciding.proofs.marks.some.Goals as goal

pub returns : goal.returns
returns c = c.others.ensures ∙ others_none c.args.marks.now c.args.n c.told-marks
