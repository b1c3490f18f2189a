use Rattle.std.proofs.Common.{◌∙◌}
use Rattle.bus.proofs.Counts.{counted_asked}
use Rattle.bus.proofs.InPlace.{by_the_chart}
use Rattle.bus.proofs.hand_on.Goals as goal

pub returns : goal.returns
returns c = c.carry_out-report.ensures ∙ by_the_chart _ _ _ c.table.ensures (counted_asked c.args.b c.askers-asked.result c.askers-asked.ensures) _
