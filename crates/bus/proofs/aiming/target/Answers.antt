use Rattle.std.proofs.Common.{ap, ◌∙◌}
use Rattle.std.specs.Option.{unwrap_or}
use Rattle.charts.specs.View.{mark}
use Rattle.deciding.proofs.MarkLaws.{first_or}
use Rattle.bus.proofs.aiming.target.Goals as goal

pub returns-in-Grant : goal.returns-in-Grant
returns-in-Grant c = rw c.in-Grant.is (c.unwrap_or.ensures ∙ ap (λ o. unwrap_or o 0) c.lowest.ensures ∙ first_or (mark c.args.pending.now) c.args.n)
