use Rattle.std.proofs.Common.{◌≤◌, arith, ◌∙◌, sym}
use Rattle.link.proofs.Ruled.{past_rule}
use Rattle.link.proofs.rules.rule.Goals as goal

pub returns-in_default : goal.returns-in_default
returns-in_default c =
    let past : 25 ≤ c.args.place = omega arith in
    c.goes-in_default.ensures ∙ sym (past_rule c.args.place c.args.class past)
