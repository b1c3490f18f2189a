use Rattle.std.proofs.Common.{rules}
use borrow.Author.Tests.{tests}
use Rattle.causes.specs.Blame.{blank_at, text_at}
use Rattle.causes.proofs.Marks.{is_last}
use Rattle.causes.proofs.name_before.Goals as goal

pub returns : goal.returns
returns c =
    let e1 = is_last (text_at c.args.line.now) _ _ c.after_last-to.ensures.upper_bound (λ j a b. let k = c.after_last-to.ensures.last.0 j a b in search (rules, tests)) (λ h. let k = c.after_last-to.ensures.last.1 h in search (rules, tests)) in
    let e2 = is_last (blank_at c.args.line.now) _ _ c.after_last-from.ensures.upper_bound (λ j a b. let k = c.after_last-from.ensures.last.0 j a b in search (rules, tests)) (λ h. let k = c.after_last-from.ensures.last.1 h in search (rules, tests)) in
    rw (← e1, ← e2) c.named.ensures
