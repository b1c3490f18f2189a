use Rattle.std.proofs.Common.{rules, refl}
use borrow.Author.Tests.{tests, lt-ltb, le-ltb}
use Rattle.causes.specs.Blame.{fatal_at, blank_at, word_in}
use Rattle.causes.proofs.Marks.{is_first, is_last}
use Rattle.causes.proofs.word_in.Goals as goal

pub returns-then-last-line-clause-value : goal.returns-then-last-line-clause-value
unfolding word_in
returns-then-last-line-clause-value c =
    let e1 = is_first (fatal_at c.args.text c.args.line.now) _ _ c.first-last.ensures.upper_bound (λ j h. let k = c.first-last.ensures.first.0 j h in search (rules, tests)) (λ h. let k = c.first-last.ensures.first.1 h in search (rules, tests)) in
    let e2 = is_last (blank_at c.args.line.now) _ _ c.after_last.ensures.upper_bound (λ j a b. let k = c.after_last.ensures.last.0 j a b in search (rules, tests)) (λ h. let k = c.after_last.ensures.last.1 h in search (rules, tests)) in
    rw (← e1, lt-ltb _ _ c.if-last-line.true, ← e2) refl

pub returns-clause-value : goal.returns-clause-value
unfolding word_in
returns-clause-value c =
    let e1 = is_first (fatal_at c.args.text c.args.line.now) _ _ c.first-last.ensures.upper_bound (λ j h. let k = c.first-last.ensures.first.0 j h in search (rules, tests)) (λ h. let k = c.first-last.ensures.first.1 h in search (rules, tests)) in
    rw (← e1, le-ltb _ _ c.if-last-line.false) refl
