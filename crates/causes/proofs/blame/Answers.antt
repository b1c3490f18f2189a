use Rattle.std.proofs.Common.{rules}
use borrow.Author.Tests.{tests, lt-ltb, le-ltb}
use Rattle.causes.specs.Blame.{hash_at, blame_of}
use Rattle.causes.proofs.Marks.{is_first}
use Rattle.causes.proofs.blame.Goals as goal

pub returns-then-line-gt255-clause-value : goal.returns-then-line-gt255-clause-value
unfolding blame_of
returns-then-line-gt255-clause-value c = rw (lt-ltb _ _ c.if-line-gt255.true) c.nowhere.ensures

pub returns-clause-value : goal.returns-clause-value
unfolding blame_of
returns-clause-value c =
    let e1 = is_first (hash_at c.args.line.now) _ _ c.first-end.ensures.upper_bound (λ j h. let k = c.first-end.ensures.first.0 j h in search (rules, tests)) (λ h. let k = c.first-end.ensures.first.1 h in search (rules, tests)) in
    rw (le-ltb _ _ c.if-line-gt255.false, ← e1) c.blame_in.ensures.value
