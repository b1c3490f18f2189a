use Rattle.std.proofs.Common.{rules, ◌≡◌, length, true, refl}
use native.Mathlib.Omega.{arith}
use borrow.Author.Tests.{tests, lt-ltb, le-ltb}
use Rattle.causes.specs.Blame.{text_at, statement_in}
use Rattle.causes.proofs.Marks.{is_first, is_last, last_after}
use Rattle.causes.proofs.statement_in.Goals as goal

pub returns-then-from-line-clause-value : goal.returns-then-from-line-clause-value
unfolding statement_in
returns-then-from-line-clause-value c =
    let e1 = is_first (text_at c.args.line.now) _ _ c.first-from.ensures.upper_bound (λ j h. let k = c.first-from.ensures.first.0 j h in search (rules, tests)) (λ h. let k = c.first-from.ensures.first.1 h in search (rules, tests)) in
    let e2 = is_last (text_at c.args.line.now) _ _ c.after_last.ensures.upper_bound (λ j a b. let k = c.after_last.ensures.last.0 j a b in search (rules, tests)) (λ h. let k = c.after_last.ensures.last.1 h in search (rules, tests)) in
    rw (← e1, lt-ltb _ _ c.if-from-line.true, ← e2) refl

pub returns-then-from-line-clause-from_le_to : goal.returns-then-from-line-clause-from_le_to
returns-then-from-line-clause-from_le_to c =
    let e2 = is_last (text_at c.args.line.now) _ _ c.after_last.ensures.upper_bound (λ j a b. let k = c.after_last.ensures.last.0 j a b in search (rules, tests)) (λ h. let k = c.after_last.ensures.last.1 h in search (rules, tests)) in
    let here : text_at c.args.line.now c.first-from.result ≡ true = let k = c.first-from.ensures.first.1 c.if-from-line.true in search (rules, tests) in
    let later = last_after (text_at c.args.line.now) c.first-from.result (length c.args.line.now) here c.if-from-line.true in
    (omega (arith, e2), c.after_last.ensures.upper_bound)

pub returns-clause-value : goal.returns-clause-value
unfolding statement_in
returns-clause-value c =
    let e1 = is_first (text_at c.args.line.now) _ _ c.first-from.ensures.upper_bound (λ j h. let k = c.first-from.ensures.first.0 j h in search (rules, tests)) (λ h. let k = c.first-from.ensures.first.1 h in search (rules, tests)) in
    rw (← e1, le-ltb _ _ c.if-from-line.false) refl
