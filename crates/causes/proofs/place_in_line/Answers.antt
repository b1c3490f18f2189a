use Rattle.std.proofs.Common.{rules, refl}
use borrow.Author.Tests.{tests, eq-eqb, ne_eqb}
use Rattle.causes.specs.Blame.{star_at, text_at, place_in_line}
use Rattle.causes.proofs.Marks.{is_last}
use Rattle.causes.proofs.place_in_line.Goals as goal

pub returns-then-star-word : goal.returns-then-star-word
unfolding place_in_line
returns-then-star-word c =
    let e1 = is_last (star_at c.args.line.now) _ _ c.after_last-star.ensures.upper_bound (λ j a b. let k = c.after_last-star.ensures.last.0 j a b in search (rules, tests)) (λ h. let k = c.after_last-star.ensures.last.1 h in search (rules, tests)) in
    let e2 = is_last (text_at c.args.line.now) _ _ c.after_last-word.ensures.upper_bound (λ j a b. let k = c.after_last-word.ensures.last.0 j a b in search (rules, tests)) (λ h. let k = c.after_last-word.ensures.last.1 h in search (rules, tests)) in
    rw (← e1, ← e2, eq-eqb _ _ c.if-star-word.true) refl

pub returns : goal.returns
unfolding place_in_line
returns c =
    let e1 = is_last (star_at c.args.line.now) _ _ c.after_last-star.ensures.upper_bound (λ j a b. let k = c.after_last-star.ensures.last.0 j a b in search (rules, tests)) (λ h. let k = c.after_last-star.ensures.last.1 h in search (rules, tests)) in
    let e2 = is_last (text_at c.args.line.now) _ _ c.after_last-word.ensures.upper_bound (λ j a b. let k = c.after_last-word.ensures.last.0 j a b in search (rules, tests)) (λ h. let k = c.after_last-word.ensures.last.1 h in search (rules, tests)) in
    rw (← e1, ← e2, ne_eqb _ _ c.if-star-word.false) c.words_before.ensures.value
