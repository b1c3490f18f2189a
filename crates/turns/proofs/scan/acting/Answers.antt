use Rattle.std.proofs.Common.{rules, ◌≡◌, ℕ, Bool, true, false}
use mathlib.Core.Path.{sym, ap, ◌∙◌}
use borrow.Author.Tests.{tests}
use Rattle.std.specs.Option.{unwrap_or}
use Rattle.std.proofs.lemmas.Iterator.{first_from_Range}
use native.Mathlib.Omega.{arith}
use Rattle.charts.proofs.Tools.{lowest_below}
use Rattle.charts.specs.State.{lowest}
use Rattle.charts.specs.View.{mark}
use Rattle.turns.specs.Turns.{stray_in}
use Rattle.turns.proofs.Lowest.{lowest_found, lowest_marked}
use Rattle.turns.proofs.scan.acting.Goals as goal

pub returns-in-Some-clause-value : goal.returns-in-Some-clause-value
returns-in-Some-clause-value c =
    let strays : ℕ → Bool = stray_in c.args.bus.now.nodes (mark c.args.bus.now.holder) in
    let other : ℕ = lowest (mark c.args.bus.now.holder) c.args.n 0 in
    sym (ap (λ r. unwrap_or r other) c.in-Some.is) ∙ lowest_found strays c.args.n other c.find-stray.result
    (first_from_Range _ _ _ c.find-stray.result (λ k. strays k ≡ true) (λ k. strays k ≡ false) c.find-stray.ensures.ran (λ x q k. search (rules, tests)) (λ x q k. search (rules, tests)))

pub returns-clause-value : goal.returns-clause-value
returns-clause-value c =
    let strays : ℕ → Bool = stray_in c.args.bus.now.nodes (mark c.args.bus.now.holder) in
    let other : ℕ = lowest (mark c.args.bus.now.holder) c.args.n 0 in
    c.unwrap_or.ensures ∙ (lowest_marked (mark c.args.bus.now.holder) c.args.n c.lowest.result c.lowest.ensures
    ∙ (sym (ap (λ r. unwrap_or r other) c.in_default.is) ∙ lowest_found strays c.args.n other c.find-stray.result
    (first_from_Range _ _ _ c.find-stray.result (λ k. strays k ≡ true) (λ k. strays k ≡ false) c.find-stray.ensures.ran (λ x q k. search (rules, tests)) (λ x q k. search (rules, tests)))))

pub returns-clause-upper_bound : goal.returns-clause-upper_bound
returns-clause-upper_bound c = rw (c.unwrap_or.ensures ∙ lowest_marked (mark c.args.bus.now.holder) c.args.n c.lowest.result c.lowest.ensures) (lowest_below (mark c.args.bus.now.holder) c.args.n 0 63 c.requires (omega arith))
