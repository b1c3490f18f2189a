use Rattle.std.proofs.Common.{rules, ◌≡◌, ℕ, Bool, true, false}
use mathlib.Core.Path.{sym, ap, ◌∙◌}
use borrow.Author.Tests.{tests}
use Rattle.std.specs.Option.{unwrap_or}
use Rattle.std.proofs.lemmas.Iterator.{first_from_Range}
use Rattle.charts.specs.State.{lowest}
use Rattle.charts.specs.View.{mark}
use Rattle.turns.specs.Turns.{left_in, full_in, overs, without}
use Rattle.turns.proofs.Lowest.{lowest_found}
use Rattle.turns.proofs.scan.starter.Goals as goal

pub returns-in-Some-clause-value : goal.returns-in-Some-clause-value
returns-in-Some-clause-value c =
    let asks : ℕ → Bool = without (overs (left_in c.args.kept.now)) (full_in c.args.bus.now.nodes) in
    let bid : ℕ = lowest (without (full_in c.args.bus.now.nodes) (mark c.args.bus.now.won)) c.args.n 0 in
    sym (ap (λ r. unwrap_or r bid) c.in-Some.is) ∙ lowest_found asks c.args.n bid c.find-asks.result
    (first_from_Range _ _ _ c.find-asks.result (λ k. asks k ≡ true) (λ k. asks k ≡ false) c.find-asks.ensures.ran (λ x q k. search (rules, tests)) (λ x q k. search (rules, tests)))

pub returns-clause-value : goal.returns-clause-value
returns-clause-value c =
    let asks : ℕ → Bool = without (overs (left_in c.args.kept.now)) (full_in c.args.bus.now.nodes) in
    let bids : ℕ → Bool = without (full_in c.args.bus.now.nodes) (mark c.args.bus.now.won) in
    let bid : ℕ = lowest bids c.args.n 0 in
    c.unwrap_or.ensures ∙ (lowest_found bids c.args.n 0 c.find.result
    (first_from_Range _ _ _ c.find.result (λ k. bids k ≡ true) (λ k. bids k ≡ false) c.find.ensures.ran (λ x q k. search (rules, tests)) (λ x q k. search (rules, tests)))
    ∙ (sym (ap (λ r. unwrap_or r bid) c.in_default.is) ∙ lowest_found asks c.args.n bid c.find-asks.result
    (first_from_Range _ _ _ c.find-asks.result (λ k. asks k ≡ true) (λ k. asks k ≡ false) c.find-asks.ensures.ran (λ x q k. search (rules, tests)) (λ x q k. search (rules, tests)))))
