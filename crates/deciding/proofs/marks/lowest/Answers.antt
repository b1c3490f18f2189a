use Rattle.std.proofs.Common.{true, false, rules, tests, ◌≡◌}
use Rattle.std.proofs.lemmas.Iterator.{first_from_Range}
use Rattle.charts.specs.View.{mark}
use Rattle.deciding.proofs.MarkLaws.{found_lowest}
use Rattle.deciding.proofs.marks.lowest.Goals as goal

pub returns : goal.returns
returns c =
    let xs = c.args.marks.now in
    found_lowest xs c.min.result c.args.n c.find.result c.told-marks c.min.ensures
    (first_from_Range _ _ _ _ (λ k. mark xs k ≡ true) (λ k. mark xs k ≡ false) c.find.ensures.ran (λ x q k. search (rules, tests)) (λ x q k. search (rules, tests)))
