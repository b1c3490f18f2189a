use Rattle.std.proofs.Common.{rules, tests, arith, not, ◌&&◌, eqb, ◌∙◌, refl}
use Rattle.std.proofs.lemmas.Iterator.{YieldsList-from_range}
use Rattle.std.proofs.lemmas.Iterator.Search.{any_from_yields_List}
use Rattle.charts.specs.View.{mark}
use Rattle.deciding.proofs.MarkLaws.{any_other}
use Rattle.deciding.proofs.marks.others.Goals as goal

pub returns : goal.returns
returns c =
    any_from_yields_List (λ k. not (eqb k c.args.i) && mark c.args.marks.now k) _ _ _ c.any.ensures.ran (YieldsList-from_range 0 c.min.result c.min.result refl (omega arith)) (λ x b q k. search (rules, tests))
    ∙ any_other c.args.marks.now c.args.i c.min.result c.args.n c.told-marks c.min.ensures
