use Rattle.std.proofs.Common.{◌≤◌, ◌∙◌, arith, rules, tests, length}
use Rattle.std.proofs.lemmas.Iterator.{YieldsList-from_slice, YieldsList-from_take}
use Rattle.std.proofs.lemmas.Iterator.Search.{all_from_yields_List}
use Rattle.charts.specs.Valid.{cell_fits}
use Rattle.charts.specs.View.{cell_of, fresh_node}
use Rattle.bus.proofs.ReadLaws.{all_every}
use Rattle.bus.proofs.validity.nodes_fit.Goals as goal

pub returns : goal.returns
returns c = λ w p h m.
    let small : c.args.n ≤ length c.args.nodes.now = omega arith in
    all_from_yields_List (λ x. cell_fits c.args.n (cell_of x w p h m)) _ _ _ c.all.ensures.ran (YieldsList-from_take c.args.n (YieldsList-from_slice c.args.nodes.now cc) cc) (λ x b q k. search (rules, tests))
    ∙ all_every (λ x. cell_fits c.args.n (cell_of x w p h m)) c.args.nodes.now fresh_node c.args.n small
