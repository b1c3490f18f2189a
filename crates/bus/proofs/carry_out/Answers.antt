use Rattle.std.proofs.Common.{◌≡◌, ap, rules, Ok, Err}
use Rattle.charts.specs.View.{Sized}
use Rattle.link.specs.Reading.{heard_by}
use Rattle.bus.proofs.ViewLaws.{length_mapped}
use Rattle.bus.proofs.InPlace.{flat, stays, carries}
use Rattle.bus.proofs.carry_out.Goals as goal

pub returns-in_err-plan-2 : goal.returns-in_err-plan-2
returns-in_err-plan-2 c =
    let b = c.args.bus.now in
    let sized : Sized b = record { nodes_size = search (rules, c.well_formed, length_mapped); won_size = search (rules, c.well_formed); pending_size = search (rules, c.well_formed); holder_size = search (rules, c.well_formed); misled_size = search (rules, c.well_formed) } in
    let e : c.from_residual-in_err-plan-2.result ≡ Err c.in_err-plan-2.field-0.0 = search rules in
    let refused : c.plan.result ≡ Ok (Err c.in_err-plan-2.field-0.0) = search rules in
    rw e (stays b c.args.d c.aim-i.result c.cell_of-cell.result c.plan.result sized c.requires c.aim-i.ensures.upper_bound c.aim-i.ensures.value c.cell_of-cell.ensures (heard_by c.args.table.now) c.args.asked c.plan.ensures c.in_err-plan-2.field-0.0 (ap flat refused))

pub returns : goal.returns
returns c =
    let b = c.args.bus.now in
    let sized : Sized b = record { nodes_size = search (rules, c.well_formed, length_mapped); won_size = search (rules, c.well_formed); pending_size = search (rules, c.well_formed); holder_size = search (rules, c.well_formed); misled_size = search (rules, c.well_formed) } in
    carries b c.args.d c.aim-i.result c.cell_of-cell.result c.plan.result sized c.requires c.aim-i.ensures.upper_bound c.aim-i.ensures.value c.cell_of-cell.ensures (heard_by c.args.table.now) c.args.asked c.plan.ensures c.in_ok-plan-2.plan (search rules)
    c.node_of.result c.clear-2.new.marks c.clear.new.marks c.clears_won.result c.clears_misled.result c.concatenated_after-bus.result
    c.node_of.ensures c.clears_won.ensures c.clear-2.ensures.marks_after c.clears_misled.ensures c.clear.ensures.marks_after c.concatenated_after-bus.ensures
