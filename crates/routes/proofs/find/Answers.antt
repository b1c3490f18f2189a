use mathlib.Core.Path.{sym, ap, ◌∙◌}
use Rattle.charts.proofs.Tools.{never}
use native.Mathlib.Omega.{arith}
use Rattle.charts.specs.Numbers.{refusal_number}
use Rattle.charts.specs.Routes.{refused}
use Rattle.charts.specs.View.{view}
use Rattle.routes.proofs.Answering.{accepted_valid, none_empty, none_next, answer_none, answer_found, holds_first}
use Rattle.routes.proofs.find.Goals as goal

pub returns-in-Some : goal.returns-in-Some
returns-in-Some c = record { answers = refused c.in-Some.refusal (sym c.number.ensures ∙ ap refusal_number c.in-Some.is); first = λ o. never o }

pub loop-count-init : goal.loop-count-init
loop-count-init c = none_empty (view c.args.b) c.args.q c.args.depth (sym c.number.ensures ∙ ap refusal_number c.in_default.is)

pub search-requires : goal.search-requires
search-requires c = accepted_valid (view c.args.b) c.args.q c.args.depth (sym c.number.ensures ∙ ap refusal_number c.in_default.is)

pub returns-in-Some-search : goal.returns-in-Some-search
returns-in-Some-search c =
    let valid = sym c.number.ensures ∙ ap refusal_number c.in_default.is in
    let is = sym c.in-Some-search.is ∙ c.search.ensures in
    record {
      answers = answer_found (view c.args.b) c.args.q c.args.depth valid c.loop-count.count (omega arith) c.in-Some-search.actions is;
      first = λ o. holds_first (view c.args.b) c.args.q c.args.depth valid c.loop-count.count (omega arith) c.in-Some-search.actions c.loop-count.invariant is;
    }

pub loop-count-preserved : goal.loop-count-preserved
loop-count-preserved c = none_next (view c.args.b) c.args.q c.args.depth (sym c.number.ensures ∙ ap refusal_number c.in_default.is) c.loop-count.count c.loop-count.invariant (sym c.in_default-search.is ∙ c.search.ensures)

pub returns-in_default : goal.returns-in_default
returns-in_default c = record {
  answers = answer_none (view c.args.b) c.args.q c.args.depth (sym c.number.ensures ∙ ap refusal_number c.in_default.is) (λ j h. c.loop-count.invariant j (omega arith));
  first = λ o. never o;
}

pub returns-in_default-search : goal.returns-in_default-search
returns-in_default-search c =
    let valid = sym c.number.ensures ∙ ap refusal_number c.in_default.is in
    record {
      answers = answer_none (view c.args.b) c.args.q c.args.depth valid (λ j h. none_next (view c.args.b) c.args.q c.args.depth valid c.loop-count.count c.loop-count.invariant (sym c.in_default-search.is ∙ c.search.ensures) j (omega arith));
      first = λ o. never o;
    }
