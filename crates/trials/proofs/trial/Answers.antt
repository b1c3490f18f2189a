use mathlib.Core.Path.{◌≡◌, sym, ap, ◌∙◌}
use borrow.Author.Rules.{rules}
use Rattle.std.specs.Prelude.{Err}
use Rattle.charts.specs.Numbers.{err_number}
use Rattle.charts.specs.View.{users_of}
use Rattle.trials.specs.Trying.{kept_with}
use Rattle.trials.proofs.Allowing.{goes}
use Rattle.trials.proofs.Given.{refused_is, refused_file, tried_is, tried_file}
use Rattle.trials.proofs.trial.Goals as goal

pub returns-in_err-check-clause-value : goal.returns-in_err-check-clause-value
returns-in_err-check-clause-value c =
    let e : c.from_residual.result ≡ Err c.in_err-check.field-0.0 = search rules in
    ap (λ r. kept_with r c.args.tally.now) e ∙ refused_is (users_of c.args.users) c.args.n c.args.actions c.args.tally.now c.in_err-check.field-0.0 (sym (ap err_number c.in_err-check.was) ∙ c.check.ensures)

pub returns-in_err-check-clause-file_after : goal.returns-in_err-check-clause-file_after
returns-in_err-check-clause-file_after c = refused_file (users_of c.args.users) c.args.n c.args.actions c.in_err-check.field-0.0 c.args.file.now (sym (ap err_number c.in_err-check.was) ∙ c.check.ensures)

pub carry_through-size-requires-clause-allowed : goal.carry_through-size-requires-clause-allowed
carry_through-size-requires-clause-allowed c = (goes (users_of c.args.users) c.args.n c.args.actions (sym c.check.ensures ∙ ap err_number c.in_ok-check.was)).allowed

pub carry_through-size-requires-clause-le_actions : goal.carry_through-size-requires-clause-le_actions
carry_through-size-requires-clause-le_actions c = rw c.from.ensures ((goes (users_of c.args.users) c.args.n c.args.actions (sym c.check.ensures ∙ ap err_number c.in_ok-check.was)).some_actions, search rules)

pub returns-clause-value : goal.returns-clause-value
returns-clause-value c = tried_is (users_of c.args.users) c.args.n c.args.actions c.args.tally.now c.carry_through-size.result.1 c.carry_through-size.result.0 (sym c.check.ensures ∙ ap err_number c.in_ok-check.was) (c.carry_through-size.ensures.size ∙ rw c.from.ensures) (c.carry_through-size.ensures.tally ∙ rw c.from.ensures)

pub returns-clause-file_after : goal.returns-clause-file_after
returns-clause-file_after c = tried_file (users_of c.args.users) c.args.n c.args.actions c.args.file.now c.carry_through-size.new.file (sym c.check.ensures ∙ ap err_number c.in_ok-check.was) (c.carry_through-size.ensures.file_after ∙ rw c.from.ensures)
