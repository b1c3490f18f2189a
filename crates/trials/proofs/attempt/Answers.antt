use mathlib.Core.Path.{◌≡◌, ap, ◌∙◌}
use borrow.Author.Rules.{rules}
use Rattle.std.specs.Prelude.{Err}
use Rattle.charts.specs.Trials.{no_tally}
use Rattle.charts.specs.View.{users_of}
use Rattle.trials.specs.Trying.{kept_with, tried_of, given}
use Rattle.trials.proofs.Given.{refused_kept}
use Rattle.trials.proofs.attempt.Goals as goal

pub returns-in_err-size-clause-value : goal.returns-in_err-size-clause-value
returns-in_err-size-clause-value c =
    let e : c.from_residual.result ≡ Err c.in_err-size.field-0.0 = search rules in
    ap given e ∙ refused_kept (users_of c.args.users) c.args.n c.args.actions no_tally no_tally c.trial.new.tally c.in_err-size.field-0.0 (search rules)
