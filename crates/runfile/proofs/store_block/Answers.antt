use mathlib.Core.Path.{sym, ◌∙◌}
use borrow.Author.Rules.{rules}
use Rattle.runfile.proofs.Written.{block_sums, called}
use Rattle.runfile.proofs.store_block.Goals as goal

pub returns-in_err-taken-clause-refusal_value : goal.returns-in_err-taken-clause-refusal_value
returns-in_err-taken-clause-refusal_value c = rw (called _ _ _ c.in_ok-look_at_call.ensures, ← c.in_err-taken.ensures.refusal_value) (search rules)

pub returns-clause-refusal_value : goal.returns-clause-refusal_value
returns-clause-refusal_value c = c.in_ok-taken.ensures.refusal_value ∙ sym (called _ _ _ c.in_ok-look_at_call.ensures)

pub returns-clause-sums_value : goal.returns-clause-sums_value
returns-clause-sums_value c = c.in_ok-taken.ensures.takes.each ∙ sym (block_sums c.args.number c.args.n c.args.records.now c.in_ok-look_at_call.ensures.2)
