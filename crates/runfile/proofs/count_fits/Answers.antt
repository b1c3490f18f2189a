use mathlib.Core.Path.{sym, ◌∙◌}
use native.Mathlib.Omega.{arith}
use borrow.Author.Tests.{eq-eqb, ne_eqb}
use Rattle.std.proofs.lemmas.Slice.{between_is}
use Rattle.runfile.specs.Block.{count_fits}
use Rattle.runfile.proofs.Parts.{cut}
use Rattle.runfile.proofs.count_fits.Goals as goal

pub returns-then-block-ne512-clause-value : goal.returns-then-block-ne512-clause-value
unfolding count_fits
returns-then-block-ne512-clause-value c = simp (ne_eqb _ _ c.if-block-ne512.true)

pub returns-then-not-is_count-clause-value : goal.returns-then-not-is_count-clause-value
unfolding count_fits
returns-then-not-is_count-clause-value c = rw (eq-eqb _ _ c.if-block-ne512.false, sym c.is_count.ensures ∙ c.if-not-is_count.true)

pub returns-then-all_zero-clause-value : goal.returns-then-all_zero-clause-value
unfolding count_fits
returns-then-all_zero-clause-value c =
    rw (eq-eqb _ _ c.if-block-ne512.false, sym c.is_count.ensures ∙ c.if-not-is_count.false, sym (rw (← cut 6 8 c.args.block.now (omega arith)) at c.all_zero.ensures) ∙ c.if-all_zero.true, c.all_zero-then-all_zero.ensures, between_is c.args.block.now _ 510)

pub returns-else-all_zero-clause-value : goal.returns-else-all_zero-clause-value
unfolding count_fits
returns-else-all_zero-clause-value c =
    rw (eq-eqb _ _ c.if-block-ne512.false, sym c.is_count.ensures ∙ c.if-not-is_count.false, sym (rw (← cut 6 8 c.args.block.now (omega arith)) at c.all_zero.ensures) ∙ c.if-all_zero.false, c.if-all_zero.false)
