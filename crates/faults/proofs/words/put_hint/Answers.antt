use mathlib.Core.Path.{sym, ◌∙◌}
use borrow.Author.Tests.{le-ltb}
use Rattle.transcript.specs.Writer.{written}
use Rattle.faults.specs.Faults.{hint}
use Rattle.faults.proofs.words.put_hint.Goals.{else-has_star-via-then-has_star+else-w-gt1, else-has_star-via-else-has_star}
use Rattle.faults.proofs.words.put_hint.Goals as goal

pub returns-else-has_star : goal.returns-else-has_star
unfolding hint written
returns-else-has_star c =
    let plain = sym c.has_control.ensures ∙ c.if-has_control.false in
    let breaks = sym c.has_no_break.ensures ∙ c.if-has_no_break.false in
    elim c.else-has_star.branch [
      | else-has_star-via-then-has_star+else-w-gt1 w ↦ rw (plain, breaks, sym c.has_star.ensures ∙ w.if-has_star.true, le-ltb _ _ w.if-w-gt1.false)
      | else-has_star-via-else-has_star w ↦ rw (plain, breaks, sym c.has_star.ensures ∙ w.if-has_star.false)
    ]
