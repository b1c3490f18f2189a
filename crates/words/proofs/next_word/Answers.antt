use Rattle.words.proofs.WordLaws.{none_left, comment}
use lib.Seq.{drop-cons}
use lib.ListN.{drop_of_length-le}
use mathlib.Core.Path.{sym, ◌∙◌}
use borrow.Author.Tests.{eq-eqb}
use Rattle.words.proofs.next_word.Goals.{then-line-from-via-then-line-from, then-line-from-via-else-line-from+then-line-from-eq35}
use Rattle.words.proofs.next_word.Goals as goal

pub returns-then-line-from : goal.returns-then-line-from
returns-then-line-from c =
    let left = sym c.skip_blanks-from.ensures.result_value in
    elim c.then-line-from.branch [
      | then-line-from-via-then-line-from w ↦ left ∙ rw (drop_of_length-le _ w.if-line-from.true) none_left
      | then-line-from-via-else-line-from+then-line-from-eq35 w ↦
          left ∙ rw (drop-cons c.args.line.now _ 0 w.if-line-from.false) (comment _ _ (c.skip_blanks-from.ensures.result_value_2 w.if-line-from.false) (eq-eqb _ _ w.if-line-from-eq35.true))
    ]
