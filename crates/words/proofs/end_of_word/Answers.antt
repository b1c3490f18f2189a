use lib.ListN.{length}
use mathlib.Core.Path.{◌≡◌}
use Rattle.words.proofs.WordLaws.{begins, one_more, word_ends, line_ends}
use native.Mathlib.Numerals.{add-one}
use native.Mathlib.Omega.{arith}
use mathlib.Core.Path.{sym, ◌∙◌}
use Rattle.words.proofs.end_of_word.Goals as goal

pub loop-i-init : goal.loop-i-init
loop-i-init c = rw add-one (begins c.args.line.now c.args.from c.requires.from_in_bounds c.requires.from_value)

pub returns-then-ends_word-clause-from_value_2 : goal.returns-then-ends_word-clause-from_value_2
returns-then-ends_word-clause-from_value_2 c =
    word_ends c.args.line.now c.args.from c.loop-i.i (omega arith) c.loop-i-test.true (sym c.ends_word.ensures ∙ c.if-ends_word.true) c.loop-i.invariant

pub loop-i-preserved : goal.loop-i-preserved
loop-i-preserved c = rw add-one (one_more c.args.line.now c.args.from c.loop-i.i (omega arith) c.loop-i-test.true (sym c.ends_word.ensures ∙ c.if-ends_word.false) ∙ c.loop-i.invariant)

pub returns-clause-from_value_2 : goal.returns-clause-from_value_2
returns-clause-from_value_2 c =
    let last : c.loop-i.i ≡ length c.args.line.now = omega arith in
    line_ends c.args.line.now c.args.from (length c.args.line.now) (omega arith) (omega arith) (omega arith) (rw last at c.loop-i.invariant)
