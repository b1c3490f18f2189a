use borrow.Author.Rules.{rules}
use borrow.Author.Tests.{tests}
use mathlib.Core.Bool.{true}
use mathlib.Core.Path.{◌≡◌}
use native.Mathlib.Numerals.{add-one}
use lib.ListN.{get_or}
use lib.Seq.{drop-cons}
use Rattle.words.specs.Words.{is_blank}
use Rattle.words.proofs.WordLaws.{skip_one}
use Rattle.words.proofs.skip_blanks.Goals as goal

pub loop-i-preserved : goal.loop-i-preserved
loop-i-preserved c =
    let blank : is_blank (get_or c.args.line.now c.loop-i.i 0) ≡ true = search (rules, tests) in
    rw add-one (rw (drop-cons c.args.line.now c.loop-i.i 0 c.loop-i-test.true, skip_one _ _ blank) at c.loop-i.invariant)
