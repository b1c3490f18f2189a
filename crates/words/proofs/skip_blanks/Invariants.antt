use mathlib.Core.Path.{◌≡◌}
use Rattle.words.specs.Cursors.{tokens_left}
use Rattle.words.proofs.skip_blanks.Given as goal

abbrev pub invariant-loop-i : goal.invariant-loop-i
invariant-loop-i l = tokens_left l.line l.i ≡ tokens_left l.line l.at
