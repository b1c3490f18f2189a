use Rattle.causes.specs.Blame.{words_before}
use Rattle.std.proofs.Common.{◌≤◌, ◌≡◌}
use Rattle.causes.proofs.words_before.Given as goal

abbrev pub invariant-loop-i : goal.invariant-loop-i
invariant-loop-i l = (l.k ≤ l.i) × (l.k ≡ words_before l.line l.i)
