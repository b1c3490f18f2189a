use mathlib.Core.Path.{◌≡◌}
use Prim.Native.Nat.{◌≤◌}
use lib.ListN.{drop}
use Rattle.words.specs.Words.{limit, digits_from, digits_of}
use Rattle.words.proofs.number.Given as goal

abbrev pub invariant-loop-b : goal.invariant-loop-b
invariant-loop-b l = (l.x ≤ limit) × (digits_from l.base l.x (drop l.b-index l.w) ≡ digits_of l.base l.w)
