use Prim.Native.Nat.{◌-◌}
use mathlib.Core.Path.{◌≡◌}
use lib.ListN.{drop}
use Rattle.faults.specs.Faults.{has_no_break}
use Rattle.faults.proofs.words.has_no_break.Given as goal

abbrev pub invariant-loop-k : goal.invariant-loop-k
invariant-loop-k l = has_no_break (drop (l.k - 1) l.w) ≡ has_no_break l.w
