-- What a phase that fits says of its nodes. Assumes nothing.
use mathlib.Core.Path.{◌≡◌}
use mathlib.Core.Bool.{true}
use Prim.Native.Nat.{ℕ, ◌<◌, ◌≤◌}
use native.Mathlib.Omega.{arith}
use lib.Dec.{ltb}
use borrow.Author.Tests.{ltb-true}
use Rattle.charts.specs.declared.Phase.{Phase}
use Rattle.charts.specs.declared.Phase.TheVariants.{Idle, Busy, Delivering, Granting, Gapping}
use Rattle.charts.specs.Actions.{next_of}
use Rattle.charts.specs.Valid.{phase_fits}
use Rattle.charts.proofs.Tools.{and-true}

-- the node that gets the next signal or the next Gap has a place in the arrays
pub next_below : (n : ℕ) (p : Phase) → n ≤ 63 → phase_fits n p ≡ true → next_of p < 63
unfolding phase_fits
next_below n Idle h e = omega arith
next_below n Busy h e = omega arith
next_below n (Delivering i s j) h e = omega (arith, ltb-true j n (and-true (ltb j n) _ (and-true (ltb i n) _ e).1).0)
next_below n Granting h e = omega arith
next_below n (Gapping j) h e = omega (arith, ltb-true j n e)
