-- The lengths are tried one after the other, from 1 to the depth. Assumes nothing.
use mathlib.Core.Path.{◌≡◌}
use mathlib.Core.Bool.{false}
use Prim.Native.Nat.{ℕ, ◌<◌}
use Rattle.charts.specs.declared.Report.TheVariants.{Silent}
use Rattle.charts.specs.View.{view}
use Rattle.routes.specs.Search.{searched}
use Rattle.routes.proofs.find.Given as goal

-- no route has fewer than `count` records
abbrev pub invariant-loop-count : goal.invariant-loop-count
invariant-loop-count l = (j : ℕ) → j < l.count → (searched j (view l.b) Silent l.q).found ≡ false
