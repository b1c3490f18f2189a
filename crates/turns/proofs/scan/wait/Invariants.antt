use Rattle.std.proofs.Common.{◌≡◌, false}
use mathlib.Core.Bool.{◌||◌}
use Rattle.charts.specs.State.{some}
use Rattle.charts.specs.Trials.{least}
use Rattle.charts.specs.View.{mark}
use Rattle.turns.specs.Turns.{left_in, full_in}
use Rattle.turns.proofs.scan.wait.Given as goal

abbrev pub invariant-loop-k : goal.invariant-loop-k
invariant-loop-k l = record { free : some (λ k. full_in l.bus.nodes k || mark l.bus.won k) l.k ≡ false; lowest : l.least ≡ least (left_in l.kept) l.k }
