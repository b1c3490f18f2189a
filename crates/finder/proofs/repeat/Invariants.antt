use mathlib.Core.Path.{◌≡◌}
use Prim.Native.Nat.{◌-◌}
use Rattle.charts.specs.View.{view}
use Rattle.finder.specs.Reader.{repeated}
use Rattle.finder.proofs.repeat.Given as goal

abbrev pub invariant-loop : goal.invariant-loop
invariant-loop l = repeated l.times (view l.fn.bus) l.a ≡ repeated (l.times - l.counter) (view l.bus) l.a
