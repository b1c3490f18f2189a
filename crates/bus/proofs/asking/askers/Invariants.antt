use Rattle.std.proofs.Common.{◌≡◌, ◌≤◌}
use Rattle.bus.specs.Asking.{askers_in}
use Rattle.bus.proofs.asking.askers.Given as goal

abbrev pub invariant-loop-k : goal.invariant-loop-k
invariant-loop-k l = (l.k ≤ l.k-end) × (l.found ≡ askers_in l.nodes l.k) × (l.found ≤ l.k)
