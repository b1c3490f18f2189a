-- The measure is what is left.
use Rattle.std.proofs.Common.{◌-◌, ◌≡◌}
use Rattle.charts.specs.View.{view}
use Rattle.routes.specs.Choices.{choices}
use Rattle.routes.specs.Search.{first_from, following}
use Rattle.routes.proofs.search.+search.Given as goal

abbrev pub decreases-search : goal.decreases-search
decreases-search l = l.left

-- the choices from the k-th on give what all of them give
abbrev pub invariant-loop-k : goal.invariant-loop-k
invariant-loop-k l = first_from (following (l.left - 1) (view l.b) l.q) (choices l.b.n l.b.phase) 0 ≡ first_from (following (l.left - 1) (view l.b) l.q) (choices l.b.n l.b.phase - l.k) l.k
