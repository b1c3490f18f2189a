use mathlib.Core.Path.{ap}
use Rattle.charts.specs.Step.{begin}
use Rattle.finder.specs.Reader.{started, on_bus}
use Rattle.finder.proofs.start.Goals as goal

pub returns : goal.returns
unfolding begin
returns c = ap (on_bus started) (ap (λ r. r.state) c.fresh.ensures)
