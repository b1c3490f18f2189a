-- The turns of this walk: its state is block 0's n, and an accepted action prints nothing. Assumes nothing.
use mathlib.Core.Path.{refl}
use Rattle.walk.proofs.Nodes.{KeepsN}
use Rattle.summing.specs.Summed.{tracing}

pub tracing_n : KeepsN tracing
tracing_n = record { opening_n = λ n. refl; nodes_n = λ n. refl; turn_n = λ i a n. refl }
