-- Walks that read a file and do not play it: their state is block 0's n.
use Rattle.std.specs.Prelude.{ℕ}
use Rattle.files.specs.declared.order.Stage.{Stage}
use Rattle.files.specs.declared.order.Stage.TheVariants.{Unopened}
use Rattle.walk.specs.Feeding.{Walking}

-- such a walk between two pieces, and before a file
abbrev pub reading : ℕ → Stage → Walking ℕ
reading n g = record { state = n; stage = g }

abbrev pub started : Walking ℕ
started = reading 0 Unopened
