-- The cells that the rules answer.
use Rattle.std.specs.Prelude.{false, ℕ}
use Rattle.charts.specs.declared.Entry.{Entry}

-- the node goes to a place with a report's word, and no pending mark is made
abbrev pub tells : ℕ → ℕ → Entry
tells p w = record { place = p; word = w; pends = false }
