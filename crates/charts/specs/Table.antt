-- Request 2: the reception chart as one table, 25 modes by 14 classes. "Each cell names the next mode, the report and whether a pending mark is made."
use Rattle.std.specs.Prelude.{false, ℕ, get_or}
use Rattle.charts.specs.declared.Mode.{Mode}
use Rattle.charts.specs.declared.Mode.TheVariants.{Spurious}
use Rattle.charts.specs.declared.Signal.TheVariants.{Start}
use Rattle.charts.specs.declared.Heard.{Heard}
use Rattle.charts.specs.declared.Entry.{Entry}
use Rattle.charts.specs.Modes.{place_of}
use Rattle.charts.specs.Places.{modes}
use Rattle.charts.specs.Signals.{no_head}
use Rattle.charts.specs.Words.{word_of}
use Rattle.charts.specs.Reception.{answer}

-- what a cell names of what a node heard
abbrev pub entry_of : Heard → Entry
entry_of x = record { place = place_of x.mode; word = word_of x.report; pends = x.pends }

-- a mode at each place; past the table's 25 it is Spurious, which stays
abbrev pub mode_at : ℕ → Mode
mode_at p = get_or (modes 0 0 false no_head 0) p Spurious

-- the cell of a mode's place and a signal's class: the chart at a mode of that place. (The node's number and label, what the mode remembers and the signal carries change no cell: proofs/Places.antt.)
abbrev pub entry : ℕ → ℕ → Entry
entry p c = entry_of (answer 0 0 (mode_at p) c Start)
