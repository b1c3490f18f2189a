-- Kinds 2 and 12 alike: a node in the mode from which the kind decides is decided. (proofs/Decided.antt: this is `arbitrate` and `decide` of the charts.)
use Rattle.std.specs.Prelude.{Bool, false, ℕ}
use Rattle.charts.specs.declared.Mode.{Mode}
use Rattle.charts.specs.declared.Phase.{Phase}
use Rattle.charts.specs.declared.Cell.{Cell}
use Rattle.charts.specs.declared.Move.{Move}
use Rattle.charts.specs.declared.Move.TheVariants.{Request, Arbitrate, Respond, Clock, Carry, Grant, GapNext, Reset, Ask, Decide}
use Rattle.charts.specs.Modes.{is_rest, is_asked}
use Rattle.charts.specs.Actions.{Outcome, when, decided}

abbrev pub decides_from : Mode → Move → Bool
decides_from m (Request i p) = false
decides_from m (Arbitrate i) = is_rest m
decides_from m (Respond i a hold) = false
decides_from m (Clock i) = false
decides_from m (Carry w) = false
decides_from m Grant = false
decides_from m GapNext = false
decides_from m Reset = false
decides_from m (Ask i) = false
decides_from m (Decide i) = is_asked m

abbrev pub decides : Phase → ℕ → Cell → Move → Outcome
decides p i c m = when (decides_from c.mode m) (decided p i c c.buffer)
