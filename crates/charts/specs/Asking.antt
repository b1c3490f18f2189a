-- Request 6, "asking and deciding as two moves": what its sentences promise beside the charts that say what kinds 11 and 12 do, and beside demand 3. No proof is in this file.
use Rattle.std.specs.Prelude.{◌≡◌, true, false, List, ℕ, ◌<◌}
use Rattle.charts.specs.declared.Mode.TheVariants.{Asked}
use Rattle.charts.specs.declared.Signal.{Signal}
use Rattle.charts.specs.declared.Action.{Action}
use Rattle.charts.specs.Modes.{is_asked}
use Rattle.charts.specs.Reception.{Reception, goes}
use Rattle.charts.specs.State.{State, is_empty}
use Rattle.charts.specs.Records.{named}
use Rattle.charts.specs.Step.{some_asked, step}
use Rattle.charts.specs.Demand.{is_open, final}

-- a record that names node i alone: of kind 2, 11 or 12
abbrev pub of_node : ℕ → ℕ → Action
of_node kind i = named kind i 0

-- "Asked stays on every signal"
abbrev pub AskedStays : Reception → Type 0
AskedStays f = (me label : ℕ) (g : Signal) → f me label Asked g ≡ goes Asked

-- of every state, from a fresh bus or handed in
pub record AskThenDecide (s : State) : Type 0 where
  -- "While a node is Asked, kinds 4 to 10 are not open."
  pub bars : some_asked s ≡ true → (a : Action) → 3 < a.kind → a.kind < 11 → is_open s a ≡ false
  -- "Kind 2 goes on doing both": wherever it is open, kind 11 of the same node is, and kind 12 at once after that gives kind 2's report and leaves the bus, with its marks, as kind 2 does
  pub both : (i : ℕ) → is_open s (of_node 2 i) ≡ true → (is_open s (of_node 11 i) ≡ true) × (step (step s (of_node 11 i)).state (of_node 12 i) ≡ step s (of_node 2 i))

-- of a list of action records, played from the fresh bus of n nodes: an Asked node has a full buffer, so that its kind 12 is open
abbrev pub AskedFull : ℕ → List Action → Type 0
AskedFull n l = (i : ℕ) → is_asked ((final n l).cell i).mode ≡ true → is_empty ((final n l).cell i).buffer ≡ false
