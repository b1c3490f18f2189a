-- Request 10, "no more packets to oneself", beside demand 3. No proof is in this file.
use Rattle.std.specs.Prelude.{◌≡◌, false, ℕ}
use mathlib.Core.List.{List, Memᴰ}
use Rattle.charts.specs.declared.Packet.{Packet}
use Rattle.charts.specs.declared.Report.{Report}
use Rattle.charts.specs.declared.Move.TheVariants.{Request}
use Rattle.charts.specs.declared.Action.{Action}
use Rattle.charts.specs.State.{State}
use Rattle.charts.specs.Records.{is_own}
use Rattle.charts.specs.Step.{accepted, events}

-- "Requests to a node's own number […] are retired, for Rest and Holding alike": of a list of action records, played from any state handed in, no accepted request is one
abbrev pub NoneToItself : State → List Action → Type 0
NoneToItself s l = (i : ℕ) (p : Packet) (r : Report) → Memᴰ (accepted (Request i p) r) (events s l) → is_own i p.to ≡ false
