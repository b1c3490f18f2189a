-- What the next receiver gets of a signal: "5. pass", "6. lose", "7. change".
use Rattle.std.specs.Prelude.{Bool, true, false, cond, not, ◌&&◌, ℕ, eqb}
use Rattle.charts.specs.declared.Signal.{Signal}
use Rattle.charts.specs.declared.Signal.TheVariants.{Start, End, Prefix, Gap, Dhead, Dest, Header, Data, Ack}
use Rattle.charts.specs.declared.Way.{Way}
use Rattle.charts.specs.declared.Way.TheVariants.{Pass, Lose, Change}
use Rattle.charts.specs.declared.Arrival.{Arrival}
use Rattle.charts.specs.declared.Arrival.TheVariants.{Closed, Lost, Hears}

-- "The next receiver gets the signal. A Header reaches a misled node with a bad check."
abbrev pub passed : Bool → Signal → Signal
passed misled Start = Start
passed misled End = End
passed misled Prefix = Prefix
passed misled Gap = Gap
passed misled Dhead = Dhead
passed misled (Dest a) = Dest a
passed misled (Header h good) = Header h (good && not misled)
passed misled (Data d good) = Data d good
passed misled (Ack a good) = Ack a good

-- "it gets nothing. Only for Header, Data, Ack."
abbrev pub lost : Signal → Arrival
lost Start = Closed
lost End = Closed
lost Prefix = Closed
lost Gap = Closed
lost Dhead = Closed
lost (Dest a) = Closed
lost (Header h good) = Lost
lost (Data d good) = Lost
lost (Ack a good) = Lost

-- "a Dest arrives as that other address and the receiver is marked misled; Header, Data, Ack arrive with a bad check, and here the address field is 0.
-- Not open otherwise: the Dest's own address, or a non-zero field here, is 7."
abbrev pub changed : ℕ → Signal → Arrival
changed b Start = Closed
changed b End = Closed
changed b Prefix = Closed
changed b Gap = Closed
changed b Dhead = Closed
changed b (Dest a) = cond (eqb a b) Closed (Hears (Dest b) true)
changed b (Header h good) = cond (eqb b 0) (Hears (Header h false) false) Closed
changed b (Data d good) = cond (eqb b 0) (Hears (Data d false) false) Closed
changed b (Ack a good) = cond (eqb b 0) (Hears (Ack a false) false) Closed

-- what arrives of the signal s at a node with its misled mark
unfoldable pub arrives : Way → Bool → Signal → Arrival
arrives Pass misled s = Hears (passed misled s) false
arrives Lose misled s = lost s
arrives (Change b) misled s = changed b s
