-- What a node puts out when it is clocked, by its mode ("4. clock"). Who may be clocked is the bus's matter (Actions.antt).
use Rattle.std.specs.Prelude.{Bool, true, cond, ℕ, eqb}
use Rattle.charts.specs.declared.Mode.{Mode}
use Rattle.charts.specs.declared.Mode.TheVariants.{Rest, AwaitAck, AckBody, AckEnd, Opened, Addressed, HeadOwn, HeadAll, BodyOwn, BodyAll, TailOwn, TailAll, Wait, Owed, Sending, Told, Answering, Acking, Holding, Spurious, Listening, Asked}
use Rattle.charts.specs.declared.Signal.{Signal}
use Rattle.charts.specs.declared.Signal.TheVariants.{Start, End, Prefix, Dhead, Dest, Header, Data, Ack}
use Rattle.charts.specs.declared.Report.TheVariants.{Silent, Sent}
use Rattle.charts.specs.declared.Packet.{Packet}
use Rattle.charts.specs.declared.Output.{Output}
use Rattle.charts.specs.declared.Output.TheVariants.{Nothing, Frees, Puts}
use Rattle.charts.specs.Signals.{everybody}

abbrev pub puts : Signal → Mode → Output
puts s m = Puts s m Silent

-- "Sending puts out in turn Start, Dhead, Dest, Header, Data, End. After End: address 63: report sent, Rest; else AwaitAck." (Request 3: `sent` ends with the packet's label. A step over 5 is no valid state's.)
abbrev pub sends : ℕ → ℕ → Packet → Output
sends i k p =
    cond (eqb k 0) (puts Start (Sending 1))
    (cond (eqb k 1) (puts Dhead (Sending 2))
    (cond (eqb k 2) (puts (Dest p.to) (Sending 3))
    (cond (eqb k 3) (puts (Header p.head true) (Sending 4))
    (cond (eqb k 4) (puts (Data p.datum true) (Sending 5))
    (cond (eqb p.to everybody) (Puts End Rest (Sent i p.head.label)) (puts End AwaitAck))))))

-- "Acking puts out Start, Ack, and then End (hold 0, → Rest) or Prefix (hold 1, → Holding)." (A step over 2 is no valid state's.)
abbrev pub acks : ℕ → ℕ → Bool → Output
acks k a hold =
    cond (eqb k 0) (puts Start (Acking 1 a hold))
    (cond (eqb k 1) (puts (Ack a true) (Acking 2 a hold))
    (cond hold (puts Prefix Holding) (puts End Rest)))

-- what node i in a mode puts out; p is the packet that it is sending
unfoldable pub output : ℕ → Mode → Packet → Output
output i Rest p = Nothing
output i AwaitAck p = Nothing
output i AckBody p = Nothing
output i (AckEnd x) p = Nothing
output i Opened p = Nothing
output i Addressed p = Nothing
output i HeadOwn p = Nothing
output i HeadAll p = Nothing
output i (BodyOwn h) p = Nothing
output i (BodyAll h) p = Nothing
output i (TailOwn h d) p = Nothing
output i (TailAll h d) p = Nothing
output i Wait p = Nothing
output i Owed p = Nothing
output i (Sending k) p = sends i k p
output i Told p = Nothing
-- "Answering and Holding put out Prefix and stay: a filler clock"
output i Answering p = puts Prefix Answering
output i (Acking k a hold) p = acks k a hold
output i Holding p = puts Prefix Holding
-- "Spurious: its End reaches nobody"
output i Spurious p = Frees
output i Listening p = Nothing
output i Asked p = Nothing
