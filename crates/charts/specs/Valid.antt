-- Number 12: which states may be handed in. Only the phase and the nodes below n are looked at.
use Rattle.std.specs.Prelude.{Bool, true, ◌&&◌, not, ℕ, eqb, ltb, None, Option, Some}
use Rattle.charts.specs.declared.Mode.{Mode}
use Rattle.charts.specs.declared.Mode.TheVariants.{Rest, AwaitAck, AckBody, AckEnd, Opened, Addressed, HeadOwn, HeadAll, BodyOwn, BodyAll, TailOwn, TailAll, Wait, Owed, Sending, Told, Answering, Acking, Holding, Spurious, Listening, Asked}
use Rattle.charts.specs.declared.Signal.{Signal}
use Rattle.charts.specs.declared.Signal.TheVariants.{Start, End, Prefix, Gap, Dhead, Dest, Header, Data, Ack}
use Rattle.charts.specs.declared.Packet.{Packet}
use Rattle.charts.specs.declared.Phase.{Phase}
use Rattle.charts.specs.declared.Phase.TheVariants.{Idle, Busy, Delivering, Granting, Gapping}
use Rattle.charts.specs.declared.Cell.{Cell}
use Rattle.charts.specs.Records.{is_address, is_label}
use Rattle.charts.specs.State.{State, every}

-- "n not 2–63" is refused
abbrev pub is_size : ℕ → Bool
is_size n = ltb 1 n && ltb n 64

-- "an acknowledgement over 15": the one that AckEnd remembers, Acking's, and that of the Ack under way
abbrev pub is_ack : ℕ → Bool
is_ack a = ltb a 16

abbrev pub seen_fits : Option ℕ → Bool
seen_fits (Some a) = is_ack a
seen_fits None = true

-- "a step of Sending over 5 or of Acking over 2"; request 3: "A state handed in that holds a label over 63", in a header that a mode remembers, in a packet or in the Header under way
unfoldable pub mode_fits : Mode → Bool
mode_fits Rest = true
mode_fits AwaitAck = true
mode_fits AckBody = true
mode_fits (AckEnd x) = seen_fits x
mode_fits Opened = true
mode_fits Addressed = true
mode_fits HeadOwn = true
mode_fits HeadAll = true
mode_fits (BodyOwn h) = is_label h.label
mode_fits (BodyAll h) = is_label h.label
mode_fits (TailOwn h d) = is_label h.label
mode_fits (TailAll h d) = is_label h.label
mode_fits Wait = true
mode_fits Owed = true
mode_fits (Sending k) = ltb k 6
mode_fits Told = true
mode_fits Answering = true
mode_fits (Acking k a hold) = ltb k 3 && is_ack a
mode_fits Holding = true
mode_fits Spurious = true
mode_fits Listening = true
mode_fits Asked = true

-- "an address neither below n nor 63": that of the packet in a full buffer, of the packet being sent, and of the Dest under way
abbrev pub packet_fits : ℕ → Packet → Bool
packet_fits n p = is_address n p.to && is_label p.head.label

abbrev pub buffer_fits : ℕ → Option Packet → Bool
buffer_fits n None = true
buffer_fits n (Some p) = packet_fits n p

unfoldable pub cell_fits : ℕ → Cell → Bool
cell_fits n c = mode_fits c.mode && (buffer_fits n c.buffer && packet_fits n c.sending)

abbrev pub signal_fits : ℕ → Signal → Bool
signal_fits n Start = true
signal_fits n End = true
signal_fits n Prefix = true
signal_fits n Gap = true
signal_fits n Dhead = true
signal_fits n (Dest a) = is_address n a
signal_fits n (Header h good) = is_label h.label
signal_fits n (Data d good) = true
signal_fits n (Ack a good) = is_ack a

-- "a sender, receiver or gap node not below n; receiver equal to sender"
unfoldable pub phase_fits : ℕ → Phase → Bool
phase_fits n Idle = true
phase_fits n Busy = true
phase_fits n (Delivering i s j) = ltb i n && (ltb j n && (not (eqb i j) && signal_fits n s))
phase_fits n Granting = true
phase_fits n (Gapping j) = ltb j n

unfoldable pub valid : State → Bool
valid s = is_size s.n && (phase_fits s.n s.phase && every (λ k. cell_fits s.n (s.cell k)) s.n)
