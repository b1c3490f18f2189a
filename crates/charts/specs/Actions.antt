-- "Bus and actions": what each of the twelve kinds of action does. An action is about one node i: it makes a report, the bus goes to a phase, and that node's cell changes;
-- beyond that a Start clears the misled marks, a reset the won marks, and the bus's own mark is set by the Prefix that closes an acknowledgement and cleared where the bus becomes Idle.
-- So each action is a function of the few values that it looks at. Where a node gets a signal, what it does with it is the function h: the chart `hears`, which a table may stand for.
use Rattle.std.specs.Prelude.{Bool, true, false, cond, ◌&&◌, ◌||◌, not, ℕ, suc, eqb, ltb, None, Option, Some}
use Rattle.charts.specs.declared.Mode.{Mode}
use Rattle.charts.specs.declared.Mode.TheVariants.{Rest, Sending, Answering, Acking, Spurious, Asked}
use Rattle.charts.specs.declared.Signal.{Signal}
use Rattle.charts.specs.declared.Signal.TheVariants.{Gap}
use Rattle.charts.specs.declared.Report.{Report}
use Rattle.charts.specs.declared.Report.TheVariants as R
use Rattle.charts.specs.declared.Packet.{Packet}
use Rattle.charts.specs.declared.Phase.{Phase}
use Rattle.charts.specs.declared.Phase.TheVariants.{Idle, Busy, Delivering, Granting, Gapping}
use Rattle.charts.specs.declared.Cell.{Cell}
use Rattle.charts.specs.declared.Heard.{Heard}
use Rattle.charts.specs.declared.Output.{Output}
use Rattle.charts.specs.declared.Output.TheVariants as O
use Rattle.charts.specs.declared.Way.{Way}
use Rattle.charts.specs.declared.Arrival.{Arrival}
use Rattle.charts.specs.declared.Arrival.TheVariants as A
use Rattle.charts.specs.declared.Marking.{Marking}
use Rattle.charts.specs.declared.Marking.TheVariants as M
use Rattle.charts.specs.declared.Move.{Move}
use Rattle.charts.specs.declared.Move.TheVariants.{Request, Arbitrate, Respond, Clock, Carry, Grant, GapNext, Reset, Ask, Decide}
use Rattle.charts.specs.Modes.{is_rest, is_holding, is_answering, is_acking, is_told, is_owed, is_asked}
use Rattle.charts.specs.Signals.{is_start, is_end, is_prefix}
use Rattle.charts.specs.Reception.{Reception}
use Rattle.charts.specs.Outputs.{output}
use Rattle.charts.specs.Arrivals.{arrives}
use Rattle.charts.specs.State.{set_mode, set_buffer, set_sending, set_won, set_pending, set_holder, set_misled, upd, some, others, lowest, is_idle, is_busy, is_granting, is_empty}

-- what an action comes to: it is not open; or its report, the bus's next phase, its node's next cell and the other marks changed
pub data Outcome : Type 0 where
  closed : Outcome
  does : Report → Phase → Cell → Marking → Outcome

abbrev pub quietly : Phase → Cell → Outcome
quietly p c = does R.Silent p c M.Nothing

abbrev pub when : Bool → Outcome → Outcome
when true o = o
when false o = closed

-- the node starts to send a packet
abbrev pub starts : Packet → Cell → Cell
starts p c = set_mode (Sending 0) (set_sending p c)

-- 1. request: "in Rest with an empty buffer it fills the buffer; in Holding it becomes the packet being sent, → Sending"
abbrev pub fills : Packet → Cell → Cell
fills p c = set_buffer (Some p) c

abbrev pub replies : Packet → Cell → Cell
replies p c = starts p c

unfoldable pub request : Phase → Cell → Packet → Outcome
request ph c p =
    cond (is_rest c.mode && is_empty c.buffer) (quietly ph (fills p c))
    (when (is_holding c.mode) (quietly ph (replies p c)))

-- 2. arbitrate: "in Rest, buffer full. Bus Idle and not marked won: report won, mark won and holder, bus Busy, packet leaves the buffer, → Sending.
-- Otherwise report lost; nothing changes". (12: "a loser returns to Rest"; a loser of kind 2 is there already: proofs/Asking.antt, lost-stays)
abbrev pub wins : Packet → Cell → Cell
wins p c = set_buffer None (set_won true (set_holder true (starts p c)))

abbrev pub loses : Cell → Cell
loses c = set_mode Rest c

abbrev pub decided : Phase → ℕ → Cell → Option Packet → Outcome
decided ph i c None = closed
decided ph i c (Some p) =
    cond (is_idle ph && not c.won)
    (does (R.Won i) Busy (wins p c) M.Nothing)
    (does (R.Lost i) ph (loses c) M.Nothing)

unfoldable pub arbitrate : Phase → ℕ → Cell → Outcome
arbitrate ph i c = when (is_rest c.mode) (decided ph i c c.buffer)

-- 3. respond: "in Answering → Acking"
abbrev pub answers : ℕ → Bool → Cell → Cell
answers a hold c = set_mode (Acking 0 a hold) c

-- the bus's mark, request 1: "While it is set, respond with hold 1 is not open"
abbrev pub may_answer : Bool → Bool → Bool
may_answer concatenated hold = not (concatenated && hold)

unfoldable pub respond : Phase → Bool → Cell → ℕ → Bool → Outcome
respond ph concatenated c a hold = when (is_answering c.mode && may_answer concatenated hold) (quietly ph (answers a hold c))

-- "every other node, lowest first": the first receiver of node i's signals, and the one after j
abbrev pub first_other : ℕ → ℕ
first_other i = cond (eqb i 0) 1 0

abbrev pub next_other : ℕ → ℕ → ℕ
next_other i j = cond (eqb (suc j) i) (suc (suc j)) (suc j)

-- 4. clock. "Spurious: its End reaches nobody; it goes to Rest and stops being holder; no holder left: bus Gapping from 0."
abbrev pub freed : Cell → Cell
freed c = set_mode Rest (set_holder false c)

abbrev pub after_free : ℕ → ℕ → (ℕ → Bool) → Phase
after_free n i hs = cond (others hs i n) Busy (Gapping 0)

-- "A signal put out makes the bus Delivering to every other node, lowest first. Start clears the misled marks. End ends the holding."
abbrev pub puts_out : Signal → Mode → Cell → Cell
puts_out s m c = set_mode m (set_holder (not (is_end s)) c)

-- the bus's mark, request 1: "set when an Acking node puts out its closing Prefix" (an Acking node puts out no other)
abbrev pub marking_by : Mode → Signal → Marking
marking_by m s = cond (is_start s) M.Misled (cond (is_acking m && is_prefix s) (M.Concatenated true) M.Nothing)

-- "bus Busy, node a holder, and either it is Spurious, or it is the only holder and in Sending, Answering, Acking or Holding"
abbrev pub clock_with : ℕ → ℕ → Cell → (ℕ → Bool) → Output → Outcome
clock_with n i c hs O.Nothing = closed
clock_with n i c hs O.Frees = when c.holder (quietly (after_free n i hs) (freed c))
clock_with n i c hs (O.Puts s m r) =
    when (c.holder && not (others hs i n))
    (does r (Delivering i s (first_other i)) (puts_out s m c) (marking_by c.mode s))

unfoldable pub clock : ℕ → Phase → ℕ → Cell → (ℕ → Bool) → Outcome
clock n ph i c hs = when (is_busy ph) (clock_with n i c hs (output i c.mode c.sending))

-- 5, 6, 7. "After the last receiver: not End: Busy. End: Granting if a node is pending, else Gapping from 0."
abbrev pub onward : ℕ → ℕ → Signal → ℕ → (ℕ → Bool) → Phase
onward n i s j ps =
    cond (ltb (next_other i j) n) (Delivering i s (next_other i j)) (cond (is_end s) (cond (some ps n) Granting (Gapping 0)) Busy)

-- what node j with the cell c does with a signal. "A confirmation […] bears the label of its own request": that of the packet that the node is sending
abbrev pub label_of : Cell → ℕ
label_of c = c.sending.head.label

abbrev pub receives : Reception → ℕ → Cell → Signal → Heard
receives h j c t = h j (label_of c) c.mode t

-- the receiver's cell after what it heard: it may be entered as pending, or marked misled
abbrev pub hearing : Cell → Heard → Bool → Cell
hearing c x misleads = set_mode x.mode (set_pending (c.pending || x.pends) (set_misled (c.misled || misleads) c))

abbrev pub delivers : ℕ → ℕ → Signal → ℕ → (ℕ → Bool) → Report → Cell → Outcome
delivers n i s j ps r c = does r (onward n i s j (upd ps j c.pending)) c M.Nothing

abbrev pub deliver_with : Reception → ℕ → ℕ → Signal → ℕ → Cell → (ℕ → Bool) → Arrival → Outcome
deliver_with h n i s j c ps A.Closed = closed
deliver_with h n i s j c ps A.Lost = delivers n i s j ps R.Silent c
deliver_with h n i s j c ps (A.Hears t misleads) = delivers n i s j ps (receives h j c t).report (hearing c (receives h j c t) misleads)

-- "bus Delivering, as for 6 and 7"
unfoldable pub carry : Reception → ℕ → Phase → Cell → (ℕ → Bool) → Way → Outcome
carry h n Idle c ps w = closed
carry h n Busy c ps w = closed
carry h n (Delivering i s j) c ps w = deliver_with h n i s j c ps (arrives w c.misled s)
carry h n Granting c ps w = closed
carry h n (Gapping j) c ps w = closed

-- 8. grant: "bus Granting. The lowest pending node, if any, stops being pending and becomes holder: Told → Answering, Owed → Spurious, another mode kept.
-- If none is pending after that: Busy."
abbrev pub granted : Mode → Mode
granted m = cond (is_told m) Answering (cond (is_owed m) Spurious m)

abbrev pub takes_grant : Cell → Cell
takes_grant c = set_mode (granted c.mode) (set_pending false (set_holder true c))

abbrev pub after_grant : ℕ → ℕ → (ℕ → Bool) → Phase
after_grant n i ps = cond (others ps i n) Granting Busy

unfoldable pub grant : ℕ → Phase → ℕ → Cell → (ℕ → Bool) → Outcome
grant n ph i c ps =
    when (is_granting ph) (cond (some ps n)
    (quietly (after_grant n i ps) (takes_grant c))
    (quietly Busy c))

-- 9. gap: "bus Gapping. The next node gets Gap; after node n−1 the bus is Idle."
abbrev pub takes_gap : Reception → ℕ → Cell → Cell
takes_gap h j c = hearing c (receives h j c Gap) false

-- the bus's mark, request 1: "cleared when the bus becomes Idle"
abbrev pub marking_at_idle : Marking
marking_at_idle = M.Concatenated false

abbrev pub gaps_to : Reception → Phase → Marking → ℕ → Cell → Outcome
gaps_to h p x j c = does (receives h j c Gap).report p (takes_gap h j c) x

unfoldable pub gap : Reception → ℕ → Phase → Cell → Outcome
gap h n Idle c = closed
gap h n Busy c = closed
gap h n (Delivering i s j) c = closed
gap h n Granting c = closed
gap h n (Gapping j) c = cond (ltb (suc j) n) (gaps_to h (Gapping (suc j)) M.Nothing j c) (gaps_to h Idle marking_at_idle j c)

-- 10. reset: "bus Idle with some won mark; clears these marks"
unfoldable pub reset : ℕ → Phase → Cell → (ℕ → Bool) → Outcome
reset n ph c ws = when (is_idle ph && some ws n) (does R.Silent ph c M.Won)

-- 11. ask: "in Rest with a full buffer → Asked, the listings' Link1; any bus"
abbrev pub asks : Cell → Cell
asks c = set_mode Asked c

unfoldable pub ask : Phase → Cell → Outcome
ask ph c = when (is_rest c.mode && not (is_empty c.buffer)) (quietly ph (asks c))

-- 12. decide: "an Asked node with a full buffer is decided as kind 2 decides, won or lost; a loser returns to Rest"
unfoldable pub decide : Phase → ℕ → Cell → Outcome
decide ph i c = when (is_asked c.mode) (decided ph i c c.buffer)

-- kinds 4 to 10, which wait until every node that asked is decided
abbrev pub waits_for_asked : Move → Bool
waits_for_asked (Request i p) = false
waits_for_asked (Arbitrate i) = false
waits_for_asked (Respond i a hold) = false
waits_for_asked (Clock i) = true
waits_for_asked (Carry w) = true
waits_for_asked Grant = true
waits_for_asked GapNext = true
waits_for_asked Reset = true
waits_for_asked (Ask i) = false
waits_for_asked (Decide i) = false

-- "While a node is Asked, kinds 4 to 10 are not open." Whether an action may be, where q says that a node is Asked
abbrev pub may_be_open : Bool → Move → Bool
may_be_open q m = not (waits_for_asked m && q)

-- the node that an action is about: the one that it names; the next receiver; the lowest pending node; the next node to get Gap. (A reset is about none: node 0's cell stays.)
abbrev pub next_of : Phase → ℕ
next_of Idle = 0
next_of Busy = 0
next_of (Delivering i s j) = j
next_of Granting = 0
next_of (Gapping j) = j

abbrev pub target : ℕ → Phase → (ℕ → Bool) → Move → ℕ
target n ph ps (Request i p) = i
target n ph ps (Arbitrate i) = i
target n ph ps (Respond i a hold) = i
target n ph ps (Clock i) = i
target n ph ps (Carry w) = next_of ph
target n ph ps Grant = lowest ps n 0
target n ph ps GapNext = next_of ph
target n ph ps Reset = 0
target n ph ps (Ask i) = i
target n ph ps (Decide i) = i

-- the outcome of an action about node i, whose cell is c; b is the bus's own mark, ws, ps and hs are the won, pending and holder marks of all nodes
unfoldable pub outcome : Reception → ℕ → Phase → Bool → ℕ → Cell → (ℕ → Bool) → (ℕ → Bool) → (ℕ → Bool) → Move → Outcome
outcome h n ph b i c ws ps hs (Request j p) = request ph c p
outcome h n ph b i c ws ps hs (Arbitrate j) = arbitrate ph i c
outcome h n ph b i c ws ps hs (Respond j a hold) = respond ph b c a hold
outcome h n ph b i c ws ps hs (Clock j) = clock n ph i c hs
outcome h n ph b i c ws ps hs (Carry w) = carry h n ph c ps w
outcome h n ph b i c ws ps hs Grant = grant n ph i c ps
outcome h n ph b i c ws ps hs GapNext = gap h n ph c
outcome h n ph b i c ws ps hs Reset = reset n ph c ws
outcome h n ph b i c ws ps hs (Ask j) = ask ph c
outcome h n ph b i c ws ps hs (Decide j) = decide ph i c
