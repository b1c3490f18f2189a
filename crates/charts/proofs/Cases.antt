-- Sanity, computed by the checker: the marked cases A to F and I of document 01, a reply and labels as a table, played by the charts, and a refusal of each number that a step, a trial and a question give.
use Rattle.std.specs.Prelude.{None, Some}
use mathlib.Core.Path.{◌≡◌, refl}
use mathlib.Core.Bool.{true, false, cond, true≢false}
use mathlib.Core.List.{List, [], ◌∷◌, ◌++◌, map}
use Prim.Native.Nat.{ℕ, zero, suc}
use lib.Dec.{lit≤}
use lib.ListN.{get_or, set, take, drop, replicate}
use Rattle.charts.specs.declared.Head.{Head}
use Rattle.charts.specs.declared.Mode.TheVariants.{BodyOwn, BodyAll, TailOwn, TailAll, Sending}
use Rattle.charts.specs.declared.Reading.TheVariants as Rd
use Rattle.charts.specs.declared.Signal.TheVariants.{Prefix, Header}
use Rattle.charts.specs.declared.Report.{Report}
use Rattle.charts.specs.declared.Report.TheVariants.{Silent, Won, Lost, Sent, Acked, Miss, Drop, Good, Dcrc, Broad}
use Rattle.charts.specs.declared.Packet.{Packet}
use Rattle.charts.specs.declared.Phase.{Phase}
use Rattle.charts.specs.declared.Phase.TheVariants.{Idle, Busy, Delivering, Granting, Gapping}
use Rattle.charts.specs.declared.Way.TheVariants.{Pass}
use Rattle.charts.specs.declared.Move.TheVariants.{Carry}
use Rattle.charts.specs.declared.Action.{Action}
use Rattle.charts.specs.declared.User.{User}
use Rattle.charts.specs.declared.Word.{Word}
use Rattle.charts.specs.declared.Word.TheVariants as W
use Rattle.charts.specs.declared.Question.{Question}
use Rattle.charts.specs.Numbers as N
use Rattle.charts.specs.Reception.{hears}
use Rattle.charts.specs.Outputs.{output}
use Rattle.charts.specs.Arrivals.{arrives}
use Rattle.charts.specs.State.{State, set_mode, set_buffer, set_sending, set_holder, moved, fresh_cell, fresh}
use Rattle.charts.specs.Actions as Actions
use Rattle.charts.specs.Actions.{outcome}
use Rattle.charts.specs.Records.{clean, move_of, read}
use Rattle.charts.specs.Layout.{bytes_of}
use Rattle.charts.specs.Valid.{mode_fits, cell_fits, phase_fits, valid}
use Rattle.charts.specs.Step.{Result, Event, refuses, play, look, step, begin, after, results, is_accepted}
use Rattle.charts.specs.Demand as Demand
use Rattle.charts.specs.Demand.{history, all_forward, meets_idle}
use Rattle.charts.specs.Stretch.{Witnessed}
use Rattle.charts.specs.Trials.{trial_number}
use Rattle.charts.specs.Routes.{IsRoute, precedes, gives, is_bus_event, last_report, route_number}
use Rattle.charts.proofs.Whole.{every_confirmation_of}
use Rattle.charts.proofs.Steps as S
use Rattle.charts.proofs.Steps.{Stepped, stepped}

-- the action records
abbrev act : ℕ → ℕ → ℕ → ℕ → ℕ → ℕ → ℕ → ℕ → Action
act kind node address ack hold label header datum =
    record { kind = kind; node = node; address = address; ack = ack; hold = hold; label = label; byte6 = 0; byte7 = 0; header = header; datum = datum }

abbrev request : ℕ → ℕ → ℕ → ℕ → ℕ → Action
request i to x h d = act 1 i to 0 0 x h d

abbrev arbitrate : ℕ → Action
arbitrate i = act 2 i 0 0 0 0 0 0

abbrev respond : ℕ → ℕ → ℕ → Action
respond i a hold = act 3 i 0 a hold 0 0 0

abbrev clock : ℕ → Action
clock i = act 4 i 0 0 0 0 0 0

abbrev pass : Action
pass = act 5 0 0 0 0 0 0 0

abbrev lose : Action
lose = act 6 0 0 0 0 0 0 0

abbrev change : ℕ → Action
change b = act 7 0 b 0 0 0 0 0

abbrev grant : Action
grant = act 8 0 0 0 0 0 0 0

abbrev gap : Action
gap = act 9 0 0 0 0 0 0 0

abbrev reset : Action
reset = act 10 0 0 0 0 0 0 0

abbrev ask : ℕ → Action
ask i = act 11 i 0 0 0 0 0 0

abbrev decide : ℕ → Action
decide i = act 12 i 0 0 0 0 0 0

abbrev times : ℕ → List Action → List Action
times zero l = []
times (suc k) l = l ++ times k l

-- what a run shows: each report and each refusal with its index, how many actions were accepted, and the bus at the end
pub record At (A : Type 0) : Type 0 where
  pub index : ℕ
  pub is : A

abbrev at : {A : Type 0} → ℕ → A → At A
at i a = record { index = i; is = a }

pub record Shown : Type 0 where
  pub reports : List (At Report)
  pub refusals : List (At ℕ)
  pub done : ℕ
  pub bus : Phase

abbrev said : ℕ → Report → List (At Report) → List (At Report)
said i Silent l = l
said i (Won j) l = at i (Won j) ∷ l
said i (Lost j) l = at i (Lost j) ∷ l
said i (Sent j x) l = at i (Sent j x) ∷ l
said i (Acked j a x) l = at i (Acked j a x) ∷ l
said i (Miss j x) l = at i (Miss j x) ∷ l
said i (Drop j m) l = at i (Drop j m) ∷ l
said i (Good j h d) l = at i (Good j h d) ∷ l
said i (Dcrc j h) l = at i (Dcrc j h) ∷ l
said i (Broad j h d) l = at i (Broad j h d) ∷ l

abbrev reports_from : ℕ → List Result → List (At Report)
reports_from i [] = []
reports_from i (r ∷ l) = said i r.report (reports_from (suc i) l)

abbrev refusals_from : ℕ → List Result → List (At ℕ)
refusals_from i [] = []
refusals_from i (r ∷ l) = cond (is_accepted r) (refusals_from (suc i) l) (at i r.number ∷ refusals_from (suc i) l)

abbrev accepted_of : List Result → ℕ
accepted_of [] = 0
accepted_of (r ∷ l) = cond (is_accepted r) (suc (accepted_of l)) (accepted_of l)

abbrev shows : State → List Action → Shown
shows s l = record { reports = reports_from 0 (results s l); refusals = refusals_from 0 (results s l); done = accepted_of (results s l); bus = (after s l).phase }

-- "n = 2: request 0 to 63 (header 1, data 2), arbitrate 0, six times clock 0 and pass, gap, gap" ("older runs hold 0" as their label)
abbrev a : List Action
a = request 0 63 0 1 2 ∷ arbitrate 0 ∷ times 6 (clock 0 ∷ pass ∷ []) ++ (gap ∷ gap ∷ [])

-- "as A but 0 to 1 (5, 6) […]; grant, respond 1 with 1 and hold 0, three times clock 1 and pass […]; two gaps"; with the label x
abbrev b : ℕ → List Action
b x = request 0 1 x 5 6 ∷ arbitrate 0 ∷ times 6 (clock 0 ∷ pass ∷ []) ++ (grant ∷ respond 1 1 0 ∷ times 3 (clock 1 ∷ pass ∷ []) ++ (gap ∷ gap ∷ []))

-- "n = 3, 0 to 1, node 2's Dest changed to 2", both grants; then clock 1, clock 2, clock 1
abbrev f : List Action
f =
    request 0 1 0 5 6 ∷ arbitrate 0 ∷ times 2 (clock 0 ∷ pass ∷ pass ∷ []) ++ (clock 0 ∷ pass ∷ change 2 ∷ times 3 (clock 0 ∷ pass ∷ pass ∷ []))
    ++ (grant ∷ grant ∷ clock 1 ∷ clock 2 ∷ clock 1 ∷ [])

-- one of document 01's traps, "A misled mark left over from the packet before": F played to its end, and then a packet for node 2, which had been misled
abbrev after_f : List Action
after_f =
    take 22 f ++ (clock 2 ∷ respond 1 1 0 ∷ times 3 (clock 1 ∷ pass ∷ pass ∷ []))
    ++ (gap ∷ gap ∷ gap ∷ reset ∷ request 0 2 0 7 8 ∷ arbitrate 0 ∷ times 6 (clock 0 ∷ pass ∷ pass ∷ []))

-- request 1: B with the label 7 and hold 1; node 1 replies to node 0, with the label 8, who hears it and acknowledges it
abbrev reply : List Action
reply =
    take 15 (b 7) ++ (respond 1 1 1 ∷ times 3 (clock 1 ∷ pass ∷ []) ++ (request 1 0 8 7 8 ∷ times 6 (clock 1 ∷ pass ∷ [])
    ++ (grant ∷ respond 0 2 0 ∷ times 3 (clock 0 ∷ pass ∷ []) ++ (gap ∷ gap ∷ []))))

-- n = 3: node 1 puts out a filler and then replies to all nodes
abbrev reply_all : List Action
reply_all =
    request 0 1 7 5 6 ∷ arbitrate 0 ∷ times 6 (clock 0 ∷ pass ∷ pass ∷ []) ++ (grant ∷ respond 1 1 1 ∷ times 4 (clock 1 ∷ pass ∷ pass ∷ [])
    ++ (request 1 63 8 7 8 ∷ times 6 (clock 1 ∷ pass ∷ pass ∷ []) ++ (gap ∷ gap ∷ gap ∷ [])))

-- request 3: the reply while a packet with the label 9 waits in node 1's buffer
abbrev waiting : List Action
waiting = request 1 0 9 1 2 ∷ reply

-- contention: both nodes ask before the bus decides, the first to be decided wins, and nothing goes on until the other has lost; it keeps its request and wins the next time
abbrev contention : List Action
contention =
    request 0 63 0 1 2 ∷ request 1 63 0 3 4 ∷ ask 0 ∷ ask 1 ∷ decide 0 ∷ clock 0 ∷ decide 1 ∷ times 6 (clock 0 ∷ pass ∷ []) ++ (gap ∷ gap ∷ ask 1 ∷ decide 1 ∷ decide 1 ∷ ask 0 ∷ [])

-- the longest way to Idle: the others have asked when node 0 wins and are decided; node 2 is misled, so that two nodes are granted; then a reply, and its acknowledgement
abbrev longest : List Action
longest =
    request 0 1 7 5 6 ∷ request 1 0 9 1 2 ∷ request 2 0 9 3 4 ∷ ask 1 ∷ ask 2 ∷ arbitrate 0 ∷ decide 1 ∷ decide 2 ∷ times 2 (clock 0 ∷ pass ∷ pass ∷ [])
    ++ (clock 0 ∷ pass ∷ change 2 ∷ times 3 (clock 0 ∷ pass ∷ pass ∷ []))
    ++ (grant ∷ grant ∷ clock 2 ∷ respond 1 1 1 ∷ times 3 (clock 1 ∷ pass ∷ pass ∷ []))
    ++ (request 1 0 8 7 8 ∷ times 6 (clock 1 ∷ pass ∷ pass ∷ [])) ++ (grant ∷ respond 0 2 0 ∷ times 3 (clock 0 ∷ pass ∷ pass ∷ [])) ++ (gap ∷ gap ∷ gap ∷ [])

-- a row: the nodes and the actions, and what document 01 says that they show
pub record Row : Type 0 where
  pub nodes : ℕ
  pub actions : List Action
  pub shown : Shown

abbrev row : ℕ → List Action → List (At Report) → List (At ℕ) → ℕ → Phase → Row
row n l reports refusals done bus = record { nodes = n; actions = l; shown = record { reports = reports; refusals = refusals; done = done; bus = bus } }

abbrev head : ℕ → ℕ → Head
head h x = record { header = h; label = x }

abbrev pub table : List Row
table =
    -- A: "12 4 0 sent 0", broad at 13
    row 2 a (at 1 (Won 0) ∷ at 12 (Sent 0 0) ∷ at 13 (Broad 1 (head 1 0) 2) ∷ []) [] 16 Idle
    -- B: "index 13 reports `1 good 5 6`; […] index 21 reports `0 ack 1`; […] `done 24`"
    ∷ row 2 (b 0) (at 1 (Won 0) ∷ at 13 (Good 1 (head 5 0) 6) ∷ at 21 (Acked 0 1 0) ∷ []) [] 24 Idle
    -- C: "B with change at 11: 13 reports `1 dcrc 5`"
    ∷ row 2 (set (b 0) 11 (change 0)) (at 1 (Won 0) ∷ at 13 (Dcrc 1 (head 5 0)) ∷ at 21 (Acked 0 1 0) ∷ []) [] 24 Idle
    -- D: "B with lose at 9, nothing reported at 13; grant, clock 1, gap: index 16 reports `0 miss`"; the packet is dropped at 11
    ∷ row 2 (take 14 (set (b 0) 9 lose) ++ (grant ∷ clock 1 ∷ gap ∷ [])) (at 1 (Won 0) ∷ at 11 (Drop 1 Rd.HeadOwn) ∷ at 16 (Miss 0 0) ∷ []) [] 17 (Gapping 1)
    -- E: "B with lose at 19: 21 reports `0 miss`"
    ∷ row 2 (set (b 0) 19 lose) (at 1 (Won 0) ∷ at 13 (Good 1 (head 5 0) 6) ∷ at 21 (Miss 0 0) ∷ []) [] 24 Idle
    -- F: "after both grants clock 1 is refused 7 until clock 2"; node 2 drops the packet at its Header, which reaches it bad
    ∷ row 3 f (at 1 (Won 0) ∷ at 13 (Drop 2 Rd.HeadOwn) ∷ at 18 (Good 1 (head 5 0) 6) ∷ []) (at 22 7 ∷ []) 24 (Delivering 1 Prefix 0)
    -- F to its end: the mark is cleared by the next Start, and node 2 hears the packet that is for it
    ∷ row 3 after_f (at 1 (Won 0) ∷ at 13 (Drop 2 Rd.HeadOwn) ∷ at 18 (Good 1 (head 5 0) 6) ∷ at 31 (Acked 0 1 0) ∷ at 32 (Drop 2 Rd.Addressed) ∷ at 38 (Won 0) ∷ at 56 (Good 2 (head 7 0) 8) ∷ []) [] 57 Granting
    -- I: "acknowledgement 15 taken, 16 refused": B up to its grant, then respond 16, respond 15, and once more (7: the node is Acking by then)
    ∷ row 2 (take 15 (b 0) ++ (respond 1 16 0 ∷ respond 1 15 0 ∷ respond 1 15 0 ∷ [])) (at 1 (Won 0) ∷ at 13 (Good 1 (head 5 0) 6) ∷ []) (at 15 6 ∷ at 17 7 ∷ []) 16 Busy
    -- the reply heard and acknowledged
    ∷ row 2 reply (at 1 (Won 0) ∷ at 13 (Good 1 (head 5 7) 6) ∷ at 21 (Acked 0 1 7) ∷ at 34 (Good 0 (head 7 8) 8) ∷ at 42 (Acked 1 2 8) ∷ []) [] 45 Idle
    -- the same, with a respond with hold 1 tried first: 7
    ∷ row 2 (take 36 reply ++ (respond 0 2 1 ∷ drop 36 reply)) (at 1 (Won 0) ∷ at 13 (Good 1 (head 5 7) 6) ∷ at 21 (Acked 0 1 7) ∷ at 34 (Good 0 (head 7 8) 8) ∷ at 43 (Acked 1 2 8) ∷ []) (at 36 7 ∷ []) 45 Idle
    -- a reply to all nodes behind a filler: node 0, who listened, is told; node 2 waits
    ∷ row 3 reply_all (at 1 (Won 0) ∷ at 18 (Good 1 (head 5 7) 6) ∷ at 29 (Acked 0 1 7) ∷ at 50 (Sent 1 8) ∷ at 51 (Broad 0 (head 7 8) 8) ∷ []) [] 56 Idle
    -- labels: B, C, D and E with one
    ∷ row 2 (b 7) (at 1 (Won 0) ∷ at 13 (Good 1 (head 5 7) 6) ∷ at 21 (Acked 0 1 7) ∷ []) [] 24 Idle
    ∷ row 2 (set (b 62) 11 (change 0)) (at 1 (Won 0) ∷ at 13 (Dcrc 1 (head 5 62)) ∷ at 21 (Acked 0 1 62) ∷ []) [] 24 Idle
    ∷ row 2 (take 14 (set (b 1) 9 lose) ++ (grant ∷ clock 1 ∷ gap ∷ [])) (at 1 (Won 0) ∷ at 11 (Drop 1 Rd.HeadOwn) ∷ at 16 (Miss 0 1) ∷ []) [] 17 (Gapping 1)
    ∷ row 2 (set (b 63) 19 lose) (at 1 (Won 0) ∷ at 13 (Good 1 (head 5 63) 6) ∷ at 21 (Miss 0 63) ∷ []) [] 24 Idle
    -- the reply's acknowledgement is lost while another packet waits in the buffer: the miss bears the reply's label; and the packet that waited is sent with its own
    ∷ row 2 (set waiting 41 lose ++ (arbitrate 1 ∷ times 6 (clock 1 ∷ pass ∷ [])))
    (at 2 (Won 0) ∷ at 14 (Good 1 (head 5 7) 6) ∷ at 22 (Acked 0 1 7) ∷ at 35 (Good 0 (head 7 8) 8) ∷ at 43 (Miss 1 8) ∷ at 46 (Won 1) ∷ at 58 (Good 0 (head 1 9) 2) ∷ []) [] 59 Granting
    -- drops: B with the header changed, with the data lost; A with the header lost, with the data lost, with the data changed
    ∷ row 2 (take 14 (set (b 0) 9 (change 0))) (at 1 (Won 0) ∷ at 9 (Drop 1 Rd.HeadOwn) ∷ []) [] 14 Granting
    ∷ row 2 (take 14 (set (b 0) 11 lose)) (at 1 (Won 0) ∷ at 13 (Drop 1 Rd.BodyOwn) ∷ []) [] 14 Granting
    ∷ row 2 (set a 9 lose) (at 1 (Won 0) ∷ at 11 (Drop 1 Rd.HeadAll) ∷ at 12 (Sent 0 0) ∷ []) [] 16 Idle
    ∷ row 2 (set a 11 lose) (at 1 (Won 0) ∷ at 12 (Sent 0 0) ∷ at 13 (Drop 1 Rd.BodyAll) ∷ []) [] 16 Idle
    ∷ row 2 (set a 11 (change 0)) (at 1 (Won 0) ∷ at 12 (Sent 0 0) ∷ at 13 (Drop 1 Rd.TailAll) ∷ []) [] 16 Idle
    -- contention: clock 0 is refused 7 while node 1 is Asked; at the end node 1 is no longer Asked, and node 0's buffer is empty
    ∷ row 2 contention (at 4 (Won 0) ∷ at 6 (Lost 1) ∷ at 17 (Sent 0 0) ∷ at 18 (Broad 1 (head 1 0) 2) ∷ at 22 (Won 1) ∷ []) (at 5 7 ∷ at 23 7 ∷ at 24 7 ∷ []) 22 Busy
    ∷ []

pub cases : map (λ (r : Row). shows (fresh r.nodes) r.actions) table ≡ map (λ (r : Row). r.shown) table
unfolding step look play outcome Actions.request Actions.arbitrate Actions.respond Actions.clock Actions.carry Actions.grant Actions.gap Actions.reset Actions.ask Actions.decide output arrives hears clean move_of read valid phase_fits cell_fits mode_fits
cases = refl

-- the theorem speaks of these runs: the `ack 1 7` of B with the label 7, at 21, stands behind the start of a request with that label, a told report and a respond
pub b_witnessed : Witnessed 0 (Acked 0 1 7) (take 21 (history 2 (b 7)))
unfolding step look play outcome Actions.request Actions.arbitrate Actions.respond Actions.clock Actions.carry Actions.grant Actions.gap Actions.reset Actions.ask Actions.decide output arrives hears clean move_of read valid phase_fits cell_fits mode_fits
b_witnessed = every_confirmation_of 2 (lit≤ tt) (lit≤ tt) (b 7) (take 21 (history 2 (b 7))) (drop 22 (history 2 (b 7))) (Carry Pass) (Acked 0 1 7) 0 refl refl

-- an acknowledged reply: the `ack 2 8` at 42 stands behind a request that started at once
pub reply_witnessed : Witnessed 1 (Acked 1 2 8) (take 42 (history 2 reply))
unfolding step look play outcome Actions.request Actions.arbitrate Actions.respond Actions.clock Actions.carry Actions.grant Actions.gap Actions.reset Actions.ask Actions.decide output arrives hears clean move_of read valid phase_fits cell_fits mode_fits
reply_witnessed = every_confirmation_of 2 (lit≤ tt) (lit≤ tt) reply (take 42 (history 2 reply)) (drop 43 (history 2 reply)) (Carry Pass) (Acked 1 2 8) 1 refl refl

-- the mark of the bus: set by the Prefix at 20, cleared by the last Gap
pub reply_marks : map (λ k. (after (fresh 2) (take k reply)).concatenated) (20 ∷ 21 ∷ 44 ∷ 45 ∷ []) ≡ false ∷ true ∷ true ∷ false ∷ []
unfolding step look play outcome Actions.request Actions.arbitrate Actions.respond Actions.clock Actions.carry Actions.grant Actions.gap Actions.reset Actions.ask Actions.decide output arrives hears clean move_of read valid phase_fits cell_fits mode_fits
reply_marks = refl

-- and no shorter bound than 22n is true, so that 21n + 2 is not from n = 3 on: from its `won` on, this run takes 66 forward actions, and the bus is not Idle before the last of them
pub longest_way : (all_forward (after (fresh 3) (take 6 longest)) (drop 6 longest) ≡ true) × (Demand.accepted_of (after (fresh 3) (take 6 longest)) (drop 6 longest) ≡ 66)
    × (meets_idle (after (fresh 3) (take 6 longest)) (take 65 (drop 6 longest)) ≡ false)
unfolding step look play outcome Actions.request Actions.arbitrate Actions.respond Actions.clock Actions.carry Actions.grant Actions.gap Actions.reset Actions.ask Actions.decide output arrives hears clean move_of read valid phase_fits cell_fits mode_fits
longest_way = (refl, refl, refl)

-- a fresh bus handed out
abbrev hands : ℕ → Result
hands n = record { number = N.accepted; report = Silent; state = fresh n }

-- I: "n = 1 refused, 2 and 63 taken, 64 refused"; "A refused fresh bus returns number 1 with a state like a fresh one whose n is 0."
pub sizes : map begin (1 ∷ 2 ∷ 63 ∷ 64 ∷ []) ≡ refuses (fresh 0) 1 ∷ hands 2 ∷ hands 63 ∷ refuses (fresh 0) 1 ∷ []
unfolding begin
sizes = refl

-- a refusal of each number that a step gives, the table's examples first: the state handed in, the action, the number
pub record Refusal : Type 0 where
  pub handed : State
  pub action : Action
  pub number : ℕ

abbrev refused : State → Action → ℕ → Refusal
refused s x k = record { handed = s; action = x; number = k }

abbrev pub refusals : List Refusal
refusals =
    refused (fresh 2) (act 0 0 0 0 0 0 0 0) 2  -- kind 0
    ∷ refused (fresh 2) (act 13 0 0 0 0 0 0 0) 2
    ∷ refused (fresh 2) (act 10 1 0 0 0 0 0 0) 3  -- reset with node 1
    ∷ refused (fresh 2) (clock 2) 4  -- n = 2, clock 2
    ∷ refused (fresh 2) (request 0 2 0 0 0) 5  -- n = 2, request to 2
    ∷ refused (fresh 2) (request 0 1 64 0 0) 13  -- label over 63
    ∷ refused (fresh 2) (request 0 0 0 0 0) 15  -- request to the node itself, in Rest and in Holding
    ∷ refused (after (fresh 2) (take 22 reply)) (request 1 1 8 7 8) 15
    ∷ refused (fresh 2) (act 4 0 0 0 0 1 0 0) 3  -- a label that the kind doesn't name
    ∷ refused (fresh 2) (respond 0 16 0) 6  -- respond 16
    ∷ refused (fresh 2) (respond 0 0 2) 6
    ∷ refused (after (fresh 2) (take 13 (b 0))) lose 7  -- lose on End
    ∷ refused (fresh 2) reset 7
    ∷ refused (after (fresh 2) (take 4 contention)) (request 0 63 0 0 0) 7  -- a request, kind 2 and kind 10 with a node Asked
    ∷ refused (after (fresh 2) (take 4 contention)) (arbitrate 0) 7
    ∷ refused (after (fresh 2) (take 21 contention ++ (ask 1 ∷ []))) reset 7
    ∷ refused (fresh 2) (ask 0) 7
    ∷ refused (fresh 2) (decide 2) 4
    ∷ refused (fresh 0) reset 12  -- state with n = 0
    ∷ refused (fresh 64) reset 12
    -- "A step looks at 12, then 2 to 7" (13 "after 5", 15 "after 13"): each of these has two faults
    ∷ refused (fresh 0) (act 0 0 0 0 0 0 0 0) 12
    ∷ refused (fresh 2) (act 0 1 0 0 0 0 0 0) 2
    ∷ refused (fresh 2) (act 4 2 1 0 0 0 0 0) 3
    ∷ refused (fresh 2) (request 2 2 0 0 0) 4
    ∷ refused (fresh 2) (request 0 2 64 0 0) 5
    ∷ refused (after (fresh 2) (take 13 (b 0))) (request 0 1 64 0 0) 13
    ∷ refused (fresh 2) (request 0 0 64 0 0) 13
    ∷ refused (after (fresh 2) (take 13 (b 0))) (request 0 0 0 0 0) 15
    ∷ []

pub refusals_hold : map (λ (r : Refusal). (step r.handed r.action).number) refusals ≡ map (λ (r : Refusal). r.number) refusals
unfolding step look play outcome Actions.request Actions.arbitrate Actions.respond Actions.clock Actions.carry Actions.grant Actions.gap Actions.reset Actions.ask Actions.decide output arrives hears clean move_of read valid phase_fits cell_fits mode_fits
refusals_hold = refl

-- a bus of two nodes with the label x at each place that can hold one: in a full buffer, in the packet being sent, in a header that a mode remembers, in the Header under way
abbrev labelled : ℕ → Packet
labelled x = record { to = 0; head = head 0 x; datum = 0 }

abbrev pub holding : ℕ → List State
holding x =
    map (moved (fresh 2) Idle 1)
    (set_buffer (Some (labelled x)) fresh_cell ∷ set_sending (labelled x) fresh_cell ∷ set_mode (BodyOwn (head 0 x)) fresh_cell ∷ set_mode (BodyAll (head 0 x)) fresh_cell
    ∷ set_mode (TailOwn (head 0 x) (Some 0)) fresh_cell ∷ set_mode (TailOwn (head 0 x) None) fresh_cell
    ∷ set_mode (TailAll (head 0 x) (Some 0)) fresh_cell ∷ set_mode (TailAll (head 0 x) None) fresh_cell ∷ [])
    ++ map (λ c. moved (fresh 2) (Delivering 0 (Header (head 0 x) c) 1) 1 fresh_cell) (true ∷ false ∷ [])

-- "A state handed in that holds a label over 63 is refused by 12": 64 is, at each place; with 63 the step goes on, to 7
pub labels_looked_at : (map (λ s. (step s reset).number) (holding 64) ≡ replicate 10 12) × (map (λ s. (step s reset).number) (holding 63) ≡ replicate 10 7)
unfolding step look play outcome Actions.request Actions.arbitrate Actions.respond Actions.clock Actions.carry Actions.grant Actions.gap Actions.reset Actions.ask Actions.decide output arrives hears clean move_of read valid phase_fits cell_fits mode_fits
labels_looked_at = (refl, refl)

-- "A state handed in that already carries such a packet still plays it out": node 0's packet to itself, in Rest's buffer and in Sending, with the label 9. It is sent, and its miss comes by the gap
abbrev its_own : Packet
its_own = record { to = 0; head = head 5 9; datum = 6 }

abbrev sends : List Action
sends = times 6 (clock 0 ∷ pass ∷ []) ++ (gap ∷ gap ∷ [])

pub played_out :
    (shows (moved (fresh 2) Idle 0 (set_buffer (Some its_own) fresh_cell)) (arbitrate 0 ∷ sends) ≡ record { reports = at 0 (Won 0) ∷ at 13 (Miss 0 9) ∷ []; refusals = []; done = 15; bus = Idle })
    × (shows (moved (fresh 2) Busy 0 (set_holder true (set_mode (Sending 0) (set_sending its_own fresh_cell)))) sends ≡ record { reports = at 12 (Miss 0 9) ∷ []; refusals = []; done = 14; bus = Idle })
unfolding step look play outcome Actions.request Actions.arbitrate Actions.respond Actions.clock Actions.carry Actions.grant Actions.gap Actions.reset Actions.ask Actions.decide output arrives hears clean move_of read valid phase_fits cell_fits mode_fits
played_out = (refl, refl)

-- "A refused step returns the number, the state handed in and no report": at every state and record
pub refused_keeps : (s : State) (x : Action) → is_accepted (step s x) ≡ false → step s x ≡ refuses s (step s x).number
refused_keeps s x = go (stepped s x)
  where
    go : {r : Result} {e : Event} → Stepped s x r e → is_accepted r ≡ false → r ≡ refuses s r.number
    go (S.refused k) q = refl
    go (S.acts v k l f w) q = absurd (true≢false q)

-- a trial whose users send to these addresses, so many actions, and the number of its refusal
pub record Tried : Type 0 where
  pub nodes : ℕ
  pub addresses : List ℕ
  pub actions : ℕ
  pub number : ℕ

abbrev tried : ℕ → List ℕ → ℕ → ℕ → Tried
tried n l k number = record { nodes = n; addresses = l; actions = k; number = number }

abbrev sends_to : List ℕ → ℕ → User
sends_to l i = record { spell = 0; address = get_or l i 0; fillers = 0; hold = false; period = 0 }

abbrev pub trials : List Tried
trials =
    tried 2 (1 ∷ 0 ∷ []) 1 0
    ∷ tried 2 (1 ∷ 63 ∷ 2 ∷ []) 65535 0  -- node 2 is none
    ∷ tried 1 (63 ∷ []) 1 1
    ∷ tried 64 [] 1 1
    ∷ tried 2 (1 ∷ 2 ∷ []) 1 5
    ∷ tried 2 (0 ∷ 0 ∷ []) 1 15
    ∷ tried 2 (1 ∷ 1 ∷ []) 1 15
    ∷ tried 2 (1 ∷ 0 ∷ []) 0 11
    -- "then […] by 5", "after 5", "then 0 actions by 11": each of these has two faults, the third in a later node than the other's
    ∷ tried 1 (5 ∷ []) 1 1
    ∷ tried 2 (1 ∷ 2 ∷ []) 0 5
    ∷ tried 2 (0 ∷ 2 ∷ []) 1 5
    ∷ tried 2 (1 ∷ 1 ∷ []) 0 15
    ∷ []

pub trials_hold : map (λ (t : Tried). trial_number (sends_to t.addresses) t.nodes t.actions) trials ≡ map (λ (t : Tried). t.number) trials
unfolding trial_number
trials_hold = refl

-- request 9: a question about a state handed in, its depth, and the number of its refusal
pub record Asked : Type 0 where
  pub handed : State
  pub question : Question
  pub depth : ℕ
  pub number : ℕ

abbrev asked : State → Word → ℕ → ℕ → ℕ → Asked
asked s w i d k = record { handed = s; question = record { word = w; node = i }; depth = d; number = k }

abbrev pub questions : List Asked
questions =
    asked (fresh 8) W.Miss 7 6 0
    ∷ asked (fresh 2) W.Won 1 0 0
    ∷ asked (fresh 1) W.Miss 0 0 12
    ∷ asked (fresh 8) W.Miss 0 7 14  -- depth over 6
    ∷ asked (fresh 9) W.Miss 0 0 14  -- n over 8
    ∷ asked (fresh 8) W.Miss 8 0 4  -- a node not below n, at depth 0 too
    -- "looked at after 12", "looked at last": each of these has two faults, and the first one all three
    ∷ asked (fresh 64) W.Miss 64 7 12
    ∷ asked (fresh 0) W.Miss 0 0 12
    ∷ asked (fresh 8) W.Miss 8 7 14
    ∷ asked (fresh 63) W.Miss 63 6 14
    ∷ []

pub questions_hold : map (λ (x : Asked). route_number x.handed x.question x.depth) questions ≡ map (λ (x : Asked). x.number) questions
unfolding route_number valid phase_fits cell_fits mode_fits
questions_hold = refl

-- "which bus events could make node 0 miss": E, with its Ack under way. It is lost, and node 1's End comes to a node that has heard no Ack
pub lost_ack : IsRoute (after (fresh 2) (take 19 (b 0))) (record { word = W.Miss; node = 0 }) 3 (lose ∷ clock 1 ∷ pass ∷ [])
unfolding step look play outcome Actions.request Actions.arbitrate Actions.respond Actions.clock Actions.carry Actions.grant Actions.gap Actions.reset Actions.ask Actions.decide output arrives hears clean move_of read valid phase_fits cell_fits mode_fits gives
lost_ack = record { within = lit≤ tt; kinds = refl; accepted = refl; reports = refl }

-- or it is garbled
pub garbled_ack : IsRoute (after (fresh 2) (take 19 (b 0))) (record { word = W.Miss; node = 0 }) 3 (change 0 ∷ clock 1 ∷ pass ∷ [])
unfolding step look play outcome Actions.request Actions.arbitrate Actions.respond Actions.clock Actions.carry Actions.grant Actions.gap Actions.reset Actions.ask Actions.decide output arrives hears clean move_of read valid phase_fits cell_fits mode_fits gives
garbled_ack = record { within = lit≤ tt; kinds = refl; accepted = refl; reports = refl }

-- it is node 0's miss: not node 1's, and no ack of node 0
pub no_other_lem : map (λ q. gives q (last_report Silent (results (after (fresh 2) (take 19 (b 0))) (lose ∷ clock 1 ∷ pass ∷ [])))) (record { word = W.Miss; node = 1 } ∷ record { word = W.Ack; node = 0 } ∷ []) ≡ false ∷ false ∷ []
unfolding step look play outcome Actions.request Actions.arbitrate Actions.respond Actions.clock Actions.carry Actions.grant Actions.gap Actions.reset Actions.ask Actions.decide output arrives hears clean move_of read valid phase_fits cell_fits mode_fits gives
no_other_lem = refl

-- "kinds 4 to 9"
pub bus_events : map is_bus_event (respond 0 0 0 ∷ clock 0 ∷ pass ∷ lose ∷ change 0 ∷ grant ∷ gap ∷ reset ∷ []) ≡ false ∷ true ∷ true ∷ true ∷ true ∷ true ∷ true ∷ false ∷ []
bus_events = refl

-- request 11: two lists of records of one length, of which the one comes before the other and not the other way round
pub record Pair : Type 0 where
  pub sooner : List Action
  pub later : List Action

abbrev pair : List Action → List Action → Pair
pair l m = record { sooner = l; later = m }

abbrev pub pairs : List Pair
pairs =
    pair (lose ∷ clock 1 ∷ pass ∷ []) (change 0 ∷ clock 1 ∷ pass ∷ [])  -- those of `lost_ack` and `garbled_ack`
    ∷ pair (pass ∷ []) (lose ∷ [])
    ∷ pair (clock 0 ∷ []) (clock 1 ∷ [])
    ∷ pair (clock 1 ∷ []) (pass ∷ [])  -- the kind, then the node
    ∷ pair (change 7 ∷ []) (change 63 ∷ [])
    ∷ pair (clock 0 ∷ change 63 ∷ []) (clock 1 ∷ pass ∷ [])  -- "from the left": the first byte that differs
    ∷ pair (request 0 1 0 256 0 ∷ []) (request 0 1 0 1 0 ∷ [])  -- "byte by byte": 256 has the bytes 0, 1, 0, 0
    ∷ []

pub pairs_hold : map (λ (x : Pair). precedes x.sooner x.later) pairs ≡ replicate 7 true
unfolding bytes_of
pairs_hold = refl

pub pairs_turned : map (λ (x : Pair). precedes x.later x.sooner) pairs ≡ replicate 7 false
unfolding bytes_of
pairs_turned = refl
