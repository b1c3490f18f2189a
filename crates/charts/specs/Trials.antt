-- Request 8, "load trials": the rules of docs/TRIALS.md, by which a trial chooses each next action; the actions that it makes; the tally of a list of events. No proof is in this file.
use Rattle.std.specs.Prelude.{◌≡◌, Bool, true, false, cond, ◌&&◌, ◌||◌, not, List, [], ◌∷◌, ◌++◌, ℕ, zero, suc, ◌+◌, ◌-◌, ◌%◌, ◌<◌, eqb, ltb, leb}
use Rattle.charts.specs.declared.Mode.{Mode}
use Rattle.charts.specs.declared.Signal.{Signal}
use Rattle.charts.specs.declared.Phase.{Phase}
use Rattle.charts.specs.declared.Phase.TheVariants.{Idle, Busy, Delivering, Granting, Gapping}
use Rattle.charts.specs.declared.Report.{Report}
use Rattle.charts.specs.declared.Report.TheVariants.{Silent, Won, Lost, Sent, Acked, Miss, Drop, Good, Dcrc, Broad}
use Rattle.charts.specs.declared.Move.{Move}
use Rattle.charts.specs.declared.Move.TheVariants.{Request, Arbitrate, Respond, Clock, Carry, Grant, GapNext, Reset, Ask, Decide}
use Rattle.charts.specs.declared.Action.{Action}
use Rattle.charts.specs.declared.User.{User}
use Rattle.charts.specs.declared.Kept.{Kept}
use Rattle.charts.specs.declared.Tally.{Tally}
use Rattle.charts.specs.Numbers as N
use Rattle.charts.specs.Modes.{is_answering, is_holding, is_spurious}
use Rattle.charts.specs.Signals.{is_checked}
use Rattle.charts.specs.State.{State, wons, holders, some, lowest, is_idle, is_empty, fresh}
use Rattle.charts.specs.Records.{is_address, is_own}
use Rattle.charts.specs.Valid.{is_size}
use Rattle.charts.specs.Step.{Result, Event, refusal, accepted, step}
use Rattle.charts.specs.Asking.{of_node}
use Rattle.charts.specs.Demand.{one}

-- a trial under way: "Beside the bus, which starts fresh, four numbers for each user"
pub record Load : Type 0 where
  pub state : State
  pub kept : ℕ → Kept

-- "all 0 at first"
abbrev pub nothing_kept : Kept
nothing_kept = record { left = 0; heard = 0; filled = 0; made = 0 }

abbrev pub begins : ℕ → Load
begins n = record { state = fresh n; kept = λ k. nothing_kept }

-- 1. THE NEXT ACTION. "The request of i is kind 1 of node i, to its user's address, with header i, data made and label made modulo 64."
abbrev pub request_by : ℕ → User → Kept → Action
request_by i u x = record { kind = 1; node = i; address = u.address; ack = 0; hold = 0; label = x.made % 64; byte6 = 0; byte7 = 0; header = i; datum = x.made }

-- "respond of i with acknowledgement 1"
abbrev pub respond_by : ℕ → Bool → Action
respond_by i hold = record { kind = 3; node = i; address = 0; ack = 1; hold = one hold; label = 0; byte6 = 0; byte7 = 0; header = 0; datum = 0 }

-- "Delivering: lose, if the signal is a Header, Data or Ack and the next receiver's heard + 1 is its period; else pass."
abbrev pub is_due : User → Kept → Bool
is_due u x = eqb (suc x.heard) u.period

abbrev pub delivers : Signal → User → Kept → Action
delivers g u x = of_node (cond (is_checked g && is_due u x) 6 5) 0

-- "Busy: the node i is the lowest holder in Spurious or, if no holder is, the lowest holder."
abbrev pub strays : State → ℕ → Bool
strays s k = (s.cell k).holder && is_spurious (s.cell k).mode

unfoldable pub holder_of : State → ℕ
holder_of s = lowest (strays s) s.n (lowest (holders s.cell) s.n 0)

-- "with hold 1 if its user holds and the bus's mark is clear […], else with hold 0"
abbrev pub holds_now : User → Bool → Bool
holds_now u concatenated = u.hold && not concatenated

-- "i in Answering, with filled equal to its fillers: respond of i with acknowledgement 1 […] i in Holding: the request of i. Else: clock i. In Answering that is a filler."
unfoldable pub acts : Bool → ℕ → Mode → User → Kept → Action
acts concatenated i m u x =
    cond (is_answering m && eqb x.filled u.fillers) (respond_by i (holds_now u concatenated))
    (cond (is_holding m) (request_by i u x)
    (of_node 4 i))

-- "Idle: the first of these that is so. a. A node has an empty buffer and its spell is over: the request of the lowest such node. b. A node has a full buffer and no won mark: arbitrate,
-- the lowest such node. c. A node has the won mark: reset."
abbrev pub is_over : Kept → Bool
is_over x = eqb x.left 0

abbrev pub asking : Load → ℕ → Bool
asking l k = is_empty (l.state.cell k).buffer && is_over (l.kept k)

abbrev pub bidding : State → ℕ → Bool
bidding s k = not (is_empty (s.cell k).buffer) && not (s.cell k).won

abbrev pub asker : Load → ℕ
asker l = lowest (asking l) l.state.n 0

unfoldable pub starts : (ℕ → User) → Load → Action
starts us l =
    cond (some (asking l) l.state.n) (request_by (asker l) (us (asker l)) (l.kept (asker l)))
    (cond (some (bidding l.state) l.state.n) (of_node 2 (lowest (bidding l.state) l.state.n 0))
    (of_node 10 0))

-- "The bus's phase says which of the five rules chooses." "Granting: grant. Gapping: gap."
abbrev pub chooses : (ℕ → User) → Load → Phase → Action
chooses us l Idle = starts us l
chooses us l Busy = acts l.state.concatenated (holder_of l.state) (l.state.cell (holder_of l.state)).mode (us (holder_of l.state)) (l.kept (holder_of l.state))
chooses us l (Delivering i g j) = delivers g (us j) (l.kept j)
chooses us l Granting = of_node 8 0
chooses us l (Gapping j) = of_node 9 0

unfoldable pub choice : (ℕ → User) → Load → Action
choice us l = chooses us l l.state.phase

-- 2. WAITING. "d. Only waiting is left": on an Idle bus a, b and c find nothing
unfoldable pub only_waits : Load → Bool
only_waits l =
    is_idle l.state.phase && (not (some (asking l) l.state.n) && (not (some (bidding l.state) l.state.n) && not (some (wons l.state.cell) l.state.n)))

-- the least of f at 0 and at the n numbers below
abbrev pub least : (ℕ → ℕ) → ℕ → ℕ
least f zero = f 0
least f (suc n) = cond (ltb (f n) (least f n)) (f n) (least f n)

abbrev pub lefts : Load → ℕ → ℕ
lefts l k = (l.kept k).left

-- "Every left falls by the least of them, without an action"
unfoldable pub waits : Load → ℕ
waits l = cond (only_waits l) (least (lefts l) l.state.n) 0

abbrev pub lowered : ℕ → Kept → Kept
lowered w x = record { left = x.left - w; heard = x.heard; filled = x.filled; made = x.made }

unfoldable pub waited : Load → Load
waited l = record { state = l.state; kept = λ k. lowered (waits l) (l.kept k) }

-- 3. WHAT FOLLOWS AN ACTION. "A Header, Data or Ack was passed or lost", and k is "the node that it came to"
abbrev pub is_carried : Action → Bool
is_carried a = eqb a.kind 5 || eqb a.kind 6

abbrev pub checked_to : ℕ → Phase → Bool
checked_to k Idle = false
checked_to k Busy = false
checked_to k (Delivering i g j) = is_checked g && eqb k j
checked_to k Granting = false
checked_to k (Gapping j) = false

abbrev pub came : ℕ → State → Action → Bool
came k s a = is_carried a && checked_to k s.phase

-- "and the period of the node that it came to is not 0: that node's heard rises by 1, and at the period it goes back to 0"
abbrev pub rises : ℕ → ℕ → ℕ
rises period heard = cond (leb period (suc heard)) 0 (suc heard)

abbrev pub heard_after : Bool → ℕ → ℕ → ℕ
heard_after comes period heard = cond (comes && not (eqb period 0)) (rises period heard) heard

-- "A clock of a node in Answering: its filled rises by 1. A respond: its filled goes back to 0. A request, into the buffer or in Holding: its made rises by 1."
abbrev pub is_of : ℕ → ℕ → Action → Bool
is_of kind k a = eqb a.kind kind && eqb k a.node

abbrev pub fills : ℕ → State → Action → Bool
fills k s a = is_of 4 k a && is_answering (s.cell k).mode

abbrev pub filled_after : Bool → Bool → ℕ → ℕ
filled_after responds filler filled = cond responds 0 (cond filler (suc filled) filled)

abbrev pub made_after : Bool → ℕ → ℕ
made_after requests made = cond requests (suc made) made

-- "Every left that is not 0 falls by 1. Then, if the report was won, the winner's left becomes its spell."
abbrev pub won_by : ℕ → Report → Bool
won_by k Silent = false
won_by k (Won i) = eqb k i
won_by k (Lost i) = false
won_by k (Sent i x) = false
won_by k (Acked i a x) = false
won_by k (Miss i x) = false
won_by k (Drop i m) = false
won_by k (Good i h d) = false
won_by k (Dcrc i h) = false
won_by k (Broad i h d) = false

abbrev pub left_after : Bool → ℕ → ℕ → ℕ
left_after wins spell left = cond wins spell (left - 1)

abbrev pub keeps : ℕ → User → State → Action → Report → Kept → Kept
keeps k u s a r x = record {
  left = left_after (won_by k r) u.spell x.left;
  heard = heard_after (came k s a) u.period x.heard;
  filled = filled_after (is_of 3 k a) (fills k s a) x.filled;
  made = made_after (is_of 1 k a) x.made;
}

unfoldable pub follows : (ℕ → User) → Load → Action → Result → Load
follows us l a r = record { state = r.state; kept = λ k. keeps k (us k) l.state a r.report (l.kept k) }

-- 4. THE TRIAL. "each turn is: wait […], choose […], step, and what follows"
abbrev pub acted : (ℕ → User) → Load → Load
acted us l = follows us l (choice us l) (step l.state (choice us l))

unfoldable pub turned : (ℕ → User) → Load → Load
turned us l = acted us (waited l)

-- after k actions; the k-th action, from 0; the actions of a trial of k
unfoldable pub load_after : (ℕ → User) → ℕ → ℕ → Load
load_after us n zero = begins n
load_after us n (suc k) = turned us (load_after us n k)

abbrev pub chosen : (ℕ → User) → ℕ → ℕ → Action
chosen us n k = choice us (waited (load_after us n k))

unfoldable pub trial : (ℕ → User) → ℕ → ℕ → List Action
trial us n zero = []
trial us n (suc k) = trial us n k ++ (chosen us n k ∷ [])

-- "A bad n is refused by 1, then a bad address of a node below n by 5, then 0 actions by 11"; "a trial whose user sends to its own node is refused by [15], after 5": 5 is looked at for all
-- nodes before 15 is for any
abbrev pub stray_address : (ℕ → User) → ℕ → ℕ → Bool
stray_address us n k = not (is_address n (us k).address)

abbrev pub own_address : (ℕ → User) → ℕ → Bool
own_address us k = is_own k (us k).address

unfoldable pub trial_number : (ℕ → User) → ℕ → ℕ → ℕ
trial_number us n k =
    cond (not (is_size n)) N.wrong_size
    (cond (some (stray_address us n) n) N.wrong_address
    (cond (some (own_address us) n) N.to_itself
    (cond (eqb k 0) N.wrong_count
    N.accepted)))

-- what 5 and 15 leave of the addresses
abbrev pub Sends : (ℕ → User) → ℕ → Type 0
Sends us n = (k : ℕ) → k < n → (is_address n (us k).address ≡ true) × (is_own k (us k).address ≡ false)

-- 5. THE TALLY, of any list of events: "a request (kind 1) adds 1 to requests"
abbrev pub is_request : Move → Bool
is_request (Request i p) = true
is_request (Arbitrate i) = false
is_request (Respond i a hold) = false
is_request (Clock i) = false
is_request (Carry w) = false
is_request Grant = false
is_request GapNext = false
is_request Reset = false
is_request (Ask i) = false
is_request (Decide i) = false

-- "the report won adds 1 to wins, sent to sent, ack to ack, miss to miss, drop to drops. Nothing else changes it."
abbrev pub reported : Report → Tally → Tally
reported Silent t = t
reported (Won i) t = record { requests = t.requests; wins = suc t.wins; sent = t.sent; acks = t.acks; misses = t.misses; drops = t.drops }
reported (Lost i) t = t
reported (Sent i x) t = record { requests = t.requests; wins = t.wins; sent = suc t.sent; acks = t.acks; misses = t.misses; drops = t.drops }
reported (Acked i a x) t = record { requests = t.requests; wins = t.wins; sent = t.sent; acks = suc t.acks; misses = t.misses; drops = t.drops }
reported (Miss i x) t = record { requests = t.requests; wins = t.wins; sent = t.sent; acks = t.acks; misses = suc t.misses; drops = t.drops }
reported (Drop i m) t = record { requests = t.requests; wins = t.wins; sent = t.sent; acks = t.acks; misses = t.misses; drops = suc t.drops }
reported (Good i h d) t = t
reported (Dcrc i h) t = t
reported (Broad i h d) t = t

abbrev pub requested : Bool → Tally → Tally
requested asks t = record { requests = t.requests + one asks; wins = t.wins; sent = t.sent; acks = t.acks; misses = t.misses; drops = t.drops }

abbrev pub counted : Event → Tally → Tally
counted (refusal k) t = t
counted (accepted m r) t = reported r (requested (is_request m) t)

-- "The tally starts at 0 too, whatever it held."
abbrev pub no_tally : Tally
no_tally = record { requests = 0; wins = 0; sent = 0; acks = 0; misses = 0; drops = 0 }

abbrev pub tally_on : Tally → List Event → Tally
tally_on t [] = t
tally_on t (e ∷ l) = tally_on (counted e t) l

unfoldable pub tally_of : List Event → Tally
tally_of l = tally_on no_tally l
