-- Demand 3. Each definition stands under the sentence of "The words of demand 3" (document 01) that it says; the claim, Demand3, is at the end. No proof is in this file.
use Rattle.std.specs.Prelude.{◌≡◌, ◌⊎◌, Bool, true, false, cond, ◌&&◌, ◌||◌, not, List, [], ◌∷◌, ℕ, ◌<◌, ◌+◌, ◌*◌, eqb, length, None, Option, Some}
use Rattle.charts.specs.declared.Mode.TheVariants.{Rest, Asked}
use Rattle.charts.specs.declared.Report.{Report}
use Rattle.charts.specs.declared.Report.TheVariants.{Silent, Won, Lost, Sent, Acked, Miss, Drop, Good, Dcrc, Broad}
use Rattle.charts.specs.declared.Packet.{Packet}
use Rattle.charts.specs.declared.Move.{Move}
use Rattle.charts.specs.declared.Move.TheVariants.{Request, Arbitrate, Respond, Clock, Carry, Grant, GapNext, Reset, Ask, Decide}
use Rattle.charts.specs.declared.Action.{Action}
use Rattle.charts.specs.Modes.{is_answering, is_holding}
use Rattle.charts.specs.State.{State, is_idle, is_empty, fresh}
use Rattle.charts.specs.Records.{move_of}
use Rattle.charts.specs.Step.{Event, refusal, accepted, events, is_accepted, step, after}

-- 1. BOOKS. What became of the requests of one node, by a walk over the events. "A node is told by a report good, dcrc or broad": noted while a request runs, as is each respond given
pub data Note : Type 0 where
  told : Report → Note
  gave : ℕ → ℕ → Note

-- the request that its node started last, if it is not confirmed: its packet, and who was told and who responded on the whole bus since it started, the latest first
pub data Run : Type 0 where
  none : Run
  run : Packet → List Note → Run

-- a request that was started and then confirmed, with the notes from its start to its confirmation
pub record Confirmed : Type 0 where
  pub packet : Packet
  pub stretch : List Note
  pub by : Report

pub record Book : Type 0 where
  pub held : Bool  -- the node's last accepted respond had hold 1, and no request of the node was accepted since
  pub waiting : Option Packet  -- accepted and not started
  pub running : Run  -- started and not confirmed
  pub confirmed : List Confirmed  -- started and confirmed
  pub wrong : Bool  -- something happened that has no place in the book

abbrev pub new_book : Book
new_book = record { held = false; waiting = None; running = none; confirmed = []; wrong = false }

abbrev pub is_run : Run → Bool
is_run none = false
is_run (run p l) = true

abbrev pub goes_wrong : Book → Book
goes_wrong b = record { held = b.held; waiting = b.waiting; running = b.running; confirmed = b.confirmed; wrong = true }

-- "A request starts at once if its node's last accepted respond had hold 1 and no request of that node was accepted since": wrong while another of its node runs.
-- Any other waits: wrong while another of its node waits
abbrev pub asks : Bool → Packet → Book → Book
asks true p b = record { held = false; waiting = b.waiting; running = run p []; confirmed = b.confirmed; wrong = b.wrong || is_run b.running }
asks false p b = record { held = false; waiting = Some p; running = b.running; confirmed = b.confirmed; wrong = b.wrong || not (is_empty b.waiting) }

-- "Any other starts with its node's next won": wrong where none waits or another runs
abbrev pub wins : Option Packet → Book → Book
wins None b = goes_wrong b
wins (Some p) b = record { held = b.held; waiting = None; running = run p []; confirmed = b.confirmed; wrong = b.wrong || is_run b.running }

-- "A confirmation is a report sent, ack or miss. It belongs to the request that its node started last": wrong where that one is confirmed already, or none was started
abbrev pub confirms : Report → Run → Book → Book
confirms r none b = goes_wrong b
confirms r (run p l) b = record { held = b.held; waiting = b.waiting; running = none; confirmed = record { packet = p; stretch = l; by = r } ∷ b.confirmed; wrong = b.wrong }

abbrev pub note : Note → Run → Run
note x none = none
note x (run p l) = run p (x ∷ l)

abbrev pub notes : Note → Book → Book
notes x b = record { held = b.held; waiting = b.waiting; running = note x b.running; confirmed = b.confirmed; wrong = b.wrong }

abbrev pub holds_for : Bool → Bool → Book → Book
holds_for mine hold b = record { held = cond mine hold b.held; waiting = b.waiting; running = b.running; confirmed = b.confirmed; wrong = b.wrong }

-- the node that a move names, and the node of a report
abbrev pub mover_of : Move → ℕ
mover_of (Request i p) = i
mover_of (Arbitrate i) = i
mover_of (Respond i a hold) = i
mover_of (Clock i) = i
mover_of (Carry w) = 0
mover_of Grant = 0
mover_of GapNext = 0
mover_of Reset = 0
mover_of (Ask i) = i
mover_of (Decide i) = i

abbrev pub node_of : Report → ℕ
node_of Silent = 0
node_of (Won i) = i
node_of (Lost i) = i
node_of (Sent i x) = i
node_of (Acked i a x) = i
node_of (Miss i x) = i
node_of (Drop i m) = i
node_of (Good i h d) = i
node_of (Dcrc i h) = i
node_of (Broad i h d) = i

-- an accepted move and a report in a node's book; `mine`: it is this node's
abbrev pub moves : Bool → Move → Book → Book
moves true (Request i p) b = asks b.held p b
moves false (Request i p) b = b
moves mine (Arbitrate i) b = b
moves mine (Respond i a hold) b = notes (gave i a) (holds_for mine hold b)
moves mine (Clock i) b = b
moves mine (Carry w) b = b
moves mine Grant b = b
moves mine GapNext b = b
moves mine Reset b = b
moves mine (Ask i) b = b
moves mine (Decide i) b = b

abbrev pub reports : Bool → Report → Book → Book
reports mine Silent b = b
reports true (Won i) b = wins b.waiting b
reports false (Won i) b = b
reports mine (Lost i) b = b
reports true (Sent i x) b = confirms (Sent i x) b.running b
reports false (Sent i x) b = b
reports true (Acked i a x) b = confirms (Acked i a x) b.running b
reports false (Acked i a x) b = b
reports true (Miss i x) b = confirms (Miss i x) b.running b
reports false (Miss i x) b = b
reports mine (Drop i m) b = b
reports mine (Good i h d) b = notes (told (Good i h d)) b
reports mine (Dcrc i h) b = notes (told (Dcrc i h)) b
reports mine (Broad i h d) b = notes (told (Broad i h d)) b

abbrev pub enters : ℕ → Event → Book → Book
enters i (refusal k) b = b
enters i (accepted m r) b = reports (eqb i (node_of r)) r (moves (eqb i (mover_of m)) m b)

abbrev pub book_of : ℕ → List Event → Book → Book
book_of i [] b = b
book_of i (e ∷ l) b = book_of i l (enters i e b)

-- 2. COUNTS, read off the events with no book: the accepted requests of node i, and its confirmations
abbrev pub one : Bool → ℕ
one b = cond b 1 0

abbrev pub asked : Bool → Move → ℕ
asked mine (Request i p) = one mine
asked mine (Arbitrate i) = 0
asked mine (Respond i a hold) = 0
asked mine (Clock i) = 0
asked mine (Carry w) = 0
asked mine Grant = 0
asked mine GapNext = 0
asked mine Reset = 0
asked mine (Ask i) = 0
asked mine (Decide i) = 0

abbrev pub answered : Bool → Report → ℕ
answered mine Silent = 0
answered mine (Won i) = 0
answered mine (Lost i) = 0
answered mine (Sent i x) = one mine
answered mine (Acked i a x) = one mine
answered mine (Miss i x) = one mine
answered mine (Drop i m) = 0
answered mine (Good i h d) = 0
answered mine (Dcrc i h) = 0
answered mine (Broad i h d) = 0

abbrev pub requests : ℕ → List Event → ℕ
requests i [] = 0
requests i (refusal k ∷ l) = requests i l
requests i (accepted m r ∷ l) = asked (eqb i (mover_of m)) m + requests i l

abbrev pub confirmations : ℕ → List Event → ℕ
confirmations i [] = 0
confirmations i (refusal k ∷ l) = confirmations i l
confirmations i (accepted m r ∷ l) = answered (eqb i (node_of r)) r + confirmations i l

-- the requests in a book: confirmed, running and waiting
abbrev pub size : Book → ℕ
size b = length b.confirmed + one (is_run b.running) + one (not (is_empty b.waiting))

-- 3. CONFIRMATIONS. "From a request's start to its ack a there is exactly one of these on the whole bus: the addressed node's, good h d or dcrc h, with the
-- request's own header and data. In that stretch exactly one respond is accepted: that node's, after it was told, with a."
abbrev pub Acknowledged : Packet → ℕ → List Note → Type 0
Acknowledged p a l =
    (l ≡ gave p.to a ∷ told (Good p.to p.head p.datum) ∷ [])
    ⊎ (l ≡ gave p.to a ∷ told (Dcrc p.to p.head) ∷ [])

-- request 3: "A confirmation, and the told report before an ack a, bears the label of its own request". (The told report's head is the request's, label included: Acknowledged.)
abbrev pub Labelled : Packet → ℕ → Type 0
Labelled p x = p.head.label ≡ x

abbrev pub Honest : Packet → List Note → Report → Type 0
Honest p l Silent = Unit {0}
Honest p l (Won i) = Unit {0}
Honest p l (Lost i) = Unit {0}
Honest p l (Sent i x) = Labelled p x
Honest p l (Acked i a x) = (Labelled p x) × (Acknowledged p a l)
Honest p l (Miss i x) = Labelled p x
Honest p l (Drop i m) = Unit {0}
Honest p l (Good i h d) = Unit {0}
Honest p l (Dcrc i h) = Unit {0}
Honest p l (Broad i h d) = Unit {0}

abbrev pub AllHonest : List Confirmed → Type 0
AllHonest [] = Unit {0}
AllHonest (c ∷ l) = (Honest c.packet c.stretch c.by) × (AllHonest l)

-- 4. FORWARD ACTIONS. "A forward action is an accepted one that is not kind 2, not 10, not a kind 1 into a buffer, not a filler clock" (Answering's and Holding's); "Kind 11 is no
-- forward action and kind 12 is one"
abbrev pub forward : State → Move → Bool
forward s (Request i p) = is_holding (s.cell i).mode
forward s (Arbitrate i) = false
forward s (Respond i a hold) = true
forward s (Clock i) = not (is_answering (s.cell i).mode || is_holding (s.cell i).mode)
forward s (Carry w) = true
forward s Grant = true
forward s GapNext = true
forward s Reset = false
forward s (Ask i) = false
forward s (Decide i) = true

-- "Open: it would be accepted as the next action."
abbrev pub is_open : State → Action → Bool
is_open s a = is_accepted (step s a)

abbrev pub is_forward : State → Action → Bool
is_forward s a = is_open s a && forward s (move_of a)

-- "One after the other: no other accepted action between; refused ones don't count." Of a continuation: how many of its actions are accepted,
-- whether each of these is forward, and whether the bus is Idle before it, on its way or after it
abbrev pub accepted_of : State → List Action → ℕ
accepted_of s [] = 0
accepted_of s (a ∷ l) = one (is_open s a) + accepted_of (step s a).state l

abbrev pub all_forward : State → List Action → Bool
all_forward s [] = true
all_forward s (a ∷ l) = (not (is_open s a) || forward s (move_of a)) && all_forward (step s a).state l

abbrev pub meets_idle : State → List Action → Bool
meets_idle s [] = is_idle s.phase
meets_idle s (a ∷ l) = is_idle s.phase || meets_idle (step s a).state l

-- "it is idle after at most 21n + 2", and "n is added to the bound" (request 6)
abbrev pub bound : ℕ → ℕ
bound n = 22 * n + 2

-- 5. THE CLAIM about a list of action records, played from the fresh bus of n nodes: the state that it leaves, its events, and the book of node i
abbrev pub final : ℕ → List Action → State
final n l = after (fresh n) l

abbrev pub history : ℕ → List Action → List Event
history n l = events (fresh n) l

abbrev pub book : ℕ → List Action → ℕ → Book
book n l i = book_of i (history n l) new_book

pub record Demand3 (n : ℕ) (l : List Action) : Type 0 where
  -- every accepted request is confirmed, running or waiting, and every confirmation confirmed one: no request has two, and none is lost
  pub right : (i : ℕ) → i < n → (book n l i).wrong ≡ false
  pub counted : (i : ℕ) → i < n → requests i (history n l) ≡ size (book n l i)
  pub once : (i : ℕ) → i < n → confirmations i (history n l) ≡ length (book n l i).confirmed
  -- "until then the buffer holds its address, header and data"
  pub waits : (i : ℕ) → i < n → (book n l i).waiting ≡ ((final n l).cell i).buffer
  -- request 3: "A confirmation, and the told report before an ack a, bears the label of its own request". "When a requester was reported ack a, the addressed node, and only it, had been told of that very packet […]
  -- And its user, and no other, had given a for it."
  pub honest : (i : ℕ) → i < n → AllHonest (book n l i).confirmed
  -- "If the bus is not idle, some forward action is open"
  pub opens : is_idle (final n l).phase ≡ false → (a : Action) × (is_forward (final n l) a ≡ true)
  -- "and however these are chosen, one after the other, it is idle after at most 21n + 2", to which n is added
  pub ends : (c : List Action) → all_forward (final n l) c ≡ true → accepted_of (final n l) c ≡ bound n → meets_idle (final n l) c ≡ true
  -- "If it is idle, every node rests": "an Idle bus may have nodes in Rest or Asked"
  pub rests : is_idle (final n l).phase ≡ true → (i : ℕ) → i < n → (((final n l).cell i).mode ≡ Rest) ⊎ (((final n l).cell i).mode ≡ Asked)
  -- "and each accepted request has had exactly one confirmation or still waits in its buffer with none": none is started and unconfirmed
  pub settled : is_idle (final n l).phase ≡ true → (i : ℕ) → i < n → (book n l i).running ≡ none
