-- The stages of a transaction as tables: at each stage the places in which the sender and the other nodes may be, and how many forward actions are left at most.
-- Round 0 is the packet of the node that won, with its acknowledgement; round 1 is what a node sends that kept the bus (hold 1), with its acknowledgement. The mark of the bus says which round it is.
use mathlib.Core.Path.{◌≡◌, refl, sym, ap, subst}
use mathlib.Core.Logic.{◌≢◌}
use mathlib.Core.Bool.{Bool, true, false, cond, ◌&&◌, not}
use mathlib.Core.List.{List, [], ◌∷◌}
use Prim.Native.Nat.{ℕ, suc, ◌<◌, ◌≤◌, ◌+◌, ◌-◌, ◌*◌}
use lib.Dec.{T, eqb, ltb, leb}
use lib.ListN.{get_or}
use Rattle.charts.specs.declared.Mode.{Mode}
use Rattle.charts.specs.declared.Signal.{Signal}
use Rattle.charts.specs.declared.Signal.TheVariants.{Start, End, Prefix, Gap, Dhead, Dest, Header, Data, Ack}
use Rattle.charts.specs.declared.Phase.{Phase}
use Rattle.charts.specs.declared.Phase.TheVariants.{Idle, Busy, Delivering, Granting, Gapping}
use Rattle.charts.specs.declared.Cell.{Cell}
use Rattle.charts.specs.declared.Entry.{Entry}
use Rattle.charts.specs.Modes as P
use Rattle.charts.specs.Modes.{place_of, is_asked}
use Rattle.charts.specs.Signals as S
use Rattle.charts.specs.Signals.{class_of, kind_of}
use Rattle.charts.specs.Reception.{hears}
use Rattle.charts.specs.Table.{entry}
use Rattle.charts.specs.State.{pendings, some, count, total, every, askers}
use Rattle.charts.proofs.Tools.{implies, implied, not_implied, and-true, both, pick, table_at, every_pair, mem, every_in, mem-sub}
use Rattle.charts.proofs.Places.{law, active, sending_at, acking_at, step_of, resting}

-- A signal under way: its kind, its round, the steps of its sender, the places of the other nodes before and after they heard it.
-- At most one of the others stands in a place of `sole`: the requester, and in the packet of round 1 the node that reads it, who was the requester of round 0.
-- What is left after it: `turns` times n and `more`. `next` is the turn that follows it (where the sender has asked from Holding, the turn after that; 17: none)
pub record Row : Type 0 where
  pub kind : ℕ
  pub round : ℕ
  pub sender : List ℕ
  pub before : List ℕ
  pub after : List ℕ
  pub sole : List ℕ
  pub turns : ℕ
  pub more : ℕ
  pub next : ℕ

abbrev row : ℕ → ℕ → List ℕ → List ℕ → List ℕ → List ℕ → ℕ → ℕ → ℕ → Row
row k r s b a l t m x = record { kind = k; round = r; sender = s; before = b; after = a; sole = l; turns = t; more = m; next = x }

-- the other nodes: after each signal of a packet; at rest, done with it or awaiting the acknowledgement; after its Start and its Ack; waiting, or listening for a concatenated packet;
-- after this one's Start and Dhead
abbrev addressed_to : List ℕ
addressed_to = P.head_own ∷ P.head_all ∷ P.wait ∷ []

abbrev head_read : List ℕ
head_read = P.head_own ∷ P.head_all ∷ P.body_own ∷ P.body_all ∷ P.wait ∷ P.owed ∷ []

abbrev data_read : List ℕ
data_read = P.head_own ∷ P.head_all ∷ P.body_own ∷ P.body_all ∷ P.tail_own_good ∷ P.tail_own_bad ∷ P.tail_all_good ∷ P.tail_all_bad ∷ P.wait ∷ P.owed ∷ []

abbrev pub packet_read : List ℕ
packet_read = P.rest ∷ P.asked ∷ P.wait ∷ P.owed ∷ P.told ∷ []

abbrev pub quiet : List ℕ
quiet = P.rest ∷ P.asked ∷ P.await_ack ∷ P.wait ∷ []

abbrev ack_opened : List ℕ
ack_opened = P.ack_body ∷ P.opened ∷ P.wait ∷ []

abbrev ack_read : List ℕ
ack_read = P.ack_body ∷ P.ack_good ∷ P.ack_none ∷ P.opened ∷ P.addressed ∷ P.wait ∷ []

abbrev pub waiting : List ℕ
waiting = P.wait ∷ []

abbrev listeners : List ℕ
listeners = P.wait ∷ P.listening ∷ []

abbrev reply_opened : List ℕ
reply_opened = P.opened ∷ P.wait ∷ []

abbrev reply_headed : List ℕ
reply_headed = P.addressed ∷ P.wait ∷ []

abbrev pub ended : List ℕ
ended = P.rest ∷ P.asked ∷ P.await_ack ∷ []

-- a requester that has put out its packet, up to the end of the acknowledgement; a node that reads a concatenated packet, up to its end
abbrev pub requesting : List ℕ
requesting = P.await_ack ∷ P.ack_body ∷ P.ack_good ∷ P.ack_none ∷ P.listening ∷ []

abbrev pub reading : List ℕ
reading =
    P.listening ∷ P.opened ∷ P.addressed ∷ P.head_own ∷ P.head_all ∷ P.body_own ∷ P.body_all ∷ P.tail_own_good ∷ P.tail_own_bad ∷ P.tail_all_good ∷ P.tail_all_bad
    ∷ P.owed ∷ P.told ∷ []

-- the steps of a node that answers
abbrev pub answering : List ℕ
answering = P.answering ∷ acking_at 0 ∷ []

abbrev pub rows : List Row
rows =
    -- 0 to 5: the packet of the node that won
    row 0 0 (sending_at 1 ∷ []) resting (P.opened ∷ []) requesting 20 1 1
    ∷ row 4 0 (sending_at 2 ∷ []) (P.opened ∷ []) (P.addressed ∷ []) requesting 19 1 2
    ∷ row 5 0 (sending_at 3 ∷ []) (P.addressed ∷ []) addressed_to requesting 18 1 3
    ∷ row 6 0 (sending_at 4 ∷ []) addressed_to head_read requesting 17 1 4
    ∷ row 7 0 (sending_at 5 ∷ []) head_read data_read requesting 16 1 5
    ∷ row 1 0 ended data_read packet_read requesting 15 1 17
    -- 6: a filler of Answering; 7 to 10: Start, Ack, and End or Prefix of the acknowledgement. (That Prefix marks the bus)
    ∷ row 2 0 answering quiet quiet requesting 13 3 17
    ∷ row 0 0 (acking_at 1 ∷ []) quiet ack_opened requesting 12 3 6
    ∷ row 8 0 (acking_at 2 ∷ []) ack_opened ack_read requesting 11 3 7
    ∷ row 1 0 resting ack_read waiting requesting 1 0 17
    ∷ row 2 1 (P.holding ∷ sending_at 0 ∷ []) ack_read listeners requesting 10 2 8
    -- 11: a filler of Holding; 12 to 17: the packet that it sends
    ∷ row 2 1 (P.holding ∷ sending_at 0 ∷ []) listeners listeners requesting 10 2 8
    ∷ row 0 1 (sending_at 1 ∷ []) listeners reply_opened reading 9 2 10
    ∷ row 4 1 (sending_at 2 ∷ []) reply_opened reply_headed reading 8 2 11
    ∷ row 5 1 (sending_at 3 ∷ []) reply_headed addressed_to reading 7 2 12
    ∷ row 6 1 (sending_at 4 ∷ []) addressed_to head_read reading 6 2 13
    ∷ row 7 1 (sending_at 5 ∷ []) head_read data_read reading 5 2 14
    ∷ row 1 1 ended data_read packet_read reading 4 2 17
    -- 18: a filler of Answering; 19 to 21: Start, Ack and End of its acknowledgement
    ∷ row 2 1 answering quiet quiet requesting 4 0 17
    ∷ row 0 1 (acking_at 1 ∷ []) quiet ack_opened requesting 3 0 15
    ∷ row 8 1 (acking_at 2 ∷ []) ack_opened ack_read requesting 2 0 16
    ∷ row 1 1 resting ack_read waiting requesting 1 0 17
    ∷ []

abbrev pub row_at : ℕ → Row
row_at d = get_or rows d (row 0 0 [] [] [] [] 0 0 0)

-- the round of a bus that is marked or not, and a round's row of Answering's fillers
abbrev pub round_of : Bool → ℕ
round_of b = cond b 1 0

abbrev pub filler_of : ℕ → ℕ
filler_of r = cond (eqb r 0) 6 18

-- A Busy bus on which one node is about to put out its next signal: that node's step, the round, the places of the other nodes, those with at most one of them, and what is left.
-- `next` is the row of the signal that it puts out (Acking's last: an End; with hold 1 it is the row after)
pub record Turn : Type 0 where
  pub step : ℕ
  pub round : ℕ
  pub room : List ℕ
  pub sole : List ℕ
  pub turns : ℕ
  pub more : ℕ
  pub next : ℕ

abbrev turn : ℕ → ℕ → List ℕ → List ℕ → ℕ → ℕ → ℕ → Turn
turn s r k l t m d = record { step = s; round = r; room = k; sole = l; turns = t; more = m; next = d }

abbrev pub turns : List Turn
turns =
    turn (sending_at 0) 0 resting requesting 21 1 0
    ∷ turn (sending_at 1) 0 (P.opened ∷ []) requesting 20 1 1
    ∷ turn (sending_at 2) 0 (P.addressed ∷ []) requesting 19 1 2
    ∷ turn (sending_at 3) 0 addressed_to requesting 18 1 3
    ∷ turn (sending_at 4) 0 head_read requesting 17 1 4
    ∷ turn (sending_at 5) 0 data_read requesting 16 1 5
    ∷ turn (acking_at 1) 0 ack_opened requesting 12 3 8
    ∷ turn (acking_at 2) 0 ack_read requesting 11 3 9
    ∷ turn P.holding 1 listeners requesting 10 3 11
    ∷ turn (sending_at 0) 1 listeners requesting 10 2 12
    ∷ turn (sending_at 1) 1 reply_opened reading 9 2 13
    ∷ turn (sending_at 2) 1 reply_headed reading 8 2 14
    ∷ turn (sending_at 3) 1 addressed_to reading 7 2 15
    ∷ turn (sending_at 4) 1 head_read reading 6 2 16
    ∷ turn (sending_at 5) 1 data_read reading 5 2 17
    ∷ turn (acking_at 1) 1 ack_opened requesting 3 0 20
    ∷ turn (acking_at 2) 1 ack_read requesting 2 0 21
    ∷ []

abbrev pub turn_at : ℕ → Turn
turn_at t = get_or turns t (turn 0 0 [] [] 0 0 0)

-- the steps of all nodes while the bus grants, and after that while spurious holders end and the addressed node answers
abbrev pub grant_steps : List ℕ
grant_steps = P.rest ∷ P.asked ∷ P.await_ack ∷ P.wait ∷ P.owed ∷ P.told ∷ P.answering ∷ P.spurious ∷ acking_at 0 ∷ []

abbrev pub clear_steps : List ℕ
clear_steps = P.rest ∷ P.asked ∷ P.await_ack ∷ P.wait ∷ P.answering ∷ P.spurious ∷ acking_at 0 ∷ []

abbrev pub acting : (ℕ → Cell) → ℕ → Bool
acting f k = active (place_of (f k).mode)

-- nobody but node `who` is in a place of l
abbrev pub Sole : ℕ → (ℕ → Cell) → List ℕ → ℕ → Type 0
Sole n f l who = (k : ℕ) → k < n → k ≢ who → mem (place_of (f k).mode) l ≡ false

-- the stage of a bus, marked or not (b): row d is under way from w, and j is the next to hear it
pub record Delivery (b : Bool) (n : ℕ) (f : ℕ → Cell) (w : ℕ) (g : Signal) (j : ℕ) : Type 0 where
  pub d : ℕ
  pub d_lt : d < 22
  pub round : (row_at d).round ≡ round_of b
  pub kind : kind_of g ≡ (row_at d).kind
  pub here : w < n
  pub next_lt : j < n
  pub apart : j ≢ w
  pub sender : mem (step_of (f w).mode) (row_at d).sender ≡ true
  pub before : (k : ℕ) → k < n → k ≢ w → j ≤ k → mem (place_of (f k).mode) (row_at d).before ≡ true
  pub after : (k : ℕ) → k < n → k ≢ w → k < j → mem (place_of (f k).mode) (row_at d).after ≡ true
  pub who : ℕ
  pub sole : (k : ℕ) → k < n → k ≢ w → k ≢ who → mem (place_of (f k).mode) (row_at d).sole ≡ false

-- it is node w's turn t
pub record Talk (b : Bool) (n : ℕ) (f : ℕ → Cell) : Type 0 where
  pub t : ℕ
  pub t_lt : t < 17
  pub round : (turn_at t).round ≡ round_of b
  pub w : ℕ
  pub here : w < n
  pub talker : step_of (f w).mode ≡ (turn_at t).step
  pub room : (k : ℕ) → k < n → k ≢ w → mem (place_of (f k).mode) (turn_at t).room ≡ true
  pub who : ℕ
  pub sole : (k : ℕ) → k < n → k ≢ w → k ≢ who → mem (place_of (f k).mode) (turn_at t).sole ≡ false

-- the bus grants; it clears
pub record GrantingAt (n : ℕ) (f : ℕ → Cell) : Type 0 where
  pub steps : (k : ℕ) → k < n → mem (step_of (f k).mode) grant_steps ≡ true
  pub pends : some (pendings f) n ≡ true
  pub who : ℕ
  pub sole : Sole n f requesting who

pub record Clear (n : ℕ) (f : ℕ → Cell) : Type 0 where
  pub steps : (k : ℕ) → k < n → mem (step_of (f k).mode) clear_steps ≡ true
  pub acts : some (acting f) n ≡ true
  pub who : ℕ
  pub sole : Sole n f requesting who

pub data BusyAt (b : Bool) (n : ℕ) (f : ℕ → Cell) : Type 0 where
  talks : Talk b n f → BusyAt b n f
  clears : Clear n f → BusyAt b n f

pub record GappingAt (n : ℕ) (f : ℕ → Cell) (j : ℕ) : Type 0 where
  pub gap_lt : j < n
  pub calm : (k : ℕ) → k < n → mem (place_of (f k).mode) quiet ≡ true
  pub past : (k : ℕ) → k < n → k < j → mem (place_of (f k).mode) resting ≡ true

pub record IdleAt (b : Bool) (n : ℕ) (f : ℕ → Cell) : Type 0 where
  pub unmarked : b ≡ false
  pub rests : (k : ℕ) → k < n → mem (place_of (f k).mode) resting ≡ true

abbrev pub Stage : Bool → Phase → ℕ → (ℕ → Cell) → Type 0
Stage b Idle n f = IdleAt b n f
Stage b Busy n f = BusyAt b n f
Stage b (Delivering w g j) n f = Delivery b n f w g j
Stage b Granting n f = GrantingAt n f
Stage b (Gapping j) n f = GappingAt n f j

-- What is left, in forward actions. While the bus grants and clears: 2 for a node that owes or was told, 1 for one that answers or is spurious
abbrev pub weigh : ℕ → ℕ
weigh p = cond (mem p (P.owed ∷ P.told ∷ [])) 2 (cond (mem p (P.answering ∷ P.spurious ∷ [])) 1 0)

abbrev pub weights : (ℕ → Cell) → ℕ → ℕ
weights f k = weigh (place_of (f k).mode)

-- the receivers from j on that are not the sender w
abbrev pub left : ℕ → ℕ → ℕ → ℕ
left w j n = cond (ltb w j) (n - j) (n - suc j)

-- one more where the sender still has to respond or to ask
abbrev pub bonus : ℕ → ℕ
bonus c = cond (mem c (P.answering ∷ P.holding ∷ [])) 1 0

abbrev pub row_rank : ℕ → ℕ → ℕ → ℕ
row_rank d c n = (row_at d).turns * n + (row_at d).more + bonus c

abbrev pub turn_rank : ℕ → ℕ → ℕ
turn_rank t n = (turn_at t).turns * n + (turn_at t).more

abbrev pub clear_rank : Bool → ℕ → (ℕ → Cell) → ℕ
clear_rank b n f = cond b (4 * n) (13 * n + 3) + total (weights f) n

abbrev pub busy_rank : (b : Bool) (n : ℕ) (f : ℕ → Cell) → BusyAt b n f → ℕ
busy_rank b n f (talks a) = turn_rank a.t n
busy_rank b n f (clears a) = clear_rank b n f

abbrev pub rank : (b : Bool) (p : Phase) (n : ℕ) (f : ℕ → Cell) → Stage b p n f → ℕ
rank b Idle n f a = 0
rank b Busy n f a = busy_rank b n f a
rank b (Delivering w g j) n f a = left w j n + row_rank a.d (step_of (f w).mode) n
rank b Granting n f a = clear_rank b n f
rank b (Gapping j) n f a = n - j

-- and 1 for each node that is Asked, at every stage: it is to be decided before anything else goes on
abbrev pub undecided : (ℕ → Cell) → ℕ → ℕ
undecided f n = count (askers f) n

-- The classes in which a signal of a kind can arrive
abbrev pub arrivals : List (List ℕ)
arrivals =
    (S.start ∷ []) ∷ (S.end ∷ []) ∷ (S.prefix ∷ []) ∷ (S.gap ∷ []) ∷ (S.dhead ∷ []) ∷ (S.dest_own ∷ S.dest_all ∷ S.dest_other ∷ [])
    ∷ (S.header_good ∷ S.header_bad ∷ []) ∷ (S.data_good ∷ S.data_bad ∷ []) ∷ (S.ack_good ∷ S.ack_bad ∷ []) ∷ []

comes : (me : ℕ) (s : Signal) → mem (class_of me s) (get_or arrivals (kind_of s) []) ≡ true
comes me Start = refl
comes me End = refl
comes me Prefix = refl
comes me Gap = refl
comes me Dhead = refl
comes me (Dest a) =
    pick (λ c. mem c (S.dest_own ∷ S.dest_all ∷ S.dest_other ∷ []) ≡ true) (eqb a me) _ _ refl (pick (λ c. mem c (S.dest_own ∷ S.dest_all ∷ S.dest_other ∷ []) ≡ true) (eqb a S.everybody) _ _ refl refl)
comes me (Header h good) = pick (λ c. mem c (S.header_good ∷ S.header_bad ∷ []) ≡ true) good _ _ refl refl
comes me (Data d good) = pick (λ c. mem c (S.data_good ∷ S.data_bad ∷ []) ≡ true) good _ _ refl refl
comes me (Ack a good) = pick (λ c. mem c (S.ack_good ∷ S.ack_bad ∷ []) ≡ true) good _ _ refl refl

-- one computed test over 22 rows, 25 places and 14 classes: each node that was in a place of `before`, and is not Asked, comes to one of `after`, and to one of `sole` only if it was in one
leads : ℕ → Entry → ℕ → ℕ → Bool
leads d y p c =
    implies (not (eqb p P.asked)) (implies (mem p (row_at d).before && mem c (get_or arrivals (row_at d).kind []))
    (mem y.place (row_at d).after && implies (mem y.place (row_at d).sole) (mem p (row_at d).sole)))

all_lead : T (every (λ d. every_pair (λ p c. leads d (entry p c) p c) 25 14) 22)
unfolding leads
all_lead = tt

holds : {b : Bool} → b ≡ true → T b
holds {b} e = subst T (sym e) tt

-- what the row says of a node that was in mode m and comes to a place p
pub record Lands (d p : ℕ) (m : Mode) : Type 0 where
  pub after : mem p (row_at d).after ≡ true
  pub sole : mem (place_of m) (row_at d).sole ≡ false → mem p (row_at d).sole ≡ false

pub heard_lands : (d : ℕ) → d < 22 → (me label : ℕ) (m : Mode) (s : Signal) → is_asked m ≡ false → kind_of s ≡ (row_at d).kind → mem (place_of m) (row_at d).before ≡ true → Lands d (place_of (hears me label m s).mode) m
unfolding leads
heard_lands d h me label m s q e t =
    let z = and-true _ _ (implied _ _ (implied (not (is_asked m)) _ (law (leads d) (holds (table_at (λ d. every_pair (λ p c. leads d (entry p c) p c) 25 14) 22 all_lead d h)) me label m s) (ap not q))
    (both _ _ t (subst (λ k. mem (class_of me s) (get_or arrivals k []) ≡ true) e (comes me s)))) in
    record { after = z.0; sole = λ u. not_implied _ _ z.1 u }

-- a signal that is lost leaves a node where it is allowed too: Header, Data and Ack
pub lost_lands : (d : ℕ) → d < 22 → leb 6 (row_at d).kind ≡ true → (m : Mode) → mem (place_of m) (row_at d).before ≡ true → Lands d (place_of m) m
lost_lands d h e m t = record {
  after = mem-sub (row_at d).before (row_at d).after (implied _ _ (table_at (λ d. implies (leb 6 (row_at d).kind) (every_in (row_at d).before (row_at d).after)) 22 tt d h) e) (place_of m) t;
  sole = λ q. q;
}
