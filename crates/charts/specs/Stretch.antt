-- The claim of demand 3 about confirmations once more, in a form that speaks of places in the list of events alone: it uses no book. proofs/Stretches.antt proves it from the first form.
use Rattle.std.specs.Prelude.{◌≡◌, Bool, true, false, cond, ◌&&◌, ◌||◌, not, List, [], ◌∷◌, ◌++◌, ℕ, eqb}
use Rattle.charts.specs.declared.Report.{Report}
use Rattle.charts.specs.declared.Report.TheVariants.{Silent, Won, Lost, Sent, Acked, Miss, Drop, Good, Dcrc, Broad}
use Rattle.charts.specs.declared.Packet.{Packet}
use Rattle.charts.specs.declared.Move.{Move}
use Rattle.charts.specs.declared.Move.TheVariants.{Request, Arbitrate, Respond, Clock, Carry, Grant, GapNext, Reset, Ask, Decide}
use Rattle.charts.specs.declared.Action.{Action}
use Rattle.charts.specs.Step.{Event, refusal, accepted}
use Rattle.charts.specs.Demand.{history}

-- "its node's last accepted respond had hold 1 and no request of that node was accepted since", after one move more and after a list of events
abbrev pub held_by : ℕ → Move → Bool → Bool
held_by i (Request j p) h = h && not (eqb i j)
held_by i (Arbitrate j) h = h
held_by i (Respond j a hold) h = cond (eqb i j) hold h
held_by i (Clock j) h = h
held_by i (Carry w) h = h
held_by i Grant h = h
held_by i GapNext h = h
held_by i Reset h = h
held_by i (Ask j) h = h
held_by i (Decide j) h = h

abbrev pub held_from : ℕ → Bool → List Event → Bool
held_from i h [] = h
held_from i h (refusal k ∷ l) = held_from i h l
held_from i h (accepted m r ∷ l) = held_from i (held_by i m h) l

abbrev pub held : ℕ → List Event → Bool
held i l = held_from i false l

-- the move is a request of node i; the report is node i's won; it is a confirmation of node i
abbrev pub request_of : ℕ → Move → Bool
request_of i (Request j p) = eqb i j
request_of i (Arbitrate j) = false
request_of i (Respond j a hold) = false
request_of i (Clock j) = false
request_of i (Carry w) = false
request_of i Grant = false
request_of i GapNext = false
request_of i Reset = false
request_of i (Ask j) = false
request_of i (Decide j) = false

abbrev pub won_of : ℕ → Report → Bool
won_of i Silent = false
won_of i (Won j) = eqb i j
won_of i (Lost j) = false
won_of i (Sent j x) = false
won_of i (Acked j a x) = false
won_of i (Miss j x) = false
won_of i (Drop j m) = false
won_of i (Good j h d) = false
won_of i (Dcrc j h) = false
won_of i (Broad j h d) = false

abbrev pub confirmation_of : ℕ → Report → Bool
confirmation_of i Silent = false
confirmation_of i (Won j) = false
confirmation_of i (Lost j) = false
confirmation_of i (Sent j x) = eqb i j
confirmation_of i (Acked j a x) = eqb i j
confirmation_of i (Miss j x) = eqb i j
confirmation_of i (Drop j m) = false
confirmation_of i (Good j h d) = false
confirmation_of i (Dcrc j h) = false
confirmation_of i (Broad j h d) = false

-- no `won` of node i in a list of events; no request of node i starts or is confirmed in it, h saying whether the next one would start at once
abbrev pub no_won : ℕ → List Event → Bool
no_won i [] = true
no_won i (refusal k ∷ l) = no_won i l
no_won i (accepted m r ∷ l) = not (won_of i r) && no_won i l

abbrev pub no_other : ℕ → Bool → List Event → Bool
no_other i h [] = true
no_other i h (refusal k ∷ l) = no_other i h l
no_other i h (accepted m r ∷ l) = not ((request_of i m && h) || (won_of i r || confirmation_of i r)) && no_other i (held_by i m h) l

-- "A request starts at once if […]. Any other starts with its node's next won": the event e, after the events `early`, starts node i's request of the packet p
pub data Starts (i : ℕ) (early : List Event) : Event → Packet → Type 0 where
  at_once : {p : Packet} {r : Report} → held i early ≡ true → Starts i early (accepted (Request i p) r) p
  by_won : {m : Move} {p : Packet} (r : Report) (x y : List Event) → early ≡ x ++ (accepted (Request i p) r ∷ y) → held i x ≡ false → no_won i y ≡ true → Starts i early (accepted m (Won i)) p

-- "the addressed node's, good h d or dcrc h, with the request's own header and data"; "exactly one respond is accepted: that node's, […] with a"
pub data Tells (p : Packet) : Event → Type 0 where
  good : {m : Move} → Tells p (accepted m (Good p.to p.head p.datum))
  dcrc : {m : Move} → Tells p (accepted m (Dcrc p.to p.head))

pub data Gives (p : Packet) (a : ℕ) : Event → Type 0 where
  gives : {hold : Bool} {r : Report} → Gives p a (accepted (Respond p.to a hold) r)

-- no node is told and no respond is accepted in a list of events
abbrev pub tells_none : Report → Bool
tells_none Silent = true
tells_none (Won i) = true
tells_none (Lost i) = true
tells_none (Sent i x) = true
tells_none (Acked i a x) = true
tells_none (Miss i x) = true
tells_none (Drop i m) = true
tells_none (Good i h d) = false
tells_none (Dcrc i h) = false
tells_none (Broad i h d) = false

abbrev pub gives_none : Move → Bool
gives_none (Request i p) = true
gives_none (Arbitrate i) = true
gives_none (Respond i a hold) = false
gives_none (Clock i) = true
gives_none (Carry w) = true
gives_none Grant = true
gives_none GapNext = true
gives_none Reset = true
gives_none (Ask i) = true
gives_none (Decide i) = true

abbrev pub quiet : List Event → Bool
quiet [] = true
quiet (refusal k ∷ l) = quiet l
quiet (accepted m r ∷ l) = gives_none m && (tells_none r && quiet l)

-- the events from a request's start to its `ack a`: one told report, later one respond, and beside these nothing told and no respond
pub record Acknowledged (p : Packet) (a : ℕ) (since : List Event) : Type 0 where
  pub first : List Event
  pub tell : Event
  pub second : List Event
  pub give : Event
  pub third : List Event
  pub split : since ≡ first ++ (tell ∷ (second ++ (give ∷ third)))
  pub tells : Tells p tell
  pub answers : Gives p a give
  pub only : (quiet first ≡ true) × (quiet second ≡ true) × (quiet third ≡ true)

-- node i's confirmation of its request of the packet p, with the events since that request's start: it "bears the label of its own request"
pub data Confirms (i : ℕ) (p : Packet) (since : List Event) : Report → Type 0 where
  sent : Confirms i p since (Sent i p.head.label)
  acked : {a : ℕ} → Acknowledged p a since → Confirms i p since (Acked i a p.head.label)
  missed : Confirms i p since (Miss i p.head.label)

-- the events before a confirmation r of node i: the start of the request that it confirms, and since then no other start and no confirmation of node i
pub record Witnessed (i : ℕ) (r : Report) (before : List Event) : Type 0 where
  pub packet : Packet
  pub early : List Event
  pub start : Event
  pub since : List Event
  pub split : before ≡ early ++ (start ∷ since)
  pub starts : Starts i early start packet
  pub last : no_other i (held i (early ++ (start ∷ []))) since ≡ true
  pub confirms : Confirms i packet since r

-- the claim about a list of action records, played from the fresh bus of n nodes
abbrev pub EveryConfirmation : ℕ → List Action → Type 0
EveryConfirmation n l =
    (before later : List Event) (m : Move) (r : Report) (i : ℕ) → confirmation_of i r ≡ true → history n l ≡ before ++ (accepted m r ∷ later) → Witnessed i r before
