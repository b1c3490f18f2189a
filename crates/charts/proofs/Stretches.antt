-- The second form of the claim about confirmations (specs/Stretch.antt), from the first: what a book that is not wrong says of a node is found again in the list of events itself.
-- `Story` is that reading of a book: where the waiting request was accepted, where the running one started, and that the notes since are those of the events since.
use Rattle.std.specs.Prelude.{None, Option, Some}
use mathlib.Core.Path.{◌≡◌, refl, sym, ap, subst, ◌∙◌}
use mathlib.Core.Logic.{◌⊎◌, inl, inr}
use mathlib.Core.Bool.{Bool, true, false, cond, ◌&&◌, ◌||◌, not, and_assoc, true≢false}
use mathlib.Core.List.{List, [], ◌∷◌, ◌++◌, append-nil, append_assoc}
use Prim.Native.Nat.{ℕ, ◌<◌}
use native.Mathlib.Omega.{arith}
use lib.Dec.{eqb}
use borrow.Author.Tests.{eqb-true, eq-eqb}
use Rattle.charts.specs.declared.Report.{Report}
use Rattle.charts.specs.declared.Report.TheVariants.{Silent, Won, Lost, Sent, Acked, Miss, Drop, Good, Dcrc, Broad}
use Rattle.charts.specs.declared.Packet.{Packet}
use Rattle.charts.specs.declared.Phase.{Phase}
use Rattle.charts.specs.declared.Cell.{Cell}
use Rattle.charts.specs.declared.Marking.{Marking}
use Rattle.charts.specs.declared.Move.{Move}
use Rattle.charts.specs.declared.Move.TheVariants.{Request, Arbitrate, Respond, Clock, Carry, Grant, GapNext, Reset, Ask, Decide}
use Rattle.charts.specs.declared.Action.{Action}
use Rattle.charts.specs.State.{State, fresh}
use Rattle.charts.specs.Actions.{does}
use Rattle.charts.specs.Step.{Result, step, Event, refusal, accepted, event_of, events}
use Rattle.charts.specs.Demand.{Note, told, gave, Run, none, run, Confirmed, Book, new_book, asks, wins, confirms, note, notes, holds_for, mover_of, node_of, moves, reports, enters, book_of, Acknowledged, Honest, AllHonest, book}
use Rattle.charts.specs.Stretch as Stretch
use Rattle.charts.specs.Stretch.{held_by, held_from, held, request_of, won_of, confirmation_of, no_won, no_other, Starts, at_once, by_won, Tells, good, dcrc, gives_none, quiet, Confirms, Witnessed, EveryConfirmation}
use Rattle.charts.proofs.Tools.{never, both, neither, and_yes}
use Rattle.charts.proofs.Ways as Ways
use Rattle.charts.proofs.Ways.{Effect, waits, replies}
use Rattle.charts.proofs.Steps as Steps
use Rattle.charts.proofs.Steps.{Stepped, acts, stepped, step_n}
use Rattle.charts.proofs.Books.{Of, nothing, names, event_names}
use Rattle.charts.proofs.Counted.{was_right, keeps_confirmed}

-- 1. WHAT AN EVENT CAN BE
-- a move that no book and no stretch looks at
record Aside (m : Move) : Type 0 where
  no_entry : (mine : Bool) (b : Book) → moves mine m b ≡ b
  no_hold : (i : ℕ) (h : Bool) → held_by i m h ≡ h
  no_request : (i : ℕ) → request_of i m ≡ false
  no_respond : gives_none m ≡ true

-- a refusal; a request or a respond, which report nothing; another move, with a report of a node below n or none
data Single (n : ℕ) : Event → Type 0 where
  refused : {k : ℕ} → Single n (refusal k)
  asked : {j : ℕ} {p : Packet} → Single n (accepted (Request j p) Silent)
  answered : {j a : ℕ} {h : Bool} → Single n (accepted (Respond j a h) Silent)
  loud : {m : Move} {r : Report} → Aside m → (r ≡ Silent) ⊎ (node_of r < n) → Single n (accepted m r)

single : (s : State) {i : ℕ} {r : Report} {p : Phase} {c : Cell} {x : Marking} (n : ℕ) (m : Move) → (r ≡ Silent) ⊎ (node_of r < n) → Effect s m i (does r p c x) → Single n (accepted m r)
single s n (Request j p) o (waits e f) = asked
single s n (Request j p) o (replies e) = asked
single s n (Request j p) o (Ways.wins e f g h) = elim e [ ]
single s n (Request j p) o (Ways.loses e) = elim e [ ]
single s n (Arbitrate j) o e = loud (record { no_entry = λ y b. refl; no_hold = λ i h. refl; no_request = λ i. refl; no_respond = refl }) o
single s n (Respond j a h) o (Ways.gives e u) = answered
single s n (Respond j a h) o (Ways.wins e f g h') = elim e [ ]
single s n (Respond j a h) o (Ways.loses e) = elim e [ ]
single s n (Clock j) o e = loud (record { no_entry = λ y b. refl; no_hold = λ i h. refl; no_request = λ i. refl; no_respond = refl }) o
single s n (Carry w) o e = loud (record { no_entry = λ y b. refl; no_hold = λ i h. refl; no_request = λ i. refl; no_respond = refl }) o
single s n Grant o e = loud (record { no_entry = λ y b. refl; no_hold = λ i h. refl; no_request = λ i. refl; no_respond = refl }) o
single s n GapNext o e = loud (record { no_entry = λ y b. refl; no_hold = λ i h. refl; no_request = λ i. refl; no_respond = refl }) o
single s n Reset o e = loud (record { no_entry = λ y b. refl; no_hold = λ i h. refl; no_request = λ i. refl; no_respond = refl }) o
single s n (Ask j) o e = loud (record { no_entry = λ y b. refl; no_hold = λ i h. refl; no_request = λ i. refl; no_respond = refl }) o
single s n (Decide j) o e = loud (record { no_entry = λ y b. refl; no_hold = λ i h. refl; no_request = λ i. refl; no_respond = refl }) o

below : (n i : ℕ) (r : Report) → i < n → Of i r → (r ≡ Silent) ⊎ (node_of r < n)
below n i r h (nothing e) = inl e
below n i r h (names e) = inr (subst (λ i. i < n) (sym e) h)

-- every event of a step is one of these
step_single : (s : State) (a : Action) → Single s.n (event_of a (step s a))
step_single s a = go (step s a) (event_of a (step s a)) (stepped s a)
  where
    go : (r : Result) (e : Event) → Stepped s a r e → Single s.n e
    go r e (Steps.refused q) = refused
    go r e (acts {i = i} {r = t} v k l f x) = single s s.n _ (below s.n i t l (event_names s x).reporter) x

-- so is every event of a run
abbrev Singles : ℕ → List Event → Type 0
Singles n [] = Unit {0}
Singles n (e ∷ l) = (Single n e) × (Singles n l)

all_single : (s : State) (l : List Action) → Singles s.n (events s l)
all_single s [] = tt
all_single s (a ∷ l) = (step_single s a, subst (λ n. Singles n (events (step s a).state l)) (step_n s a) (all_single (step s a).state l))

singles_split : (n : ℕ) (x y : List Event) → Singles n (x ++ y) → (Singles n x) × (Singles n y)
singles_split n [] y v = (tt, v)
singles_split n (e ∷ x) y v = let z = singles_split n x y v.1 in ((v.0, z.0), z.1)

-- 2. LISTS OF EVENTS, one after the other
held_append : (i : ℕ) (h : Bool) (x y : List Event) → held_from i h (x ++ y) ≡ held_from i (held_from i h x) y
held_append i h [] y = refl
held_append i h (refusal k ∷ x) y = held_append i h x y
held_append i h (accepted m r ∷ x) y = held_append i (held_by i m h) x y

quiet_append : (x y : List Event) → quiet (x ++ y) ≡ quiet x && quiet y
quiet_append [] y = refl
quiet_append (refusal k ∷ x) y = quiet_append x y
quiet_append (accepted m r ∷ x) y = rw (quiet_append x y) (simp and_assoc)

won_append : (i : ℕ) (x y : List Event) → no_won i (x ++ y) ≡ no_won i x && no_won i y
won_append i [] y = refl
won_append i (refusal k ∷ x) y = won_append i x y
won_append i (accepted m r ∷ x) y = rw (won_append i x y) (simp and_assoc)

start_append : (i : ℕ) (h : Bool) (x y : List Event) → no_other i h (x ++ y) ≡ no_other i h x && no_other i (held_from i h x) y
start_append i h [] y = refl
start_append i h (refusal k ∷ x) y = start_append i h x y
start_append i h (accepted m r ∷ x) y = rw (start_append i (held_by i m h) x y) (simp and_assoc)

book_append : (i : ℕ) (x y : List Event) (b : Book) → book_of i (x ++ y) b ≡ book_of i y (book_of i x b)
book_append i [] y b = refl
book_append i (e ∷ x) y b = book_append i x y (enters i e b)

-- 3. THE STORY OF A BOOK
-- the note that an event makes; the notes of a list of events, the latest first
data Notes : Event → Note → Type 0 where
  tells : {m : Move} {r : Report} → Notes (accepted m r) (told r)
  gives : {j a : ℕ} {h : Bool} {r : Report} → Notes (accepted (Respond j a h) r) (gave j a)

data Since : List Event → List Note → Type 0 where
  blank : {l : List Event} → quiet l ≡ true → Since l []
  next : {l : List Event} {e : Event} {x : Note} {ns : List Note} → Since l ns → Notes e x → (k : List Event) → quiet k ≡ true → Since (l ++ (e ∷ k)) (x ∷ ns)

-- the request of the packet p waits since it was accepted; runs since it started
record Waiting (i : ℕ) (l : List Event) (p : Packet) : Type 0 where
  early : List Event
  report : Report
  later : List Event
  split : l ≡ early ++ (accepted (Request i p) report ∷ later)
  unheld : held i early ≡ false
  unwon : no_won i later ≡ true

record Running (i : ℕ) (l : List Event) (p : Packet) (ns : List Note) : Type 0 where
  early : List Event
  start : Event
  later : List Event
  split : l ≡ early ++ (start ∷ later)
  starts : Starts i early start p
  last : no_other i (held i (early ++ (start ∷ []))) later ≡ true
  since : Since later ns

abbrev Waits : ℕ → List Event → Option Packet → Type 0
Waits i l None = Unit {0}
Waits i l (Some p) = Waiting i l p

abbrev Runs : ℕ → List Event → Run → Type 0
Runs i l none = Unit {0}
Runs i l (run p ns) = Running i l p ns

record Story (i : ℕ) (l : List Event) (b : Book) : Type 0 where
  holds : b.held ≡ held i l
  waiting : Waits i l b.waiting
  running : Runs i l b.running

-- one event e more
module _ (i : ℕ) (l : List Event) (e : Event) where
  held_on : held i (l ++ (e ∷ [])) ≡ held_from i (held i l) (e ∷ [])
  held_on = held_append i false l (e ∷ [])

  waits_on : (w : Option Packet) → no_won i (e ∷ []) ≡ true → Waits i l w → Waits i (l ++ (e ∷ [])) w
  waits_on None q v = tt
  waits_on (Some p) q v = record {
    early = v.early;
    report = v.report;
    later = v.later ++ (e ∷ []);
    split = ap (λ l. l ++ (e ∷ [])) v.split ∙ append_assoc v.early _ _;
    unheld = v.unheld;
    unwon = won_append i v.later _ ∙ both _ _ v.unwon q;
  }

  running_on : {p : Packet} {ns ms : List Note} → no_other i (held i l) (e ∷ []) ≡ true → ((k : List Event) → Since k ns → Since (k ++ (e ∷ [])) ms) →
      Running i l p ns → Running i (l ++ (e ∷ [])) p ms
  running_on q f v = record {
    early = v.early;
    start = v.start;
    later = v.later ++ (e ∷ []);
    split = ap (λ l. l ++ (e ∷ [])) v.split ∙ append_assoc v.early _ _;
    starts = v.starts;
    last = start_append i _ v.later _ ∙ both _ _ v.last (subst (λ h. no_other i h (e ∷ []) ≡ true)
        (ap (held i) (v.split ∙ sym (append_assoc v.early (v.start ∷ []) v.later)) ∙ held_append i false (v.early ++ (v.start ∷ [])) v.later) q);
    since = f v.later v.since;
  }

  since_on : {ns : List Note} → quiet (e ∷ []) ≡ true → (k : List Event) → Since k ns → Since (k ++ (e ∷ [])) ns
  since_on q k (blank z) = blank (quiet_append k _ ∙ both _ _ z q)
  since_on q k (next {l = l} {e = d} s x k' z) = rw (append_assoc l (d ∷ k') (e ∷ [])) (next s x _ (quiet_append k' _ ∙ both _ _ z q))

  runs_on : (r : Run) → no_other i (held i l) (e ∷ []) ≡ true → quiet (e ∷ []) ≡ true → Runs i l r → Runs i (l ++ (e ∷ [])) r
  runs_on none s q v = tt
  runs_on (run p ns) s q v = running_on s (since_on q) v

  runs_note : (x : Note) (r : Run) → no_other i (held i l) (e ∷ []) ≡ true → Notes e x → Runs i l r → Runs i (l ++ (e ∷ [])) (note x r)
  runs_note x none s z v = tt
  runs_note x (run p ns) s z v = running_on s (λ k u. next u z [] refl) v

  begins : {p : Packet} → Starts i l e p → Running i (l ++ (e ∷ [])) p []
  begins s = record { early = l; start = e; later = []; split = refl; starts = s; last = refl; since = blank refl }

  -- an event that is no `won` of node i and leaves its hold as it is; where it is neither a start nor a confirmation of node i, `other`
  record Calm : Type 0 where
    hold : held_from i (held i l) (e ∷ []) ≡ held i l
    won : no_won i (e ∷ []) ≡ true

  abbrev Other : Type 0
  Other = no_other i (held i l) (e ∷ []) ≡ true

  -- after such an event the story goes on: with nothing, a note or a confirmation
  module _ (b : Book) (v : Story i l b) (c : Calm) where
    passes : Other → quiet (e ∷ []) ≡ true → Story i (l ++ (e ∷ [])) b
    passes o q = record { holds = v.holds ∙ sym (held_on ∙ c.hold); waiting = waits_on b.waiting c.won v.waiting; running = runs_on b.running o q v.running }

    noted : Other → (x : Note) → Notes e x → Story i (l ++ (e ∷ [])) (notes x b)
    noted o x z = record { holds = v.holds ∙ sym (held_on ∙ c.hold); waiting = waits_on b.waiting c.won v.waiting; running = runs_note x b.running o z v.running }

    confirmed : (r : Report) (x : Run) → (confirms r x b).wrong ≡ false → Story i (l ++ (e ∷ [])) (confirms r x b)
    confirmed r none w = absurd (true≢false w)
    confirmed r (run p ns) w = record { holds = v.holds ∙ sym (held_on ∙ c.hold); waiting = waits_on b.waiting c.won v.waiting; running = tt }

and_no : (b : Bool) → b && false ≡ false
and_no true = refl
and_no false = refl

module _ (i : ℕ) (l : List Event) (b : Book) (v : Story i l b) where
  -- a request of node i, which starts at once or waits
  my_request : (p : Packet) (h : Bool) → b.held ≡ h → Story i (l ++ (accepted (Request i p) Silent ∷ [])) (asks h p b)
  my_request p h q = go h q
    where
      e : Event
      e = accepted (Request i p) Silent

      freed : false ≡ held i (l ++ (e ∷ []))
      freed = sym (held_on i l e ∙ ap (λ y. held i l && not y) (eq-eqb i i refl) ∙ and_no (held i l))

      go : (h : Bool) → b.held ≡ h → Story i (l ++ (e ∷ [])) (asks h p b)
      go true q = record { holds = freed; waiting = waits_on i l e b.waiting refl v.waiting; running = begins i l e (at_once (sym v.holds ∙ q)) }
      go false q = record {
        holds = freed;
        waiting = record { early = l; report = Silent; later = []; split = refl; unheld = sym v.holds ∙ q; unwon = refl };
        running = runs_on i l e b.running (ap (λ h. not ((eqb i i && h) || false) && true) (sym v.holds ∙ q) ∙ ap (λ y. not (y || false) && true) (and_no (eqb i i))) refl v.running;
      }

  request : (j : ℕ) (p : Packet) (mine : Bool) → eqb i j ≡ mine → Story i (l ++ (accepted (Request j p) Silent ∷ [])) (moves mine (Request j p) b)
  request j p true q = subst (λ j. Story i (l ++ (accepted (Request j p) Silent ∷ [])) (asks b.held p b)) (eqb-true i j q) (my_request p b.held refl)
  request j p false q =
      passes i l _ b v (record { hold = ap (λ y. held i l && not y) q ∙ and_yes (held i l); won = refl }) (ap (λ y. not ((y && held i l) || false) && true) q) refl

  respond : (j a : ℕ) (h : Bool) → Story i (l ++ (accepted (Respond j a h) Silent ∷ [])) (notes (gave j a) (holds_for (eqb i j) h b))
  respond j a h = record {
    holds = ap (cond (eqb i j) h) v.holds ∙ sym (held_on i l _);
    waiting = waits_on i l _ b.waiting refl v.waiting;
    running = runs_note i l _ (gave j a) b.running refl gives v.running;
  }

  module _ (m : Move) (s : Aside m) where
    -- another move than a request or a respond, with its report
    calm : (r : Report) → won_of i r ≡ false → Calm i l (accepted m r)
    calm r q = record { hold = s.no_hold i (held i l); won = ap (λ w. not w && true) q }

    other : (r : Report) → won_of i r ≡ false → confirmation_of i r ≡ false → Other i l (accepted m r)
    other r q c = ap (λ u. not ((u && held i l) || (won_of i r || confirmation_of i r)) && true) (s.no_request i) ∙ ap (λ w. not w && true) (neither _ _ q c)

    -- node i's won: the waiting request starts
    my_won : (f : Option Packet) → Waits i l f → (wins f b).wrong ≡ false → Story i (l ++ (accepted m (Won i) ∷ [])) (wins f b)
    my_won None u w = absurd (true≢false w)
    my_won (Some p) u w = record {
      holds = v.holds ∙ sym (held_on i l (accepted m (Won i)) ∙ s.no_hold i (held i l));
      waiting = tt;
      running = begins i l _ (by_won u.report u.early u.later u.split u.unheld u.unwon);
    }

    report : (mine : Bool) (r : Report) → eqb i (node_of r) ≡ mine → (reports mine r b).wrong ≡ false → Story i (l ++ (accepted m r ∷ [])) (reports mine r b)
    report mine Silent q w = passes i l _ b v (calm Silent refl) (other Silent refl refl) (both _ _ s.no_respond refl)
    report true (Won j) q w = subst (λ j. Story i (l ++ (accepted m (Won j) ∷ [])) (wins b.waiting b)) (eqb-true i j q) (my_won b.waiting v.waiting w)
    report false (Won j) q w = passes i l _ b v (calm (Won j) q) (other (Won j) q refl) (both _ _ s.no_respond refl)
    report mine (Lost j) q w = passes i l _ b v (calm (Lost j) refl) (other (Lost j) refl refl) (both _ _ s.no_respond refl)
    report true (Sent j x) q w = confirmed i l _ b v (calm (Sent j x) refl) (Sent j x) b.running w
    report false (Sent j x) q w = passes i l _ b v (calm (Sent j x) refl) (other (Sent j x) refl q) (both _ _ s.no_respond refl)
    report true (Acked j a x) q w = confirmed i l _ b v (calm (Acked j a x) refl) (Acked j a x) b.running w
    report false (Acked j a x) q w = passes i l _ b v (calm (Acked j a x) refl) (other (Acked j a x) refl q) (both _ _ s.no_respond refl)
    report true (Miss j x) q w = confirmed i l _ b v (calm (Miss j x) refl) (Miss j x) b.running w
    report false (Miss j x) q w = passes i l _ b v (calm (Miss j x) refl) (other (Miss j x) refl q) (both _ _ s.no_respond refl)
    report mine (Drop j d) q w = passes i l _ b v (calm (Drop j d) refl) (other (Drop j d) refl refl) (both _ _ s.no_respond refl)
    report mine (Good j h d) q w = noted i l _ b v (calm (Good j h d) refl) (other (Good j h d) refl refl) (told (Good j h d)) tells
    report mine (Dcrc j h) q w = noted i l _ b v (calm (Dcrc j h) refl) (other (Dcrc j h) refl refl) (told (Dcrc j h)) tells
    report mine (Broad j h d) q w = noted i l _ b v (calm (Broad j h d) refl) (other (Broad j h d) refl refl) (told (Broad j h d)) tells

  -- the book and the list, both with one event more
  event : (n : ℕ) (e : Event) → Single n e → (enters i e b).wrong ≡ false → Story i (l ++ (e ∷ [])) (enters i e b)
  event n e refused w = passes i l e b v (record { hold = refl; won = refl }) refl refl
  event n e (asked {j = j} {p = p}) w = request j p (eqb i j) refl
  event n e (answered {j = j} {a = a} {h = h}) w = respond j a h
  event n e (loud {m = m} {r = r} s o) w =
      let q = s.no_entry (eqb i (mover_of m)) b in
      subst (λ c. Story i (l ++ (accepted m r ∷ [])) (reports (eqb i (node_of r)) r c)) (sym q)
      (report m s (eqb i (node_of r)) r refl (subst (λ c. (reports (eqb i (node_of r)) r c).wrong ≡ false) q w))

-- the story of a book that is not wrong after a list of events
story : (n i : ℕ) (x y : List Event) (b : Book) → Singles n y → Story i x b → (book_of i y b).wrong ≡ false → Story i (x ++ y) (book_of i y b)
story n i x [] b s v w = subst (λ l. Story i l b) (sym (append-nil x)) v
story n i x (e ∷ y) b s v w =
    subst (λ l. Story i l (book_of i y (enters i e b))) (append_assoc x (e ∷ []) y)
    (story n i (x ++ (e ∷ [])) y (enters i e b) s.1 (event i x b v n e s.0 (was_right i y (enters i e b) w)) w)

-- 4. THE CLAIM
-- two notes, a respond after a told report, are found in the events
locate : (p : Packet) (a : ℕ) (r : Report) (l : List Event) → ((m : Move) → Tells p (accepted m r)) → Since l (gave p.to a ∷ told r ∷ []) → Stretch.Acknowledged p a l
locate p a r l t (next (next {l = first} (blank x) tells second y) gives third z) =
    record {
      first = first;
      tell = _;
      second = second;
      give = _;
      third = third;
      split = append_assoc first (_ ∷ second) (_ ∷ third);
      tells = t _;
      answers = Stretch.gives;
      only = (x, y, z);
    }

acknowledged : (p : Packet) (a : ℕ) (l : List Event) (ns : List Note) → Since l ns → Acknowledged p a ns → Stretch.Acknowledged p a l
acknowledged p a l ns s (inl e) = locate p a _ l (λ m. good) (subst (Since l) e s)
acknowledged p a l ns s (inr e) = locate p a _ l (λ m. dcrc) (subst (Since l) e s)

-- node i's confirmations
data Confirmation (i : ℕ) : Report → Type 0 where
  sent : {x : ℕ} → Confirmation i (Sent i x)
  acked : {a x : ℕ} → Confirmation i (Acked i a x)
  missed : {x : ℕ} → Confirmation i (Miss i x)

confirmation : (i : ℕ) (r : Report) → confirmation_of i r ≡ true → Confirmation i r
confirmation i Silent e = never e
confirmation i (Won j) e = never e
confirmation i (Lost j) e = never e
confirmation i (Sent j x) e = subst (λ j. Confirmation i (Sent j x)) (eqb-true i j e) sent
confirmation i (Acked j a x) e = subst (λ j. Confirmation i (Acked j a x)) (eqb-true i j e) acked
confirmation i (Miss j x) e = subst (λ j. Confirmation i (Miss j x)) (eqb-true i j e) missed
confirmation i (Drop j m) e = never e
confirmation i (Good j h d) e = never e
confirmation i (Dcrc j h) e = never e
confirmation i (Broad j h d) e = never e

-- one in a run comes with a move that no book looks at, and its node is below n
speaks : {n i : ℕ} {m : Move} {r : Report} → Confirmation i r → Single n (accepted m r) → (Aside m) × (i < n)
speaks sent (loud s (inl q)) = let z : ◌≡◌ {A = ℕ} 0 1 = cc in absurd (omega arith)
speaks sent (loud s (inr h)) = (s, h)
speaks acked (loud s (inl q)) = let z : ◌≡◌ {A = ℕ} 0 1 = cc in absurd (omega arith)
speaks acked (loud s (inr h)) = (s, h)
speaks missed (loud s (inl q)) = let z : ◌≡◌ {A = ℕ} 0 1 = cc in absurd (omega arith)
speaks missed (loud s (inr h)) = (s, h)

-- it confirms the running request of its node's book, and where it is honest it says of that what it should
confirms_it : {i : ℕ} {r : Report} → Confirmation i r → (b : Book) → reports (eqb i (node_of r)) r b ≡ confirms r b.running b
confirms_it {i} (sent {x = x}) b = ap (λ y. reports y (Sent i x) b) (eq-eqb i i refl)
confirms_it {i} (acked {a = a} {x = x}) b = ap (λ y. reports y (Acked i a x) b) (eq-eqb i i refl)
confirms_it {i} (missed {x = x}) b = ap (λ y. reports y (Miss i x) b) (eq-eqb i i refl)

says : {i : ℕ} {r : Report} (p : Packet) (l : List Event) (ns : List Note) → Confirmation i r → Since l ns → Honest p ns r → Confirms i p l r
says {i} p l ns sent s h = subst (λ x. Confirms i p l (Sent i x)) h Stretch.sent
says {i} p l ns (acked {a = a}) s h = subst (λ x. Confirms i p l (Acked i a x)) h.0 (Stretch.acked (acknowledged p a l ns s h.1))
says {i} p l ns missed s h = subst (λ x. Confirms i p l (Miss i x)) h Stretch.missed

honest_part : (x y : List Confirmed) → AllHonest (x ++ y) → AllHonest y
honest_part [] y h = h
honest_part (c ∷ x) y h = honest_part x y h.1

-- a confirmation of node i, where its book of all events is right and honest: the book of the events before has a running request, and that one was confirmed
module _ (n i : ℕ) (r : Report) (is : Confirmation i r) (before later : List Event) (m : Move) (s : Aside m) (all : Singles n before) where
  abbrev b : Book
  b = book_of i before new_book

  confirmed_by : (x : Run) → b.running ≡ x → (book_of i later (confirms r x b)).wrong ≡ false → AllHonest (book_of i later (confirms r x b)).confirmed → Witnessed i r before
  confirmed_by none e w h = absurd (true≢false (was_right i later _ w))
  confirmed_by (run p ns) e w h =
      let z = keeps_confirmed i later (confirms r (run p ns) b) w in
      let v : Running i before p ns =
      subst (Runs i before) e (story n i [] before new_book all (record { holds = refl; waiting = tt; running = tt }) (was_right i later _ w)).running in
      record {
        packet = p;
        early = v.early;
        start = v.start;
        since = v.later;
        split = v.split;
        starts = v.starts;
        last = v.last;
        confirms = says p v.later ns is v.since (honest_part z.0 _ (subst AllHonest z.1 h)).0;
      }

  abbrev whole : Book
  whole = book_of i (before ++ (accepted m r ∷ later)) new_book

  witnessed : whole.wrong ≡ false → AllHonest whole.confirmed → Witnessed i r before
  witnessed w h =
      let e : whole ≡ book_of i later (confirms r b.running b) =
      book_append i before _ new_book ∙ ap (λ c. book_of i later (reports (eqb i (node_of r)) r c)) (s.no_entry _ b) ∙ ap (book_of i later) (confirms_it is b) in
      confirmed_by b.running refl (subst (λ c. c.wrong ≡ false) e w) (subst (λ c. AllHonest c.confirmed) e h)

-- every confirmation has its request's start and bears its label, every acknowledgement its told report and its respond, and nothing else between
pub every_confirmation : (n : ℕ) (l : List Action) → ((i : ℕ) → i < n → (book n l i).wrong ≡ false) →
    ((i : ℕ) → i < n → AllHonest (book n l i).confirmed) → EveryConfirmation n l
every_confirmation n l right honest before later m r i c e =
    let s = singles_split n before _ (subst (Singles n) e (all_single (fresh n) l)) in
    let is = confirmation i r c in
    let y = speaks is s.1.0 in
    witnessed n i r is before later m y.0 s.0 (subst (λ l. (book_of i l new_book).wrong ≡ false) e (right i y.1)) (subst (λ l. AllHonest (book_of i l new_book).confirmed) e (honest i y.1))
