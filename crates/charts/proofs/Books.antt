-- The books are kept (specs/Demand.antt): in every run the book of each node is right, what waits in it is in the node's buffer, its next request starts at once exactly while the node
-- will hold or holds the bus, and a request of it runs exactly while the node is in Sending, AwaitAck, AckBody or AckEnd, where it is the packet that the node sends.
-- Each node by itself: nothing is said of the bus or of another node.
use Rattle.std.specs.Prelude.{None, Option, Some}
use mathlib.Core.Path.{◌≡◌, refl, sym, ap, subst, ◌∙◌}
use mathlib.Core.Logic.{◌⊎◌, inl, inr}
use mathlib.Core.Bool.{Bool, true, false, cond, ◌&&◌, ◌||◌, not, beq}
use mathlib.Core.List.{List, [], ◌∷◌}
use Prim.Native.Nat.{ℕ}
use lib.Dec.{eqb}
use borrow.Author.Tests.{eqb-true, not-true}
use Rattle.charts.specs.declared.Head.{Head}
use Rattle.charts.specs.declared.Mode.{Mode}
use Rattle.charts.specs.declared.Mode.TheVariants.{Rest, AwaitAck, AckBody, AckEnd, Opened, Addressed, HeadOwn, HeadAll, BodyOwn, BodyAll, TailOwn, TailAll, Wait, Owed, Sending, Told, Answering, Acking, Holding, Spurious, Listening, Asked}
use Rattle.charts.specs.declared.Reading.{Reading}
use Rattle.charts.specs.declared.Signal.{Signal}
use Rattle.charts.specs.declared.Report.{Report}
use Rattle.charts.specs.declared.Report.TheVariants.{Silent, Won, Lost, Sent, Acked, Miss, Drop, Good, Dcrc, Broad}
use Rattle.charts.specs.declared.Packet.{Packet}
use Rattle.charts.specs.declared.Phase.{Phase}
use Rattle.charts.specs.declared.Cell.{Cell}
use Rattle.charts.specs.declared.Heard.{Heard}
use Rattle.charts.specs.declared.Marking.{Marking}
use Rattle.charts.specs.declared.Marking.TheVariants as M
use Rattle.charts.specs.declared.Move.{Move}
use Rattle.charts.specs.declared.Move.TheVariants.{Request, Arbitrate, Respond, Clock, Carry, Grant, GapNext, Reset, Ask, Decide}
use Rattle.charts.specs.declared.Action.{Action}
use Rattle.charts.specs.Modes as P
use Rattle.charts.specs.Modes.{place_of, name_at, is_holding, is_told, is_owed}
use Rattle.charts.specs.Signals as S
use Rattle.charts.specs.Signals.{everybody, class_of, is_line, closes}
use Rattle.charts.specs.Places.{hold_in}
use Rattle.charts.specs.Reception as Reception
use Rattle.charts.specs.Reception.{hears}
use Rattle.charts.specs.State.{State, upd, moved, remarked, is_empty, fresh}
use Rattle.charts.specs.Actions.{does, granted}
use Rattle.charts.specs.Step.{Result, step, after, Event, accepted, event_of, events}
use Rattle.charts.specs.Demand as Demand
use Rattle.charts.specs.Demand.{Note, gave, Run, none, run, Book, new_book, is_run, asks, confirms, note, notes, holds_for, mover_of, node_of, moves, reports, enters, book_of}
use Rattle.charts.proofs.Tools.{never, clash, implies, implied, and-true, neither, beq_eq, pick, pick_by, mem, mem_two}
use Rattle.charts.specs.Words as W
use Rattle.charts.specs.Words.{word_of}
use Rattle.charts.proofs.Places.{hold_in_lem, mode_is, law, law_mode, resting}
use Rattle.charts.proofs.Ways.{Puts, start, dhead, dest, header, datum, end_all, end_one, filler, ack_start, ack_body_lem, ack_hold, ack_end, holds_on, Effect, waits, replies, wins, loses, gives, puts, frees, arrives, is_lost, grants, grants_none, gaps, settles, resets, Contends, at_once, asked, contends_rests, claims}
use Rattle.charts.proofs.Steps.{Stepped, refused, acts, stepped}

-- a node in such a mode has a started request without confirmation
abbrev pub ours : ℕ → Bool
ours p = mem p (P.sending ∷ P.await_ack ∷ P.ack_body ∷ P.ack_good ∷ P.ack_none ∷ [])

-- a node in such a mode starts its next request at once
abbrev pub hold_of : Mode → Bool
hold_of m = is_holding m || hold_in m

-- what runs in a book, of a node that is in such a mode or not and sends the packet p
abbrev pub Runs : Bool → Packet → Run → Type 0
Runs o p none = o ≡ false
Runs o p (run q l) = (o ≡ true) × (q ≡ p)

-- the book of a node with this mode, buffer and packet being sent
pub record Keeps (m : Mode) (f : Option Packet) (p : Packet) (b : Book) : Type 0 where
  pub right : b.wrong ≡ false
  pub waits : b.waiting ≡ f
  pub holds : b.held ≡ hold_of m
  pub runs : Runs (ours (place_of m)) p b.running
  pub near : eqb (place_of m) P.await_ack ≡ true → eqb p.to everybody ≡ false

abbrev pub Kept : Cell → Book → Type 0
Kept c b = Keeps c.mode c.buffer c.sending b

-- a node that hears a signal reports nothing, or of itself: a confirmation with the label of the packet that it is sending, a drop with the name x of its mode
pub data By (j label : ℕ) (x : Reading) : Report → Type 0 where
  silent : By j label x Silent
  acks : {a : ℕ} → By j label x (Acked j a label)
  misses : By j label x (Miss j label)
  dropped : By j label x (Drop j x)
  good : {h : Head} {d : ℕ} → By j label x (Good j h d)
  dcrc : {h : Head} → By j label x (Dcrc j h)
  broad : {h : Head} {d : ℕ} → By j label x (Broad j h d)

pub by : (j label : ℕ) (m : Mode) (g : Signal) → By j label (name_at (place_of m)) (hears j label m g).report
unfolding hears name_at
by j label m g = go m
  where
    c : ℕ
    c = class_of j g

    arm : {x : Reading} (b : Bool) (y z : Heard) → By j label x y.report → By j label x z.report → By j label x (cond b y z).report
    arm {x} b y z = pick (λ (y : Heard). By j label x y.report) b y z

    go : (m : Mode) → By j label (name_at (place_of m)) (Reception.answer j label m c g).report
    go Rest = arm (eqb c S.start) _ _ silent silent
    go AwaitAck = arm (eqb c S.prefix) _ _ silent (arm (eqb c S.start) _ _ silent (arm (eqb c S.gap) _ _ misses misses))
    go AckBody = arm (eqb c S.gap) _ _ misses (arm (is_line c) _ _ misses (arm (eqb c S.ack_good) _ _ silent silent))
    go (AckEnd (Some a)) = arm (eqb c S.end) _ _ acks (arm (eqb c S.prefix) _ _ acks (arm (eqb c S.gap) _ _ misses misses))
    go (AckEnd None) = arm (eqb c S.gap) _ _ misses misses
    go Opened = arm (eqb c S.gap) _ _ silent (arm (is_line c) _ _ dropped silent)
    go Addressed = arm (eqb c S.dest_own) _ _ silent (arm (eqb c S.dest_all) _ _ silent (arm (eqb c S.dest_other) _ _ silent (arm (eqb c S.gap) _ _ silent dropped)))
    go HeadOwn = arm (eqb c S.header_good) _ _ silent dropped
    go HeadAll = arm (eqb c S.header_good) _ _ silent (arm (eqb c S.gap) _ _ silent dropped)
    go (BodyOwn h) = arm (eqb c S.data_good) _ _ silent (arm (eqb c S.data_bad) _ _ silent dropped)
    go (BodyAll h) = arm (eqb c S.data_good) _ _ silent (arm (eqb c S.data_bad) _ _ silent (arm (eqb c S.gap) _ _ silent dropped))
    go (TailOwn h (Some d)) = arm (closes c) _ _ good dropped
    go (TailOwn h None) = arm (closes c) _ _ dcrc dropped
    go (TailAll h (Some d)) = arm (closes c) _ _ broad (arm (eqb c S.gap) _ _ silent dropped)
    go (TailAll h None) = arm (closes c) _ _ dropped (arm (eqb c S.gap) _ _ silent dropped)
    go Wait = arm (eqb c S.gap) _ _ silent silent
    go Owed = silent
    go (Sending k) = silent
    go Told = silent
    go Answering = silent
    go (Acking k a b) = silent
    go Holding = silent
    go Spurious = silent
    go Listening = arm (eqb c S.start) _ _ silent (arm (eqb c S.prefix) _ _ silent (arm (eqb c S.gap) _ _ silent silent))
    go Asked = silent

-- a report is nothing, or of node i
pub data Of (i : ℕ) (r : Report) : Type 0 where
  nothing : r ≡ Silent → Of i r
  names : node_of r ≡ i → Of i r

pub by_of : {j label : ℕ} {x : Reading} {r : Report} → By j label x r → Of j r
by_of silent = nothing refl
by_of acks = names refl
by_of misses = names refl
by_of dropped = names refl
by_of good = names refl
by_of dcrc = names refl
by_of broad = names refl

-- in a book, such a report counts as node i's
of_node : (i : ℕ) (r : Report) → Of i r → (k : ℕ) (b : Book) → reports (eqb k (node_of r)) r b ≡ reports (eqb k i) r b
of_node i r (nothing e) k b = subst (λ r. reports (eqb k (node_of r)) r b ≡ reports (eqb k i) r b) (sym e) refl
of_node i r (names e) k b = ap (λ i. reports (eqb k i) r b) e

-- sent, ack and miss by their words: a node that hears reports one of them exactly where it leaves those modes
abbrev pub conf : ℕ → Bool
conf w = mem w (W.sent ∷ W.acked ∷ W.miss ∷ [])

pub leaves : (me label : ℕ) (m : Mode) (g : Signal) → conf (word_of (hears me label m g).report) ≡ true → (ours (place_of m) ≡ true) × (ours (place_of (hears me label m g).mode) ≡ false)
leaves me label m g e =
    let z = and-true (ours (place_of m)) _ (implied (conf (word_of (hears me label m g).report)) _ (law (λ y p c. implies (conf y.word) (ours p && not (ours y.place))) tt me label m g) e) in
    (z.0, not-true _ z.1)

pub remains : (me label : ℕ) (m : Mode) (g : Signal) → not (conf (word_of (hears me label m g).report)) ≡ true → ours (place_of (hears me label m g).mode) ≡ ours (place_of m)
remains me label m g e =
    beq_eq _ _ (implied (not (conf (word_of (hears me label m g).report))) _ (law (λ y p c. implies (not (conf y.word)) (beq (ours y.place) (ours p))) tt me label m g) e)

-- nobody comes to AwaitAck by hearing
awaits : (me label : ℕ) (m : Mode) (g : Signal) → eqb (place_of (hears me label m g).mode) P.await_ack ≡ true → eqb (place_of m) P.await_ack ≡ true
awaits me label m g = implied (eqb (place_of (hears me label m g).mode) P.await_ack) _ (law (λ y p c. implies (eqb y.place P.await_ack) (eqb p P.await_ack)) tt me label m g)

-- hearing a signal changes nothing of a hold
hears_hold : (me label : ℕ) (m : Mode) (g : Signal) → hold_of (hears me label m g).mode ≡ hold_of m
unfolding hears
hears_hold me label m g = go (eqb (place_of m) P.acking) refl
  where
    go : (b : Bool) → eqb (place_of m) P.acking ≡ b → hold_of (hears me label m g).mode ≡ hold_of m
    go true e = subst (λ (m : Mode). hold_of (hears me label m g).mode ≡ hold_of m) (sym (mode_is m P.acking (eqb-true _ _ e))) refl
    go false e =
        let a : is_holding (hears me label m g).mode ≡ is_holding m = beq_eq _ _ (law (λ y p c. beq (eqb y.place P.holding) (eqb p P.holding)) tt me label m g) in
        let f : eqb (place_of (hears me label m g).mode) P.acking ≡ eqb (place_of m) P.acking = beq_eq _ _ (law (λ y p c. beq (eqb y.place P.acking) (eqb p P.acking)) tt me label m g) in
        let x : hold_in (hears me label m g).mode ≡ false = hold_in_lem (hears me label m g).mode ∙ ap (λ b. b && hold_in (hears me label m g).mode) (f ∙ e) in
        let y : hold_in m ≡ false = hold_in_lem m ∙ ap (λ b. b && hold_in m) e in
        cc

-- changes of a mode and of a book that keep the book
runs_note : (x : Note) (o : Bool) (p : Packet) (r : Run) → Runs o p r → Runs o p (note x r)
runs_note x o p none e = e
runs_note x o p (run q l) e = e

pub none_runs : (o : Bool) (p : Packet) (r : Run) → Runs o p r → o ≡ false → r ≡ none
none_runs o p none e q = refl
none_runs o p (run u l) e q = clash o e.0 q

pub noted : (x : Note) {m : Mode} {f : Option Packet} {p : Packet} {b : Book} → Keeps m f p b → Keeps m f p (notes x b)
noted x {m} {f} {p} {b} v = record { right = v.right; waits = v.waits; holds = v.holds; runs = runs_note x _ p b.running v.runs; near = v.near }

-- the node goes to another mode, and what matters of it stays
stay : {m₀ m : Mode} {f : Option Packet} {p : Packet} {b : Book} → hold_of m ≡ hold_of m₀ → ours (place_of m) ≡ ours (place_of m₀) →
    (eqb (place_of m) P.await_ack ≡ true → eqb p.to everybody ≡ false) → Keeps m₀ f p b → Keeps m f p b
stay {m₀} {m} {f} {p} {b} h o n v =
    record { right = v.right; waits = v.waits; holds = v.holds ∙ sym h; runs = subst (λ o. Runs o p b.running) (sym o) v.runs; near = n }

-- a node that rests starts no request at once and has none running; so it may go from Rest to Asked and back
resting_hold : (m : Mode) → mem (place_of m) resting ≡ true → hold_of m ≡ false
resting_hold m e = go (mem_two P.rest P.asked (place_of m) e)
  where
    go : (place_of m ≡ P.rest) ⊎ (place_of m ≡ P.asked) → hold_of m ≡ false
    go (inl q) = ap hold_of (mode_is m P.rest q)
    go (inr q) = ap hold_of (mode_is m P.asked q)

pub resting_ours : (m : Mode) → mem (place_of m) resting ≡ true → ours (place_of m) ≡ false
resting_ours m e = not-true _ (implied _ _ (law_mode (λ p. implies (mem p resting) (not (ours p))) tt m) e)

rests_on : {m₀ m : Mode} {f : Option Packet} {p : Packet} {b : Book} → mem (place_of m₀) resting ≡ true → mem (place_of m) resting ≡ true → Keeps m₀ f p b → Keeps m f p b
rests_on {m₀} {m} e u v =
    stay (resting_hold m u ∙ sym (resting_hold m₀ e)) (resting_ours m u ∙ sym (resting_ours m₀ e)) (λ z. clash _ (ap ours (eqb-true (place_of m) P.await_ack z)) (resting_ours m u)) v

-- it reports a confirmation, and its request runs no longer
ends : {m₀ m : Mode} {f : Option Packet} {p : Packet} {b : Book} (r : Report) → hold_of m ≡ hold_of m₀ → ours (place_of m₀) ≡ true → ours (place_of m) ≡ false →
    Keeps m₀ f p b → Keeps m f p (confirms r b.running b)
ends {m₀} {m} {f} {p} {b} r h o u v = go b.running v.runs
  where
    go : (x : Run) → Runs (ours (place_of m₀)) p x → Keeps m f p (confirms r x b)
    go none z = clash (ours (place_of m₀)) o z
    go (run q l) z = record { right = v.right; waits = v.waits; holds = v.holds ∙ sym h; runs = u; near = λ e. clash (ours (place_of m)) (ap ours (eqb-true (place_of m) P.await_ack e)) u }

-- what a holder puts out: it reports nothing or of itself, and its own book is kept
record Put (i : ℕ) (p : Packet) (m₀ m : Mode) (r : Report) : Type 0 where
  reporter : Of i r
  keeps : {f : Option Packet} {b : Book} → Keeps m₀ f p b → Keeps m f p (reports true r b)

silently : {i : ℕ} {p : Packet} {m₀ m : Mode} → hold_of m ≡ hold_of m₀ → ours (place_of m) ≡ ours (place_of m₀) →
    (eqb (place_of m) P.await_ack ≡ true → eqb p.to everybody ≡ false) → Put i p m₀ m Silent
silently h o n = record { reporter = nothing refl; keeps = stay h o n }

put : {i : ℕ} {p : Packet} {m₀ m : Mode} {g : Signal} {r : Report} → Puts i p m₀ g m r → Put i p m₀ m r
put start = silently refl refl (λ z. never z)
put dhead = silently refl refl (λ z. never z)
put dest = silently refl refl (λ z. never z)
put header = silently refl refl (λ z. never z)
put datum = silently refl refl (λ z. never z)
put (end_all l u) = record { reporter = names refl; keeps = ends _ refl refl refl }
put (end_one l u) = silently refl refl (λ z. u)
put filler = silently refl refl (λ z. never z)
put ack_start = silently refl refl (λ z. never z)
put ack_body_lem = silently refl refl (λ z. never z)
put (ack_hold l) = silently refl refl (λ z. never z)
put (ack_end l) = silently refl refl (λ z. never z)
put holds_on = silently refl refl (λ z. never z)

-- a node that hears a signal keeps its book
hear : {m : Mode} {f : Option Packet} {p : Packet} {b : Book} (j label : ℕ) (g : Signal) → Keeps m f p b → Keeps (hears j label m g).mode f p (reports true (hears j label m g).report b)
hear {m} {f} {p} {b} j label g v = go (hears j label m g).report (by j label m g) (remains j label m g) (leaves j label m g)
  where
    same : ours (place_of (hears j label m g).mode) ≡ ours (place_of m) → Keeps (hears j label m g).mode f p b
    same o = stay (hears_hold j label m g) o (λ e. v.near (awaits j label m g e)) v

    gone : (r : Report) → (ours (place_of m) ≡ true) × (ours (place_of (hears j label m g).mode) ≡ false) → Keeps (hears j label m g).mode f p (confirms r b.running b)
    gone r o = ends r (hears_hold j label m g) o.0 o.1 v

    go : (r : Report) → By j label (name_at (place_of m)) r → (not (conf (word_of r)) ≡ true → ours (place_of (hears j label m g).mode) ≡ ours (place_of m)) →
        (conf (word_of r) ≡ true → (ours (place_of m) ≡ true) × (ours (place_of (hears j label m g).mode) ≡ false)) → Keeps (hears j label m g).mode f p (reports true r b)
    go r silent s l = same (s refl)
    go r acks s l = gone _ (l refl)
    go r misses s l = gone _ (l refl)
    go r dropped s l = same (s refl)
    go r good s l = noted _ (same (s refl))
    go r dcrc s l = noted _ (same (s refl))
    go r broad s l = noted _ (same (s refl))

-- so does a node that gets a grant
grant : {m : Mode} {f : Option Packet} {p : Packet} {b : Book} → Keeps m f p b → Keeps (granted m) f p b
grant {m} {f} {p} {b} v =
    pick_by (λ x. Keeps x f p b) (is_told m) _ _ (λ e. stay refl refl (λ z. never z) (subst (λ x. Keeps x f p b) (mode_is m P.told (eqb-true _ _ e)) v)) λ e.
    pick_by (λ x. Keeps x f p b) (is_owed m) _ _ (λ e. stay refl refl (λ z. never z) (subst (λ x. Keeps x f p b) (mode_is m P.owed (eqb-true _ _ e)) v)) λ e. v

-- the event of another node leaves a book kept, whatever it is: at most it is noted
aside_move : {m : Mode} {f : Option Packet} {p : Packet} {b : Book} (x : Move) → Keeps m f p b → Keeps m f p (moves false x b)
aside_move (Request i q) v = v
aside_move (Arbitrate i) v = v
aside_move {b = b} (Respond i a h) v = noted (gave i a) {b = holds_for false h b} (record { right = v.right; waits = v.waits; holds = v.holds; runs = v.runs; near = v.near })
aside_move (Clock i) v = v
aside_move (Carry w) v = v
aside_move Grant v = v
aside_move GapNext v = v
aside_move Reset v = v
aside_move (Ask i) v = v
aside_move (Decide i) v = v

aside_report : {m : Mode} {f : Option Packet} {p : Packet} {b : Book} (r : Report) → Keeps m f p b → Keeps m f p (reports false r b)
aside_report Silent v = v
aside_report (Won i) v = v
aside_report (Lost i) v = v
aside_report (Sent i x) v = v
aside_report (Acked i a x) v = v
aside_report (Miss i x) v = v
aside_report (Drop i m) v = v
aside_report (Good i h d) v = noted _ v
aside_report (Dcrc i h) v = noted _ v
aside_report (Broad i h d) v = noted _ v

-- a move by which a node contends is in no book
contends_moves : {s : State} {i : ℕ} {m : Move} → Contends s i m → (mine : Bool) (b : Book) → moves mine m b ≡ b
contends_moves (at_once e) mine b = refl
contends_moves (asked e) mine b = refl

-- the move and the report of an action about node i count as node i's in a book
pub record Names (i : ℕ) (m : Move) (r : Report) : Type 0 where
  pub mover : (k : ℕ) (b : Book) → moves (eqb k (mover_of m)) m b ≡ moves (eqb k i) m b
  pub reporter : Of i r

module _ (s : State) where
  pub event_names : {m : Move} {i : ℕ} {r : Report} {p : Phase} {c : Cell} {x : Marking} → Effect s m i (does r p c x) → Names i m r
  event_names (waits e f) = record { mover = λ k b. refl; reporter = nothing refl }
  event_names (replies e) = record { mover = λ k b. refl; reporter = nothing refl }
  event_names (claims e f) = record { mover = λ k b. refl; reporter = nothing refl }
  event_names (wins c q f w) = record { mover = λ k b. contends_moves c _ b ∙ sym (contends_moves c _ b); reporter = names refl }
  event_names (loses c) = record { mover = λ k b. contends_moves c _ b ∙ sym (contends_moves c _ b); reporter = names refl }
  event_names (gives e u) = record { mover = λ k b. refl; reporter = nothing refl }
  event_names (puts q h o x) = record { mover = λ k b. refl; reporter = (put x).reporter }
  event_names (frees q h e) = record { mover = λ k b. refl; reporter = nothing refl }
  event_names (arrives {j = j} {t = t} q x) = record { mover = λ k b. refl; reporter = by_of (by j _ (s.cell j).mode t) }
  event_names (is_lost q e) = record { mover = λ k b. refl; reporter = nothing refl }
  event_names (grants q e l) = record { mover = λ k b. refl; reporter = nothing refl }
  event_names (grants_none q e) = record { mover = λ k b. refl; reporter = nothing refl }
  event_names (gaps {j = j} q u) = record { mover = λ k b. refl; reporter = by_of (by j _ (s.cell j).mode _) }
  event_names (settles {j = j} q u) = record { mover = λ k b. refl; reporter = by_of (by j _ (s.cell j).mode _) }
  event_names (resets q) = record { mover = λ k b. refl; reporter = nothing refl }

  -- the book of the action's own node
  own : {m : Move} {i : ℕ} {r : Report} {p : Phase} {c : Cell} {x : Marking} (b : Book) → Effect s m i (does r p c x) → Kept (s.cell i) b → Kept c (reports true r (moves true m b))
  own b (waits {i = i} {p = p} e f) v =
      let n : hold_of (s.cell i).mode ≡ false = ap hold_of (mode_is (s.cell i).mode P.rest e) in
      subst (λ h. Keeps (s.cell i).mode (Some p) (s.cell i).sending (asks h p b)) (sym (v.holds ∙ n))
      (record { right = neither _ _ v.right (ap (λ w. not (is_empty w)) (v.waits ∙ f)); waits = refl; holds = sym n; runs = v.runs; near = v.near })
  own b (replies {i = i} {p = p} e) v =
      subst (λ h. Keeps (Sending 0) (s.cell i).buffer p (asks h p b)) (sym (v.holds ∙ ap hold_of e))
      (record { right = neither _ _ v.right (ap is_run (none_runs _ _ b.running v.runs (ap (λ m. ours (place_of m)) e))); waits = v.waits; holds = refl; runs = (refl, refl); near = λ z. never z })
  own b (claims {i = i} e f) v = rests_on {m₀ = (s.cell i).mode} (ap (λ p. mem p resting) e) refl v
  own b (wins {i = i} {p = p} c q f w) v =
      let e = contends_rests c in
      subst (λ x. Keeps (Sending 0) None p (reports true (Won i) x)) (sym (contends_moves c true b))
      (subst (λ u. Keeps (Sending 0) None p (Demand.wins u b)) (sym (v.waits ∙ f))
      (record { right = neither _ _ v.right (ap is_run (none_runs _ _ b.running v.runs (resting_ours (s.cell i).mode e))); waits = refl; holds = v.holds ∙ resting_hold (s.cell i).mode e; runs = (refl, refl); near = λ z. never z }))
  own b (loses {i = i} c) v = subst (Keeps Rest (s.cell i).buffer (s.cell i).sending) (sym (contends_moves c true b)) (rests_on {m₀ = (s.cell i).mode} (contends_rests c) refl v)
  own b (gives {i = i} {a = a} {h = h} e u) v =
      noted (gave i a) {b = holds_for true h b}
      (record { right = v.right; waits = v.waits; holds = refl; runs = subst (λ m. Runs (ours (place_of m)) (s.cell i).sending b.running) e v.runs; near = λ z. never z })
  own b (puts q h o x) v = (put x).keeps v
  own b (frees {i = i} q h e) v = stay refl refl (λ z. never z) (subst (λ m. Keeps m (s.cell i).buffer (s.cell i).sending b) e v)
  own b (arrives {j = j} {t = t} q x) v = hear j _ t v
  own b (is_lost q e) v = v
  own b (grants q e l) v = grant v
  own b (grants_none q e) v = v
  own b (gaps {j = j} q u) v = hear j _ _ v
  own b (settles {j = j} q u) v = hear j _ _ v
  own b (resets q) v = v

  -- the book of node k, which is the action's own or another
  effect_kept : {m : Move} {i : ℕ} {r : Report} {p : Phase} {c : Cell} {x : Marking} (k : ℕ) (b : Book) → Effect s m i (does r p c x) → Kept (s.cell k) b →
      Kept (upd s.cell i c k) (enters k (accepted m r) b)
  effect_kept {m} {i} {r} {p} {c} {x} k b e v =
      let y : Names i m r = event_names e in
      subst (Kept (upd s.cell i c k)) (sym (of_node i r y.reporter k _ ∙ ap (reports (eqb k i) r) (y.mover k b))) (go (eqb k i) refl)
    where
      go : (u : Bool) → eqb k i ≡ u → Kept (cond u c (s.cell k)) (reports u r (moves u m b))
      go true q = own b e (subst (λ k. Kept (s.cell k) b) (eqb-true k i q) v)
      go false q = aside_report r (aside_move m v)

-- clearing marks touches no book
remarked_kept : (x : Marking) (s : State) (k : ℕ) (b : Book) → Kept (s.cell k) b → Kept ((remarked x s).cell k) b
remarked_kept M.Nothing s k b v = v
remarked_kept M.Misled s k b v = v
remarked_kept M.Won s k b v = v
remarked_kept (M.Concatenated c) s k b v = v

-- each step keeps the book of each node
pub books_kept : (k : ℕ) (s : State) (a : Action) (b : Book) → Kept (s.cell k) b → Kept ((step s a).state.cell k) (enters k (event_of a (step s a)) b)
books_kept k s a b v = go (step s a) (event_of a (step s a)) (stepped s a)
  where
    go : (r : Result) (e : Event) → Stepped s a r e → Kept (r.state.cell k) (enters k e b)
    go r e (refused q) = v
    go r e (acts {i = i} {p = p} {c = c} {x = x} w n l f y) = remarked_kept x (moved s p i c) k _ (effect_kept s k b y v)

-- and so does each list of actions
pub run_kept : (k : ℕ) (s : State) (l : List Action) (b : Book) → Kept (s.cell k) b → Kept ((after s l).cell k) (book_of k (events s l) b)
run_kept k s [] b v = v
run_kept k s (a ∷ l) b v = run_kept k (step s a).state l _ (books_kept k s a b v)

pub fresh_kept : (n k : ℕ) → Kept ((fresh n).cell k) new_book
fresh_kept n k = record { right = refl; waits = refl; holds = refl; runs = refl; near = λ z. never z }
