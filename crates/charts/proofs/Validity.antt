-- Number 12: a fresh bus is valid, every step keeps a state valid, so 12 never shows in a run from a fresh bus. And n never changes.
use Rattle.std.specs.Prelude.{Err, Ok, Option}
use mathlib.Core.Path.{◌≡◌, refl, sym, ap, subst, ◌∙◌}
use mathlib.Core.Logic.{◌≢◌, ⊎_elim}
use mathlib.Core.Bool.{Bool, true, false, not}
use mathlib.Core.List.Memᴰ
use mathlib.Core.List.{List, [], ◌∷◌, Memᴰ}
use Prim.Native.Nat.{ℕ, suc, ◌<◌, ◌≤◌}
use native.Mathlib.Omega.{arith}
use lib.Dec.{eqb, ltb}
use lib.ListN.{get_or}
use borrow.Author.Tests.{eqb-true, eqb-false, ltb-true, not-true, lt-ltb, ne_eqb}
use Rattle.charts.specs.declared.Mode.{Mode}
use Rattle.charts.specs.declared.Mode.TheVariants.{Spurious}
use Rattle.charts.specs.declared.Signal.{Signal}
use Rattle.charts.specs.declared.Signal.TheVariants.{Start, End, Prefix, Gap, Dhead, Dest, Header, Data, Ack}
use Rattle.charts.specs.declared.Report.{Report}
use Rattle.charts.specs.declared.Report.TheVariants.{Silent}
use Rattle.charts.specs.declared.Packet.{Packet}
use Rattle.charts.specs.declared.Phase.{Phase}
use Rattle.charts.specs.declared.Phase.TheVariants.{Delivering}
use Rattle.charts.specs.declared.Cell.{Cell}
use Rattle.charts.specs.declared.Heard.{Heard}
use Rattle.charts.specs.declared.Marking.{Marking}
use Rattle.charts.specs.declared.Marking.TheVariants as M
use Rattle.charts.specs.declared.Move.{Move}
use Rattle.charts.specs.declared.Move.TheVariants.{Carry}
use Rattle.charts.specs.declared.Way.{Way}
use Rattle.charts.specs.declared.Action.{Action}
use Rattle.charts.specs.Records.{Decoded}
use Rattle.charts.specs.Modes as P
use Rattle.charts.specs.Modes.{place_of, is_told, is_owed}
use Rattle.charts.specs.Signals as S
use Rattle.charts.specs.Signals.{class_of, is_line, head_of, ack_of, is_end}
use Rattle.charts.specs.Places.{step_in, ack_in, hold_in, head_in, datum_in, modes}
use Rattle.charts.specs.Reception.{falls, hears}
use Rattle.charts.specs.Numbers as N
use Rattle.charts.specs.Numbers.{number_of}
use Rattle.charts.specs.State.{State, moved, remarked, fresh, some, others, pendings, holders}
use Rattle.charts.specs.Actions.{Outcome, closed, does, first_other, next_other, onward}
use Rattle.charts.specs.Records.{is_kind, clean, is_address, is_label, bad_node, bad_address, bad_label, requests_itself, bad_answer, read}
use Rattle.charts.specs.Valid.{is_size, is_ack, mode_fits, packet_fits, buffer_fits, cell_fits, signal_fits, phase_fits, valid}
use Rattle.charts.specs.Step.{Result, Event, carry_out, comes_to, about, play, look, step_with, step, begin, after, results}
use Rattle.charts.proofs.Tools.{implies, implied, and-true, both, pick, pick_by, at_upd, every_all, table_at, mem, by_test}
use Rattle.charts.proofs.Places.{mode_is, mode_at_lem, place_lt, law}
use Rattle.charts.proofs.Ways.{Puts, Arrives, Effect}
use Rattle.charts.proofs.Ways as W
use Rattle.charts.proofs.Steps.{Known, Valid, Stepped, refused, acts, stepped}

-- the parts of 12, and `valid` from them
pub valid_is : (s : State) → Valid s → valid s ≡ true
unfolding valid
valid_is s v =
    both (is_size s.n) _ (both (ltb 1 s.n) _ (lt-ltb _ _ v.two) (lt-ltb _ _ v.small))
    (both (phase_fits s.n s.phase) _ v.phase_fits_lem (every_all (λ k. cell_fits s.n (s.cell k)) s.n v.cells_fit))

pub fresh_valid : (n : ℕ) → 2 ≤ n → n < 64 → valid (fresh n) ≡ true
unfolding phase_fits cell_fits mode_fits
fresh_valid n two small =
    valid_is (fresh n) record { two = two; small = small; phase_fits_lem = refl; cells_fit = λ k l. rw (lt-ltb 0 n (omega arith)) refl }

-- what 12 looks at in a cell: its mode, its buffer and the packet that it is sending
pub record Fitting (n : ℕ) (m : Mode) (b : Option Packet) (p : Packet) : Type 0 where
  pub mode_fits_lem : mode_fits m ≡ true
  pub buffer_fits_lem : buffer_fits n b ≡ true
  pub packet_fits_lem : packet_fits n p ≡ true

abbrev pub CellFits : ℕ → Cell → Type 0
CellFits n c = Fitting n c.mode c.buffer c.sending

pub cell_fits_lem : (n : ℕ) (c : Cell) → cell_fits n c ≡ true → CellFits n c
unfolding cell_fits
cell_fits_lem n c e =
    let a = and-true (mode_fits c.mode) _ e in
    let b = and-true (buffer_fits n c.buffer) _ a.1 in
    record { mode_fits_lem = a.0; buffer_fits_lem = b.0; packet_fits_lem = b.1 }

pub fits_cell : (n : ℕ) (c : Cell) → CellFits n c → cell_fits n c ≡ true
unfolding cell_fits
fits_cell n c f = both (mode_fits c.mode) _ f.mode_fits_lem (both (buffer_fits n c.buffer) _ f.buffer_fits_lem f.packet_fits_lem)

-- a mode that remembers no acknowledgement, no header and no step fits
abbrev bare : ℕ → Bool
bare p = not (mem p (P.ack_good ∷ P.body_own ∷ P.body_all ∷ P.tail_own_good ∷ P.tail_own_bad ∷ P.tail_all_good ∷ P.tail_all_bad ∷ P.sending ∷ P.acking ∷ []))

bare_fits : (m : Mode) → bare (place_of m) ≡ true → mode_fits m ≡ true
unfolding mode_fits
bare_fits m e =
    rw (mode_at_lem m) (implied (bare (place_of m)) _ (table_at test 25 tt (place_of m) (place_lt m)) e)
  where
    test : ℕ → Bool
    test p = implies (bare p) (mode_fits (get_or (modes (step_in m) (ack_in m) (hold_in m) (head_in m) (datum_in m)) p Spurious))

-- a signal that fits carries an acknowledgement that fits (0 where it carries none)
ack_fits : (n : ℕ) (g : Signal) → signal_fits n g ≡ true → is_ack (ack_of g) ≡ true
ack_fits n Start e = refl
ack_fits n End e = refl
ack_fits n Prefix e = refl
ack_fits n Gap e = refl
ack_fits n Dhead e = refl
ack_fits n (Dest a) e = refl
ack_fits n (Header h c) e = refl
ack_fits n (Data d c) e = refl
ack_fits n (Ack a c) e = e

-- and a header with a label that fits
label_fits : (n : ℕ) (g : Signal) → signal_fits n g ≡ true → is_label (head_of g).label ≡ true
label_fits n Start e = refl
label_fits n End e = refl
label_fits n Prefix e = refl
label_fits n Gap e = refl
label_fits n Dhead e = refl
label_fits n (Dest a) e = refl
label_fits n (Header h c) e = e
label_fits n (Data d c) e = refl
label_fits n (Ack a c) e = refl

-- hearing a signal that fits keeps a mode that fits: Sending and Acking stay, an acknowledgement is remembered in AckBody only, a header in HeadOwn and HeadAll only,
-- BodyOwn and BodyAll keep theirs, and no other mode leads to one that remembers
hears_fits : (n me label : ℕ) (m : Mode) (g : Signal) → signal_fits n g ≡ true → mode_fits m ≡ true → mode_fits (hears me label m g).mode ≡ true
unfolding hears mode_fits
hears_fits n me label m g e =
    at P.sending (λ f. f) λ q1.
    at P.acking (λ f. f) λ q2.
    at P.ack_body (λ f. pick Fits (eqb c S.gap) _ _ refl (pick Fits (is_line c) _ _ refl (pick Fits (eqb c S.ack_good) _ _ (ack_fits n g e) refl))) λ q3.
    at P.head_own (λ f. pick Fits (eqb c S.header_good) _ _ (label_fits n g e) refl) λ q4.
    at P.head_all (λ f. pick Fits (eqb c S.header_good) _ _ (label_fits n g e) (falling _)) λ q5.
    at P.body_own (λ f. pick Fits (eqb c S.data_good) _ _ f (pick Fits (eqb c S.data_bad) _ _ f refl)) λ q6.
    at P.body_all (λ f. pick Fits (eqb c S.data_good) _ _ f (pick Fits (eqb c S.data_bad) _ _ f (falling _))) λ q7.
    λ f. bare_fits (hears me label m g).mode (rw (q1, q2, q3, q4, q5, q6, q7) at (law (λ y p c. implies (not (mem p remembering)) (bare y.place)) tt me label m g))
  where
    remembering : List ℕ
    remembering = P.sending ∷ P.acking ∷ P.ack_body ∷ P.head_own ∷ P.head_all ∷ P.body_own ∷ P.body_all ∷ []

    c : ℕ
    c = class_of me g

    Fits : Heard → Type 0
    Fits x = mode_fits x.mode ≡ true

    Kept : Mode → Type 0
    Kept m = mode_fits m ≡ true → Fits (hears me label m g)

    falling : (r : Report) → Fits (falls Silent r c)
    falling r = pick Fits (eqb c S.gap) _ _ refl refl

    at : (p : ℕ) → Kept (get_or (modes (step_in m) (ack_in m) (hold_in m) (head_in m) (datum_in m)) p Spurious) → (eqb (place_of m) p ≡ false → Kept m) → Kept m
    at p y n = by_test (eqb (place_of m) p) (λ q. subst Kept (sym (mode_is m p (eqb-true _ _ q))) y) n

-- what a node whose mode and packet fit puts out fits, and so does its next mode
puts_fit : (n : ℕ) {i : ℕ} {p : Packet} {m : Mode} {g : Signal} {m' : Mode} {r : Report} →
    Puts i p m g m' r → mode_fits m ≡ true → packet_fits n p ≡ true → (signal_fits n g ≡ true) × (mode_fits m' ≡ true)
unfolding mode_fits
puts_fit n W.start f a = (refl, refl)
puts_fit n W.dhead f a = (refl, refl)
puts_fit n {p = p} W.dest f a = ((and-true (is_address n p.to) _ a).0, refl)
puts_fit n {p = p} W.header f a = ((and-true (is_address n p.to) _ a).1, refl)
puts_fit n W.datum f a = (refl, refl)
puts_fit n (W.end_all l q) f a = (refl, refl)
puts_fit n (W.end_one l q) f a = (refl, refl)
puts_fit n W.filler f a = (refl, refl)
puts_fit n W.ack_start f a = (refl, f)
puts_fit n W.ack_body_lem f a = (f, f)
puts_fit n (W.ack_hold l) f a = (refl, refl)
puts_fit n (W.ack_end l) f a = (refl, refl)
puts_fit n W.holds_on f a = (refl, refl)

-- what arrives of a signal that fits, fits
arrives_fit : (n : ℕ) {misled : Bool} {v : Way} {g t : Signal} {b : Bool} → Arrives misled v g t b → Known n (Carry v) → signal_fits n g ≡ true → signal_fits n t ≡ true
arrives_fit n {misled = misled} {g = g} W.passes k f = W.passed_by (λ x. signal_fits n x ≡ true) misled g f (λ h c d e. subst (λ x. signal_fits n x ≡ true) e f)
arrives_fit n (W.redirects e) k f = k
arrives_fit n W.bad_header k f = f
arrives_fit n W.bad_data k f = refl
arrives_fit n W.bad_ack k f = f

-- a Delivering that fits: sender, receiver and signal
pub record DeliveryFits (n w : ℕ) (g : Signal) (j : ℕ) : Type 0 where
  pub sender_lt : w < n
  pub receiver_lt : j < n
  pub apart : w ≢ j
  pub signal_fits_lem : signal_fits n g ≡ true

pub delivery_fits : (n w : ℕ) (g : Signal) (j : ℕ) → phase_fits n (Delivering w g j) ≡ true → DeliveryFits n w g j
unfolding phase_fits
delivery_fits n w g j e =
    let a = and-true (ltb w n) _ e in
    let b = and-true (ltb j n) _ a.1 in
    let c = and-true (not (eqb w j)) _ b.1 in
    record { sender_lt = ltb-true w n a.0; receiver_lt = ltb-true j n b.0; apart = eqb-false w j (not-true _ c.0); signal_fits_lem = c.1 }

fits_delivery : (n w : ℕ) (g : Signal) (j : ℕ) → DeliveryFits n w g j → phase_fits n (Delivering w g j) ≡ true
unfolding phase_fits
fits_delivery n w g j d =
    both (ltb w n) _ (lt-ltb w n d.sender_lt) (both (ltb j n) _ (lt-ltb j n d.receiver_lt) (both (not (eqb w j)) _ (ap not (ne_eqb w j d.apart)) d.signal_fits_lem))

-- so does the phase after a delivery, whichever it is
onward_fits : (n w : ℕ) (g : Signal) (j : ℕ) (ps : ℕ → Bool) → DeliveryFits n w g j → phase_fits n (onward n w g j ps) ≡ true
unfolding phase_fits
onward_fits n w g j ps d =
    pick_by Fits (ltb (next_other w j) n) _ _
    (λ e. fits_delivery n w g (next_other w j) record { sender_lt = d.sender_lt; receiver_lt = ltb-true _ _ e; apart = next_apart; signal_fits_lem = d.signal_fits_lem }) λ e.
    pick Fits (is_end g) _ _ (pick Fits (some ps n) _ _ refl (lt-ltb 0 n (omega (arith, d.sender_lt)))) refl
  where
    Fits : Phase → Type 0
    Fits p = phase_fits n p ≡ true

    next_apart : w ≢ next_other w j
    next_apart = pick_by (λ x. w ≢ x) (eqb (suc j) w) _ _ (λ e z. let q = eqb-true (suc j) w e in omega arith) (λ e z. eqb-false (suc j) w e (sym z))

-- the first receiver is another node than the sender
first_fits : (n i : ℕ) (g : Signal) → 2 ≤ n → i < n → signal_fits n g ≡ true → phase_fits n (Delivering i g (first_other i)) ≡ true
first_fits n i g two l f = fits_delivery n i g (first_other i) record { sender_lt = l; receiver_lt = pick (λ x. x < n) (eqb i 0) 1 0 (omega arith) (omega arith); apart = apart; signal_fits_lem = f }
  where
    apart : i ≢ first_other i
    apart = pick_by (λ x. i ≢ x) (eqb i 0) 1 0 (λ e z. let q = eqb-true i 0 e in omega arith) (λ e z. eqb-false i 0 e z)

-- the phase and the cell that an action leads to fit: one clause for each way
abbrev Fit : ℕ → Outcome → Type 0
Fit n closed = Unit {0}
Fit n (does r p c x) = (phase_fits n p ≡ true) × CellFits n c

module _ (s : State) (v : Valid s) where
  abbrev n : ℕ
  n = s.n

  was : (i : ℕ) → i < n → CellFits n (s.cell i)
  was i l = cell_fits_lem n (s.cell i) (v.cells_fit i l)

  -- node i in another mode
  in_mode : (i : ℕ) → i < n → (m : Mode) → mode_fits m ≡ true → Fitting n m (s.cell i).buffer (s.cell i).sending
  in_mode i l m f = record { mode_fits_lem = f; buffer_fits_lem = (was i l).buffer_fits_lem; packet_fits_lem = (was i l).packet_fits_lem }

  delivering : (w : ℕ) (g : Signal) (j : ℕ) → s.phase ≡ Delivering w g j → DeliveryFits n w g j
  delivering w g j q = delivery_fits n w g j (subst (λ p. phase_fits n p ≡ true) q v.phase_fits_lem)

  fit : {m : Move} {i : ℕ} {o : Outcome} → Known n m → i < n → Effect s m i o → Fit n o
  unfolding mode_fits phase_fits
  fit k l W.refuses = tt
  fit {i = i} k l (W.waits e b) = (v.phase_fits_lem, record { mode_fits_lem = (was i l).mode_fits_lem; buffer_fits_lem = k.1.0; packet_fits_lem = (was i l).packet_fits_lem })
  fit {i = i} k l (W.replies e) = (v.phase_fits_lem, record { mode_fits_lem = refl; buffer_fits_lem = (was i l).buffer_fits_lem; packet_fits_lem = k.1.0 })
  fit {i = i} k l (W.claims e b) = (v.phase_fits_lem, in_mode i l _ refl)
  fit {i = i} k l (W.wins c q b w) = (refl, record { mode_fits_lem = refl; buffer_fits_lem = refl; packet_fits_lem = subst (λ b. buffer_fits n b ≡ true) b (was i l).buffer_fits_lem })
  fit {i = i} k l (W.loses c) = (v.phase_fits_lem, in_mode i l _ refl)
  fit {i = i} k l (W.gives e u) = (v.phase_fits_lem, in_mode i l _ k.1)
  fit {i = i} k l (W.puts {g = g} q h o x) =
      let y = puts_fit n x (was i l).mode_fits_lem (was i l).packet_fits_lem in (first_fits n i g v.two l y.0, in_mode i l _ y.1)
  fit {i = i} k l (W.frees q h e) = (pick (λ p. phase_fits n p ≡ true) (others (holders s.cell) i n) _ _ refl (lt-ltb 0 n (omega (arith, l))), in_mode i l _ refl)
  fit {i = i} k l (W.arrives {w = w} {g = g} {t = t} q x) =
      let d = delivering w g i q in
      (onward_fits n w g i _ d, in_mode i l _ (hears_fits n i _ (s.cell i).mode t (arrives_fit n x k d.signal_fits_lem) (was i l).mode_fits_lem))
  fit {i = i} k l (W.is_lost {w = w} {g = g} q u) = (onward_fits n w g i _ (delivering w g i q), was i l)
  fit {i = i} k l (W.grants q e u) = (
    pick (λ p. phase_fits n p ≡ true) (others (pendings s.cell) i n) _ _ refl refl,
    in_mode i l _ (pick Fits (is_told (s.cell i).mode) _ _ refl (pick Fits (is_owed (s.cell i).mode) _ _ refl (was i l).mode_fits_lem)),
  )
    where
      Fits : Mode → Type 0
      Fits m = mode_fits m ≡ true
  fit {i = i} k l (W.grants_none q e) = (refl, was i l)
  fit {i = i} k l (W.gaps q u) = (lt-ltb (suc i) n u, in_mode i l _ (hears_fits n i _ (s.cell i).mode Gap refl (was i l).mode_fits_lem))
  fit {i = i} k l (W.settles q u) = (refl, in_mode i l _ (hears_fits n i _ (s.cell i).mode Gap refl (was i l).mode_fits_lem))
  fit {i = i} k l (W.resets q) = (v.phase_fits_lem, was i l)

-- the state after, then: another phase and another cell, and some marks changed
moved_valid : (s : State) (p : Phase) (i : ℕ) (c : Cell) → Valid s → phase_fits s.n p ≡ true → CellFits s.n c → Valid (moved s p i c)
moved_valid s p i c v f g =
    record { two = v.two; small = v.small; phase_fits_lem = f; cells_fit = λ k l. at_upd (λ k c. cell_fits s.n c ≡ true) s.cell i c k (fits_cell s.n c g) (v.cells_fit k l) }

remarked_valid : (x : Marking) (s : State) → Valid s → Valid (remarked x s)
unfolding cell_fits
remarked_valid M.Nothing s v = v
remarked_valid M.Misled s v = record { two = v.two; small = v.small; phase_fits_lem = v.phase_fits_lem; cells_fit = v.cells_fit }
remarked_valid M.Won s v = record { two = v.two; small = v.small; phase_fits_lem = v.phase_fits_lem; cells_fit = v.cells_fit }
remarked_valid (M.Concatenated b) s v = record { two = v.two; small = v.small; phase_fits_lem = v.phase_fits_lem; cells_fit = v.cells_fit }

pub valid_kept : (s : State) (a : Action) → valid s ≡ true → valid (step s a).state ≡ true
valid_kept s a e = go (stepped s a)
  where
    go : {r : Result} {w : Event} → Stepped s a r w → valid r.state ≡ true
    go (refused k) = e
    go (acts {i} {r} {p} {c} {x} v k l m w) = let f = fit s v k l w in valid_is (remarked x (moved s p i c)) (remarked_valid x (moved s p i c) (moved_valid s p i c v f.0 f.1))

-- a run from a fresh bus
valid_after : (s : State) (l : List Action) → valid s ≡ true → valid (after s l) ≡ true
valid_after s [] v = v
valid_after s (a ∷ l) v = valid_after (step s a).state l (valid_kept s a v)

pub run_valid : (n : ℕ) → 2 ≤ n → n < 64 → (l : List Action) → valid (after (fresh n) l) ≡ true
run_valid n two small l = valid_after (fresh n) l (fresh_valid n two small)

-- 12 is the answer to a state that is not valid only: reading a record gives 2 to 6, 13 or 15, playing an action 0 or 7
abbrev Not12 : Decoded → Type 0
Not12 (Err k) = eqb (number_of k) N.not_valid ≡ false
Not12 (Ok m) = Unit {0}

read_not_12 : (n : ℕ) (a : Action) → Not12 (read n a)
unfolding read
read_not_12 n a =
    pick Not12 (not (is_kind a.kind)) _ _ refl (
    pick Not12 (not (clean a)) _ _ refl (
    pick Not12 (bad_node n a) _ _ refl (
    pick Not12 (bad_address n a) _ _ refl (
    pick Not12 (bad_label a) _ _ refl (
    pick Not12 (requests_itself a) _ _ refl (
    pick Not12 (bad_answer a) _ _ refl tt))))))

pub number_not_12 : (s : State) (a : Action) → valid s ≡ true → (step s a).number ≢ N.not_valid
unfolding step look play
number_not_12 s a v = eqb-false _ _ (rw v (go (read s.n a) (read_not_12 s.n a)))
  where
    out : (i : ℕ) (o : Outcome) → eqb (carry_out s i o).number N.not_valid ≡ false
    out i closed = refl
    out i (does r p c x) = refl

    go : (d : Decoded) → Not12 d → eqb (step_with s d).number N.not_valid ≡ false
    go (Err k) l = l
    go (Ok m) l = out (about s m) (comes_to s m)

-- "12": it never shows in a run from a fresh bus
pub never_12 : (n : ℕ) → 2 ≤ n → n < 64 → (l : List Action) (r : Result) → Memᴰ r (results (fresh n) l) → r.number ≢ N.not_valid
never_12 n two small l r = from (fresh n) l (fresh_valid n two small)
  where
    from : (s : State) (l : List Action) → valid s ≡ true → Memᴰ r (results s l) → r.number ≢ N.not_valid
    from s [] v h = absurd (Memᴰ.not-nil h)
    from s (a ∷ l) v h =
        ⊎_elim (λ e z. number_not_12 s a v (sym (ap (λ (r : Result). r.number) e) ∙ z))
        (from (step s a).state l (valid_kept s a v)) (Memᴰ.cases_cons h)

-- a fresh bus for a good n is handed out
pub begin_fresh : (n : ℕ) → is_size n ≡ true → begin n ≡ record { number = N.accepted; report = Silent; state = fresh n }
unfolding begin
begin_fresh n e = rw e refl
