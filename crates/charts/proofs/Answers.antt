-- What an acknowledgement means: the notes in the book of a requester agree with what the node that answers it has been through, and so each `ack a` is honest (specs/Demand.antt, AllHonest).
use Rattle.std.specs.Prelude.{None, Option, Some}
use mathlib.Core.Path.{◌≡◌, refl, sym, ap, subst, ◌∙◌}
use mathlib.Core.Logic.{◌≢◌, ◌⊎◌, inl, inr}
use mathlib.Core.Bool.{Bool, true, false, cond, ◌&&◌, ◌||◌, not}
use mathlib.Core.List.{List, [], ◌∷◌}
use Prim.Native.Nat.{ℕ, ◌<◌, ◌≤◌}
use native.Mathlib.Omega.{arith}
use lib.Dec.{T, eqb, ltb}
use borrow.Author.Tests.{eqb-true, eqb-false, ltb-true, eq-eqb, ne_eqb, not-true}
use Rattle.charts.specs.declared.Mode.{Mode}
use Rattle.charts.specs.declared.Mode.TheVariants.{Rest, AckBody, AckEnd, Sending, Answering, Acking, Spurious, Asked}
use Rattle.charts.specs.declared.Signal.{Signal}
use Rattle.charts.specs.declared.Signal.TheVariants.{Start, End, Prefix, Gap}
use Rattle.charts.specs.declared.Report.{Report}
use Rattle.charts.specs.declared.Report.TheVariants.{Silent, Won, Sent, Acked, Miss, Good, Dcrc, Broad}
use Rattle.charts.specs.declared.Packet.{Packet}
use Rattle.charts.specs.declared.Phase.{Phase}
use Rattle.charts.specs.declared.Phase.TheVariants.{Idle, Busy, Delivering, Granting, Gapping}
use Rattle.charts.specs.declared.Cell.{Cell}
use Rattle.charts.specs.declared.Heard.{Heard}
use Rattle.charts.specs.declared.Way.{Way}
use Rattle.charts.specs.declared.Marking.{Marking}
use Rattle.charts.specs.declared.Marking.TheVariants as M
use Rattle.charts.specs.declared.Move.{Move}
use Rattle.charts.specs.declared.Move.TheVariants.{Request}
use Rattle.charts.specs.Modes as P
use Rattle.charts.specs.Modes.{place_of, name_at, is_told, is_owed}
use Rattle.charts.specs.Signals as S
use Rattle.charts.specs.Signals.{everybody, class_of, kind_of, ack_of, is_end}
use Rattle.charts.specs.Places.{ack_in}
use Rattle.charts.specs.Reception.{answer, hears}
use Rattle.charts.specs.State.{State, set_mode, upd, every, all_below, some, others, pendings, holders, moved, remarked, fresh}
use Rattle.charts.specs.Actions.{does, first_other, next_other, onward, label_of, receives, hearing, granted, puts_out, marking_by, answers, marking_at_idle}
use Rattle.charts.specs.Actions as Actions
use Rattle.charts.specs.Step.{accepted}
use Rattle.charts.specs.Demand as Demand
use Rattle.charts.specs.Demand.{Note, told, gave, Run, none, run, Book, new_book, asks, confirms, note, notes, node_of, moves, reports, enters, Acknowledged, Labelled, Honest, AllHonest}
use Rattle.charts.proofs.Tools.{never, clash, implies, implied, and-true, or_yes, pick, pick_by, at_upd, at_upd≢, upd_same, upd_other, table_at, pairs_at, mem, every_in, mem-sub, by_test}
use Rattle.charts.specs.Words as W
use Rattle.charts.specs.Words.{word_of}
use Rattle.charts.proofs.Places.{mode_is, law, law_mode, active, step_of, acking_at, resting}
use Rattle.charts.proofs.Payload.{OthersIn, sends, Carry, Tells, told_none, told_good, told_dcrc, told_broad, signal_is, answers_to, past, in_row, in_row_lem, row_in, turn_in, holding_past, carries}
use Rattle.charts.proofs.Stages.{row_at, turn_at, quiet, grant_steps, clear_steps, Delivery, BusyAt, talks, clears, Stage}
use Rattle.charts.proofs.Reach.{Reach, answerers, mem_below, low_places, step_place, is_talker, no_turn}
use Rattle.charts.proofs.Ways.{after_gap, passed_by, Puts, start, dhead, dest, header, datum, end_all, end_one, filler, ack_start, ack_body_lem, ack_hold, ack_end, holds_on, Arrives, passes, redirects, bad_header, bad_data, bad_ack, Effect, waits, replies, wins, loses, gives, puts, frees, arrives, is_lost, grants, grants_none, gaps, settles, resets, at_once, asked, claims}
use Rattle.charts.proofs.Books.{Kept, Runs, ours, By, silent, acks, misses, dropped, good, dcrc, broad, by, conf, leaves, remains, hold_of, resting_ours}

-- WHAT A NODE SAYS OF A REQUEST, by its mode: nothing; that it was told; the acknowledgement that its user gave
pub data Voice : Type 0 where
  mute : Voice
  heard : Voice
  given : ℕ → Voice

abbrev pub tellers : List ℕ
tellers = P.told ∷ P.answering ∷ []

abbrev pub voice : Mode → Voice
voice m = cond (mem (place_of m) tellers) heard (cond (eqb (place_of m) P.acking) (given (ack_in m)) mute)

-- the place of a node, and what it says
abbrev pub place_at : State → ℕ → ℕ
place_at s k = place_of (s.cell k).mode

abbrev pub voice_at : State → ℕ → Voice
voice_at s k = voice (s.cell k).mode

abbrev pub OthersMute : State → ℕ → Type 0
OthersMute s i = (j : ℕ) → j < s.n → j ≢ i → voice_at s j ≡ mute

-- exactly the addressed node was told of p, and nobody responded yet
abbrev pub ToldOnce : Packet → List Note → Type 0
ToldOnce p l = (l ≡ told (Good p.to p.head p.datum) ∷ []) ⊎ (l ≡ told (Dcrc p.to p.head) ∷ [])

-- the notes l of a request of p agree with what node j says
abbrev pub Agrees : ℕ → Voice → Packet → List Note → Type 0
Agrees j mute p l = Unit {0}
Agrees j heard p l = (p.to ≡ j) × (ToldOnce p l)
Agrees j (given a) p l = (p.to ≡ j) × (Acknowledged p a l)

-- a condition on the request that runs in a book, if one does
abbrev pub Running : (Packet → List Note → Type 0) → Run → Type 0
Running C none = Unit {0}
Running C (run p l) = C p l

-- that request has the notes of an honest ack a
abbrev pub Answered : ℕ → Run → Type 0
Answered a r = Running (λ p l. Acknowledged p a l) r

-- a requester that has not heard an acknowledgement
abbrev pub asking : ℕ → Bool
asking c = mem c (P.sending ∷ P.await_ack ∷ P.ack_body ∷ [])

-- an Ack under way is its sender's
abbrev pub is_ack : Signal → Bool
is_ack g = eqb (kind_of g) 8

abbrev pub AckAt : Phase → (ℕ → Mode) → Type 0
AckAt Idle f = Unit {0}
AckAt Busy f = Unit {0}
AckAt (Delivering w g j) f = is_ack g ≡ true → voice (f w) ≡ given (ack_of g)
AckAt Granting f = Unit {0}
AckAt (Gapping j) f = Unit {0}

abbrev pub HonestBooks : State → (ℕ → Book) → Type 0
HonestBooks s bk = (k : ℕ) → k < s.n → AllHonest (bk k).confirmed

pub record Heed (s : State) (bk : ℕ → Book) : Type 0 where
  -- the notes of a requester that has not heard an acknowledgement agree with what every node says
  pub agrees : (k j : ℕ) → k < s.n → j < s.n → asking (place_at s k) ≡ true → Running (Agrees j (voice_at s j)) (bk k).running
  -- and while nobody says anything, one that sends or awaits has none
  pub still : (k : ℕ) → k < s.n → sends (place_at s k) ≡ true → ((j : ℕ) → j < s.n → voice_at s j ≡ mute) → Running (λ p l. l ≡ []) (bk k).running
  -- one that heard a good Ack has the notes of an honest acknowledgement
  pub acked : (k : ℕ) → k < s.n → place_at s k ≡ P.ack_good → Answered (ack_in (s.cell k).mode) (bk k).running
  pub carried : AckAt s.phase (λ k. (s.cell k).mode)
  pub honest : HonestBooks s bk

pub fresh_heed : (n : ℕ) → Heed (fresh n) (λ k. new_book)
fresh_heed n = record { agrees = λ k j kl jl e. tt; still = λ k kl e u. tt; acked = λ k kl e. tt; carried = tt; honest = λ k kl. tt }

-- clearing marks changes no mode
remarked_heed : (x : Marking) (s : State) (bk : ℕ → Book) → Heed s bk → Heed (remarked x s) bk
remarked_heed M.Nothing s bk v = v
remarked_heed M.Misled s bk v = record { agrees = v.agrees; still = v.still; acked = v.acked; carried = v.carried; honest = v.honest }
remarked_heed M.Won s bk v = record { agrees = v.agrees; still = v.still; acked = v.acked; carried = v.carried; honest = v.honest }
remarked_heed (M.Concatenated b) s bk v = record { agrees = v.agrees; still = v.still; acked = v.acked; carried = v.carried; honest = v.honest }

-- VOICES BY PLACES
by_place : (a b : ℕ → Bool) → T (every (λ p. implies (a p) (b p)) 25) → (m : Mode) → a (place_of m) ≡ true → b (place_of m) ≡ true
by_place a b t m = implied _ _ (law_mode (λ p. implies (a p) (b p)) t m)

says_heard : (m : Mode) → mem (place_of m) tellers ≡ true → voice m ≡ heard
says_heard m e = ap (λ b. cond b heard (cond (eqb (place_of m) P.acking) (given (ack_in m)) mute)) e

says_nothing : (m : Mode) → mem (place_of m) answerers ≡ false → voice m ≡ mute
says_nothing m e =
    pick_by (λ x. x ≡ mute) (mem (place_of m) tellers) _ _ (λ q. clash _ (mem-sub tellers answerers refl (place_of m) q) e) λ q.
    pick_by (λ x. x ≡ mute) (eqb (place_of m) P.acking) _ _ (λ q. clash _ (ap (λ c. mem c answerers) (eqb-true (place_of m) P.acking q)) e) (λ q. refl)

-- a node that rests says nothing
resting_mute : (m : Mode) → mem (place_of m) resting ≡ true → voice m ≡ mute
resting_mute m e = says_nothing m (not-true _ (by_place (λ p. mem p resting) (λ p. not (mem p answerers)) tt m e))

-- a requester says nothing
asking_mute : (m : Mode) → asking (place_of m) ≡ true → voice m ≡ mute
asking_mute m e = says_nothing m (not-true _ (by_place asking (λ p. not (mem p answerers)) tt m e))

asking_ours : (m : Mode) → asking (place_of m) ≡ true → ours (place_of m) ≡ true
asking_ours = by_place asking ours tt

sends_ours : (m : Mode) → sends (place_of m) ≡ true → ours (place_of m) ≡ true
sends_ours = by_place sends ours tt

-- RUNNING REQUESTS
run_map : (C D : Packet → List Note → Type 0) (r : Run) → ((p : Packet) (l : List Note) → C p l → D p l) → Running C r → Running D r
run_map C D none f x = tt
run_map C D (run p l) f x = f p l x

run_all : (C : Packet → List Note → Type 0) (r : Run) → ((p : Packet) (l : List Note) → C p l) → Running C r
run_all C none f = tt
run_all C (run p l) f = f p l

run_both : (C D : Packet → List Note → Type 0) (r : Run) → Running C r → Running D r → Running (λ p l. (C p l) × (D p l)) r
run_both C D none x y = tt
run_both C D (run p l) x y = (x, y)

-- what runs in the book of a node has the label of the packet that the node is sending
labelled : (c : Cell) (b : Book) → Kept c b → Running (λ p l. Labelled p c.sending.head.label) b.running
labelled c b k = go b.running k.runs
  where
    go : (r : Run) → Runs (ours (place_of c.mode)) c.sending r → Running (λ p l. Labelled p c.sending.head.label) r
    go none e = tt
    go (run q l) e = ap (λ q. q.head.label) e.1

mute_agrees : (j : ℕ) (x : Voice) (r : Run) → x ≡ mute → Running (Agrees j x) r
mute_agrees j x r e = run_all (Agrees j x) r (λ p l. subst (λ x. Agrees j x p l) (sym e) tt)

-- THE CHANGE OF ONE CELL
abbrev modes_after : State → ℕ → Cell → ℕ → Mode
modes_after s i c k = (upd s.cell i c k).mode

module _ (s : State) (bk : ℕ → Book) (v : Heed s bk) where
  -- what is to be known of node i in mode m as a requester with the request r
  record Own (i : ℕ) (m : Mode) (r : Run) : Type 0 where
    own_agrees : asking (place_of m) ≡ true → (j : ℕ) → j < s.n → j ≢ i → Running (Agrees j (voice_at s j)) r
    own_still : sends (place_of m) ≡ true → OthersMute s i → Running (λ p l. l ≡ []) r
    own_acked : place_of m ≡ P.ack_good → Answered (ack_in m) r

  -- the requests of the nodes other than i stay in their books
  abbrev Keep : ℕ → (ℕ → Book) → Type 0
  Keep i bk' = (k : ℕ) → k < s.n → k ≢ i → ours (place_at s k) ≡ true → (bk' k).running ≡ (bk k).running

  -- node i comes to cell c, the requests of the others stay: what i says may change only to what agrees with their notes
  turns : (ph : Phase) (i : ℕ) (c : Cell) (bk' : ℕ → Book) → Keep i bk' →
      ((p : Packet) (l : List Note) → Agrees i (voice_at s i) p l → Agrees i (voice c.mode) p l) →
      ((k : ℕ) → k < s.n → sends (place_at s k) ≡ true → voice c.mode ≡ mute → voice_at s i ≡ mute) →
      Own i c.mode (bk' i).running → AckAt ph (modes_after s i c) → HonestBooks s bk' → Heed (moved s ph i c) bk'
  turns ph i c bk' same says quiets own ack hon = record {
    agrees = λ k j kl jl e. at_upd≢ (λ k x. k < s.n → asking (place_of x.mode) ≡ true → Running (Agrees j (voice (upd s.cell i c j).mode)) (bk' k).running) s.cell i c k
        (λ kl e. at_upd≢ (λ j x. j < s.n → Running (Agrees j (voice x.mode)) (bk' i).running) s.cell i c j
        (λ jl. mute_agrees i (voice c.mode) (bk' i).running (asking_mute c.mode e)) (λ o jl. own.own_agrees e j jl o) jl)
        (λ o kl e. subst (Running (Agrees j (voice (upd s.cell i c j).mode))) (sym (same k kl o (asking_ours (s.cell k).mode e)))
        (at_upd (λ j x. j < s.n → Running (Agrees j (voice x.mode)) (bk k).running) s.cell i c j
        (λ jl. run_map (Agrees i (voice_at s i)) (Agrees i (voice c.mode)) (bk k).running says (v.agrees k i kl jl e)) (λ jl. v.agrees k j kl jl e) jl)) kl e;
    still = λ k kl e u. at_upd≢ (λ k x. k < s.n → sends (place_of x.mode) ≡ true → Running (λ p l. l ≡ []) (bk' k).running) s.cell i c k
        (λ kl e. own.own_still e (λ j jl o. subst (λ (x : Cell). voice x.mode ≡ mute) (upd_other s.cell i c j o) (u j jl)))
        (λ o kl e. subst (Running (λ p l. l ≡ [])) (sym (same k kl o (sends_ours (s.cell k).mode e)))
        (v.still k kl e (λ j jl. at_upd (λ j x. voice x.mode ≡ mute → voice_at s j ≡ mute) s.cell i c j (quiets k kl e) (λ z. z) (u j jl)))) kl e;
    acked = λ k. at_upd≢ (λ k x. k < s.n → place_of x.mode ≡ P.ack_good → Answered (ack_in x.mode) (bk' k).running) s.cell i c k
        (λ kl. own.own_acked)
        (λ o kl e. subst (Answered (ack_in (s.cell k).mode)) (sym (same k kl o (ap ours e))) (v.acked k kl e));
    carried = ack;
    honest = hon;
  }

  -- the same, where node i says what it said
  calm : (ph : Phase) (i : ℕ) (c : Cell) (bk' : ℕ → Book) → Keep i bk' → voice c.mode ≡ voice_at s i →
      Own i c.mode (bk' i).running → AckAt ph (modes_after s i c) → HonestBooks s bk' → Heed (moved s ph i c) bk'
  calm ph i c bk' same e = turns ph i c bk' same (λ p l. subst (λ x. Agrees i x p l) (sym e)) (λ k kl h q. sym e ∙ q)

  -- node i is a requester no more; it is one as before; it starts a request while nobody says anything
  own_none : (i : ℕ) (m : Mode) (r : Run) → ours (place_of m) ≡ false → Own i m r
  own_none i m r e = record {
    own_agrees = λ z. clash _ (asking_ours m z) e;
    own_still = λ z. clash _ (sends_ours m z) e;
    own_acked = λ z. clash _ (ap ours z) e;
  }

  own_kept : (i : ℕ) → i < s.n → (m : Mode) → (asking (place_of m) ≡ true → asking (place_at s i) ≡ true) → (sends (place_of m) ≡ true → sends (place_at s i) ≡ true) →
      (place_of m ≡ P.ack_good → Answered (ack_in m) (bk i).running) → Own i m (bk i).running
  own_kept i il m ask send end = record {
    own_agrees = λ z j jl o. v.agrees i j il jl (ask z);
    own_still = λ z u. v.still i il (send z) (λ j jl. by_test (eqb j i)
        (λ q. subst (λ j. voice_at s j ≡ mute) (sym (eqb-true j i q)) (asking_mute (s.cell i).mode (by_place sends asking tt (s.cell i).mode (send z)))) (λ q. u j jl (eqb-false j i q)));
    own_acked = end;
  }

  own_same : (i : ℕ) → i < s.n → Own i (s.cell i).mode (bk i).running
  own_same i il = own_kept i il (s.cell i).mode (λ z. z) (λ z. z) (v.acked i il)

  own_new : (i k : ℕ) (p : Packet) → OthersMute s i → Own i (Sending k) (run p [])
  own_new i k p u = record {
    own_agrees = λ z j jl o. mute_agrees j (voice_at s j) (run p []) (u j jl o);
    own_still = λ z w. refl;
    own_acked = λ z. absurd (omega arith);
  }

  -- node i's request is confirmed by q; R is what the report q makes of a book, by whether it is the book of node i
  confirmed : (ph : Phase) (i : ℕ) (c : Cell) (q : Report) (R : Bool → Book → Book) → ((b : Book) → R true b ≡ confirms q b.running b) → ((b : Book) → R false b ≡ b) →
      voice c.mode ≡ voice_at s i → ours (place_of c.mode) ≡ false → Running (λ p l. Honest p l q) (bk i).running →
      AckAt ph (modes_after s i c) → Heed (moved s ph i c) (λ k. R (eqb k i) (bk k))
  confirmed ph i c q R mine other e gone hon ack =
      calm ph i c (λ k. R (eqb k i) (bk k)) (λ k kl o h. ap (λ b. (R b (bk k)).running) (ne_eqb k i o) ∙ ap (λ b. b.running) (other (bk k))) e (own_none i c.mode _ gone) ack
      (λ k kl. by_test (eqb k i) (λ z. rw (z, mine) (here (bk k) (v.honest k kl) (rw (eqb-true k i z) hon))) (λ z. rw (z, other) (v.honest k kl)))
    where
      here : (b : Book) → AllHonest b.confirmed → Running (λ p l. Honest p l q) b.running → AllHonest (confirms q b.running b).confirmed
      here b h f = go b.running f
        where
          go : (r : Run) → Running (λ p l. Honest p l q) r → AllHonest (confirms q r b).confirmed
          go none f = h
          go (run p l) f = (f, h)

  -- every book is noted x, while node i alone says something and no requester has heard an Ack
  noted : (ph : Phase) (i : ℕ) (c : Cell) (bk' : ℕ → Book) (x : Note) → i < s.n → ((k : ℕ) → (bk' k).running ≡ note x (bk k).running) → voice c.mode ≢ mute →
      OthersMute s i → ((k : ℕ) → k < s.n → k ≢ i → place_at s k ≢ P.ack_good) →
      ((k : ℕ) → k < s.n → k ≢ i → asking (place_at s k) ≡ true → Running (Agrees i (voice c.mode)) (note x (bk k).running)) →
      AckAt ph (modes_after s i c) → HonestBooks s bk' → Heed (moved s ph i c) bk'
  noted ph i c bk' x il run' loud others_mute unheard says ack hon = record {
    agrees = λ k j kl jl e. subst (Running (Agrees j (voice (upd s.cell i c j).mode))) (sym (run' k))
        (at_upd≢ (λ k y. k < s.n → asking (place_of y.mode) ≡ true → Running (Agrees j (voice (upd s.cell i c j).mode)) (note x (bk k).running)) s.cell i c k
        (λ kl e. absurd (loud (asking_mute c.mode e)))
        (λ o kl e. at_upd≢ (λ j y. j < s.n → Running (Agrees j (voice y.mode)) (note x (bk k).running)) s.cell i c j
        (λ jl. says k kl o e) (λ q jl. mute_agrees j (voice_at s j) (note x (bk k).running) (others_mute j jl q)) jl) kl e);
    still = λ k kl e u. absurd (loud (sym (ap (λ (y : Cell). voice y.mode) (upd_same s.cell i c)) ∙ u i il));
    acked = λ k. at_upd≢ (λ k y. k < s.n → place_of y.mode ≡ P.ack_good → Answered (ack_in y.mode) (bk' k).running) s.cell i c k
        (λ kl e. absurd (loud (says_nothing c.mode (ap (λ c. mem c answerers) e)))) (λ o kl e. absurd (unheard k kl o e));
    carried = ack;
    honest = hon;
  }

  -- an Ack under way stays its sender's
  same_acks : (ph : Phase) (i : ℕ) (c : Cell) → ((a : ℕ) → voice_at s i ≡ given a → voice c.mode ≡ given a) → AckAt ph (λ k. (s.cell k).mode) → AckAt ph (modes_after s i c)
  same_acks Idle i c f z = tt
  same_acks Busy i c f z = tt
  same_acks (Delivering w g j) i c f z =
      λ e. at_upd≢ (λ w x. voice_at s w ≡ given (ack_of g) → voice x.mode ≡ given (ack_of g)) s.cell i c w (f (ack_of g)) (λ o y. y) (z e)
  same_acks Granting i c f z = tt
  same_acks (Gapping j) i c f z = tt

  onward_acks : (n w : ℕ) (g : Signal) (j : ℕ) (ps : ℕ → Bool) (c : Cell) → j ≢ w → AckAt (Delivering w g j) (λ k. (s.cell k).mode) → AckAt (onward n w g j ps) (modes_after s j c)
  onward_acks n w g j ps c o z =
      pick (λ p. AckAt p (modes_after s j c)) (ltb (next_other w j) n) _ _ (λ e. ap (λ (x : Cell). voice x.mode) (upd_other s.cell j c w (λ q. o (sym q))) ∙ z e)
      (pick (λ p. AckAt p (modes_after s j c)) (is_end g) _ _ (pick (λ p. AckAt p (modes_after s j c)) (some ps n) _ _ tt tt) tt)

-- HEARING A SIGNAL
-- the words of the reports good and dcrc; the places from which a node reports what it read
abbrev tells : ℕ → Bool
tells w = mem w (W.good ∷ W.dcrc ∷ [])

abbrev tails : List ℕ
tails = P.tail_own_good ∷ P.tail_own_bad ∷ P.tail_all_good ∷ []

-- hearing changes what a node says only where it is told
hears_voice : (j label : ℕ) (m : Mode) (g : Signal) → tells (word_of (hears j label m g).report) ≡ false → voice (hears j label m g).mode ≡ voice m
unfolding hears
hears_voice j label m g f =
    by_test (mem (place_of m) answerers)
    (λ e. by_test (eqb (place_of m) P.acking) (λ q. subst (λ (m : Mode). voice (hears j label m g).mode ≡ voice m) (sym (mode_is m P.acking (eqb-true _ _ q))) refl) λ q.
    let y = and-true _ _ (implied _ _ (implied _ _ (law (λ y p c. implies (mem p answerers) (implies (not (eqb p P.acking)) (mem p tellers && mem y.place tellers))) tt j label m g) e) (ap not q)) in
    says_heard (hears j label m g).mode y.1 ∙ sym (says_heard m y.0))
    (λ e. says_nothing (hears j label m g).mode
    (not-true _ (implied _ _ (implied _ _ (law (λ y p c. implies (not (mem p answerers)) (implies (not (tells y.word)) (not (mem y.place answerers)))) tt j label m g) (ap not e)) (ap not f)))
    ∙ sym (says_nothing m e))

hears_told : (j label : ℕ) (m : Mode) (g : Signal) → tells (word_of (hears j label m g).report) ≡ true → (mem (place_of m) tails ≡ true) × (place_of (hears j label m g).mode ≡ P.told)
hears_told j label m g e =
    let y = and-true _ _ (implied _ _ (law (λ y p c. implies (tells y.word) (mem p tails && eqb y.place P.told)) tt j label m g) e) in (y.0, eqb-true _ _ y.1)

-- who comes to AckEnd with a good Ack was in AckBody and remembers that Ack
hears_ack : (j label : ℕ) (m : Mode) (g : Signal) → place_of (hears j label m g).mode ≡ P.ack_good → (place_of m ≡ P.ack_body) × (eqb (class_of j g) S.ack_good ≡ true) × (ack_in (hears j label m g).mode ≡ ack_of g)
unfolding hears
hears_ack j label m g e =
    let y = and-true _ _ (implied _ _ (law (λ y p c. implies (eqb y.place P.ack_good) (eqb p P.ack_body && eqb c S.ack_good)) tt j label m g) (eq-eqb _ _ e)) in
    let q : place_of m ≡ P.ack_body = eqb-true _ _ y.0 in
    (q, y.1, subst (λ (m : Mode). ack_in (hears j label m g).mode ≡ ack_of g) (sym (mode_is m P.ack_body q)) (ap (λ c. ack_in (answer j label AckBody c g).mode) (eqb-true (class_of j g) S.ack_good y.1)))

-- who reports an ack remembered it
reports_ack : (j label : ℕ) (m : Mode) (g : Signal) (a : ℕ) → Acked j a label ≡ (hears j label m g).report → (place_of m ≡ P.ack_good) × (ack_in m ≡ a)
unfolding hears
reports_ack j label m g a e = (q, go (class_of j g) (subst (λ (x : Mode). Acked j a label ≡ (hears j label x g).report) (mode_is m P.ack_good q) e))
  where
    q : place_of m ≡ P.ack_good
    q = eqb-true _ _ (implied _ _ (law (λ y p c. implies (eqb y.word W.acked) (eqb p P.ack_good)) tt j label m g) (ap (λ r. eqb (word_of r) W.acked) (sym e)))

    missed : Acked j a label ≡ Miss j label → ack_in m ≡ a
    missed z = absurd (let y : ◌≡◌ {A = ℕ} W.acked W.miss = ap word_of z in omega arith)

    go : (c : ℕ) → Acked j a label ≡ (answer j label (AckEnd (Some (ack_in m))) c g).report → ack_in m ≡ a
    go c =
        pick (λ (x : Heard). Acked j a label ≡ x.report → ack_in m ≡ a) (eqb c S.end) _ _ (λ z. cc)
        (pick (λ (x : Heard). Acked j a label ≡ x.report → ack_in m ≡ a) (eqb c S.prefix) _ _ (λ z. cc) (pick (λ (x : Heard). Acked j a label ≡ x.report → ack_in m ≡ a) (eqb c S.gap) _ _ missed missed))

-- nobody but the node that p is for says anything
others_mute : (p : Packet) (s : State) → Carry p s → (i : ℕ) → p.to ≡ i → OthersMute s i
others_mute p s ca i e j jl o = by_test (mem (place_at s j) answerers) (λ q. absurd (o (sym (answers_to q (ca.all j jl)) ∙ e))) (λ q. says_nothing (s.cell j).mode q)

-- only a node in AwaitAck has a request running
abbrev OnlyAwaits : ℕ → (ℕ → Cell) → Type 0
OnlyAwaits n f = (k : ℕ) → k < n → ours (place_of (f k).mode) ≡ true → place_of (f k).mode ≡ P.await_ack

module _ (s : State) (bk : ℕ → Book) (v : Heed s bk) (p : Packet) (ca : Carry p s) (kp : (k : ℕ) → Kept (s.cell k) (bk k)) where
  -- node j, whose cell is x but for the mode, hears t. Where it reports what it read, only a node in AwaitAck has a request running; where it hears a good Ack, that is what was given
  module _ (ph : Phase) (j : ℕ) (jl : j < s.n) (t : Signal) (x : Cell)
      (ack : AckAt ph (λ k. (upd s.cell j (set_mode (receives hears j (s.cell j) t).mode x) k).mode))
      (only : mem (place_at s j) tails ≡ true → OnlyAwaits s.n s.cell)
      (ends : place_at s j ≡ P.ack_body → eqb (class_of j t) S.ack_good ≡ true → Answered (ack_of t) (bk j).running) where
    abbrev label : ℕ
    label = label_of (s.cell j)

    abbrev m₀ : Mode
    m₀ = (s.cell j).mode

    abbrev m₁ : Mode
    m₁ = (hears j label m₀ t).mode

    abbrev After : (ℕ → Book) → Type 0
    After = Heed (moved s ph j (set_mode m₁ x))

    own_heard : Own s bk v j m₁ (bk j).running
    own_heard = own_kept s bk v j jl m₁ (implied _ _ (law (λ y p c. implies (asking y.place) (asking p)) tt j label m₀ t)) (implied _ _ (law (λ y p c. implies (sends y.place) (sends p)) tt j label m₀ t)) λ e.
        let y = hears_ack j label m₀ t e in subst (λ a. Answered a (bk j).running) (sym y.2) (ends y.0 y.1)

    -- node j is told: the only one that says something, and those who have a request running sent p and have no notes
    tells_heed : (n : Note) → ToldOnce p (n ∷ []) → p.to ≡ j → tells (word_of (hears j label m₀ t).report) ≡ true → After (λ k. notes n (bk k))
    tells_heed n once to w =
        noted s bk v ph j (set_mode m₁ x) (λ k. notes n (bk k)) n jl (λ k. refl) (λ z. heard_mute (sym now ∙ z)) (others_mute p s ca j to)
        (λ k kl o e. let z : place_at s k ≡ P.await_ack = only y.0 k kl (ap ours e) in omega arith) (λ k kl o e. agree k kl e) ack v.honest
      where
        y : (mem (place_of m₀) tails ≡ true) × (place_of m₁ ≡ P.told)
        y = hears_told j label m₀ t w

        now : voice m₁ ≡ heard
        now = says_heard m₁ (ap (λ c. mem c tellers) y.1)

        heard_mute : heard ≡ mute → ⊥
        heard_mute e = let z : ◌≡◌ {A = ℕ} 0 1 = cc in omega arith

        nobody : (i : ℕ) → i < s.n → voice_at s i ≡ mute
        nobody i il = by_test (eqb i j)
            (λ e. subst (λ i. voice_at s i ≡ mute) (sym (eqb-true i j e)) (says_nothing m₀ (not-true _ (by_place (λ p. mem p tails) (λ p. not (mem p answerers)) tt m₀ y.0))))
            (λ e. others_mute p s ca j to i il (eqb-false i j e))

        agree : (k : ℕ) → k < s.n → asking (place_at s k) ≡ true → Running (Agrees j (voice m₁)) (note n (bk k).running)
        agree k kl e = go (bk k).running (kp k).runs (v.still k kl send nobody)
          where
            send : sends (place_at s k) ≡ true
            send = ap sends (only y.0 k kl (asking_ours (s.cell k).mode e))

            go : (r : Run) → Runs (ours (place_at s k)) (s.cell k).sending r → Running (λ p l. l ≡ []) r → Running (Agrees j (voice m₁)) (note n r)
            go none a b = tt
            go (run q l) a b =
                let z : q ≡ p = a.1 ∙ ca.own k kl send in
                subst (λ u. Agrees j u q (n ∷ l)) (sym now) (rw (z, b) (to, once))

    -- a broadcast is told to all: then nobody has a request running, since the sender of one awaits no acknowledgement
    none_ours : p.to ≡ everybody → mem (place_of m₀) tails ≡ true → (k : ℕ) → k < s.n → ours (place_at s k) ≡ true → ⊥
    none_ours to e k kl o =
        let z : place_at s k ≡ P.await_ack = only e k kl o in
        clash _ (eq-eqb (s.cell k).sending.to everybody (ap (λ q. q.to) (ca.own k kl (ap sends z)) ∙ to)) ((kp k).near (eq-eqb _ _ z))

    -- it says what it said, where its report is neither good nor dcrc; it is a requester no more, where it reports a confirmation
    says_same : {r : Report} → r ≡ (hears j label m₀ t).report → tells (word_of r) ≡ false → voice m₁ ≡ voice m₀
    says_same q e = hears_voice j label m₀ t (ap (λ r. tells (word_of r)) (sym q) ∙ e)

    is_gone : {r : Report} → r ≡ (hears j label m₀ t).report → conf (word_of r) ≡ true → ours (place_of m₁) ≡ false
    is_gone q e = (leaves j label m₀ t (ap (λ r. conf (word_of r)) (sym q) ∙ e)).1

    hears_heed : Tells p (hears j label m₀ t).report → After (λ k. reports (eqb k (node_of (hears j label m₀ t).report)) (hears j label m₀ t).report (bk k))
    hears_heed z = go (hears j label m₀ t).report (by j label m₀ t) refl z
      where
        go : (r : Report) → By j label (name_at (place_of m₀)) r → r ≡ (hears j label m₀ t).report → Tells p r → After (λ k. reports (eqb k (node_of r)) r (bk k))
        go r silent q y = calm s bk v ph j _ bk (λ k kl o h. refl) (says_same q refl) own_heard ack v.honest
        go r (acks {a = a}) q y =
            let e = reports_ack j label m₀ t a q in
            confirmed s bk v ph j _ (Acked j a label) (λ b x. reports b (Acked j a label) x) (λ b. refl) (λ b. refl) (says_same q refl) (is_gone q refl)
            (run_both (λ p l. Labelled p label) (λ p l. Acknowledged p a l) (bk j).running (labelled (s.cell j) (bk j) (kp j)) (subst (λ a. Answered a (bk j).running) e.1 (v.acked j jl e.0))) ack
        go r misses q y =
            confirmed s bk v ph j _ (Miss j label) (λ b x. reports b (Miss j label) x) (λ b. refl) (λ b. refl) (says_same q refl) (is_gone q refl)
            (labelled (s.cell j) (bk j) (kp j)) ack
        go r dropped q y = calm s bk v ph j _ bk (λ k kl o h. refl) (says_same q refl) own_heard ack v.honest
        go r good q (told_none e) = never e
        go r good q (told_good e f g) = tells_heed _ (inl (cc)) e (ap (λ r. tells (word_of r)) (sym q))
        go r dcrc q (told_none e) = never e
        go r dcrc q (told_dcrc e f) = tells_heed _ (inr (cc)) e (ap (λ r. tells (word_of r)) (sym q))
        go r broad q (told_none e) = never e
        go r (broad {h = h} {d = d}) q (told_broad e) =
            let f : mem (place_of m₀) tails ≡ true = implied _ _ (law (λ y p c. implies (eqb y.word W.broad) (mem p tails)) tt j label m₀ t) (ap (λ r. eqb (word_of r) W.broad) (sym q)) in
            calm s bk v ph j _ (λ k. notes (told (Broad j h d)) (bk k)) (λ k kl o u. absurd (none_ours e f k kl u)) (says_same q refl)
            (own_none s bk v j m₁ _ (remains j label m₀ t (ap (λ r. not (conf (word_of r))) (sym q)) ∙ not-true _ (by_place (λ p. mem p tails) (λ p. not (ours p)) tt m₀ f))) ack v.honest

-- WHAT THE STAGES SAY
-- a node whose step is in a list without AckEnd's is not there
unlisted : (k : List ℕ) → mem P.ack_good k ≡ false → (m : Mode) → mem (step_of m) k ≡ true → place_of m ≢ P.ack_good
unlisted k t m h e = clash _ h (ap (λ c. mem c k) (step_place m (ap active e) ∙ e) ∙ t)

-- two lists share a place
abbrev shares : List ℕ → List ℕ → Bool
shares [] l = false
shares (x ∷ k) l = mem x l || shares k l

share : (c : ℕ) (k l : List ℕ) → mem c k ≡ true → mem c l ≡ true → shares k l ≡ true
share c [] l e f = never e
share c (x ∷ k) l e f = go (eqb c x) refl (share c k l) e
  where
    go : (b : Bool) → eqb c x ≡ b → (mem c k ≡ true → mem c l ≡ true → shares k l ≡ true) → b || mem c k ≡ true → mem x l || shares k l ≡ true
    go true q r e = ap (λ b. b || shares k l) (ap (λ c. mem c l) (sym (eqb-true c x q)) ∙ f)
    go false q r e = ap (λ b. mem x l || b) (r e f) ∙ or_yes (mem x l)

-- places in which only AwaitAck has a request running
abbrev sent : List ℕ
sent = P.rest ∷ P.asked ∷ P.await_ack ∷ P.head_own ∷ P.head_all ∷ P.body_own ∷ P.body_all ∷ P.tail_own_good ∷ P.tail_own_bad ∷ P.tail_all_good ∷ P.tail_all_bad ∷ P.wait ∷ P.owed ∷ P.told ∷ []

-- who reports what it read hears the End of a packet, and only its sender has a request running, in AwaitAck
only_awaits : (b : Bool) (n : ℕ) (f : ℕ → Cell) (w : ℕ) (g : Signal) (j : ℕ) → Delivery b n f w g j → mem (place_of (f j).mode) tails ≡ true → OnlyAwaits n f
only_awaits b n f w g j a e k kl o =
    let y = and-true (every_in (row_at a.d).sender sent && all_below (row_at a.d).sender 30) _
    (implied _ _ (table_at (λ d. implies (shares (row_at d).before tails) ((every_in (row_at d).sender sent && all_below (row_at d).sender 30) && in_row sent (row_at d))) 22 tt a.d a.d_lt)
    (share (place_of (f j).mode) (row_at a.d).before tails (a.before j a.next_lt a.apart (omega arith)) e)) in
    let z = and-true (every_in (row_at a.d).sender sent) _ y.0 in
    let x : mem (place_of (f k).mode) sent ≡ true = by_test (eqb k w)
    (λ q. low_places (row_at a.d).sender sent z.0 z.1 (f k).mode (ap (λ k. mem (step_of (f k).mode) (row_at a.d).sender) (eqb-true k w q) ∙ a.sender))
    (λ q. in_row_lem b n f w g j a sent y.1 k kl (eqb-false k w q)) in
    eqb-true _ _ (implied _ _ (by_place (λ p. mem p sent) (λ p. implies (ours p) (eqb p P.await_ack)) tt (f k).mode x) o)

-- what arrives as an Ack is one, with the same acknowledgement
arrives_ack : {w : Bool} {v : Way} {g t : Signal} {b : Bool} → Arrives w v g t b → is_ack t ≡ true → (is_ack g ≡ true) × (ack_of g ≡ ack_of t)
arrives_ack {w = w} {g = g} passes = passed_by (λ x. is_ack x ≡ true → (is_ack g ≡ true) × (ack_of g ≡ ack_of x)) w g (λ e. (e, refl)) (λ h c d q e. never e)
arrives_ack (redirects q) = never
arrives_ack bad_header = never
arrives_ack bad_data = never
arrives_ack bad_ack = λ e. (refl, refl)

-- what a move makes of a book: a request changes no confirmation, and one that waits no running request
asks_confirmed : (b h : Bool) (i : ℕ) (p : Packet) (x : Book) → x.held ≡ h → (moves b (Request i p) x).confirmed ≡ x.confirmed
asks_confirmed true true i p x e = ap (λ h. (asks h p x).confirmed) e
asks_confirmed true false i p x e = ap (λ h. (asks h p x).confirmed) e
asks_confirmed false h i p x e = refl

waits_running : (b : Bool) (i : ℕ) (p : Packet) (x : Book) → x.held ≡ false → (moves b (Request i p) x).running ≡ x.running
waits_running true i p x e = ap (λ h. (asks h p x).running) e
waits_running false i p x e = refl

wins_confirmed : (b : Bool) (i : ℕ) (x : Book) (f : Option Packet) → x.waiting ≡ f → (reports b (Won i) x).confirmed ≡ x.confirmed
wins_confirmed true i x None e = ap (λ f. (Demand.wins f x).confirmed) e
wins_confirmed true i x (Some p) e = ap (λ f. (Demand.wins f x).confirmed) e
wins_confirmed false i x f e = refl

module _ (s : State) (bk : ℕ → Book) (v : Heed s bk) (p : Packet) (ca : Carry p s) (kp : (k : ℕ) → Kept (s.cell k) (bk k)) (re : Reach s) (i : ℕ) (l : i < s.n) where
  -- while node i is in Answering nobody else has heard a good Ack
  none_acked : (s.cell i).mode ≡ Answering → (ph : Phase) → Stage s.concatenated ph s.n s.cell → (k : ℕ) → k < s.n → k ≢ i → place_at s k ≢ P.ack_good
  none_acked e Idle a k kl o q = clash _ (a.rests i l) (ap (λ m. mem (place_of m) resting) e)
  none_acked e Busy (talks a) k kl o q =
      let w : i ≡ a.w = is_talker s.concatenated s.n s.cell a i l (ap (λ m. active (place_of m)) e) in
      no_turn s.concatenated s.n s.cell a P.answering tt (ap (λ k. step_of (s.cell k).mode) (sym w) ∙ ap step_of e)
  none_acked e Busy (clears a) k kl o q = unlisted clear_steps refl (s.cell k).mode (a.steps k kl) q
  none_acked e (Delivering w g j) a k kl o q =
      clash _ (row_in s.concatenated s.n s.cell i l (ap (λ m. active (place_of m)) e) P.answering (ap step_of e) quiet w g j a tt k kl o) (ap (λ c. mem c quiet) q)
  none_acked e Granting a k kl o q = unlisted grant_steps refl (s.cell k).mode (a.steps k kl) q
  none_acked e (Gapping j) a k kl o q = clash _ (a.calm i l) (ap (λ m. mem (place_of m) quiet) e)

  -- where node i puts out the last signal of its acknowledgement, nobody sends or awaits
  none_sends : BusyAt s.concatenated s.n s.cell → (c a : ℕ) (b : Bool) → (s.cell i).mode ≡ Acking c a b → 2 ≤ c → (k : ℕ) → k < s.n → sends (place_at s k) ≡ true → ⊥
  none_sends (clears t) c a b e h k kl z =
      let u : acking_at c < 31 = subst (λ x. x < 31) (ap step_of e) (mem_below (step_of (s.cell i).mode) clear_steps 31 refl (t.steps i l)) in omega arith
  none_sends (talks t) c a b e h k kl z =
      by_test (eqb k i) (λ q. clash _ z (ap (λ k. sends (place_at s k)) (eqb-true k i q) ∙ ap (λ m. sends (place_of m)) e))
      (λ q. clash _ z (not-true _ (by_place (λ p. mem p past) (λ p. not (sends p)) tt (s.cell k).mode
      (turn_in s.concatenated s.n s.cell i l (ap (λ m. active (place_of m)) e) (acking_at 2) (ap step_of e ∙ ap acking_at two) past t tt k kl (eqb-false k i q)))))
    where
      at : (turn_at t.t).step ≡ acking_at c
      at = sym t.talker ∙ ap (λ k. step_of (s.cell k).mode) (sym (is_talker s.concatenated s.n s.cell t i l (ap (λ m. active (place_of m)) e))) ∙ ap step_of e

      two : c ≡ 2
      two =
          let u : acking_at c < 42 = subst (λ x. x < 42) at (ltb-true _ _ (table_at (λ t. ltb (turn_at t).step 42) 17 tt t.t t.t_lt)) in
          let w : c < 3 = ltb-true _ _ (implied _ _ (pairs_at (λ t c. implies (eqb (turn_at t).step (acking_at c)) (ltb c 3)) 17 6 tt t.t c t.t_lt (omega arith)) (eq-eqb _ _ at)) in omega arith

  -- node i puts out a signal
  abbrev Out : Signal → Mode → State
  Out g m = moved s (Delivering i g (first_other i)) i (puts_out g m (s.cell i))

  out_acks : (g : Signal) (m : Mode) → (is_ack g ≡ true → voice m ≡ given (ack_of g)) → AckAt (Delivering i g (first_other i)) (λ k. ((Out g m).cell k).mode)
  out_acks g m f e = ap (λ (x : Cell). voice x.mode) (upd_same s.cell i (puts_out g m (s.cell i))) ∙ f e

  -- as a requester a node in place p was so in place q, too, and has not heard a good Ack
  abbrev follows : ℕ → ℕ → Bool
  follows p q = implies (asking p) (asking q) && (implies (sends p) (sends q) && not (eqb p P.ack_good))

  own_follows : {m₀ : Mode} (m : Mode) → (s.cell i).mode ≡ m₀ → follows (place_of m) (place_of m₀) ≡ true → Own s bk v i m (bk i).running
  own_follows {m₀} m e f =
      let y = and-true (implies (asking (place_of m)) (asking (place_of m₀))) _ f in
      let z = and-true (implies (sends (place_of m)) (sends (place_of m₀))) _ y.1 in
      own_kept s bk v i l m (λ q. ap (λ m. asking (place_of m)) e ∙ implied _ _ y.0 q) (λ q. ap (λ m. sends (place_of m)) e ∙ implied _ _ z.0 q) (λ q. clash _ (eq-eqb _ _ q) (not-true _ z.1))

  -- it says what it said and reports nothing; it has put out the last signal of its acknowledgement
  on : {m₀ m : Mode} {g : Signal} → Puts i (s.cell i).sending m₀ g m Silent → (s.cell i).mode ≡ m₀ → voice m ≡ voice m₀ → follows (place_of m) (place_of m₀) ≡ true →
      (is_ack g ≡ true → voice m ≡ given (ack_of g)) → Heed (Out g m) bk
  on {m = m} {g = g} x e q f a = calm s bk v _ i _ bk (λ k kl o h. refl) (q ∙ sym (ap voice e)) (own_follows m e f) (out_acks g m a) v.honest

  last : {c a : ℕ} {b : Bool} {m : Mode} {g : Signal} → Puts i (s.cell i).sending (Acking c a b) g m Silent → BusyAt s.concatenated s.n s.cell → (s.cell i).mode ≡ Acking c a b → 2 ≤ c →
      voice m ≡ mute → follows (place_of m) P.acking ≡ true → is_ack g ≡ false → Heed (Out g m) bk
  last {c} {a} {b} {m} {g} x t e h q f n =
      turns s bk v _ i _ bk (λ k kl o h. refl) (λ p l z. subst (λ x. Agrees i x p l) (sym q) tt) (λ k kl z u. absurd (none_sends t c a b e h k kl z))
      (own_follows m e f) (out_acks g m (λ z. clash _ z n)) v.honest

  puts_heed : {m₀ m : Mode} {g : Signal} {r : Report} → BusyAt s.concatenated s.n s.cell → (s.cell i).mode ≡ m₀ → Puts i (s.cell i).sending m₀ g m r →
      Heed (remarked (marking_by m₀ g) (Out g m)) (λ k. reports (eqb k (node_of r)) r (bk k))
  puts_heed t e start = remarked_heed (marking_by (Sending 0) Start) _ bk (on start e refl refl (λ z. never z))
  puts_heed t e dhead = on dhead e refl refl (λ z. never z)
  puts_heed t e dest = on dest e refl refl (λ z. never z)
  puts_heed t e header = on header e refl refl (λ z. never z)
  puts_heed t e datum = on datum e refl refl (λ z. never z)
  puts_heed t e (end_all h q) =
      confirmed s bk v _ i _ (Sent i (s.cell i).sending.head.label) (λ b x. reports b (Sent i (s.cell i).sending.head.label) x) (λ b. refl) (λ b. refl) (sym (ap voice e)) refl (labelled (s.cell i) (bk i) (kp i)) (out_acks End Rest (λ z. never z))
  puts_heed t e (end_one h q) = on (end_one h q) e refl refl (λ z. never z)
  puts_heed t e filler = on filler e refl refl (λ z. never z)
  puts_heed t e (ack_start {a = a} {h = h}) = remarked_heed (marking_by (Acking 0 a h) Start) _ bk (on ack_start e refl refl (λ z. never z))
  puts_heed t e ack_body_lem = on ack_body_lem e refl refl (λ z. refl)
  puts_heed t e (ack_hold {k = k} {a = a} h) = remarked_heed (marking_by (Acking k a true) Prefix) _ bk (last (ack_hold h) t e h refl refl refl)
  puts_heed t e (ack_end h) = last (ack_end h) t e h refl refl refl
  puts_heed t e holds_on = on holds_on e refl refl (λ z. never z)

  -- the cell stays
  stays : (ph : Phase) → AckAt ph (λ k. (upd s.cell i (s.cell i) k).mode) → Heed (moved s ph i (s.cell i)) bk
  stays ph a = calm s bk v ph i (s.cell i) bk (λ k kl o h. refl) refl (own_same s bk v i l) a v.honest

  -- the phase stays
  acks_stay : (c : Cell) → voice c.mode ≡ voice_at s i → AckAt s.phase (modes_after s i c)
  acks_stay c e = same_acks s bk v s.phase i c (λ a q. e ∙ q) v.carried

  -- node i starts a request
  begins : (ph : Phase) (c : Cell) (bk' : ℕ → Book) (q : Packet) → c.mode ≡ Sending 0 → voice_at s i ≡ mute → (bk' i).running ≡ run q [] → ((k : ℕ) → k ≢ i → (bk' k).running ≡ (bk k).running) →
      OthersIn past s.n s.cell i → AckAt ph (modes_after s i c) → ((k : ℕ) → (bk' k).confirmed ≡ (bk k).confirmed) → Heed (moved s ph i c) bk'
  begins ph c bk' q e u new same o a con =
      calm s bk v ph i c bk' (λ k kl d h. same k d) (ap voice e ∙ sym u)
      (rw (e, new) (own_new s bk v i 0 q (λ j jl d. says_nothing (s.cell j).mode (not-true _ (by_place (λ p. mem p past) (λ p. not (mem p answerers)) tt (s.cell j).mode (o j jl d)))))) a
      (λ k kl. rw (con k) (v.honest k kl))

  -- the stage of a phase that is known
  at_stage : {ph : Phase} → s.phase ≡ ph → Stage s.concatenated ph s.n s.cell
  at_stage z = subst (λ ph. Stage s.concatenated ph s.n s.cell) z re.stage

  -- node i wins; it rests, and goes on resting
  won : (q : Packet) → s.phase ≡ Idle → (s.cell i).buffer ≡ Some q → mem (place_at s i) resting ≡ true → Heed (moved s Busy i (Actions.wins q (s.cell i))) (λ k. reports (eqb k i) (Won i) (bk k))
  won q z f e =
      begins _ _ _ q refl (resting_mute (s.cell i).mode e) (ap (λ b. (reports b (Won i) (bk i)).running) (eq-eqb i i refl) ∙ ap (λ f. (Demand.wins f (bk i)).running) ((kp i).waits ∙ f))
      (λ k o. ap (λ b. (reports b (Won i) (bk k)).running) (ne_eqb k i o)) (λ k kl o. mem-sub resting past refl (place_at s k) ((at_stage z).rests k kl)) tt (λ k. wins_confirmed (eqb k i) i (bk k) _ refl)

  rests_on : (m : Mode) → mem (place_at s i) resting ≡ true → mem (place_of m) resting ≡ true → Heed (moved s s.phase i (set_mode m (s.cell i))) bk
  rests_on m e f =
      let q : voice m ≡ voice_at s i = resting_mute m f ∙ sym (resting_mute (s.cell i).mode e) in
      calm s bk v _ i _ bk (λ k kl o h. refl) q (own_none s bk v i m _ (resting_ours m f)) (acks_stay _ q) v.honest

  -- the node that answers gives a: what it was told stands in the notes already
  given_run : (a : ℕ) (r : Run) → Running (Agrees i heard) r → Running (Agrees i (given a)) (note (gave i a) r)
  given_run a none x = tt
  given_run a (run q n) x = (x.0, go x.0 x.1)
    where
      go : q.to ≡ i → ToldOnce q n → Acknowledged q a (gave i a ∷ n)
      go z (inl u) = inl (cc)
      go z (inr u) = inr (cc)

  -- a grant changes nothing that a node says, and nothing of a requester
  granted_voice : (m : Mode) → voice (granted m) ≡ voice m
  granted_voice m =
      pick_by (λ x. voice x ≡ voice m) (is_told m) _ _ (λ e. sym (ap voice (mode_is m P.told (eqb-true _ _ e)))) λ q.
      pick_by (λ x. voice x ≡ voice m) (is_owed m) _ _ (λ e. sym (ap voice (mode_is m P.owed (eqb-true _ _ e)))) (λ e. refl)

  -- a signal under way: an Ack stays its sender's; where node i hears it good, it is what was given, since the notes agree with what the sender says
  acks_at : {ph : Phase} → s.phase ≡ ph → AckAt ph (λ k. (s.cell k).mode)
  acks_at z = subst (λ ph. AckAt ph (λ k. (s.cell k).mode)) z v.carried

  acks_on : {w : ℕ} {g : Signal} → s.phase ≡ Delivering w g i → (ps : ℕ → Bool) (c : Cell) → AckAt (onward s.n w g i ps) (modes_after s i c)
  acks_on {w} {g} z ps c = onward_acks s bk v s.n w g i ps c (at_stage z).apart (acks_at z)

  ack_ends : {w : ℕ} {u : Way} {g t : Signal} {b : Bool} → s.phase ≡ Delivering w g i → Arrives (s.cell i).misled u g t b → place_at s i ≡ P.ack_body → eqb (class_of i t) S.ack_good ≡ true →
      Answered (ack_of t) (bk i).running
  ack_ends {w} {t = t} z x e f =
      let y = arrives_ack x (ap is_ack (signal_is i t S.ack_good f)) in
      run_map (Agrees w (voice_at s w)) (λ p l. Acknowledged p (ack_of t) l) (bk i).running (λ q n u. (subst (λ x. Agrees w x q n) (acks_at z y.0 ∙ ap given y.1) u).1)
      (v.agrees i w l (at_stage z).here (ap asking e))

  -- node i gets its Gap
  gapped : {ph : Phase} → s.phase ≡ Gapping i → AckAt ph (modes_after s i (after_gap i (s.cell i))) → Tells p (receives hears i (s.cell i) Gap).report →
      Heed (moved s ph i (after_gap i (s.cell i))) (λ k. reports (eqb k (node_of (receives hears i (s.cell i) Gap).report)) (receives hears i (s.cell i) Gap).report (bk k))
  gapped z a =
      hears_heed s bk v p ca kp _ i l Gap (s.cell i) a
      (λ e. clash _ e (not-true _ (by_place (λ p. mem p quiet) (λ p. not (mem p tails)) tt (s.cell i).mode ((at_stage z).calm i l)))) (λ e f. never f)

  -- every way leads to a state and books of which it holds again
  pub heeds : {m : Move} {r : Report} {ph : Phase} {c : Cell} {x : Marking} → Effect s m i (does r ph c x) → Heed (remarked x (moved s ph i c)) (λ k. enters k (accepted m r) (bk k))
  heeds (waits {p = q} e f) =
      calm s bk v _ i _ _ (λ k kl o h. ap (λ b. (moves b (Request i q) (bk k)).running) (ne_eqb k i o)) refl
      (rw (waits_running (eqb i i) i q (bk i) ((kp i).holds ∙ ap hold_of (mode_is (s.cell i).mode P.rest e))) (own_same s bk v i l)) (acks_stay _ refl)
      (λ k kl. rw (asks_confirmed (eqb k i) _ i q (bk k) refl) (v.honest k kl))
  heeds (replies {p = q} e) =
      begins _ _ _ q refl (ap voice e) (ap (λ b. (moves b (Request i q) (bk i)).running) (eq-eqb i i refl) ∙ ap (λ h. (asks h q (bk i)).running) ((kp i).holds ∙ ap hold_of e))
      (λ k o. ap (λ b. (moves b (Request i q) (bk k)).running) (ne_eqb k i o)) (holding_past p s ca re i l e s.phase re.stage).0 (acks_stay _ (sym (ap voice e)))
      (λ k. asks_confirmed (eqb k i) _ i q (bk k) refl)
  heeds (claims e f) = rests_on Asked (ap (λ p. mem p resting) e) refl
  heeds (wins {p = q} (at_once e) z f w) = won q z f (ap (λ p. mem p resting) e)
  heeds (wins {p = q} (asked e) z f w) = won q z f (ap (λ p. mem p resting) e)
  heeds (loses (at_once e)) = rests_on Rest (ap (λ p. mem p resting) e) refl
  heeds (loses (asked e)) = rests_on Rest (ap (λ p. mem p resting) e) refl
  heeds (gives {a = a} {h = h} e u) =
      noted s bk v s.phase i (answers a h (s.cell i)) _ (gave i a) l (λ k. refl) (λ z. let y : ◌≡◌ {A = ℕ} 0 1 = cc in omega arith)
      (others_mute p s ca i (answers_to (ap (λ m. mem (place_of m) answerers) e) (ca.all i l))) (none_acked e s.phase re.stage)
      (λ k kl o q. given_run a (bk k).running (subst (λ x. Running (Agrees i x) (bk k).running) (ap voice e) (v.agrees k i kl l q)))
      (same_acks s bk v s.phase i _ (λ b z. let q : heard ≡ given b = sym (ap voice e) ∙ z in let y : ◌≡◌ {A = ℕ} 0 1 = cc in absurd (omega arith)) v.carried) v.honest
  heeds (puts z h o x) = puts_heed (at_stage z) refl x
  heeds (frees z h e) =
      calm s bk v _ i _ bk (λ k kl o h. refl) (sym (ap voice e)) (own_none s bk v i Rest _ refl)
      (pick (λ p. (f : ℕ → Mode) → AckAt p f) (others (holders s.cell) i s.n) _ _ (λ f. tt) (λ f. tt) _) v.honest
  heeds (arrives {w = w} {g = g} {t = t} {b = b} z x) =
      hears_heed s bk v p ca kp _ i l t (hearing (s.cell i) (receives hears i (s.cell i) t) b) (acks_on z _ _) (only_awaits s.concatenated s.n s.cell w g i (at_stage z)) (ack_ends z x)
      (carries p s ca re i l (arrives z x)).tells
  heeds (is_lost z e) = stays _ (acks_on z _ (s.cell i))
  heeds (grants z e f) =
      calm s bk v _ i _ bk (λ k kl o h. refl) (granted_voice (s.cell i).mode)
      (pick (λ x. Own s bk v i x (bk i).running) (is_told (s.cell i).mode) _ _ (own_none s bk v i Answering _ refl)
      (pick (λ x. Own s bk v i x (bk i).running) (is_owed (s.cell i).mode) _ _ (own_none s bk v i Spurious _ refl) (own_same s bk v i l)))
      (pick (λ p. (f : ℕ → Mode) → AckAt p f) (others (pendings s.cell) i s.n) _ _ (λ f. tt) (λ f. tt) _) v.honest
  heeds (grants_none z e) = stays Busy tt
  heeds (gaps z u) = gapped z tt (carries p s ca re i l (gaps z u)).tells
  heeds (settles z u) = remarked_heed marking_at_idle _ _ (gapped z tt (carries p s ca re i l (settles z u)).tells)
  heeds (resets z) = remarked_heed M.Won _ bk (stays s.phase (acks_stay (s.cell i) refl))
