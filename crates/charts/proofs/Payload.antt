-- What nodes remember of the packet that was started last: who may remember it, and that what they remember and report are its own address, header and datum.
-- So at most one node is told of it and answers.
use Rattle.std.specs.Prelude.{None, Option, Some}
use mathlib.Core.Path.{◌≡◌, refl, sym, ap, subst, ◌∙◌}
use mathlib.Core.Logic.{◌≢◌}
use mathlib.Core.Bool.{Bool, true, false, ◌&&◌, ◌||◌, not}
use mathlib.Core.List.{List, [], ◌∷◌}
use Prim.Native.Nat.{ℕ, ◌<◌}
use native.Mathlib.Omega.{arith}
use lib.Dec.{T, eqb, ltb}
use lib.ListN.{get_or}
use borrow.Author.Tests.{eqb-true, ltb-true, ltb-false, not-true}
use Rattle.charts.specs.declared.Head.{Head}
use Rattle.charts.specs.declared.Mode.{Mode}
use Rattle.charts.specs.declared.Mode.TheVariants.{HeadOwn, HeadAll, BodyOwn, BodyAll, TailOwn, TailAll, Sending, Acking, Holding}
use Rattle.charts.specs.declared.Signal.{Signal}
use Rattle.charts.specs.declared.Signal.TheVariants.{Start, End, Prefix, Gap, Dhead, Dest, Header, Data, Ack}
use Rattle.charts.specs.declared.Report.{Report}
use Rattle.charts.specs.declared.Report.TheVariants.{Silent, Good, Dcrc, Broad}
use Rattle.charts.specs.declared.Packet.{Packet}
use Rattle.charts.specs.declared.Phase.{Phase}
use Rattle.charts.specs.declared.Phase.TheVariants.{Idle, Busy, Delivering, Granting, Gapping}
use Rattle.charts.specs.declared.Cell.{Cell}
use Rattle.charts.specs.declared.Heard.{Heard}
use Rattle.charts.specs.declared.Way.{Way}
use Rattle.charts.specs.declared.Marking.{Marking}
use Rattle.charts.specs.declared.Marking.TheVariants as M
use Rattle.charts.specs.declared.Move.{Move}
use Rattle.charts.specs.Modes as P
use Rattle.charts.specs.Modes.{place_of, is_told, is_owed}
use Rattle.charts.specs.Signals as S
use Rattle.charts.specs.Signals.{everybody, class_of, kind_of, closes, head_of, datum_of, ack_of, is_end}
use Rattle.charts.specs.Reception.{hears, falls}
use Rattle.charts.specs.Arrivals.{passed}
use Rattle.charts.specs.State.{State, every, some, others, pendings, holders, moved, remarked, fresh}
use Rattle.charts.specs.Actions.{does, first_other, next_other, onward, receives, granted, puts_out, marking_by, marking_at_idle}
use Rattle.charts.proofs.Tools.{never, clash, implies, implied, and-true, or-false, or_no, or_yes, pick, pick_by, at_upd, at_upd≢, mem, every_in, mem-sub, by_test}
use Rattle.charts.specs.Words as W
use Rattle.charts.specs.Words.{word_of}
use Rattle.charts.proofs.Places.{mode_is, law, law_mode, active, step_of, sending_at, acking_at, resting}
use Rattle.charts.proofs.Stages.{Row, row_at, turn_at, quiet, grant_steps, clear_steps, Delivery, Talk, BusyAt, talks, clears, Stage}
use Rattle.charts.proofs.Ways.{Puts, start, dhead, dest, header, datum, end_all, end_one, filler, ack_start, ack_body_lem, ack_hold, ack_end, holds_on, Arrives, passes, redirects, bad_header, bad_data, bad_ack, Effect, waits, replies, wins, loses, gives, puts, frees, arrives, is_lost, grants, grants_none, gaps, settles, resets, claims}
use Rattle.charts.proofs.Reach.{Reach, answerers, is_talker, is_sender, row_fact, turn_fact, no_turn, not_clearing, sole_quiet}

-- the nodes other than i are in places of `room`
abbrev pub OthersIn : List ℕ → ℕ → (ℕ → Cell) → ℕ → Type 0
OthersIn room n f i = (k : ℕ) → k < n → k ≢ i → mem (place_of (f k).mode) room ≡ true

-- a node in such a mode remembers nothing of a packet
abbrev pub blank : List ℕ
blank = P.rest ∷ P.asked ∷ P.await_ack ∷ P.ack_body ∷ P.ack_good ∷ P.ack_none ∷ P.opened ∷ P.addressed ∷ P.wait ∷ P.owed ∷ P.sending ∷ P.holding ∷ P.spurious ∷ P.listening ∷ []

-- good data are the packet's; of bad data nothing is kept
abbrev pub Read : Packet → Option ℕ → Type 0
Read p (Some d) = d ≡ p.datum
Read p None = Unit {0}

-- what node k, misled or not, remembers of the packet p
pub data Bears (p : Packet) (k : ℕ) (misled : Bool) : Mode → Type 0 where
  nothing : {m : Mode} → mem (place_of m) blank ≡ true → Bears p k misled m
  led_own : (misled ≡ false → p.to ≡ k) → Bears p k misled HeadOwn
  led_all : (misled ≡ false → p.to ≡ everybody) → Bears p k misled HeadAll
  head_own_lem : {h : Head} → p.to ≡ k → h ≡ p.head → Bears p k misled (BodyOwn h)
  head_all_lem : {h : Head} → p.to ≡ everybody → h ≡ p.head → Bears p k misled (BodyAll h)
  tail_own : {h : Head} {d : Option ℕ} → p.to ≡ k → h ≡ p.head → Read p d → Bears p k misled (TailOwn h d)
  tail_all : {h : Head} {d : Option ℕ} → p.to ≡ everybody → h ≡ p.head → Read p d → Bears p k misled (TailAll h d)
  answers : {m : Mode} → mem (place_of m) answerers ≡ true → p.to ≡ k → Bears p k misled m

-- a report tells of p only
pub data Tells (p : Packet) : Report → Type 0 where
  told_none : {r : Report} → ltb (word_of r) W.good ≡ true → Tells p r
  told_good : {k d : ℕ} {h : Head} → p.to ≡ k → h ≡ p.head → d ≡ p.datum → Tells p (Good k h d)
  told_dcrc : {k : ℕ} {h : Head} → p.to ≡ k → h ≡ p.head → Tells p (Dcrc k h)
  told_broad : {k d : ℕ} {h : Head} → p.to ≡ everybody → Tells p (Broad k h d)

-- a signal of p as a node, misled or not, may hear it: one that is not misled hears p's address, and no other hears a good header. (As it is put out, it is heard by nobody misled.)
abbrev pub Says : Packet → Bool → Signal → Type 0
Says p misled Start = Unit {0}
Says p misled End = Unit {0}
Says p misled Prefix = Unit {0}
Says p misled Gap = Unit {0}
Says p misled Dhead = Unit {0}
Says p misled (Dest a) = misled ≡ false → a ≡ p.to
Says p misled (Header h good) = (good ≡ true → misled ≡ false) × (h ≡ p.head)
Says p misled (Data d good) = d ≡ p.datum
Says p misled (Ack a good) = Unit {0}

abbrev pub SaysAt : Packet → Phase → Type 0
SaysAt p Idle = Unit {0}
SaysAt p Busy = Unit {0}
SaysAt p (Delivering w g j) = Says p false g
SaysAt p Granting = Unit {0}
SaysAt p (Gapping j) = Unit {0}

-- a node in such a mode still sends the packet that it started last, or awaits the acknowledgement
abbrev pub sends : ℕ → Bool
sends c = mem c (P.sending ∷ P.await_ack ∷ [])

-- p is what every node that remembers a packet remembers, what is under way, and what a sender sends
pub record Carry (p : Packet) (s : State) : Type 0 where
  pub all : (k : ℕ) → k < s.n → Bears p k (s.cell k).misled (s.cell k).mode
  pub signal : SaysAt p s.phase
  pub own : (k : ℕ) → k < s.n → sends (place_of (s.cell k).mode) ≡ true → (s.cell k).sending ≡ p

pub fresh_carry : (p : Packet) (n : ℕ) → Carry p (fresh n)
fresh_carry p n = record { all = λ k l. nothing refl; signal = tt; own = λ k l e. never e }

-- SIGNALS BY THEIR CLASSES
-- a signal that a node meets in a class is the one that stands there, with what it carries
abbrev signals : ℕ → Signal → List Signal
signals me g =
    Start ∷ End ∷ Prefix ∷ Gap ∷ Dhead ∷ Dest me ∷ Dest everybody ∷ g ∷ Header (head_of g) true ∷ Header (head_of g) false
    ∷ Data (datum_of g) true ∷ Data (datum_of g) false ∷ Ack (ack_of g) true ∷ Ack (ack_of g) false ∷ []

signal_at : (me : ℕ) (g : Signal) → g ≡ get_or (signals me g) (class_of me g) Start
signal_at me Start = refl
signal_at me End = refl
signal_at me Prefix = refl
signal_at me Gap = refl
signal_at me Dhead = refl
signal_at me (Dest a) =
    pick_by (λ c. Dest a ≡ get_or (signals me (Dest a)) c Start) (eqb a me) _ _ (λ e. ap Dest (eqb-true a me e)) λ e.
    pick_by (λ c. Dest a ≡ get_or (signals me (Dest a)) c Start) (eqb a everybody) _ _ (λ e. ap Dest (eqb-true a everybody e)) (λ e. refl)
signal_at me (Header h c) = pick_by (λ x. Header h c ≡ get_or (signals me (Header h c)) x Start) c _ _ (λ e. ap (Header h) e) (λ e. ap (Header h) e)
signal_at me (Data d c) = pick_by (λ x. Data d c ≡ get_or (signals me (Data d c)) x Start) c _ _ (λ e. ap (Data d) e) (λ e. ap (Data d) e)
signal_at me (Ack a c) = pick_by (λ x. Ack a c ≡ get_or (signals me (Ack a c)) x Start) c _ _ (λ e. ap (Ack a) e) (λ e. ap (Ack a) e)

pub signal_is : (me : ℕ) (g : Signal) (c : ℕ) → eqb (class_of me g) c ≡ true → g ≡ get_or (signals me g) c Start
signal_is me g c e = signal_at me g ∙ ap (λ c. get_or (signals me g) c Start) (eqb-true (class_of me g) c e)

-- a Prefix says nothing of any packet
prefix_says : (p : Packet) (g : Signal) → kind_of g ≡ kind_of Prefix → Says p false g
prefix_says p Start e = tt
prefix_says p End e = tt
prefix_says p Prefix e = tt
prefix_says p Gap e = tt
prefix_says p Dhead e = tt
prefix_says p (Dest a) e = absurd (omega arith)
prefix_says p (Header h c) e = absurd (omega arith)
prefix_says p (Data d c) e = absurd (omega arith)
prefix_says p (Ack a c) e = tt

-- HEARING
module _ (p : Packet) (k label : ℕ) (w : Bool) where
  -- what a node comes to by hearing: it remembers what it may, and tells of p only
  abbrev Fine : Heard → Type 0
  Fine x = (Bears p k w x.mode) × (Tells p x.report)

  plain : {m : Mode} {r : Report} → mem (place_of m) blank ≡ true → ltb (word_of r) W.good ≡ true → (Bears p k w m) × (Tells p r)
  plain e f = (nothing e, told_none f)

  falling : (r : Report) → ltb (word_of r) W.good ≡ true → (c : ℕ) → Fine (falls Silent r c)
  falling r t c = pick Fine (eqb c S.gap) _ _ (plain refl refl) (plain refl t)

  heard : {m : Mode} (g : Signal) → Says p w g → Bears p k w m → Fine (hears k label m g)
  unfolding hears
  heard g z (nothing {m = m} e) =
      by_test (eqb (place_of m) P.addressed)
      (λ q. subst (λ (m : Mode). Fine (hears k label m g)) (sym (mode_is m P.addressed (eqb-true _ _ q)))
      (pick_by Fine (eqb (class_of k g) S.dest_own) _ _ (λ e. (led_own (λ o. sym (subst (Says p w) (signal_is k g S.dest_own e) z o)), told_none refl)) λ n.
      pick_by Fine (eqb (class_of k g) S.dest_all) _ _ (λ e. (led_all (λ o. sym (subst (Says p w) (signal_is k g S.dest_all e) z o)), told_none refl)) λ n.
      pick Fine (eqb (class_of k g) S.dest_other) _ _ (plain refl refl) (falling _ refl (class_of k g))))
      (λ q. let y = and-true _ _ (implied _ _ (implied _ _
      (law (λ y p c. implies (not (eqb p P.addressed)) (implies (mem p blank) (mem y.place blank && ltb y.word W.good))) tt k label m g) (ap not q)) e) in plain y.0 y.1)
  heard g z (led_own f) =
      pick_by Fine (eqb (class_of k g) S.header_good) _ _ (λ e. let y = subst (Says p w) (signal_is k g S.header_good e) z in (head_own_lem (f (y.0 refl)) y.1, told_none refl)) (λ e. plain refl refl)
  heard g z (led_all f) =
      pick_by Fine (eqb (class_of k g) S.header_good) _ _ (λ e. let y = subst (Says p w) (signal_is k g S.header_good e) z in (head_all_lem (f (y.0 refl)) y.1, told_none refl)) λ e.
      falling _ refl (class_of k g)
  heard g z (head_own_lem a h) =
      pick_by Fine (eqb (class_of k g) S.data_good) _ _ (λ e. (tail_own a h (subst (Says p w) (signal_is k g S.data_good e) z), told_none refl)) λ e.
      pick Fine (eqb (class_of k g) S.data_bad) _ _ (tail_own a h tt, told_none refl) (plain refl refl)
  heard g z (head_all_lem a h) =
      pick_by Fine (eqb (class_of k g) S.data_good) _ _ (λ e. (tail_all a h (subst (Says p w) (signal_is k g S.data_good e) z), told_none refl)) λ e.
      pick Fine (eqb (class_of k g) S.data_bad) _ _ (tail_all a h tt, told_none refl) (falling _ refl (class_of k g))
  heard g z (tail_own {d = Some d} a h r) = pick Fine (closes (class_of k g)) _ _ (answers refl a, told_good a h r) (plain refl refl)
  heard g z (tail_own {d = None} a h r) = pick Fine (closes (class_of k g)) _ _ (answers refl a, told_dcrc a h) (plain refl refl)
  heard g z (tail_all {d = Some d} a h r) = pick Fine (closes (class_of k g)) _ _ (nothing refl, told_broad a) (falling _ refl (class_of k g))
  heard g z (tail_all {d = None} a h r) = pick Fine (closes (class_of k g)) _ _ (plain refl refl) (falling _ refl (class_of k g))
  heard g z (answers {m = m} e a) =
      let y = and-true _ _ (implied _ _ (law (λ y p c. implies (mem p answerers) (mem y.place answerers && ltb y.word W.good)) tt k label m g) e) in (answers y.0 a, told_none y.1)

-- what arrives of a signal of p says what it may, and the mark that it leaves spoils nothing that the node remembers
passed_says : (p : Packet) (w : Bool) (g : Signal) → Says p false g → Says p (w || false) (passed w g)
passed_says p w Start z = tt
passed_says p w End z = tt
passed_says p w Prefix z = tt
passed_says p w Gap z = tt
passed_says p w Dhead z = tt
passed_says p w (Dest a) z = λ e. z refl
passed_says p w (Header h c) z = ((λ e. or_no w ∙ not-true w (and-true c (not w) e).1), z.1)
passed_says p w (Data d c) z = z
passed_says p w (Ack a c) z = tt

arrives_says : (p : Packet) {w : Bool} {v : Way} {g t : Signal} {b : Bool} → Arrives w v g t b → Says p false g → Says p (w || b) t
arrives_says p {w = w} {g = g} passes z = passed_says p w g z
arrives_says p {w = w} (redirects e) z = λ o. clash (w || true) (or_yes w) o
arrives_says p bad_header z = ((λ e. never e), z.1)
arrives_says p bad_data z = z
arrives_says p bad_ack z = tt

marked : {p : Packet} {k : ℕ} {w : Bool} {m : Mode} (b : Bool) → Bears p k w m → Bears p k (w || b) m
marked b (nothing e) = nothing e
marked {w = w} b (led_own f) = led_own (λ e. f (or-false w b e).0)
marked {w = w} b (led_all f) = led_all (λ e. f (or-false w b e).0)
marked b (head_own_lem a h) = head_own_lem a h
marked b (head_all_lem a h) = head_all_lem a h
marked b (tail_own a h r) = tail_own a h r
marked b (tail_all a h r) = tail_all a h r
marked b (answers e a) = answers e a

-- a node that was told of p and answers is the one that p is for
pub answers_to : {p : Packet} {k : ℕ} {w : Bool} {m : Mode} → mem (place_of m) answerers ≡ true → Bears p k w m → p.to ≡ k
answers_to t (nothing {m = m} e) = clash _ t (not-true _ (implied _ _ (law_mode (λ c. implies (mem c blank) (not (mem c answerers))) tt m) e))
answers_to t (led_own f) = never t
answers_to t (led_all f) = never t
answers_to t (head_own_lem a h) = never t
answers_to t (head_all_lem a h) = never t
answers_to t (tail_own {d = Some d} a h r) = never t
answers_to t (tail_own {d = None} a h r) = never t
answers_to t (tail_all {d = Some d} a h r) = never t
answers_to t (tail_all {d = None} a h r) = never t
answers_to t (answers e a) = a

-- so at most one node answers
pub one_responder : (p : Packet) (s : State) → Carry p s → (j k : ℕ) → j < s.n → k < s.n →
    mem (place_of (s.cell j).mode) answerers ≡ true → mem (place_of (s.cell k).mode) answerers ≡ true → j ≡ k
one_responder p s v j k l h e f = sym (answers_to e (v.all j l)) ∙ answers_to f (v.all k h)

-- EACH WAY IN WHICH AN ACTION ACTS
-- places of the other nodes where a packet may start: they remember nothing and have no packet of their own under way
abbrev pub past : List ℕ
past = P.rest ∷ P.asked ∷ P.ack_body ∷ P.ack_good ∷ P.ack_none ∷ P.opened ∷ P.addressed ∷ P.wait ∷ P.listening ∷ []

-- after an action with report r: the packet that was started last, and r tells of the one that was so before
pub record Carries (p : Packet) (r : Report) (s : State) : Type 0 where
  pub packet : Packet
  pub carry : Carry packet s
  pub tells : Tells p r

-- marks other than the misled ones say nothing of packets
abbrev keeps_misled : Marking → Bool
keeps_misled M.Nothing = true
keeps_misled M.Misled = false
keeps_misled M.Won = true
keeps_misled (M.Concatenated b) = true

remarked_carries : {p : Packet} {r : Report} {s : State} (x : Marking) → keeps_misled x ≡ true → Carries p r s → Carries p r (remarked x s)
remarked_carries M.Nothing e c = c
remarked_carries M.Misled e c = never e
remarked_carries M.Won e c = record { packet = c.packet; carry = record { all = c.carry.all; signal = c.carry.signal; own = c.carry.own }; tells = c.tells }
remarked_carries (M.Concatenated b) e c = record { packet = c.packet; carry = record { all = c.carry.all; signal = c.carry.signal; own = c.carry.own }; tells = c.tells }

module _ (p : Packet) (s : State) (v : Carry p s) where
  -- cell i changes, and the packet stays
  changes : (ph : Phase) (i : ℕ) (c : Cell) → SaysAt p ph → Bears p i c.misled c.mode → (sends (place_of c.mode) ≡ true → c.sending ≡ p) → Carry p (moved s ph i c)
  changes ph i c z a b = record {
    all = λ k. at_upd (λ k c. k < s.n → Bears p k c.misled c.mode) s.cell i c k (λ l. a) (v.all k);
    signal = z;
    own = λ k. at_upd (λ k c. k < s.n → sends (place_of c.mode) ≡ true → c.sending ≡ p) s.cell i c k (λ l. b) (v.own k);
  }

  -- node i starts a packet, and no other remembers one
  begins : (ph : Phase) (i : ℕ) (c : Cell) → SaysAt c.sending ph → mem (place_of c.mode) blank ≡ true → OthersIn past s.n s.cell i → Carry c.sending (moved s ph i c)
  begins ph i c z m f = record {
    all = λ k. at_upd≢ (λ k x. k < s.n → Bears c.sending k x.misled x.mode) s.cell i c k (λ l. nothing m) (λ o l. nothing (mem-sub past blank refl (place_of (s.cell k).mode) (f k l o)));
    signal = z;
    own = λ k. at_upd≢ (λ k x. k < s.n → sends (place_of x.mode) ≡ true → x.sending ≡ c.sending) s.cell i c k (λ l e. refl)
        (λ o l e. clash _ e (not-true _ (implied _ _ (law_mode (λ c. implies (mem c past) (not (sends c))) tt (s.cell k).mode) (f k l o))));
  }

  -- node j hears the signal t and is marked by b
  hear : (ph : Phase) (j : ℕ) (t : Signal) (c : Cell) (b : Bool) → j < s.n → SaysAt p ph → Says p ((s.cell j).misled || b) t →
      c.mode ≡ (receives hears j (s.cell j) t).mode → c.misled ≡ (s.cell j).misled || b → c.sending ≡ (s.cell j).sending →
      Carries p (receives hears j (s.cell j) t).report (moved s ph j c)
  hear ph j t c b l z y e f h =
      let x = heard p j _ ((s.cell j).misled || b) t y (marked b (v.all j l)) in
      record {
        packet = p;
        carry = changes ph j c z (rw (e, f) x.0)
            (λ q. h ∙ v.own j l (implied _ _ (law (λ y p c. implies (sends y.place) (sends p)) tt j _ (s.cell j).mode t) (sym (ap (λ m. sends (place_of m)) e) ∙ q)));
        tells = x.1;
      }

  onward_says : (n w : ℕ) (g : Signal) (j : ℕ) (ps : ℕ → Bool) → Says p false g → SaysAt p (onward n w g j ps)
  onward_says n w g j ps z = pick (SaysAt p) (ltb (next_other w j) n) _ _ z (pick (SaysAt p) (is_end g) _ _ (pick (SaysAt p) (some ps n) _ _ tt tt) tt)

-- while a signal is under way, the nodes other than its sender are in places of `room` if the row says so. The sender is node i if i acts: then every row of i's step is to say so;
-- the same while it is node i's turn
abbrev pub in_row : List ℕ → Row → Bool
in_row room r = every_in r.before room && every_in r.after room

pub in_row_lem : (b : Bool) (n : ℕ) (f : ℕ → Cell) (w : ℕ) (g : Signal) (j : ℕ) (a : Delivery b n f w g j) (room : List ℕ) → in_row room (row_at a.d) ≡ true → OthersIn room n f w
in_row_lem b n f w g j a room t k h o =
    let y = and-true (every_in (row_at a.d).before room) _ t in
    by_test (ltb k j) (λ e. mem-sub (row_at a.d).after room y.1 (place_of (f k).mode) (a.after k h o (ltb-true k j e)))
    (λ e. mem-sub (row_at a.d).before room y.0 (place_of (f k).mode) (a.before k h o (ltb-false k j e)))

module _ (b : Bool) (n : ℕ) (f : ℕ → Cell) (i : ℕ) (l : i < n) (acts : active (place_of (f i).mode) ≡ true) (c : ℕ) (at : step_of (f i).mode ≡ c) (room : List ℕ) where
  pub row_in : (w : ℕ) (g : Signal) (j : ℕ) → Delivery b n f w g j → T (every (λ d. implies (mem c (row_at d).sender) (in_row room (row_at d))) 22) → OthersIn room n f i
  row_in w g j a t k h q =
      let o : i ≡ w = is_sender b n f w g j a i l acts in
      in_row_lem b n f w g j a room (row_fact b n f w g j a c (ap (λ k. step_of (f k).mode) (sym o) ∙ at) (in_row room) t) k h (λ z. q (z ∙ sym o))

  pub turn_in : Talk b n f → T (every (λ t. implies (eqb (turn_at t).step c) (every_in (turn_at t).room room)) 17) → OthersIn room n f i
  turn_in a t k h q =
      let o : i ≡ a.w = is_talker b n f a i l acts in
      mem-sub (turn_at a.t).room room (turn_fact b n f a c (ap (λ k. step_of (f k).mode) (sym o) ∙ at) (λ t. every_in t.room room) t) (place_of (f k).mode) (a.room k h (λ z. q (z ∙ sym o)))

module _ (p : Packet) (s : State) (v : Carry p s) (re : Reach s) (i : ℕ) (l : i < s.n) where
  -- where node i holds the bus no other remembers a packet, and only a Prefix can be under way
  pub holding_past : (s.cell i).mode ≡ Holding → (ph : Phase) → Stage s.concatenated ph s.n s.cell → OthersIn past s.n s.cell i × ((q : Packet) → SaysAt q ph)
  holding_past e Idle a = clash _ (a.rests i l) (ap (λ m. mem (place_of m) resting) e)
  holding_past e Busy (talks a) = (turn_in s.concatenated s.n s.cell i l (ap (λ m. active (place_of m)) e) P.holding (ap step_of e) past a tt, λ q. tt)
  holding_past e Busy (clears a) = absurd (not_clearing s.n s.cell a.steps i l (ap (λ m. mem (step_of m) clear_steps) e))
  holding_past e (Delivering w g j) a =
      let o : i ≡ w = is_sender s.concatenated s.n s.cell w g j a i l (ap (λ m. active (place_of m)) e) in
      let y = row_fact s.concatenated s.n s.cell w g j a P.holding (ap (λ k. step_of (s.cell k).mode) (sym o) ∙ ap step_of e) (λ r. eqb r.kind (kind_of Prefix)) tt in
      (row_in s.concatenated s.n s.cell i l (ap (λ m. active (place_of m)) e) P.holding (ap step_of e) past w g j a tt, λ q. prefix_says q g (a.kind ∙ eqb-true _ _ y))
  holding_past e Granting a = clash _ (a.steps i l) (ap (λ m. mem (step_of m) grant_steps) e)
  holding_past e (Gapping j) a = clash _ (a.calm i l) (ap (λ m. mem (place_of m) quiet) e)

  -- node i puts out a signal of p; where that is a Start, no other node remembers p
  abbrev Out : Signal → Mode → State
  Out g m = moved s (Delivering i g (first_other i)) i (puts_out g m (s.cell i))

  on : {g : Signal} {m : Mode} {r : Report} → Says p false g → ltb (word_of r) W.good ≡ true → Bears p i (s.cell i).misled m → (sends (place_of m) ≡ true → (s.cell i).sending ≡ p) → Carries p r (Out g m)
  on z t a b = record { packet = p; carry = changes p s v _ i _ z a b; tells = told_none t }

  opens : {m : Mode} (m₀ : Mode) → ((w : Bool) → Bears p i w m) → (sends (place_of m) ≡ true → (s.cell i).sending ≡ p) → OthersIn blank s.n s.cell i → Carries p Silent (remarked (marking_by m₀ Start) (Out Start m))
  opens {m} m₀ a b f = record {
    packet = p;
    carry = record {
      all = λ k h. at_upd≢ (λ k x. k < s.n → (w : Bool) → Bears p k w x.mode) s.cell i (puts_out Start m (s.cell i)) k (λ l. a) (λ o l w. nothing (f k l o)) h _;
      signal = tt;
      own = (changes p s v (Delivering i Start (first_other i)) i (puts_out Start m (s.cell i)) tt (a _) b).own;
    };
    tells = told_none refl;
  }

  -- a Start on a Busy bus: of the node whose turn it is, or of the only holder while the bus clears
  first_sent : BusyAt s.concatenated s.n s.cell → (s.cell i).mode ≡ Sending 0 → OthersIn blank s.n s.cell i
  first_sent (talks a) e = turn_in s.concatenated s.n s.cell i l (ap (λ m. active (place_of m)) e) (sending_at 0) (ap step_of e) blank a tt
  first_sent (clears a) e = absurd (not_clearing s.n s.cell a.steps i l (ap (λ m. mem (step_of m) clear_steps) e))

  first_acked : BusyAt s.concatenated s.n s.cell → (a : ℕ) (b : Bool) → (s.cell i).mode ≡ Acking 0 a b → others (holders s.cell) i s.n ≡ false → OthersIn blank s.n s.cell i
  first_acked (talks a) c b e only k h q =
      let o : i ≡ a.w = is_talker s.concatenated s.n s.cell a i l (ap (λ m. active (place_of m)) e) in
      absurd (no_turn s.concatenated s.n s.cell a (acking_at 0) tt (ap (λ k. step_of (s.cell k).mode) (sym o) ∙ ap step_of e))
  first_acked (clears a) c b e only k h q = mem-sub quiet blank refl (place_of (s.cell k).mode) (sole_quiet s re.marks a.steps i only k h q)

  puts_out_lem : {m₀ m : Mode} {g : Signal} {r : Report} → BusyAt s.concatenated s.n s.cell → others (holders s.cell) i s.n ≡ false → (s.cell i).mode ≡ m₀ → Puts i (s.cell i).sending m₀ g m r →
      Carries p r (remarked (marking_by m₀ g) (Out g m))
  puts_out_lem a o e x = go e x
    where
      mine : {k : ℕ} → (s.cell i).mode ≡ Sending k → (s.cell i).sending ≡ p
      mine e = v.own i l (ap (λ m. sends (place_of m)) e)

      for_me : {m : Mode} → mem (place_of m) answerers ≡ true → (s.cell i).mode ≡ m → p.to ≡ i
      for_me t e = answers_to (ap (λ m. mem (place_of m) answerers) e ∙ t) (v.all i l)

      go : {m₀ m : Mode} {g : Signal} {r : Report} → (s.cell i).mode ≡ m₀ → Puts i (s.cell i).sending m₀ g m r → Carries p r (remarked (marking_by m₀ g) (Out g m))
      go e start = opens (Sending 0) (λ w. nothing refl) (λ z. mine e) (first_sent a e)
      go e dhead = on tt refl (nothing refl) (λ z. mine e)
      go e dest = on (λ z. ap (λ q. q.to) (mine e)) refl (nothing refl) (λ z. mine e)
      go e header = on ((λ z. refl), ap (λ q. q.head) (mine e)) refl (nothing refl) (λ z. mine e)
      go e datum = on (ap (λ q. q.datum) (mine e)) refl (nothing refl) (λ z. mine e)
      go e (end_all k q) = on tt refl (nothing refl) (λ z. never z)
      go e (end_one k q) = on tt refl (nothing refl) (λ z. mine e)
      go e filler = on tt refl (answers refl (for_me refl e)) (λ z. never z)
      go e (ack_start {a = c} {h = b}) = opens (Acking 0 c b) (λ w. answers refl (for_me refl e)) (λ z. never z) (first_acked a c b e o)
      go e ack_body_lem = on tt refl (answers refl (for_me refl e)) (λ z. never z)
      go e (ack_hold {k = k} {a = c} h) = remarked_carries (marking_by (Acking k c true) Prefix) refl (on tt refl (nothing refl) (λ z. never z))
      go e (ack_end k) = on tt refl (nothing refl) (λ z. never z)
      go e holds_on = on tt refl (nothing refl) (λ z. never z)

  -- a grant makes a told node answer, and no other remember
  granted_bears : {w : Bool} {m : Mode} → Bears p i w m → Bears p i w (granted m)
  granted_bears {w} {m} b =
      pick_by (Bears p i w) (is_told m) _ _ (λ e. answers refl (answers_to (ap (λ c. mem c answerers) (eqb-true (place_of m) P.told e)) b)) λ e.
      pick (Bears p i w) (is_owed m) _ _ (nothing refl) b

  granted_sends : (m : Mode) → sends (place_of (granted m)) ≡ true → sends (place_of m) ≡ true
  granted_sends m =
      pick (λ x. sends (place_of x) ≡ true → sends (place_of m) ≡ true) (is_told m) _ _ (λ z. never z)
      (pick (λ x. sends (place_of x) ≡ true → sends (place_of m) ≡ true) (is_owed m) _ _ (λ z. never z) (λ z. z))

  -- a report that tells nothing; a cell that stays
  untold : {r : Report} {t : State} (q : Packet) → Carry q t → ltb (word_of r) W.good ≡ true → Carries p r t
  untold q c e = record { packet = q; carry = c; tells = told_none e }

  stays : (ph : Phase) → SaysAt p ph → Carry p (moved s ph i (s.cell i))
  stays ph z = changes p s v ph i (s.cell i) z (v.all i l) (v.own i l)

  -- every way leads to a state of which it holds again
  pub carries : {m : Move} {r : Report} {ph : Phase} {c : Cell} {x : Marking} → Effect s m i (does r ph c x) → Carries p r (remarked x (moved s ph i c))
  carries (waits e f) = untold p (changes p s v _ i _ v.signal (v.all i l) (v.own i l)) refl
  carries (replies {p = q} e) = let y = holding_past e s.phase re.stage in untold q (begins p s v _ i _ (y.1 q) refl y.0) refl
  carries (claims e f) = untold p (changes p s v _ i _ v.signal (nothing refl) (λ z. never z)) refl
  carries (wins {p = q} c z f w) =
      untold q (begins p s v _ i _ tt refl (λ k h o. mem-sub resting past refl (place_of (s.cell k).mode) ((subst (λ ph. Stage s.concatenated ph s.n s.cell) z re.stage).rests k h))) refl
  carries (loses c) = untold p (changes p s v _ i _ v.signal (nothing refl) (λ z. never z)) refl
  carries (gives e u) = untold p (changes p s v _ i _ v.signal (answers refl (answers_to (ap (λ m. mem (place_of m) answerers) e) (v.all i l))) (λ z. never z)) refl
  carries (puts z h o x) = puts_out_lem (subst (λ ph. Stage s.concatenated ph s.n s.cell) z re.stage) o refl x
  carries (frees z h e) = untold p (changes p s v _ i _ (pick (SaysAt p) (others (holders s.cell) i s.n) _ _ tt tt) (nothing refl) (λ z. never z)) refl
  carries (arrives {w = w} {g = g} {t = t} {b = b} z x) =
      let y : Says p false g = subst (SaysAt p) z v.signal in
      hear p s v _ i t _ b l (onward_says p s v s.n w g i _ y) (arrives_says p x y) refl refl refl
  carries (is_lost {w = w} {g = g} z e) = untold p (stays _ (onward_says p s v s.n w g i _ (subst (SaysAt p) z v.signal))) refl
  carries (grants z e f) =
      untold p (changes p s v _ i _ (pick (SaysAt p) (others (pendings s.cell) i s.n) _ _ tt tt) (granted_bears (v.all i l)) (λ q. v.own i l (granted_sends (s.cell i).mode q))) refl
  carries (grants_none z e) = untold p (stays Busy tt) refl
  carries (gaps z u) = hear p s v _ i Gap _ false l tt tt refl (sym (or_no (s.cell i).misled)) refl
  carries (settles z u) = remarked_carries marking_at_idle refl (hear p s v _ i Gap _ false l tt tt refl (sym (or_no (s.cell i).misled)) refl)
  carries (resets z) = remarked_carries M.Won refl (untold p (stays s.phase v.signal) refl)
