-- The one walk through the actions: the fifteen ways in which an accepted action acts. Every invariant is then proved by one clause for each way.
use Rattle.std.specs.Prelude.{None, Option, Some}
use mathlib.Core.Path.{◌≡◌, refl, sym, ap, ap₂, subst, ◌∙◌}
use mathlib.Core.Bool.{Bool, true, false, ◌&&◌, ◌||◌, not}
use Prim.Native.Nat.{ℕ, suc, ◌<◌, ◌≤◌}
use native.Mathlib.Omega.{arith}
use lib.Dec.{eqb, ltb, leb}
use borrow.Author.Tests.{eqb-true, eqb-false, ltb-true, ltb-false, not-true}
use Rattle.charts.specs.declared.Head.{Head}
use Rattle.charts.specs.declared.Mode.{Mode}
use Rattle.charts.specs.declared.Mode.TheVariants.{Rest, AwaitAck, AckBody, AckEnd, Opened, Addressed, HeadOwn, HeadAll, BodyOwn, BodyAll, TailOwn, TailAll, Wait, Owed, Sending, Told, Answering, Acking, Holding, Spurious, Listening, Asked}
use Rattle.charts.specs.declared.Signal.{Signal}
use Rattle.charts.specs.declared.Signal.TheVariants.{Start, End, Prefix, Gap, Dhead, Dest, Header, Data, Ack}
use Rattle.charts.specs.declared.Report.{Report}
use Rattle.charts.specs.declared.Report.TheVariants as R
use Rattle.charts.specs.declared.Packet.{Packet}
use Rattle.charts.specs.declared.Phase.{Phase}
use Rattle.charts.specs.declared.Phase.TheVariants.{Idle, Busy, Delivering, Granting, Gapping}
use Rattle.charts.specs.declared.Output.{Output}
use Rattle.charts.specs.declared.Output.TheVariants as O
use Rattle.charts.specs.declared.Arrival.{Arrival}
use Rattle.charts.specs.declared.Way.{Way}
use Rattle.charts.specs.declared.Way.TheVariants.{Pass, Lose, Change}
use Rattle.charts.specs.declared.Cell.{Cell}
use Rattle.charts.specs.declared.Marking.{Marking}
use Rattle.charts.specs.declared.Marking.TheVariants as M
use Rattle.charts.specs.declared.Move.{Move}
use Rattle.charts.specs.declared.Move.TheVariants.{Request, Arbitrate, Respond, Clock, Carry, Grant, GapNext, Reset, Ask, Decide}
use Rattle.charts.specs.Modes as P
use Rattle.charts.specs.Modes.{place_of, is_rest, is_holding, is_answering, is_asked}
use Rattle.charts.specs.Signals as S
use Rattle.charts.specs.Signals.{everybody, kind_of}
use Rattle.charts.specs.Reception.{hears}
use Rattle.charts.specs.Outputs as Outputs
use Rattle.charts.specs.Outputs.{output}
use Rattle.charts.specs.Arrivals as Arrivals
use Rattle.charts.specs.Arrivals.{passed}
use Rattle.charts.specs.State.{State, set_mode, set_pending, set_misled, wons, pendings, holders, some, others, lowest, is_idle, is_busy, is_granting, is_empty}
use Rattle.charts.specs.Actions as Actions
use Rattle.charts.specs.Actions.{Outcome, closed, does, quietly, when, fills, may_answer, answers, first_other, puts_out, marking_by, freed, after_free, receives, hearing, delivers, takes_grant, after_grant, takes_gap, marking_at_idle, next_of}
use Rattle.charts.specs.Step.{about, outcome_of}
use Rattle.charts.proofs.Tools.{never, implies, and-true, or_no, pick_by, mem}
use Rattle.charts.proofs.Places.{mode_is, law, resting}

-- what a holder puts out: its mode and packet, the signal, its next mode and its report
pub data Puts (i : ℕ) (p : Packet) : Mode → Signal → Mode → Report → Type 0 where
  start : Puts i p (Sending 0) Start (Sending 1) R.Silent
  dhead : Puts i p (Sending 1) Dhead (Sending 2) R.Silent
  dest : Puts i p (Sending 2) (Dest p.to) (Sending 3) R.Silent
  header : Puts i p (Sending 3) (Header p.head true) (Sending 4) R.Silent
  datum : Puts i p (Sending 4) (Data p.datum true) (Sending 5) R.Silent
  end_all : {k : ℕ} → 5 ≤ k → eqb p.to everybody ≡ true → Puts i p (Sending k) End Rest (R.Sent i p.head.label)
  end_one : {k : ℕ} → 5 ≤ k → eqb p.to everybody ≡ false → Puts i p (Sending k) End AwaitAck R.Silent
  filler : Puts i p Answering Prefix Answering R.Silent
  ack_start : {a : ℕ} {h : Bool} → Puts i p (Acking 0 a h) Start (Acking 1 a h) R.Silent
  ack_body_lem : {a : ℕ} {h : Bool} → Puts i p (Acking 1 a h) (Ack a true) (Acking 2 a h) R.Silent
  ack_hold : {k a : ℕ} → 2 ≤ k → Puts i p (Acking k a true) Prefix Holding R.Silent
  ack_end : {k a : ℕ} → 2 ≤ k → Puts i p (Acking k a false) End Rest R.Silent
  holds_on : Puts i p Holding Prefix Holding R.Silent

-- a fact about a signal that holds of a Header with any check holds of what a pass makes of it
pub passed_by : (P : Signal → Type 0) (misled : Bool) (g : Signal) → P g → ((h : Head) (c d : Bool) → g ≡ Header h c → P (Header h d)) → P (passed misled g)
passed_by P w Start x f = x
passed_by P w End x f = x
passed_by P w Prefix x f = x
passed_by P w Gap x f = x
passed_by P w Dhead x f = x
passed_by P w (Dest a) x f = x
passed_by P w (Header h c) x f = f h c _ refl
passed_by P w (Data d c) x f = x
passed_by P w (Ack a c) x f = x

-- how a signal arrives at a node with its misled mark, by which way, and whether that misleads it
pub data Arrives (misled : Bool) : Way → Signal → Signal → Bool → Type 0 where
  passes : {g : Signal} → Arrives misled Pass g (passed misled g) false
  redirects : {a b : ℕ} → eqb a b ≡ false → Arrives misled (Change b) (Dest a) (Dest b) true
  bad_header : {b : ℕ} {h : Head} {c : Bool} → Arrives misled (Change b) (Header h c) (Header h false) false
  bad_data : {b d : ℕ} {c : Bool} → Arrives misled (Change b) (Data d c) (Data d false) false
  bad_ack : {b a : ℕ} {c : Bool} → Arrives misled (Change b) (Ack a c) (Ack a false) false

-- a Gap enters nobody as pending and misleads nobody: it changes the node's mode alone
abbrev pub after_gap : ℕ → Cell → Cell
after_gap j c = set_mode (receives hears j c Gap).mode c

gap_takes : (j : ℕ) (c : Cell) → takes_gap hears j c ≡ after_gap j c
gap_takes j c =
    ap₂ (λ p q. set_mode (receives hears j c Gap).mode (set_pending p (set_misled q c)))
    (ap (λ b. c.pending || b) (not-true _ (law (λ y p k. implies (eqb k S.gap) (not y.pends)) tt j _ c.mode Gap)) ∙ or_no c.pending)
    (or_no c.misled)

-- node i contends for the bus: by kind 2 from Rest, by kind 12 from Asked
pub data Contends (s : State) (i : ℕ) : Move → Type 0 where
  at_once : place_of (s.cell i).mode ≡ P.rest → Contends s i (Arbitrate i)
  asked : place_of (s.cell i).mode ≡ P.asked → Contends s i (Decide i)

pub contends_rests : {s : State} {i : ℕ} {m : Move} → Contends s i m → mem (place_of (s.cell i).mode) resting ≡ true
contends_rests (at_once e) = ap (λ p. mem p resting) e
contends_rests (asked e) = ap (λ p. mem p resting) e

-- an action m about node i comes to o, in one of sixteen ways (or it is not open)
pub data Effect (s : State) : Move → ℕ → Outcome → Type 0 where
  refuses : {m : Move} {i : ℕ} → Effect s m i closed
  waits : {i : ℕ} {p : Packet} → place_of (s.cell i).mode ≡ P.rest → (s.cell i).buffer ≡ None → Effect s (Request i p) i (quietly s.phase (fills p (s.cell i)))
  replies : {i : ℕ} {p : Packet} → (s.cell i).mode ≡ Holding → Effect s (Request i p) i (quietly s.phase (Actions.replies p (s.cell i)))
  claims : {i : ℕ} → place_of (s.cell i).mode ≡ P.rest → is_empty (s.cell i).buffer ≡ false → Effect s (Ask i) i (quietly s.phase (Actions.asks (s.cell i)))
  wins : {m : Move} {i : ℕ} {p : Packet} → Contends s i m → s.phase ≡ Idle → (s.cell i).buffer ≡ Some p → (s.cell i).won ≡ false →
      Effect s m i (does (R.Won i) Busy (Actions.wins p (s.cell i)) M.Nothing)
  loses : {m : Move} {i : ℕ} → Contends s i m → Effect s m i (does (R.Lost i) s.phase (Actions.loses (s.cell i)) M.Nothing)
  gives : {i a : ℕ} {h : Bool} → (s.cell i).mode ≡ Answering → may_answer s.concatenated h ≡ true → Effect s (Respond i a h) i (quietly s.phase (answers a h (s.cell i)))
  puts : {i : ℕ} {g : Signal} {m : Mode} {r : Report} → s.phase ≡ Busy → (s.cell i).holder ≡ true → others (holders s.cell) i s.n ≡ false → Puts i (s.cell i).sending (s.cell i).mode g m r →
      Effect s (Clock i) i (does r (Delivering i g (first_other i)) (puts_out g m (s.cell i)) (marking_by (s.cell i).mode g))
  frees : {i : ℕ} → s.phase ≡ Busy → (s.cell i).holder ≡ true → (s.cell i).mode ≡ Spurious →
      Effect s (Clock i) i (quietly (after_free s.n i (holders s.cell)) (freed (s.cell i)))
  arrives : {v : Way} {w : ℕ} {g : Signal} {j : ℕ} {t : Signal} {b : Bool} → s.phase ≡ Delivering w g j → Arrives (s.cell j).misled v g t b →
      Effect s (Carry v) j (delivers s.n w g j (pendings s.cell) (receives hears j (s.cell j) t).report (hearing (s.cell j) (receives hears j (s.cell j) t) b))
  is_lost : {w : ℕ} {g : Signal} {j : ℕ} → s.phase ≡ Delivering w g j → leb 6 (kind_of g) ≡ true → Effect s (Carry Lose) j (delivers s.n w g j (pendings s.cell) R.Silent (s.cell j))
  grants : {i : ℕ} → s.phase ≡ Granting → some (pendings s.cell) s.n ≡ true → lowest (pendings s.cell) s.n 0 ≡ i →
      Effect s Grant i (quietly (after_grant s.n i (pendings s.cell)) (takes_grant (s.cell i)))
  grants_none : {i : ℕ} → s.phase ≡ Granting → some (pendings s.cell) s.n ≡ false → Effect s Grant i (quietly Busy (s.cell i))
  gaps : {j : ℕ} → s.phase ≡ Gapping j → suc j < s.n →
      Effect s GapNext j (does (receives hears j (s.cell j) Gap).report (Gapping (suc j)) (after_gap j (s.cell j)) M.Nothing)
  settles : {j : ℕ} → s.phase ≡ Gapping j → s.n ≤ suc j →
      Effect s GapNext j (does (receives hears j (s.cell j) Gap).report Idle (after_gap j (s.cell j)) marking_at_idle)
  resets : {i : ℕ} → s.phase ≡ Idle → Effect s Reset i (does R.Silent s.phase (s.cell i) M.Won)

pub is_idle_lem : (p : Phase) → is_idle p ≡ true → p ≡ Idle
is_idle_lem Idle e = refl
is_idle_lem Busy e = never e
is_idle_lem (Delivering w g j) e = never e
is_idle_lem Granting e = never e
is_idle_lem (Gapping j) e = never e

pub is_busy_lem : (p : Phase) → is_busy p ≡ true → p ≡ Busy
is_busy_lem Idle e = never e
is_busy_lem Busy e = refl
is_busy_lem (Delivering w g j) e = never e
is_busy_lem Granting e = never e
is_busy_lem (Gapping j) e = never e

is_granting_lem : (p : Phase) → is_granting p ≡ true → p ≡ Granting
is_granting_lem Idle e = never e
is_granting_lem Busy e = never e
is_granting_lem (Delivering w g j) e = never e
is_granting_lem Granting e = refl
is_granting_lem (Gapping j) e = never e

is_empty_lem : (b : Option Packet) → is_empty b ≡ true → b ≡ None
is_empty_lem None e = refl
is_empty_lem (Some p) e = never e

module _ (s : State) where
  when_effect : (m : Move) (i : ℕ) (b : Bool) (o : Outcome) → (b ≡ true → Effect s m i o) → Effect s m i (when b o)
  when_effect m i true o h = h refl
  when_effect m i false o h = refuses

  request : (i : ℕ) (p : Packet) → Effect s (Request i p) i (Actions.request s.phase (s.cell i) p)
  unfolding Actions.request
  request i p =
      pick_by (Effect s (Request i p) i) (is_rest (s.cell i).mode && is_empty (s.cell i).buffer) _ _
      (λ e. let y = and-true (is_rest (s.cell i).mode) _ e in waits (eqb-true _ _ y.0) (is_empty_lem (s.cell i).buffer y.1))
      (λ e. when_effect _ _ (is_holding (s.cell i).mode) _ λ z. replies (mode_is (s.cell i).mode P.holding (eqb-true _ _ z)))

  contend : (m : Move) (i : ℕ) → Contends s i m → (b : Option Packet) → (s.cell i).buffer ≡ b → Effect s m i (Actions.decided s.phase i (s.cell i) b)
  contend m i c None u = refuses
  contend m i c (Some p) u =
      pick_by (Effect s m i) (is_idle s.phase && not (s.cell i).won) _ _
      (λ e. let y = and-true (is_idle s.phase) _ e in wins c (is_idle_lem s.phase y.0) u (not-true _ y.1)) (λ e. loses c)

  module _ (i : ℕ) (busy : s.phase ≡ Busy) where
    abbrev Clocks : Output → Type 0
    Clocks o = Effect s (Clock i) i (Actions.clock_with s.n i (s.cell i) (holders s.cell) o)

    out : (m : Mode) (g : Signal) (m' : Mode) (r : Report) → (s.cell i).mode ≡ m → Puts i (s.cell i).sending m g m' r → Clocks (O.Puts g m' r)
    out m g m' r e x = when_effect _ _ ((s.cell i).holder && not (others (holders s.cell) i s.n)) _ λ o.
        let y = and-true (s.cell i).holder _ o in puts busy y.0 (not-true _ y.1) (subst (λ m. Puts i (s.cell i).sending m g m' r) (sym e) x)

    -- step k of Sending is the number z
    at_step : (k z : ℕ) (g : Signal) (m' : Mode) → eqb k z ≡ true → (s.cell i).mode ≡ Sending k → Puts i (s.cell i).sending (Sending z) g m' R.Silent → Clocks (O.Puts g m' R.Silent)
    at_step k z g m' q e x = out (Sending z) g m' R.Silent (e ∙ ap Sending (eqb-true k z q)) x

    sends : (k : ℕ) → (s.cell i).mode ≡ Sending k → Clocks (Outputs.sends i k (s.cell i).sending)
    sends k e =
        pick_by Clocks (eqb k 0) _ _ (λ q. at_step k 0 _ _ q e start) λ k0.
        pick_by Clocks (eqb k 1) _ _ (λ q. at_step k 1 _ _ q e dhead) λ k1.
        pick_by Clocks (eqb k 2) _ _ (λ q. at_step k 2 _ _ q e dest) λ k2.
        pick_by Clocks (eqb k 3) _ _ (λ q. at_step k 3 _ _ q e header) λ k3.
        pick_by Clocks (eqb k 4) _ _ (λ q. at_step k 4 _ _ q e datum) λ k4.
        let l : 5 ≤ k = omega (arith, eqb-false k 0 k0, eqb-false k 1 k1, eqb-false k 2 k2, eqb-false k 3 k3, eqb-false k 4 k4) in
        pick_by Clocks (eqb (s.cell i).sending.to everybody) _ _ (λ q. out _ End Rest (R.Sent i (s.cell i).sending.head.label) e (end_all l q)) (λ q. out _ End AwaitAck R.Silent e (end_one l q))

    acks : (k a : ℕ) (h : Bool) → (s.cell i).mode ≡ Acking k a h → Clocks (Outputs.acks k a h)
    acks k a h e =
        pick_by Clocks (eqb k 0) _ _ (λ q. out _ _ _ _ (e ∙ ap (λ k. Acking k a h) (eqb-true k 0 q)) ack_start) λ k0.
        pick_by Clocks (eqb k 1) _ _ (λ q. out _ _ _ _ (e ∙ ap (λ k. Acking k a h) (eqb-true k 1 q)) ack_body_lem) λ k1.
        let l : 2 ≤ k = omega (arith, eqb-false k 0 k0, eqb-false k 1 k1) in
        pick_by Clocks h _ _ (λ q. out _ _ _ _ (e ∙ ap (Acking k a) q) (ack_hold l)) (λ q. out _ _ _ _ (e ∙ ap (Acking k a) q) (ack_end l))

    clocked : (m : Mode) → (s.cell i).mode ≡ m → Clocks (output i m (s.cell i).sending)
    unfolding output
    clocked Rest e = refuses
    clocked AwaitAck e = refuses
    clocked AckBody e = refuses
    clocked (AckEnd x) e = refuses
    clocked Opened e = refuses
    clocked Addressed e = refuses
    clocked HeadOwn e = refuses
    clocked HeadAll e = refuses
    clocked (BodyOwn h) e = refuses
    clocked (BodyAll h) e = refuses
    clocked (TailOwn h d) e = refuses
    clocked (TailAll h d) e = refuses
    clocked Wait e = refuses
    clocked Owed e = refuses
    clocked (Sending k) e = sends k e
    clocked Told e = refuses
    clocked Answering e = out _ _ _ _ e filler
    clocked (Acking k a b) e = acks k a b e
    clocked Holding e = out _ _ _ _ e holds_on
    clocked Spurious e = when_effect _ _ (s.cell i).holder _ λ o. frees busy o e
    clocked Listening e = refuses
    clocked Asked e = refuses

  clock : (i : ℕ) → Effect s (Clock i) i (Actions.clock s.n s.phase i (s.cell i) (holders s.cell))
  unfolding Actions.clock
  clock i = when_effect _ _ (is_busy s.phase) _ λ b. clocked i (is_busy_lem s.phase b) (s.cell i).mode refl

  -- a signal on its way to node j
  abbrev Delivers : ℕ → Signal → ℕ → Way → Arrival → Type 0
  Delivers w g j v x = Effect s (Carry v) j (Actions.deliver_with hears s.n w g j (s.cell j) (pendings s.cell) x)

  lost : (w : ℕ) (g : Signal) (j : ℕ) → s.phase ≡ Delivering w g j → Delivers w g j Lose (Arrivals.lost g)
  lost w Start j q = refuses
  lost w End j q = refuses
  lost w Prefix j q = refuses
  lost w Gap j q = refuses
  lost w Dhead j q = refuses
  lost w (Dest a) j q = refuses
  lost w (Header h c) j q = is_lost q refl
  lost w (Data d c) j q = is_lost q refl
  lost w (Ack a c) j q = is_lost q refl

  changed : (b w : ℕ) (g : Signal) (j : ℕ) → s.phase ≡ Delivering w g j → Delivers w g j (Change b) (Arrivals.changed b g)
  changed b w Start j q = refuses
  changed b w End j q = refuses
  changed b w Prefix j q = refuses
  changed b w Gap j q = refuses
  changed b w Dhead j q = refuses
  changed b w (Dest a) j q = pick_by (Delivers w (Dest a) j (Change b)) (eqb a b) _ _ (λ e. refuses) (λ e. arrives q (redirects e))
  changed b w (Header h c) j q = pick_by (Delivers w (Header h c) j (Change b)) (eqb b 0) _ _ (λ e. arrives q bad_header) (λ e. refuses)
  changed b w (Data d c) j q = pick_by (Delivers w (Data d c) j (Change b)) (eqb b 0) _ _ (λ e. arrives q bad_data) (λ e. refuses)
  changed b w (Ack a c) j q = pick_by (Delivers w (Ack a c) j (Change b)) (eqb b 0) _ _ (λ e. arrives q bad_ack) (λ e. refuses)

  delivered : (v : Way) (w : ℕ) (g : Signal) (j : ℕ) → s.phase ≡ Delivering w g j → Delivers w g j v (Arrivals.arrives v (s.cell j).misled g)
  unfolding Arrivals.arrives
  delivered Pass w g j q = arrives q passes
  delivered Lose w g j q = lost w g j q
  delivered (Change b) w g j q = changed b w g j q

  carry : (v : Way) (p : Phase) → s.phase ≡ p → Effect s (Carry v) (next_of p) (Actions.carry hears s.n p (s.cell (next_of p)) (pendings s.cell) v)
  unfolding Actions.carry
  carry v Idle q = refuses
  carry v Busy q = refuses
  carry v (Delivering w g j) q = delivered v w g j q
  carry v Granting q = refuses
  carry v (Gapping j) q = refuses

  grant : (i : ℕ) → lowest (pendings s.cell) s.n 0 ≡ i → Effect s Grant i (Actions.grant s.n s.phase i (s.cell i) (pendings s.cell))
  unfolding Actions.grant
  grant i l = when_effect _ _ (is_granting s.phase) _ λ g. let q = is_granting_lem s.phase g in
      pick_by (Effect s Grant i) (some (pendings s.cell) s.n) _ _ (λ e. grants q e l) (λ e. grants_none q e)

  gap : (p : Phase) → s.phase ≡ p → Effect s GapNext (next_of p) (Actions.gap hears s.n p (s.cell (next_of p)))
  unfolding Actions.gap
  gap Idle q = refuses
  gap Busy q = refuses
  gap (Delivering w g j) q = refuses
  gap Granting q = refuses
  gap (Gapping j) q =
      let got : (p : Phase) (x : Marking) → Effect s GapNext j (does (receives hears j (s.cell j) Gap).report p (after_gap j (s.cell j)) x) → Effect s GapNext j (Actions.gaps_to hears p x j (s.cell j))
      = λ p x. subst (λ c. Effect s GapNext j (does (receives hears j (s.cell j) Gap).report p c x)) (sym (gap_takes j (s.cell j))) in
      pick_by (Effect s GapNext j) (ltb (suc j) s.n) _ _
      (λ e. got (Gapping (suc j)) M.Nothing (gaps q (ltb-true (suc j) s.n e))) (λ e. got Idle marking_at_idle (settles q (ltb-false (suc j) s.n e)))

  reset : Effect s Reset 0 (Actions.reset s.n s.phase (s.cell 0) (wons s.cell))
  unfolding Actions.reset
  reset = when_effect _ _ (is_idle s.phase && some (wons s.cell) s.n) _ λ e. resets (is_idle_lem s.phase (and-true (is_idle s.phase) _ e).0)

  ask : (i : ℕ) → Effect s (Ask i) i (Actions.ask s.phase (s.cell i))
  unfolding Actions.ask
  ask i = when_effect _ _ (is_rest (s.cell i).mode && not (is_empty (s.cell i).buffer)) _ λ e.
      let y = and-true (is_rest (s.cell i).mode) _ e in claims (eqb-true _ _ y.0) (not-true _ y.1)

  -- every action acts in one of these ways
  pub effect : (m : Move) → Effect s m (about s m) (outcome_of s m)
  unfolding Actions.outcome Actions.arbitrate Actions.respond Actions.decide
  effect (Request i p) = request i p
  effect (Arbitrate i) = when_effect _ _ (is_rest (s.cell i).mode) _ λ e. contend (Arbitrate i) i (at_once (eqb-true _ _ e)) (s.cell i).buffer refl
  effect (Respond i a h) = when_effect _ _ (is_answering (s.cell i).mode && may_answer s.concatenated h) _ λ e.
      let y = and-true (is_answering (s.cell i).mode) _ e in gives (mode_is (s.cell i).mode P.answering (eqb-true _ _ y.0)) y.1
  effect (Clock i) = clock i
  effect (Carry v) = carry v s.phase refl
  effect Grant = grant (lowest (pendings s.cell) s.n 0) refl
  effect GapNext = gap s.phase refl
  effect Reset = reset
  effect (Ask i) = ask i
  effect (Decide i) = when_effect _ _ (is_asked (s.cell i).mode) _ λ e. contend (Decide i) i (asked (eqb-true _ _ e)) (s.cell i).buffer refl
