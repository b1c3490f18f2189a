-- Request 8: the action that a trial chooses, by the rule that chose it; after waiting it is open, and an arbitration wins.
use Rattle.std.specs.Prelude.{None, Ok, Option, Some}
use Rattle.charts.specs.declared.Packet.{Packet}
use mathlib.Core.Path.{◌≡◌, refl, sym, ap, subst, ◌∙◌}
use mathlib.Core.Logic.{⊎_elim}
use mathlib.Core.Bool.{Bool, true, false, cond, ◌&&◌, ◌||◌, not}
use Prim.Native.Nat.{ℕ, zero, suc, ◌<◌, ◌≤◌, ◌-◌, ◌%◌}
use native.Mathlib.Omega.{arith}
use lib.Dec.{eqb, ltb}
use borrow.Author.Tests.{eqb-true, eq-eqb, lt-ltb, ltb-true, ltb-false, not-true}
use Rattle.charts.specs.declared.Signal.{Signal}
use Rattle.charts.specs.declared.Signal.TheVariants as S
use Rattle.charts.specs.declared.Phase.{Phase}
use Rattle.charts.specs.declared.Phase.TheVariants.{Idle, Busy, Delivering, Granting, Gapping}
use Rattle.charts.specs.declared.Report.TheVariants as R
use Rattle.charts.specs.declared.Report.TheVariants.{Won}
use Rattle.charts.specs.declared.Marking.TheVariants as M
use Rattle.charts.specs.declared.Arrival.{Arrival}
use Rattle.charts.specs.declared.Arrival.TheVariants as A
use Rattle.charts.specs.declared.Way.TheVariants.{Pass, Lose}
use Rattle.charts.specs.declared.Move.TheVariants.{Request, Arbitrate, Respond, Clock, Carry, Grant, GapNext, Reset}
use Rattle.charts.specs.declared.Action.{Action}
use Rattle.charts.specs.declared.User.{User}
use Rattle.charts.specs.declared.Kept.{Kept}
use Rattle.charts.specs.Modes as P
use Rattle.charts.specs.Modes.{place_of, is_rest, is_answering, is_holding, is_spurious}
use Rattle.charts.specs.Signals.{is_checked}
use Rattle.charts.specs.Reception.{hears}
use Rattle.charts.specs.Arrivals as Arrivals
use Rattle.charts.specs.State.{State, wons, pendings, holders, some, others, lowest, is_idle, is_busy, is_granting, is_empty}
use Rattle.charts.specs.Actions as Actions
use Rattle.charts.specs.Actions.{Outcome, closed, does, when}
use Rattle.charts.specs.Records.{is_address, is_own, move_of, read, clean, packet_of}
use Rattle.charts.specs.Valid.{valid}
use Rattle.charts.specs.Step.{some_asked, carry_out, is_accepted, step}
use Rattle.charts.specs.Asking.{of_node}
use Rattle.charts.specs.Demand.{is_open}
use Rattle.charts.specs.Trials.{Load, request_by, respond_by, is_due, delivers, strays, holder_of, holds_now, acts, asking, bidding, asker, starts, chooses, choice, only_waits, least, lefts, waits, waited, Sends}
use Rattle.charts.specs.Settings.{HoldsAlone, HeldIfBusy}
use Rattle.charts.proofs.Tools.{never, clash, implies, implied, and-true, both, or-true, and_no, pick, pick_by, by_test, below_suc, none_of, some_at, some_agree, lowest_none, lowest_of, lowest_lt, others_off, or_yes}
use Rattle.charts.proofs.Places.{law_mode, active}
use Rattle.charts.proofs.Open.{Opens, opens, open_when, open_now, step_is, opens_it, read_named, clock_opens}

-- 1. the rules, one by one
pub data Chosen (us : ℕ → User) (l : Load) : Action → Type 0 where
  carries : {i : ℕ} {g : Signal} {j : ℕ} → l.state.phase ≡ Delivering i g j → Chosen us l (delivers g (us j) (l.kept j))
  grants : l.state.phase ≡ Granting → Chosen us l (of_node 8 0)
  gaps : {j : ℕ} → l.state.phase ≡ Gapping j → Chosen us l (of_node 9 0)
  answers : l.state.phase ≡ Busy → is_answering (l.state.cell (holder_of l.state)).mode ≡ true → (l.kept (holder_of l.state)).filled ≡ (us (holder_of l.state)).fillers →
      Chosen us l (respond_by (holder_of l.state) (holds_now (us (holder_of l.state)) l.state.concatenated))
  replies : l.state.phase ≡ Busy → is_holding (l.state.cell (holder_of l.state)).mode ≡ true → Chosen us l (request_by (holder_of l.state) (us (holder_of l.state)) (l.kept (holder_of l.state)))
  clocks : l.state.phase ≡ Busy → is_answering (l.state.cell (holder_of l.state)).mode && eqb (l.kept (holder_of l.state)).filled (us (holder_of l.state)).fillers ≡ false →
      is_holding (l.state.cell (holder_of l.state)).mode ≡ false → Chosen us l (of_node 4 (holder_of l.state))
  asks : l.state.phase ≡ Idle → some (asking l) l.state.n ≡ true → Chosen us l (request_by (asker l) (us (asker l)) (l.kept (asker l)))
  bids : l.state.phase ≡ Idle → some (asking l) l.state.n ≡ false → some (bidding l.state) l.state.n ≡ true → Chosen us l (of_node 2 (lowest (bidding l.state) l.state.n 0))
  resets : l.state.phase ≡ Idle → some (asking l) l.state.n ≡ false → some (bidding l.state) l.state.n ≡ false → Chosen us l (of_node 10 0)

pub chosen_by : (us : ℕ → User) (l : Load) → Chosen us l (choice us l)
unfolding choice acts starts
chosen_by us l = go l.state.phase refl
  where
    h : ℕ
    h = holder_of l.state

    go : (p : Phase) → l.state.phase ≡ p → Chosen us l (chooses us l p)
    go Idle e =
        pick_by (Chosen us l) (some (asking l) l.state.n) _ _ (asks e) λ f.
        pick_by (Chosen us l) (some (bidding l.state) l.state.n) _ _ (bids e f) (resets e f)
    go Busy e =
        pick_by (Chosen us l) (is_answering (l.state.cell h).mode && eqb (l.kept h).filled (us h).fillers) _ _
        (λ f. let y = and-true (is_answering (l.state.cell h).mode) _ f in answers e y.0 (eqb-true _ _ y.1)) λ f.
        pick_by (Chosen us l) (is_holding (l.state.cell h).mode) _ _ (replies e) (clocks e f)
    go (Delivering i g j) e = carries e
    go Granting e = grants e
    go (Gapping j) e = gaps e

-- 2. the holder that acts on a Busy bus
lowest_only : (f : ℕ → Bool) (n i : ℕ) → i < n → f i ≡ true → others f i n ≡ false → lowest f n 0 ≡ i
lowest_only f n i l e o = by_test (eqb k i) (eqb-true k i) (λ q. clash _ (lowest_of f n 0 t) (others_off f n i o k (lowest_lt f n 0 t) (λ z. clash (eqb k i) (eq-eqb k i z) q)))
  where
    t : some f n ≡ true
    t = some_at f n i l e

    k : ℕ
    k = lowest f n 0

-- what is known of a state that a run without kind 11 reaches
pub record Ran (s : State) : Type 0 where
  pub valid_is : valid s ≡ true
  pub two : 2 ≤ s.n
  pub unasked : some_asked s ≡ false
  pub rests : is_idle s.phase ≡ true → (i : ℕ) → i < s.n → is_rest (s.cell i).mode ≡ true
  pub held : HeldIfBusy s

record Acts (s : State) (i : ℕ) : Type 0 where
  here : i < s.n
  holds : (s.cell i).holder ≡ true
  sole : is_spurious (s.cell i).mode ≡ false → others (holders s.cell) i s.n ≡ false
  active : active (place_of (s.cell i).mode) ≡ true

acts_one : (s : State) → Ran s → s.phase ≡ Busy → Acts s (holder_of s)
unfolding holder_of
acts_one s r b = by_test (some (strays s) s.n) stray (λ q. ⊎_elim (λ z. clash _ z q) (alone q) (r.held (ap is_busy b)))
  where
    first : ℕ
    first = lowest (holders s.cell) s.n 0

    stray : some (strays s) s.n ≡ true → Acts s (lowest (strays s) s.n first)
    stray q =
        let i = lowest (strays s) s.n first in
        let z = and-true (s.cell i).holder _ (lowest_of (strays s) s.n first q) in
        record { here = lowest_lt (strays s) s.n first q; holds = z.0; sole = λ x. clash _ z.1 x; active = ap active (eqb-true (place_of (s.cell i).mode) P.spurious z.1) }

    alone : some (strays s) s.n ≡ false → HoldsAlone s → Acts s (lowest (strays s) s.n first)
    alone q h = subst (Acts s) (sym (lowest_none (strays s) s.n first q ∙ lowest_only (holders s.cell) s.n h.node h.here h.holds h.alone))
        (record { here = h.here; holds = h.holds; sole = λ x. h.alone; active = implied _ _ (law_mode (λ p. implies (eqb p P.sending || (eqb p P.answering || (eqb p P.acking || eqb p P.holding))) (active p)) tt (s.cell h.node).mode) h.mode })

pub holder_lt : (s : State) → Ran s → s.phase ≡ Busy → holder_of s < s.n
holder_lt s r b = (acts_one s r b).here

-- 3. each is open
read_request : (n i : ℕ) (u : User) (x : Kept) → i < n → is_address n u.address ≡ true → is_own i u.address ≡ false → read n (request_by i u x) ≡ Ok (Request i (packet_of (request_by i u x)))
unfolding read clean move_of
read_request n i u x l f g = rw (lt-ltb i n l, f, g, lt-ltb (x.made % 64) 64 (omega arith))

read_respond : (n i : ℕ) (b : Bool) → i < n → read n (respond_by i b) ≡ Ok (Respond i 1 b)
unfolding read clean move_of
read_respond n i true l = rw (lt-ltb i n l)
read_respond n i false l = rw (lt-ltb i n l)

lost_arrives : (g : Signal) → is_checked g ≡ true → (P : Arrival → Type 0) → P A.Lost → P (Arrivals.lost g)
lost_arrives S.Start e P x = never e
lost_arrives S.End e P x = never e
lost_arrives S.Prefix e P x = never e
lost_arrives S.Gap e P x = never e
lost_arrives S.Dhead e P x = never e
lost_arrives (S.Dest a) e P x = never e
lost_arrives (S.Header h b) e P x = x
lost_arrives (S.Data d b) e P x = x
lost_arrives (S.Ack a b) e P x = x

module _ (s : State) (r : Ran s) where
  pass_opens : {i : ℕ} {g : Signal} {j : ℕ} → s.phase ≡ Delivering i g j → is_open s (of_node 5 0) ≡ true
  unfolding read clean move_of Actions.outcome Actions.carry Arrivals.arrives
  pass_opens q = opens_it s r.valid_is (of_node 5 0) (Carry Pass) refl (open_now s r.valid_is r.unasked _ (subst (λ p. Opens (Actions.carry hears s.n p (s.cell (Actions.next_of p)) (pendings s.cell) Pass)) (sym q) opens))

  lose_opens : {i : ℕ} {g : Signal} {j : ℕ} → s.phase ≡ Delivering i g j → is_checked g ≡ true → is_open s (of_node 6 0) ≡ true
  unfolding read clean move_of Actions.outcome Actions.carry Arrivals.arrives
  lose_opens {i} {g} {j} q e = opens_it s r.valid_is (of_node 6 0) (Carry Lose) refl (open_now s r.valid_is r.unasked _ (subst (λ p. Opens (Actions.carry hears s.n p (s.cell (Actions.next_of p)) (pendings s.cell) Lose)) (sym q)
      (lost_arrives g e (λ x. Opens (Actions.deliver_with hears s.n i g j (s.cell j) (pendings s.cell) x)) opens)))

  grant_opens : s.phase ≡ Granting → is_open s (of_node 8 0) ≡ true
  unfolding read clean move_of Actions.outcome Actions.grant
  grant_opens q = opens_it s r.valid_is (of_node 8 0) Grant refl (open_now s r.valid_is r.unasked _ (open_when (is_granting s.phase) _ (ap is_granting q) (pick Opens (some (pendings s.cell) s.n) _ _ opens opens)))

  gap_opens : {j : ℕ} → s.phase ≡ Gapping j → is_open s (of_node 9 0) ≡ true
  unfolding read clean move_of Actions.outcome Actions.gap
  gap_opens {j} q = opens_it s r.valid_is (of_node 9 0) GapNext refl (open_now s r.valid_is r.unasked _ (subst (λ p. Opens (Actions.gap hears s.n p (s.cell (Actions.next_of p)))) (sym q) (pick Opens (ltb (suc j) s.n) _ _ opens opens)))

  -- a respond is open in Answering, "with hold 1 while the mark is clear"
  pub respond_open : (i : ℕ) (b : Bool) → i < s.n → is_open s (respond_by i b) ≡ (is_answering (s.cell i).mode && Actions.may_answer s.concatenated b)
  unfolding Actions.outcome Actions.respond
  respond_open i b l = ap is_accepted (step_is s r.valid_is (respond_by i b) (Respond i 1 b) (read_respond s.n i b l)) ∙ go (is_answering (s.cell i).mode && Actions.may_answer s.concatenated b)
    where
      go : (q : Bool) → is_accepted (carry_out s i (when q (Actions.quietly s.phase (Actions.answers 1 b (s.cell i))))) ≡ q
      go true = refl
      go false = refl

  request_opens : (i : ℕ) (u : User) (x : Kept) → i < s.n → (is_address s.n u.address ≡ true) × (is_own i u.address ≡ false) → (is_rest (s.cell i).mode && is_empty (s.cell i).buffer) || is_holding (s.cell i).mode ≡ true → is_open s (request_by i u x) ≡ true
  unfolding Actions.outcome Actions.request
  request_opens i u x l f e = opens_it s r.valid_is (request_by i u x) (Request i (packet_of (request_by i u x))) (read_request s.n i u x l f.0 f.1)
      (pick_by Opens (is_rest (s.cell i).mode && is_empty (s.cell i).buffer) _ _ (λ q. opens) (λ q. open_when (is_holding (s.cell i).mode) _ (or-true _ _ e q) opens))

  -- an arbitration in Rest with a full buffer and no won mark wins the Idle bus
  pub bid_wins : (i : ℕ) → i < s.n → s.phase ≡ Idle → is_rest (s.cell i).mode ≡ true → bidding s i ≡ true → (is_open s (of_node 2 i) ≡ true) × ((step s (of_node 2 i)).report ≡ Won i)
  unfolding move_of Actions.outcome Actions.arbitrate
  bid_wins i l q e f = (ap is_accepted is ∙ (go (s.cell i).buffer y.0 (s.cell i).won y.1).0, ap (λ x. x.report) is ∙ (go (s.cell i).buffer y.0 (s.cell i).won y.1).1)
    where
      y : (not (is_empty (s.cell i).buffer) ≡ true) × (not (s.cell i).won ≡ true)
      y = and-true (not (is_empty (s.cell i).buffer)) _ f

      o : Option Packet → Bool → Outcome
      o None w = closed
      o (Some p) w = cond (true && not w) (does (Won i) Busy (Actions.wins p (s.cell i)) M.Nothing) (does (R.Lost i) Idle (Actions.loses (s.cell i)) M.Nothing)

      same : (b : Option Packet) → Actions.decided s.phase i (s.cell i) b ≡ o b (s.cell i).won
      same None = refl
      same (Some p) = ap (λ ph. cond (is_idle ph && not (s.cell i).won) (does (Won i) Busy (Actions.wins p (s.cell i)) M.Nothing) (does (R.Lost i) ph (Actions.loses (s.cell i)) M.Nothing)) q

      is : step s (of_node 2 i) ≡ carry_out s i (o (s.cell i).buffer (s.cell i).won)
      is = step_is s r.valid_is (of_node 2 i) (Arbitrate i) (read_named s.n 2 i refl refl refl l) ∙ ap (λ b. carry_out s i (when b (Actions.decided s.phase i (s.cell i) (s.cell i).buffer))) e ∙ ap (carry_out s i) (same (s.cell i).buffer)

      go : (b : Option Packet) → not (is_empty b) ≡ true → (w : Bool) → not w ≡ true → (is_accepted (carry_out s i (o b w)) ≡ true) × ((carry_out s i (o b w)).report ≡ Won i)
      go None e w g = never e
      go (Some p) e true g = never g
      go (Some p) e false g = (refl, refl)

  clock_opens_here : (i : ℕ) → Acts s i → s.phase ≡ Busy → is_open s (of_node 4 i) ≡ true
  unfolding move_of Actions.outcome Actions.clock
  clock_opens_here i a b = opens_it s r.valid_is (of_node 4 i) (Clock i) (read_named s.n 4 i refl refl refl a.here)
      (open_now s r.valid_is r.unasked _ (open_when (is_busy s.phase) _ (ap is_busy b) (clock_opens s r.valid_is i a.here a.holds a.sole a.active)))

  reset_opens : s.phase ≡ Idle → some (wons s.cell) s.n ≡ true → is_open s (of_node 10 0) ≡ true
  unfolding read clean move_of Actions.outcome Actions.reset
  reset_opens q e = opens_it s r.valid_is (of_node 10 0) Reset refl (open_now s r.valid_is r.unasked _ (open_when (is_idle s.phase && some (wons s.cell) s.n) _ (both _ _ (ap is_idle q) e) opens))

-- 4. waiting: after it a node may ask, or more than waiting is left
least_in : (f : ℕ → ℕ) (n : ℕ) → (k : ℕ) × ((k ≤ n - 1) × (f k ≡ least f n))
least_in f zero = (0, (omega arith, refl))
least_in f (suc n) =
    pick_by (λ x. (k : ℕ) × ((k ≤ suc n - 1) × (f k ≡ x))) (ltb (f n) (least f n)) _ _ (λ e. (n, (omega arith, refl)))
    (λ e. let r = least_in f n in let b : r.0 ≤ n - 1 = r.1.0 in (r.0, (omega arith, r.1.1)))

pub least_le : (f : ℕ → ℕ) (n k : ℕ) → k < n → least f n ≤ f k
least_le f zero k l = absurd (omega arith)
least_le f (suc n) k l = below_suc (λ x. least f (suc n) ≤ f x) n k
    (pick_by (λ x. x ≤ f n) (ltb (f n) (least f n)) _ _ (λ e. omega arith) (ltb-false _ _))
    (λ h. let i : least f n ≤ f k = least_le f n k h in pick_by (λ x. x ≤ f k) (ltb (f n) (least f n)) _ _ (λ e. let j : f n < least f n = ltb-true _ _ e in omega arith) (λ e. i)) l

module _ (l : Load) where
  pub record Waiting : Type 0 where
    pub idle : is_idle l.state.phase ≡ true
    pub nobody : some (asking l) l.state.n ≡ false
    pub unbid : some (bidding l.state) l.state.n ≡ false
    pub unwon : some (wons l.state.cell) l.state.n ≡ false

  pub is_waiting : only_waits l ≡ true → Waiting
  unfolding only_waits
  is_waiting e =
      let a = and-true (is_idle l.state.phase) _ e in
      let b = and-true (not (some (asking l) l.state.n)) _ a.1 in
      let c = and-true (not (some (bidding l.state) l.state.n)) _ b.1 in
      record { idle = a.0; nobody = not-true _ b.0; unbid = not-true _ c.0; unwon = not-true _ c.1 }

  pub waits_none : only_waits l ≡ false → waits l ≡ 0
  unfolding waits
  waits_none e = rw e

  -- while only waiting is left all buffers are empty
  pub all-empty : Waiting → (k : ℕ) → k < l.state.n → is_empty (l.state.cell k).buffer ≡ true
  all-empty w k h = go (is_empty (l.state.cell k).buffer) (none_of (bidding l.state) l.state.n w.unbid k h)
    where
      go : (b : Bool) → not b && not (l.state.cell k).won ≡ false → b ≡ true
      go true e = refl
      go false e = never (sym e ∙ ap not (none_of (wons l.state.cell) l.state.n w.unwon k h))

  pub waited_on : 1 ≤ l.state.n → only_waits (waited l) ≡ false
  unfolding only_waits waited waits
  waited_on two = by_test (only_waits l) ended same
    where
      n : ℕ
      n = l.state.n

      sub-zero : (x : ℕ) → x - 0 ≡ x
      sub-zero x = omega arith

      ended : only_waits l ≡ true → only_waits (waited l) ≡ false
      ended e =
          let r = least_in (lefts l) n in
          let b : r.0 ≤ n - 1 = r.1.0 in
          let k = r.0 in
          let h : k < n = omega arith in
          let z : (l.kept k).left - waits l ≡ 0 = ap (λ w. (l.kept k).left - cond w (least (lefts l) n) 0) e ∙ ap (λ x. (l.kept k).left - x) (sym r.1.1) ∙ omega arith in
          let t : some (asking (waited l)) n ≡ true = some_at (asking (waited l)) n k h (both _ _ (all-empty (is_waiting e) k h) (eq-eqb _ _ z)) in
          ap (λ b. is_idle l.state.phase && (not b && (not (some (bidding l.state) n) && not (some (wons l.state.cell) n)))) t ∙ and_no (is_idle l.state.phase)

      same : only_waits l ≡ false → only_waits (waited l) ≡ false
      same e =
          ap (λ b. is_idle l.state.phase && (not b && (not (some (bidding l.state) n) && not (some (wons l.state.cell) n))))
          (some_agree (asking (waited l)) (asking l) n (λ k h. ap (λ x. is_empty (l.state.cell k).buffer && eqb x 0) (ap (λ w. (l.kept k).left - w) (waits_none e) ∙ sub-zero (l.kept k).left))) ∙ e

-- 5. the chosen action is open
module _ (us : ℕ → User) (l : Load) (r : Ran l.state) (fine : Sends us l.state.n) where
  abbrev s : State
  s = l.state

  pub chosen_opens : only_waits l ≡ false → (a : Action) → Chosen us l a → is_open s a ≡ true
  unfolding only_waits
  chosen_opens w a (carries {g = g} {j = j} q) =
      pick_by (λ k. is_open s (of_node k 0) ≡ true) (is_checked g && is_due (us j) (l.kept j)) 6 5 (λ e. lose_opens s r q (and-true (is_checked g) _ e).0) (λ e. pass_opens s r q)
  chosen_opens w a (grants q) = grant_opens s r q
  chosen_opens w a (gaps q) = gap_opens s r q
  chosen_opens w a (answers q e f) = respond_open s r (holder_of s) _ (holder_lt s r q) ∙ both _ _ e (may (us (holder_of s)).hold s.concatenated)
    where
      may : (b c : Bool) → Actions.may_answer c (b && not c) ≡ true
      may b true = ap not (and_no b)
      may b false = refl
  chosen_opens w a (replies q e) = let h = holder_lt s r q in request_opens s r (holder_of s) (us (holder_of s)) (l.kept (holder_of s)) h (fine _ h) (ap (λ b. (is_rest (s.cell (holder_of s)).mode && is_empty (s.cell (holder_of s)).buffer) || b) e ∙ or_yes (is_rest (s.cell (holder_of s)).mode && is_empty (s.cell (holder_of s)).buffer))
  chosen_opens w a (clocks q e f) = clock_opens_here s r (holder_of s) (acts_one s r q) q
  chosen_opens w a (asks q t) =
      let h = lowest_lt (asking l) s.n 0 t in
      request_opens s r (asker l) (us (asker l)) (l.kept (asker l)) h (fine _ h)
      (ap (λ b. b || is_holding (s.cell (asker l)).mode) (both _ _ (r.rests (ap is_idle q) (asker l) h) (and-true (is_empty (s.cell (asker l)).buffer) _ (lowest_of (asking l) s.n 0 t)).0))
  chosen_opens w a (bids q e t) = let h = lowest_lt (bidding s) s.n 0 t in (bid_wins s r _ h q (r.rests (ap is_idle q) _ h) (lowest_of (bidding s) s.n 0 t)).0
  chosen_opens w a (resets q e f) = reset_opens s r q (go (some (wons s.cell) s.n) refl)
    where
      go : (b : Bool) → some (wons s.cell) s.n ≡ b → b ≡ true
      go true z = refl
      go false z = never (sym w ∙ both _ _ (ap is_idle q) (both _ _ (ap not e) (both _ _ (ap not f) (ap not z))))
