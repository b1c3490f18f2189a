-- Outside Idle some forward action is open: the decision of a node that is Asked; where none is, pass, grant or gap; on a Busy bus the clock of a holder, or its respond or request where the clock would be a filler.
use Rattle.std.specs.Prelude.{Err, None, Ok, Option, Some}
use Rattle.charts.specs.declared.Refusal.TheVariants as Rf
use mathlib.Core.Path.{◌≡◌, refl, sym, ap, subst, ◌∙◌}
use mathlib.Core.Logic.{◌≢◌, ◌⊎◌, inl, inr, ⊎_elim}
use mathlib.Core.Bool.{Bool, true, false, cond, ◌&&◌, ◌||◌, not, true≢false}
use Prim.Native.Nat.{ℕ, suc, ◌<◌}
use lib.Dec.{eqb, ltb, leb}
use native.Mathlib.Omega.{arith}
use borrow.Author.Tests.{eqb-true, ne_eqb, lt-ltb}
use Rattle.charts.specs.declared.Mode.{Mode}
use Rattle.charts.specs.declared.Mode.TheVariants.{Sending, Answering, Acking, Holding, Spurious}
use Rattle.charts.specs.declared.Signal.{Signal}
use Rattle.charts.specs.declared.Output.{Output}
use Rattle.charts.specs.declared.Output.TheVariants as O
use Rattle.charts.specs.declared.Phase.{Phase}
use Rattle.charts.specs.declared.Phase.TheVariants.{Idle, Busy, Delivering, Granting, Gapping}
use Rattle.charts.specs.declared.Report.{Report}
use Rattle.charts.specs.declared.Cell.{Cell}
use Rattle.charts.specs.declared.Marking.{Marking}
use Rattle.charts.specs.declared.Packet.{Packet}
use Rattle.charts.specs.declared.Way.TheVariants.{Pass}
use Rattle.charts.specs.declared.Move.{Move}
use Rattle.charts.specs.declared.Move.TheVariants.{Request, Respond, Clock, Carry, Grant, GapNext, Decide}
use Rattle.charts.specs.declared.Action.{Action}
use Rattle.charts.specs.Records.{Decoded}
use Rattle.charts.specs.Modes as P
use Rattle.charts.specs.Modes.{place_of, is_rest, is_answering, is_holding, is_spurious, is_asked}
use Rattle.charts.specs.Reception.{hears}
use Rattle.charts.specs.Places.{step_in, ack_in, hold_in}
use Rattle.charts.specs.Outputs as Outputs
use Rattle.charts.specs.Outputs.{output}
use Rattle.charts.specs.Arrivals as Arrivals
use Rattle.charts.specs.State.{State, pendings, holders, askers, some, others, lowest, is_idle, is_busy, is_granting, is_empty}
use Rattle.charts.specs.Actions as Actions
use Rattle.charts.specs.Actions.{Outcome, does, when, may_answer}
use Rattle.charts.specs.Signals.{no_head}
use Rattle.charts.specs.Records.{is_kind, names_node, names_address, names_answer, names_packet, clean, move_of, read}
use Rattle.charts.specs.Valid.{valid}
use Rattle.charts.specs.Step.{some_asked, carry_out, about, comes_to, play, look, step_with, step, is_accepted}
use Rattle.charts.specs.Demand.{forward, is_open, is_forward}
use Rattle.charts.specs.Trials.{strays}
use Rattle.charts.specs.Settings.{HoldsAlone}
use Rattle.charts.specs.Asking.{of_node}
use Rattle.charts.proofs.Tools.{never, clash, implies, implied, and-true, both, and_no, pick, none_of, some_at, lowest_of, lowest_lt, others_none, table_at, mem, mem_one, neither, or_yes, or-false, by_test}
use Rattle.charts.proofs.Places.{law_mode, active, step_of, mode_is}
use Rattle.charts.proofs.Steps.{Decodes, turned, taken, decodes, is_valid, refuses_it}
use Rattle.charts.proofs.Stages.{turn_at, clear_steps, acting, BusyAt, talks, clears, Stage}
use Rattle.charts.proofs.Reach.{Reach, answerers, is_talker}
use Rattle.charts.proofs.Progress.{acting_step_lem, odd_clear}

-- an outcome that is not closed
pub data Opens : Outcome → Type 0 where
  opens : {r : Report} {p : Phase} {c : Cell} {x : Marking} → Opens (does r p c x)

pub open_when : (b : Bool) (o : Outcome) → b ≡ true → Opens o → Opens (when b o)
open_when true o e x = x
open_when false o e x = never e

-- a node that acts while the bus clears, and is not spurious, answers
clear_answers : (m : Mode) → mem (step_of m) clear_steps ≡ true → active (place_of m) ≡ true → eqb (place_of m) P.spurious ≡ false → mem (place_of m) answerers ≡ true
clear_answers m h a z = go (eqb (place_of m) P.sending) refl
  where
    rest : eqb (place_of m) P.sending ≡ false → eqb (place_of m) P.holding ≡ false → mem (place_of m) answerers ≡ true
    rest p q = implied _ _ (implied _ _ (implied _ _ (implied (active (place_of m)) _ (law_mode (λ p. implies (active p) (implies (not (eqb p P.sending)) (implies (not (eqb p P.holding)) (implies (not (eqb p P.spurious)) (mem p answerers))))) tt m) a) (ap not p)) (ap not q)) (ap not z)

    held : (b : Bool) → eqb (place_of m) P.holding ≡ b → b ≡ false
    held false e = refl
    held true e = clash _ h (ap (λ m. mem (step_of m) clear_steps) (mode_is m P.holding (eqb-true _ _ e)))

    go : (b : Bool) → eqb (place_of m) P.sending ≡ b → mem (place_of m) answerers ≡ true
    go true e = clash _ h (ap (λ m. mem (step_of m) clear_steps) (mode_is m P.sending (eqb-true _ _ e)) ∙ odd_clear (step_in m))
    go false e = rest e (held (eqb (place_of m) P.holding) refl)

-- a record that names its node alone, and one below n, is read
pub read_named : (n k i : ℕ) → is_kind k ≡ true → names_node k ≡ true → names_address k ≡ false → i < n → read n (of_node k i) ≡ Ok (move_of (of_node k i))
unfolding read clean
read_named n k i e f g l = rw (e, f, g, or_yes (names_answer k), (or-false (names_packet k) _ g).0, lt-ltb i n l)

-- a request to all nodes
abbrev to_all : ℕ → Action
to_all i = record { kind = 1; node = i; address = 63; ack = 0; hold = 0; label = 0; byte6 = 0; byte7 = 0; header = 0; datum = 0 }

abbrev nothing_to : ℕ → Packet
nothing_to a = record { to = a; head = no_head; datum = 0 }

module _ (s : State) (v : valid s ≡ true) where
  abbrev Found : Type 0
  Found = (a : Action) × (is_forward s a ≡ true)

  -- what a record that is read does
  pub step_is : (a : Action) (m : Move) → read s.n a ≡ Ok m → step s a ≡ carry_out s (about s m) (comes_to s m)
  unfolding step look play
  step_is a m q = ap (step_with s) (ap (λ b. cond b (read s.n a) (Err Rf.NotValid)) v ∙ q)

  -- one that is read as an open move is an open action; if the move is a forward one, a forward action
  pub opens_it : (a : Action) (m : Move) → read s.n a ≡ Ok m → Opens (comes_to s m) → is_open s a ≡ true
  opens_it a m q o = ap is_accepted (step_is a m q) ∙ go (comes_to s m) o
    where
      go : (o : Outcome) → Opens o → is_accepted (carry_out s (about s m) o) ≡ true
      go o opens = refl

  is_open_lem : (a : Action) (m : Move) → move_of a ≡ m → read s.n a ≡ Ok m → Opens (comes_to s m) → forward s m ≡ true → Found
  is_open_lem a m e q o f = (a, both _ _ (opens_it a m q o) (ap (forward s) e ∙ f))

  read_request : (i : ℕ) → i < s.n → read s.n (to_all i) ≡ Ok (Request i (nothing_to 63))
  unfolding read clean move_of
  read_request i l = let small = (is_valid s v).small in rw (lt-ltb i s.n l, or_yes (ltb 63 s.n), ne_eqb 63 i (λ e. omega arith))

  -- a node that is Asked with a full buffer is decided
  decide_opens : (i : ℕ) → i < s.n → is_asked (s.cell i).mode ≡ true → is_empty (s.cell i).buffer ≡ false → Found
  unfolding move_of Actions.outcome Actions.decide
  decide_opens i l e f = is_open_lem (of_node 12 i) (Decide i) refl (read_named s.n 12 i refl refl refl l) (open_when (is_asked (s.cell i).mode) _ e (go (s.cell i).buffer f)) refl
    where
      go : (b : Option Packet) → is_empty b ≡ false → Opens (Actions.decided s.phase i (s.cell i) b)
      go None f = absurd (true≢false f)
      go (Some p) f = pick Opens (is_idle s.phase && not (s.cell i).won) _ _ opens opens

  -- a move that waits for nodes that are Asked, where none is
  pub open_now : some_asked s ≡ false → (o : Outcome) → Opens o → Opens (when (not (some_asked s)) o)
  open_now u o x = open_when _ o (ap not u) x

  -- a node below n that holds the bus; unless it is spurious, it alone
  module _ (i : ℕ) (l : i < s.n) (h : (s.cell i).holder ≡ true) (sole : eqb (place_of (s.cell i).mode) P.spurious ≡ false → others (holders s.cell) i s.n ≡ false) where
    abbrev Clocks : Output → Type 0
    Clocks o = Opens (Actions.clock_with s.n i (s.cell i) (holders s.cell) o)

    module _ (o : others (holders s.cell) i s.n ≡ false) where
      puts_open : (g : Signal) (m : Mode) (r : Report) → Clocks (O.Puts g m r)
      puts_open g m r = open_when ((s.cell i).holder && not (others (holders s.cell) i s.n)) _ (ap (λ b. b && not (others (holders s.cell) i s.n)) h ∙ ap not o) opens

      sends_open : (k : ℕ) (p : Packet) → Clocks (Outputs.sends i k p)
      sends_open k p =
          pick Clocks (eqb k 0) _ _ (puts_open _ _ _) (pick Clocks (eqb k 1) _ _ (puts_open _ _ _) (pick Clocks (eqb k 2) _ _ (puts_open _ _ _) (pick Clocks (eqb k 3) _ _ (puts_open _ _ _)
          (pick Clocks (eqb k 4) _ _ (puts_open _ _ _) (pick Clocks (eqb p.to 63) _ _ (puts_open _ _ _) (puts_open _ _ _))))))

      acks_open : (k a : ℕ) (b : Bool) → Clocks (Outputs.acks k a b)
      acks_open k a b = pick Clocks (eqb k 0) _ _ (puts_open _ _ _) (pick Clocks (eqb k 1) _ _ (puts_open _ _ _) (pick Clocks b _ _ (puts_open _ _ _) (puts_open _ _ _)))

    -- its clock is open
    pub clock_opens : active (place_of (s.cell i).mode) ≡ true → Clocks (output i (s.cell i).mode (s.cell i).sending)
    unfolding output
    clock_opens t = go (eqb (place_of m) P.sending) (eqb (place_of m) P.answering) (eqb (place_of m) P.acking) (eqb (place_of m) P.holding) refl refl refl refl t
      where
        m : Mode
        m = (s.cell i).mode

        is : (m' : Mode) → m ≡ m' → Clocks (output i m' (s.cell i).sending) → Clocks (output i m (s.cell i).sending)
        is m' e x = subst (λ m. Clocks (output i m (s.cell i).sending)) (sym e) x

        alone : (m' : Mode) → m ≡ m' → eqb (place_of m') P.spurious ≡ false → others (holders s.cell) i s.n ≡ false
        alone m' e q = sole (ap (λ m. eqb (place_of m) P.spurious) e ∙ q)

        go : (b c d f : Bool) → eqb (place_of m) P.sending ≡ b → eqb (place_of m) P.answering ≡ c → eqb (place_of m) P.acking ≡ d → eqb (place_of m) P.holding ≡ f →
            b || (c || (d || (f || (eqb (place_of m) P.spurious || false)))) ≡ true → Clocks (output i m (s.cell i).sending)
        go true c d f p q u w t = let e = mode_is m P.sending (eqb-true (place_of m) P.sending p) in is (Sending (step_in m)) e (sends_open (alone (Sending (step_in m)) e refl) (step_in m) (s.cell i).sending)
        go false true d f p q u w t = let e = mode_is m P.answering (eqb-true (place_of m) P.answering q) in is Answering e (puts_open (alone Answering e refl) _ _ _)
        go false false true f p q u w t = let e = mode_is m P.acking (eqb-true (place_of m) P.acking u) in is (Acking (step_in m) (ack_in m) (hold_in m)) e (acks_open (alone (Acking (step_in m) (ack_in m) (hold_in m)) e refl) (step_in m) (ack_in m) (hold_in m))
        go false false false true p q u w t = let e = mode_is m P.holding (eqb-true (place_of m) P.holding w) in is Holding e (puts_open (alone Holding e refl) _ _ _)
        go false false false false p q u w t = is Spurious (mode_is m P.spurious (mem_one P.spurious (place_of m) t)) (open_when (s.cell i).holder _ h opens)

    -- its forward action: a request in Holding, a respond in Answering, else its clock
    holder_opens : some_asked s ≡ false → s.phase ≡ Busy → active (place_of (s.cell i).mode) ≡ true → Found
    unfolding move_of Actions.outcome Actions.request Actions.respond Actions.clock
    holder_opens u b e = go (is_holding (s.cell i).mode) (is_answering (s.cell i).mode) refl refl
      where
        go : (x y : Bool) → is_holding (s.cell i).mode ≡ x → is_answering (s.cell i).mode ≡ y → Found
        go true y p q = is_open_lem (to_all i) (Request i (nothing_to 63)) refl (read_request i l) (pick Opens (is_rest (s.cell i).mode && is_empty (s.cell i).buffer) _ _ opens (open_when (is_holding (s.cell i).mode) _ p opens)) p
        go false true p q = is_open_lem (of_node 3 i) (Respond i 0 false) refl (read_named s.n 3 i refl refl refl l) (open_when (is_answering (s.cell i).mode && may_answer s.concatenated false) _ (both _ _ q (ap not (and_no s.concatenated))) opens) refl
        go false false p q = is_open_lem (of_node 4 i) (Clock i) refl (read_named s.n 4 i refl refl refl l) (open_now u _ (open_when (is_busy s.phase) _ (ap is_busy b) (clock_opens e))) (ap not (neither _ _ q p))

  module _ (r : Reach s) (one : (j k : ℕ) → j < s.n → k < s.n → mem (place_of (s.cell j).mode) answerers ≡ true → mem (place_of (s.cell k).mode) answerers ≡ true → j ≡ k) where
    abbrev stray : ℕ → Bool
    stray k = eqb (place_of (s.cell k).mode) P.spurious

    -- the holders are those whose mode acts
    sole_holder : (i : ℕ) → ((k : ℕ) → k < s.n → active (place_of (s.cell k).mode) ≡ true → k ≡ i) → others (holders s.cell) i s.n ≡ false
    sole_holder i u = others_none (holders s.cell) s.n i (λ k l q. (r.marks k).1 ∙ go k l q (active (place_of (s.cell k).mode)) refl)
      where
        go : (k : ℕ) → k < s.n → k ≢ i → (b : Bool) → active (place_of (s.cell k).mode) ≡ b → b ≡ false
        go k l q true e = absurd (q (u k l e))
        go k l q false e = refl

    alone : (i : ℕ) → i < s.n → active (place_of (s.cell i).mode) ≡ true → is_spurious (s.cell i).mode ≡ false → ((k : ℕ) → k < s.n → active (place_of (s.cell k).mode) ≡ true → k ≡ i) → HoldsAlone s
    alone i l e z u = record {
      node = i;
      here = l;
      holds = (r.marks i).1 ∙ e;
      alone = sole_holder i u;
      mode =
          implied _ _ (implied (active (place_of (s.cell i).mode)) _ (law_mode (λ p. implies (active p) (implies (not (eqb p P.spurious)) (eqb p P.sending || (eqb p P.answering || (eqb p P.acking || eqb p P.holding))))) tt (s.cell i).mode) e) (ap not z);
    }

    stray_at : (i : ℕ) → i < s.n → is_spurious (s.cell i).mode ≡ true → some (strays s) s.n ≡ true
    stray_at i l z = some_at (strays s) s.n i l (both _ _ ((r.marks i).1 ∙ ap active (eqb-true (place_of (s.cell i).mode) P.spurious z)) z)

    -- who holds a Busy bus
    pub busy_held : BusyAt s.concatenated s.n s.cell → (some (strays s) s.n ≡ true) ⊎ HoldsAlone s
    busy_held (talks a) = by_test (is_spurious (s.cell a.w).mode) (λ z. inl (stray_at a.w a.here z)) (λ z. inr (alone a.w a.here e z (is_talker s.concatenated s.n s.cell a)))
      where
        e : active (place_of (s.cell a.w).mode) ≡ true
        e = acting_step_lem (s.cell a.w).mode (ap (λ c. leb 30 c || active c) a.talker ∙ table_at (λ t. leb 30 (turn_at t).step || active (turn_at t).step) 17 tt a.t a.t_lt)
    busy_held (clears a) = by_test (some stray s.n) (λ q. inl (stray_at (lowest stray s.n 0) (lowest_lt stray s.n 0 q) (lowest_of stray s.n 0 q))) (λ q. inr (alone i l e (none_of stray s.n q i l) (λ k m u. one k i m l (answers q k m u) (answers q i l e))))
      where
        i : ℕ
        i = lowest (acting s.cell) s.n 0

        l : i < s.n
        l = lowest_lt (acting s.cell) s.n 0 a.acts

        e : active (place_of (s.cell i).mode) ≡ true
        e = lowest_of (acting s.cell) s.n 0 a.acts

        answers : some stray s.n ≡ false → (k : ℕ) → k < s.n → active (place_of (s.cell k).mode) ≡ true → mem (place_of (s.cell k).mode) answerers ≡ true
        answers q k m u = clear_answers (s.cell k).mode (a.steps k m) u (none_of stray s.n q k m)

    busy_opens : some_asked s ≡ false → s.phase ≡ Busy → BusyAt s.concatenated s.n s.cell → Found
    busy_opens u b a = ⊎_elim stray_opens (λ h. holder_opens h.node h.here h.holds (λ z. h.alone) u b (sym (r.marks h.node).1 ∙ h.holds)) (busy_held a)
      where
        stray_opens : some (strays s) s.n ≡ true → Found
        stray_opens q =
            let i = lowest (strays s) s.n 0 in
            let z = and-true (s.cell i).holder _ (lowest_of (strays s) s.n 0 q) in
            holder_opens i (lowest_lt (strays s) s.n 0 q) z.0 (λ x. clash _ z.1 x) u b (sym (r.marks i).1 ∙ z.0)

    -- outside Idle a forward action is open
    pub some_open : is_idle s.phase ≡ false → Found
    unfolding read clean move_of Actions.outcome Actions.carry Arrivals.arrives Actions.grant Actions.gap
    some_open e = by_test (some_asked s)
        (λ u. let i = lowest (askers s.cell) s.n 0 in decide_opens i (lowest_lt (askers s.cell) s.n 0 u) (lowest_of (askers s.cell) s.n 0 u) (r.ready i (lowest_of (askers s.cell) s.n 0 u)))
        (λ u. go u s.phase refl r.stage e)
      where
        go : some_asked s ≡ false → (p : Phase) → s.phase ≡ p → Stage s.concatenated p s.n s.cell → is_idle p ≡ false → Found
        go u Idle q a e = absurd (true≢false e)
        go u Busy q a e = busy_opens u q a
        go u (Delivering w g j) q a e = is_open_lem (of_node 5 0) (Carry Pass) refl refl (open_now u _ (subst (λ p. Opens (Actions.carry hears s.n p (s.cell (Actions.next_of p)) (pendings s.cell) Pass)) (sym q) opens)) refl
        go u Granting q a e = is_open_lem (of_node 8 0) Grant refl refl (open_now u _ (open_when (is_granting s.phase) _ (ap is_granting q) (pick Opens (some (pendings s.cell) s.n) _ _ opens opens))) refl
        go u (Gapping j) q a e = is_open_lem (of_node 9 0) GapNext refl refl (open_now u _ (subst (λ p. Opens (Actions.gap hears s.n p (s.cell (Actions.next_of p)))) (sym q) (pick Opens (ltb (suc j) s.n) _ _ opens opens))) refl

-- what is open is read as the record's move
pub open_reads : (s : State) (a : Action) → is_open s a ≡ true → read s.n a ≡ Ok (move_of a)
unfolding step look
open_reads s a e = by_test (valid s) (λ v. go (read s.n a) refl (decodes s.n a) (sym (ap (λ b. is_accepted (step_with s (cond b (read s.n a) (Err Rf.NotValid)))) v) ∙ e))
    (λ v. never (sym (ap (λ b. is_accepted (step_with s (cond b (read s.n a) (Err Rf.NotValid)))) v) ∙ e))
  where
    go : (d : Decoded) → read s.n a ≡ d → Decodes s.n a d → is_accepted (step_with s d) ≡ true → read s.n a ≡ Ok (move_of a)
    go (Err k) q turned f = clash _ f (refuses_it k)
    go (Ok m) q (taken k) f = q
