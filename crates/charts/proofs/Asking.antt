-- Asking and deciding as two moves (specs/Asking.antt): Asked stays on every signal, kinds 4 to 10 are refused while a node is Asked, and kind 11 with at once kind 12 of the same node
-- does what kind 2 does. And a loser of kind 2 is left as it was.
use Rattle.std.specs.Prelude.{Err, None, Ok, Option, Some}
use Rattle.charts.specs.declared.Refusal.TheVariants as Rf
use Rattle.charts.specs.declared.Packet.{Packet}
use mathlib.Core.Path.{◌≡◌, refl, sym, ap, subst, ◌∙◌, fun_ext}
use mathlib.Core.Bool.{Bool, true, false, cond, beq}
use Prim.Native.Nat.{ℕ, ◌<◌}
use lib.Dec.{eqb, ltb}
use borrow.Author.Tests.{eqb-true, ltb-true, lt-ltb}
use Rattle.charts.specs.declared.Mode.{Mode}
use Rattle.charts.specs.declared.Report.TheVariants.{Silent}
use Rattle.charts.specs.declared.Phase.{Phase}
use Rattle.charts.specs.declared.Cell.{Cell}
use Rattle.charts.specs.declared.Move.{Move}
use Rattle.charts.specs.declared.Move.TheVariants.{Arbitrate, Ask, Decide}
use Rattle.charts.specs.declared.Action.{Action}
use Rattle.charts.specs.Numbers as N
use Rattle.charts.specs.Modes as P
use Rattle.charts.specs.Modes.{is_rest}
use Rattle.charts.specs.Reception.{hears}
use Rattle.charts.specs.State.{State, set_mode, is_empty, moved, remarked}
use Rattle.charts.specs.Actions.{Outcome, closed, does, when, loses, decided, arbitrate, asks, ask, decide, waits_for_asked, outcome}
use Rattle.charts.specs.Records.{is_kind, move_of, read}
use Rattle.charts.specs.Valid.{valid}
use Rattle.charts.specs.Demand.{is_open}
use Rattle.charts.specs.Asking.{of_node, AskedStays, AskThenDecide}
use Rattle.charts.specs.Step.{some_asked, Result, Event, carry_out, play, look, step_with, step, is_accepted}
use Rattle.charts.proofs.Tools.{never, clash, implies, implied, and-true, beq_eq, by_test, upd_same, table_at}
use Rattle.charts.proofs.Places.{mode_is}
use Rattle.charts.proofs.Steps.{Stepped, refused, acts, stepped}
use Rattle.charts.proofs.Validity.{valid_is, valid_kept}
use Rattle.charts.proofs.Open.{read_named}
use Rattle.charts.proofs.Askers.{is_ask, is_decide}

-- "Asked stays on every signal"
pub asked_stays : AskedStays hears
unfolding hears
asked_stays me label g = refl

-- "a loser returns to Rest", and kind 2's is there already: "nothing changes"
pub lost_stays : (c : Cell) → is_rest c.mode ≡ true → loses c ≡ c
lost_stays c e = ap (λ (m : Mode). set_mode m c) (sym (mode_is c.mode P.rest (eqb-true _ _ e)))

-- what holds of the move of each kind holds of the records of that kind
module _ (a : Action) where
  of_kind : ℕ → Action
  of_kind k = record { kind = k; node = a.node; address = a.address; ack = a.ack; hold = a.hold; label = a.label; byte6 = a.byte6; byte7 = a.byte7; header = a.header; datum = a.datum }

  -- "While a node is Asked, kinds 4 to 10 are not open"
  waits_kind : 3 < a.kind → a.kind < 11 → waits_for_asked (move_of a) ≡ true
  unfolding move_of of_kind
  waits_kind h l = implied (ltb 3 a.kind) _ (table_at (λ k. implies (ltb 3 k) (waits_for_asked (move_of (of_kind k)))) 11 tt a.kind l) (lt-ltb 3 a.kind h)

  -- kinds 11 and 12
  pub asks_kind : is_kind a.kind ≡ true → is_ask (move_of a) ≡ eqb a.kind 11
  unfolding move_of of_kind
  asks_kind h = beq_eq _ _ (table_at (λ k. beq (is_ask (move_of (of_kind k))) (eqb k 11)) 13 tt a.kind (ltb-true _ 13 (and-true (ltb 0 a.kind) _ h).1))

  pub decides_kind : is_kind a.kind ≡ true → is_decide (move_of a) ≡ eqb a.kind 12
  unfolding move_of of_kind
  decides_kind h =
      let z = and-true (ltb 0 a.kind) _ h in
      beq_eq _ _ (implied (ltb 0 a.kind) _ (table_at (λ k. implies (ltb 0 k) (beq (is_decide (move_of (of_kind k))) (eqb k 12))) 13 tt a.kind (ltb-true _ 13 z.1)) z.0)

-- by the kinds of the records
bars : (s : State) → some_asked s ≡ true → (a : Action) → 3 < a.kind → a.kind < 11 → is_open s a ≡ false
bars s e a h l = go (stepped s a)
  where
    go : {r : Result} {w : Event} → Stepped s a r w → is_accepted r ≡ false
    go (refused q) = q
    go (acts v k i f w) = never (rw (waits_kind a h l, e) at f)

-- a valid state and a record that is read as a move
plays : (s : State) (a : Action) (m : Move) → valid s ≡ true → read s.n a ≡ Ok m → step s a ≡ play s m
unfolding step look
plays s a m v r = ap (λ b. step_with s (cond b (read s.n a) (Err Rf.NotValid))) v ∙ ap (step_with s) r

module _ (s : State) (i : ℕ) where
  abbrev c : Cell
  c = s.cell i

  -- where kind 2 is open: the state is valid, node i is below n, in Rest, with a full buffer
  known : is_accepted (step s (of_node 2 i)) ≡ true → (valid s ≡ true) × (i < s.n)
  unfolding move_of
  known = go (stepped s (of_node 2 i))
    where
      go : {r : Result} {e : Event} → Stepped s (of_node 2 i) r e → is_accepted r ≡ true → (valid s ≡ true) × (i < s.n)
      go (refused q) e = clash _ e q
      go (acts v k l f w) e = (valid_is s v, k)

  contends : is_accepted (play s (Arbitrate i)) ≡ true → (is_rest c.mode ≡ true) × (is_empty c.buffer ≡ false)
  unfolding play outcome arbitrate
  contends e = by_test (is_rest c.mode) (λ q. (q, go c.buffer (rw q at e))) (λ q. never (rw q at e))
    where
      go : (b : Option Packet) → is_accepted (carry_out s i (decided s.phase i c b)) ≡ true → is_empty b ≡ false
      go None e = never e
      go (Some p) e = refl

  -- the state after kind 11
  abbrev asked : State
  asked = moved s s.phase i (asks c)

  asks_open : is_rest c.mode ≡ true → is_empty c.buffer ≡ false → play s (Ask i) ≡ record { number = N.accepted; report = Silent; state = asked }
  unfolding play outcome ask
  asks_open e f = rw (e, f) refl

  -- a second change of cell i is the only one
  again : (p : Phase) (d : Cell) → moved asked p i d ≡ moved s p i d
  again p d = λ t. record { n = s.n; phase = p; concatenated = s.concatenated; cell = fun_ext (λ k. go (eqb k i) (s.cell k)) t }
    where
      go : (b : Bool) (x : Cell) → cond b d (cond b (asks c) x) ≡ cond b d x
      go true x = refl
      go false x = refl

  same : (o : Outcome) → is_accepted (carry_out s i o) ≡ true → carry_out asked i o ≡ carry_out s i o
  same closed e = never e
  same (does r p d x) e = λ t. record { number = N.accepted; report = r; state = remarked x (again p d t) }

  -- and what is decided there is decided as here: neither a winner's cell nor a loser's depends on the mode
  alike : (b : Option Packet) → decided s.phase i (asks c) b ≡ decided s.phase i c b
  alike None = refl
  alike (Some p) = refl

  decides : is_accepted (play s (Arbitrate i)) ≡ true → play asked (Decide i) ≡ play s (Arbitrate i)
  unfolding play outcome decide arbitrate
  decides a =
      ap (λ (d : Cell). carry_out asked i (decide s.phase i d)) (upd_same s.cell i (asks c))
      ∙ ap (carry_out asked i) (alike c.buffer ∙ sym (ap (λ b. when b (decided s.phase i c c.buffer)) (contends a).0))
      ∙ same (arbitrate s.phase i c) a

  two_moves : is_open s (of_node 2 i) ≡ true →
      (is_open s (of_node 11 i) ≡ true) × (step (step s (of_node 11 i)).state (of_node 12 i) ≡ step s (of_node 2 i))
  unfolding move_of
  two_moves e =
      let k = known e in
      let two : step s (of_node 2 i) ≡ play s (Arbitrate i) = plays s (of_node 2 i) (Arbitrate i) k.0 (read_named s.n 2 i refl refl refl k.1) in
      let o : is_accepted (play s (Arbitrate i)) ≡ true = subst (λ r. is_accepted r ≡ true) two e in
      let f = contends o in
      let first : step s (of_node 11 i) ≡ record { number = N.accepted; report = Silent; state = asked } = plays s (of_node 11 i) (Ask i) k.0 (read_named s.n 11 i refl refl refl k.1) ∙ asks_open f.0 f.1 in
      let v : valid asked ≡ true = subst (λ (r : Result). valid r.state ≡ true) first (valid_kept s (of_node 11 i) k.0) in (
        ap is_accepted first,
        ap (λ (r : Result). step r.state (of_node 12 i)) first ∙ plays asked (of_node 12 i) (Decide i) v (read_named s.n 12 i refl refl refl k.1) ∙ decides o ∙ sym two,
      )

pub ask_then_decide : (s : State) → AskThenDecide s
ask_then_decide s = record { bars = bars s; both = two_moves s }
