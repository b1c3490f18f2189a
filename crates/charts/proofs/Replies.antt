-- At most one reply starts before the bus is Idle again: only a marked bus has a node in Holding, and only one; and once that node has replied, nobody comes to Holding while the bus is marked.
use mathlib.Core.Path.{◌≡◌, refl, sym, ap, subst, ◌∙◌}
use mathlib.Core.Bool.{Bool, true, false, ◌&&◌, true≢false}
use mathlib.Core.List.{List, [], ◌∷◌}
use Prim.Native.Nat.{ℕ, ◌<◌, ◌≤◌, ◌+◌}
use native.Mathlib.Omega.{arith}
use lib.Dec.{eqb}
use borrow.Author.Tests.{eqb-true}
use Rattle.charts.specs.declared.Mode.{Mode}
use Rattle.charts.specs.declared.Signal.{Signal}
use Rattle.charts.specs.declared.Signal.TheVariants.{Gap}
use Rattle.charts.specs.declared.Report.{Report}
use Rattle.charts.specs.declared.Packet.{Packet}
use Rattle.charts.specs.declared.Phase.{Phase}
use Rattle.charts.specs.declared.Phase.TheVariants.{Idle, Busy, Delivering, Granting, Gapping}
use Rattle.charts.specs.declared.Cell.{Cell}
use Rattle.charts.specs.declared.Marking.{Marking}
use Rattle.charts.specs.declared.Marking.TheVariants as M
use Rattle.charts.specs.declared.Move.{Move}
use Rattle.charts.specs.declared.Move.TheVariants.{Request, Arbitrate, Respond, Clock, Carry, Grant, GapNext, Reset, Ask, Decide}
use Rattle.charts.specs.declared.Action.{Action}
use Rattle.charts.specs.Modes as P
use Rattle.charts.specs.Modes.{place_of, is_told, is_owed, is_holding, is_acking}
use Rattle.charts.specs.Signals.{is_start, is_prefix}
use Rattle.charts.specs.Places.{step_in, hold_in}
use Rattle.charts.specs.Reception.{hears}
use Rattle.charts.specs.State.{State, is_idle, moved, concatenated_after, remarked}
use Rattle.charts.specs.Actions.{does}
use Rattle.charts.specs.Records.{move_of}
use Rattle.charts.specs.Step.{Result, Event, step, event_of, is_accepted}
use Rattle.charts.specs.Demand.{one, meets_idle}
use Rattle.charts.specs.Replies.{is_reply, replies_in}
use Rattle.charts.proofs.Tools.{never, clash, implies, not_implied, or-false, pick, by_test, at_upd, at_upd≢, mem}
use Rattle.charts.proofs.Places.{law, active, step_at, step_of, resting}
use Rattle.charts.proofs.Ways.{Contends, at_once, asked, Puts, start, dhead, dest, header, datum, end_all, end_one, filler, ack_start, ack_body_lem, ack_hold, ack_end, holds_on, Effect, waits, replies, claims, wins, loses, gives, puts, frees, arrives, is_lost, grants, grants_none, gaps, settles, resets}
use Rattle.charts.proofs.Steps.{Known, Stepped, refused, acts, stepped}
use Rattle.charts.proofs.Stages.{round_of, grant_steps, clear_steps, quiet, talks, clears, Stage}
use Rattle.charts.proofs.Reach.{Reach, is_talker, is_sender, row_fact, turn_fact, not_clearing}
use Rattle.charts.proofs.Progress.{effect_reach}

-- a bus in round 1 is marked
in_round_1 : (b : Bool) → eqb (round_of b) 1 ≡ true → b ≡ true
in_round_1 true e = refl
in_round_1 false e = never e

-- where node i is in Holding, the bus is marked and no other node is in Holding
holds_alone : (b : Bool) (p : Phase) (n : ℕ) (f : ℕ → Cell) → Stage b p n f → (i : ℕ) → i < n → place_of (f i).mode ≡ P.holding →
    (b ≡ true) × ((k : ℕ) → k < n → place_of (f k).mode ≡ P.holding → k ≡ i)
holds_alone b p n f a i l e = go p a
  where
    step : step_of (f i).mode ≡ P.holding
    step = ap (λ p. step_at p (step_in (f i).mode)) e

    acting : (k : ℕ) → place_of (f k).mode ≡ P.holding → active (place_of (f k).mode) ≡ true
    acting k q = ap active q

    go : (p : Phase) → Stage b p n f → (b ≡ true) × ((k : ℕ) → k < n → place_of (f k).mode ≡ P.holding → k ≡ i)
    go Idle a = clash _ (a.rests i l) (ap (λ p. mem p resting) e)
    go Busy (talks a) =
        let w = is_talker b n f a i l (acting i e) in
        let r = turn_fact b n f a P.holding (subst (λ k. step_of (f k).mode ≡ P.holding) w step) (λ t. eqb t.round 1) tt in
        (in_round_1 b (ap (λ r. eqb r 1) (sym a.round) ∙ r), λ k h q. is_talker b n f a k h (acting k q) ∙ sym w)
    go Busy (clears a) = absurd (not_clearing n f a.steps i l (ap (λ c. mem c clear_steps) step))
    go (Delivering v g j) a =
        let w = is_sender b n f v g j a i l (acting i e) in
        let r = row_fact b n f v g j a P.holding (subst (λ k. step_of (f k).mode ≡ P.holding) w step) (λ d. eqb d.round 1) tt in
        (in_round_1 b (ap (λ r. eqb r 1) (sym a.round) ∙ r), λ k h q. is_sender b n f v g j a k h (acting k q) ∙ sym w)
    go Granting a = clash _ (a.steps i l) (ap (λ c. mem c grant_steps) step)
    go (Gapping j) a = clash _ (a.calm i l) (ap (λ c. mem c quiet) e)

-- the reply has started: the bus is marked, and nobody is in Holding
pub record Spent (s : State) : Type 0 where
  pub marked : s.concatenated ≡ true
  pub none : (k : ℕ) → k < s.n → is_holding (s.cell k).mode ≡ false

remarked_spent : (x : Marking) (t : State) → concatenated_after x t.concatenated ≡ true → ((k : ℕ) → k < t.n → is_holding (t.cell k).mode ≡ false) → Spent (remarked x t)
remarked_spent M.Nothing t e h = record { marked = e; none = h }
remarked_spent M.Misled t e h = record { marked = e; none = h }
remarked_spent M.Won t e h = record { marked = e; none = h }
remarked_spent (M.Concatenated b) t e h = record { marked = e; none = h }

-- nobody comes to Holding by hearing
hears_none : (me label : ℕ) (m : Mode) (g : Signal) → is_holding m ≡ false → is_holding (hears me label m g).mode ≡ false
hears_none me label m g e = not_implied _ _ (law (λ y p c. implies (eqb y.place P.holding) (eqb p P.holding)) tt me label m g) e

-- only Acking with hold 1 comes to Holding by what it puts out
puts_none : (i : ℕ) (p : Packet) (m : Mode) (g : Signal) (m' : Mode) (r : Report) → hold_in m ≡ false → is_holding m ≡ false → Puts i p m g m' r → is_holding m' ≡ false
puts_none i p m g m' r h e start = refl
puts_none i p m g m' r h e dhead = refl
puts_none i p m g m' r h e dest = refl
puts_none i p m g m' r h e header = refl
puts_none i p m g m' r h e datum = refl
puts_none i p m g m' r h e (end_all k q) = refl
puts_none i p m g m' r h e (end_one k q) = refl
puts_none i p m g m' r h e filler = refl
puts_none i p m g m' r h e ack_start = refl
puts_none i p m g m' r h e ack_body_lem = refl
puts_none i p m g m' r h e (ack_hold k) = absurd (true≢false h)
puts_none i p m g m' r h e (ack_end k) = refl
puts_none i p m g m' r h e holds_on = e

-- who contends for the bus does not reply
contends_none : {s : State} {i : ℕ} {m : Move} → Contends s i m → is_reply s m ≡ false
contends_none (at_once e) = refl
contends_none (asked e) = refl

module _ (s : State) (v : Reach s) where
  -- a reply is the last
  spends : (m : Move) (i : ℕ) (r : Report) (p : Phase) (c : Cell) (x : Marking) → i < s.n → Effect s m i (does r p c x) → is_reply s m ≡ true → Spent (remarked x (moved s p i c))
  spends m i r p c x l (waits e f) z = clash _ z (ap (λ p. eqb p P.holding) e)
  spends m i r p c x l (replies e) z =
      let h = holds_alone s.concatenated s.phase s.n s.cell v.stage i l (ap place_of e) in
      remarked_spent x (moved s p i c) h.0 λ k.
      at_upd≢ (λ k c. k < s.n → is_holding c.mode ≡ false) s.cell i c k (λ d. refl) λ o d. by_test (is_holding (s.cell k).mode) (λ q. absurd (o (h.1 k d (eqb-true _ _ q)))) (λ q. q)
  spends m i r p c x l (claims e f) z = never z
  spends m i r p c x l (wins d q f w) z = clash _ z (contends_none d)
  spends m i r p c x l (loses d) z = clash _ z (contends_none d)
  spends m i r p c x l (gives e u) z = never z
  spends m i r p c x l (puts q h o y) z = never z
  spends m i r p c x l (frees q h e) z = never z
  spends m i r p c x l (arrives q y) z = never z
  spends m i r p c x l (is_lost q e) z = never z
  spends m i r p c x l (grants q e u) z = never z
  spends m i r p c x l (grants_none q e) z = never z
  spends m i r p c x l (gaps q u) z = never z
  spends m i r p c x l (settles q u) z = never z
  spends m i r p c x l (resets q) z = never z

  module _ (u : Spent s) where
    own_none : (m : Move) (i : ℕ) (r : Report) (p : Phase) (c : Cell) (x : Marking) → i < s.n → Effect s m i (does r p c x) → is_holding c.mode ≡ false
    own_none m i r p c x l (waits e f) = u.none i l
    own_none m i r p c x l (replies e) = refl
    own_none m i r p c x l (claims e f) = refl
    own_none m i r p c x l (wins d q f w) = refl
    own_none m i r p c x l (loses d) = refl
    own_none m i r p c x l (gives e y) = refl
    own_none m i r p c x l (puts {g = g} {m = m'} q h o y) = puts_none i (s.cell i).sending (s.cell i).mode g m' r (v.last u.marked i l) (u.none i l) y
    own_none m i r p c x l (frees q h e) = refl
    own_none m i r p c x l (arrives {t = t} q y) = hears_none i _ (s.cell i).mode t (u.none i l)
    own_none m i r p c x l (is_lost q e) = u.none i l
    own_none m i r p c x l (grants q e y) =
        pick (λ (m : Mode). is_holding m ≡ false) (is_told (s.cell i).mode) _ _ refl (pick (λ (m : Mode). is_holding m ≡ false) (is_owed (s.cell i).mode) _ _ refl (u.none i l))
    own_none m i r p c x l (grants_none q e) = u.none i l
    own_none m i r p c x l (gaps q y) = hears_none i _ (s.cell i).mode Gap (u.none i l)
    own_none m i r p c x l (settles q y) = hears_none i _ (s.cell i).mode Gap (u.none i l)
    own_none m i r p c x l (resets q) = u.none i l

    -- the bus stays marked up to Idle
    stays_marked : (m : Move) (i : ℕ) (r : Report) (p : Phase) (c : Cell) (x : Marking) → is_idle p ≡ false → Effect s m i (does r p c x) → concatenated_after x s.concatenated ≡ true
    stays_marked m i r p c x z (waits e f) = u.marked
    stays_marked m i r p c x z (replies e) = u.marked
    stays_marked m i r p c x z (claims e f) = u.marked
    stays_marked m i r p c x z (wins d q f w) = u.marked
    stays_marked m i r p c x z (loses d) = u.marked
    stays_marked m i r p c x z (gives e y) = u.marked
    stays_marked m i r p c x z (puts {g = g} q h o y) =
        pick (λ x. concatenated_after x s.concatenated ≡ true) (is_start g) _ _ u.marked
        (pick (λ x. concatenated_after x s.concatenated ≡ true) (is_acking (s.cell i).mode && is_prefix g) _ _ refl u.marked)
    stays_marked m i r p c x z (frees q h e) = u.marked
    stays_marked m i r p c x z (arrives q y) = u.marked
    stays_marked m i r p c x z (is_lost q e) = u.marked
    stays_marked m i r p c x z (grants q e y) = u.marked
    stays_marked m i r p c x z (grants_none q e) = u.marked
    stays_marked m i r p c x z (gaps q y) = u.marked
    stays_marked m i r p c x z (settles q y) = absurd (true≢false z)
    stays_marked m i r p c x z (resets q) = u.marked

    stays_spent : (m : Move) (i : ℕ) (r : Report) (p : Phase) (c : Cell) (x : Marking) → i < s.n → is_idle p ≡ false → Effect s m i (does r p c x) → Spent (remarked x (moved s p i c))
    stays_spent m i r p c x l z y = remarked_spent x (moved s p i c) (stays_marked m i r p c x z y) λ k.
        at_upd (λ k c. k < s.n → is_holding c.mode ≡ false) s.cell i c k (λ d. own_none m i r p c x l y) (u.none k)

remarked_phase : (x : Marking) (t : State) → (remarked x t).phase ≡ t.phase
remarked_phase M.Nothing t = refl
remarked_phase M.Misled t = refl
remarked_phase M.Won t = refl
remarked_phase (M.Concatenated b) t = refl

not_idle : (t : State) (l : List Action) → meets_idle t l ≡ false → is_idle t.phase ≡ false
not_idle t [] e = e
not_idle t (a ∷ l) e = (or-false (is_idle t.phase) _ e).0

no_reply : (s : State) → Spent s → (m : Move) → Known s.n m → is_reply s m ≡ false
no_reply s u (Request i p) k = u.none i k.0
no_reply s u (Arbitrate i) k = refl
no_reply s u (Respond i a h) k = refl
no_reply s u (Clock i) k = refl
no_reply s u (Carry w) k = refl
no_reply s u Grant k = refl
no_reply s u GapNext k = refl
no_reply s u Reset k = refl
no_reply s u (Ask i) k = refl
no_reply s u (Decide i) k = refl

-- after the reply none starts before Idle
none_more : (s : State) → Reach s → Spent s → (l : List Action) → meets_idle s l ≡ false → replies_in s l ≡ 0
none_more s v u [] m = refl
none_more s v u (a ∷ l) m = go (step s a) (event_of a (step s a)) (stepped s a) (λ t y z. none_more t y z l) (or-false (is_idle s.phase) _ m).1
  where
    go : (x : Result) (e : Event) → Stepped s a x e → ((t : State) → Reach t → Spent t → meets_idle t l ≡ false → replies_in t l ≡ 0) → meets_idle x.state l ≡ false →
        one (is_accepted x && is_reply s (move_of a)) + replies_in x.state l ≡ 0
    go x e (refused q) h m = rw q (omega (arith, h s v u m))
    go x e (acts {i = i} {r = r} {p = p} {c = c} {x = y} w k b f z) h m =
        let t = remarked y (moved s p i c) in
        let on : is_idle p ≡ false = ap is_idle (sym (remarked_phase y (moved s p i c))) ∙ not_idle t l m in
        rw (no_reply s u (move_of a) k) (omega (arith, h t (effect_reach s v (move_of a) i r p c y b f z).0 (stays_spent s v u (move_of a) i r p c y b on z) m))

pub at_most_one : (s : State) → Reach s → (l : List Action) → meets_idle s l ≡ false → replies_in s l ≤ 1
at_most_one s v [] m = omega arith
at_most_one s v (a ∷ l) m = go (step s a) (event_of a (step s a)) (stepped s a) (λ t y. at_most_one t y l) (or-false (is_idle s.phase) _ m).1
  where
    go : (x : Result) (e : Event) → Stepped s a x e → ((t : State) → Reach t → meets_idle t l ≡ false → replies_in t l ≤ 1) → meets_idle x.state l ≡ false →
        one (is_accepted x && is_reply s (move_of a)) + replies_in x.state l ≤ 1
    go x e (refused q) h m = rw q (omega (arith, h s v m))
    go x e (acts {i = i} {r = r} {p = p} {c = c} {x = y} w k b f z) h m =
        let t = remarked y (moved s p i c) in
        let on = (effect_reach s v (move_of a) i r p c y b f z).0 in
        by_test (is_reply s (move_of a)) (λ q. rw q (omega (arith, none_more t on (spends s v (move_of a) i r p c y b z q) l m))) (λ q. rw q (omega (arith, h t on m)))
