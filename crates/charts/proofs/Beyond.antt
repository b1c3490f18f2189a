-- "Records and marks of nodes from n on are neither read nor changed" (number 12): `untouched` and `unread`.
use Rattle.std.specs.Prelude.{Err, Ok}
use mathlib.Core.Path.{◌≡◌, refl, ap, ap₂, subst, ◌∙◌}
use mathlib.Core.Logic.{◌≢◌}
use mathlib.Core.Bool.{Bool, false, cond, ◌&&◌, ◌||◌, not}
use Prim.Native.Nat.{ℕ, zero, suc, ◌<◌, ◌≤◌}
use native.Mathlib.Omega.{arith}
use lib.Dec.{eqb, ltb}
use borrow.Author.Tests.{le-ltb}
use Rattle.charts.specs.declared.Phase.{Phase}
use Rattle.charts.specs.declared.Phase.TheVariants.{Idle, Busy, Delivering, Granting, Gapping}
use Rattle.charts.specs.declared.Cell.{Cell}
use Rattle.charts.specs.declared.Output.{Output}
use Rattle.charts.specs.declared.Output.TheVariants as O
use Rattle.charts.specs.declared.Way.{Way}
use Rattle.charts.specs.declared.Arrival.{Arrival}
use Rattle.charts.specs.declared.Arrival.TheVariants as A
use Rattle.charts.specs.declared.Marking.{Marking}
use Rattle.charts.specs.declared.Marking.TheVariants as M
use Rattle.charts.specs.declared.Move.{Move}
use Rattle.charts.specs.declared.Move.TheVariants.{Request, Arbitrate, Respond, Clock, Carry, Grant, GapNext, Reset, Ask, Decide}
use Rattle.charts.specs.declared.Action.{Action}
use Rattle.charts.specs.Records.{Decoded}
use Rattle.charts.specs.Modes.{is_asked}
use Rattle.charts.specs.Reception.{hears}
use Rattle.charts.specs.Numbers as N
use Rattle.charts.specs.Numbers.{number_of}
use Rattle.charts.specs.Reception.{hears}
use Rattle.charts.specs.Outputs.{output}
use Rattle.charts.specs.Arrivals.{arrives}
use Rattle.charts.specs.State.{State, is_busy, set_misled, set_won, wons, pendings, holders, upd, some, others, every, lowest, moved, remarked, askers}
use Rattle.charts.specs.Actions.{Outcome, closed, does, when, request, arbitrate, respond, clock_with, clock, receives, deliver_with, carry, grant, gap, reset, next_of, outcome, ask, decide, waits_for_asked}
use Rattle.charts.specs.Records.{move_of, read}
use Rattle.charts.specs.Valid.{cell_fits, valid}
use Rattle.charts.specs.Step.{Result, Event, refuses, carry_out, about, outcome_of, comes_to, play, look, step_with, step}
use Rattle.charts.proofs.Tools.{and_yes, pick_by, upd_other, some_agree, lowest_below}
use Rattle.charts.proofs.Steps.{Known, Decodes, taken, decodes, Valid, is_valid, next_lt, Stepped, refused, acts, stepped}

-- not changed: an action is about a node below n, and marks are cleared below n only
remarked_beyond : (x : Marking) (s : State) (k : ℕ) → s.n ≤ k → (remarked x s).cell k ≡ s.cell k
remarked_beyond M.Nothing s k h = refl
remarked_beyond M.Misled s k h = rw (le-ltb k s.n h, and_yes (s.cell k).misled) refl
remarked_beyond M.Won s k h = rw (le-ltb k s.n h, and_yes (s.cell k).won) refl
remarked_beyond (M.Concatenated b) s k h = refl

pub untouched : (s : State) (a : Action) (k : ℕ) → s.n ≤ k → (step s a).state.cell k ≡ s.cell k
untouched s a k h = go (stepped s a)
  where
    go : {r : Result} {w : Event} → Stepped s a r w → r.state.cell k ≡ s.cell k
    go (refused q) = refl
    go (acts {i} {r} {p} {c} {x} v q l f w) = let d : k ≢ i = (λ z. omega arith) in remarked_beyond x (moved s p i c) k h ∙ upd_other s.cell i c k d

-- not read: two states that agree in n, in the phase, in the mark of the bus and in the cells below n ..
pub record Agree (s t : State) : Type 0 where
  pub same_n : s.n ≡ t.n
  pub same_phase : s.phase ≡ t.phase
  pub same_mark : s.concatenated ≡ t.concatenated
  pub same_cells : (k : ℕ) → k < s.n → s.cell k ≡ t.cell k

-- .. are answered alike, and the states after agree again
pub record Alike (r q : Result) : Type 0 where
  pub same_number : r.number ≡ q.number
  pub same_report : r.report ≡ q.report
  pub agree_again : Agree r.state q.state

-- scans of marks that agree below n
others_agree : (u v : ℕ → Bool) (i n : ℕ) → ((k : ℕ) → k < n → u k ≡ v k) → (b : Bool) → some (upd u i b) n ≡ some (upd v i b) n
others_agree u v i n h b = some_agree (upd u i b) (upd v i b) n (λ k l. ap (cond (eqb k i) b) (h k l))

every_agree : (u v : ℕ → Bool) (n : ℕ) → ((k : ℕ) → k < n → u k ≡ v k) → every u n ≡ every v n
every_agree u v zero h = refl
every_agree u v (suc n) h = ap₂ ◌&&◌ (h n (omega arith)) (every_agree u v n (λ k l. h k (omega arith)))

lowest_agree : (u v : ℕ → Bool) (n d : ℕ) → ((k : ℕ) → k < n → u k ≡ v k) → lowest u n d ≡ lowest v n d
lowest_agree u v zero d h = refl
lowest_agree u v (suc n) d h = rw (h n (omega arith)) (lowest_agree u v n (cond (v n) n d) (λ k l. h k (omega arith)))

-- the actions that scan marks
clock_agree : (n : ℕ) (ph : Phase) (i : ℕ) (c : Cell) (u v : ℕ → Bool) → others u i n ≡ others v i n → clock n ph i c u ≡ clock n ph i c v
unfolding clock
clock_agree n ph i c u v e = ap (when (is_busy ph)) (go (output i c.mode c.sending))
  where
    go : (o : Output) → clock_with n i c u o ≡ clock_with n i c v o
    go O.Nothing = refl
    go O.Frees = rw e refl
    go (O.Puts s m r) = rw e refl

carry_agree : (n : ℕ) (ph : Phase) (c : Cell) (u v : ℕ → Bool) (w : Way) → ((i : ℕ) (b : Bool) → some (upd u i b) n ≡ some (upd v i b) n) → carry hears n ph c u w ≡ carry hears n ph c v w
unfolding carry
carry_agree n Idle c u v w e = refl
carry_agree n Busy c u v w e = refl
carry_agree n (Delivering i s j) c u v w e = go (arrives w c.misled s)
  where
    go : (x : Arrival) → deliver_with hears n i s j c u x ≡ deliver_with hears n i s j c v x
    go A.Closed = refl
    go A.Lost = rw (e j c.pending) refl
    go (A.Hears t b) = rw (e j (c.pending || (receives hears j c t).pends)) refl
carry_agree n Granting c u v w e = refl
carry_agree n (Gapping j) c u v w e = refl

grant_agree : (n : ℕ) (ph : Phase) (i : ℕ) (c : Cell) (u v : ℕ → Bool) → some u n ≡ some v n → others u i n ≡ others v i n → grant n ph i c u ≡ grant n ph i c v
unfolding grant
grant_agree n ph i c u v e q = rw (e, q) refl

reset_agree : (n : ℕ) (ph : Phase) (c : Cell) (u v : ℕ → Bool) → some u n ≡ some v n → reset n ph c u ≡ reset n ph c v
unfolding reset
reset_agree n ph c u v e = rw e refl

-- a state with other cells, which agree below n
abbrev with_cells : State → (ℕ → Cell) → State
with_cells s g = record { n = s.n; phase = s.phase; concatenated = s.concatenated; cell = g }

module _ (s : State) (g : ℕ → Cell) (h : (k : ℕ) → k < s.n → s.cell k ≡ g k) where
  marks : {A : Type 0} (f : Cell → A) (k : ℕ) → k < s.n → f (s.cell k) ≡ f (g k)
  marks f k l = ap f (h k l)

  pend : (k : ℕ) → k < s.n → (s.cell k).pending ≡ (g k).pending
  pend k l = marks (λ c. c.pending) k l

  same_valid : valid s ≡ valid (with_cells s g)
  unfolding valid
  same_valid = rw (every_agree (λ k. cell_fits s.n (s.cell k)) (λ k. cell_fits s.n (g k)) s.n (marks (cell_fits s.n))) refl

  same_about : (m : Move) → about s m ≡ about (with_cells s g) m
  same_about (Request i p) = refl
  same_about (Arbitrate i) = refl
  same_about (Respond i a b) = refl
  same_about (Clock i) = refl
  same_about (Carry w) = refl
  same_about Grant = lowest_agree (pendings s.cell) (pendings g) s.n 0 pend
  same_about GapNext = refl
  same_about Reset = refl
  same_about (Ask i) = refl
  same_about (Decide i) = refl

  same_outcome : Valid s → (m : Move) → Known s.n m → outcome_of s m ≡ outcome_of (with_cells s g) m
  unfolding outcome
  same_outcome v (Request i p) k = ap (λ c. request s.phase c p) (h i k.0)
  same_outcome v (Arbitrate i) k = ap (arbitrate s.phase i) (h i k)
  same_outcome v (Respond i a b) k = ap (λ c. respond s.phase s.concatenated c a b) (h i k.0)
  same_outcome v (Clock i) k =
      ap (λ c. clock s.n s.phase i c (holders s.cell)) (h i k)
      ∙ clock_agree s.n s.phase i (g i) _ _ (others_agree (holders s.cell) (holders g) i s.n (marks (λ c. c.holder)) false)
  same_outcome v (Carry w) k =
      ap (λ c. carry hears s.n s.phase c (pendings s.cell) w) (h (next_of s.phase) (next_lt s.n s.phase v.two v.phase_fits_lem))
      ∙ carry_agree s.n s.phase (g (next_of s.phase)) _ _ w (λ i. others_agree (pendings s.cell) (pendings g) i s.n pend)
  same_outcome v Grant k =
      let i = lowest (pendings s.cell) s.n 0 in
      ap (λ c. grant s.n s.phase i c (pendings s.cell)) (h i (lowest_below (pendings s.cell) s.n 0 s.n (omega arith) (omega (arith, v.two))))
      ∙ grant_agree s.n s.phase i (g i) _ _ (some_agree (pendings s.cell) (pendings g) s.n pend) (others_agree (pendings s.cell) (pendings g) i s.n pend false)
      ∙ ap (λ i. grant s.n s.phase i (g i) (pendings g)) (same_about Grant)
  same_outcome v GapNext k = ap (gap hears s.n s.phase) (h (next_of s.phase) (next_lt s.n s.phase v.two v.phase_fits_lem))
  same_outcome v Reset k =
      ap (λ c. reset s.n s.phase c (wons s.cell)) (h 0 (omega (arith, v.two)))
      ∙ reset_agree s.n s.phase (g 0) _ _ (some_agree (wons s.cell) (wons g) s.n (marks (λ c. c.won)))
  same_outcome v (Ask i) k = ap (ask s.phase) (h i k)
  same_outcome v (Decide i) k = ap (decide s.phase i) (h i k)

  same_comes : Valid s → (m : Move) → Known s.n m → comes_to s m ≡ comes_to (with_cells s g) m
  same_comes v m k = ap₂ (λ b o. when (not (waits_for_asked m && b)) o) (some_agree (askers s.cell) (askers g) s.n (marks (λ c. is_asked c.mode))) (same_outcome v m k)

-- states that agree, with one cell changed alike and marks changed
moved_agree : (s t : State) (p : Phase) (i : ℕ) (c : Cell) → Agree s t → Agree (moved s p i c) (moved t p i c)
moved_agree s t p i c e = record { same_n = e.same_n; same_phase = refl; same_mark = e.same_mark; same_cells = λ k l. ap (cond (eqb k i) c) (e.same_cells k l) }

remarked_agree : (x : Marking) (s t : State) → Agree s t → Agree (remarked x s) (remarked x t)
remarked_agree M.Nothing s t e = e
remarked_agree M.Misled s t e =
    record { same_n = e.same_n; same_phase = e.same_phase; same_mark = e.same_mark; same_cells = λ k l. ap₂ (λ n c. set_misled (c.misled && not (ltb k n)) c) e.same_n (e.same_cells k l) }
remarked_agree M.Won s t e =
    record { same_n = e.same_n; same_phase = e.same_phase; same_mark = e.same_mark; same_cells = λ k l. ap₂ (λ n c. set_won (c.won && not (ltb k n)) c) e.same_n (e.same_cells k l) }
remarked_agree (M.Concatenated b) s t e = record { same_n = e.same_n; same_phase = e.same_phase; same_mark = refl; same_cells = e.same_cells }

refuse_alike : (s t : State) (k : ℕ) → Agree s t → Alike (refuses s k) (refuses t k)
refuse_alike s t k e = record { same_number = refl; same_report = refl; agree_again = e }

carry_out_alike : (s t : State) (i : ℕ) (o : Outcome) → Agree s t → Alike (carry_out s i o) (carry_out t i o)
carry_out_alike s t i closed e = refuse_alike s t N.not_open e
carry_out_alike s t i (does r p c x) e = record { same_number = refl; same_report = refl; agree_again = remarked_agree x (moved s p i c) (moved t p i c) (moved_agree s t p i c e) }

-- the step on a state and on one with other cells from n on
other_cells : (s : State) (g : ℕ → Cell) → ((k : ℕ) → k < s.n → s.cell k ≡ g k) → (a : Action) → Alike (step s a) (step (with_cells s g) a)
unfolding step look play
other_cells s g h a =
    rw (← same_valid s g h)
    (pick_by (λ d. Alike (step_with s d) (step_with (with_cells s g) d)) (valid s) _ _
    (λ v. go (is_valid s v) (read s.n a) (decodes s.n a)) (λ e. refuse_alike _ _ _ alike))
  where
    alike : Agree s (with_cells s g)
    alike = record { same_n = refl; same_phase = refl; same_mark = refl; same_cells = h }

    go : Valid s → (d : Decoded) → Decodes s.n a d → Alike (step_with s d) (step_with (with_cells s g) d)
    go v (Err k) q = refuse_alike _ _ (number_of k) alike
    go v (Ok m) (taken k) =
        rw (← same_comes s g h v (move_of a) k, ← same_about s g h (move_of a)) (carry_out_alike s (with_cells s g) (about s (move_of a)) (comes_to s (move_of a)) alike)

pub unread : (s t : State) (a : Action) → Agree s t → Alike (step s a) (step t a)
unread s t a e =
    subst (λ n. Alike (step s a) (step (record { n = n; phase = t.phase; concatenated = t.concatenated; cell = t.cell }) a)) e.same_n
    (subst (λ p. Alike (step s a) (step (record { n = s.n; phase = p; concatenated = t.concatenated; cell = t.cell }) a)) e.same_phase
    (subst (λ b. Alike (step s a) (step (record { n = s.n; phase = s.phase; concatenated = b; cell = t.cell }) a)) e.same_mark (other_cells s t.cell e.same_cells a)))
