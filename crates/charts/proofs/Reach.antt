-- What holds of every state that a run reaches: each node's marks say what its mode is, one that is Asked has a full buffer, the bus is at one of the stages, and while it is marked nobody
-- will hold it again. Then what follows of who holds the bus.
use mathlib.Core.Path.{◌≡◌, refl, sym, ap, subst, ◌∙◌}
use mathlib.Core.Logic.{◌≢◌}
use mathlib.Core.Bool.{Bool, true, false, ◌&&◌, ◌||◌, not}
use mathlib.Core.List.{List, [], ◌∷◌}
use Prim.Native.Nat.{ℕ, ◌<◌, ◌≤◌, ◌+◌}
use native.Mathlib.Omega.{arith}
use lib.Dec.{T, eqb, ltb}
use borrow.Author.Tests.{eqb-true, eqb-false, ltb-true, ltb-false, eq-eqb, not-true}
use Rattle.charts.specs.declared.Mode.{Mode}
use Rattle.charts.specs.declared.Signal.{Signal}
use Rattle.charts.specs.declared.Cell.{Cell}
use Rattle.charts.specs.Modes as P
use Rattle.charts.specs.Modes.{place_of, is_asked}
use Rattle.charts.specs.Places.{step_in, hold_in}
use Rattle.charts.specs.State.{State, holders, others, every, all_below, fresh, is_empty}
use Rattle.charts.proofs.Tools.{never, clash, implies, implied, and-true, pick_by, table_at, others_off, mem, every_in, mem-sub}
use Rattle.charts.proofs.Places.{law_mode, owing, active, step_at, step_of}
use Rattle.charts.proofs.Stages.{Row, row_at, Turn, turn_at, quiet, clear_steps, Delivery, Talk, Stage, rank, undecided}

-- a node is pending where its mode owes, and a holder where its mode acts
abbrev pub Marks : Cell → Type 0
Marks c = (c.pending ≡ owing (place_of c.mode)) × (c.holder ≡ active (place_of c.mode))

-- a node that is Asked has a full buffer
abbrev pub Ready : Cell → Type 0
Ready c = is_asked c.mode ≡ true → is_empty c.buffer ≡ false

pub record Reach (s : State) : Type 0 where
  pub two : 2 ≤ s.n
  pub marks : (k : ℕ) → Marks (s.cell k)
  pub ready : (k : ℕ) → Ready (s.cell k)
  pub stage : Stage s.concatenated s.phase s.n s.cell
  pub last : s.concatenated ≡ true → (k : ℕ) → k < s.n → hold_in (s.cell k).mode ≡ false

pub start : (n : ℕ) → 2 ≤ n → Reach (fresh n)
start n h = record { two = h; marks = λ k. (refl, refl); ready = λ k e. never e; stage = record { unmarked = refl; rests = λ k l. refl }; last = λ e. never e }

-- what is left to do: for the stage, and for the nodes that are Asked
abbrev pub to_go : (s : State) → Reach s → ℕ
to_go s r = rank s.concatenated s.phase s.n s.cell r.stage + undecided s.cell s.n

-- the places of a node that was told of a packet and answers
abbrev pub answerers : List ℕ
answerers = P.told ∷ P.answering ∷ P.acking ∷ []

-- steps and places: a step below 30 is the place; a place that does not act is the step
place_of_step : (p k : ℕ) → step_at p k < 30 → p ≡ step_at p k
place_of_step p k =
    pick_by (λ x. x < 30 → p ≡ x) (eqb p P.sending) _ _ (λ e l. absurd (omega arith)) λ e.
    pick_by (λ x. x < 30 → p ≡ x) (eqb p P.acking) _ _ (λ e l. absurd (omega arith)) (λ e l. refl)

pub mem_below : (c : ℕ) (l : List ℕ) (b : ℕ) → all_below l b ≡ true → mem c l ≡ true → c < b
mem_below c [] b t h = never h
mem_below c (x ∷ l) b t h = go (eqb c x) refl (mem_below c l b (and-true (ltb x b) _ t).1) h
  where
    go : (q : Bool) → eqb c x ≡ q → (mem c l ≡ true → c < b) → q || mem c l ≡ true → c < b
    go true e r h = subst (λ y. y < b) (sym (eqb-true c x e)) (ltb-true x b (and-true (ltb x b) _ t).0)
    go false e r h = r h

pub low_place : (m : Mode) → step_of m < 30 → place_of m ≡ step_of m
low_place m l = place_of_step (place_of m) (step_in m) l

-- a list of steps below 30, as places
pub low_places : (k l : List ℕ) → every_in k l ≡ true → all_below k 30 ≡ true → (m : Mode) → mem (step_of m) k ≡ true → mem (place_of m) l ≡ true
low_places k l t u m h = subst (λ c. mem c l ≡ true) (sym (low_place m (mem_below (step_of m) k 30 u h))) (mem-sub k l t (step_of m) h)

pub step_place : (m : Mode) → active (place_of m) ≡ false → step_of m ≡ place_of m
step_place m a =
    let y = and-true (not (eqb (place_of m) P.sending)) _ (implied (not (active (place_of m))) _ (law_mode (λ p. implies (not (active p)) (not (eqb p P.sending) && not (eqb p P.acking))) tt m) (ap not a)) in
    let u : eqb (place_of m) P.sending ≡ false = not-true _ y.0 in
    let v : eqb (place_of m) P.acking ≡ false = not-true _ y.1 in
    rw (u, v)

-- places that do not act
abbrev pub passive : List ℕ
passive =
    P.rest ∷ P.asked ∷ P.await_ack ∷ P.ack_body ∷ P.ack_good ∷ P.ack_none ∷ P.opened ∷ P.addressed ∷ P.head_own ∷ P.head_all ∷ P.body_own ∷ P.body_all
    ∷ P.tail_own_good ∷ P.tail_own_bad ∷ P.tail_all_good ∷ P.tail_all_bad ∷ P.wait ∷ P.owed ∷ P.told ∷ P.listening ∷ []

pub is_passive : (l : List ℕ) → every_in l passive ≡ true → (m : Mode) → mem (place_of m) l ≡ true → active (place_of m) ≡ false
is_passive l t m h = not-true _ (implied _ _ (law_mode (λ p. implies (mem p passive) (not (active p))) tt m) (mem-sub l passive t (place_of m) h))

-- a list of passive places, as steps
pub passive_steps : (k l : List ℕ) → every_in k l ≡ true → every_in k passive ≡ true → (m : Mode) → mem (place_of m) k ≡ true → mem (step_of m) l ≡ true
passive_steps k l t u m h = subst (λ c. mem c l ≡ true) (sym (step_place m (is_passive k u m h))) (mem-sub k l t (place_of m) h)

-- a node in an acting mode is the one whose turn it is, or the sender
pub is_talker : (b : Bool) (n : ℕ) (f : ℕ → Cell) (a : Talk b n f) (k : ℕ) → k < n → active (place_of (f k).mode) ≡ true → k ≡ a.w
is_talker b n f a k l z = go (eqb k a.w) refl
  where
    go : (b : Bool) → eqb k a.w ≡ b → k ≡ a.w
    go true e = eqb-true k a.w e
    go false e = clash _ z (is_passive (turn_at a.t).room (table_at (λ t. every_in (turn_at t).room passive) 17 tt a.t a.t_lt) (f k).mode (a.room k l (eqb-false k a.w e)))

pub is_sender : (b : Bool) (n : ℕ) (f : ℕ → Cell) (w : ℕ) (g : Signal) (j : ℕ) (a : Delivery b n f w g j) (k : ℕ) → k < n → active (place_of (f k).mode) ≡ true → k ≡ w
is_sender b n f w g j a k l z = go (eqb k w) (ltb k j) refl refl
  where
    off : (h : Row → List ℕ) → T (every (λ d. every_in (h (row_at d)) passive) 22) → mem (place_of (f k).mode) (h (row_at a.d)) ≡ true → active (place_of (f k).mode) ≡ false
    off h t x = is_passive (h (row_at a.d)) (table_at (λ d. every_in (h (row_at d)) passive) 22 t a.d a.d_lt) (f k).mode x

    go : (b c : Bool) → eqb k w ≡ b → ltb k j ≡ c → k ≡ w
    go true c e q = eqb-true k w e
    go false true e q = clash _ z (off (λ r. r.after) tt (a.after k l (eqb-false k w e) (ltb-true k j q)))
    go false false e q = clash _ z (off (λ r. r.before) tt (a.before k l (eqb-false k w e) (ltb-false k j q)))

-- a fact of the row in which a node of step c sends, and of the turn of a node of step c
pub row_fact : (b : Bool) (n : ℕ) (f : ℕ → Cell) (w : ℕ) (g : Signal) (j : ℕ) (a : Delivery b n f w g j) (c : ℕ) → step_of (f w).mode ≡ c → (h : Row → Bool) → T (every (λ d. implies (mem c (row_at d).sender) (h (row_at d))) 22) → h (row_at a.d) ≡ true
row_fact b n f w g j a c e h t =
    implied _ _ (table_at (λ d. implies (mem c (row_at d).sender) (h (row_at d))) 22 t a.d a.d_lt) (ap (λ c. mem c (row_at a.d).sender) (sym e) ∙ a.sender)

pub turn_fact : (b : Bool) (n : ℕ) (f : ℕ → Cell) (a : Talk b n f) (c : ℕ) → step_of (f a.w).mode ≡ c → (h : Turn → Bool) → T (every (λ t. implies (eqb (turn_at t).step c) (h (turn_at t))) 17) → h (turn_at a.t) ≡ true
turn_fact b n f a c e h t =
    implied _ _ (table_at (λ t. implies (eqb (turn_at t).step c) (h (turn_at t))) 17 t a.t a.t_lt) (eq-eqb _ _ (sym a.talker ∙ e))

-- no node of step c has a turn
pub no_turn : (b : Bool) (n : ℕ) (f : ℕ → Cell) (a : Talk b n f) (c : ℕ) → T (every (λ t. not (eqb (turn_at t).step c)) 17) → step_of (f a.w).mode ≡ c → ⊥
no_turn b n f a c t e = clash _ (eq-eqb _ _ (sym a.talker ∙ e)) (not-true _ (table_at (λ t. not (eqb (turn_at t).step c)) 17 t a.t a.t_lt))

-- while the bus clears, a node of step c that is not in the list cannot be
pub not_clearing : (n : ℕ) (f : ℕ → Cell) → ((k : ℕ) → k < n → mem (step_of (f k).mode) clear_steps ≡ true) → (i : ℕ) → i < n → mem (step_of (f i).mode) clear_steps ≡ false → ⊥
not_clearing n f a i l e = clash _ (a i l) e

-- and the nodes other than a sole holder are quiet
pub sole_quiet : (s : State) → ((k : ℕ) → Marks (s.cell k)) → ((k : ℕ) → k < s.n → mem (step_of (s.cell k).mode) clear_steps ≡ true) → (i : ℕ) → others (holders s.cell) i s.n ≡ false →
    (k : ℕ) → k < s.n → k ≢ i → mem (place_of (s.cell k).mode) quiet ≡ true
sole_quiet s ms a i o k l q =
    let x = (s.cell k).mode in
    let z : active (place_of x) ≡ false = sym (ms k).1 ∙ others_off (holders s.cell) s.n i o k l q in
    let t : mem (place_of x) clear_steps ≡ true = ap (λ c. mem c clear_steps) (sym (step_place x z)) ∙ a k l in
    implied _ _ (implied (mem (place_of x) clear_steps) _ (law_mode (λ p. implies (mem p clear_steps) (implies (not (active p)) (mem p quiet))) tt x) t) (ap not z)
