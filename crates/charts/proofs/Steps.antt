-- What a step can be: a refusal that leaves the state, or an effect (Ways.antt) of the record's action on a valid state, about a node below n.
use Rattle.std.specs.Prelude.{Err, Ok}
use Rattle.charts.specs.declared.Refusal.{Refusal}
use Rattle.charts.specs.declared.Refusal.TheVariants as Rf
use mathlib.Core.Path.{◌≡◌, refl, sym, ap, subst, ◌∙◌}
use mathlib.Core.Bool.{Bool, true, false, cond, ◌&&◌, not}
use mathlib.Core.List.{List, [], ◌∷◌}
use Prim.Native.Nat.{ℕ, ◌<◌, ◌≤◌}
use native.Mathlib.Omega.{arith}
use lib.Dec.{eqb, ltb}
use borrow.Author.Tests.{eqb-true, eqb-false, ltb-true, ltb-false, lt-ltb, not-false}
use Rattle.charts.specs.declared.Report.{Report}
use Rattle.charts.specs.declared.Report.TheVariants as R
use Rattle.charts.specs.declared.Phase.{Phase}
use Rattle.charts.specs.declared.Phase.TheVariants.{Idle, Busy, Delivering, Granting, Gapping}
use Rattle.charts.specs.declared.Cell.{Cell}
use Rattle.charts.specs.declared.Marking.{Marking}
use Rattle.charts.specs.declared.Marking.TheVariants as M
use Rattle.charts.specs.declared.Way.TheVariants.{Pass, Lose, Change}
use Rattle.charts.specs.declared.Move.{Move}
use Rattle.charts.specs.declared.Move.TheVariants.{Request, Arbitrate, Respond, Clock, Carry, Grant, GapNext, Reset, Ask, Decide}
use Rattle.charts.specs.declared.Action.{Action}
use Rattle.charts.specs.Records.{Decoded}
use Rattle.charts.specs.Numbers as N
use Rattle.charts.specs.Numbers.{number_of}
use Rattle.charts.specs.State.{State, pendings, remarked}
use Rattle.charts.specs.Actions.{Outcome, closed, does, next_of, target, when}
use Rattle.charts.specs.Records.{is_kind, names_node, names_address, names_packet, clean, is_address, is_own, is_label, move_of, bad_node, bad_address, bad_label, requests_itself, bad_answer, read}
use Rattle.charts.specs.Valid.{is_size, is_ack, packet_fits, phase_fits, cell_fits, valid}
use Rattle.charts.specs.Step.{Result, refuses, carry_out, about, play, look, step_with, step, after, Event, refusal, accepted, event_of, outcome_of, may_act}
use Rattle.charts.proofs.Tools.{never, and-true, both, pick_by, lowest_below, every_at, by_test}
use Rattle.charts.proofs.Ways.{Effect, effect}

-- the fields of a move are in their ranges: the node below n, the address an address and not the requester's own, the label at most 63, the acknowledgement at most 15
abbrev pub Known : ℕ → Move → Type 0
Known n (Request i p) = (i < n) × ((packet_fits n p ≡ true) × (is_own i p.to ≡ false))
Known n (Arbitrate i) = i < n
Known n (Respond i a h) = (i < n) × (is_ack a ≡ true)
Known n (Clock i) = i < n
Known n (Carry Pass) = Unit {0}
Known n (Carry Lose) = Unit {0}
Known n (Carry (Change b)) = is_address n b ≡ true
Known n Grant = Unit {0}
Known n GapNext = Unit {0}
Known n Reset = Unit {0}
Known n (Ask i) = i < n
Known n (Decide i) = i < n

implied_or : (a b : Bool) → a && not b ≡ false → a ≡ true → b ≡ true
implied_or true b e q = not-false b e
implied_or false b e q = never q

then_not : (a b : Bool) → a && b ≡ false → a ≡ true → b ≡ false
then_not true b e q = e
then_not false b e q = never q

-- no refusal has the number 0
pub refuses_it : (k : Refusal) → eqb (number_of k) N.accepted ≡ false
refuses_it Rf.WrongSize = refl
refuses_it Rf.WrongKind = refl
refuses_it Rf.StrayField = refl
refuses_it Rf.WrongNode = refl
refuses_it Rf.WrongAddress = refl
refuses_it Rf.WrongAnswer = refl
refuses_it Rf.NotOpen = refl
refuses_it Rf.WrongLength = refl
refuses_it Rf.WrongCheck = refl
refuses_it Rf.WrongOrder = refl
refuses_it Rf.WrongCount = refl
refuses_it Rf.NotValid = refl
refuses_it Rf.WrongLabel = refl
refuses_it Rf.TooDeep = refl
refuses_it Rf.ToItself = refl

-- 2 to 6, 13 and 15: what is accepted is the record's action with its fields in range
pub data Decodes (n : ℕ) (a : Action) : Decoded → Type 0 where
  turned : {k : Refusal} → Decodes n a (Err k)
  taken : Known n (move_of a) → Decodes n a (Ok (move_of a))

-- past kind 10 a node is named
names_last : (k : ℕ) → eqb k 5 ≡ false → eqb k 6 ≡ false → eqb k 7 ≡ false → eqb k 8 ≡ false → eqb k 9 ≡ false → eqb k 10 ≡ false → names_node k ≡ true
names_last k e5 e6 e7 e8 e9 e10 =
    by_test (ltb k 5) (λ e. rw e) λ e.
    rw (e, lt-ltb 10 k (omega (arith, ltb-false k 5 e, eqb-false k 5 e5, eqb-false k 6 e6, eqb-false k 7 e7, eqb-false k 8 e8, eqb-false k 9 e9, eqb-false k 10 e10)))

move_known : (n : ℕ) (a : Action) → (names_node a.kind ≡ true → a.node < n) → (names_address a.kind ≡ true → is_address n a.address ≡ true) → (names_packet a.kind ≡ true → is_label a.label ≡ true) → (names_packet a.kind ≡ true → is_own a.node a.address ≡ false) → is_ack a.ack ≡ true → Known n (move_of a)
unfolding move_of
move_known n a node addr label other ack =
    pick_by K (eqb k 1) _ _ (λ e. (node (ap names_node (eqb-true k 1 e)), (both (is_address n a.address) _ (addr (ap names_address (eqb-true k 1 e))) (label e), other e))) λ e1.
    pick_by K (eqb k 2) _ _ (λ e. node (ap names_node (eqb-true k 2 e))) λ e2.
    pick_by K (eqb k 3) _ _ (λ e. (node (ap names_node (eqb-true k 3 e)), ack)) λ e3.
    pick_by K (eqb k 4) _ _ (λ e. node (ap names_node (eqb-true k 4 e))) λ e4.
    pick_by K (eqb k 5) _ _ (λ e. tt) λ e5.
    pick_by K (eqb k 6) _ _ (λ e. tt) λ e6.
    pick_by K (eqb k 7) _ _ (λ e. addr (ap names_address (eqb-true k 7 e))) λ e7.
    pick_by K (eqb k 8) _ _ (λ e. tt) λ e8.
    pick_by K (eqb k 9) _ _ (λ e. tt) λ e9.
    pick_by K (eqb k 10) _ _ (λ e. tt) λ e10.
    pick_by K (eqb k 11) _ _ (λ e. node (ap names_node (eqb-true k 11 e))) λ e11. node (names_last k e5 e6 e7 e8 e9 e10)
  where
    k : ℕ
    k = a.kind

    K : Move → Type 0
    K = Known n

pub decodes : (n : ℕ) (a : Action) → Decodes n a (read n a)
unfolding read
decodes n a =
    pick_by (Decodes n a) (not (is_kind a.kind)) _ _ (λ e. turned) λ e2.
    pick_by (Decodes n a) (not (clean a)) _ _ (λ e. turned) λ e3.
    pick_by (Decodes n a) (bad_node n a) _ _ (λ e. turned) λ e4.
    pick_by (Decodes n a) (bad_address n a) _ _ (λ e. turned) λ e5.
    pick_by (Decodes n a) (bad_label a) _ _ (λ e. turned) λ e13.
    pick_by (Decodes n a) (requests_itself a) _ _ (λ e. turned) λ e15.
    pick_by (Decodes n a) (bad_answer a) _ _ (λ e. turned) λ e6.
    taken (move_known n a (λ u. ltb-true a.node n (implied_or _ _ e4 u)) (implied_or _ _ e5) (implied_or _ _ e13) (then_not _ _ e15) (and-true (ltb a.ack 16) _ (not-false _ e6)).0)

-- 12
pub record Valid (s : State) : Type 0 where
  pub two : 2 ≤ s.n
  pub small : s.n < 64
  pub phase_fits_lem : phase_fits s.n s.phase ≡ true
  pub cells_fit : (k : ℕ) → k < s.n → cell_fits s.n (s.cell k) ≡ true

pub is_valid : (s : State) → valid s ≡ true → Valid s
unfolding valid
is_valid s e =
    let a = and-true (is_size s.n) _ e in
    let b = and-true (ltb 1 s.n) _ a.0 in
    let c = and-true (phase_fits s.n s.phase) _ a.1 in
    record { two = ltb-true 1 s.n b.0; small = ltb-true s.n 64 b.1; phase_fits_lem = c.0; cells_fit = every_at (λ k. cell_fits s.n (s.cell k)) s.n c.1 }

-- the node that an action is about is below n
pub next_lt : (n : ℕ) (p : Phase) → 2 ≤ n → phase_fits n p ≡ true → next_of p < n
unfolding phase_fits
next_lt n Idle h e = omega arith
next_lt n Busy h e = omega arith
next_lt n (Delivering i g j) h e = ltb-true j n (and-true (ltb j n) _ (and-true (ltb i n) _ e).1).0
next_lt n Granting h e = omega arith
next_lt n (Gapping j) h e = ltb-true j n e

pub target_lt : (n : ℕ) (p : Phase) (ps : ℕ → Bool) → 2 ≤ n → phase_fits n p ≡ true → (m : Move) → Known n m → target n p ps m < n
target_lt n p ps h e (Request i q) k = k.0
target_lt n p ps h e (Arbitrate i) k = k
target_lt n p ps h e (Respond i a hold) k = k.0
target_lt n p ps h e (Clock i) k = k
target_lt n p ps h e (Carry w) k = next_lt n p h e
target_lt n p ps h e Grant k = lowest_below ps n 0 n (omega arith) (omega arith)
target_lt n p ps h e GapNext k = next_lt n p h e
target_lt n p ps h e Reset k = omega arith
target_lt n p ps h e (Ask i) k = k
target_lt n p ps h e (Decide i) k = k

about_lt : (s : State) → Valid s → (m : Move) → Known s.n m → about s m < s.n
about_lt s v m k = target_lt s.n s.phase (pendings s.cell) v.two v.phase_fits_lem m k

-- a step's answer with its event
pub data Stepped (s : State) (a : Action) : Result → Event → Type 0 where
  refused : {k : ℕ} → eqb k N.accepted ≡ false → Stepped s a (refuses s k) (refusal k)
  acts : {i : ℕ} {r : Report} {p : Phase} {c : Cell} {x : Marking} → Valid s → Known s.n (move_of a) → i < s.n → may_act s (move_of a) ≡ true → Effect s (move_of a) i (does r p c x) →
      Stepped s a (carry_out s i (does r p c x)) (accepted (move_of a) r)

pub stepped : (s : State) (a : Action) → Stepped s a (step s a) (event_of a (step s a))
unfolding step look play
stepped s a = pick_by (λ d. Stepped s a (step_with s d) (event_of a (step_with s d))) (valid s) (read s.n a) (Err Rf.NotValid) (λ e. go e (read s.n a) (decodes s.n a)) (λ e. turn Rf.NotValid)
  where
    out : valid s ≡ true → Known s.n (move_of a) → may_act s (move_of a) ≡ true → (o : Outcome) → Effect s (move_of a) (about s (move_of a)) o → Stepped s a (carry_out s (about s (move_of a)) o) (event_of a (carry_out s (about s (move_of a)) o))
    out e k f closed x = refused refl
    out e k f (does r p c y) x = acts (is_valid s e) k (about_lt s (is_valid s e) (move_of a) k) f x

    may : valid s ≡ true → Known s.n (move_of a) → (b : Bool) → may_act s (move_of a) ≡ b →
        Stepped s a (carry_out s (about s (move_of a)) (when b (outcome_of s (move_of a)))) (event_of a (carry_out s (about s (move_of a)) (when b (outcome_of s (move_of a)))))
    may e k true f = out e k f (outcome_of s (move_of a)) (effect s (move_of a))
    may e k false f = refused refl

    turn : (k : Refusal) → Stepped s a (refuses s (number_of k)) (cond (eqb (number_of k) N.accepted) (accepted (move_of a) R.Silent) (refusal (number_of k)))
    turn k = subst (λ b. Stepped s a (refuses s (number_of k)) (cond b (accepted (move_of a) R.Silent) (refusal (number_of k)))) (sym (refuses_it k)) (refused (refuses_it k))

    go : valid s ≡ true → (d : Decoded) → Decodes s.n a d → Stepped s a (step_with s d) (event_of a (step_with s d))
    go e (Err k) turned = turn k
    go e (Ok m) (taken k) = may e k (may_act s (move_of a)) refl

-- the number of nodes never changes
pub remarked_n : (x : Marking) (t : State) → (remarked x t).n ≡ t.n
remarked_n M.Nothing t = refl
remarked_n M.Misled t = refl
remarked_n M.Won t = refl
remarked_n (M.Concatenated b) t = refl

pub step_n : (s : State) (a : Action) → (step s a).state.n ≡ s.n
step_n s a = go (step s a) (event_of a (step s a)) (stepped s a)
  where
    go : (x : Result) (e : Event) → Stepped s a x e → x.state.n ≡ s.n
    go x e (refused q) = refl
    go x e (acts {x = y} v k l f z) = remarked_n y _

pub run_n : (s : State) (l : List Action) → (after s l).n ≡ s.n
run_n s [] = refl
run_n s (a ∷ l) = run_n (step s a).state l ∙ step_n s a
