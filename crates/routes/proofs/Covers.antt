-- The choices cover all that can be open: every record of kinds 4 to 9 that is accepted in a state is one of them. Assumes nothing.
use mathlib.Core.Path.{◌≡◌, refl, sym, ap, ap₂, subst, ◌∙◌}
use mathlib.Core.Bool.{Bool, true, false, cond, ◌&&◌, ◌||◌, not}
use Prim.Native.Nat.{ℕ, suc, ◌<◌}
use native.Mathlib.Omega.{arith}
use lib.Dec.{eqb, ltb}
use borrow.Author.Tests.{eqb-true, eqb-false, ltb-true}
use Rattle.charts.specs.declared.Signal.{Signal}
use Rattle.charts.specs.declared.Signal.TheVariants.{Start, End, Prefix, Gap, Dhead, Dest, Header, Data, Ack}
use Rattle.charts.specs.declared.Phase.{Phase}
use Rattle.charts.specs.declared.Phase.TheVariants.{Idle, Busy, Delivering, Granting, Gapping}
use Rattle.charts.specs.declared.Way.TheVariants.{Pass, Lose, Change}
use Rattle.charts.specs.declared.Cell.{Cell}
use Rattle.charts.specs.declared.Action.{Action}
use Rattle.std.specs.Prelude.{Ok, Err}
use Rattle.charts.specs.declared.Refusal.TheVariants as Rf
use Rattle.charts.specs.Signals.{everybody}
use Rattle.charts.specs.Reception.{hears}
use Rattle.charts.specs.Arrivals.{arrives}
use Rattle.charts.specs.State.{State}
use Rattle.charts.specs.Actions.{Outcome, closed, does, when, carry, clock, grant, gap, outcome}
use Rattle.charts.specs.Records.{Decoded, is_kind, names_node, names_address, names_answer, names_packet, clean, named, is_address, move_of, read}
use Rattle.charts.specs.Valid.{valid}
use Rattle.charts.specs.Step.{carry_out, about, may_act, outcome_of, comes_to, look, step_with, step, is_accepted}
use Rattle.charts.specs.Routes.{is_bus_event}
use Rattle.charts.proofs.Tools.{never, and-true, by_test}
use Rattle.charts.proofs.Steps.{Known, Decodes, turned, taken, decodes}
use Rattle.charts.proofs.Open.{step_is, open_reads}
use Rattle.routes.specs.Choices.{ways, choices, way_of, choice}
use Rattle.routes.proofs.Order.{change_to_node, change_to_all, changes_next}

-- a record is one of the choices in a phase
pub record Among (n : ℕ) (p : Phase) (a : Action) : Type 0 where
  pub place : ℕ
  pub below : place < choices n p
  pub there : choice n p place ≡ a

-- an outcome that is not closed
abbrev is_does : Outcome → Bool
is_does closed = false
is_does (does r p c x) = true

accepts : (s : State) (i : ℕ) (o : Outcome) → is_accepted (carry_out s i o) ≡ true → is_does o ≡ true
accepts s i closed e = never e
accepts s i (does r p c x) e = refl

when_does : (b : Bool) (o : Outcome) → is_does (when b o) ≡ true → is_does o ≡ true
when_does true o e = e
when_does false o e = never e

abbrev is_taken : Decoded → Bool
is_taken (Err k) = false
is_taken (Ok m) = true

-- what is accepted was handed in with a valid state, and its action has its fields in range and is not closed
pub open_valid : (s : State) (a : Action) → is_accepted (step s a) ≡ true → valid s ≡ true
unfolding step look
open_valid s a e = by_test (valid s) (λ v. v) (λ v. never (sym (ap (λ b. is_accepted (step_with s (cond b (read s.n a) (Err Rf.NotValid)))) v) ∙ e))

is_known : (s : State) (a : Action) → is_accepted (step s a) ≡ true → Known s.n (move_of a)
is_known s a e = go (read s.n a) (decodes s.n a) (open_reads s a e)
  where
    go : (d : Decoded) → Decodes s.n a d → d ≡ Ok (move_of a) → Known s.n (move_of a)
    go (Err k) turned q = never (ap is_taken q)
    go (Ok m) (taken k) q = k

acts_on : (s : State) (a : Action) → is_accepted (step s a) ≡ true → is_does (outcome_of s (move_of a)) ≡ true
acts_on s a e =
    when_does (may_act s (move_of a)) (outcome_of s (move_of a))
    (accepts s (about s (move_of a)) (comes_to s (move_of a)) (sym (ap is_accepted (step_is s (open_valid s a e) a (move_of a) (open_reads s a e))) ∙ e))

-- by phases: the clock of a node below n; grant; gap
clock_among : (n : ℕ) (p : Phase) (i : ℕ) (c : Cell) (hs : ℕ → Bool) → i < n → is_does (clock n p i c hs) ≡ true → Among n p (named 4 i 0)
unfolding clock choice
clock_among n Idle i c hs l e = never e
clock_among n Busy i c hs l e = record { place = i; below = l; there = refl }
clock_among n (Delivering w g j) i c hs l e = never e
clock_among n Granting i c hs l e = never e
clock_among n (Gapping j) i c hs l e = never e

grant_among : (n : ℕ) (p : Phase) (i : ℕ) (c : Cell) (ps : ℕ → Bool) → is_does (grant n p i c ps) ≡ true → Among n p (named 8 0 0)
unfolding grant choice
grant_among n Idle i c ps e = never e
grant_among n Busy i c ps e = never e
grant_among n (Delivering w g j) i c ps e = never e
grant_among n Granting i c ps e = record { place = 0; below = omega arith; there = refl }
grant_among n (Gapping j) i c ps e = never e

gap_among : (n : ℕ) (p : Phase) (c : Cell) → is_does (gap hears n p c) ≡ true → Among n p (named 9 0 0)
unfolding gap choice
gap_among n Idle c e = never e
gap_among n Busy c e = never e
gap_among n (Delivering w g j) c e = never e
gap_among n Granting c e = never e
gap_among n (Gapping j) c e = record { place = 0; below = omega arith; there = refl }

-- pass is open while a signal is delivered, lose for a Header, Data or Ack
passes_among : (n w : ℕ) (g : Signal) (j : ℕ) → Among n (Delivering w g j) (named 5 0 0)
unfolding choice way_of
passes_among n w g j = record { place = 0; below = first g; there = refl }
  where
    first : (g : Signal) → 0 < ways n g
    first Start = omega arith
    first End = omega arith
    first Prefix = omega arith
    first Gap = omega arith
    first Dhead = omega arith
    first (Dest a) = omega arith
    first (Header h c) = omega arith
    first (Data d c) = omega arith
    first (Ack a c) = omega arith

pass_among : (n : ℕ) (p : Phase) (c : Cell) (ps : ℕ → Bool) → is_does (carry hears n p c ps Pass) ≡ true → Among n p (named 5 0 0)
unfolding carry
pass_among n Idle c ps e = never e
pass_among n Busy c ps e = never e
pass_among n (Delivering w g j) c ps e = passes_among n w g j
pass_among n Granting c ps e = never e
pass_among n (Gapping j) c ps e = never e

lose_among : (n : ℕ) (p : Phase) (c : Cell) (ps : ℕ → Bool) → is_does (carry hears n p c ps Lose) ≡ true → Among n p (named 6 0 0)
unfolding carry arrives choice way_of
lose_among n Idle c ps e = never e
lose_among n Busy c ps e = never e
lose_among n (Delivering w Start j) c ps e = never e
lose_among n (Delivering w End j) c ps e = never e
lose_among n (Delivering w Prefix j) c ps e = never e
lose_among n (Delivering w Gap j) c ps e = never e
lose_among n (Delivering w Dhead j) c ps e = never e
lose_among n (Delivering w (Dest a) j) c ps e = never e
lose_among n (Delivering w (Header h x) j) c ps e = record { place = 1; below = omega arith; there = refl }
lose_among n (Delivering w (Data d x) j) c ps e = record { place = 1; below = omega arith; there = refl }
lose_among n (Delivering w (Ack a x) j) c ps e = record { place = 1; below = omega arith; there = refl }
lose_among n Granting c ps e = never e
lose_among n (Gapping j) c ps e = never e

-- a Dest may be changed to every address, a Header, Data or Ack with the field 0
redirect_among : (n w a j b : ℕ) → is_address n b ≡ true → Among n (Delivering w (Dest a) j) (named 7 0 b)
unfolding choice
redirect_among n w a j b e = by_test (ltb b n) (λ l. record { place = suc b; below = omega (arith, ltb-true b n l); there = changes_next n a b ∙ change_to_node n b (ltb-true b n l) })
    (λ l. record { place = suc n; below = omega arith; there = changes_next n a n ∙ change_to_all n ∙ ap (named 7 0) (sym (eqb-true b everybody (sym (ap (λ x. x || eqb b everybody) l) ∙ e))) })

change_among : (n : ℕ) (p : Phase) (c : Cell) (ps : ℕ → Bool) (b : ℕ) → is_address n b ≡ true → is_does (carry hears n p c ps (Change b)) ≡ true → Among n p (named 7 0 b)
unfolding carry arrives choice way_of
change_among n Idle c ps b l e = never e
change_among n Busy c ps b l e = never e
change_among n (Delivering w Start j) c ps b l e = never e
change_among n (Delivering w End j) c ps b l e = never e
change_among n (Delivering w Prefix j) c ps b l e = never e
change_among n (Delivering w Gap j) c ps b l e = never e
change_among n (Delivering w Dhead j) c ps b l e = never e
change_among n (Delivering w (Dest a) j) c ps b l e = redirect_among n w a j b l
change_among n (Delivering w (Header h x) j) c ps b l e = by_test (eqb b 0) (λ z. record { place = 2; below = omega arith; there = ap (named 7 0) (sym (eqb-true b 0 z)) }) (λ z. never (rw z at e))
change_among n (Delivering w (Data d x) j) c ps b l e = by_test (eqb b 0) (λ z. record { place = 2; below = omega arith; there = ap (named 7 0) (sym (eqb-true b 0 z)) }) (λ z. never (rw z at e))
change_among n (Delivering w (Ack a x) j) c ps b l e = by_test (eqb b 0) (λ z. record { place = 2; below = omega arith; there = ap (named 7 0) (sym (eqb-true b 0 z)) }) (λ z. never (rw z at e))
change_among n Granting c ps b l e = never e
change_among n (Gapping j) c ps b l e = never e

-- the fields that a kind doesn't name are 0
unnamed : (names : Bool) (x : ℕ) → names || eqb x 0 ≡ true → names ≡ false → x ≡ 0
unnamed true x e q = never (sym q)
unnamed false x e q = eqb-true x 0 e

-- what is open is clean
taken_clean : (x y : Bool) (d : Decoded) → is_taken (cond (not x) (Err Rf.WrongKind) (cond (not y) (Err Rf.StrayField) d)) ≡ true → y ≡ true
taken_clean true true d e = refl
taken_clean true false d e = never e
taken_clean false y d e = never e

open_clean : (s : State) (a : Action) → is_accepted (step s a) ≡ true → clean a ≡ true
unfolding read
open_clean s a e = taken_clean (is_kind a.kind) (clean a) _ (ap is_taken (open_reads s a e))

-- a record that is clean, of a kind that names neither answer nor packet
plain : (a : Action) → clean a ≡ true → names_answer a.kind ≡ false → names_packet a.kind ≡ false → a ≡ named a.kind a.node a.address
unfolding clean
plain a e p q =
    let b6 = and-true (eqb a.byte6 0) _ e in
    let b7 = and-true (eqb a.byte7 0) _ b6.1 in
    let node = and-true (names_node a.kind || eqb a.node 0) _ b7.1 in
    let address = and-true (names_address a.kind || eqb a.address 0) _ node.1 in
    let rest = and-true (names_answer a.kind || (eqb a.ack 0 && eqb a.hold 0)) _ address.1 in
    let answer = and-true (eqb a.ack 0) _ (sym (ap (λ x. x || (eqb a.ack 0 && eqb a.hold 0)) p) ∙ rest.0) in
    let packet = and-true (eqb a.label 0) _ (sym (ap (λ x. x || (eqb a.label 0 && (eqb a.header 0 && eqb a.datum 0))) q) ∙ rest.1) in
    let data' = and-true (eqb a.header 0) _ packet.1 in
    zeros a (eqb-true _ 0 b6.0) (eqb-true _ 0 b7.0) (eqb-true _ 0 answer.0) (eqb-true _ 0 answer.1) (eqb-true _ 0 packet.0) (eqb-true _ 0 data'.0) (eqb-true _ 0 data'.1)
  where
    zeros : (a : Action) → a.byte6 ≡ 0 → a.byte7 ≡ 0 → a.ack ≡ 0 → a.hold ≡ 0 → a.label ≡ 0 → a.header ≡ 0 → a.datum ≡ 0 →
        record { kind = a.kind; node = a.node; address = a.address; ack = a.ack; hold = a.hold; label = a.label; byte6 = a.byte6; byte7 = a.byte7; header = a.header; datum = a.datum } ≡ named a.kind a.node a.address
    zeros a e6 e7 ea eh el eh' ed = rw (e6, e7, ea, eh, el, eh', ed)

-- a record of kind k that is open, which names neither answer nor packet: it is plain, and 0 where the kind names no node, no address
module _ (s : State) (a : Action) (o : is_accepted (step s a) ≡ true) where
  known : (k i b : ℕ) → a ≡ named k i b → Known s.n (move_of (named k i b))
  known k i b q = is_known s (named k i b) (subst (λ a. is_accepted (step s a) ≡ true) q o)

  done : (k i b : ℕ) → a ≡ named k i b → is_does (outcome_of s (move_of (named k i b))) ≡ true
  done k i b q = acts_on s (named k i b) (subst (λ a. is_accepted (step s a) ≡ true) q o)

  is_named : (k : ℕ) → a.kind ≡ k → names_answer k ≡ false → names_packet k ≡ false → a ≡ named k a.node a.address
  is_named k e p q = plain a (open_clean s a o) (ap names_answer e ∙ p) (ap names_packet e ∙ q) ∙ ap (λ k. named k a.node a.address) e

  no_node : (k : ℕ) → a.kind ≡ k → names_node k ≡ false → a.node ≡ 0
  unfolding clean
  no_node k e p = unnamed (names_node a.kind) a.node (and-true (names_node a.kind || eqb a.node 0) _ (and-true (eqb a.byte7 0) _ (and-true (eqb a.byte6 0) _ (open_clean s a o)).1).1).0 (ap names_node e ∙ p)

  no_address : (k : ℕ) → a.kind ≡ k → names_address k ≡ false → a.address ≡ 0
  unfolding clean
  no_address k e p = unnamed (names_address a.kind) a.address
      (and-true (names_address a.kind || eqb a.address 0) _ (and-true (names_node a.kind || eqb a.node 0) _ (and-true (eqb a.byte7 0) _ (and-true (eqb a.byte6 0) _ (open_clean s a o)).1).1).1).0 (ap names_address e ∙ p)

  here : (k i b : ℕ) → a ≡ named k i b → Among s.n s.phase (named k i b) → Among s.n s.phase a
  here k i b q x = subst (Among s.n s.phase) (sym q) x

  -- one of a kind that names nothing
  bare : (k : ℕ) → a.kind ≡ k → names_answer k ≡ false → names_packet k ≡ false → names_node k ≡ false → names_address k ≡ false → a ≡ named k 0 0
  bare k e p q i b = is_named k e p q ∙ ap₂ (named k) (no_node k e i) (no_address k e b)

  clocked : a.kind ≡ 4 → Among s.n s.phase a
  unfolding move_of outcome
  clocked e =
      let q = is_named 4 e refl refl ∙ ap (named 4 a.node) (no_address 4 e refl) in
      here 4 a.node 0 q (clock_among s.n s.phase a.node _ _ (known 4 a.node 0 q) (done 4 a.node 0 q))

  passed : a.kind ≡ 5 → Among s.n s.phase a
  unfolding move_of outcome
  passed e = let q = bare 5 e refl refl refl refl in here 5 0 0 q (pass_among s.n s.phase _ _ (done 5 0 0 q))

  lost : a.kind ≡ 6 → Among s.n s.phase a
  unfolding move_of outcome
  lost e = let q = bare 6 e refl refl refl refl in here 6 0 0 q (lose_among s.n s.phase _ _ (done 6 0 0 q))

  changed : a.kind ≡ 7 → Among s.n s.phase a
  unfolding move_of outcome
  changed e =
      let q = is_named 7 e refl refl ∙ ap (λ i. named 7 i a.address) (no_node 7 e refl) in
      here 7 0 a.address q (change_among s.n s.phase _ _ a.address (known 7 0 a.address q) (done 7 0 a.address q))

  granted : a.kind ≡ 8 → Among s.n s.phase a
  unfolding move_of outcome
  granted e = let q = bare 8 e refl refl refl refl in here 8 0 0 q (grant_among s.n s.phase _ _ _ (done 8 0 0 q))

  gapped : a.kind ≡ 9 → Among s.n s.phase a
  unfolding move_of outcome
  gapped e = let q = bare 9 e refl refl refl refl in here 9 0 0 q (gap_among s.n s.phase _ (done 9 0 0 q))

  -- every record of kinds 4 to 9 that is open is one of the choices
  pub covers : is_bus_event a ≡ true → Among s.n s.phase a
  covers e =
      let b = and-true (ltb 3 a.kind) _ e in
      by_test (eqb a.kind 4) (λ k. clocked (eqb-true _ 4 k)) λ e4.
      by_test (eqb a.kind 5) (λ k. passed (eqb-true _ 5 k)) λ e5.
      by_test (eqb a.kind 6) (λ k. lost (eqb-true _ 6 k)) λ e6.
      by_test (eqb a.kind 7) (λ k. changed (eqb-true _ 7 k)) λ e7.
      by_test (eqb a.kind 8) (λ k. granted (eqb-true _ 8 k)) λ e8.
      gapped (omega (arith, ltb-true 3 a.kind b.0, ltb-true a.kind 10 b.1, eqb-false a.kind 4 e4, eqb-false a.kind 5 e5, eqb-false a.kind 6 e6, eqb-false a.kind 7 e7, eqb-false a.kind 8 e8))
