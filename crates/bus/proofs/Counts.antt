-- The number of nodes that are Asked: what is counted in the arrays is the charts' number, and where it was right it stays right. Assumes nothing.
use mathlib.Core.Path.{◌≡◌, refl, sym, ap, subst, ◌∙◌}
use mathlib.Core.Bool.{Bool, true, false, cond, ◌&&◌}
use mathlib.Core.List.{List}
use Prim.Native.Nat.{ℕ, zero, suc, ◌+◌, ◌-◌, ◌≤◌}
use native.Mathlib.Omega.{arith}
use lib.Dec.{eqb, ltb}
use lib.ListN.{get_or, length, get_or-eq_default}
use borrow.Author.Tests.{eqb-true, ltb-true, ltb-false, lt-ltb}
use Rattle.charts.specs.declared.Node.{Node}
use Rattle.charts.specs.declared.Bus.{Bus}
use Rattle.charts.specs.declared.Played.{Played}
use Rattle.charts.specs.declared.Action.{Action}
use Rattle.charts.specs.declared.Move.{Move}
use Rattle.std.specs.Prelude.{Ok, Err}
use Rattle.charts.specs.Numbers.{err_number}
use Rattle.charts.specs.Modes.{is_asked}
use Rattle.charts.specs.State.{State, askers, pendings, count, moved}
use Rattle.charts.specs.Actions.{Outcome, closed, does, when}
use Rattle.charts.specs.Records.{is_kind, Decoded, move_of, read}
use Rattle.charts.specs.Valid.{is_size, phase_fits}
use Rattle.charts.specs.Step.{Result, carry_out, about, outcome_of, some_asked, may_act, play, step_with, is_accepted}
use Rattle.charts.specs.Demand.{one}
use Rattle.charts.specs.View.{view, seen, fresh_node}
use Rattle.charts.proofs.Tools.{never, clash, pick_by, by_test}
use Rattle.charts.proofs.Ways.{Effect, effect}
use Rattle.charts.proofs.Steps.{Known, Decodes, turned, taken, decodes, refuses_it}
use Rattle.charts.proofs.Askers.{asking}
use Rattle.charts.proofs.Asking.{asks_kind, decides_kind}
use Rattle.charts.proofs.Sums.{undecided_upd, count-le, count_some}
use Rattle.charts.proofs.Progress.{remarked_undecided}
use Rattle.bus.specs.Advance.{glance, advance_of}
use Rattle.bus.specs.Asking.{places, askers_in, more, asked_after}
use Rattle.deciding.specs.Plans.{Fits}
use Rattle.bus.proofs.ReadLaws.{ready_read}

-- none is Asked that has no place in the arrays
count_beyond : (f : ℕ → Bool) (m n : ℕ) → m ≤ n → ((k : ℕ) → m ≤ k → f k ≡ false) → count f m ≡ count f n
count_beyond f m zero h z = let e : m ≡ 0 = omega arith in ap (count f) e
count_beyond f m (suc n) h z = by_test (ltb m (suc n))
    (λ e. let l = ltb-true m (suc n) e in omega (arith, count_beyond f m n (omega arith) z, ap {B = ℕ} (λ b. cond b 1 0) (z n (omega arith))))
    (λ e. let l = ltb-false m (suc n) e in let q : m ≡ suc n = omega arith in ap (count f) q)

pub askers_placed : (l : List Node) (n : ℕ) → length l ≡ 63 → askers_in l (places n) ≡ askers_in l n
askers_placed l n e = by_test (ltb n 63)
    (λ t. rw t)
    (λ t. let h = ltb-false n 63 t in rw t (count_beyond (λ k. is_asked (get_or l k fresh_node).mode) 63 n h (λ k z. ap (λ (x : Node). is_asked x.mode) (get_or-eq_default l fresh_node (omega arith)))))

-- the number counted in the arrays of a bus says whether some node is Asked
pub counted_asked : (b : Bus) (k : ℕ) → k ≡ askers_in b.nodes b.n → ltb 0 k ≡ some_asked (view b)
unfolding view
counted_asked b k e = ap (ltb 0) e ∙ count_some (askers (view b).cell) b.n

-- only records of kinds 1 to 12 are accepted
taken_kind : (n : ℕ) (a : Action) (m : Move) → read n a ≡ Ok m → is_kind a.kind ≡ true
unfolding read
taken_kind n a m e = by_test (is_kind a.kind) (λ q. q) (λ q. never (ap is_taken (rw q at e)))
  where
    is_taken : Decoded → Bool
    is_taken (Err k) = false
    is_taken (Ok m) = true

-- the number after one cell has changed
by_kind : (kind before after : ℕ) → after + one (eqb kind 12) ≡ before + one (eqb kind 11) → after ≤ 63 → after ≡ asked_after before kind
by_kind kind before after e h = go (eqb kind 11) (eqb kind 12) refl refl e
  where
    go : (x y : Bool) → eqb kind 11 ≡ x → eqb kind 12 ≡ y → after + one y ≡ before + one x → after ≡ cond x (more before) (cond y (before - 1) before)
    go true true p q e = absurd (omega (arith, eqb-true kind 11 p, eqb-true kind 12 q))
    go true false p q e = rw (lt-ltb before 63 (omega arith)) (omega arith)
    go false true p q e = omega arith
    go false false p q e = omega arith

-- an accepted step leaves the number that its kind says
module _ (s : State) (a : Action) where
  abbrev askers_of : State → ℕ
  askers_of t = count (askers t.cell) t.n

  abbrev Kept : Result → Type 0
  Kept r = is_accepted r ≡ true → askers_of r.state ≡ asked_after (askers_of s) a.kind

  module _ (size : (is_size s.n && phase_fits s.n s.phase) ≡ true) (kind : is_kind a.kind ≡ true) (known : Known s.n (move_of a)) where
    abbrev i : ℕ
    i = about s (move_of a)

    ready : Fits s.n s.phase i
    ready = ready_read s.n s.phase (pendings s.cell) a (Ok (move_of a)) size (taken known)

    out : may_act s (move_of a) ≡ true → (o : Outcome) → Effect s (move_of a) i o → Kept (carry_out s i o)
    out f closed x e = never e
    out f (does r p c y) x e =
        let z = asking s (move_of a) i r p c y ready.node f x in
        let was : one (is_asked (s.cell i).mode) ≡ one (eqb a.kind 12) = ap one (z.was ∙ decides_kind a kind) in
        let now : one (is_asked c.mode) ≡ one (eqb a.kind 11) = ap one (z.now ∙ asks_kind a kind) in
        let same = remarked_undecided y (moved s p i c) in
        let sum = undecided_upd s.cell i c s.n ready.node in
        by_kind a.kind (askers_of s) _ (omega arith) (omega (arith, count-le (askers (moved s p i c).cell) s.n, ready.size))

    may : (b : Bool) → may_act s (move_of a) ≡ b → Kept (carry_out s i (when b (outcome_of s (move_of a))))
    may true f e = out f (outcome_of s (move_of a)) (effect s (move_of a)) e
    may false f e = never e

  read_kept : (is_size s.n && phase_fits s.n s.phase) ≡ true → (d : Decoded) → read s.n a ≡ d → Decodes s.n a d → Kept (step_with s d)
  unfolding play
  read_kept z (Err k) q turned e = clash _ e (refuses_it k)
  read_kept z (Ok m) q (taken k) e = may z (taken_kind s.n a (move_of a) q) k (may_act s (move_of a)) refl e

  asked_kept : Kept (advance_of s a)
  unfolding advance_of glance
  asked_kept = pick_by (λ d. Kept (step_with s d)) (is_size s.n && phase_fits s.n s.phase) _ _ (λ z. read_kept z (read s.n a) refl (decodes s.n a)) (λ z e. never e)

-- the same of the arrays of a bus
pub asked_on : (b : Bus) (a : Action) (r : Played) → seen r ≡ advance_of (view b) a → eqb (err_number r.report) 0 ≡ true → askers_in r.bus.nodes r.bus.n ≡ asked_after (askers_in b.nodes b.n) a.kind
unfolding view
asked_on b a r e q = subst (Kept (view b) a) (sym e) (asked_kept (view b) a) q
