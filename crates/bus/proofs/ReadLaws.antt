-- A record that was looked at is about a node of the bus, which has a place in the arrays. Assumes nothing.
use mathlib.Core.Path.{◌≡◌, refl, sym, ap, ◌∙◌}
use mathlib.Core.List.{List, [], ◌∷◌}
use lib.ListN.{get_or, take, length}
use Rattle.std.specs.List.{list_all}
use mathlib.Core.Bool.{Bool, true, false, cond, ◌&&◌}
use Prim.Native.Nat.{ℕ, zero, suc, ◌<◌, ◌≤◌}
use native.Mathlib.Omega.{arith}
use lib.Dec.{ltb}
use borrow.Author.Tests.{ltb-true}
use Rattle.charts.specs.declared.Phase.{Phase}
use Rattle.charts.specs.declared.Action.{Action}
use Rattle.charts.specs.declared.Cell.{Cell}
use Rattle.std.specs.Prelude.{Ok, Err}
use Rattle.charts.specs.declared.Refusal.{Refusal}
use Rattle.charts.specs.Records.{Decoded}
use Rattle.charts.specs.declared.Bus.{Bus}
use Rattle.charts.specs.Records.{read}
use Rattle.charts.specs.Reception.{Reception}
use Rattle.charts.specs.Step.{look}
use Rattle.charts.specs.State.{every}
use Rattle.charts.specs.Valid.{is_size, cell_fits, phase_fits, valid}
use Rattle.charts.specs.View.{view, mark}
use Rattle.deciding.specs.declared.plans.Plan.{Plan}
use Rattle.bus.specs.Advance.{glance}
use Rattle.deciding.specs.Plans.{Ready, planned}
use Rattle.charts.proofs.Tools.{and-true}
use Rattle.charts.proofs.Steps.{Decodes, taken, decodes, target_lt}
use Rattle.bus.proofs.PhaseLaws.{next_below}

pub size_below : (n : ℕ) (p : Phase) → (is_size n && phase_fits n p) ≡ true → n ≤ 63
size_below n p e = let h : n < 64 = ltb-true n 64 (and-true (ltb 1 n) _ (and-true (is_size n) _ e).0).1 in omega arith

module _ (n : ℕ) (p : Phase) (ps : ℕ → Bool) (a : Action) where
  pub ready_read : (d : Decoded) → (is_size n && phase_fits n p) ≡ true → Decodes n a d → Ready n p ps d
  ready_read (Err k) e q = tt
  ready_read (Ok m) e (taken k) =
      let y = and-true (is_size n) _ e in
      let h = size_below n p e in
      let two : 1 < n = ltb-true 1 n (and-true (ltb 1 n) _ y.0).0 in
      record { size = h; next = next_below n p h y.1; node = target_lt n p ps (omega arith) y.1 m k }

  ready_if : (b : Bool) (k : Refusal) → (b ≡ true → (is_size n && phase_fits n p) ≡ true) → Ready n p ps (cond b (read n a) (Err k))
  ready_if true k f = ready_read (read n a) (f refl) (decodes n a)
  ready_if false k f = tt

  pub ready_glance : Ready n p ps (glance n p a)
  unfolding glance
  ready_glance = ready_if (is_size n && phase_fits n p) _ (λ e. e)

-- a valid state passes the clauses of 12 on n and the phase
pub regroup : (x y z : Bool) → (x && (y && z)) ≡ true → (x && y) ≡ true
regroup true y z e = (and-true y z e).0
regroup false y z e = e

group : (x y z o : Bool) → (x && y) ≡ o → (x && (y && z)) ≡ (o && z)
group true y z o e = rw e
group false y z o e = rw (sym e)

-- a state is valid if it passes these clauses and its nodes fit
pub valid_safe : (b : Bus) → (is_size b.n && phase_fits b.n b.phase) ≡ true → valid (view b) ≡ every (λ k. cell_fits b.n ((view b).cell k)) b.n
unfolding valid view
valid_safe b e = group (is_size b.n) (phase_fits b.n b.phase) _ true e

pub valid_unsafe : (b : Bus) → (is_size b.n && phase_fits b.n b.phase) ≡ false → valid (view b) ≡ false
unfolding valid view
valid_unsafe b e = group (is_size b.n) (phase_fits b.n b.phase) _ false e

pub ready_look : (b : Bus) (a : Action) → Ready b.n b.phase (mark b.pending) (look (view b) a)
unfolding look view valid
ready_look b a = ready_if b.n b.phase (mark b.pending) a (valid (view b)) _ (regroup (is_size b.n) (phase_fits b.n b.phase) _)

-- all nodes fit if each of the first n does
every_front : (f : ℕ → Bool) (n : ℕ) → every f (suc n) ≡ f 0 && every (λ k. f (suc k)) n
every_front f zero = refl
every_front f (suc n) = ap (λ b. f (suc n) && b) (every_front f n) ∙ swap (f (suc n)) (f 0) _
  where
    swap : (a b c : Bool) → a && (b && c) ≡ b && (a && c)
    swap true b c = refl
    swap false true c = refl
    swap false false c = refl

pub all_every : {A : Type 0} (f : A → Bool) (l : List A) (d : A) (n : ℕ) → n ≤ length l → list_all f (take n l) ≡ every (λ k. f (get_or l k d)) n
all_every f l d zero h = refl
all_every f [] d (suc n) h = absurd (omega arith)
all_every f (x ∷ l) d (suc n) h = ap (λ b. f x && b) (all_every f l d n (omega arith)) ∙ sym (every_front (λ k. f (get_or (x ∷ l) k d)) n)

-- only for an accepted record there is a plan
pub plan_fits : (b : Bus) (d : Decoded) (i : ℕ) (c : Cell) (p : Plan) → Ready b.n b.phase (mark b.pending) d →
    (h : Reception) (q : Bool) → Ok p ≡ planned h b.n b.phase b.concatenated q i c (mark b.won) (mark b.pending) (mark b.holder) d → b.n ≤ 63
plan_fits b (Err k) i c p r h q y = let z : ◌≡◌ {A = ℕ} 0 1 = cc in omega arith
plan_fits b (Ok m) i c p r h q y = r.size
