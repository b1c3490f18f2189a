-- From every state that a run reaches, 22n + 2 forward actions one after the other meet Idle: 21n + 1 of the transaction and its reply, and one for each node that is Asked.
use mathlib.Core.Path.{◌≡◌, refl}
use mathlib.Core.Bool.{Bool, true, false, ◌||◌, not, true≢false}
use mathlib.Core.List.{List, [], ◌∷◌}
use native.Mathlib.Nat.{mul-le-mul_right, mul-le-mul_left, mul-one}
use Prim.Native.Nat.{ℕ, ◌<◌, ◌≤◌, ◌+◌, ◌-◌, ◌*◌}
use native.Mathlib.Omega.{arith}
use lib.Dec.{leb}
use borrow.Author.Tests.{leb-true}
use Rattle.charts.specs.declared.Phase.{Phase}
use Rattle.charts.specs.declared.Phase.TheVariants.{Idle, Busy, Delivering, Granting, Gapping}
use Rattle.charts.specs.declared.Cell.{Cell}
use Rattle.charts.specs.declared.Action.{Action}
use Rattle.charts.specs.State.{State, askers, is_idle}
use Rattle.charts.specs.Records.{move_of}
use Rattle.charts.specs.Step.{Result, step, after, Event, event_of, is_accepted}
use Rattle.charts.specs.Demand.{one, forward, is_open, accepted_of, all_forward, meets_idle, bound}
use Rattle.charts.proofs.Tools.{and-true, or-false, pick, table_at, mem}
use Rattle.charts.proofs.Steps.{Stepped, refused, acts, stepped}
use Rattle.charts.proofs.Stages.{row_at, turn_at, talks, clears, Stage, weights, bonus, clear_rank, rank}
use Rattle.charts.proofs.Reach.{Reach, to_go}
use Rattle.charts.proofs.Sums.{total_le, weigh_le, left_pos, left_lt, count-le}
use Rattle.charts.proofs.Progress.{effect_reach}
use Rattle.charts.specs.Modes as P
use Rattle.charts.proofs.Places.{step_of}

-- what is left for the stage is at most 21n + 1, and something is left outside Idle
small : (x y n : ℕ) → x + y ≤ 21 → 1 ≤ n → x * n + y ≤ 21 * n
small x y n h l = omega (arith, mul-le-mul_right n h, mul-le-mul_left y l, mul-one y)

bonus_le : (c : ℕ) → bonus c ≤ 1
bonus_le c = pick (λ x. x ≤ 1) (mem c (P.answering ∷ P.holding ∷ [])) _ _ (omega arith) (omega arith)

clear_le : (b : Bool) (n : ℕ) (f : ℕ → Cell) → 2 ≤ n → clear_rank b n f ≤ 21 * n + 1
clear_le true n f h = omega (arith, total_le (weights f) n (λ k. weigh_le (f k).mode))
clear_le false n f h = omega (arith, total_le (weights f) n (λ k. weigh_le (f k).mode))

rank_le : (b : Bool) (p : Phase) (n : ℕ) (f : ℕ → Cell) → 2 ≤ n → (a : Stage b p n f) → rank b p n f a ≤ 21 * n + 1
rank_le b Idle n f h a = omega arith
rank_le b Busy n f h (talks a) =
    omega (arith, small (turn_at a.t).turns ((turn_at a.t).more - 1) n (leb-true _ 21 (table_at (λ t. leb ((turn_at t).turns + ((turn_at t).more - 1)) 21) 17 tt a.t a.t_lt)) (omega arith))
rank_le b Busy n f h (clears a) = clear_le b n f h
rank_le b (Delivering w g j) n f h a =
    let z : ((row_at a.d).turns + 1) * n + ((row_at a.d).more - 1) ≤ 21 * n = small ((row_at a.d).turns + 1) ((row_at a.d).more - 1) n
    (leb-true _ 21 (table_at (λ d. leb ((row_at d).turns + 1 + ((row_at d).more - 1)) 21) 22 tt a.d a.d_lt)) (omega arith) in
    omega (arith, left_lt w j n (omega arith), bonus_le (step_of (f w).mode))
rank_le b Granting n f h a = clear_le b n f h
rank_le b (Gapping j) n f h a = omega arith

clear_pos : (b : Bool) (n : ℕ) (f : ℕ → Cell) → 2 ≤ n → 0 < clear_rank b n f
clear_pos true n f h = omega arith
clear_pos false n f h = omega arith

rank_pos : (b : Bool) (p : Phase) (n : ℕ) (f : ℕ → Cell) → 2 ≤ n → (a : Stage b p n f) → is_idle p ≡ false → 0 < rank b p n f a
rank_pos b Idle n f h a e = absurd (true≢false e)
rank_pos b Busy n f h (talks a) e = omega (arith, mul-le-mul_right n (leb-true 1 (turn_at a.t).turns (table_at (λ t. leb 1 (turn_at t).turns) 17 tt a.t a.t_lt)))
rank_pos b Busy n f h (clears a) e = clear_pos b n f h
rank_pos b (Delivering w g j) n f h a e = omega (arith, left_pos w j n a.here a.next_lt a.apart)
rank_pos b Granting n f h a e = clear_pos b n f h
rank_pos b (Gapping j) n f h a e = omega (arith, a.gap_lt)

-- a step keeps what every reached state has
pub step_reach : (s : State) (a : Action) → Reach s → Reach (step s a).state
step_reach s a r = go (step s a) (event_of a (step s a)) (stepped s a)
  where
    go : (x : Result) (e : Event) → Stepped s a x e → Reach x.state
    go x e (refused q) = r
    go x e (acts {i = i} {r = q} {p = p} {c = c} {x = y} v k l m z) = (effect_reach s r (move_of a) i q p c y l m z).0

pub run_reach : (s : State) (l : List Action) → Reach s → Reach (after s l)
run_reach s [] r = r
run_reach s (a ∷ l) r = run_reach (step s a).state l (step_reach s a r)

-- a continuation of forward actions that does not meet Idle is shorter than what was left
shorter : (s : State) (r : Reach s) (l : List Action) → all_forward s l ≡ true → meets_idle s l ≡ false → accepted_of s l < to_go s r
shorter s r [] f m = omega (arith, rank_pos s.concatenated s.phase s.n s.cell r.two r.stage m)
shorter s r (a ∷ l) f m =
    let z = and-true (not (is_open s a) || forward s (move_of a)) _ f in
    let o = or-false (is_idle s.phase) _ m in
    go (step s a) (event_of a (step s a)) (stepped s a) (λ t u. shorter t u l) z.0 z.1 o.0 o.1
  where
    go : (x : Result) (e : Event) → Stepped s a x e → ((t : State) (u : Reach t) → all_forward t l ≡ true → meets_idle t l ≡ false → accepted_of t l < to_go t u) →
        not (is_accepted x) || forward s (move_of a) ≡ true → all_forward x.state l ≡ true → is_idle s.phase ≡ false → meets_idle x.state l ≡ false → one (is_accepted x) + accepted_of x.state l < to_go s r
    go x e (refused q) h y f o m = rw q (omega (arith, h s r f m))
    go x e (acts {i = i} {r = q} {p = p} {c = c} {x = z} v k b j w) h y f o m = let u = effect_reach s r (move_of a) i q p c z b j w in omega (arith, h _ u.0 f m, u.1 y o)

-- any continuation whose accepted actions are all forward, 22n + 2 in number, meets Idle
pub meets : (s : State) (r : Reach s) (c : List Action) → all_forward s c ≡ true → accepted_of s c ≡ bound s.n → meets_idle s c ≡ true
meets s r c f g = go (meets_idle s c) refl
  where
    go : (b : Bool) → meets_idle s c ≡ b → b ≡ true
    go true e = refl
    go false e = absurd (omega (arith, shorter s r c f e, rank_le s.concatenated s.phase s.n s.cell r.two r.stage, count-le (askers s.cell) s.n))
