-- The answers of the search, by its lengths one after the other. Assumes nothing.
use mathlib.Core.Path.{◌≡◌, refl, sym, ap, ap₂, subst}
use mathlib.Core.Bool.{Bool, true, false, cond, ◌&&◌, not}
use Prim.Native.Nat.{ℕ, ◌+◌, ◌<◌, ◌≤◌}
use native.Mathlib.Omega.{arith}
use lib.Dec.{eqb}
use borrow.Author.Tests.{eqb-false}
use Rattle.std.proofs.Common.{below_more}
use Rattle.std.specs.Prelude.{Some, None, Ok}
use mathlib.Core.List.{List}
use Rattle.charts.specs.declared.Action.{Action}
use Rattle.charts.specs.declared.Report.TheVariants.{Silent}
use Rattle.charts.specs.declared.Word.{Word}
use Rattle.charts.specs.declared.Word.TheVariants as W
use Rattle.charts.specs.declared.Question.{Question}
use Rattle.charts.specs.Numbers as N
use Rattle.charts.specs.State.{State}
use Rattle.charts.specs.Valid.{valid}
use Rattle.charts.specs.Routes.{numbered, gives, route_number, no_route, route, HoldsFirst, Answers, none, found}
use Rattle.routes.specs.Search.{searched, trail_of}
use Rattle.routes.proofs.Deeper.{trail_found, trail_none}
use Rattle.routes.proofs.Searches.{search_leads}
use Rattle.routes.proofs.First.{found-route, no_route_lem, found_first}

-- no report is not asked for, so that no route is empty
is_kind_lem : (w : Word) → eqb 0 (numbered w) ≡ false
is_kind_lem W.Won = refl
is_kind_lem W.Lost = refl
is_kind_lem W.Sent = refl
is_kind_lem W.Ack = refl
is_kind_lem W.Miss = refl
is_kind_lem W.Drop = refl
is_kind_lem W.Good = refl
is_kind_lem W.Dcrc = refl
is_kind_lem W.Broad = refl

-- an accepted question is about a valid state
pub accepted_valid : (s : State) (q : Question) (d : ℕ) → route_number s q d ≡ N.accepted → valid s ≡ true
unfolding route_number
accepted_valid s q d e = go (valid s) _ e
  where
    go : (b : Bool) (k : ℕ) → cond (not b) N.not_valid k ≡ N.accepted → b ≡ true
    go true k e = refl
    go false k e = absurd (eqb-false N.not_valid N.accepted refl e)

module _ (s : State) (q : Question) (d : ℕ) (e : route_number s q d ≡ N.accepted) where
  -- no route of fewer than k records
  abbrev pub NoneBelow : ℕ → Type 0
  NoneBelow k = (j : ℕ) → j < k → (searched j s Silent q).found ≡ false

  pub none_empty : NoneBelow 1
  unfolding searched gives
  none_empty j h = subst (λ j. (searched j s Silent q).found ≡ false) here (ap (λ b. b && eqb 0 q.node) (is_kind_lem q.word))
    where
      here : 0 ≡ j
      here = omega (arith, h)

  pub none_next : (k : ℕ) → NoneBelow k → None ≡ trail_of (searched k s Silent q) → NoneBelow (k + 1)
  none_next k f o = below_more _ k f (trail_none (searched k s Silent q) o)

  -- a route found, and the answer that holds it
  answer_is : (k : ℕ) (l : List Action) → Some l ≡ trail_of (searched k s Silent q) → route (searched k s Silent q).records ≡ Ok (Some (record { count = k; actions = l }))
  answer_is k l p = let f = trail_found (searched k s Silent q) l p in ap₂ (λ k l. Ok (Some (record { count = k; actions = l }))) (search_leads k s Silent q f.0).size (sym f.1)

  pub answer_none : NoneBelow (d + 1) → Answers s q d no_route
  answer_none f = none e (no_route_lem s q d (λ j h. f j (omega arith)))

  pub answer_found : (k : ℕ) → k ≤ d → (l : List Action) → Some l ≡ trail_of (searched k s Silent q) → Answers s q d (Ok (Some (record { count = k; actions = l })))
  answer_found k h l p = subst (Answers s q d) (answer_is k l p) (found e (found-route s q d k h (trail_found (searched k s Silent q) l p).0))

  -- and with no shorter one it is the first
  pub holds_first : (k : ℕ) → k ≤ d → (l : List Action) → NoneBelow k → Some l ≡ trail_of (searched k s Silent q) → HoldsFirst s q d (Ok (Some (record { count = k; actions = l })))
  holds_first k h l shorter p = record { list = (searched k s Silent q).records; first = found_first s q d k h shorter (trail_found (searched k s Silent q) l p).0; holds = sym (answer_is k l p) }
