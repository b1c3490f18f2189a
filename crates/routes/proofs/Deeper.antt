-- The search's loop over the choices, one after the other. Assumes nothing.
use mathlib.Core.Path.{◌≡◌, refl, sym, ap, ap₂, ◌∙◌}
use mathlib.Core.Bool.{Bool, true, false, cond}
use mathlib.Core.List.{List, [], ◌∷◌}
use Prim.Native.Nat.{ℕ, zero, suc, ◌+◌, ◌-◌, ◌<◌, ◌≤◌}
use native.Mathlib.Omega.{arith}
use Rattle.std.specs.Prelude.{Some, None}
use Rattle.charts.specs.declared.Report.{Report}
use Rattle.charts.specs.declared.Action.{Action}
use Rattle.charts.specs.declared.Question.{Question}
use Rattle.charts.specs.declared.Bus.{Bus}
use Rattle.charts.specs.declared.Played.{Played}
use Rattle.charts.specs.Routes.{in_places}
use Rattle.charts.specs.State.{State}
use Rattle.charts.specs.Valid.{valid}
use Rattle.charts.specs.Step.{Result, step, is_accepted}
use Rattle.charts.specs.View.{view, seen}
use Rattle.bus.specs.Advance.{advance_of}
use Rattle.bus.proofs.Advances.{advance_is_step, advance_valid}
use Rattle.bus.proofs.ViewLaws.{view_n, view_phase}
use Rattle.routes.specs.Choices.{choices, choice}
use Rattle.routes.specs.Search.{Found, none, begun, tried, first_from, searched, following, prepended, trail_of}
use Rattle.routes.proofs.Trails.{places_after}

-- with some left, the search tries the choices
search_deeper : (left : ℕ) (s : State) (r : Report) (q : Question) → ((left ≡ 0) → ⊥) → searched left s r q ≡ first_from (following (left - 1) s q) (choices s.n s.phase) 0
unfolding searched
search_deeper zero s r q f = absurd (f refl)
search_deeper (suc d) s r q f = ap (λ e. first_from (following e s q) (choices s.n s.phase) 0) one_less
  where
    one_less : d ≡ suc d - 1
    one_less = omega arith

-- what comes of the k-th choice, by what the step returned
module _ (d : ℕ) (s : State) (q : Question) (k : ℕ) (x : Result) (e : x ≡ step s (choice s.n s.phase k)) where
  abbrev a : Action
  a = choice s.n s.phase k

  goes_on : is_accepted x ≡ true → following d s q k ≡ begun a (searched d x.state x.report q)
  goes_on o = ap (tried (λ x. searched d x.state x.report q) a) (sym e) ∙ ap (λ b. cond b (begun a (searched d x.state x.report q)) none) o

  ends-here : is_accepted x ≡ false → (following d s q k).found ≡ false
  ends-here o = ap (λ x. (tried (λ x. searched d x.state x.report q) a x).found) (sym e) ∙ ap (λ b. (cond b (begun a (searched d x.state x.report q)) none).found) o

-- the loop: what the choices from the k-th on give
module _ (f : ℕ → Found) (m k : ℕ) (inv : first_from f m 0 ≡ first_from f (m - k) k) where
  first_found : (y : Found) → k < m → f k ≡ y → y.found ≡ true → first_from f m 0 ≡ y
  first_found y l e o = inv ∙ ap (λ j. first_from f j k) more ∙ ap (λ b. cond b (f k) (first_from f (m - suc k) (suc k))) (ap (λ x. x.found) e ∙ o) ∙ e
    where
      more : m - k ≡ suc (m - suc k)
      more = omega (arith, l)

  next_choice : k < m → (f k).found ≡ false → first_from f m 0 ≡ first_from f (m - (k + 1)) (k + 1)
  next_choice l o = inv ∙ ap (λ j. first_from f j k) more ∙ ap (λ b. cond b (f k) (first_from f (m - suc k) (suc k))) o ∙ ap (λ j. first_from f (m - j) j) then
    where
      more : m - k ≡ suc (m - suc k)
      more = omega (arith, l)

      then : suc k ≡ k + 1
      then = omega arith

  no_more : m ≤ k → first_from f m 0 ≡ none
  no_more l = inv ∙ ap (λ j. first_from f j k) less
    where
      less : m - k ≡ 0
      less = omega (arith, l)

-- the trail of a route, and of one that an action begins
pub trail_found : (y : Found) (l : List Action) → Some l ≡ trail_of y → (y.found ≡ true) × (l ≡ in_places y.records)
trail_found y l e = go y.found refl
  where
    go : (b : Bool) → y.found ≡ b → (y.found ≡ true) × (l ≡ in_places y.records)
    go true f = let h : Some l ≡ Some (in_places y.records) = rw f at e in (f, cc)
    go false f = let h : Some l ≡ None = rw f at e in absurd cc

pub trail_none : (y : Found) → None ≡ trail_of y → y.found ≡ false
trail_none y e = go y.found refl
  where
    go : (b : Bool) → y.found ≡ b → y.found ≡ false
    go true f = let h : None ≡ Some (in_places y.records) = rw f at e in absurd cc
    go false f = f

trail_begun : (a : Action) (y : Found) (l : List Action) → Some l ≡ trail_of y → Some (prepended a l) ≡ trail_of (begun a y)
trail_begun a y l e = let o = trail_found y l e in
    ap (λ l. Some (prepended a l)) o.1 ∙ ap Some (places_after a y.records) ∙ sym (ap (λ b. cond b (Some (in_places (cond b (a ∷ y.records) []))) None) o.0)

-- the code's turn with the k-th choice a, which the bus answered by x
module _ (b : Bus) (q : Question) (left k : ℕ) (v : valid (view b) ≡ true) (some : (left ≡ 0) → ⊥)
    (inv : first_from (following (left - 1) (view b) q) (choices b.n b.phase) 0 ≡ first_from (following (left - 1) (view b) q) (choices b.n b.phase - k) k) where
  abbrev f : ℕ → Found
  f = following (left - 1) (view b) q

  abbrev count : ℕ
  count = choices b.n b.phase

  whole : (r : Report) → searched left (view b) r q ≡ first_from f count 0
  whole r = search_deeper left (view b) r q some ∙ ap (λ m. first_from f m 0) (ap₂ choices (view_n b) (view_phase b))

  pub none_led : (r : Report) → count ≤ k → None ≡ trail_of (searched left (view b) r q)
  none_led r l = ap trail_of (sym (whole r ∙ no_more f count k inv l))

  module _ (l : k < count) (a : Action) (chosen : a ≡ choice b.n b.phase k) (x : Played) (answer : seen x ≡ advance_of (view b) a) where
    is_choice : a ≡ choice (view b).n (view b).phase k
    is_choice = chosen ∙ ap₂ (λ n p. choice n p k) (sym (view_n b)) (sym (view_phase b))

    is_step : seen x ≡ step (view b) (choice (view b).n (view b).phase k)
    is_step = answer ∙ advance_is_step (view b) a v ∙ ap (step (view b)) is_choice

    pub stays_valid : valid (view x.bus) ≡ true
    stays_valid = ap (λ r. valid r.state) answer ∙ advance_valid (view b) a v

    abbrev y : Found
    y = searched (left - 1) (view x.bus) (seen x).report q

    leads_on : is_accepted (seen x) ≡ true → f k ≡ begun a y
    leads_on o = goes_on (left - 1) (view b) q k (seen x) is_step o ∙ ap (λ a. begun a y) (sym is_choice)

    -- it leads to the report: the trail is that of the search
    pub led : is_accepted (seen x) ≡ true → (t : List Action) → Some t ≡ trail_of y → (r : Report) → Some (prepended a t) ≡ trail_of (searched left (view b) r q)
    led e t d r = trail_begun a y t d ∙ ap trail_of (sym (whole r ∙ first_found f count k inv (begun a y) l (leads_on e) (trail_found y t d).0))

    -- it does not, or it is refused: the next choice
    pub not_led : is_accepted (seen x) ≡ true → None ≡ trail_of y → first_from f count 0 ≡ first_from f (count - (k + 1)) (k + 1)
    not_led e d = next_choice f count k inv l (ap (λ x. x.found) (leads_on e) ∙ trail_none y d)

    pub not_open : is_accepted (seen x) ≡ false → first_from f count 0 ≡ first_from f (count - (k + 1)) (k + 1)
    not_open o = next_choice f count k inv l (ends-here (left - 1) (view b) q k (seen x) is_step o)
