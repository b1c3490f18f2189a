-- The first route: what the search finds is it, there is one only, and the depth has no part in it. Assumes nothing.
use mathlib.Core.Path.{◌≡◌, refl, sym, ap, subst, ◌∙◌}
use mathlib.Core.Logic.{⊎_elim}
use mathlib.Core.Bool.{true, false, cond}
use mathlib.Core.List.{List}
use Prim.Native.Nat.{ℕ, ◌<◌, ◌≤◌}
use native.Mathlib.Omega.{arith}
use lib.Dec.{eqb, ltb}
use lib.ListN.{length}
use borrow.Author.Tests.{eq-eqb, ltb-true, ltb-false}
use Rattle.charts.specs.declared.Report.TheVariants.{Silent}
use Rattle.charts.specs.declared.Action.{Action}
use Rattle.charts.specs.declared.Question.{Question}
use Rattle.charts.specs.declared.Refusal.{Refusal}
use Rattle.charts.specs.declared.Refusal.TheVariants as R
use Rattle.charts.specs.Numbers.{number_of}
use Rattle.charts.proofs.Steps.{refuses_it}
use Rattle.std.specs.Prelude.{Err}
use Rattle.charts.specs.Numbers as N
use Rattle.charts.specs.Layout.{records_of}
use Rattle.charts.specs.State.{State}
use Rattle.charts.specs.Routes.{Answer, IsRoute, precedes, FirstRoute, FirstAnswers, HoldsFirst, route_number, route, has_route, count_of, Answers, refused, none, found}
use Rattle.charts.proofs.Tools.{clash, by_test}
use Rattle.routes.specs.Search.{Found, searched}
use Rattle.routes.proofs.Order.{before_one, never_before_itself}
use Rattle.routes.proofs.Searches.{search_leads, Reaches, leads_reached}

-- a refusal by its number
with_number : ℕ → Refusal
with_number k =
    cond (eqb k 1) R.WrongSize (cond (eqb k 2) R.WrongKind (cond (eqb k 3) R.StrayField (cond (eqb k 4) R.WrongNode (cond (eqb k 5) R.WrongAddress (cond (eqb k 6) R.WrongAnswer (cond (eqb k 7) R.NotOpen
    (cond (eqb k 8) R.WrongLength (cond (eqb k 9) R.WrongCheck (cond (eqb k 10) R.WrongOrder (cond (eqb k 11) R.WrongCount (cond (eqb k 12) R.NotValid (cond (eqb k 13) R.WrongLabel (cond (eqb k 14) R.TooDeep R.ToItself)))))))))))))

by_number : (k : Refusal) → with_number (number_of k) ≡ k
unfolding with_number
by_number R.WrongSize = refl
by_number R.WrongKind = refl
by_number R.StrayField = refl
by_number R.WrongNode = refl
by_number R.WrongAddress = refl
by_number R.WrongAnswer = refl
by_number R.NotOpen = refl
by_number R.WrongLength = refl
by_number R.WrongCheck = refl
by_number R.WrongOrder = refl
by_number R.WrongCount = refl
by_number R.NotValid = refl
by_number R.WrongLabel = refl
by_number R.TooDeep = refl
by_number R.ToItself = refl

not_both : {A : Type 0} (k : Refusal) → number_of k ≡ N.accepted → A
not_both k e = clash _ (eq-eqb _ _ e) (refuses_it k)

module _ (s : State) (q : Question) where
  -- the search for routes of just k records
  abbrev lasting : ℕ → Found
  lasting k = searched k s Silent q

  route_reached : (d : ℕ) (l : List Action) → IsRoute s q d l → Reaches (lasting (length l)) l
  route_reached d l x = leads_reached l s Silent q x.kinds x.accepted x.reports

  -- found, it is a route; where none of at most d records is found, there is none
  pub found-route : (d k : ℕ) → k ≤ d → (lasting k).found ≡ true → IsRoute s q d (lasting k).records
  found-route d k h e = let x = search_leads k s Silent q e in record { within = omega (arith, x.size, h); kinds = x.kinds; accepted = x.accepted; reports = x.reports }

  pub no_route_lem : (d : ℕ) → ((k : ℕ) → k ≤ d → (lasting k).found ≡ false) → (l : List Action) → IsRoute s q d l → ⊥
  no_route_lem d f l x = clash _ (route_reached d l x).found (f (length l) x.within)

  -- found where no shorter one is, it is the first
  pub found_first : (d k : ℕ) → k ≤ d → ((j : ℕ) → j < k → (lasting j).found ≡ false) → (lasting k).found ≡ true → FirstRoute s q d (lasting k).records
  found_first d k h f e = record {
    is_route = found-route d k h e;
    none_shorter = λ m x. by_test (ltb (length m) k) (λ z. clash _ (route_reached d m x).found (f (length m) (ltb-true _ _ z))) (λ z. omega (arith, ltb-false (length m) k z, size));
    none_before = λ m x z. ⊎_elim (λ u. ap (λ l. precedes m l) u ∙ never_before_itself (records_of m)) (before_one _ (records_of m)) (subst (λ j. Reaches (lasting j) m) (z ∙ size) (route_reached d m x)).not_after;
  }
    where
      size : length (lasting k).records ≡ k
      size = (search_leads k s Silent q e).size

  -- the first route is what the search for its length finds
  is_found : (d : ℕ) (l : List Action) → FirstRoute s q d l → (lasting (length l)).records ≡ l
  is_found d l f = ⊎_elim (λ e. e) (λ e. clash _ e (f.none_before (lasting (length l)).records (found-route d (length l) f.is_route.within there.found) (search_leads (length l) s Silent q there.found).size)) there.not_after
    where
      there : Reaches (lasting (length l)) l
      there = route_reached d l f.is_route

  -- so there is one only
  pub one_first : (d : ℕ) (l m : List Action) → FirstRoute s q d l → FirstRoute s q d m → l ≡ m
  one_first d l m f g = sym (is_found d l f) ∙ ap (λ k. (lasting k).records) alike ∙ is_found d m g
    where
      alike : length l ≡ length m
      alike = omega (arith, f.none_shorter m g.is_route, g.none_shorter l f.is_route)

  -- and the contract of the search leaves one answer
  pub one_answer : (d : ℕ) {x y : Answer} → FirstAnswers s q d x → FirstAnswers s q d y → x ≡ y
  one_answer d f g = go f.answers g.answers f.first g.first
    where
      same : {x y : Answer} → HoldsFirst s q d x → HoldsFirst s q d y → x ≡ y
      same u v = u.holds ∙ ap route (one_first d u.list v.list u.first v.first) ∙ sym v.holds

      go : {x y : Answer} → Answers s q d x → Answers s q d y → (has_route x ≡ true → HoldsFirst s q d x) → (has_route y ≡ true → HoldsFirst s q d y) → x ≡ y
      go (refused k a) (refused j b) u v = ap Err (sym (by_number k) ∙ ap with_number (sym a ∙ b) ∙ by_number j)
      go (refused k a) (none b f) u v = not_both k (sym a ∙ b)
      go (refused k a) (found b f) u v = not_both k (sym a ∙ b)
      go (none a f) (refused k b) u v = not_both k (sym b ∙ a)
      go (none a f) (none b g) u v = refl
      go (none a f) (found b {l} g) u v = absurd (f l g)
      go (found a f) (refused k b) u v = not_both k (sym b ∙ a)
      go (found a {l} f) (none b g) u v = absurd (g l f)
      go (found a f) (found b g) u v = same (u refl) (v refl)

  -- a depth that is not less than a route's length has it too
  deep_enough : (d e : ℕ) (l : List Action) → IsRoute s q d l → length l ≤ e → IsRoute s q e l
  deep_enough d e l x h = record { within = h; kinds = x.kinds; accepted = x.accepted; reports = x.reports }

  pub first_at_any_depth : (d e : ℕ) (l : List Action) → FirstRoute s q d l → length l ≤ e → FirstRoute s q e l
  first_at_any_depth d e l f h = record {
    is_route = deep_enough d e l f.is_route h;
    none_shorter = λ m x. by_test (ltb d (length m)) (λ z. omega (arith, f.is_route.within, ltb-true d (length m) z)) (λ z. f.none_shorter m (deep_enough e d m x (ltb-false d (length m) z)));
    none_before = λ m x z. f.none_before m (deep_enough e d m x (omega (arith, f.is_route.within, z))) z;
  }

  -- the same question has the same route at every depth that is taken and deep enough
  pub same_at_any_depth : (d e : ℕ) {x y : Answer} → FirstAnswers s q d x → has_route x ≡ true → count_of x ≤ e → route_number s q e ≡ N.accepted → FirstAnswers s q e y → y ≡ x
  same_at_any_depth d e {x} f o h t y =
      let u = f.first o in
      let k : length u.list ≤ e = subst (λ x. count_of x ≤ e) u.holds h in
      let r = first_at_any_depth d e u.list u.first k in
      one_answer e y (record { answers = subst (Answers s q e) (sym u.holds) (found t r.is_route); first = λ o. record { list = u.list; first = r; holds = u.holds } })
