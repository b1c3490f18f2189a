-- What the search finds is a route, and of all lists of records that lead to the report it finds none after another of its length. Assumes nothing.
use mathlib.Core.Path.{◌≡◌, refl, sym, ap, subst, ◌∙◌}
use mathlib.Core.Logic.{◌⊎◌, inl, inr, ⊎_elim}
use mathlib.Core.Bool.{Bool, true, false, cond}
use mathlib.Core.List.{List, [], ◌∷◌}
use Prim.Native.Nat.{ℕ, zero, suc, ◌+◌, ◌-◌, ◌<◌, ◌≤◌}
use native.Mathlib.Omega.{arith}
use lib.Dec.{eqb}
use lib.ListN.{length}
use borrow.Author.Tests.{eqb-true, eqb-false}
use Rattle.charts.specs.declared.Signal.{Signal}
use Rattle.charts.specs.declared.Phase.{Phase}
use Rattle.charts.specs.declared.Phase.TheVariants.{Idle, Busy, Delivering, Granting, Gapping}
use Rattle.charts.specs.declared.Report.{Report}
use Rattle.charts.specs.declared.Action.{Action}
use Rattle.charts.specs.declared.Question.{Question}
use Rattle.charts.specs.Signals.{is_checked}
use Rattle.charts.specs.Records.{named}
use Rattle.charts.specs.Layout.{bytes_of, records_of}
use Rattle.charts.specs.State.{State}
use Rattle.charts.specs.Step.{Result, step, results, is_accepted}
use Rattle.charts.specs.Routes.{gives, is_bus_event, all_bus_events, all_accepted, last_report, before, precedes}
use Rattle.charts.proofs.Tools.{never, and-true, both, by_test}
use Rattle.charts.proofs.Steps.{is_valid}
use Rattle.routes.specs.Choices.{change_of, way_of, choices, choice}
use Rattle.routes.specs.Search.{Found, none, begun, tried, first_from, searched, following}
use Rattle.routes.proofs.Order.{before_alike, before_on, choices_ascend}
use Rattle.routes.proofs.Covers.{Among, open_valid, covers}

-- the choices are bus events
way_event : (n : ℕ) (g : Signal) (k : ℕ) → is_bus_event (way_of n g k) ≡ true
unfolding way_of
way_event n g k = go (eqb k 0) (is_checked g) (eqb k 1)
  where
    go : (x y z : Bool) → is_bus_event (cond x (named 5 0 0) (cond y (cond z (named 6 0 0) (named 7 0 0)) (change_of n (k - 1)))) ≡ true
    go true y z = refl
    go false true true = refl
    go false true false = refl
    go false false z = refl

choice_event : (n : ℕ) (p : Phase) (k : ℕ) → is_bus_event (choice n p k) ≡ true
unfolding choice
choice_event n Idle k = refl
choice_event n Busy k = refl
choice_event n (Delivering i g j) k = way_event n g k
choice_event n Granting k = refl
choice_event n (Gapping j) k = refl

-- the first choice that leads on is one of those tried
pub record Leads (f : ℕ → Found) (x : Found) : Type 0 where
  pub place : ℕ
  pub leads : (f place).found ≡ true
  pub is : x ≡ f place

first_leads : (f : ℕ → Found) (m k : ℕ) → (first_from f m k).found ≡ true → Leads f (first_from f m k)
first_leads f zero k e = never e
first_leads f (suc m) k e = go (f k).found refl (first_from f m (suc k)) (first_leads f m (suc k)) e
  where
    go : (b : Bool) → (f k).found ≡ b → (y : Found) → (y.found ≡ true → Leads f y) → (cond b (f k) y).found ≡ true → Leads f (cond b (f k) y)
    go true q y z e = record { place = k; leads = q; is = refl }
    go false q y z e = z e

-- where the j-th choice leads on, the first one that does is none after it
record Met (f : ℕ → Found) (j : ℕ) (x : Found) : Type 0 where
  at : Leads f x
  upto : at.place ≤ j

first_meets : (f : ℕ → Found) (m k j : ℕ) → k ≤ j → j < k + m → (f j).found ≡ true → Met f j (first_from f m k)
first_meets f zero k j h l e = absurd (omega (arith, h, l))
first_meets f (suc m) k j h l e = go (f k).found refl (λ h. first_meets f m (suc k) j h (omega (arith, l)) e)
  where
    later : (f k).found ≡ false → (b : Bool) → eqb j k ≡ b → suc k ≤ j
    later q true z = never (sym (ap (λ i. (f i).found) (eqb-true j k z) ∙ q) ∙ e)
    later q false z = omega (arith, h, eqb-false j k z)

    go : (b : Bool) → (f k).found ≡ b → (suc k ≤ j → Met f j (first_from f m (suc k))) → Met f j (cond b (f k) (first_from f m (suc k)))
    go true q z = record { at = record { place = k; leads = q; is = refl }; upto = h }
    go false q z = z (later q (eqb j k) refl)

-- so one is found
first_met : (f : ℕ → Found) (m k j : ℕ) → k ≤ j → j < k + m → (f j).found ≡ true → (first_from f m k).found ≡ true
first_met f m k j h l e = let x = first_meets f m k j h l e in ap (λ y. y.found) x.at.is ∙ x.at.leads

-- a list of d bus events that leads from a state, which has given the report r, to one that is asked for
pub record Leading (s : State) (r : Report) (q : Question) (d : ℕ) (l : List Action) : Type 0 where
  pub size : length l ≡ d
  pub kinds : all_bus_events l ≡ true
  pub accepted : all_accepted (results s l) ≡ true
  pub reports : gives q (last_report r (results s l)) ≡ true

begun_leads : (s : State) (r : Report) (q : Question) (d : ℕ) (a : Action) → is_bus_event a ≡ true → (y : Found) → (y.found ≡ true → Leading (step s a).state (step s a).report q d y.records) →
    (tried (λ x. y) a (step s a)).found ≡ true → Leading s r q (suc d) (tried (λ x. y) a (step s a)).records
begun_leads s r q d a e y z = go (is_accepted (step s a)) y.found refl refl
  where
    go : (b f : Bool) → is_accepted (step s a) ≡ b → y.found ≡ f → (cond b (record { found = f; records = cond f (a ∷ y.records) [] }) none).found ≡ true →
        Leading s r q (suc d) (cond b (record { found = f; records = cond f (a ∷ y.records) [] }) none).records
    go true true u v w = let x = z v in record { size = ap suc x.size; kinds = both _ _ e x.kinds; accepted = both _ _ u x.accepted; reports = x.reports }
    go true false u v w = never w
    go false f u v w = never w

-- what is found leads there
pub search_leads : (d : ℕ) (s : State) (r : Report) (q : Question) → (searched d s r q).found ≡ true → Leading s r q d (searched d s r q).records
unfolding searched
search_leads zero s r q e = record { size = refl; kinds = refl; accepted = refl; reports = e }
search_leads (suc d) s r q e =
    let x = first_leads (following d s q) (choices s.n s.phase) 0 e in
    let a = choice s.n s.phase x.place in
    subst (λ y. Leading s r q (suc d) y.records) (sym x.is)
    (begun_leads s r q d a (choice_event s.n s.phase x.place) (searched d (step s a).state (step s a).report q) (search_leads d (step s a).state (step s a).report q) x.leads)

-- a route that an action begins has it as its first record
begun_records : (a : Action) (x : Found) → x.found ≡ true → (begun a x).records ≡ a ∷ x.records
begun_records a x e = ap (λ b. cond b (a ∷ x.records) []) e

tried_records : (goes_on : Result → Found) (a : Action) (r : Result) → (tried goes_on a r).found ≡ true → (tried goes_on a r).records ≡ a ∷ (goes_on r).records
tried_records goes_on a r = go (is_accepted r)
  where
    go : (b : Bool) → (cond b (begun a (goes_on r)) none).found ≡ true → (cond b (begun a (goes_on r)) none).records ≡ a ∷ (goes_on r).records
    go true e = begun_records a (goes_on r) e
    go false e = never e

-- a search has found, and nothing after l
pub record Reaches (x : Found) (l : List Action) : Type 0 where
  pub found : x.found ≡ true
  pub not_after : (x.records ≡ l) ⊎ (precedes x.records l ≡ true)

-- one record more: the choice that is found first is this record, or it has the lower bytes
module _ (s : State) (q : Question) (a : Action) (l : List Action) (o : is_accepted (step s a) ≡ true) (x : Among s.n s.phase a)
    (y : Reaches (searched (length l) (step s a).state (step s a).report q) l) where
  abbrev f : ℕ → Found
  f = following (length l) s q

  abbrev rest : Found
  rest = searched (length l) (step s a).state (step s a).report q

  leads_on : f x.place ≡ begun a rest
  leads_on = ap (λ a. tried (λ x. searched (length l) x.state x.report q) a (step s a)) x.there ∙ ap (λ b. cond b (begun a rest) none) o

  same_record : (rest.records ≡ l) ⊎ (precedes rest.records l ≡ true) → (a ∷ rest.records ≡ a ∷ l) ⊎ (precedes (a ∷ rest.records) (a ∷ l) ≡ true)
  same_record = ⊎_elim (λ e. inl (ap (λ l. a ∷ l) e)) (λ e. inr (before_alike (bytes_of a) (records_of rest.records) (records_of l) ∙ e))

  lower_record : (j : ℕ) → j < x.place → (f j).found ≡ true → precedes (f j).records (a ∷ l) ≡ true
  lower_record j h e =
      let c = choice s.n s.phase j in
      ap (λ m. precedes m (a ∷ l)) (tried_records (λ x. searched (length l) x.state x.report q) c (step s c) e)
      ∙ before_on (bytes_of c) (bytes_of a) _ (records_of l)
      (subst (λ a. before (bytes_of c) (bytes_of a) ≡ true) x.there (choices_ascend s.n s.phase j x.place (is_valid s (open_valid s a o)).small h x.below))

  reached : Reaches (first_from f (choices s.n s.phase) 0) (a ∷ l)
  reached =
      let z = first_meets f (choices s.n s.phase) 0 x.place (omega arith) (omega (arith, x.below)) (ap (λ x. x.found) leads_on ∙ y.found) in
      subst (λ v. Reaches v (a ∷ l)) (sym z.at.is) record {
        found = z.at.leads;
        not_after = by_test (eqb z.at.place x.place)
            (λ e. subst (λ m. (m ≡ a ∷ l) ⊎ (precedes m (a ∷ l) ≡ true)) (sym (ap (λ j. (f j).records) (eqb-true _ _ e) ∙ ap (λ x. x.records) leads_on ∙ begun_records a rest y.found)) (same_record y.not_after))
            (λ e. inr (lower_record z.at.place (omega (arith, z.upto, eqb-false z.at.place x.place e)) z.at.leads));
      }

-- and what leads there is found, if nothing before it is
pub leads_reached : (l : List Action) (s : State) (r : Report) (q : Question) → all_bus_events l ≡ true → all_accepted (results s l) ≡ true → gives q (last_report r (results s l)) ≡ true → Reaches (searched (length l) s r q) l
unfolding searched
leads_reached [] s r q k o e = record { found = e; not_after = inl refl }
leads_reached (a ∷ l) s r q k o e =
    let accepted = and-true (is_accepted (step s a)) _ o in
    let event = and-true (is_bus_event a) _ k in
    reached s q a l accepted.0 (covers s a accepted.0 event.0) (leads_reached l (step s a).state (step s a).report q event.1 accepted.1 e)

-- it is found
pub leads_found : (l : List Action) (s : State) (r : Report) (q : Question) → all_bus_events l ≡ true → all_accepted (results s l) ≡ true → gives q (last_report r (results s l)) ≡ true → (searched (length l) s r q).found ≡ true
leads_found l s r q k o e = (leads_reached l s r q k o e).found
