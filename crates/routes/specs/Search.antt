-- The search: "going deeper by one action with one less left".
use Rattle.std.specs.Prelude.{Bool, false, cond, List, [], ◌∷◌, ℕ, zero, suc, take, Option, Some, None}
use Rattle.charts.specs.declared.Report.{Report}
use Rattle.charts.specs.declared.Action.{Action}
use Rattle.charts.specs.declared.Question.{Question}
use Rattle.charts.specs.Routes.{gives, in_places}
use Rattle.charts.specs.State.{State}
use Rattle.charts.specs.Step.{Result, step, is_accepted}
use Rattle.routes.specs.Choices.{choices, choice}

-- whether a route was found, and its records
pub record Found : Type 0 where
  pub found : Bool
  pub records : List Action

abbrev pub none : Found
none = record { found = false; records = [] }

-- the route that an action begins, if it has a rest
abbrev pub begun : Action → Found → Found
begun a x = record { found = x.found; records = cond x.found (a ∷ x.records) [] }

-- an action is tried: where it is accepted, the rest goes on from what it leaves
abbrev pub tried : (Result → Found) → Action → Result → Found
tried goes_on a r = cond (is_accepted r) (begun a (goes_on r)) none

-- the first of m choices, from the k-th on, that leads to the report
abbrev pub or_else : Found → Found → Found
or_else x y = cond x.found x y

abbrev pub first_from : (ℕ → Found) → ℕ → ℕ → Found
first_from f zero k = none
first_from f (suc m) k = or_else (f k) (first_from f m (suc k))

-- the first route of just d bus events, where the state has given the report r: with none left, r itself is the report that is asked for or it is not
unfoldable pub searched : ℕ → State → Report → Question → Found
searched zero s r q = record { found = gives q r; records = [] }
searched (suc d) s r q =
    first_from (λ k. tried (λ x. searched d x.state x.report q) (choice s.n s.phase k) (step s (choice s.n s.phase k))) (choices s.n s.phase) 0

-- the k-th choice, tried with d left after it
abbrev pub following : ℕ → State → Question → ℕ → Found
following d s q k = tried (λ x. searched d x.state x.report q) (choice s.n s.phase k) (step s (choice s.n s.phase k))

-- the code's trails: the records of a route in their places
abbrev pub prepended : Action → List Action → List Action
prepended a l = a ∷ take 5 l

abbrev pub trail_of : Found → Option (List Action)
trail_of x = cond x.found (Some (in_places x.records)) None
