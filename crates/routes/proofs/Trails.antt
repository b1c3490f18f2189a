-- Routes in the places of an answer. Assumes nothing.
use mathlib.Core.Path.{◌≡◌, refl, ap}
use mathlib.Core.List.{List, [], ◌∷◌, ◌++◌}
use Prim.Native.Nat.{ℕ, zero, suc}
use lib.ListN.{take, replicate}
use Rattle.charts.specs.declared.Action.{Action}
use Rattle.charts.specs.Records.{blank}
use Rattle.charts.specs.Routes.{in_places}

take_first : {A : Type 0} (n : ℕ) (l : List A) → take n (take (suc n) l) ≡ take n l
take_first zero l = refl
take_first (suc n) [] = refl
take_first (suc n) (a ∷ l) = ap (λ l. a ∷ l) (take_first n l)

-- a record before a route takes the first place
pub places_after : (a : Action) (l : List Action) → a ∷ take 5 (in_places l) ≡ in_places (a ∷ l)
places_after a l = ap (λ l. a ∷ l) (take_first 5 (l ++ replicate 6 blank))
