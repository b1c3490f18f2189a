-- What kinds 2 and 12 do is what the charts say of arbitrate and decide. Assumes nothing.
use mathlib.Core.Path.{◌≡◌, refl}
use mathlib.Core.Bool.{Bool}
use mathlib.Core.List.{[], ◌∷◌}
use Prim.Native.Nat.{ℕ}
use types.Run.{OneOf, miss}
use denote.Enum.Declared.{tag_of}
use Rattle.charts.specs.contracts.Move.{the_type}
use Rattle.charts.specs.declared.Phase.{Phase}
use Rattle.charts.specs.declared.Cell.{Cell}
use Rattle.charts.specs.declared.Move.{Move}
use Rattle.charts.specs.declared.Move.TheVariants.{Request, Arbitrate, Respond, Clock, Carry, Grant, GapNext, Reset, Ask, Decide}
use Rattle.charts.specs.Reception.{Reception}
use Rattle.charts.specs.Actions.{arbitrate, decide, outcome}
use Rattle.deciding.specs.Decides.{decides}

-- of an action of these kinds, the second or the tenth of the type
pub decides_is : (h : Reception) (n : ℕ) (p : Phase) (b : Bool) (i : ℕ) (c : Cell) (ws ps hs : ℕ → Bool) (m : Move) → OneOf (1 ∷ 9 ∷ []) (tag_of the_type m) →
    decides p i c m ≡ outcome h n p b i c ws ps hs m
unfolding outcome arbitrate decide
decides_is h n p b i c ws ps hs (Request j q) k = absurd (miss (1 ∷ 9 ∷ []) 0 tt k)
decides_is h n p b i c ws ps hs (Arbitrate j) k = refl
decides_is h n p b i c ws ps hs (Respond j a hold) k = absurd (miss (1 ∷ 9 ∷ []) 2 tt k)
decides_is h n p b i c ws ps hs (Clock j) k = absurd (miss (1 ∷ 9 ∷ []) 3 tt k)
decides_is h n p b i c ws ps hs (Carry w) k = absurd (miss (1 ∷ 9 ∷ []) 4 tt k)
decides_is h n p b i c ws ps hs Grant k = absurd (miss (1 ∷ 9 ∷ []) 5 tt k)
decides_is h n p b i c ws ps hs GapNext k = absurd (miss (1 ∷ 9 ∷ []) 6 tt k)
decides_is h n p b i c ws ps hs Reset k = absurd (miss (1 ∷ 9 ∷ []) 7 tt k)
decides_is h n p b i c ws ps hs (Ask j) k = absurd (miss (1 ∷ 9 ∷ []) 8 tt k)
decides_is h n p b i c ws ps hs (Decide j) k = refl
