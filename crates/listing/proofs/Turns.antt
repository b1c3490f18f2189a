-- The state of a listing is block 0's n throughout, and nothing stands at its end. Assumes nothing.
use mathlib.Core.Path.{◌≡◌, refl}
use mathlib.Core.List.{[]}
use Rattle.files.specs.declared.order.Stage.{Stage}
use Rattle.files.specs.declared.order.Stage.TheVariants.{Unopened, After, Ended}
use Rattle.walk.specs.Feeding.{finish_of}
use Rattle.walk.proofs.Nodes.{KeepsN}
use Rattle.listing.specs.Listed.{naming}

pub naming_n : KeepsN naming
naming_n = record { opening_n = λ n. refl; nodes_n = λ n. refl; turn_n = λ i a n. refl }

pub no_end : (g : Stage) → (g ≡ Unopened → ⊥) → finish_of naming.done g ≡ []
unfolding finish_of
no_end Unopened e = absurd (e refl)
no_end (After i c) e = refl
no_end Ended e = refl
