-- Negated tests. Assumes nothing.
use mathlib.Core.Path.{◌≡◌, refl}
use mathlib.Core.Bool.{Bool, true, false, not}

pub not-not : (b : Bool) → not (not b) ≡ b
not-not true = refl
not-not false = refl
