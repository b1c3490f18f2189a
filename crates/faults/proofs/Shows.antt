-- What a word shows, byte by byte. Assumes nothing.
use mathlib.Core.Path.{◌≡◌, refl, ap, ◌∙◌}
use mathlib.Core.List.{List, [], ◌∷◌, ◌++◌, append_assoc, append-nil}
use Prim.Native.Nat.{ℕ, suc, ◌+◌, ◌-◌, ◌<◌, ◌≤◌}
use mathlib.Core.Bool.{Bool, true, false, ◌&&◌, ◌||◌}
use native.Mathlib.Omega.{arith}
use lib.ListN.{length, take, drop, get_or, length-drop}
use lib.Seq.{drop-cons, get_or-drop}
use Rattle.std.specs.Prelude.{eqb}
use Rattle.std.proofs.lemmas.List.{take_more}
use Rattle.faults.specs.Faults.{shown_byte, shown_bytes, has_no_break}

shown_then : (s t : List ℕ) → shown_bytes (s ++ t) ≡ shown_bytes s ++ shown_bytes t
shown_then [] t = refl
shown_then (b ∷ s) t = rw (shown_then s t, append_assoc)

pub shown_more : (w : List ℕ) (i : ℕ) → i < length w → shown_bytes (take (i + 1) w) ≡ shown_bytes (take i w) ++ shown_byte (get_or w i 0)
shown_more w i h = rw (take_more w i 0 h, shown_then (take i w) (get_or w i 0 ∷ []), append-nil)

pub break_step : (w : List ℕ) (k : ℕ) → 1 ≤ k → k < length w → has_no_break (drop (k - 1) w) ≡ ((eqb (get_or w (k - 1) 0) 194 && eqb (get_or w k 0) 160) || has_no_break (drop k w))
break_step w k h g =
    let next : suc (k - 1) ≡ k = omega arith in
    let same : k + 0 ≡ k = omega arith in
    let apart : drop (k - 1) w ≡ get_or w (k - 1) 0 ∷ drop k w = drop-cons w (k - 1) 0 (omega arith) ∙ ap (λ j. get_or w (k - 1) 0 ∷ drop j w) next in
    rw (apart, get_or-drop k w 0 0, same)

never : (b : Bool) → (b && false || false) ≡ false
never true = refl
never false = refl

one_has_none : (l : List ℕ) → length l ≤ 1 → has_no_break l ≡ false
one_has_none [] h = refl
one_has_none (b ∷ []) h = never (eqb b 194)
one_has_none (b ∷ a ∷ l) h = absurd (omega arith)

pub break_none : (w : List ℕ) (k : ℕ) → length w ≤ k → has_no_break (drop (k - 1) w) ≡ false
break_none w k h = one_has_none (drop (k - 1) w) (let e = length-drop (k - 1) w in omega arith)
