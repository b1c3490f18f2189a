-- A line of figures, figure by figure. Assumes nothing.
use mathlib.Core.Path.{◌≡◌, ap, sym, ◌∙◌}
use mathlib.Core.List.{List, [], ◌∷◌, ◌++◌, map, append_assoc, append-nil}
use Prim.Native.Nat.{ℕ, ◌+◌, ◌<◌}
use native.Mathlib.Numerals.{add-one}
use lib.ListN.{length, take, get_or}
use lib.Seq.{take-suc}
use Rattle.transcript.specs.Lines.{line}
use Rattle.transcript.specs.Text.{decimal}

-- figures, each after a space
abbrev pub spaced : List ℕ → List ℕ
spaced [] = []
spaced (x ∷ l) = 32 ∷ (decimal x ++ spaced l)

spaced_snoc : (l : List ℕ) (x : ℕ) → spaced (l ++ (x ∷ [])) ≡ spaced l ++ (32 ∷ decimal x)
spaced_snoc [] x = ap (λ (t : List ℕ). 32 ∷ t) (append-nil (decimal x))
spaced_snoc (y ∷ l) x =
    ap (λ (t : List ℕ). 32 ∷ t) (ap (λ (t : List ℕ). decimal y ++ t) (spaced_snoc l x) ∙ sym (append_assoc (decimal y) (spaced l) (32 ∷ decimal x)))

-- one figure more, and the end of the line
pub spaced_more : (l : List ℕ) (k : ℕ) → k < length l → (spaced (take k l) ++ (32 ∷ [])) ++ decimal (get_or l k 0) ≡ spaced (take (k + 1) l)
spaced_more l k h =
    append_assoc (spaced (take k l)) (32 ∷ []) (decimal (get_or l k 0)) ∙ sym (rw (add-one k, take-suc l k 0 h) (spaced_snoc (take k l) (get_or l k 0)))

pub line_spaced : (w l : List ℕ) → line (w ∷ map decimal l) ≡ (w ++ spaced l) ++ (10 ∷ [])
line_spaced w [] = ap (λ (t : List ℕ). t ++ (10 ∷ [])) (sym (append-nil w))
line_spaced w (x ∷ l) =
    ap (λ (t : List ℕ). w ++ (32 ∷ t)) (line_spaced (decimal x) l) ∙ sym (append_assoc w (spaced (x ∷ l)) (10 ∷ []))
