-- Lists in parts, and lists of zeros. Assumes nothing.
use mathlib.Core.Path.{◌≡◌, refl, ap}
use mathlib.Core.Bool.{Bool, true, false, ◌&&◌}
use mathlib.Core.List.{List, [], ◌∷◌, ◌++◌}
use Prim.Native.Nat.{ℕ, zero, suc, ◌+◌, ◌<◌, ◌≤◌}
use native.Mathlib.Omega.{arith}
use lib.Dec.{eqb}
use mathlib.Core.Logic.{◌≢◌}
use Rattle.std.specs.Bool.{MatchBool}
use Rattle.std.specs.List.{AllWithin, HoldsAt}
use lib.ListN.{length, take, drop, get_or, take-append-drop}
use lib.Seq.{take-add, drop_at, length-take-le, get_or-append-add, get_or-drop}
use borrow.Author.Tests.{eqb-true, eq-eqb, ne_eqb}
use Rattle.record.specs.Bytes.{Bytes}
use Rattle.runfile.specs.Block.{zeros, all_zero}
use Rattle.runfile.proofs.Loops.{and_left, and_right}

-- what stands past a first part
pub past : (p q : List ℕ) (k i : ℕ) → length p ≡ k → get_or (p ++ q) (k + i) 0 ≡ get_or q i 0
past p q k i e = rw (← e) (get_or-append-add p q i 0)

-- k elements from place i on, cut out in two ways
pub cut : (i k : ℕ) (l : List ℕ) → i ≤ length l → drop i (take (i + k) l) ≡ take k (drop i l)
cut i k l h = rw (take-add i k l) (drop_at (take i l) (take k (drop i l)) i (length-take-le i l h))

-- zeros and nothing else
pub zeros_zero : (k : ℕ) → all_zero (zeros k) ≡ true
zeros_zero zero = refl
zeros_zero (suc k) = zeros_zero k

pub zero_zeros : (l : List ℕ) → all_zero l ≡ true → l ≡ zeros (length l)
zero_zeros [] h = refl
zero_zeros (x ∷ l) h =
    let e = eqb-true x 0 (and_left (eqb x 0) (all_zero l) h) in
    rw e (ap (λ (r : List ℕ). 0 ∷ r) (zero_zeros l (and_right (eqb x 0) (all_zero l) h)))

pub bytes_zeros : (k : ℕ) → Bytes (zeros k)
bytes_zeros zero i = omega arith
bytes_zeros (suc k) zero = omega arith
bytes_zeros (suc k) (suc i) = bytes_zeros k i

-- the parts of a list of bytes
pub bytes_first : (s t : List ℕ) → Bytes (s ++ t) → Bytes s
bytes_first [] t h i = omega arith
bytes_first (x ∷ s) t h zero = h 0
bytes_first (x ∷ s) t h (suc i) = bytes_first s t (λ j. h (suc j)) i

pub bytes_second : (s t : List ℕ) → Bytes (s ++ t) → Bytes t
bytes_second [] t h i = h i
bytes_second (x ∷ s) t h i = bytes_second s t (λ j. h (suc j)) i

pub bytes_drop : (k : ℕ) (s : List ℕ) → Bytes s → Bytes (drop k s)
bytes_drop k s h i = rw (get_or-drop k s i 0) (h (k + i))

pub bytes_take : (k : ℕ) (s : List ℕ) → Bytes s → Bytes (take k s)
bytes_take k s h = bytes_first (take k s) (drop k s) (λ i. rw (take-append-drop k s) (h i))

-- a list of which each element is 0, or one is not
pub by_all : (l : List ℕ) (b : Bool) → MatchBool b (AllWithin (λ x. x ≡ 0) l 0 (length l)) ((k : ℕ) × (k < length l) × HoldsAt (λ x. x ≢ 0) l k) → b ≡ all_zero l
by_all [] true m = refl
by_all [] false m = absurd (omega (arith, m.1))
by_all (x ∷ l) true m = rw (eq-eqb x 0 (m 0 0 (omega arith) (omega arith))) (by_all l true (λ k d low high. m (suc k) d (omega arith) (omega arith)))
by_all (x ∷ l) false (zero, low, holds) = rw (ne_eqb x 0 (holds 0))
by_all (x ∷ l) false (suc k, low, holds) = after (eqb x 0) (by_all l false (k, (omega arith), (λ d. holds d)))
  where
    after : (b : Bool) → false ≡ all_zero l → false ≡ (b && all_zero l)
    after true e = e
    after false e = refl
