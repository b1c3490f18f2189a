-- A turn and the end of a loop over the records that stand one after the other in a list of bytes. Assumes nothing.
use mathlib.Core.Path.{◌≡◌}
use mathlib.Core.List.{List, [], ◌∷◌}
use Prim.Native.Nat.{ℕ, suc, ◌+◌, ◌*◌, ◌-◌, ◌<◌, ◌≤◌}
use native.Mathlib.Omega.{arith}
use lib.ListN.{length, take, drop, length-drop}
use lib.Seq.{drop-drop, take_all}
use Rattle.charts.specs.Layout.{action_at, actions_of}

-- the part of a list from a place to its end
pub tail_part : (s : List ℕ) (k : ℕ) → take (length s - k) (drop k s) ≡ drop k s
tail_part s k = take_all (length s - k) (drop k s) (simp length-drop (omega arith))

-- so many records from record k on
pub records_more : (s : List ℕ) (count k : ℕ) → k < count
    → actions_of (count - k) (drop (16 * k) s) ≡ action_at (drop (16 * k) s) ∷ actions_of (count - (k + 1)) (drop (16 * (k + 1)) s)
records_more s count k h =
    let w : count - k ≡ suc (count - (k + 1)) = omega arith in
    let e : 16 * (k + 1) ≡ 16 * k + 16 = omega arith in
    rw (w, e, drop-drop 16 (16 * k) s)

pub records_none : (s : List ℕ) (count k : ℕ) → count ≤ k → actions_of (count - k) (drop (16 * k) s) ≡ []
records_none s count k h =
    let w : count - k ≡ 0 = omega arith in
    rw w
