-- The pieces of a file, and the actions of a piece. Assumes nothing.
use mathlib.Core.Path.{◌≡◌, refl, ap}
use mathlib.Core.List.{List, [], ◌∷◌, ◌++◌, append-nil}
use Prim.Native.Nat.{ℕ, zero, suc, ◌+◌, ◌*◌, ◌-◌, ◌<◌, ◌≤◌}
use native.Mathlib.Omega.{arith}
use lib.ListN.{length, drop, length-append, length-drop}
use lib.Seq.{take_at, drop_at, drop-drop}
use Rattle.charts.specs.declared.Action.{Action}
use Rattle.charts.specs.Layout.{action_at, actions_of}
use Rattle.files.specs.Pieces.{cut, pieces, actions_in}

-- more pieces than there are bytes change nothing
enough : (k m : ℕ) (t : List ℕ) → length t ≤ k → length t ≤ m → cut k t ≡ cut m t
enough zero zero t h g = refl
enough zero (suc m) [] h g = refl
enough zero (suc m) (b ∷ l) h g = absurd (omega arith)
enough (suc k) zero [] h g = refl
enough (suc k) zero (b ∷ l) h g = absurd (omega arith)
enough (suc k) (suc m) [] h g = refl
enough (suc k) (suc m) (b ∷ l) h g =
    let long = length-drop 512 (b ∷ l) in
    rw (enough k m (drop 512 (b ∷ l)) (omega arith) (omega arith))

-- a block and the rest of a file are cut where the block ends
pub more_pieces : (s t : List ℕ) → length s ≡ 512 → pieces (s ++ t) ≡ s ∷ pieces t
more_pieces [] t e = absurd (omega arith)
more_pieces (b ∷ s) t e =
    let long = length-append s t in
    rw (take_at (b ∷ s) t 512 e, drop_at (b ∷ s) t 512 e, enough (length (s ++ t)) (length t) t (omega arith) (omega arith))

pub one_piece : (s : List ℕ) → length s ≡ 512 → pieces s ≡ s ∷ []
one_piece s e = rw append-nil at (more_pieces s [] e)

-- as many actions as the count says
actions_length : (count : ℕ) (s : List ℕ) → length (actions_of count s) ≡ count
actions_length zero s = refl
actions_length (suc k) s = ap suc (actions_length k (drop 16 s))

pub count_actions : (count : ℕ) (piece : List ℕ) → length (actions_in count piece) ≡ count
count_actions count piece = actions_length count (drop 14 piece)

-- the actions from k on
abbrev pub left : ℕ → ℕ → List ℕ → List Action
left count k piece = actions_of (count - k) (drop (14 + 16 * k) piece)

pub left_all : (count : ℕ) (piece : List ℕ) → left count 0 piece ≡ actions_in count piece
left_all count piece = let e : count - 0 ≡ count = omega arith in rw e

pub left_none : (count k : ℕ) (piece : List ℕ) → count ≤ k → left count k piece ≡ []
left_none count k piece h = let e : count - k ≡ 0 = omega arith in rw e

pub left_more : (count k : ℕ) (piece : List ℕ) → k < count → left count k piece ≡ action_at (drop (14 + 16 * k) piece) ∷ left count (k + 1) piece
left_more count k piece h =
    let e : count - k ≡ suc (count - (k + 1)) = omega arith in
    let f : 14 + 16 * k + 16 ≡ 14 + 16 * (k + 1) = omega arith in
    rw (e, drop-drop, f)
