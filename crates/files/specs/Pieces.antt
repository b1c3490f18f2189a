-- A file cut into pieces, each looked at as the next block of the file.
use Rattle.std.specs.Prelude.{Bool, true, cond, ◌&&◌, ◌||◌, not, List, [], ◌∷◌, ℕ, zero, suc, eqb, ltb, length, take, drop, Ok, Err}
use Rattle.charts.specs.declared.Refusal.TheVariants.{WrongOrder, WrongCount}
use Rattle.charts.specs.declared.Action.{Action}
use Rattle.charts.specs.Layout.{actions_of}
use Rattle.runfile.specs.Block.{Head, count_fits}

-- "Blocks of 512 bytes": a file cut into pieces of 512 bytes, the last one possibly shorter. (No file has more pieces than bytes.)
abbrev pub cut : ℕ → List ℕ → List (List ℕ)
cut zero bytes = []
cut (suc k) [] = []
cut (suc k) (b ∷ l) = take 512 (b ∷ l) ∷ cut k (drop 512 (b ∷ l))

abbrev pub pieces : List ℕ → List (List ℕ)
pieces bytes = cut (length bytes) bytes

-- what 10 asks of the blocks before: how many they are, whether the last of them is full, and block 0's n
pub record Before : Type 0 where
  pub blocks : ℕ
  pub full : Bool
  pub n : ℕ

abbrev pub none : Before
none = record { blocks = 0; full = true; n = 0 }

abbrev pub is_first : Before → Bool
is_first p = eqb p.blocks 0

-- 10: "block number not the next (first: 0; none follows 4,294,967,295), n not block 0's, or the block before not full" is refused
abbrev pub follows : Before → ℕ → ℕ → Bool
follows p number n =
    ltb p.blocks 4294967296 && (eqb number p.blocks && ((is_first p || eqb n p.n) && p.full))

-- "A file's block is looked at by 8, 9, 1, 10, 11"
abbrev pub looked_at : Before → List ℕ → Head → Head
looked_at p s (Err k) = Err k
looked_at p s (Ok h) =
    cond (not (follows p h.number h.n)) (Err WrongOrder)
    (cond (not (count_fits s)) (Err WrongCount)
    (Ok h))

-- "The actions of a block start at byte 14, 16 bytes each"
abbrev pub actions_in : ℕ → List ℕ → List Action
actions_in count s = actions_of count (drop 14 s)
