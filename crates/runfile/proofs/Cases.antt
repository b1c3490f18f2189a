-- Document 01's cases G and H. Assumes nothing.
use mathlib.Core.Path.{◌≡◌, refl}
use mathlib.Core.List.{List, ◌∷◌}
use Prim.Native.Nat.{ℕ}
use Rattle.charts.specs.declared.Refusal.TheVariants.{WrongSize}
use Rattle.std.specs.Prelude.{Err}
use Rattle.runfile.specs.Block.{zeros, check_in, check_of, holds, head_of, count_fits, read_block}
use Rattle.runfile.specs.Sums.{sums_of}
use Rattle.runfile.specs.Write.{body_of, block_with}

-- H: "block 0, count 1, n 2, arbitrate 0: check 47"
abbrev block_h : List ℕ
block_h = block_with 0 2 (2 ∷ zeros 15)

check_h : check_in block_h ≡ 47
unfolding block_with body_of
check_h = refl

read_h : read_block block_h ≡ holds 0 1 2
unfolding read_block head_of count_fits check_of block_with body_of
read_h = refl

-- its one sum, byte 14 × 15, and 0 past the count
sums_h : sums_of block_h ≡ 30 ∷ zeros 30
unfolding sums_of count_fits block_with body_of
sums_h = refl

-- G: "512 zero bytes"
read_g : read_block (zeros 512) ≡ Err WrongSize
unfolding read_block head_of count_fits check_of
read_g = refl
