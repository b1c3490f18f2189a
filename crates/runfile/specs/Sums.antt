-- The sums of a block's actions. Request 5: "31 numbers for tracing".
use Rattle.std.specs.Prelude.{cond, List, [], ◌∷◌, ◌++◌, ℕ, zero, suc, ◌*◌, ◌-◌, ◌%◌, take, drop}
use Rattle.runfile.specs.Block.{weigh, zeros, count_in, count_fits}

-- "the k-th, from 1, is the check's sum over bytes 14 to 13 + 16k modulo 65,521", the bytes from byte 14 on being given
abbrev pub sum_to : ℕ → List ℕ → ℕ
sum_to k actions = weigh 14 (take (16 * k) actions) % 65521

-- the first k of them, in order
abbrev pub sums_to : ℕ → List ℕ → List ℕ
sums_to zero actions = []
sums_to (suc k) actions = sums_to k actions ++ (sum_to (suc k) actions ∷ [])

-- "31 numbers"; "0 past the count"
abbrev pub sums_for : ℕ → List ℕ → List ℕ
sums_for count actions = sums_to count actions ++ zeros (31 - count)

-- the sums of a block, read off its bytes. (What 11 refuses has no count, and no sums.)
unfoldable pub sums_of : List ℕ → List ℕ
sums_of s = cond (count_fits s) (sums_for (count_in s) (drop 14 s)) (zeros 31)
