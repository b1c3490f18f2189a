-- Words and figures as bytes.
use Rattle.std.specs.Prelude.{cond, List, [], ◌∷◌, ◌++◌, ℕ, zero, suc, ◌+◌, ◌/◌, ◌%◌, ltb}
use Prim.Native.Char.{code}
use Prim.Native.String.{String, [] as none, ◌∷◌ as ◌then◌}

-- the bytes of a word (all its characters are below 128)
abbrev pub ascii : String → List ℕ
ascii none = []
ascii (c then s) = code c ∷ ascii s

abbrev pub digit : ℕ → List ℕ
digit d = (48 + d) ∷ []

-- the decimal digits of n, in at most k steps
abbrev pub digits : ℕ → ℕ → List ℕ
digits zero n = []
digits (suc k) n = cond (ltb n 10) (digit n) (digits k (n / 10) ++ digit (n % 10))

-- "every figure in decimal". A number has no more digits than it counts, and one more serves 0.
unfoldable pub decimal : ℕ → List ℕ
decimal n = digits (suc n) n
