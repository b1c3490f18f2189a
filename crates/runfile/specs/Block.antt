-- A block of a run file as it is read.
use Rattle.std.specs.Prelude.{◌≡◌, Bool, true, cond, ◌&&◌, not, List, [], ◌∷◌, ℕ, ◌+◌, ◌*◌, ◌%◌, ◌≤◌, eqb, ltb, length, get_or, take, drop, replicate, Result, Ok, Err}
use Rattle.std.proofs.Math.Seq.{slice}
use Rattle.charts.specs.declared.Refusal.{Refusal}
use Rattle.charts.specs.declared.Refusal.TheVariants as R
use Rattle.charts.specs.Valid.{is_size}
use Rattle.charts.specs.Layout.{value}
use Rattle.runfile.specs.declared.BlockHead.{BlockHead}

-- "Bytes 0–3 block number from 0; 4 count, 1–31; 5 n"; "Bytes 510–511": the check
abbrev pub number_in : List ℕ → ℕ
number_in s = value (get_or s 0 0 ∷ get_or s 1 0 ∷ get_or s 2 0 ∷ get_or s 3 0 ∷ [])

abbrev pub count_in : List ℕ → ℕ
count_in s = get_or s 4 0

abbrev pub n_in : List ℕ → ℕ
n_in s = get_or s 5 0

abbrev pub check_in : List ℕ → ℕ
check_in s = value (get_or s 510 0 ∷ get_or s 511 0 ∷ [])

-- "sum over bytes i = 0 to 509 of byte × (i+1), modulo 65,521": the sum of bytes of which the first is byte i; the check of bytes 0 to 509; the check of a block
abbrev pub weigh : ℕ → List ℕ → ℕ
weigh i [] = 0
weigh i (x ∷ l) = x * (i + 1) + weigh (i + 1) l

abbrev pub check_sum : List ℕ → ℕ
check_sum body = weigh 0 body % 65521

unfoldable pub check_of : List ℕ → ℕ
check_of s = check_sum (take 510 s)

-- the sum of all numbers of a list
abbrev pub total : List ℕ → ℕ
total [] = 0
total (x ∷ l) = x + total l

-- two lists of numbers added place by place
abbrev pub plus : List ℕ → List ℕ → List ℕ
plus [] m = []
plus (x ∷ l) [] = []
plus (x ∷ l) (y ∷ m) = (x + y) ∷ plus l m

-- "count 0 or over 31" is refused
abbrev pub is_count : ℕ → Bool
is_count count = ltb 0 count && ltb count 32

abbrev pub zeros : ℕ → List ℕ
zeros k = replicate k 0

abbrev pub all_zero : List ℕ → Bool
all_zero [] = true
all_zero (x ∷ l) = eqb x 0 && all_zero l

-- "The actions of a block start at byte 14, 16 bytes each": where the bytes past the last action begin
abbrev pub used_end : ℕ → ℕ
used_end count = 14 + 16 * count

-- "A file's block is looked at by 8, 9, 1, 10, 11": the head by 8, 9 and 1. Of these bytes alone 10 can't be told, so a reader of files
-- takes number and n from here, looks at 10, and then at 11 by `count_fits`.
abbrev pub Head : Type 0
Head = Result BlockHead Refusal

abbrev pub holds : ℕ → ℕ → ℕ → Head
holds number count n = Ok (record { number = number; count = count; n = n })

unfoldable pub head_of : List ℕ → Head
head_of s =
    cond (not (eqb (length s) 512)) (Err R.WrongLength)
    (cond (not (eqb (check_in s) (check_of s))) (Err R.WrongCheck)
    (cond (not (is_size (n_in s))) (Err R.WrongSize)
    (holds (number_in s) (count_in s) (n_in s))))

-- 11: 512 bytes without "count 0 or over 31, or a byte 6–13 or past the last action not 0"
unfoldable pub count_fits : List ℕ → Bool
count_fits s =
    eqb (length s) 512 && (is_count (count_in s) && (all_zero (slice 6 14 s) && all_zero (slice (used_end (count_in s)) 510 s)))

-- "A single block read by itself is looked at by 8, 9, 1 and 11 only"
abbrev pub looked_at : Bool → Head → Head
looked_at fits (Ok h) = cond fits (Ok h) (Err R.WrongCount)
looked_at fits (Err k) = Err k

unfoldable pub read_block : List ℕ → Head
read_block s = looked_at (count_fits s) (head_of s)

-- "gives back the used action bytes of the caller's own block": bytes 14 to 14 + 16 × count; "a refused read gives no actions"
abbrev pub used_of : List ℕ → Head → List ℕ
used_of s (Ok h) = take (16 * h.count) (drop 14 s)
used_of s (Err k) = []

unfoldable pub used_bytes : List ℕ → List ℕ
used_bytes s = used_of s (read_block s)

-- what is known of a block whose head was read, and of one that was read by itself
abbrev pub head_fits : List ℕ → Head → Type 0
head_fits s (Ok h) = (length s ≡ 512) × (h.count ≡ count_in s)
head_fits s (Err k) = Unit

abbrev pub block_fits : List ℕ → Head → Type 0
block_fits s (Ok h) = (length s ≡ 512) × (h.count ≤ 31)
block_fits s (Err k) = Unit
