-- A block of a run file as it is written.
use Rattle.std.specs.Prelude.{◌≡◌, Bool, cond, ◌&&◌, not, List, [], ◌∷◌, ◌++◌, ℕ, ◌-◌, ◌/◌, ◌%◌, eqb, length, true, Option, Some, None, Result, Ok, Err}
use Rattle.std.proofs.lemmas.List.Edits.{sets}
use Rattle.charts.specs.Numbers as N
use Rattle.charts.specs.Valid.{is_size}
use Rattle.charts.specs.Numbers.{number_of}
use Rattle.charts.specs.Records.{Decoded, read}
use Rattle.charts.specs.declared.Action.{Action}
use Rattle.charts.specs.declared.Refusal.{Refusal}
use Rattle.charts.specs.Layout.{little, actions_of, records_of}
use Rattle.runfile.specs.declared.Summed.{Summed}
use Rattle.runfile.specs.Block.{is_count, weigh, zeros, check_sum, holds, read_block, used_bytes}
use Rattle.runfile.specs.Sums.{sums_for, sums_of}

-- "then 2 to 6 for each action", 13 "looked at after 5, by the writer too", and 15 (request 10: "the writer does not write one"): the first refusal, or 0
abbrev pub refused_or : Decoded → ℕ → ℕ
refused_or (Err k) later = number_of k
refused_or (Ok m) later = later

abbrev pub first_refusal : ℕ → List Action → ℕ
first_refusal n [] = N.accepted
first_refusal n (a ∷ l) = refused_or (read n a) (first_refusal n l)

-- the bytes of 1 to 31 action records
abbrev pub is_records : ℕ → Bool
is_records size = is_count (size / 16) && eqb (size % 16) 0

-- "The writer looks at 8, 1, 11, then 2 to 6 for each action" (13 and 15 after 5). Bytes that are no whole number of action records have no count, and are 11.
unfoldable pub write_number : ℕ → ℕ → List ℕ → ℕ
write_number size n records =
    cond (not (eqb size 512)) N.wrong_length
    (cond (not (is_size n)) N.wrong_size
    (cond (not (is_records (length records))) N.wrong_count
    (first_refusal n (actions_of (length records / 16) records))))

-- what is known once 8, 1 and 11 were looked at
abbrev pub Called : ℕ → ℕ → List ℕ → Result Unit Refusal → Type 0
Called size n records (Ok u) = (size ≡ 512) × (is_size n ≡ true) × (is_records (length records) ≡ true)
Called size n records (Err k) = write_number size n records ≡ number_of k

-- "Bytes 0–3 block number from 0; 4 count, 1–31; 5 n; 6–13 zero. The actions of a block start at byte 14"; "Bytes past the last action are 0": bytes 0 to 509
abbrev pub head_bytes : ℕ → ℕ → ℕ → List ℕ
head_bytes number count n = little 4 number ++ (count ∷ n ∷ zeros 8)

unfoldable pub body_of : ℕ → ℕ → List ℕ → List ℕ
body_of number n records = head_bytes number (length records / 16) n ++ (records ++ zeros (496 - length records))

-- "Bytes 510–511": the check, after bytes 0 to 509
abbrev pub sealed : List ℕ → List ℕ
sealed body = body ++ little 2 (check_sum body)

-- the block with those action bytes
unfoldable pub block_with : ℕ → ℕ → List ℕ → List ℕ
block_with number n records = sealed (body_of number n records)

-- the block of a list of 1 to 31 actions
abbrev pub block_of : ℕ → ℕ → List Action → List ℕ
block_of number n l = block_with number n (records_of l)

-- "A refused write leaves its buffer as it was": what the buffer holds after a write that answered that number
abbrev pub written : ℕ → List ℕ → List ℕ → List ℕ
written number old new = cond (eqb number N.accepted) new old

-- the sums that a write gives: those of the block's actions, and 31 zeros if it is refused
abbrev pub sums_given : Option Refusal → List ℕ → List ℕ
sums_given None block = sums_of block
sums_given (Some k) block = zeros 31

-- what the writer has when it took all actions: they stand in a block, their bytes are summed, and so are those of the first k
pub record Takes (records : List ℕ) (count : ℕ) (r : Summed) : Type 0 where
  pub stored : r.block ≡ sets (zeros 512) 14 records
  pub summed : r.sum ≡ weigh 14 records
  pub each : r.sums ≡ sums_for count records

-- a written block reads back: the same number and n, and the action bytes that were given
pub record ReadsBack (number n : ℕ) (records : List ℕ) : Type 0 where
  pub head : read_block (block_with number n records) ≡ holds number (length records / 16) n
  pub used : used_bytes (block_with number n records) ≡ records
