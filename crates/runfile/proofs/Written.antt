-- A block that was written reads back. Assumes nothing.
use mathlib.Core.Path.{◌≡◌, refl}
use mathlib.Core.Bool.{Bool, true, false, cond, not}
use mathlib.Core.List.{List, ◌++◌, append_assoc}
use Prim.Native.Nat.{ℕ, ◌*◌, ◌-◌, ◌/◌, ◌<◌}
use native.Mathlib.Omega.{arith}
use lib.Dec.{eqb}
use lib.ListN.{length, take, drop, length-append}
use lib.Seq.{take_at, drop_at, slice}
use borrow.Author.Tests.{eq-eqb}
use Rattle.charts.specs.Numbers as N
use Rattle.charts.specs.Valid.{is_size}
use Rattle.charts.specs.Layout.{little, bound, actions_of}
use Rattle.record.proofs.Little.{value_little}
use Rattle.runfile.specs.Block.{number_in, count_in, n_in, check_sum, check_of, check_in, is_count, zeros, all_zero, used_end, holds, head_of, count_fits, read_block, used_bytes}
use Rattle.runfile.specs.Sums.{sums_for, sums_of}
use Rattle.std.specs.Prelude.{Ok}
use Rattle.runfile.specs.Write.{Called, is_records, first_refusal, write_number, head_bytes, body_of, sealed, block_with, ReadsBack}
use Rattle.runfile.proofs.Loops.{and_left, records_small, records_all}
use Rattle.runfile.proofs.Stored.{body_length}
use Rattle.runfile.proofs.Parts.{past, zeros_zero}
use Rattle.runfile.proofs.Traces.{sums_append}

-- 510 bytes and their check
module _ (body : List ℕ) (e : length body ≡ 510) where
  first : take 510 (sealed body) ≡ body
  first = take_at body (little 2 (check_sum body)) 510 e

  sealed_length : length (sealed body) ≡ 512
  sealed_length = simp length-append (omega arith)

  same_check : check_in (sealed body) ≡ check_of (sealed body)
  unfolding check_of
  same_check =
      let small : check_sum body < bound 2 = omega arith in
      rw (first, past body (little 2 (check_sum body)) 510 0 e, past body (little 2 (check_sum body)) 510 1 e) (value_little 2 (check_sum body) small)

module _ (number n : ℕ) (records : List ℕ) (whole : is_records (length records) ≡ true) where
  size_510 : length (body_of number n records) ≡ 510
  size_510 = body_length number n records (records_small (length records) whole)

  long : length records ≡ 16 * (length records / 16)
  long = records_all (length records) whole

  pub block_length : length (block_with number n records) ≡ 512
  unfolding block_with
  block_length = sealed_length (body_of number n records) size_510

  block_check : check_in (block_with number n records) ≡ check_of (block_with number n records)
  unfolding block_with
  block_check = same_check (body_of number n records) size_510

  body_zeros : all_zero (drop (used_end (length records / 16)) (body_of number n records)) ≡ true
  unfolding body_of
  body_zeros =
      let head : List ℕ = head_bytes number (length records / 16) n in
      let pad : List ℕ = zeros (496 - length records) in
      let used : length (head ++ records) ≡ used_end (length records / 16) = simp length-append (omega (arith, long)) in
      rw (← append_assoc head records pad, drop_at (head ++ records) pad (used_end (length records / 16)) used) (zeros_zero (496 - length records))

  count_written : count_in (block_with number n records) ≡ length records / 16
  unfolding block_with body_of
  count_written = refl

  -- bytes 6 to 13, those past the last action, and those from byte 14 on
  unused : all_zero (slice 6 14 (block_with number n records)) ≡ true
  unfolding block_with body_of
  unused = refl

  past_last : all_zero (slice (used_end (length records / 16)) 510 (block_with number n records)) ≡ true
  unfolding block_with
  past_last = rw (first (body_of number n records) size_510) body_zeros

  after_head : drop 14 (block_with number n records) ≡ records ++ (zeros (496 - length records) ++ little 2 (check_sum (body_of number n records)))
  unfolding block_with body_of
  after_head = append_assoc records (zeros (496 - length records)) _

  counts : count_fits (block_with number n records) ≡ true
  unfolding count_fits
  counts = simp (eq-eqb _ _ block_length, count_written, and_left (is_count (length records / 16)) _ whole, unused, past_last)

  -- the sums of a written block are those of the action bytes that were given
  pub block_sums : sums_of (block_with number n records) ≡ sums_for (length records / 16) records
  unfolding sums_of
  block_sums =
      let k : ℕ = length records / 16 in
      rw (counts, count_written, after_head, sums_append k records (zeros (496 - length records) ++ little 2 (check_sum (body_of number n records))) (omega (arith, long)))

  module _ (numbers : number < bound 4) (size : is_size n ≡ true) where
    -- the fields of the head
    number_written : number_in (block_with number n records) ≡ number
    unfolding block_with body_of
    number_written = value_little 4 number numbers

    n_written : n_in (block_with number n records) ≡ n
    unfolding block_with body_of
    n_written = refl

    head : head_of (block_with number n records) ≡ holds number (length records / 16) n
    unfolding head_of
    head = simp (eq-eqb _ _ block_length, eq-eqb _ _ block_check, n_written, size, number_written, count_written)

    pub reads_back : read_block (block_with number n records) ≡ holds number (length records / 16) n
    unfolding read_block
    reads_back = rw (head, counts)

    pub used_back : used_bytes (block_with number n records) ≡ records
    unfolding used_bytes
    used_back = rw (reads_back, after_head) (take_at records _ (16 * (length records / 16)) long)

-- what the writer takes reads back
pub writer_reads_back : (size number n : ℕ) (records : List ℕ) → number < bound 4 → write_number size n records ≡ N.accepted → ReadsBack number n records
unfolding write_number
writer_reads_back size number n records numbers h =
    go (eqb size 512) (is_size n) (is_records (length records)) refl refl h
  where
    go : (a b c : Bool) → is_size n ≡ b → is_records (length records) ≡ c
        → cond (not a) N.wrong_length (cond (not b) N.wrong_size (cond (not c) N.wrong_count (first_refusal n (actions_of (length records / 16) records)))) ≡ N.accepted
        → ReadsBack number n records
    go true true true eb ec q = record { head = reads_back number n records ec numbers eb; used = used_back number n records ec numbers eb }
    go true true false eb ec q = absurd (omega arith)
    go true false c eb ec q = absurd (omega arith)
    go false b c eb ec q = absurd (omega arith)

-- what the writer looks at after 8, 1 and 11
pub called : (size n : ℕ) (records : List ℕ) → Called size n records (Ok tt) → write_number size n records ≡ first_refusal n (actions_of (length records / 16) records)
unfolding write_number
called size n records c = simp (eq-eqb size 512 c.0, c.1, c.2)
