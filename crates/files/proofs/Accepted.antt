-- A block that is accepted is the one that the writer makes of what is read. Assumes nothing.
use mathlib.Core.Path.{◌≡◌, refl, ap, ap₂, sym, ◌∙◌}
use mathlib.Core.Bool.{Bool, true, false, cond, not, ◌&&◌}
use mathlib.Core.List.{List, ◌∷◌, ◌++◌, append_assoc}
use Prim.Native.Nat.{ℕ, ◌+◌, ◌*◌, ◌-◌, ◌/◌, ◌%◌, ◌<◌, ◌≤◌}
use native.Mathlib.Omega.{arith}
use lib.Dec.{eqb}
use lib.ListN.{length, take, drop, take-append-drop, length-drop}
use lib.Seq.{slice, take-add, take_all, take-take, length-take-le}
use borrow.Author.Tests.{eqb-true}
use Rattle.charts.specs.declared.Refusal.TheVariants.{WrongLength, WrongCheck, WrongSize}
use Rattle.std.specs.Prelude.{Ok, Err}
use Rattle.runfile.specs.declared.BlockHead.{BlockHead}
use Rattle.charts.specs.Valid.{is_size}
use Rattle.charts.specs.Layout.{little, bound}
use Rattle.record.specs.Bytes.{Bytes}
use Rattle.record.proofs.Little.{little_value, value_bound}
use Rattle.record.proofs.Round.{from, take_from, bytes_from}
use Rattle.runfile.specs.Block.{number_in, count_in, n_in, check_in, weigh, check_sum, check_of, is_count, zeros, all_zero, used_end, Head, holds, head_of, count_fits, looked_at, read_block, used_bytes}
use Rattle.runfile.specs.Sums.{sum_to}
use Rattle.runfile.specs.Write.{head_bytes, body_of, block_with}
use Rattle.runfile.proofs.Loops.{count_small}
use Rattle.runfile.proofs.Parts.{cut, zero_zeros}
use Rattle.runfile.proofs.Stored.{body_sum}

-- what an accepted block has shown
pub record Accepted (s : List ℕ) (number count n : ℕ) : Type 0 where
  pub size : length s ≡ 512
  pub check : check_in s ≡ check_of s
  pub nodes : is_size (n_in s) ≡ true
  pub counted : is_count (count_in s) ≡ true
  pub unused : all_zero (slice 6 14 s) ≡ true
  pub past_last : all_zero (slice (used_end (count_in s)) 510 s) ≡ true
  pub the_number : number_in s ≡ number
  pub the_count : count_in s ≡ count
  pub the_n : n_in s ≡ n

one_head : {g h : BlockHead} → ◌≡◌ {A = Head} (Ok g) (Ok h) → g ≡ h
one_head e = cc

pub shown : (s : List ℕ) (number count n : ℕ) → read_block s ≡ holds number count n → Accepted s number count n
unfolding read_block head_of count_fits
shown s number count n h =
    go (eqb (length s) 512) (eqb (check_in s) (check_of s)) (is_size (n_in s)) (is_count (count_in s)) (all_zero (slice 6 14 s)) (all_zero (slice (used_end (count_in s)) 510 s))
    refl refl refl refl refl refl h
  where
    go : (a b c d e f : Bool)
        → eqb (length s) 512 ≡ a → eqb (check_in s) (check_of s) ≡ b → is_size (n_in s) ≡ c → is_count (count_in s) ≡ d → all_zero (slice 6 14 s) ≡ e
        → all_zero (slice (used_end (count_in s)) 510 s) ≡ f
        → looked_at (a && (d && (e && f)))
        (cond (not a) (Err WrongLength) (cond (not b) (Err WrongCheck) (cond (not c) (Err WrongSize) (holds (number_in s) (count_in s) (n_in s)))))
        ≡ holds number count n
        → Accepted s number count n
    go true true true true true true ea eb ec ed ee ef q = record {
      size = eqb-true (length s) 512 ea;
      check = eqb-true (check_in s) (check_of s) eb;
      nodes = ec;
      counted = ed;
      unused = ee;
      past_last = ef;
      the_number = ap (λ (h : BlockHead). h.number) (one_head q);
      the_count = ap (λ (h : BlockHead). h.count) (one_head q);
      the_n = ap (λ (h : BlockHead). h.n) (one_head q);
    }
    go true true true true true false ea eb ec ed ee ef q = let z : ◌≡◌ {A = ℕ} 0 1 = cc in absurd (omega arith)
    go true true true true false f ea eb ec ed ee ef q = let z : ◌≡◌ {A = ℕ} 0 1 = cc in absurd (omega arith)
    go true true true false e f ea eb ec ed ee ef q = let z : ◌≡◌ {A = ℕ} 0 1 = cc in absurd (omega arith)
    go true true false d e f ea eb ec ed ee ef q = let z : ◌≡◌ {A = ℕ} 0 1 = cc in absurd (omega arith)
    go true false c d e f ea eb ec ed ee ef q = let z : ◌≡◌ {A = ℕ} 0 1 = cc in absurd (omega arith)
    go false b c d e f ea eb ec ed ee ef q = let z : ◌≡◌ {A = ℕ} 0 1 = cc in absurd (omega arith)

module _ (s : List ℕ) (number count n : ℕ) (read : read_block s ≡ holds number count n) where
  a : Accepted s number count n
  a = shown s number count n read

  pub at_most : count ≤ 31
  at_most = rw a.the_count at (count_small (count_in s) a.counted)

  pub used_is : used_bytes s ≡ take (16 * count) (drop 14 s)
  unfolding used_bytes
  used_is = rw read

  pub used_length : length (used_bytes s) ≡ 16 * count
  used_length =
      let fits : 16 * count ≤ length (drop 14 s) = simp length-drop (omega (arith, at_most, a.size)) in
      rw used_is (length-take-le (16 * count) (drop 14 s) fits)

module _ (s : List ℕ) (number count n : ℕ) (bytes : Bytes s) (read : read_block s ≡ holds number count n) where
  b : Accepted s number count n
  b = shown s number count n read

  few : count ≤ 31
  few = at_most s number count n read

  pub number_fits : number < bound 4
  number_fits = rw b.the_number at (value_bound (from 0 4 s) (bytes_from 0 4 s bytes))

  -- bytes 0 to 13
  head_is : take 14 s ≡ head_bytes number count n
  head_is =
      let fits : 14 ≤ length s = omega (arith, b.size) in
      let each : take 14 s ≡ from 0 14 s = take_from 0 14 s fits in
      let four : from 0 4 s ≡ little 4 number = sym (little_value (from 0 4 s) (bytes_from 0 4 s bytes)) ∙ ap (little 4) b.the_number in
      let clear : all_zero (from 6 8 s) ≡ true = rw each at b.unused in
      let eight : from 6 8 s ≡ zeros 8 = zero_zeros (from 6 8 s) clear in
      each ∙ (ap (λ (x : List ℕ). x ++ (count_in s ∷ n_in s ∷ from 6 8 s)) four ∙ ap (λ (x : List ℕ). little 4 number ++ x) (cells eight))
    where
      cells : from 6 8 s ≡ zeros 8 → (count_in s ∷ n_in s ∷ from 6 8 s) ≡ (count ∷ n ∷ zeros 8)
      cells eight = rw (b.the_count, b.the_n) (ap (λ (x : List ℕ). count ∷ n ∷ x) eight)

  -- bytes past the last action
  pad_is : take (496 - 16 * count) (drop (used_end count) s) ≡ zeros (496 - 16 * count)
  pad_is =
      let pad : List ℕ = take (496 - 16 * count) (drop (used_end count) s) in
      let fits : used_end count ≤ length s = omega (arith, few, b.size) in
      let e : 510 ≡ used_end count + (496 - 16 * count) = omega (arith, few) in
      let clear : all_zero (drop (used_end count) (take 510 s)) ≡ true = rw b.the_count at b.past_last in
      let zero : all_zero pad ≡ true = rw (e, cut (used_end count) (496 - 16 * count) s fits) at clear in
      let room : 496 - 16 * count ≤ length (drop (used_end count) s) = simp length-drop (omega (arith, few, b.size)) in
      zero_zeros pad zero ∙ ap zeros (length-take-le (496 - 16 * count) (drop (used_end count) s) room)

  -- bytes 0 to 509
  body_is : take 510 s ≡ body_of number n (used_bytes s)
  unfolding body_of
  body_is =
      let e : 510 ≡ used_end count + (496 - 16 * count) = omega (arith, few) in
      let c : length (used_bytes s) / 16 ≡ count = omega (arith, used_length s number count n read) in
      let front : take (used_end count) s ≡ head_bytes number count n ++ used_bytes s = take-add 14 (16 * count) s ∙ ap₂ (λ (x y : List ℕ). x ++ y) head_is (sym (used_is s number count n read)) in
      let all : take (used_end count + (496 - 16 * count)) s ≡ (head_bytes number count n ++ used_bytes s) ++ zeros (496 - 16 * count)
      = take-add (used_end count) (496 - 16 * count) s ∙ ap₂ (λ (x y : List ℕ). x ++ y) front pad_is in
      rw (c, used_length s number count n read) (ap (λ (k : ℕ). take k s) e ∙ (all ∙ append_assoc (head_bytes number count n) (used_bytes s) (zeros (496 - 16 * count))))

  -- bytes 510 and 511
  check_is : drop 510 s ≡ little 2 (check_sum (take 510 s))
  unfolding check_of
  check_is =
      let fits : 512 ≤ length s = omega (arith, b.size) in
      let short : length (drop 510 s) ≤ 2 = simp length-drop (omega (arith, b.size)) in
      sym (take_all 2 (drop 510 s) short)
      ∙ (take_from 510 2 s fits
      ∙ (sym (little_value (from 510 2 s) (bytes_from 510 2 s bytes))
      ∙ ap (little 2) b.check))

  pub block_is : s ≡ block_with number n (used_bytes s)
  unfolding block_with
  block_is = sym (take-append-drop 510 s) ∙ rw (check_is, body_is)

  -- the sum of the head and the last sum are the check
  pub check_from_sums : check_in s ≡ (weigh 0 (take 14 s) + sum_to count (drop 14 s)) % 65521
  unfolding check_of
  check_from_sums =
      let used = used_bytes s in
      let size : length used ≤ 496 = omega (arith, few, used_length s number count n read) in
      let head : take 14 (body_of number n used) ≡ take 14 s = ap (take 14) (sym body_is) ∙ take-take 14 510 s (omega arith) in
      let actions : weigh 14 used ≡ weigh 14 (take (16 * count) (drop 14 s)) = ap (weigh 14) (used_is s number count n read) in
      let sum = rw head at (body_sum number n used size) in
      let all : check_in s ≡ weigh 0 (body_of number n used) % 65521 = b.check ∙ ap check_sum body_is in
      omega (arith, all, sum, actions)
