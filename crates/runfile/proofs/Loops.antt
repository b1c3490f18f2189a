-- A turn and the end of each loop over a block's bytes. Assumes nothing.
use mathlib.Core.Path.{◌≡◌, refl}
use mathlib.Core.Bool.{Bool, true, false, true≢false, ◌&&◌}
use mathlib.Core.List.{List, [], ◌∷◌}
use Prim.Native.Nat.{ℕ, suc, ◌+◌, ◌*◌, ◌/◌, ◌%◌, ◌<◌, ◌≤◌}
use native.Mathlib.Omega.{arith}
use native.Mathlib.Numerals.{add-one}
use lib.Dec.{ltb}
use lib.ListN.{length, take, drop, get_or, set, drop_of_length-le}
use lib.Seq.{slice, slice-cons, length-take-le, drop-cons, sets}
use borrow.Author.Tests.{ltb-true, eqb-true}
use Rattle.charts.specs.declared.Refusal.{Refusal}
use Rattle.charts.specs.Numbers as N
use Rattle.charts.specs.Numbers.{number_of}
use Rattle.charts.proofs.Steps.{refuses_it}
use Rattle.runfile.specs.Block.{is_count}
use Rattle.runfile.specs.Write.{is_records}

-- bytes looked at from place i up to place t
module _ (s : List ℕ) (i t : ℕ) (fits : t ≤ length s) where
  pub slice_end : t ≤ i → slice i t s ≡ []
  slice_end h =
      let e : length (take t s) ≤ i = rw (length-take-le t s fits) h in
      drop_of_length-le (take t s) e

  pub slice_more : i < t → slice i t s ≡ get_or s i 0 ∷ slice (i + 1) t s
  slice_more h = rw (slice-cons i t s 0 h fits, add-one i)

-- bytes stored from place i on
pub bytes_more : (out bytes : List ℕ) (at i : ℕ) → i < length bytes
    → sets out (at + i) (drop i bytes) ≡ sets (set out (at + i) (get_or bytes i 0)) (at + (i + 1)) (drop (i + 1) bytes)
bytes_more out bytes at i h =
    let e : at + (i + 1) ≡ suc (at + i) = omega arith in
    rw (drop-cons bytes i 0 h, e, add-one i)

pub bytes_none : (out bytes : List ℕ) (at i : ℕ) → length bytes ≤ i → sets out (at + i) (drop i bytes) ≡ out
bytes_none out bytes at i h = rw (drop_of_length-le bytes h)

-- both of two tests
pub and_left : (p q : Bool) → (p && q) ≡ true → p ≡ true
and_left true q h = refl
and_left false q h = h

pub and_right : (p q : Bool) → (p && q) ≡ true → q ≡ true
and_right true q h = h
and_right false q h = cc

-- a count is at most 31, and the bytes of so many records at most 496
pub count_small : (count : ℕ) → is_count count ≡ true → count ≤ 31
count_small count h =
    let f = ltb-true count 32 (and_right (ltb 0 count) _ h) in
    omega arith

pub records_small : (size : ℕ) → is_records size ≡ true → size ≤ 496
records_small size h =
    let f = count_small (size / 16) (and_left (is_count (size / 16)) _ h) in
    let g = eqb-true (size % 16) 0 (and_right (is_count (size / 16)) _ h) in
    omega arith

pub records_all : (size : ℕ) → is_records size ≡ true → size ≡ 16 * (size / 16)
records_all size h =
    let g = eqb-true (size % 16) 0 (and_right (is_count (size / 16)) _ h) in
    omega arith

-- no refusal has the number 0
pub never_zero : (k : Refusal) → number_of k ≡ N.accepted → ⊥
never_zero k z = true≢false (rw z at (refuses_it k))
