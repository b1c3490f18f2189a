-- A block put together by its stores. Assumes nothing.
use mathlib.Core.Path.{◌≡◌, refl, ap, sym, ◌∙◌}
use mathlib.Core.Bool.{true}
use mathlib.Core.List.{List, [], ◌++◌, append-nil, append_assoc}
use Prim.Native.Nat.{ℕ, zero, suc, ◌+◌, ◌*◌, ◌-◌, ◌/◌, ◌≤◌}
use native.Mathlib.Omega.{arith}
use lib.ListN.{length, take, drop, set, length-append, length-replicate, replicate-append-replicate, drop_of_length-le}
use lib.Seq.{sets, sets-eq, length-sets, length-take-le, take_at, drop_at, take-add}
use Rattle.charts.specs.Layout.{little}
use Rattle.record.specs.Bytes.{has_room, put_at}
use Rattle.record.proofs.Little.{put_sets, put_copied, sets_append}
use borrow.Rule.Slice.PartMut.{put_mid}
use borrow.Author.Tests.{le-leb}
use Rattle.runfile.specs.Block.{weigh, zeros}
use Rattle.runfile.specs.Write.{head_bytes, body_of}
use Rattle.runfile.proofs.Sums.{weigh_append, weigh_cut}

-- one action more, stored where the block's actions stand
pub action_stored : (s records : List ℕ) (k : ℕ) → 16 * (k + 1) ≤ length records
    → sets (sets s 14 (take (16 * k) records)) (14 + 16 * k) (take 16 (drop (16 * k) records)) ≡ sets s 14 (take (16 * (k + 1)) records)
action_stored s records k h =
    let e : 16 * (k + 1) ≡ 16 * k + 16 = omega arith in
    let n : length (take (16 * k) records) ≡ 16 * k = length-take-le (16 * k) records (omega arith) in
    rw (e, take-add (16 * k) 16 records) (sym (rw n at (sets_append s 14 (take (16 * k) records) (take 16 (drop (16 * k) records)))))

pub body_length : (number n : ℕ) (records : List ℕ) → length records ≤ 496 → length (body_of number n records) ≡ 510
unfolding body_of
body_length number n records f = simp (length-append, length-replicate) (omega arith)

-- nothing but the actions in 512 bytes
laid : (records : List ℕ) → length records ≤ 496 → sets (zeros 512) 14 records ≡ zeros 14 ++ (records ++ (zeros (496 - length records) ++ zeros 2))
laid records f =
    let k : ℕ = 14 + length records in
    let m : ℕ = 496 - length records in
    let w : 512 ≡ k + (m + 2) = omega arith in
    let rest : drop k (zeros 512) ≡ zeros (m + 2)
    = ap (λ (x : ℕ). drop k (zeros x)) w ∙ (ap (drop k) (sym (replicate-append-replicate {A = ℕ} k (m + 2) 0)) ∙ drop_at (zeros k) (zeros (m + 2)) k (length-replicate {A = ℕ} k 0)) in
    let fits : 14 + length records ≤ length (zeros 512) = omega arith in
    rw (sets-eq records (zeros 512) 14 fits, rest, replicate-append-replicate {A = ℕ} m 2 0)

-- the head over them: bytes 0 to 509, and two more
pub head_stored : (number n : ℕ) (records : List ℕ) → length records ≤ 496
    → set (set (put_at (sets (zeros 512) 14 records) 0 (little 4 number)) 4 (length records / 16)) 5 n ≡ body_of number n records ++ zeros 2
unfolding body_of
head_stored number n records f =
    let s : List ℕ = sets (zeros 512) 14 records in
    let pad : List ℕ = zeros (496 - length records) in
    let room : has_room (length s) 0 4 ≡ true = rw length-sets in
    let p : put_at s 0 (little 4 number) ≡ sets s 0 (little 4 number) = put_sets s 0 (little 4 number) 4 refl room in
    rw (p, laid records f) (ap (λ (l : List ℕ). head_bytes number (length records / 16) n ++ l) (sym (append_assoc records pad (zeros 2))))

-- the check in the place of those two
pub check_stored : (body : List ℕ) (check : ℕ) → length body ≡ 510 → put_at (body ++ zeros 2) 510 (little 2 check) ≡ body ++ little 2 check
check_stored body check e =
    let long : length (body ++ zeros 2) ≡ 512 = simp length-append (omega arith) in
    let room : has_room (length (body ++ zeros 2)) 510 2 ≡ true = rw long in
    let fits : 510 + length (little 2 check) ≤ length (body ++ zeros 2) = omega arith in
    let short : length (body ++ zeros 2) ≤ 512 = omega arith in
    let none : drop 512 (body ++ zeros 2) ≡ [] = drop_of_length-le (body ++ zeros 2) short in
    put_sets (body ++ zeros 2) 510 (little 2 check) 2 refl room
    ∙ (sets-eq (little 2 check) (body ++ zeros 2) 510 fits
    ∙ rw (take_at body (zeros 2) 510 e, none) (append-nil (body ++ little 2 check)))

-- "the head last": the actions' sum and the head's are the body's
weigh_zeros : (i k : ℕ) → weigh i (zeros k) ≡ 0
weigh_zeros i zero = refl
weigh_zeros i (suc k) = omega (arith, weigh_zeros (i + 1) k)

after_head : (number n : ℕ) (records : List ℕ) → drop 14 (body_of number n records) ≡ records ++ zeros (496 - length records)
unfolding body_of
after_head number n records = refl

pub body_sum : (number n : ℕ) (records : List ℕ) → length records ≤ 496
    → weigh 0 (body_of number n records) ≡ weigh 14 records + weigh 0 (take 14 (body_of number n records))
body_sum number n records f =
    let body : List ℕ = body_of number n records in
    let pad : List ℕ = zeros (496 - length records) in
    let e = body_length number n records f in
    let z = weigh_zeros (14 + length records) (496 - length records) in
    omega (arith, weigh_cut 0 14 body (omega arith), ap (weigh 14) (after_head number n records), weigh_append 14 records pad)

-- a buffer that is stored to as a whole
pub whole_stored : (s block : List ℕ) → length block ≡ length s → sets s 0 block ≡ block
whole_stored s block e =
    let fits : 0 + length block ≤ length s = omega arith in
    let full : length s ≤ 0 + length block = omega arith in
    sets-eq block s 0 fits ∙ rw (drop_of_length-le s full) (append-nil block)

-- bytes copied over a part of a buffer are stored there
pub copied : (s : List ℕ) (at count : ℕ) (new bytes : List ℕ) → new ≡ bytes → length bytes ≡ count → at + count ≤ length s → put_mid at (at + count - at) s new ≡ sets s at bytes
copied s at count new bytes e n h =
    let room = le-leb (at + count) (length s) h in
    put_copied s at count new bytes e n room ∙ put_sets s at bytes count n room

-- the head's number and the check, copied over their parts
pub head_copied : (number n : ℕ) (records new : List ℕ) → length records ≤ 496 → new ≡ little 4 number
    → set (set (put_mid 0 4 (sets (zeros 512) 14 records) new) 4 (length records / 16)) 5 n ≡ body_of number n records ++ zeros 2
head_copied number n records new few e =
    let s : List ℕ = sets (zeros 512) 14 records in
    let room : has_room (length s) 0 4 ≡ true = rw length-sets in
    rw (put_copied s 0 4 new (little 4 number) e refl room) (head_stored number n records few)

pub check_copied : (body : List ℕ) (check : ℕ) (new : List ℕ) → length body ≡ 510 → new ≡ little 2 check
    → put_mid 510 (length (body ++ zeros 2) - 510) (body ++ zeros 2) new ≡ body ++ little 2 check
check_copied body check new long e =
    let all : length (body ++ zeros 2) ≡ 512 = simp length-append (omega arith) in
    let room : has_room (length (body ++ zeros 2)) 510 2 ≡ true = rw all in
    rw all (put_copied (body ++ zeros 2) 510 2 new (little 2 check) e refl room ∙ check_stored body check long)
