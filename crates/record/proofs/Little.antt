-- Numbers as bytes, for every width, and bytes stored one after the other. Assumes nothing.
use mathlib.Core.Path.{◌≡◌, refl, sym, ap, ap₂, ◌∙◌}
use mathlib.Core.Bool.{true}
use mathlib.Core.List.{List, [], ◌∷◌, ◌++◌}
use Prim.Native.Nat.{ℕ, zero, suc, ◌+◌, ◌*◌, ◌-◌, ◌/◌, ◌%◌, ◌<◌, ◌≤◌}
use native.Mathlib.Omega.{arith}
use lib.ListN.{length, set}
use lib.Seq.{sets, sets-eq, take_all}
use borrow.Rule.Slice.PartMut.{put_mid}
use Rattle.std.proofs.lemmas.Slice.{put_mid-paste}
use borrow.Author.Tests.{leb-true}
use Rattle.charts.specs.declared.Action.{Action}
use Rattle.charts.specs.Layout.{little, value, bound, bytes_of}
use Rattle.record.specs.Bytes.{Bytes, has_room, put_at}

-- a number of k bytes is that of its bytes, and a list of bytes is that of its number
pub value_little : (k x : ℕ) → x < bound k → value (little k x) ≡ x
value_little zero x h = omega arith
value_little (suc k) x h =
    let r : x / 256 < bound k = omega arith in
    let e = value_little k (x / 256) r in
    omega arith

pub little_value : (l : List ℕ) → Bytes l → little (length l) (value l) ≡ l
little_value [] h = refl
little_value (b ∷ l) h =
    let f : b < 256 = h 0 in
    let q : (b + 256 * value l) / 256 ≡ value l = omega arith in
    let m : (b + 256 * value l) % 256 ≡ b = omega arith in
    rw (q, m, little_value l (λ i. h (suc i)))

pub value_bound : (l : List ℕ) → Bytes l → value l < bound (length l)
value_bound [] h = omega arith
value_bound (b ∷ l) h =
    let f : b < 256 = h 0 in
    let g = value_bound l (λ i. h (suc i)) in
    omega arith

pub length_little : (k x : ℕ) → length (little k x) ≡ k
length_little zero x = refl
length_little (suc k) x = ap suc (length_little k (x / 256))

pub bytes_little : (k x : ℕ) → Bytes (little k x)
bytes_little zero x i = omega arith
bytes_little (suc k) x zero = omega arith
bytes_little (suc k) x (suc i) = bytes_little k (x / 256) i

-- lists of bytes put together
pub bytes_append : (xs ys : List ℕ) → Bytes xs → Bytes ys → Bytes (xs ++ ys)
bytes_append [] ys f h i = h i
bytes_append (x ∷ xs) ys f h zero = f 0
bytes_append (x ∷ xs) ys f h (suc i) = bytes_append xs ys (λ j. f (suc j)) h i

-- bytes that have room are stored one after the other
pub put_sets : (s : List ℕ) (at : ℕ) (new : List ℕ) (count : ℕ) → length new ≡ count → has_room (length s) at count ≡ true → put_at s at new ≡ sets s at new
unfolding put_at
put_sets s at new count e h =
    let f : at + length new ≤ length s = rw e (leb-true (at + count) (length s) h) in
    let g : has_room (length s) at (length new) ≡ true = rw e h in
    simp g (sym (sets-eq new s at f))

-- a list stored after another
pub sets_append : (s : List ℕ) (at : ℕ) (xs ys : List ℕ) → sets s at (xs ++ ys) ≡ sets (sets s at xs) (at + length xs) ys
sets_append s at [] ys = ap (λ (k : ℕ). sets s k ys) (omega arith)
sets_append s at (x ∷ xs) ys =
    sets_append (set s at x) (suc at) xs ys ∙ ap (λ (k : ℕ). sets (sets (set s at x) (suc at) xs) k ys) (omega arith)

-- the four bytes of a number
pub little_4 : (x : ℕ) → little 4 x ≡ x % 256 ∷ x / 256 % 256 ∷ x / 65536 % 256 ∷ x / 16777216 % 256 ∷ []
little_4 x =
    let a : x / 256 / 256 ≡ x / 65536 = omega arith in
    let b : x / 65536 / 256 ≡ x / 16777216 = omega arith in
    rw (a, b)

-- bytes copied over a part of a buffer that has room for them
pub put_copied : (s : List ℕ) (at count : ℕ) (new bytes : List ℕ) → new ≡ bytes → length bytes ≡ count → has_room (length s) at count ≡ true → put_mid at (at + count - at) s new ≡ put_at s at bytes
unfolding put_at
put_copied s at count new bytes e n h =
    let k : count ≡ at + count - at = omega arith in
    let g : has_room (length s) at (length bytes) ≡ true = rw n h in
    rw g (put_mid-paste at (at + count - at) s new bytes count e k (sym n) ∙ rw (take_all count bytes (omega arith), n))

-- a record's bytes, its two numbers in bytes
pub laid_bytes : (a : Action)
    → a.kind ∷ a.node ∷ a.address ∷ a.ack ∷ a.hold ∷ a.label ∷ a.byte6 ∷ a.byte7
    ∷ a.header % 256 ∷ a.header / 256 % 256 ∷ a.header / 65536 % 256 ∷ a.header / 16777216 % 256
    ∷ a.datum % 256 ∷ a.datum / 256 % 256 ∷ a.datum / 65536 % 256 ∷ a.datum / 16777216 % 256 ∷ []
    ≡ bytes_of a
unfolding bytes_of
laid_bytes a =
    ap₂ (λ (h d : List ℕ). a.kind ∷ a.node ∷ a.address ∷ a.ack ∷ a.hold ∷ a.label ∷ a.byte6 ∷ a.byte7 ∷ (h ++ d)) (sym (little_4 a.header)) (sym (little_4 a.datum))
