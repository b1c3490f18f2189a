-- Sums of bytes, and sums of rows of bytes taken in columns. Assumes nothing.
use mathlib.Core.Path.{◌≡◌, refl, ap, sym, ◌∙◌}
use mathlib.Core.List.{List, [], ◌∷◌, ◌++◌, append-nil}
use Prim.Native.Nat.{ℕ, suc, ◌+◌, ◌*◌, ◌-◌, ◌<◌, ◌≤◌}
use native.Mathlib.Omega.{arith}
use native.Mathlib.Numerals.{add-one}
use native.Mathlib.Nat.{add-zero, zero-add, mul-add, add-mul, mul_comm, mul-le-mul, mul-le-mul_right}
use lib.ListN.{length, take, drop, get_or, set, drop_of_length-le, take-append-drop}
use lib.Seq.{slice, length-slice, length-take-le, drop-cons, take-suc-set, drop-set-lt, take_all, take-take, drop-drop, append_snoc}
use Rattle.record.specs.Bytes.{Bytes}
use Rattle.runfile.specs.Block.{weigh, total, plus}
use Rattle.runfile.proofs.Parts.{cut, bytes_drop, bytes_take}

-- as many numbers as were added
pub length_plus : (a b : List ℕ) → length a ≡ length b → length (plus a b) ≡ length a
length_plus [] b h = refl
length_plus (x ∷ a) [] h = omega arith
length_plus (x ∷ a) (y ∷ b) h = let r = length_plus a b (omega arith) in omega arith

-- numbers weighed from place i + m on: from place i on, and m times their total
weigh_shift : (i m : ℕ) (l : List ℕ) → weigh (i + m) l ≡ weigh i l + m * total l
weigh_shift i m [] = omega arith
weigh_shift i m (x ∷ l) =
    let e : i + m + 1 ≡ i + 1 + m = omega arith in
    let r = weigh_shift (i + 1) m l in
    rw e (omega (arith, mul-add x (i + 1) m, mul-add m x (total l)))

-- lists put together, and lists added
pub weigh_append : (i : ℕ) (a b : List ℕ) → weigh i (a ++ b) ≡ weigh i a + weigh (i + length a) b
weigh_append i [] b = rw (add-zero i, zero-add)
weigh_append i (x ∷ a) b =
    let e : i + length (x ∷ a) ≡ i + 1 + length a = omega arith in
    let r = weigh_append (i + 1) a b in
    rw e (omega arith)

-- "Sums and blocks come out the same": bytes cut anywhere into a first part and a rest have the sums of the two, in whichever order they are summed
pub weigh_cut : (i k : ℕ) (l : List ℕ) → k ≤ length l → weigh i l ≡ weigh (i + k) (drop k l) + weigh i (take k l)
weigh_cut i k l h =
    let n : length (take k l) ≡ k = length-take-le k l h in
    let w = rw (take-append-drop k l, n) at (weigh_append i (take k l) (drop k l)) in
    omega arith

weigh_plus : (i : ℕ) (a b : List ℕ) → length a ≡ length b → weigh i (plus a b) ≡ weigh i a + weigh i b
weigh_plus i [] [] h = refl
weigh_plus i [] (y ∷ b) h = omega arith
weigh_plus i (x ∷ a) [] h = omega arith
weigh_plus i (x ∷ a) (y ∷ b) h =
    let r = weigh_plus (i + 1) a b (omega arith) in
    omega (arith, add-mul x y (i + 1))

-- totals of lists put together and of lists added
total_append : (a b : List ℕ) → total (a ++ b) ≡ total a + total b
total_append [] b = rw zero-add
total_append (x ∷ a) b = let r = total_append a b in omega arith

pub total_plus : (a b : List ℕ) → length a ≡ length b → total (plus a b) ≡ total a + total b
total_plus a b h =
    let x = weigh_shift 0 1 (plus a b) in
    let y = weigh_shift 0 1 a in
    let z = weigh_shift 0 1 b in
    let p = weigh_plus 0 a b h in
    let q = weigh_plus 1 a b h in
    omega arith

-- no number is weighed by more than the last place
weigh_small : (i : ℕ) (l : List ℕ) → weigh i l ≤ (i + length l) * total l
weigh_small i [] = omega arith
weigh_small i (x ∷ l) =
    let e : i + 1 + length l ≡ i + length (x ∷ l) = omega arith in
    let r = rw e at (weigh_small (i + 1) l) in
    let s : i + 1 ≤ i + length (x ∷ l) = omega arith in
    omega (arith, mul-le-mul_right x s, mul_comm x (i + 1), mul-add (i + length (x ∷ l)) x (total l))

-- a byte is at most 255
total_small : (l : List ℕ) → Bytes l → total l ≤ 255 * length l
total_small [] b = omega arith
total_small (x ∷ l) b =
    let r = total_small l (λ (i : ℕ). b (suc i)) in
    omega (arith, b 0)

-- so bytes from place i up to place t have small sums
pub part_small : (s : List ℕ) (i t : ℕ) → Bytes s → t ≤ length s → (total (slice i t s) ≤ 255 * t) × (weigh 0 (slice i t s) ≤ t * (255 * t))
part_small s i t b h =
    let n : 0 + length (slice i t s) ≤ t = rw (length-slice i t s h) (omega arith) in
    let a : total (slice i t s) ≤ 255 * t = omega (arith, total_small (slice i t s) (bytes_drop i (take t s) (bytes_take t s b))) in
    let w = weigh_small 0 (slice i t s) in
    let m = mul-le-mul n a in
    (a, omega arith)

-- and so have a few bytes that stand in a block before its check
pub few_small : (i : ℕ) (l : List ℕ) → Bytes l → i + length l ≤ 510 → weigh i l ≤ 510 * (255 * length l)
few_small i l b h = omega (arith, weigh_small i l, mul-le-mul h (total_small l b))

-- numbers put before others: those are weighed as if they came first, and their total once more for each number before them
weigh_row : (a b : List ℕ) → weigh 0 (a ++ b) ≡ weigh 0 a + (weigh 0 b + length a * total b)
weigh_row a b = rw (weigh_append 0 a b, weigh_shift 0 (length a) b)

-- a row of k bytes put before rows that were summed in k columns: t has each column's sum, u what t had before each row, added up
pub row_more : (k : ℕ) (t u row l : List ℕ) → length t ≡ k → length u ≡ k → length row ≡ k → total t ≡ total l → k * total u + weigh 0 t ≡ weigh 0 l
    → (total (plus t row) ≡ total (row ++ l)) × (k * total (plus u t) + weigh 0 (plus t row) ≡ weigh 0 (row ++ l))
row_more k t u row l ht hu hr ts us =
    let a = total_plus t row (ht ∙ sym hr) in
    let b = total_append row l in
    let c = weigh_plus 0 t row (ht ∙ sym hr) in
    let d = rw (hr, ← ts) at (weigh_row row l) in
    (omega arith, rw (total_plus u t (hu ∙ sym ht)) (omega (arith, mul-add k (total u) (total t))))

-- k bytes from place i on, and those after them up to place t
pub slice_front : (s : List ℕ) (i k t : ℕ) → i + k ≤ t → t ≤ length s → slice i t s ≡ take k (drop i s) ++ slice (i + k) t s
slice_front s i k t h f =
    let e : t ≡ i + (t - i) = omega arith in
    let c : slice i t s ≡ take (t - i) (drop i s) = ap (λ (x : ℕ). slice i x s) e ∙ cut i (t - i) s (omega arith) in
    let d : slice (i + k) t s ≡ drop k (slice i t s) = sym (drop-drop k i (take t s)) in
    let r = rw (take-take k (t - i) (drop i s) (omega arith)) at (take-append-drop k (take (t - i) (drop i s))) in
    rw (d, c, r)

-- numbers from place c on: the first of them, and the rest
drop_more : (l : List ℕ) (c : ℕ) → c < length l → drop c l ≡ get_or l c 0 ∷ drop (c + 1) l
drop_more l c h = rw (drop-cons l c 0 h, add-one c)

-- bytes summed up to place k of them: the next one, and the rest
pub weigh_more : (i k : ℕ) (l : List ℕ) → k < length l → weigh (i + k) (drop k l) ≡ get_or l k 0 * (i + k + 1) + weigh (i + (k + 1)) (drop (k + 1) l)
weigh_more i k l h =
    let e : i + k + 1 ≡ i + (k + 1) = omega arith in
    rw (drop_more l k h, e)

-- what is left of the columns' sum from column c on: column c, and the rest
pub column_more : (t u : List ℕ) (c : ℕ) → c < length t → c < length u
    → 16 * total (drop c u) + weigh c (drop c t) ≡ 16 * get_or u c 0 + get_or t c 0 * (c + 1) + (16 * total (drop (c + 1) u) + weigh (c + 1) (drop (c + 1) t))
column_more t u c p q = rw (drop_more t c p, drop_more u c q) (omega arith)

-- two lists added, of which the places from c on are still to be added: a turn, the end, and what is added is no more than the whole
abbrev pub added : ℕ → List ℕ → List ℕ → List ℕ
added c a b = take c a ++ plus (drop c a) (drop c b)

pub added_more : (c : ℕ) (a b : List ℕ) → c < length a → c < length b → added c a b ≡ added (c + 1) (set a c (get_or a c 0 + get_or b c 0)) b
added_more c a b p q =
    let v = get_or a c 0 + get_or b c 0 in
    let f : take (c + 1) (set a c v) ≡ take c a ++ (v ∷ []) = rw add-one (take-suc-set a c v p) in
    let g : drop (c + 1) (set a c v) ≡ drop (c + 1) a = drop-set-lt (c + 1) a c v (omega arith) in
    rw (drop_more a c p, drop_more b c q, f, g, append_snoc)

pub added_end : (c : ℕ) (a b : List ℕ) → length a ≤ c → added c a b ≡ a
added_end c a b h = rw (drop_of_length-le a h, take_all c a h, append-nil)

pub added_small : (c : ℕ) (a b : List ℕ) → c < length a → c < length b → get_or a c 0 + get_or b c 0 ≤ total (added c a b)
added_small c a b p q = rw (drop_more a c p, drop_more b c q, total_append) (omega arith)
