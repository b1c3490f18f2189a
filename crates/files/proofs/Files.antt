-- Every list of actions that the writer takes has one file. Assumes nothing.
use mathlib.Core.Path.{◌≡◌, refl, ap₂, sym, ◌∙◌}
use mathlib.Core.Bool.{true}
use mathlib.Core.List.{List, [], ◌∷◌, ◌++◌, append-nil}
use Prim.Native.Nat.{ℕ, zero, suc, ◌+◌, ◌*◌, ◌-◌, ◌/◌, ◌%◌, ◌<◌, ◌≤◌}
use native.Mathlib.Omega.{arith}
use lib.Dec.{ltb}
use lib.ListN.{length, take, drop, length-append, length-take, length-drop, take-append-drop}
use lib.Seq.{take_at, drop_at, take_all, length-take-le}
use borrow.Author.Tests.{lt-ltb, ltb-true}
use Rattle.charts.specs.Valid.{is_size}
use Rattle.charts.specs.Records.{Decoded, read}
use Rattle.charts.specs.declared.Action.{Action}
use Rattle.std.specs.Prelude.{Ok, Err}
use Rattle.charts.specs.Layout.{little, bound, records_of}
use Rattle.record.specs.Bytes.{Bytes}
use Rattle.record.proofs.Little.{bytes_append, bytes_little}
use Rattle.runfile.specs.Block.{zeros, check_sum, used_bytes}
use Rattle.runfile.specs.Write.{refused_or, first_refusal, is_records, write_number, head_bytes, body_of, block_with, block_of}
use Rattle.files.specs.File.{blocks_for, file_from, file_of, IsBlock, Blocks, last, next, AllFit, Taken, OneFile}
use Rattle.runfile.proofs.Loops.{and_left, and_right, count_small, never_zero}
use Rattle.runfile.proofs.Parts.{bytes_zeros, bytes_first, bytes_second, bytes_drop, bytes_take}
use Rattle.runfile.proofs.Written.{reads_back, used_back}
use Rattle.files.proofs.Accepted.{shown, used_is, used_length, block_is}
use Rattle.files.proofs.Lists.{records_length, records_bytes, actions_of_records, records_of_actions}

-- the bytes of 1 to 31 records
records_whole : (l : List Action) → 1 ≤ length l → length l ≤ 31 → is_records (length (records_of l)) ≡ true
records_whole l p q =
    let e = records_length l in
    let c : length (records_of l) / 16 ≡ length l = omega arith in
    let m : length (records_of l) % 16 ≡ 0 = omega arith in
    let h : length l < 32 = omega arith in
    simp (c, m, lt-ltb 0 (length l) p, lt-ltb (length l) 32 h)

-- the block of a list is accepted, with that list
pub block_accepted : (n i : ℕ) (l : List Action) → is_size n ≡ true → i < bound 4 → 1 ≤ length l → length l ≤ 31 → AllFit l → IsBlock n i l (block_of i n l)
block_accepted n i l size fits p q all =
    let whole = records_whole l p q in
    let c : length (records_of l) / 16 ≡ length l = omega (arith, records_length l) in
    record {
      accepted = rw c at (reads_back i n (records_of l) whole fits size);
      actions = rw (used_back i n (records_of l) whole fits size) (actions_of_records l all);
    }

-- and no other bytes are
pub block_only : (n i : ℕ) (l : List Action) (s : List ℕ) → Bytes s → IsBlock n i l s → s ≡ block_of i n l
block_only n i l s bytes b =
    let k : ℕ = length l in
    let long = used_length s i k n b.accepted in
    let all : Bytes (used_bytes s) = rw (used_is s i k n b.accepted) (bytes_take (16 * k) (drop 14 s) (bytes_drop 14 s bytes)) in
    let fits : 16 * k ≤ length (used_bytes s) = omega arith in
    let full : length (used_bytes s) ≤ 16 * k = omega arith in
    let back = rw b.actions at (records_of_actions k (used_bytes s) all fits) in
    let used : used_bytes s ≡ records_of l = sym (back ∙ take_all (16 * k) (used_bytes s) full) in
    rw used at (block_is s i k n bytes b.accepted)

-- a block has 1 to 31 actions
pub some_actions : (n i : ℕ) (l : List Action) (s : List ℕ) → IsBlock n i l s → (1 ≤ length l) × (length l ≤ 31)
some_actions n i l s b =
    let a = shown s i (length l) n b.accepted in
    let c = rw a.the_count at a.counted in
    (ltb-true 0 (length l) (and_left (ltb 0 (length l)) _ c), count_small (length l) c)

pub blocks_some : {n i : ℕ} {l : List Action} {s : List ℕ} → Blocks n i l s → 1 ≤ length l
blocks_some {n} {i} {l} {s} (last b) = (some_actions n i l s b).0
blocks_some (next {l = l} {m = m} b full r) = simp length-append (omega arith)

-- the blocks of a file are those of its list
pub file_only : {n i : ℕ} {l : List Action} {s : List ℕ} → Bytes s → Blocks n i l s → s ≡ file_from (blocks_for (length l)) i n l
file_only {n} {i} {l} {s} bytes (last b) =
    let few = some_actions n i l s b in
    let one : blocks_for (length l) ≡ 1 = omega arith in
    rw (one, append-nil, take_all 31 l few.1) (block_only n i l s bytes b)
file_only {n} {i} bytes (next {l = l} {m = m} {s = s} {t = t} b full r) =
    let some = blocks_some r in
    let more : blocks_for (length (l ++ m)) ≡ suc (blocks_for (length m)) = simp length-append (omega arith) in
    rw (more, take_at l m 31 full, drop_at l m 31 full)
    (ap₂ (λ (x y : List ℕ). x ++ y) (block_only n i l s (bytes_first s t bytes) b) (file_only (bytes_second s t bytes) r))

-- parts of a list of actions in their ranges
fit_take : (k : ℕ) (l : List Action) → AllFit l → AllFit (take k l)
fit_take zero l f = tt
fit_take (suc k) [] f = tt
fit_take (suc k) (a ∷ l) f = (f.0, fit_take k l f.1)

fit_drop : (k : ℕ) (l : List Action) → AllFit l → AllFit (drop k l)
fit_drop zero l f = f
fit_drop (suc k) [] f = tt
fit_drop (suc k) (a ∷ l) f = fit_drop k l f.1

-- k full blocks and one with what is left are the blocks of a file
pub file_accepted : (n : ℕ) → is_size n ≡ true → (k i : ℕ) (l : List Action) → AllFit l → 31 * k < length l → length l ≤ 31 * k + 31 → i + k < bound 4
    → Blocks n i l (file_from (suc k) i n l)
file_accepted n size zero i l all p q fits =
    let short : length l ≤ 31 = omega arith in
    rw (append-nil, take_all 31 l short) (last (block_accepted n i l size (omega arith) (omega arith) short all))
file_accepted n size (suc k) i l all p q fits =
    let long : 31 ≤ length l = omega arith in
    let full : length (take 31 l) ≡ 31 = length-take-le 31 l long in
    let first = block_accepted n i (take 31 l) size (omega arith) (omega arith) (omega arith) (fit_take 31 l all) in
    let rest = file_accepted n size k (suc i) (drop 31 l) (fit_drop 31 l all) (simp length-drop (omega arith)) (simp length-drop (omega arith)) (omega arith) in
    rw (take-append-drop 31 l) at (next first full rest)

-- the bytes of a file
block_bytes : (n i : ℕ) (l : List Action) → is_size n ≡ true → length l ≤ 31 → AllFit l → Bytes (block_of i n l)
unfolding block_with body_of
block_bytes n i l size p all =
    let c : ℕ = length (records_of l) / 16 in
    let small : c < 256 = omega (arith, records_length l) in
    let few : n < 256 = omega (arith, ltb-true n 64 (and_right (ltb 1 n) _ size)) in
    let pad : List ℕ = zeros (496 - length (records_of l)) in
    let body : List ℕ = head_bytes i c n ++ (records_of l ++ pad) in
    let head = bytes_append (little 4 i) (c ∷ n ∷ zeros 8) (bytes_little 4 i) (cells c small few) in
    let rest = bytes_append (records_of l) pad (records_bytes l all) (bytes_zeros (496 - length (records_of l))) in
    bytes_append body (little 2 (check_sum body)) (bytes_append (head_bytes i c n) (records_of l ++ pad) head rest) (bytes_little 2 (check_sum body))
  where
    cells : (c : ℕ) → c < 256 → n < 256 → Bytes (c ∷ n ∷ zeros 8)
    cells c f g zero = f
    cells c f g (suc zero) = g
    cells c f g (suc (suc j)) = bytes_zeros 8 j

file_bytes : (n : ℕ) → is_size n ≡ true → (k i : ℕ) (l : List Action) → AllFit l → Bytes (file_from k i n l)
file_bytes n size zero i l all j = omega arith
file_bytes n size (suc k) i l all j =
    let short : length (take 31 l) ≤ 31 = simp length-take (omega arith) in
    bytes_append (block_of i n (take 31 l)) (file_from k (suc i) n (drop 31 l)) (block_bytes n i (take 31 l) size short (fit_take 31 l all))
    (file_bytes n size k (suc i) (drop 31 l) (fit_drop 31 l all)) j

-- the parts of a list that the writer takes
module _ (n : ℕ) where
  pub taken_first : (l m : List Action) → first_refusal n (l ++ m) ≡ 0 → first_refusal n l ≡ 0
  taken_first [] m h = refl
  taken_first (a ∷ l) m h = go (read n a) (taken_first l m) h
    where
      go : (d : Decoded) → (first_refusal n (l ++ m) ≡ 0 → first_refusal n l ≡ 0) → refused_or d (first_refusal n (l ++ m)) ≡ 0 → refused_or d (first_refusal n l) ≡ 0
      go (Err k) f e = e
      go (Ok x) f e = f e

  pub taken_second : (l m : List Action) → first_refusal n (l ++ m) ≡ 0 → first_refusal n m ≡ 0
  taken_second [] m h = h
  taken_second (a ∷ l) m h = go (read n a) refl (taken_second l m) h
    where
      go : (d : Decoded) → read n a ≡ d → (first_refusal n (l ++ m) ≡ 0 → first_refusal n m ≡ 0) → refused_or d (first_refusal n (l ++ m)) ≡ 0 → first_refusal n m ≡ 0
      go (Err k) r f e = absurd (never_zero k e)
      go (Ok x) r f e = f e

-- the writer takes a block of actions that it takes one by one
pub block_taken : (n : ℕ) (l : List Action) → is_size n ≡ true → 1 ≤ length l → length l ≤ 31 → AllFit l → first_refusal n l ≡ 0 → write_number 512 n (records_of l) ≡ 0
unfolding write_number
block_taken n l size p q all h =
    let c : length (records_of l) / 16 ≡ length l = omega (arith, records_length l) in
    rw (size, records_whole l p q, c, actions_of_records l all) h

pub one_file : (n : ℕ) (l : List Action) → Taken n l → OneFile n l
unfolding file_of
one_file n l t = record {
  is_file = record {
    bytes = file_bytes n t.nodes (blocks_for (length l)) 0 l t.fits;
    blocks =
        let k : ℕ = (length l - 1) / 31 in
        let e : blocks_for (length l) ≡ suc k = omega (arith, t.some) in
        rw e (file_accepted n t.nodes k 0 l t.fits (omega (arith, t.some)) (omega arith) (omega (arith, t.numbered)));
  };
  written = λ k h.
      let c : List Action = take 31 (drop (31 * k) l) in
      let some : 1 ≤ length c = simp (length-take, length-drop) (omega arith) in
      let few : length c ≤ 31 = simp length-take (omega arith) in
      let later = taken_second n (take (31 * k) l) (drop (31 * k) l) (rw (take-append-drop (31 * k) l) t.accepted) in
      let these = taken_first n c (drop 31 (drop (31 * k) l)) (rw (take-append-drop 31 (drop (31 * k) l)) later) in
      block_taken n c t.nodes some few (fit_take 31 (drop (31 * k) l) (fit_drop (31 * k) l t.fits)) these;
  only = λ s f. file_only f.bytes f.blocks;
}
