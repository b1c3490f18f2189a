-- What is printed of a file's sums. Assumes nothing.
use mathlib.Core.Path.{◌≡◌, refl, sym, ◌∙◌}
use mathlib.Core.Bool.{Bool, true, false, cond}
use mathlib.Core.List.{List, [], ◌∷◌, ◌++◌, append_assoc, append-nil}
use Prim.Native.Nat.{ℕ, suc, ◌+◌}
use native.Mathlib.Omega.{arith}
use native.Mathlib.Nat.{zero-add}
use lib.Dec.{eqb-suc-zero}
use lib.ListN.{length, take, length-append}
use lib.Seq.{take_all, take_at, drop_at}
use Rattle.charts.specs.Numbers as N
use Rattle.charts.specs.Records.{Decoded, read}
use Rattle.charts.specs.declared.Action.{Action}
use Rattle.std.specs.Prelude.{Ok, Err}
use Rattle.record.specs.Bytes.{Bytes}
use Rattle.files.specs.File.{blocks_for, Blocks, last, next, IsFile, Taken, file_of}
use Rattle.files.specs.Pieces.{pieces, Before, none, is_first}
use Rattle.runfile.specs.Sums.{sums_of}
use Rattle.runfile.specs.Write.{refused_or, first_refusal}
use Rattle.files.proofs.Accepted.{shown}
use Rattle.runfile.proofs.Loops.{never_zero}
use Rattle.files.proofs.Files.{one_file, some_actions, blocks_some, block_only, taken_first, taken_second}
use Rattle.runfile.proofs.Parts.{bytes_first, bytes_second}
use Rattle.files.proofs.Pieces.{more_pieces, one_piece}
use Rattle.files.proofs.Stages.{At}
use Rattle.transcript.specs.Lines.{done_line}
use Rattle.figures.specs.Figures.{figures_line}
use Rattle.walk.specs.Walk.{walking, walked_from}
use Rattle.walk.specs.Feeding.{fed_text}
use Rattle.walk.specs.Reading.{started}
use Rattle.walk.proofs.Files.{later, there, block_text}
use Rattle.walk.proofs.Nodes.{does, whole as walk_whole}
use Rattle.walk.proofs.Whole.{any_state}
use Rattle.summing.specs.Summed.{tracing, summed, traces_from, list_summed}
use Rattle.summing.proofs.Turns.{tracing_n}

-- the pieces of any file, fed one after the other, and then the file's end, give exactly the text of the file
pub whole : (bytes : List ℕ) → fed_text tracing (pieces bytes) started ≡ summed bytes
whole = walk_whole tracing_n

-- actions that the writer takes print nothing
silent : (n : ℕ) (l : List Action) (i : ℕ) (f : ℕ → ℕ → List ℕ) → first_refusal n l ≡ N.accepted → walking tracing l n i f ≡ f n (i + length l)
silent n [] i f h = let e : i + 0 ≡ i = omega arith in rw e
silent n (a ∷ l) i f h = go (read n a) refl (silent n l (suc i) f) h
  where
    go : (d : Decoded) → read n a ≡ d → (first_refusal n l ≡ N.accepted → walking tracing l n (suc i) f ≡ f n (suc i + length l)) → refused_or d (first_refusal n l) ≡ N.accepted
        → walking tracing (a ∷ l) n i f ≡ f n (i + length (a ∷ l))
    go (Err k) r rest e = absurd (never_zero k e)
    go (Ok m) r rest e =
        let next : i + length (a ∷ l) ≡ suc i + length l = omega arith in
        rw (r, next) (rest e)

same_n : (b : Bool) (n : ℕ) → cond b n n ≡ n
same_n true n = refl
same_n false n = refl

-- the text of the blocks of a file from block i on, c actions having been accepted before them
blocks_summed : {n i : ℕ} {l : List Action} {s : List ℕ} → Bytes s → Blocks n i l s → first_refusal n l ≡ N.accepted → (p : Before) → At p n i → (c : ℕ)
    → walked_from tracing (pieces s) p n c ≡ traces_from (blocks_for (length l)) i n l ++ done_line (c + length l)
blocks_summed {n} {i} {l} {s} bytes (last b) h p at c =
    let few = some_actions n i l s b in
    let one : blocks_for (length l) ≡ 1 = omega arith in
    let size = (shown s i (length l) n b.accepted).size in
    rw (one_piece s size)
    (block_text tracing n i l s bytes b p at n c (walked_from tracing [])
    ∙ rw (same_n (is_first p) n, silent n l c (walked_from tracing [] (later p n l)) h, eqb-suc-zero p.blocks, one, append-nil, take_all 31 l few.1, ← block_only n i l s bytes b))
blocks_summed {n} {i} bytes (next {l = l} {m} {s} {t} b full rest) h p at c =
    let size = (shown s i (length l) n b.accepted).size in
    let some = blocks_some rest in
    let more : blocks_for (length (l ++ m)) ≡ suc (blocks_for (length m)) = simp length-append (omega arith) in
    let all : c + length (l ++ m) ≡ c + length l + length m = simp length-append (omega arith) in
    let q = later p n l in
    let follow = blocks_summed (bytes_second s t bytes) rest (taken_second n l m h) q (there p n i l at full) (c + length l) in
    rw (more_pieces s t size)
    (block_text tracing n i l s (bytes_first s t bytes) b p at n c (walked_from tracing (pieces t))
    ∙ rw (same_n (is_first p) n, silent n l c (walked_from tracing (pieces t) q) (taken_first n l m h), follow, more, take_at l m 31 full, drop_at l m 31 full, ← block_only n i l s (bytes_first s t bytes) b, all)
    (sym (append_assoc (figures_line i (take (length l) (sums_of s))) (traces_from (blocks_for (length m)) (suc i) n m) (done_line (c + length l + length m)))))

-- of every file of a list of actions that the writer takes
pub file_summed : (n : ℕ) (l : List Action) (bytes : List ℕ) → first_refusal n l ≡ N.accepted → IsFile n l bytes → summed bytes ≡ list_summed n l
file_summed n l bytes h f =
    -- the state before block 0 says nothing
    any_state (does tracing_n) (pieces bytes) 0 n
    ∙ rw (zero-add (length l)) at (blocks_summed f.bytes f.blocks h none (record { blocks_before = refl; all_full = refl; same_n = refl }) 0)

pub summed_list : (n : ℕ) (l : List Action) → Taken n l → summed (file_of n l) ≡ list_summed n l
summed_list n l t = file_summed n l (file_of n l) t.accepted (one_file n l t).is_file
