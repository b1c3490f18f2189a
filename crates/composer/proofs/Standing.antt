-- Actions put one after the other: the blocks that are written, and the block under way. Assumes nothing.
use mathlib.Core.Path.{◌≡◌, refl, ap, sym, ◌∙◌}
use mathlib.Core.Bool.{Bool, true, false}
use mathlib.Core.List.{List, [], ◌∷◌, ◌++◌, append_assoc, append-nil}
use Prim.Native.Nat.{ℕ, zero, suc, ◌+◌, ◌*◌, ◌<◌, ◌≤◌}
use native.Mathlib.Omega.{arith}
use borrow.Author.Tests.{ltb-true, ltb-false}
use lib.Dec.{ltb}
use lib.ListN.{length, replicate, length-append}
use lib.Seq.{take_all}
use Rattle.charts.specs.Valid.{is_size}
use Rattle.charts.specs.declared.Action.{Action}
use Rattle.charts.specs.Layout.{bound, records_of}
use Rattle.runfile.specs.Write.{first_refusal, write_number, block_of}
use Rattle.files.specs.File.{blocks_for, file_from, file_of, AllFit, Taken}
use Rattle.files.proofs.Files as Files
use Rattle.files.proofs.Splits.{file_split}
use Rattle.notation.specs.Meaning.{Accepts, AllAccepted}
use Rattle.composer.specs.declared.Composer.{Composer}
use Rattle.composer.specs.Composer.{put_of, put_held}
use Rattle.composer.specs.Composed.{put_times, put_bytes}
use Rattle.composer.proofs.Blocks.{At, put_short, put_full}

-- actions that the writer takes one by one, it takes as a list
module _ (n : ℕ) where
  accepted_more : (l : List Action) (a : Action) → AllAccepted n l → Accepts n a → AllAccepted n (l ++ (a ∷ []))
  accepted_more [] a g h = (h, tt)
  accepted_more (b ∷ l) a g h = (g.0, accepted_more l a g.1 h)

  accepted_second : (l m : List Action) → AllAccepted n (l ++ m) → AllAccepted n m
  accepted_second [] m g = g
  accepted_second (a ∷ l) m g = accepted_second l m g.1

  all_fit : (l : List Action) → AllAccepted n l → AllFit l
  all_fit [] g = tt
  all_fit (a ∷ l) g = (g.0.fits, all_fit l g.1)

  none_refused : (l : List Action) → AllAccepted n l → first_refusal n l ≡ 0
  none_refused [] g = refl
  none_refused (a ∷ l) g = rw g.0.reads (none_refused l g.1)

  pub takes : (l : List Action) → is_size n ≡ true → AllAccepted n l → 1 ≤ length l → length l ≤ 31 * bound 4 → Taken n l
  takes l size g some few = record { nodes = size; some = some; numbered = few; fits = all_fit l g; accepted = none_refused l g }

  pub block_taken : (l : List Action) → is_size n ≡ true → AllAccepted n l → 1 ≤ length l → length l ≤ 31 → write_number 512 n (records_of l) ≡ 0
  block_taken l size g some few = Files.block_taken n l size some few (all_fit l g) (none_refused l g)

-- a composer that was given the actions of l, accepted for n nodes: those of the full blocks, whose bytes are written, and those under way
pub record Stands (n : ℕ) (l : List Action) (bytes : List ℕ) (c : Composer) : Type 0 where
  pub block : ℕ
  pub full : List Action
  pub under : List Action
  pub parts : l ≡ full ++ under
  pub size : length full ≡ 31 * block
  pub few : length under < 31
  pub at : At n block under c
  pub accepted : AllAccepted n l
  pub wrote : bytes ≡ file_from block 0 n full

-- another composer with the same block under way
pub same_block : {n : ℕ} {l : List Action} {bytes : List ℕ} {c d : Composer} (s : Stands n l bytes c) → At n s.block s.under d → Stands n l bytes d
same_block s at =
    record { block = s.block; full = s.full; under = s.under; parts = s.parts; size = s.size; few = s.few; at = at; accepted = s.accepted; wrote = s.wrote }

-- the file of l: what is written, and the block under way
pub file_stands : {n : ℕ} {l : List Action} {bytes : List ℕ} {c : Composer} (s : Stands n l bytes c)
    → file_of n l ≡ bytes ++ file_from (blocks_for (length s.under)) s.block n s.under
unfolding file_of
file_stands {n} {l} s =
    let sizes = length-append s.full s.under in
    let size = s.size in
    let few = s.few in
    let e : blocks_for (length (s.full ++ s.under)) ≡ s.block + blocks_for (length s.under) = omega arith in
    let f : 0 + s.block ≡ s.block = omega arith in
    rw (s.parts, e, s.wrote) (file_split s.block (blocks_for (length s.under)) 0 n s.full s.under s.size ∙ rw f)

pub under_accepted : {n : ℕ} {l : List Action} {bytes : List ℕ} {c : Composer} (s : Stands n l bytes c) → AllAccepted n s.under
under_accepted {n} s = accepted_second n s.full s.under (rw s.parts at s.accepted)

pub parts_length : {n : ℕ} {l : List Action} {bytes : List ℕ} {c : Composer} (s : Stands n l bytes c) → length l ≡ 31 * s.block + length s.under
parts_length s = ap length s.parts ∙ (length-append s.full s.under ∙ rw s.size)

module _ (n : ℕ) (sized : is_size n ≡ true) (a : Action) (good : Accepts n a) where
  -- and one on line j with a to put k times more
  pub record Putting (k j : ℕ) (l : List Action) (bytes : List ℕ) (c : Composer) : Type 0 where
    pub stands : Stands n l bytes c
    pub action : c.action ≡ a
    pub left : c.left ≡ k
    pub line : c.line ≡ j

  module _ (k j : ℕ) (l : List Action) (bytes : List ℕ) (c : Composer) (s : Stands n l bytes c) (act : c.action ≡ a) (left : c.left ≡ suc k) (line : c.line ≡ j) where
    longer : length (s.under ++ (a ∷ [])) ≡ suc (length s.under)
    longer = length-append s.under (a ∷ []) ∙ omega arith

    split : l ++ (a ∷ []) ≡ s.full ++ (s.under ++ (a ∷ []))
    split = rw s.parts (append_assoc s.full s.under (a ∷ []))

    more : AllAccepted n (l ++ (a ∷ []))
    more = accepted_more n l a s.accepted good

    put_under : length s.under < 30 → Putting k j (l ++ (a ∷ [])) (bytes ++ put_held c []) (put_of c).composer
    put_under small =
        let q = put_short n s.block k s.under a c s.at act left small in
        let size = longer in
        record {
          stands = record {
            block = s.block;
            full = s.full;
            under = s.under ++ (a ∷ []);
            parts = split;
            size = s.size;
            few = omega arith;
            at = q.at;
            accepted = more;
            wrote = rw (q.wrote, append-nil bytes) s.wrote;
          };
          action = q.action;
          left = q.left;
          line = q.line ∙ line;
        }

    -- the bytes of one block more
    block_more : length (s.under ++ (a ∷ [])) ≡ 31 → bytes ++ block_of s.block n (s.under ++ (a ∷ [])) ≡ file_from (suc s.block) 0 n (s.full ++ (s.under ++ (a ∷ [])))
    block_more chunk =
        let e : s.block + 1 ≡ suc s.block = omega arith in
        let f : 0 + s.block ≡ s.block = omega arith in
        let all : length (s.under ++ (a ∷ [])) ≤ 31 = omega arith in
        let whole = file_split s.block 1 0 n s.full (s.under ++ (a ∷ [])) s.size in
        rw s.wrote (sym (rw (e, f, take_all 31 (s.under ++ (a ∷ [])) all, append-nil) at whole))

    put_last : length s.under ≡ 30 → length l < 31 * bound 4 → Putting k j (l ++ (a ∷ [])) (bytes ++ put_held c []) (put_of c).composer
    put_last thirty room =
        let size = longer in
        let chunk : length (s.under ++ (a ∷ [])) ≡ 31 = omega arith in
        let sizes = parts_length s in
        let these = accepted_second n s.full (s.under ++ (a ∷ [])) (rw split at more) in
        let q = put_full n s.block k s.under a c s.at act left thirty (omega arith) (block_taken n (s.under ++ (a ∷ [])) sized these (omega arith) (omega arith)) in
        record {
          stands = record {
            block = suc s.block;
            full = s.full ++ (s.under ++ (a ∷ []));
            under = [];
            parts = split ∙ sym (append-nil (s.full ++ (s.under ++ (a ∷ []))));
            size = length-append s.full (s.under ++ (a ∷ [])) ∙ rw (s.size, chunk) (omega arith);
            few = omega arith;
            at = q.at;
            accepted = more;
            wrote = rw q.wrote (block_more chunk);
          };
          action = q.action;
          left = q.left;
          line = q.line ∙ line;
        }

    one_put : length l < 31 * bound 4 → Putting k j (l ++ (a ∷ [])) (bytes ++ put_held c []) (put_of c).composer
    one_put room = go (ltb (length s.under) 30) refl
      where
        go : (b : Bool) → ltb (length s.under) 30 ≡ b → Putting k j (l ++ (a ∷ [])) (bytes ++ put_held c []) (put_of c).composer
        go true h = put_under (ltb-true (length s.under) 30 h)
        go false h =
            let big = ltb-false (length s.under) 30 h in
            let few = s.few in
            put_last (omega arith) room

  pub puts : (k j : ℕ) (l : List Action) (bytes : List ℕ) (c : Composer) → Putting k j l bytes c → length l + k ≤ 31 * bound 4
      → Putting 0 j (l ++ replicate k a) (bytes ++ put_bytes k c) (put_times k c)
  puts zero j l bytes c p room = rw (append-nil l, append-nil bytes) p
  puts (suc k) j l bytes c p room =
      let size = length-append l (a ∷ []) in
      rw (append_assoc l (a ∷ []) (replicate k a), append_assoc bytes (put_held c []) (put_bytes k (put_of c).composer))
      at (puts k j (l ++ (a ∷ [])) (bytes ++ put_held c []) (put_of c).composer (one_put k j l bytes c p.stands p.action p.left p.line (omega arith)) (omega arith))
