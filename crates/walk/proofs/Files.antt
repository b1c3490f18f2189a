-- A walk over a file of a list of actions prints the text of that list. Assumes nothing.
use mathlib.Core.Path.{◌≡◌, refl, sym, ap, ◌∙◌}
use mathlib.Core.Bool.{Bool}
use mathlib.Core.List.{List, [], ◌∷◌, ◌++◌}
use Prim.Native.Nat.{ℕ, suc}
use borrow.Author.Tests.{eq-eqb}
use lib.Dec.{eqb, eqb-suc-zero}
use lib.ListN.{length}
use Rattle.charts.specs.declared.Action.{Action}
use Rattle.charts.proofs.Tools.{or_yes}
use Rattle.record.specs.Bytes.{Bytes}
use Rattle.runfile.specs.Block.{head_of}
use Rattle.files.specs.File.{IsBlock, Blocks, last, next, IsFile}
use Rattle.files.specs.Pieces.{pieces, Before, none, is_first, looked_at}
use Rattle.files.proofs.Accepted.{shown}
use Rattle.runfile.proofs.Parts.{bytes_first, bytes_second}
use Rattle.files.proofs.Pieces.{more_pieces, one_piece}
use Rattle.files.proofs.Stages.{At, found}
use Rattle.walk.specs.Walk.{Walker, turned, walking, nodes_once, opened, block_walked, walked_from, walked, list_walked}

-- what 10 asks of the blocks before, after one more
abbrev pub later : Before → ℕ → List Action → Before
later p n l = record { blocks = suc p.blocks; full = eqb (length l) 31; n = n }

pub there : (p : Before) (n i : ℕ) (l : List Action) → At p n i → length l ≡ 31 → At (later p n l) n (suc i)
there p n i l at full =
    record { blocks_before = ap suc at.blocks_before; all_full = eq-eqb (length l) 31 full; same_n = rw (eq-eqb n n refl) (or_yes (is_first (later p n l))) }

module _ {S : Type 0} (w : Walker S) where
  -- the text of a block of a file, and of what follows it
  pub block_text : (n i : ℕ) (l : List Action) (s : List ℕ) → Bytes s → IsBlock n i l s → (p : Before) → At p n i → (st : S) (c : ℕ) (f : Before → S → ℕ → List ℕ)
      → block_walked w s p st c (looked_at p s (head_of s)) f ≡ w.heading (is_first p) i (length l) n s ++ walking w l (opened w p n st) c (f (later p n l))
  block_text n i l s bytes b p at st c f = let here = found n i l s bytes b p at in rw (here.head, here.actions)

-- walks that print `nodes` and nothing else before actions
module _ {S : Type 0} (w : Walker S) (nodes_alone : (first : Bool) (number count n : ℕ) (b : List ℕ) → w.heading first number count n b ≡ nodes_once first n) where
  -- the text of actions depends on what follows them by its values alone; that of two lists is that of one after the other
  same_later : (l : List Action) (s : S) (i : ℕ) (f g : S → ℕ → List ℕ) → ((t : S) (j : ℕ) → f t j ≡ g t j) → walking w l s i f ≡ walking w l s i g
  same_later [] s i f g e = e s i
  same_later (a ∷ l) s i f g e = ap (turned i (w.turn i a s)) (same_later l (w.turn i a s).state (suc i) f g e)

  one_after_other : (l m : List Action) (s : S) (i : ℕ) (f : S → ℕ → List ℕ) → walking w (l ++ m) s i f ≡ walking w l s i (λ t j. walking w m t j f)
  one_after_other [] m s i f = refl
  one_after_other (a ∷ l) m s i f = ap (turned i (w.turn i a s)) (one_after_other l m (w.turn i a s).state (suc i) f)

  -- the text of the blocks of a file from block i on
  blocks_text : {n i : ℕ} {l : List Action} {s : List ℕ} → Bytes s → Blocks n i l s → (p : Before) → At p n i → (st : S) (c : ℕ)
      → walked_from w (pieces s) p st c ≡ nodes_once (is_first p) n ++ walking w l (opened w p n st) c (λ t j. w.done j)
  blocks_text {n} {i} {l} {s} bytes (last b) p at st c =
      let size = (shown s i (length l) n b.accepted).size in
      rw (one_piece s size)
      (block_text w n i l s bytes b p at st c (walked_from w [])
      ∙ rw nodes_alone (ap (λ (t : List ℕ). nodes_once (is_first p) n ++ t) (same_later l (opened w p n st) c _ _ (λ t j. rw (eqb-suc-zero p.blocks)))))
  blocks_text {n} {i} bytes (next {l = l} {m} {s} {t} b full rest) p at st c =
      let size = (shown s i (length l) n b.accepted).size in
      let q = later p n l in
      rw (more_pieces s t size)
      (block_text w n i l s (bytes_first s t bytes) b p at st c (walked_from w (pieces t))
      ∙ rw nodes_alone (ap (λ (t : List ℕ). nodes_once (is_first p) n ++ t)
      (same_later l (opened w p n st) c (walked_from w (pieces t) q) (λ u j. walking w m u j (λ v k. w.done k)) (λ u j. blocks_text (bytes_second s t bytes) rest q (there p n i l at full) u j ∙ rw (eqb-suc-zero p.blocks))
      ∙ sym (one_after_other l m (opened w p n st) c (λ u j. w.done j)))))

  -- of every file of a list of actions
  pub file_walked : (n : ℕ) (l : List Action) (bytes : List ℕ) → IsFile n l bytes → walked w bytes ≡ list_walked w n l
  file_walked n l bytes f =
      blocks_text f.bytes f.blocks none (record { blocks_before = refl; all_full = refl; same_n = refl }) (w.opening 0) 0
