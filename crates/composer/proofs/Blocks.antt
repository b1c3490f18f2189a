-- One action put into the block under way. Assumes nothing.
use mathlib.Core.Path.{◌≡◌, refl, ◌∙◌}
use mathlib.Core.Bool.{true, false}
use mathlib.Core.List.{List, [], ◌∷◌, ◌++◌}
use Prim.Native.Nat.{ℕ, suc, ◌+◌, ◌*◌, ◌-◌, ◌<◌, ◌≤◌}
use native.Mathlib.Omega.{arith}
use borrow.Author.Tests.{lt-ltb, le-ltb, ne_eqb}
use lib.Dec.{eqb, ltb}
use lib.ListN.{length, take, length-append}
use Rattle.charts.specs.declared.Action.{Action}
use Rattle.charts.specs.Layout.{records_of}
use Rattle.runfile.specs.Write.{write_number, block_of}
use Rattle.files.proofs.Rows.{stored_size, stored_holds}
use Rattle.std.specs.Prelude.{None}
use Rattle.composer.specs.declared.Composer.{Composer}
use Rattle.words.specs.Words.{limit}
use Rattle.composer.specs.Composer.{quiet, stored, with_block, records_in, flush_of, held_after, put_of, put_held}

-- a composer at block i, in which the records of l stand
pub record At (n i : ℕ) (l : List Action) (c : Composer) : Type 0 where
  pub going : c.fault ≡ None
  pub nodes : c.n ≡ n
  pub blocks : c.blocks ≡ i
  pub count : c.count ≡ length l
  pub size : length c.records ≡ 496
  pub holds : take (16 * length l) c.records ≡ records_of l

-- what a put does: the composer after it, and the block that it wrote
pub record Puts (n i k : ℕ) (l : List Action) (a : Action) (c : Composer) (bytes : List ℕ) : Type 0 where
  pub at : At n i l (put_of c).composer
  pub action : (put_of c).composer.action ≡ a
  pub left : (put_of c).composer.left ≡ k
  pub line : (put_of c).composer.line ≡ c.line
  pub wrote : put_held c [] ≡ bytes

module _ (n i k : ℕ) (l : List Action) (a : Action) (c : Composer) (at : At n i l c) (act : c.action ≡ a) (left : c.left ≡ suc k) where
  some : eqb c.left 0 ≡ false
  some = rw left (ne_eqb (suc k) 0 (λ e. omega arith))

  next_length : length (l ++ (a ∷ [])) ≡ suc (length l)
  next_length = length-append l (a ∷ []) ∙ omega arith

  -- there is room for one more
  short_put : length l < 30 → put_of c ≡ quiet (stored c (c.count + 1))
  unfolding put_of
  short_put few = rw (at.going, some, at.count, lt-ltb (length l) 30 few)

  pub put_short : length l < 30 → Puts n i k (l ++ (a ∷ [])) a c []
  unfolding held_after
  put_short few =
      let next = next_length in
      let e = short_put few in
      record {
        at = rw e (record {
          going = at.going;
          nodes = at.nodes;
          blocks = at.blocks;
          count = rw (at.count, next) (omega arith);
          size = rw (at.count, act) (stored_size c.records l a at.size (omega arith) at.holds);
          holds = rw (next, at.count, act) (stored_holds c.records l a at.size (omega arith) at.holds);
        });
        action = rw e act;
        left = rw (e, left) (omega arith);
        line = rw e;
        wrote = rw e;
      }

  -- the 31st record fills the block
  all_records : length l ≡ 30 → records_in (stored c c.count) 496 ≡ records_of (l ++ (a ∷ []))
  all_records full =
      let e : 16 * suc (length l) ≡ 496 = omega arith in
      rw (at.count, act, ← e) (stored_holds c.records l a at.size (omega arith) at.holds)

  full_put : length l ≡ 30 → i < limit → write_number 512 n (records_of (l ++ (a ∷ []))) ≡ 0
      → put_of c ≡ record { composer = with_block (stored c c.count) (c.blocks + 1) 0 (stored c c.count).records (c.left - 1); written = true }
  unfolding put_of flush_of
  full_put full fits taken =
      let long : 30 ≤ length l = omega arith in
      let small : ltb c.blocks limit ≡ true = rw at.blocks (lt-ltb i limit fits) in
      let late : ltb c.count 30 ≡ false = rw at.count (le-ltb (length l) 30 long) in
      let number : write_number 512 c.n (records_in (stored c c.count) 496) ≡ 0 = rw (at.nodes, all_records full) taken in
      rw (at.going, some, late, small, number)

  pub put_full : length l ≡ 30 → i < limit → write_number 512 n (records_of (l ++ (a ∷ []))) ≡ 0 → Puts n (suc i) k [] a c (block_of i n (l ++ (a ∷ [])))
  unfolding held_after
  put_full full fits taken =
      let e = full_put full fits taken in
      record {
        at = rw e (record {
          going = at.going;
          nodes = at.nodes;
          blocks = rw at.blocks (omega arith);
          count = refl;
          size = rw (at.count, act) (stored_size c.records l a at.size (omega arith) at.holds);
          holds = refl;
        });
        action = rw e act;
        left = rw (e, left) (omega arith);
        line = rw e;
        wrote = rw (e, at.blocks, at.nodes, all_records full);
      }
