-- What a reader's stage says is what 10 asks of the blocks before. Assumes nothing.
use mathlib.Core.Path.{◌≡◌, refl, sym, ◌∙◌}
use mathlib.Core.Bool.{Bool, true, false, not, ◌||◌}
use mathlib.Core.List.{List}
use Prim.Native.Nat.{ℕ, suc, ◌+◌}
use native.Mathlib.Omega.{arith}
use native.Mathlib.Numerals.{add-one}
use borrow.Author.Tests.{eq-eqb, eqb-true, lt-ltb}
use lib.Dec.{eqb, ltb, leb-suc-suc, eqb-suc-zero}
use lib.ListN.{length}
use Rattle.charts.specs.declared.Action.{Action}
use Rattle.charts.specs.Valid.{is_size}
use Rattle.charts.proofs.Tools.{and-true, and_yes, or-true, both, never, pick_by}
use Rattle.record.specs.Bytes.{Bytes}
use Rattle.files.specs.declared.order.Stage.{Stage}
use Rattle.files.specs.declared.order.Stage.TheVariants.{Unopened, After, Ended}
use Rattle.runfile.specs.Block as B
use Rattle.std.specs.Prelude.{Ok, Err}
use Rattle.runfile.specs.Block.{Head, holds, head_of, count_fits, read_block, n_in, check_in, check_of}
use Rattle.files.specs.File.{IsBlock}
use Rattle.files.specs.Pieces.{Before, none, is_first, follows, looked_at, actions_in}
use Rattle.files.specs.Order.{is_ended, accepted_by, is_next, checked, stage_after}
use Rattle.files.proofs.Accepted.{number_fits}
use Rattle.files.proofs.Lists.{actions_in_block}
use Rattle.files.proofs.Pieces.{count_actions}

pub ended_after : (b : Bool) (number count : ℕ) → is_ended (stage_after b number count) ≡ b
ended_after true number count = refl
ended_after false number count = refl

-- the blocks before a piece, by the stage and block 0's n
abbrev pub before : Stage → ℕ → Before
before Unopened m = none
before (After i c) m = record { blocks = suc i; full = eqb c 31; n = m }
before Ended m = none

-- 10 is the same question
same_next : (g : Stage) (m number n : ℕ) → is_ended g ≡ false → is_next g m number n ≡ follows (before g m) number n
unfolding is_next
same_next Unopened m number n k = sym (and_yes (eqb number 0))
same_next (After i c) m number n k = rw (add-one i, eqb-suc-zero i, leb-suc-suc (suc i) 4294967295)
same_next Ended m number n k = cc

pub same_look : (g : Stage) (m : ℕ) (b : List ℕ) (h : Head) → is_ended g ≡ false → checked g m b h ≡ looked_at (before g m) b h
same_look g m b (Ok h) k = rw (same_next g m h.number h.n k)
same_look g m b (Err j) k = refl

-- what is known of a block that was taken: 10 let it pass, and so did 1
abbrev pub Passed : Before → Head → Type 0
Passed p (Ok h) = (follows p h.number h.n ≡ true) × (is_size h.n ≡ true)
Passed p (Err k) = Unit {0}

abbrev Sized : Head → Type 0
Sized (Ok h) = is_size h.n ≡ true
Sized (Err k) = Unit {0}

not_not : (b : Bool) → not b ≡ false → b ≡ true
not_not true e = refl
not_not false e = sym e

sized : (b : List ℕ) → Sized (head_of b)
unfolding head_of
sized b =
    pick_by Sized (not (eqb (length b) 512)) _ _ (λ e. tt) (λ e.
    pick_by Sized (not (eqb (check_in b) (check_of b))) _ _ (λ e. tt) (λ e.
    pick_by Sized (not (is_size (n_in b))) _ _ (λ e. tt) (λ e. not_not _ e)))

passed_by : (p : Before) (b : List ℕ) (h : Head) → Sized h → Passed p (looked_at p b h)
passed_by p b (Err k) z = tt
passed_by p b (Ok h) z =
    pick_by (Passed p) (not (follows p h.number h.n)) _ _ (λ e. tt) (λ e.
    pick_by (Passed p) (not (count_fits b)) _ _ (λ f. tt) (λ f. (not_not _ e, z)))

pub passed : (p : Before) (b : List ℕ) → Passed p (looked_at p b (head_of b))
passed p b = passed_by p b (head_of b) (sized b)

-- what 10 asks of a block after another
pub record Next (i c m number n : ℕ) : Type 0 where
  pub next_number : number ≡ suc i
  pub same_n : n ≡ m
  pub was_full : c ≡ 31

pub next : (i c m number n : ℕ) → follows (before (After i c) m) number n ≡ true → Next i c m number n
next i c m number n f =
    let rest = and-true (eqb number (suc i)) _ (and-true (ltb (suc i) 4294967296) _ f).1 in
    let last = and-true (eqb (suc i) 0 || eqb n m) (eqb c 31) rest.1 in
    record {
      next_number = eqb-true number (suc i) rest.0;
      same_n = eqb-true n m (or-true (eqb (suc i) 0) _ last.0 (eqb-suc-zero i));
      was_full = eqb-true c 31 last.1;
    }

-- the count of all actions accepted is that of the full blocks before, and this block's
pub record Counted (g : Stage) (m number count : ℕ) (b : List ℕ) : Type 0 where
  pub the_next : number ≡ (before g m).blocks
  pub in_all : accepted_by g + length (actions_in count b) ≡ accepted_by (After number count)

pub counted : (g : Stage) (m number count n : ℕ) (b : List ℕ) → is_ended g ≡ false → follows (before g m) number n ≡ true → Counted g m number count b
counted Unopened m number count n b k f =
    let zero_is = eqb-true number 0 (and-true (eqb number 0) true f).0 in
    let long = count_actions count b in
    record { the_next = zero_is; in_all = omega arith }
counted (After i c) m number count n b k f =
    let e = next i c m number n f in
    let long = count_actions count b in
    record { the_next = e.next_number; in_all = omega arith }
counted Ended m number count n b k f = never (sym k)

-- where block i of a file for n nodes stands
pub record At (p : Before) (n i : ℕ) : Type 0 where
  pub blocks_before : p.blocks ≡ i
  pub all_full : p.full ≡ true
  pub same_n : (is_first p || eqb n p.n) ≡ true

taken : (f : Bool) (h : Head) (i c n : ℕ) → B.looked_at f h ≡ holds i c n → (f ≡ true) × (h ≡ holds i c n)
taken true (Ok x) i c n e = (refl, e)
taken false (Ok x) i c n e = let z : ◌≡◌ {A = ℕ} 0 1 = cc in absurd (omega arith)
taken f (Err k) i c n e = let z : ◌≡◌ {A = ℕ} 0 1 = cc in absurd (omega arith)

-- it is taken there, with its actions
pub record Found (n i : ℕ) (l : List Action) (s : List ℕ) (p : Before) : Type 0 where
  pub head : looked_at p s (head_of s) ≡ holds i (length l) n
  pub actions : actions_in (length l) s ≡ l

pub found : (n i : ℕ) (l : List Action) (s : List ℕ) → Bytes s → IsBlock n i l s → (p : Before) → At p n i → Found n i l s p
unfolding read_block
found n i l s bytes b p at =
    let got = taken (count_fits s) (head_of s) i (length l) n b.accepted in
    let small = number_fits s i (length l) n bytes b.accepted in
    let here : follows p i n ≡ true =
    both (ltb p.blocks 4294967296) _ (rw at.blocks_before (lt-ltb i 4294967296 small))
    (both (eqb i p.blocks) _ (eq-eqb i p.blocks (sym at.blocks_before)) (both _ p.full at.same_n at.all_full)) in
    record { head = rw (got.1, here, got.0); actions = sym (actions_in_block s i (length l) n b.accepted) ∙ b.actions }
