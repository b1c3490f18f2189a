-- A trial carried through block by block: the blocks that are written are the file of the actions that were made. Assumes nothing.
use mathlib.Core.Path.{◌≡◌, refl, sym, ap, ◌∙◌}
use mathlib.Core.List.{List, [], ◌∷◌, ◌++◌, append-nil, append_assoc}
use Prim.Native.Nat.{ℕ, suc, min, ◌+◌, ◌*◌, ◌-◌, ◌<◌, ◌≤◌}
use native.Mathlib.Omega.{arith}
use lib.Dec.{ltb}
use lib.ListN.{length, set, take, drop, length-append}
use lib.Seq.{sets, take_all}
use borrow.Rule.Slice.PartMut.{put_mid}
use Rattle.std.proofs.lemmas.List.Edits.{sets-eq}
use lib.Seq.{drop-drop}
use borrow.Author.Tests.{eq-eqb, ltb-true, ltb-false}
use Rattle.charts.specs.declared.User.{User}
use Rattle.charts.specs.Trials.{begins, load_after, trial, no_tally, tally_of}
use Rattle.charts.specs.Layout.{records_of}
use Rattle.charts.proofs.Settings.{is_trial}
use Rattle.charts.proofs.Tools.{by_test}
use Rattle.files.specs.File.{blocks_for, file_from, file_of}
use Rattle.runfile.specs.Write.{write_number, block_with, block_of, written}
use Rattle.files.proofs.Accepted.{shown}
use Rattle.files.proofs.Files.{block_accepted, block_taken}
use Rattle.files.proofs.Splits.{file_split}
use Rattle.turns.specs.Turns.{Allowed, load_in, tally_after}
use Rattle.trials.specs.declared.block.Trial.{Trial}
use Rattle.trials.specs.Trying.{StandsAt, part}
use Rattle.trials.proofs.Parts.{part_length}
use Rattle.trials.proofs.Allowing.{allowed_size}
use Rattle.trials.proofs.Taking.{trial_on, part_fits, part_taken}

-- bytes stored one after the other
sets_on : (l : List ℕ) (i : ℕ) (u v : List ℕ) → sets (sets l i u) (i + length u) v ≡ sets l i (u ++ v)
sets_on l i [] v = ap (λ j. sets l j v) (add_zero i)
  where
    add_zero : (i : ℕ) → i + 0 ≡ i
    add_zero i = omega arith
sets_on l i (a ∷ u) v = ap (λ j. sets (sets (set l i a) (suc i) u) j v) (add_suc i (length u)) ∙ sets_on (set l i a) (suc i) u v
  where
    add_suc : (i k : ℕ) → i + suc k ≡ suc i + k
    add_suc i k = omega arith

-- how many of the actions that are left go into a block: 1 to 31, and less than 31 only where no more are left
pub record Counts (left count : ℕ) : Type 0 where
  pub some_left : 1 ≤ count
  pub few : count ≤ 31
  pub within : count ≤ left
  pub full : count < left → count ≡ 31

pub counts : (left count : ℕ) → 1 ≤ left → count ≡ min left 31 → Counts left count
counts left count some e = record { some_left = omega arith; few = omega arith; within = omega arith; full = λ h. omega arith }

-- bytes written to a part of an array that they fill
pub stored : (l : List ℕ) (i k : ℕ) (u : List ℕ) → length u ≡ k → i + k ≤ length l → put_mid i k l u ≡ sets l i u
stored l i k u e h = rw drop-drop (rw (← e) (sym (append_assoc (take i l) u (drop (i + length u) l)) ∙ sym (sets-eq u l i (omega arith))))

-- what a write that is not refused leaves
pub written_is : (r : ℕ) (old new : List ℕ) → r ≡ 0 → written r old new ≡ new
written_is r old new e = rw (eq-eqb r 0 e)

-- after some blocks, all of them full while actions are left: the trial stands after their actions, and the lent bytes begin with their file
pub record Carried (us : ℕ → User) (n actions : ℕ) (entry file : List ℕ) (t : Trial) (number : ℕ) : Type 0 where
  pub done : ℕ
  pub under : done ≤ actions
  pub blocks : number ≡ blocks_for done
  pub all_full : done < actions → done ≡ 31 * number
  pub nodes : t.bus.n ≡ n
  pub stands : StandsAt us done t
  pub size : length (file_from number 0 n (trial us n done)) ≡ 512 * number
  pub wrote : file ≡ sets entry 0 (file_from number 0 n (trial us n done))

module _ (us : ℕ → User) (n actions : ℕ) where
  -- before the first block
  pub carried_none : (entry : List ℕ) (t : Trial) → t.bus.n ≡ n → load_in t.bus t.kept ≡ begins n → t.tally ≡ no_tally → Carried us n actions entry entry t 0
  unfolding load_after trial tally_of
  carried_none entry t e load tally = record {
    done = 0;
    under = omega arith;
    blocks = omega arith;
    all_full = λ h. omega arith;
    nodes = e;
    stands = record { load = load ∙ ap begins (sym e); tally = tally };
    size = omega arith;
    wrote = refl;
  }

  module _ (entry file : List ℕ) (t : Trial) (number : ℕ) (c : Carried us n actions entry file t number) where
    -- a block that is not the last is full
    pub done_full : number < blocks_for actions → (c.done < actions) × (c.done ≡ 31 * number)
    done_full h = let u = c.under in let b = c.blocks in let more : c.done < actions = omega arith in (more, c.all_full more)

    pub done_all : blocks_for actions ≤ number → c.done ≡ actions
    done_all h = let u = c.under in let b = c.blocks in by_test (ltb c.done actions)
        (λ t. let l : c.done < actions = ltb-true c.done actions t in let f = c.all_full l in absurd (omega arith))
        (λ t. let l : actions ≤ c.done = ltb-false c.done actions t in omega arith)

    -- after the last one
    pub carried_all : blocks_for actions ≤ number → (number ≡ blocks_for actions) × (t.tally ≡ tally_after us n actions) × (file ≡ sets entry 0 (file_of n (trial us n actions)))
    unfolding file_of
    carried_all over =
        let all = done_all over in
        let count : length (trial us n actions) ≡ actions = (is_trial us n actions).count in
        (rw (c.blocks, all), rw (c.stands.tally, c.nodes, all), rw (count) (rw (c.blocks, all) at c.wrote))

  module _ (a : Allowed us n) (short : actions ≤ 65535) (entry file : List ℕ) (t : Trial) (number count : ℕ) (c : Carried us n actions entry file t number) (more : c.done < actions) (counted : Counts (actions - c.done) count)
      (bytes : List ℕ) (made : bytes ≡ records_of (part us t.bus.n c.done count)) where
    abbrev done : ℕ
    done = c.done

    -- the next block's bytes, at its number
    records_are : bytes ≡ records_of (part us n done count)
    records_are = made ∙ ap (λ m. records_of (part us m done count)) c.nodes

    pub next_taken : write_number 512 n bytes ≡ 0
    next_taken =
        let size : length (part us n done count) ≡ count = part_length us n done count in
        let some = counted.some_left in
        let few = counted.few in
        let within = counted.within in
        ap (write_number 512 n) records_are ∙ block_taken n (part us n done count) (allowed_size us n a) (omega arith) (omega arith) (part_fits us n a done count (omega arith)) (part_taken us n a done count)

    -- the file of one block more
    one_more : file_from (number + 1) 0 n (trial us n (done + count)) ≡ file_from number 0 n (trial us n done) ++ block_with number n bytes
    one_more =
        let size : length (part us n done count) ≡ count = part_length us n done count in
        let long : length (trial us n done) ≡ done = (is_trial us n done).count in
        let few = counted.few in
        let full = c.all_full more in
        let zero_add : 0 + number ≡ number = omega arith in
        let all : take 31 (part us n done count) ≡ part us n done count = take_all 31 (part us n done count) (omega arith) in
        rw (trial_on us n done count) (file_split number 1 0 n (trial us n done) (part us n done count) (omega arith) ∙ rw (zero_add, all, append-nil, ← records_are))

    pub next_size : length (block_with number n bytes) ≡ 512
    next_size =
        let size : length (part us n done count) ≡ count = part_length us n done count in
        let some = counted.some_left in
        let few = counted.few in
        let within = counted.within in
        let full = c.all_full more in
        let read = block_accepted n number (part us n done count) (allowed_size us n a) (omega arith) (omega arith) (omega arith) (part_fits us n a done count (omega arith)) in
        ap (λ x. length (block_with number n x)) records_are ∙ (shown (block_of number n (part us n done count)) number (length (part us n done count)) n read.accepted).size

    pub carried_on : (u : Trial) (block after : List ℕ) → u.bus.n ≡ t.bus.n → StandsAt us (done + count) u → block ≡ block_with number n bytes → after ≡ sets file (512 * number) block
        → Carried us n actions entry after u (number + 1)
    carried_on u block after same stands is stored =
        let some = counted.some_left in
        let few = counted.few in
        let within = counted.within in
        let full = c.all_full more in
        let long = length-append (file_from number 0 n (trial us n done)) block in
        let block_size = ap length is ∙ next_size in
        let sizes = c.size in
        let whole = one_more ∙ ap (λ x. file_from number 0 n (trial us n done) ++ x) (sym is) in
        let place : 512 * number ≡ 0 + length (file_from number 0 n (trial us n done)) = omega arith in
        record {
          done = done + count;
          under = omega arith;
          blocks = omega arith;
          all_full = λ h. let z : count ≡ 31 = counted.full (omega arith) in omega arith;
          nodes = same ∙ c.nodes;
          stands = stands;
          size = ap length whole ∙ long ∙ omega arith;
          wrote = stored ∙ ap (λ x. sets x (512 * number) block) c.wrote ∙ ap (λ i. sets (sets entry 0 (file_from number 0 n (trial us n done))) i block) place
              ∙ sets_on entry 0 (file_from number 0 n (trial us n done)) block ∙ ap (sets entry 0) (sym whole);
        }
