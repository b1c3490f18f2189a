-- What a text's meaning says of the composer: a run is composed to its file, a fault stops it on its line. Assumes nothing.
use mathlib.Core.Path.{◌≡◌, refl, ap, sym, ◌∙◌}
use mathlib.Core.Bool.{Bool, true, false, cond}
use mathlib.Core.List.{List, [], ◌∷◌, ◌++◌, append_assoc, append-nil}
use Prim.Native.Nat.{ℕ, suc, ◌+◌, ◌*◌, ◌^◌, ◌<◌, ◌≤◌}
use native.Mathlib.Omega.{arith}
use borrow.Author.Tests.{lt-ltb, ne_eqb, eqb-true, eqb-false}
use lib.Dec.{eqb, ltb}
use lib.ListN.{length, replicate, length-append, length-replicate}
use lib.Seq.{take_all}
use Rattle.charts.specs.Records.{Decoded, read}
use Rattle.charts.specs.declared.Action.{Action}
use Rattle.charts.specs.Layout.{bound, records_of}
use Rattle.runfile.specs.Write.{write_number, block_of}
use Rattle.files.specs.File.{blocks_for, file_from, file_of, Taken}
use Rattle.faults.specs.declared.Fault.{Fault}
use Rattle.faults.specs.declared.Fault.TheVariants as F
use Rattle.notation.specs.declared.Text.TheVariants.{Run}
use Rattle.notation.specs.declared.Line.{Line}
use Rattle.notation.specs.declared.Line.TheVariants as L
use Rattle.words.specs.Words.{limit}
use Rattle.notation.specs.Grammar.{line_of}
use Rattle.notation.specs.Meaning.{Meaning, run, wrong, Said, on, off, read_on, nodes_on, line_on, end_on, after_line, meaning_from, lines_of, unmarked, meaning_of}
use Rattle.std.specs.Prelude.{Some, None, Result, Ok, Err}
use Rattle.composer.specs.declared.Composer.{Composer}
use Rattle.composer.specs.declared.Wrote.{Wrote}
use Rattle.composer.specs.Composer.{stopped, with_block, records_in, used_by, quiet, flush_of, held_after, feed_of, finish_of, finish_held}
use Rattle.composer.specs.Composed.{begin, put_bytes, settled, composed_from, composed, ends_from, ends, times_said, actions_in}
use Rattle.composer.proofs.Blocks.{At}
use Rattle.composer.proofs.Standing.{takes, block_taken, file_stands, under_accepted, parts_length}
use Rattle.notation.specs.Reading.{line_shown, nodes_stage}
use Rattle.notation.proofs.Readers.{shown_small}
use Rattle.composer.proofs.Feeding.{After, Goes, feed_goes, still}

-- what a composer makes of the rest of a text with that meaning, `bytes` being written
abbrev Outcome : List ℕ → List (List ℕ) → Composer → Meaning → Type 0
Outcome bytes ts c (run n l) = Taken n l × (bytes ++ composed_from ts c ≡ file_of n l) × ((ends_from ts c).fault ≡ None)
Outcome bytes ts c (wrong i f) = ((ends_from ts c).fault ≡ Some f) × ((ends_from ts c).line ≡ line_shown i)

one_block : (n i : ℕ) (l : List Action) → 0 < length l → length l ≤ 31 → file_from (blocks_for (length l)) i n l ≡ block_of i n l
one_block n i l some few =
    let e : blocks_for (length l) ≡ 1 = omega arith in
    rw (e, take_all 31 l few, append-nil)

-- the end of a text: no `nodes` line, no action, no block under way, and a block under way, which is written
module _ (n i : ℕ) (l : List Action) (c : Composer) (at : At n i l c) (idle : c.left ≡ 0) where
  finish_missing : eqb n 0 ≡ true → finish_of c ≡ quiet (stopped c F.NodesMissing)
  unfolding finish_of
  finish_missing h =
      let nodes : eqb c.n 0 ≡ true = rw at.nodes h in
      rw (at.going, idle, nodes)

  module _ (some : eqb n 0 ≡ false) where
    nodes_told : eqb c.n 0 ≡ false
    nodes_told = rw at.nodes some

    finish_empty : length l ≡ 0 → i ≡ 0 → finish_of c ≡ quiet (stopped c F.NoAction)
    unfolding finish_of
    finish_empty none first =
        let count : c.count ≡ 0 = at.count ∙ none in
        let blocks : c.blocks ≡ 0 = at.blocks ∙ first in
        rw (at.going, idle, nodes_told, count, blocks)

    finish_full : length l ≡ 0 → 0 < i → finish_of c ≡ quiet c
    unfolding finish_of
    finish_full none later =
        let count : c.count ≡ 0 = at.count ∙ none in
        let blocks : eqb c.blocks 0 ≡ false = rw at.blocks (ne_eqb i 0 (λ e. omega arith)) in
        rw (at.going, idle, nodes_told, count, blocks)

    held_full : length l ≡ 0 → 0 < i → finish_held c [] ≡ []
    unfolding held_after
    held_full none later = rw (finish_full none later)

    module _ (under : 0 < length l) (few : length l < 31) (fits : i < limit) (taken : write_number 512 n (records_of l) ≡ 0) where
      all_records : records_in c (used_by c.count) ≡ records_of l
      all_records =
          let used : used_by c.count ≡ 16 * length l = rw (at.count, lt-ltb (length l) 31 few) in
          rw used at.holds

      finish_under : finish_of c ≡ record { composer = with_block c (c.blocks + 1) 0 c.records c.left; written = true }
      unfolding finish_of flush_of
      finish_under =
          let count : eqb c.count 0 ≡ false = rw at.count (ne_eqb (length l) 0 (λ e. omega arith)) in
          let small : ltb c.blocks limit ≡ true = rw at.blocks (lt-ltb i limit fits) in
          let number : write_number 512 c.n (records_in c (used_by c.count)) ≡ 0 = rw (at.nodes, all_records) taken in
          rw (at.going, idle, nodes_told, count, small, number)

      held_under : finish_held c [] ≡ block_of i n l
      unfolding held_after
      held_under = rw (finish_under, all_records, at.blocks, at.nodes)

fault_of : {w : Wrote} {c : Composer} {b : Bool} → w ≡ record { composer = c; written = b } → w.composer.fault ≡ c.fault
fault_of e = ap (λ (x : Wrote). x.composer.fault) e

line_is : {w : Wrote} {c : Composer} {b : Bool} → w ≡ record { composer = c; written = b } → w.composer.line ≡ c.line
line_is e = ap (λ (x : Wrote). x.composer.line) e

module _ (i n : ℕ) (l : List Action) (bytes : List ℕ) (c : Composer) (a : After i n l bytes c) (few : length l ≤ 31 * bound 4) where
  end_missing : eqb n 0 ≡ true → Outcome bytes [] c (wrong i F.NodesMissing)
  end_missing h =
      let s = a.stands in
      let e = finish_missing n s.block s.under c s.at a.idle h in
      (fault_of e, line_is e ∙ a.line)

  end_empty : eqb n 0 ≡ false → length l ≡ 0 → Outcome bytes [] c (wrong i F.NoAction)
  end_empty h none =
      let s = a.stands in
      let sizes = parts_length a.stands in
      let e = finish_empty n s.block s.under c s.at a.idle h (omega arith) (omega arith) in
      (fault_of e, line_is e ∙ a.line)

  end_full : eqb n 0 ≡ false → 1 ≤ length l → length a.stands.under ≡ 0 → Outcome bytes [] c (run n l)
  end_full h some none =
      let s = a.stands in
      let sizes = parts_length a.stands in
      let later : 0 < a.stands.block = omega arith in
      let blocks : blocks_for (length a.stands.under) ≡ 0 = omega arith in
      let file : file_of n l ≡ bytes ++ [] = rw blocks at (file_stands a.stands) in (
        takes n l (a.sized h) s.accepted some few,
        ap (λ (x : List ℕ). bytes ++ x) (held_full n s.block s.under c s.at a.idle h none later) ∙ sym file,
        fault_of (finish_full n s.block s.under c s.at a.idle h none later) ∙ s.at.going,
      )

  end_under : eqb n 0 ≡ false → 0 < length a.stands.under → Outcome bytes [] c (run n l)
  end_under h under =
      let s = a.stands in
      let sizes = parts_length a.stands in
      let small = s.few in
      let fits : a.stands.block < bound 4 = omega arith in
      let taken = block_taken n s.under (a.sized h) (under_accepted s) under (omega arith) in
      let file : file_of n l ≡ bytes ++ block_of s.block n s.under = rw (one_block n s.block s.under under (omega arith)) at (file_stands a.stands) in (
        takes n l (a.sized h) s.accepted (omega arith) few,
        ap (λ (x : List ℕ). bytes ++ x) (held_under n s.block s.under c s.at a.idle h under small fits taken) ∙ sym file,
        fault_of (finish_under n s.block s.under c s.at a.idle h under small fits taken) ∙ s.at.going,
      )

  end_run : eqb n 0 ≡ false → 1 ≤ length l → Outcome bytes [] c (run n l)
  end_run h some = go (eqb (length a.stands.under) 0) refl
    where
      go : (b : Bool) → eqb (length a.stands.under) 0 ≡ b → Outcome bytes [] c (run n l)
      go true e = end_full h some (eqb-true (length a.stands.under) 0 e)
      go false e = end_under h (let z = eqb-false (length a.stands.under) 0 e in omega arith)

  end : Outcome bytes [] c (end_on i n l)
  end = go (eqb n 0) (eqb (length l) 0) refl refl
    where
      go : (b s : Bool) → eqb n 0 ≡ b → eqb (length l) 0 ≡ s → Outcome bytes [] c (cond b (wrong i F.NodesMissing) (cond s (wrong i F.NoAction) (run n l)))
      go true s p q = end_missing p
      go false true p q = end_empty p (eqb-true (length l) 0 q)
      go false false p q = end_run p (let z = eqb-false (length l) 0 q in omega arith)

-- how many actions a line adds to those before it, and how many a whole text says
abbrev Grows : ℕ → Said → Type 0
Grows size (on n l) = length l ≡ size
Grows size (off f) = Unit

grows : (n : ℕ) (l : List Action) (x : Result Line Fault) → Grows (length l + times_said x) (line_on n l x)
grows n l (Ok L.Blank) = omega arith
grows n l (Ok (L.Nodes m)) = go (nodes_stage n m)
  where
    go : (s : Result Unit Fault) → Grows (length l + 0) (nodes_on m l s)
    go (Ok u) = omega arith
    go (Err f) = tt
grows n l (Ok (L.Acts a k)) = go (eqb n 0) (read n a)
  where
    go : (b : Bool) (d : Decoded) → Grows (length l + k) (cond b (off F.NodesMissing) (read_on n l a k d))
    go true d = tt
    go false (Err j) = tt
    go false (Ok v) = let times = length-replicate k a in length-append l (replicate k a) ∙ omega arith
grows n l (Ok (L.Actions k)) = tt
grows n l (Ok (L.User i u)) = tt
grows n l (Ok (L.Finds q d)) = tt
grows n l (Err f) = tt

abbrev Sums : ℕ → Meaning → Type 0
Sums size (run n l) = length l ≡ size
Sums size (wrong i f) = Unit

sums : (ts : List (List ℕ)) (i n : ℕ) (l : List Action) → Sums (length l + actions_in ts) (meaning_from ts i n l)
sums [] i n l = go (eqb n 0) (eqb (length l) 0)
  where
    go : (b s : Bool) → Sums (length l + 0) (cond b (wrong i F.NodesMissing) (cond s (wrong i F.NoAction) (run n l)))
    go true s = tt
    go false true = tt
    go false false = omega arith
sums (t ∷ ts) i n l = go (sums ts (suc i)) (line_on n l (line_of Run t)) (grows n l (line_of Run t))
  where
    go : ((m : ℕ) (k : List Action) → Sums (length k + actions_in ts) (meaning_from ts (suc i) m k)) → (s : Said) → Grows (length l + times_said (line_of Run t)) s
        → Sums (length l + (times_said (line_of Run t) + actions_in ts)) (after_line (suc i) s (meaning_from ts (suc i)))
    go later (on m k) g =
        let e : length k + actions_in ts ≡ length l + (times_said (line_of Run t) + actions_in ts) = omega arith in
        rw e at (later m k)
    go later (off f) g = tt

-- the lines of a text one after the other
abbrev Outcomes : List (List ℕ) → Type 0
Outcomes ts =
    (i n : ℕ) (l : List Action) (bytes : List ℕ) (c : Composer) → After i n l bytes c → length l + actions_in ts ≤ 31 * bound 4 → Outcome bytes ts c (meaning_from ts i n l)

line_first : (bytes : List ℕ) (t : List ℕ) (ts : List (List ℕ)) (c : Composer) (x : Meaning)
    → Outcome (bytes ++ put_bytes (feed_of c t).left (feed_of c t)) ts (settled (feed_of c t)) x → Outcome bytes (t ∷ ts) c x
line_first bytes t ts c (run n l) o =
    (o.0, sym (append_assoc bytes (put_bytes (feed_of c t).left (feed_of c t)) (composed_from ts (settled (feed_of c t)))) ∙ o.1, o.2)
line_first bytes t ts c (wrong i f) o = o

one_line : (t : List ℕ) (ts : List (List ℕ)) → Outcomes ts → Outcomes (t ∷ ts)
one_line t ts later i n l bytes c a few = go (line_on n l (line_of Run t)) (grows n l (line_of Run t)) (feed_goes i n l bytes c a t)
  where
    go : (s : Said) → Grows (length l + times_said (line_of Run t)) s → Goes (suc i) bytes (feed_of c t) s → Outcome bytes (t ∷ ts) c (after_line (suc i) s (meaning_from ts (suc i)))
    go (on m k) g w =
        line_first bytes t ts c (meaning_from ts (suc i) m k)
        (later (suc i) m k (bytes ++ put_bytes (feed_of c t).left (feed_of c t)) (settled (feed_of c t)) (w (omega arith)) (omega arith))
    go (off f) g w =
        let e = still (feed_of c t) f w.0 (feed_of c t).left ts in
        (ap (λ (x : Composer). x.fault) e ∙ w.0, ap (λ (x : Composer). x.line) e ∙ w.1)

outcome : (ts : List (List ℕ)) → Outcomes ts
outcome [] i n l bytes c a few = end i n l bytes c a (omega arith)
outcome (t ∷ ts) i n l bytes c a few = one_line t ts (outcome ts) i n l bytes c a few

begins : After 0 0 [] [] begin
begins = record {
  stands = record {
    block = 0;
    full = [];
    under = [];
    parts = refl;
    size = refl;
    few = omega arith;
    at = record { going = refl; nodes = refl; blocks = refl; count = refl; size = refl; holds = refl };
    accepted = tt;
    wrote = refl;
  };
  idle = refl;
  line = refl;
  sized = λ e. absurd (let z : ◌≡◌ {A = ℕ} 0 1 = cc in omega arith);
  none = λ e. refl;
}

of_text : (text : List ℕ) → actions_in (lines_of (unmarked text)) ≤ 31 * bound 4 → Outcome [] (lines_of (unmarked text)) begin (meaning_of text)
unfolding meaning_of
of_text text few = outcome (lines_of (unmarked text)) 0 0 [] [] begin begins (omega arith)

count_of : (text : List ℕ) → Sums (0 + actions_in (lines_of (unmarked text))) (meaning_of text)
unfolding meaning_of
count_of text = sums (lines_of (unmarked text)) 0 0 []

-- a text that means n and l is composed to the file of l for n nodes: the writer takes l, the bytes are that file's, and the composer has no fault
pub composes : (text : List ℕ) (n : ℕ) (l : List Action) → meaning_of text ≡ run n l → length l ≤ 31 * bound 4
    → Taken n l × (composed text ≡ file_of n l) × ((ends text).fault ≡ None)
unfolding composed ends
composes text n l h few =
    let size = rw h at (count_of text) in
    rw h at (of_text text (omega arith))

-- a text that is wrong leaves the composer stopped with that fault on that line
pub stops : (text : List ℕ) (i : ℕ) (f : Fault) → meaning_of text ≡ wrong i f → actions_in (lines_of (unmarked text)) ≤ 31 * bound 4 → i < 2 ^ 64
    → ((ends text).fault ≡ Some f) × ((ends text).line ≡ i)
unfolding ends
stops text i f h few small =
    let o = rw h at (of_text text few) in
    (o.0, o.1 ∙ shown_small i small)
