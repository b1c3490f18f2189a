-- Walks whose state is block 0's n throughout. Assumes nothing.
use mathlib.Core.Path.{◌≡◌, refl, ap, sym, ◌∙◌}
use mathlib.Core.Bool.{Bool}
use mathlib.Core.List.{List}
use Prim.Native.Nat.{ℕ}
use native.Mathlib.Omega.{arith}
use Rattle.charts.specs.declared.Action.{Action}
use Rattle.runfile.specs.declared.BlockHead.{BlockHead}
use Rattle.std.specs.Prelude.{Some, Ok, Err}
use Rattle.files.specs.declared.order.Stage.{Stage}
use Rattle.files.specs.declared.order.Stage.TheVariants.{Unopened, After, Ended}
use Rattle.runfile.specs.Block.{Head, head_of}
use Rattle.files.specs.Order.{accepted_by, look_of, stage_after}
use Rattle.files.specs.Pieces.{pieces, actions_in}
use Rattle.files.proofs.Stages.{before, same_look, Passed, passed, next}
use Rattle.transcript.specs.Room.{Puts}
use Rattle.walk.specs.Walk.{Walker, walked}
use Rattle.walk.specs.declared.Part as put
use Rattle.walk.specs.Feeding.{is_unopened, opening_of, found_by, found_in, found_text, PutsPart, part_of, feed_of, fed_text}
use Rattle.walk.specs.Reading.{reading, started}
use Rattle.walk.proofs.Feeds.{Fed, fed_block}
use Rattle.walk.proofs.Whole as W

pub record KeepsN (w : Walker ℕ) : Type 0 where
  pub opening_n : (n : ℕ) → w.opening n ≡ n
  pub nodes_n : (n : ℕ) → w.nodes n ≡ n
  pub turn_n : (i : ℕ) (a : Action) (n : ℕ) → (w.turn i a n).state ≡ n

-- a block that is found has block 0's n
holds : (h : Head) (f : BlockHead) → found_by h ≡ Some f → h ≡ Ok f
holds (Ok h) f e = cc
holds (Err k) f e = let z : ◌≡◌ {A = ℕ} 0 1 = cc in absurd (omega arith)

abbrev pub Any : ℕ → Type 0
Any n = Unit {0}

module _ {w : Walker ℕ} (keeps : KeepsN w) where
  opens : (g : Stage) (m : ℕ) (s : List ℕ) (f : BlockHead) → found_in g m s ≡ Some f → opening_of w g f.n m ≡ f.n
  unfolding found_in look_of
  opens Unopened m s f e = keeps.opening_n f.n
  opens (After i c) m s f e =
      let looked = sym (same_look (After i c) m s (head_of s) refl) ∙ holds _ f e in
      let pass : Passed (before (After i c) m) (Ok f) = rw looked at (passed (before (After i c) m) s) in
      sym (next i c m f.number f.n pass.0).same_n
  opens Ended m s f e = let z : ◌≡◌ {A = ℕ} 0 1 = cc in absurd (omega arith)

  -- what a feeding function has done that found a block, put what stands before its actions, and had its actions put their text
  pub fed_part : (m : ℕ) (g : Stage) (piece start : List ℕ) (f : BlockHead) {from at : ℕ} {before mid buf : List ℕ} {part : put.Part ℕ}
      → found_in g (w.nodes m) piece ≡ Some f
      → Puts start 0 (found_text g (w.nodes m) piece) from before
      → Puts before 0 (w.heading (is_unopened g) f.number f.count f.n piece) at mid
      → PutsPart (λ k. k) (part_of w (actions_in f.count piece) f.n (accepted_by g)) mid at part buf
      → Fed (feed_of w (reading m g) piece) start part.end buf (reading part.state (stage_after part.ended f.number f.count))
  fed_part m g piece start f {part = part} is look heading p =
      let same = opens g m piece f (rw (keeps.nodes_n m) at is) in
      let puts = rw (← same) at p.puts in
      let stop = rw (← same) at p.stops in
      let left = rw (← same) at p.leaves in
      fed_block w (reading m g) piece start f is look heading puts left (ap (λ (b : Bool). stage_after b f.number f.count) stop)

  pub does : W.Does Any w w
  does = record {
    same_heading = λ first number count n b. refl;
    same_done = λ i. refl;
    same_opening = λ n z. refl;
    opening_good = λ n z. tt;
    opening_nodes = λ n z. keeps.nodes_n (w.opening n) ∙ keeps.opening_n n;
    same_turn = λ i a n g. refl;
    turn_good = λ i a n g. tt;
    turn_nodes = λ i a n g. keeps.nodes_n (w.turn i a n).state ∙ (keeps.turn_n i a n ∙ sym (keeps.nodes_n n));
  }

  -- the pieces of any file, fed one after the other, and then the file's end, give exactly the text of the file
  pub whole : (bytes : List ℕ) → fed_text w (pieces bytes) started ≡ walked w bytes
  whole bytes = W.whole does 0 bytes
