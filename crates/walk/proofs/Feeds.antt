-- The two ways of a piece: nothing is found in it, or a block, and its actions have their turns. Assumes nothing.
use mathlib.Core.Path.{◌≡◌, refl, ◌∙◌}
use mathlib.Core.Bool.{Bool, true, false, cond}
use mathlib.Core.List.{List, []}
use Prim.Native.Nat.{ℕ}
use native.Mathlib.Omega.{arith}
use native.Mathlib.Nat.{zero-add}
use lib.ListN.{length}
use Rattle.runfile.specs.declared.BlockHead.{BlockHead}
use Rattle.std.specs.Prelude.{None, Some, Ok, Err}
use Rattle.runfile.specs.Block.{Head}
use Rattle.files.specs.declared.order.Stage.{Stage}
use Rattle.files.specs.declared.order.Stage.TheVariants.{Unopened, After, Ended}
use Rattle.files.specs.Order.{is_ended, accepted_by, look_of, stage_after}
use Rattle.files.specs.Pieces.{actions_in}
use Rattle.transcript.specs.Room.{put, Puts}
use Rattle.transcript.proofs.Puts.{and_then, put_none}
use Rattle.walk.specs.Walk.{Walker}
use Rattle.walk.specs.Feeding.{Walking, is_unopened, opening_of, found_by, text_by, found_in, found_text, part_of, Gives, feed_of}

-- what a feeding function says of its answer: the text's length, the buffer, the walk
abbrev pub Fed : {S : Type 0} → Gives S → List ℕ → ℕ → List ℕ → Walking S → Type 0
Fed g start end buf after = (end ≡ length g.text) × ((buf ≡ put start 0 g.text) × (after ≡ g.after))

from_zero : {start buf : List ℕ} {end : ℕ} {text : List ℕ} → Puts start 0 text end buf → (end ≡ length text) × (buf ≡ put start 0 text)
from_zero p = (p.ends ∙ zero-add _, p.holds)

-- where a block is found, its look prints nothing
by_head : (b : Bool) (g : Stage) (h : Head) (f : BlockHead) → cond b None (found_by h) ≡ Some f → cond b [] (text_by g h) ≡ []
by_head true g h f e = refl
by_head false g (Ok h) f e = refl
by_head false g (Err k) f e = let z : ◌≡◌ {A = ℕ} 0 1 = cc in absurd (omega arith)

no_text : (g : Stage) (m : ℕ) (piece : List ℕ) (f : BlockHead) → found_in g m piece ≡ Some f → found_text g m piece ≡ []
unfolding found_in found_text
no_text g m piece f e = by_head (is_ended g) g (look_of g m piece) f e

module _ {S : Type 0} (w : Walker S) (p : Walking S) (piece start : List ℕ) where
  pub fed_nothing : {end : ℕ} {buf : List ℕ} → found_in p.stage (w.nodes p.state) piece ≡ None
      → Puts start 0 (found_text p.stage (w.nodes p.state) piece) end buf → Fed (feed_of w p piece) start end buf (record { state = p.state; stage = Ended })
  unfolding feed_of
  fed_nothing is text = let t = from_zero text in rw is (t.0, (t.1, refl))

  -- `from` and `before` are what the piece's look left: nothing is put yet
  pub fed_block : (f : BlockHead) {from at end : ℕ} {before mid buf : List ℕ} {state : S} {stage : Stage}
      → found_in p.stage (w.nodes p.state) piece ≡ Some f
      → Puts start 0 (found_text p.stage (w.nodes p.state) piece) from before
      → Puts before 0 (w.heading (is_unopened p.stage) f.number f.count f.n piece) at mid
      → Puts mid at (part_of w (actions_in f.count piece) (opening_of w p.stage f.n p.state) (accepted_by p.stage)).text end buf
      → state ≡ (part_of w (actions_in f.count piece) (opening_of w p.stage f.n p.state) (accepted_by p.stage)).state
      → stage ≡ stage_after (part_of w (actions_in f.count piece) (opening_of w p.stage f.n p.state) (accepted_by p.stage)).ended f.number f.count
      → Fed (feed_of w p piece) start end buf (record { state = state; stage = stage })
  unfolding feed_of
  fed_block f {before = before} is look heading text s g =
      let none = rw (no_text p.stage (w.nodes p.state) piece f is) at look in
      let same : before ≡ start = none.holds ∙ put_none start 0 in
      let t = from_zero (and_then (rw same at heading) text) in
      rw is (t.0, (t.1, rw (s, g)))

-- block 0 or a later one
pub not_first : (g : Stage) → (g ≡ Unopened → ⊥) → is_unopened g ≡ false
not_first Unopened e = absurd (e refl)
not_first (After i c) e = refl
not_first Ended e = refl
