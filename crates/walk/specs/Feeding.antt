-- A walk piece by piece: what a piece of a file gives, and the file's end.
use Rattle.std.specs.Prelude.{◌≡◌, Bool, true, false, cond, List, [], ◌∷◌, ◌++◌, ℕ, suc, ◌≤◌, length, Option, None, Some, Ok, Err}
use Rattle.charts.specs.declared.Action.{Action}
use Rattle.charts.specs.Numbers as N
use Rattle.runfile.specs.declared.BlockHead.{BlockHead}
use Rattle.charts.specs.Numbers.{number_of}
use Rattle.runfile.specs.Block.{Head}
use Rattle.files.specs.declared.order.Stage.{Stage}
use Rattle.files.specs.declared.order.Stage.TheVariants.{Unopened, After, Ended}
use Rattle.files.specs.Order.{is_ended, accepted_by, look_of, stage_after}
use Rattle.files.specs.Pieces.{actions_in}
use Rattle.transcript.specs.Lines.{refused_line}
use Rattle.transcript.specs.Room.{Puts}
use Rattle.walk.specs.declared.Part as put
use Rattle.walk.specs.Walk.{Turn, is_taken, Walker}

-- a walk between two pieces
pub record Walking (S : Type 0) : Type 0 where
  pub state : S
  pub stage : Stage

-- block 0 has a state of its own
abbrev pub is_unopened : Stage → Bool
is_unopened Unopened = true
is_unopened (After i c) = false
is_unopened Ended = false

abbrev pub opening_of : {S : Type 0} → Walker S → Stage → ℕ → S → S
opening_of w Unopened n s = w.opening n
opening_of w (After i c) n s = s
opening_of w Ended n s = s

-- what is found in a piece of a file, and what is printed where nothing is; "A refusal […] ends the output": after one nothing is found
abbrev pub found_by : Head → Option BlockHead
found_by (Err k) = None
found_by (Ok h) = Some h

abbrev pub text_by : Stage → Head → List ℕ
text_by g (Err k) = refused_line (accepted_by g) (number_of k)
text_by g (Ok h) = []

unfoldable pub found_in : Stage → ℕ → List ℕ → Option BlockHead
found_in g m piece = cond (is_ended g) None (found_by (look_of g m piece))

unfoldable pub found_text : Stage → ℕ → List ℕ → List ℕ
found_text g m piece = cond (is_ended g) [] (text_by g (look_of g m piece))

-- a block that was found is 512 bytes, with at most 31 actions
abbrev pub found_fits : List ℕ → Option BlockHead → Type 0
found_fits piece None = Unit {0}
found_fits piece (Some h) = (length piece ≡ 512) × (h.count ≤ 31)

-- what the actions of a block give: their text, the state after them, and whether one of them was refused
pub record Part (S : Type 0) : Type 0 where
  pub text : List ℕ
  pub state : S
  pub ended : Bool

abbrev pub line_then : {S : Type 0} → List ℕ → Part S → Part S
line_then t p = record { text = t ++ p.text; state = p.state; ended = p.ended }

abbrev pub turn_of : {S : Type 0} → ℕ → Turn S → Part S → Part S
turn_of i t later =
    cond (is_taken t) (line_then t.line later)
    (record { text = refused_line i t.number; state = t.state; ended = true })

abbrev pub part_of : {S : Type 0} → Walker S → List Action → S → ℕ → Part S
part_of w [] s i = record { text = []; state = s; ended = false }
part_of w (a ∷ l) s i = turn_of i (w.turn i a s) (part_of w l (w.turn i a s).state (suc i))

-- what a piece gives: its text, and the walk after it
pub record Gives (S : Type 0) : Type 0 where
  pub text : List ℕ
  pub after : Walking S

abbrev pub part_gives : {S : Type 0} → List ℕ → ℕ → ℕ → Part S → Gives S
part_gives t number count p =
    record { text = t ++ p.text; after = record { state = p.state; stage = stage_after p.ended number count } }

abbrev pub found_gives : {S : Type 0} → Walker S → Stage → S → List ℕ → List ℕ → Option BlockHead → Gives S
found_gives w g s piece t None = record { text = t; after = record { state = s; stage = Ended } }
found_gives w g s piece t (Some h) =
    part_gives (w.heading (is_unopened g) h.number h.count h.n piece) h.number h.count (part_of w (actions_in h.count piece) (opening_of w g h.n s) (accepted_by g))

unfoldable pub feed_of : {S : Type 0} → Walker S → Walking S → List ℕ → Gives S
feed_of w p piece =
    found_gives w p.stage p.state piece (found_text p.stage (w.nodes p.state) piece) (found_in p.stage (w.nodes p.state) piece)

-- the text at the file's end, by what is printed of the count of all actions; "an empty file" is 8
unfoldable pub finish_of : (ℕ → List ℕ) → Stage → List ℕ
finish_of done Unopened = refused_line 0 N.wrong_length
finish_of done (After i c) = done (accepted_by (After i c))
finish_of done Ended = []

-- what is printed of pieces fed one after the other, and then of the file's end
abbrev pub fed_text : {S : Type 0} → Walker S → List (List ℕ) → Walking S → List ℕ
fed_text w [] p = finish_of w.done p.stage
fed_text w (b ∷ l) p = (feed_of w p b).text ++ fed_text w l (feed_of w p b).after

-- what a function over a block's actions does: it puts their text into a buffer at a place, and gives the state after them, as it is seen
pub record PutsPart {C S : Type 0} (see : C → S) (p : Part S) (buf : List ℕ) (at : ℕ) (r : put.Part C) (after : List ℕ) : Type 0 where
  pub puts : Puts buf at p.text r.end after
  pub leaves : see r.state ≡ p.state
  pub stops : r.ended ≡ p.ended
