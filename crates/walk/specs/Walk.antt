-- The text of a run file, when it is said what each of its actions gives.
use Rattle.std.specs.Prelude.{Bool, cond, List, [], ◌∷◌, ◌++◌, ℕ, suc, eqb, Ok, Err}
use Rattle.charts.specs.declared.Action.{Action}
use Rattle.charts.specs.Numbers as N
use Rattle.charts.specs.Numbers.{number_of}
use Rattle.runfile.specs.Block.{Head, head_of}
use Rattle.files.specs.Pieces.{pieces, Before, none, is_first, looked_at, actions_in}
use Rattle.transcript.specs.Lines.{nodes_line, refused_line}

-- what the turn of an action gives: 0 or the number of its refusal, its line, and the state that the next action finds
pub record Turn (S : Type 0) : Type 0 where
  pub number : ℕ
  pub line : List ℕ
  pub state : S

abbrev pub is_taken : {S : Type 0} → Turn S → Bool
is_taken t = eqb t.number N.accepted

-- what is done with a file: what is printed once a block is accepted, before its actions, by whether it is block 0, its number, count and n, and its bytes;
-- the state that block 0's actions find, by its n, and the n of a state; the turn of an action, by its index and a state;
-- what is printed at the file's end, by the count of all actions
pub record Walker (S : Type 0) : Type 0 where
  pub heading : Bool → ℕ → ℕ → ℕ → List ℕ → List ℕ
  pub opening : ℕ → S
  pub nodes : S → ℕ
  pub turn : ℕ → Action → S → Turn S
  pub done : ℕ → List ℕ

-- "then each action, when its turn comes": the text of actions from a state and an index on, and after the last one what follows.
-- "A refusal prints `refused`, the count accepted so far and the number, and ends the output."
abbrev pub turned : {S : Type 0} → ℕ → Turn S → List ℕ → List ℕ
turned i t later = cond (is_taken t) (t.line ++ later) (refused_line i t.number)

abbrev pub walking : {S : Type 0} → Walker S → List Action → S → ℕ → (S → ℕ → List ℕ) → List ℕ
walking w [] s i later = later s i
walking w (a ∷ l) s i later = turned i (w.turn i a s) (walking w l (w.turn i a s).state (suc i) later)

-- "`nodes` is printed once block 0 is accepted"
abbrev pub nodes_once : Bool → ℕ → List ℕ
nodes_once first n = cond first (nodes_line n) []

-- the state that a block's actions find: block 0's own, or that which the block before left
abbrev pub opened : {S : Type 0} → Walker S → Before → ℕ → S → S
opened w p n s = cond (is_first p) (w.opening n) s

-- the text of a block whose head was looked at, and of what follows it
abbrev pub block_walked : {S : Type 0} → Walker S → List ℕ → Before → S → ℕ → Head → (Before → S → ℕ → List ℕ) → List ℕ
block_walked w b p s i (Err k) later = refused_line i (number_of k)
block_walked w b p s i (Ok h) later =
    w.heading (is_first p) h.number h.count h.n b
    ++ walking w (actions_in h.count b) (opened w p h.n s) i (later (record { blocks = suc p.blocks; full = eqb h.count 31; n = h.n }))

-- the text of blocks one after the other, i actions having been accepted before them; "an empty file" is 8
abbrev pub walked_from : {S : Type 0} → Walker S → List (List ℕ) → Before → S → ℕ → List ℕ
walked_from w [] p s i = cond (is_first p) (refused_line i N.wrong_length) (w.done i)
walked_from w (b ∷ l) p s i = block_walked w b p s i (looked_at p b (head_of b)) (walked_from w l)

-- the text of a file. (Block 0's actions find the state of its n, so the state before it says nothing.)
abbrev pub walked : {S : Type 0} → Walker S → List ℕ → List ℕ
walked w bytes = walked_from w (pieces bytes) none (w.opening 0) 0

-- the text of a list of actions for n nodes, where `nodes` is all that is printed before actions; it is that of every file of the list (proofs/Files.antt)
abbrev pub list_walked : {S : Type 0} → Walker S → ℕ → List Action → List ℕ
list_walked w n l = nodes_line n ++ walking w l (w.opening n) 0 (λ s i. w.done i)
