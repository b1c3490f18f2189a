-- What a whole text means: n and its actions, or its first fault with the line that has it.
use Rattle.std.specs.Prelude.{◌≡◌, cond, ◌&&◌, List, [], ◌∷◌, ◌++◌, ℕ, suc, eqb, length, drop, get_or, replicate, Result, Ok, Err}
use Rattle.charts.specs.Numbers.{number_of}
use Rattle.charts.specs.Records.{read}
use Rattle.charts.specs.declared.Action.{Action}
use Rattle.charts.specs.declared.Move.{Move}
use Rattle.charts.specs.declared.Refusal.{Refusal}
use Rattle.charts.specs.Layout.{Fits}
use Rattle.transcript.specs.Lines.{nodes_line}
use Rattle.faults.specs.declared.Fault.{Fault}
use Rattle.faults.specs.declared.Fault.TheVariants.{UnknownWord, NodesMissing, NoAction, Refused}
use Rattle.notation.specs.declared.Text.TheVariants.{Run}
use Rattle.notation.specs.declared.Line.{Line}
use Rattle.notation.specs.declared.Line.TheVariants.{Blank, Nodes, Acts, Actions, Finds}
use Rattle.notation.specs.declared.Line.TheVariants as L
use Rattle.words.specs.Words.{with_word}
use Rattle.notation.specs.Grammar.{line_of}
use Rattle.notation.specs.Reading.{nodes_stage}
use Rattle.transcript.specs.Printed.{action_line}

pub data Meaning : Type 0 where
  run : ℕ → List Action → Meaning
  wrong : ℕ → Fault → Meaning

-- the lines of a text that begins inside the line w; the last line may lack its newline
abbrev pub lines_from : List ℕ → List ℕ → List (List ℕ)
lines_from w [] = with_word w []
lines_from w (b ∷ l) = cond (eqb b 10) (w ∷ lines_from [] l) (lines_from (w ++ (b ∷ [])) l)

abbrev pub lines_of : List ℕ → List (List ℕ)
lines_of text = lines_from [] text

-- "A byte order mark (bytes EF BB BF) at the very start of a text is skipped, and counts for nothing."
unfoldable pub mark_size : List ℕ → ℕ
mark_size text = cond (eqb (get_or text 0 0) 239 && (eqb (get_or text 1 0) 187 && eqb (get_or text 2 0) 191)) 3 0

abbrev pub unmarked : List ℕ → List ℕ
unmarked text = drop (mark_size text) text

-- after a line: n (0 before the `nodes` line) and the actions so far, or what is wrong
pub data Said : Type 0 where
  on : ℕ → List Action → Said
  off : Fault → Said

-- "`pass * 6` repeats a line"; "the paper's number 1 to 6 for what the writer would refuse"
abbrev pub read_on : ℕ → List Action → Action → ℕ → Result Move Refusal → Said
read_on n l a k (Err j) = off (Refused (number_of j))
read_on n l a k (Ok m) = on n (l ++ replicate k a)

-- "`nodes 3` first"
abbrev pub nodes_on : ℕ → List Action → Result Unit Fault → Said
nodes_on m l (Ok u) = on m l
nodes_on m l (Err f) = off f

-- a run has no lines of settings and no `find`: "The first word is no action and not `nodes`"
abbrev pub line_on : ℕ → List Action → Result Line Fault → Said
line_on n l (Ok Blank) = on n l
line_on n l (Ok (Nodes m)) = nodes_on m l (nodes_stage n m)
line_on n l (Ok (Acts a k)) = cond (eqb n 0) (off NodesMissing) (read_on n l a k (read n a))
line_on n l (Ok (Actions k)) = off UnknownWord
line_on n l (Ok (L.User i u)) = off UnknownWord
line_on n l (Ok (Finds q d)) = off UnknownWord
line_on n l (Err f) = off f

-- "no `nodes` line, no action": told of the last line
abbrev pub end_on : ℕ → ℕ → List Action → Meaning
end_on i n l = cond (eqb n 0) (wrong i NodesMissing) (cond (eqb (length l) 0) (wrong i NoAction) (run n l))

abbrev pub after_line : ℕ → Said → (ℕ → List Action → Meaning) → Meaning
after_line i (on n l) next = next n l
after_line i (off f) next = wrong i f

-- the meaning of lines after i lines that gave n and l
abbrev pub meaning_from : List (List ℕ) → ℕ → ℕ → List Action → Meaning
meaning_from [] i n l = end_on i n l
meaning_from (t ∷ ts) i n l = after_line (suc i) (line_on n l (line_of Run t)) (meaning_from ts (suc i))

unfoldable pub meaning_of : List ℕ → Meaning
meaning_of text = meaning_from (lines_of (unmarked text)) 0 0 []

-- the text that is printed for n and a list of actions
abbrev pub action_lines : List Action → List ℕ
action_lines [] = []
action_lines (a ∷ l) = action_line a ++ action_lines l

unfoldable pub text_of : ℕ → List Action → List ℕ
text_of n l = nodes_line n ++ action_lines l

-- actions that the writer takes for n nodes
pub record Accepts (n : ℕ) (a : Action) : Type 0 where
  pub fits : Fits a
  pub move : Move
  pub reads : read n a ≡ Ok move

abbrev pub AllAccepted : ℕ → List Action → Type 0
AllAccepted n [] = Unit
AllAccepted n (a ∷ l) = Accepts n a × AllAccepted n l
