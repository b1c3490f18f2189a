-- What a whole text of a question means: the state of its run, and what is asked of it, or its first fault with the line that has it.
use Rattle.std.specs.Prelude.{◌≡◌, true, false, List, [], ◌∷◌, ◌++◌, ℕ, eqb, replicate, Result, Ok, Err}
use Rattle.charts.specs.declared.Action.{Action}
use Rattle.charts.specs.declared.Question.{Question}
use Rattle.charts.specs.State.{State, fresh}
use Rattle.charts.specs.Valid.{is_size}
use Rattle.charts.specs.Step.{after, results}
use Rattle.charts.specs.Routes.{all_accepted}
use Rattle.notation.specs.declared.Text.{Text}
use Rattle.notation.specs.declared.Text.TheVariants as T
use Rattle.notation.specs.declared.Line.{Line}
use Rattle.notation.specs.declared.Line.TheVariants as L
use Rattle.faults.specs.declared.Fault.{Fault}
use Rattle.words.specs.declared.Name.TheVariants as V
use Rattle.words.specs.Names.{name_number, word_number}
use Rattle.words.specs.Words.{kind_of}
use Rattle.notation.specs.Grammar.{line_of}
use Rattle.notation.specs.Meaning.{lines_of, unmarked}
use Rattle.finder.specs.Reader.{Reader, started, feed_of, finish_of}

-- each line fed, and the text's end
abbrev pub fed_from : List (List ℕ) → Reader → Reader
fed_from [] r = r
fed_from (t ∷ ts) r = fed_from ts (feed_of r t)

unfoldable pub read_by : List ℕ → Reader
read_by text = finish_of (fed_from (lines_of (unmarked text)) started)

-- what a line says: the number of nodes, the actions ("`pass * 6` is six lines `pass`"), the question with its depth
abbrev pub nodes_in : Result Line Fault → List ℕ
nodes_in (Ok L.Blank) = []
nodes_in (Ok (L.Nodes m)) = m ∷ []
nodes_in (Ok (L.Acts a k)) = []
nodes_in (Ok (L.Actions k)) = []
nodes_in (Ok (L.User i u)) = []
nodes_in (Ok (L.Finds q d)) = []
nodes_in (Err f) = []

abbrev pub acts_in : Result Line Fault → List Action
acts_in (Ok L.Blank) = []
acts_in (Ok (L.Nodes m)) = []
acts_in (Ok (L.Acts a k)) = replicate k a
acts_in (Ok (L.Actions k)) = []
acts_in (Ok (L.User i u)) = []
acts_in (Ok (L.Finds q d)) = []
acts_in (Err f) = []

abbrev pub asks_in : Result Line Fault → List (Question × ℕ)
asks_in (Ok L.Blank) = []
asks_in (Ok (L.Nodes m)) = []
asks_in (Ok (L.Acts a k)) = []
asks_in (Ok (L.Actions k)) = []
asks_in (Ok (L.User i u)) = []
asks_in (Ok (L.Finds q d)) = (q, d) ∷ []
asks_in (Err f) = []

-- what lines say, as lines of that text
abbrev pub said_from : {A : Type 0} → (Result Line Fault → List A) → Text → List (List ℕ) → List A
said_from says text [] = []
said_from says text (t ∷ ts) = says (line_of text t) ++ said_from says text ts

-- of a question: its numbers of nodes, the actions of its run, and what is asked
unfoldable pub nodes_of : List ℕ → List ℕ
nodes_of text = said_from nodes_in T.Question (lines_of (unmarked text))

unfoldable pub run_of : List ℕ → List Action
run_of text = said_from acts_in T.Question (lines_of (unmarked text))

unfoldable pub asks_of : List ℕ → List (Question × ℕ)
asks_of text = said_from asks_in T.Question (lines_of (unmarked text))

-- "The program `find` plays the run while it reads it": the state is that of the fresh bus after the actions l, and each of them was accepted when its turn came
pub record PlayedRun (l : List Action) (s : State) : Type 0 where
  pub size : is_size s.n ≡ true
  pub state : s ≡ after (fresh s.n) l
  pub accepted : all_accepted (results (fresh s.n) l) ≡ true

-- "A question is a run and then a line that asks for a route": lines none of which begins with `find`
abbrev pub NoFind : List (List ℕ) → Type 0
NoFind [] = Unit
NoFind (t ∷ ts) = (eqb (word_number (kind_of t)) (name_number V.Find) ≡ false) × NoFind ts
