-- A question under way: what a line and the text's end make of it. "The program `find` plays the run while it reads it".
use Rattle.std.specs.Prelude.{Bool, true, false, cond, ◌&&◌, List, ℕ, zero, suc, eqb, Option, None, Some, is_some, Result, Ok, Err}
use Rattle.charts.specs.declared.Report.TheVariants.{Silent}
use Rattle.charts.specs.declared.Action.{Action}
use Rattle.charts.specs.declared.Word.TheVariants.{Won}
use Rattle.charts.specs.declared.Question.{Question}
use Rattle.charts.specs.Numbers as N
use Rattle.charts.specs.Numbers.{err_number}
use Rattle.charts.specs.declared.Refusal.{Refusal}
use Rattle.charts.specs.State.{State, fresh}
use Rattle.charts.specs.Step as Step
use Rattle.charts.specs.Step.{refuses, step, is_accepted}
use Rattle.charts.specs.View.{view}
use Rattle.charts.specs.Routes.{route_number}
use Rattle.faults.specs.declared.Fault.{Fault}
use Rattle.faults.specs.declared.Fault.TheVariants.{UnknownWord, NodesMissing, NoQuestion, AfterQuestion, Refused}
use Rattle.notation.specs.declared.Text.TheVariants as T
use Rattle.notation.specs.declared.Line.{Line}
use Rattle.notation.specs.declared.Line.TheVariants as L
use Rattle.notation.specs.Grammar.{line_of}
use Rattle.notation.specs.Reading.{counted, nodes_stage}
use Rattle.finder.specs.declared.Finder.{Finder}

-- the fault that has stopped it and the line last read; the state of the run so far (n is 0 before the `nodes` line); whether the line `find` was read, and what it asks
pub record Reader : Type 0 where
  pub fault : Option Fault
  pub line : ℕ
  pub state : State
  pub asked : Bool
  pub question : Question
  pub depth : ℕ

-- the code's record, seen as such a reader
abbrev pub seen : Finder → Reader
seen f = record { fault = f.fault; line = f.line; state = view f.bus; asked = f.asked; question = f.question; depth = f.depth }

-- before a text
abbrev pub unasked : Question
unasked = record { word = Won; node = 0 }

abbrev pub started : Reader
started = record { fault = None; line = 0; state = fresh 0; asked = false; question = unasked; depth = 0 }

-- stopped by a fault; on a line; with another state; with its question
abbrev pub stopped : Reader → Fault → Reader
stopped r f = record r { fault = Some f }

abbrev pub on_line : Reader → ℕ → Reader
on_line r line = record r { line = line }

abbrev pub on_bus : Reader → State → Reader
on_bus r s = record r { state = s }

abbrev pub asking : Reader → Question → ℕ → Reader
asking r q d = record r { asked = true; question = q; depth = d }

-- "`nodes` first"
abbrev pub goes_on : Reader → Reader → Result Unit Fault → Reader
goes_on r t (Ok u) = t
goes_on r t (Err f) = stopped r f

-- the code's answer: the reader that it leaves, stopped where there is a fault
abbrev pub ended : Reader → Result Unit Fault → Reader
ended r (Ok u) = r
ended r (Err f) = stopped r f

unfoldable pub nodes_taken : Reader → ℕ → Reader
nodes_taken r m = goes_on r (on_bus r (fresh m)) (nodes_stage r.state.n m)

-- an action is played "as often as its line says", up to a refusal
abbrev pub repeated : ℕ → State → Action → Step.Result
repeated zero s a = record { number = N.accepted; report = Silent; state = s }
repeated (suc k) s a = cond (is_accepted (step s a)) (repeated k (step s a).state a) (refuses s (step s a).number)

-- the code's answer and the state that it leaves, as such a result
abbrev pub repeats : Result Unit Refusal → State → Step.Result
repeats r s = record { number = err_number r; report = Silent; state = s }

abbrev pub played_by : Reader → Step.Result → Reader
played_by r x = cond (is_accepted x) (on_bus r x.state) (stopped r (Refused x.number))

unfoldable pub action_taken : Reader → Action → ℕ → Reader
action_taken r a k = cond (eqb r.state.n 0) (stopped r NodesMissing) (played_by r (repeated k r.state a))

-- "then the numbers 14 and 4 are looked at, in this order" (12 never comes: the state is that of a run)
unfoldable pub question_taken : Reader → Question → ℕ → Reader
question_taken r q d =
    cond (eqb r.state.n 0) (stopped r NodesMissing)
    (cond (eqb (route_number r.state q d) N.accepted) (asking r q d)
    (stopped r (Refused (route_number r.state q d))))

-- a line of each sort. (No line of a question says what settings say.)
unfoldable pub statement_taken : Reader → Line → Reader
statement_taken r L.Blank = r
statement_taken r (L.Nodes m) = nodes_taken r m
statement_taken r (L.Acts a k) = action_taken r a k
statement_taken r (L.Actions k) = stopped r UnknownWord
statement_taken r (L.User i u) = stopped r UnknownWord
statement_taken r (L.Finds q d) = question_taken r q d

-- "Only blank lines and comments may follow the line `find`": another one "that says something"
abbrev pub says : Line → Bool
says L.Blank = false
says (L.Nodes m) = true
says (L.Acts a k) = true
says (L.Actions k) = true
says (L.User i u) = true
says (L.Finds q d) = true

-- and "is right by the grammar of the line alone"
unfoldable pub line_taken : Reader → Result Line Fault → Reader
line_taken r (Ok x) = cond (r.asked && says x) (stopped r AfterQuestion) (statement_taken r x)
line_taken r (Err f) = stopped r f

-- a line fed; a reader that has stopped takes none
unfoldable pub feed_of : Reader → List ℕ → Reader
feed_of r line = cond (is_some r.fault) r (line_taken (on_line r (counted r.line)) (line_of T.Question line))

-- the end of the text
unfoldable pub finish_of : Reader → Reader
finish_of r =
    cond (is_some r.fault) r
    (cond (eqb r.state.n 0) (stopped r NodesMissing)
    (cond r.asked r
    (stopped r NoQuestion)))
