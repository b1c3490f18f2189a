-- The answer to a question as text: "the route as lines in plain words, or `none`, or the refusal".
use Rattle.std.specs.Prelude.{cond, List, [], ◌∷◌, ℕ, ltb, get_or, Option, Some, None, Result, Ok, Err}
use Rattle.charts.specs.declared.Action.{Action}
use Rattle.charts.specs.declared.Route.{Route}
use Rattle.charts.specs.Records.{blank}
use Rattle.transcript.specs.Lines.{line, texts_from}
use Rattle.transcript.specs.Printed.{action_line}
use Rattle.transcript.specs.Text.{ascii, decimal}

-- an answer holds six records at most; a line for each of them, as `list` prints it
abbrev pub held : ℕ → ℕ
held count = cond (ltb count 6) count 6

abbrev pub record_line : List Action → ℕ → List ℕ
record_line l k = action_line (get_or l k blank)

abbrev pub route_text : ℕ → List Action → List ℕ
route_text count l = texts_from (record_line l) (held count) 0

abbrev pub refused_text : ℕ → List ℕ
refused_text k = line (ascii "refused" ∷ decimal k ∷ [])

abbrev pub none_text : List ℕ
none_text = ascii "none\n"

unfoldable pub answer_text : Result (Option Route) ℕ → List ℕ
answer_text (Err k) = refused_text k
answer_text (Ok None) = none_text
answer_text (Ok (Some route)) = route_text route.count route.actions

-- the room that it finds, whatever its own length
abbrev pub room : ℕ
room = 384
