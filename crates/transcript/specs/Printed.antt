-- One line for an action, as `list` prints it.
use Rattle.std.specs.Prelude.{cond, List, [], ◌∷◌, ℕ, eqb}
use Rattle.charts.specs.Signals.{everybody}
use Rattle.charts.specs.declared.Action.{Action}
use Rattle.transcript.specs.Text.{ascii, decimal}
use Rattle.transcript.specs.Lines.{line}

-- "address or `all`"
unfoldable pub address_word : ℕ → List ℕ
address_word address = cond (eqb address everybody) (ascii "all") (decimal address)

-- "`respond 1 1 hold` / `respond 1 1`"
abbrev pub hold_word : ℕ → List (List ℕ)
hold_word hold = cond (eqb hold 0) [] (ascii "hold" ∷ [])

-- "`change 2` / `change`"
abbrev pub change_word : ℕ → List (List ℕ)
change_word address = cond (eqb address 0) [] (address_word address ∷ [])

-- "the two last words optional (label 0)", and written "where the label is not 0"
abbrev pub label_words : ℕ → List (List ℕ)
label_words label = cond (eqb label 0) [] (ascii "label" ∷ decimal label ∷ [])

-- "`request NODE ADDRESS HEADER DATA label LABEL`" (address or `all`)
abbrev pub request_words : Action → List (List ℕ)
request_words a = ascii "request" ∷ decimal a.node ∷ address_word a.address ∷ decimal a.header ∷ decimal a.datum ∷ label_words a.label

abbrev pub respond_words : Action → List (List ℕ)
respond_words a = ascii "respond" ∷ decimal a.node ∷ decimal a.ack ∷ hold_word a.hold

-- words that end a line, after its first word
abbrev pub line_after : List (List ℕ) → List ℕ
line_after [] = 10 ∷ []
line_after (w ∷ l) = 32 ∷ line (w ∷ l)

-- an action's words: its kind and the fields that the kind names; a record of another kind has none
unfoldable pub words_for : Action → List (List ℕ)
words_for a =
    cond (eqb a.kind 1) (request_words a)
    (cond (eqb a.kind 2) (ascii "arbitrate" ∷ decimal a.node ∷ [])
    (cond (eqb a.kind 3) (respond_words a)
    (cond (eqb a.kind 4) (ascii "clock" ∷ decimal a.node ∷ [])
    (cond (eqb a.kind 5) (ascii "pass" ∷ [])
    (cond (eqb a.kind 6) (ascii "lose" ∷ [])
    (cond (eqb a.kind 7) (ascii "change" ∷ change_word a.address)
    (cond (eqb a.kind 8) (ascii "grant" ∷ [])
    (cond (eqb a.kind 9) (ascii "gap" ∷ [])
    (cond (eqb a.kind 10) (ascii "reset" ∷ [])
    (cond (eqb a.kind 11) (ascii "ask" ∷ decimal a.node ∷ [])
    (cond (eqb a.kind 12) (ascii "decide" ∷ decimal a.node ∷ [])
    [])))))))))))

unfoldable pub action_line : Action → List ℕ
action_line a = line (words_for a)
