-- One line of a run, of settings or of a question in plain words: its productions, over the words of the line.
use Rattle.std.specs.Prelude.{cond, not, List, [], ◌∷◌, ℕ, eqb, ltb, length, Some, Result, Ok, Err}
use Rattle.charts.specs.declared.Action.{Action}
use Rattle.charts.specs.declared.User.{User}
use Rattle.charts.specs.declared.Kind.{Kind}
use Rattle.charts.specs.declared.Kind.TheVariants as K
use Rattle.charts.specs.Kinds.{kind_number}
use Rattle.faults.specs.declared.Fault.{Fault}
use Rattle.faults.specs.declared.Fault.TheVariants.{UnknownWord, ExtraField, NoRepeat, LongLine}
use Rattle.words.specs.declared.Token.{Token}
use Rattle.words.specs.declared.Token.TheVariants.{Word}
use Rattle.words.specs.declared.Name.{Name}
use Rattle.words.specs.declared.Name.TheVariants as N
use Rattle.words.specs.Words.{tokens_of}
use Rattle.fields.specs.Fields.{Part, got, bad, is_word, byte, short, long, number_in, address_in, address_or_none, said_in, to_in, hold_in, report_in, depth_in}
use Rattle.notation.specs.declared.Text.{Text}
use Rattle.notation.specs.declared.Text.TheVariants.{Run, Settings, Question}
use Rattle.notation.specs.declared.Line.{Line}
use Rattle.notation.specs.declared.Line.TheVariants.{Blank, Nodes, Acts, Actions, Finds}
use Rattle.notation.specs.declared.Line.TheVariants as L

-- a field, and what its value and the words after it say; or what is wrong with it
abbrev pub after : {A : Type 0} → Part A → (A → List Token → Result Line Fault) → Result Line Fault
after (got x l) next = next x l
after (bad f) next = Err f

-- the end of a line
unfoldable pub last_of : Line → List Token → Result Line Fault
last_of r [] = Ok r
last_of r (t ∷ l) = Err ExtraField

-- "`pass * 6` repeats a line"; a repeat of 0 is none
abbrev pub times_of : Action → ℕ → List Token → Result Line Fault
times_of a k l = cond (eqb k 0) (Err NoRepeat) (last_of (Acts a k) l)

unfoldable pub repeat_of : Action → List Token → Result Line Fault
repeat_of a l = after (number_in long l) (times_of a)

unfoldable pub ending_of : Action → List Token → Result Line Fault
ending_of a [] = Ok (Acts a 1)
ending_of a (t ∷ l) = cond (is_word N.Times t) (repeat_of a l) (Err ExtraField)

-- an action record: "Fields that a kind doesn't name are 0"
abbrev pub record_of : ℕ → ℕ → ℕ → ℕ → ℕ → ℕ → ℕ → ℕ → Action
record_of kind node address ack hold label header datum =
    record { kind = kind; node = node; address = address; ack = ack; hold = hold; label = label; byte6 = 0; byte7 = 0; header = header; datum = datum }

-- "`request NODE ADDRESS HEADER DATA label LABEL`, the two last words optional (label 0)"
unfoldable pub request_of : List Token → Result Line Fault
request_of l =
    after (number_in byte l) λ node l1.
    after (address_in l1) λ address l2.
    after (number_in long l2) λ header l3.
    after (number_in long l3) λ datum l4.
    after (said_in N.Label l4) λ label l5.
    ending_of (record_of 1 node address 0 0 label header datum) l5

-- "`arbitrate 0`", "`clock 0`"; "`ask NODE`", "`decide NODE`"
unfoldable pub node_of : ℕ → List Token → Result Line Fault
node_of kind l =
    after (number_in byte l) λ node l1.
    ending_of (record_of kind node 0 0 0 0 0 0) l1

-- "`respond 1 1 hold` / `respond 1 1`": node, acknowledgement, hold
unfoldable pub respond_of : List Token → Result Line Fault
respond_of l =
    after (number_in byte l) λ node l1.
    after (number_in byte l1) λ ack l2.
    after (hold_in l2) λ hold l3.
    ending_of (record_of 3 node 0 ack hold 0 0 0) l3

-- "`change 2` / `change`"
unfoldable pub change_of : List Token → Result Line Fault
change_of l =
    after (address_or_none l) λ address l1.
    ending_of (record_of 7 0 address 0 0 0 0 0) l1

-- an action's line after its first word; "`pass`, `lose`, […] `grant`, `gap`, `reset`" have no field
unfoldable pub action_of : Kind → List Token → Result Line Fault
action_of K.Request l = request_of l
action_of K.Arbitrate l = node_of 2 l
action_of K.Respond l = respond_of l
action_of K.Clock l = node_of 4 l
action_of K.Change l = change_of l
action_of K.Ask l = node_of 11 l
action_of K.Decide l = node_of 12 l
action_of k l = ending_of (record_of (kind_number k) 0 0 0 0 0 0 0) l

-- "`nodes 3` first"
abbrev pub nodes_then : ℕ → List Token → Result Line Fault
nodes_then n l = last_of (Nodes n) l

unfoldable pub nodes_of : List Token → Result Line Fault
nodes_of l = after (number_in byte l) nodes_then

-- "actions = "actions" NUMBER": "the number of actions at most 65,535"
abbrev pub actions_then : ℕ → List Token → Result Line Fault
actions_then n l = last_of (Actions n) l

unfoldable pub actions_of : List Token → Result Line Fault
actions_of l = after (number_in short l) actions_then

-- a user by its settings
abbrev pub user_with : ℕ → ℕ → ℕ → ℕ → ℕ → User
user_with address spell fillers hold period = record { spell = spell; address = address; fillers = fillers; hold = not (eqb hold 0); period = period }

-- "user = "user" NODE [ "to" ADDRESS ] [ "spell" SPELL ] [ "fillers" FILLERS ] [ "hold" ] [ "lose" PERIOD ]": "The words of a user stand in this order."
unfoldable pub user_of : List Token → Result Line Fault
user_of l =
    after (number_in byte l) λ node l1.
    after (to_in l1) λ address l2.
    after (said_in N.Spell l2) λ spell l3.
    after (said_in N.Fillers l3) λ fillers l4.
    after (hold_in l4) λ hold l5.
    after (said_in (N.Kind K.Lose) l5) λ period l6.
    last_of (L.User node (user_with address spell fillers hold period)) l6

-- "find = "find" WORD NODE "within" DEPTH"
unfoldable pub find_of : List Token → Result Line Fault
find_of l =
    after (report_in l) λ word l1.
    after (number_in byte l1) λ node l2.
    after (depth_in l2) λ depth l3.
    last_of (Finds (record { word = word; node = node }) depth) l3

-- a line by its first word: of a run "blank | nodes | action", of settings "blank | nodes | actions | user", of a question that of a run or `find`
unfoldable pub named_of : Text → Name → List Token → Result Line Fault
named_of text N.Nodes l = nodes_of l
named_of Run (N.Kind k) l = action_of k l
named_of Question (N.Kind k) l = action_of k l
named_of Question N.Find l = find_of l
named_of Settings N.Actions l = actions_of l
named_of Settings N.User l = user_of l
named_of text k l = Err UnknownWord

abbrev pub begins_with : Text → Token → List Token → Result Line Fault
begins_with text (Word (Some k)) l = named_of text k l
begins_with text t l = Err UnknownWord

unfoldable pub said_by : Text → List Token → Result Line Fault
said_by text [] = Ok Blank
said_by text (t ∷ l) = begins_with text t l

-- a line "of at most 255 bytes"
unfoldable pub line_of : Text → List ℕ → Result Line Fault
line_of text line = cond (ltb 255 (length line)) (Err LongLine) (said_by text (tokens_of line))
