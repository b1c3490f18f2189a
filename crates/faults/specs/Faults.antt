-- What `compose` says of a fault, and why: "What can be wrong".
use Rattle.std.specs.Prelude.{Bool, false, cond, ◌&&◌, ◌||◌, List, [], ◌∷◌, ◌++◌, ℕ, ◌+◌, ◌-◌, ◌/◌, ◌%◌, eqb, ltb, length, take, get_or}
use Rattle.std.specs.List.{list_any}
use Rattle.faults.specs.declared.Fault.{Fault}
use Rattle.faults.specs.declared.Fault.TheVariants as F
use Rattle.faults.specs.declared.Cause.{Cause}
use Rattle.faults.specs.declared.Cause.TheVariants as C
use Rattle.faults.specs.declared.words.Field.{Field}
use Rattle.faults.specs.declared.words.Field.TheVariants as W
use Rattle.transcript.specs.Text.{ascii, decimal}

-- what is wrong, in words; its number for what the writer would refuse
unfoldable pub fault_words : Fault → List ℕ
fault_words F.UnknownWord = ascii "unknown word"
fault_words F.NotNumber = ascii "not a number"
fault_words F.TooLarge = ascii "number too large"
fault_words F.MissingField = ascii "missing field"
fault_words F.ExtraField = ascii "extra field"
fault_words F.NoRepeat = ascii "repeat of 0"
fault_words F.LongLine = ascii "line over 255 bytes"
fault_words F.NodesMissing = ascii "no nodes line"
fault_words F.NodesAgain = ascii "a second nodes line"
fault_words F.NoUser = ascii "no user 0 line"
fault_words F.NoAction = ascii "no action"
fault_words F.TooMany = ascii "too many actions"
fault_words F.NoQuestion = ascii "no find line"
fault_words F.AfterQuestion = ascii "a line after find"
fault_words (F.Refused k) = ascii "refused " ++ decimal k

-- "`\x` and two hexadecimal digits (`\xC2`)"
abbrev pub hex_digit : ℕ → ℕ
hex_digit d = cond (ltb d 10) (48 + d) (55 + d)

abbrev pub escaped : ℕ → List ℕ
escaped b = 92 ∷ 120 ∷ hex_digit (b / 16) ∷ hex_digit (b % 16) ∷ []

-- "32 to 126 as they are, a tab or carriage return as a space, any other as `\x` […]"
unfoldable pub shown_byte : ℕ → List ℕ
shown_byte b =
    cond (eqb b 9) (32 ∷ [])
    (cond (eqb b 13) (32 ∷ [])
    (cond (ltb b 32) (escaped b)
    (cond (ltb b 127) (b ∷ [])
    (escaped b))))

abbrev pub shown_bytes : List ℕ → List ℕ
shown_bytes [] = []
shown_bytes (b ∷ l) = shown_byte b ++ shown_bytes l

-- "Of one that is longer than 64 bytes the first 64 are printed and then `..`"
unfoldable pub shown : List ℕ → List ℕ
shown w = cond (ltb 64 (length w)) (shown_bytes (take 64 w) ++ ascii "..") (shown_bytes w)

-- "a byte below 32, or 127"
abbrev pub is_control : ℕ → Bool
is_control b = ltb b 32 || eqb b 127

abbrev pub has_control : List ℕ → Bool
has_control w = list_any is_control w

-- "the bytes C2 A0", one after the other
abbrev pub has_no_break : List ℕ → Bool
has_no_break [] = false
has_no_break (b ∷ l) = (eqb b 194 && eqb (get_or l 0 0) 160) || has_no_break l

-- "a `*`"
abbrev pub has_star : List ℕ → Bool
has_star w = list_any (λ b. eqb b 42) w

-- "Right after the closing quote of a WORD […] follows where one of these holds of the whole word the first of them"
unfoldable pub hint : List ℕ → List ℕ
hint w =
    cond (has_control w) (ascii " (no plain text: UTF-16, or a binary file)")
    (cond (has_no_break w) (ascii " (a no-break space: write a plain one)")
    (cond (has_star w && ltb 1 (length w)) (ascii " (write spaces around *)")
    []))

abbrev pub quoted : List ℕ → List ℕ
quoted w = ascii "\"" ++ (shown w ++ (ascii "\"" ++ hint w))

-- the field of an action that has one alone
abbrev pub of_first : ℕ → Field → Field
of_first place field = cond (eqb place 1) field W.Count

-- which field stands at a place of an action's line (1 is the place after its first word; 0 is what follows a `*`).
-- The fields of settings go by the name before them: `actions`, `user`, `to`, `spell`, `fillers` are 18 to 22, `lose` is 6.
-- `find` is 23: "`the depth of find`, also where `within` is missing"
unfoldable pub field_of : ℕ → ℕ → Field
field_of kind place =
    cond (eqb kind 1) (cond (eqb place 1) W.RequestNode (cond (eqb place 2) W.RequestAddress (cond (eqb place 3) W.Header (cond (eqb place 4) W.Data (cond (eqb place 6) W.RequestLabel W.Count)))))
    (cond (eqb kind 2) (of_first place W.ArbitrateNode)
    (cond (eqb kind 3) (cond (eqb place 1) W.RespondNode (cond (eqb place 2) W.Acknowledgement W.Count))
    (cond (eqb kind 4) (of_first place W.ClockNode)
    (cond (eqb kind 6) (of_first place W.Period)
    (cond (eqb kind 7) (of_first place W.ChangeAddress)
    (cond (eqb kind 11) (of_first place W.AskNode)
    (cond (eqb kind 12) (of_first place W.DecideNode)
    (cond (eqb kind 13) (of_first place W.Nodes)
    (cond (eqb kind 18) (of_first place W.Actions)
    (cond (eqb kind 19) (of_first place W.UserNode)
    (cond (eqb kind 20) (of_first place W.UserAddress)
    (cond (eqb kind 21) (of_first place W.Spell)
    (cond (eqb kind 22) (of_first place W.Fillers)
    (cond (eqb kind 23) (cond (eqb place 1) W.FindReport (cond (eqb place 2) W.FindNode W.FindDepth))
    W.Count))))))))))))))

-- of a question "`the report of find`, `the node of find`, or `the depth of find`"
unfoldable pub question_words : Field → List ℕ
question_words W.FindReport = ascii "the report of find"
question_words W.FindNode = ascii "the node of find"
question_words _ = ascii "the depth of find"

-- of settings "THE FIELD is `the number of nodes`, `the number of actions`, […] or `the period of user`"
unfoldable pub setting_words : Field → List ℕ
setting_words W.Actions = ascii "the number of actions"
setting_words W.UserNode = ascii "the node of user"
setting_words W.UserAddress = ascii "the address of user"
setting_words W.Spell = ascii "the spell of user"
setting_words W.Fillers = ascii "the fillers of user"
setting_words W.Period = ascii "the period of user"
setting_words field = question_words field

-- "THE FIELD is `the node of clock`, […] or for what follows a `*` `the count after *`."
unfoldable pub field_words : Field → List ℕ
field_words W.Count = ascii "the count after *"
field_words W.Header = ascii "the header of request"
field_words W.Data = ascii "the data of request"
field_words W.RequestNode = ascii "the node of request"
field_words W.RequestAddress = ascii "the address of request"
field_words W.RequestLabel = ascii "the label of request"
field_words W.ArbitrateNode = ascii "the node of arbitrate"
field_words W.RespondNode = ascii "the node of respond"
field_words W.Acknowledgement = ascii "the acknowledgement of respond"
field_words W.ClockNode = ascii "the node of clock"
field_words W.ChangeAddress = ascii "the address of change"
field_words W.AskNode = ascii "the node of ask"
field_words W.DecideNode = ascii "the node of decide"
field_words W.Nodes = ascii "the number of nodes"
field_words field = setting_words field

-- "`, at most ` 255 or 4294967295"; of settings "255 or 65535"
abbrev pub most_words : Field → List ℕ
most_words W.Count = ascii ", at most 4294967295"
most_words W.Header = ascii ", at most 4294967295"
most_words W.Data = ascii ", at most 4294967295"
most_words W.Actions = ascii ", at most 65535"
most_words _ = ascii ", at most 255"

-- "`"WORD", ` THE FIELD"
abbrev pub word_of : List ℕ → Field → List ℕ
word_of w field = ascii ": " ++ (quoted w ++ (ascii ", " ++ field_words field))

-- "STATEMENT `: a bus has 2 to 63 nodes`", and so for what is not open and what is too deep
abbrev pub said_of : List ℕ → List ℕ → List ℕ
said_of w what = ascii ": " ++ (shown w ++ what)

-- "STATEMENT `: no node ` the node", and so for an address, a label, a node that would send to itself and an acknowledgement
abbrev pub said_with : List ℕ → List ℕ → ℕ → List ℕ
said_with w what x = said_of w what ++ decimal x

-- the table's second column, w being the WORD or STATEMENT
unfoldable pub cause_words : Cause → List ℕ → List ℕ
cause_words C.Plain w = []
cause_words C.Quoted w = ascii ": " ++ quoted w
cause_words (C.Field kind place) w = word_of w (field_of kind place)
cause_words (C.Large kind place) w = word_of w (field_of kind place) ++ most_words (field_of kind place)
cause_words (C.Missing kind place) w = ascii ": " ++ field_words (field_of kind place)
cause_words C.Size w = said_of w (ascii ": a bus has 2 to 63 nodes")
cause_words (C.Node node n) w = said_with w (ascii ": no node ") node ++ (ascii ", nodes are 0 to " ++ decimal (n - 1))
cause_words (C.Address address n) w = said_with w (ascii ": no address ") address ++ (ascii ", addresses are 0 to " ++ (decimal (n - 1) ++ ascii " and all"))
cause_words (C.Label label) w = said_with w (ascii ": no label ") label ++ ascii ", labels are 0 to 63"
cause_words (C.Own node) w = said_with w (ascii ": node ") node ++ ascii " would send to itself"
cause_words (C.Ack ack) w = said_with w (ascii ": no acknowledgement ") ack ++ ascii ", they are 0 to 15"
cause_words C.Closed w = said_of w (ascii ": not open when its turn comes")
cause_words C.Depth w = said_of w (ascii ": a route has at most 6 actions, on a bus of at most 8 nodes")

-- "`line K: `, what is wrong […] and, where more can be said, a colon, a space and the cause"
unfoldable pub fault_line : ℕ → Fault → Cause → List ℕ → List ℕ
fault_line number f cause w = ascii "line " ++ (decimal number ++ (ascii ": " ++ (fault_words f ++ (cause_words cause w ++ (10 ∷ [])))))

-- the room that the line of a fault finds, whatever its own length
abbrev pub longest : ℕ
longest = 512
