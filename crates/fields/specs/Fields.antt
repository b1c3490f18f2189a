-- The fields of a line in plain words, over its words.
use Rattle.std.specs.Prelude.{Bool, false, cond, List, [], ◌∷◌, ℕ, ◌≤◌, eqb, leb, Option, None, Some, Result, Ok, Err}
use Rattle.charts.specs.Signals.{everybody}
use Rattle.charts.specs.declared.Word as Report
use Rattle.faults.specs.declared.Fault.{Fault}
use Rattle.faults.specs.declared.Fault.TheVariants.{UnknownWord, NotNumber, TooLarge, MissingField}
use Rattle.words.specs.declared.Cursor.{Cursor}
use Rattle.words.specs.declared.Name.{Name}
use Rattle.words.specs.declared.Name.TheVariants as N
use Rattle.words.specs.declared.Token.{Token}
use Rattle.words.specs.declared.Token.TheVariants.{Word, Number, Large}
use Rattle.words.specs.Names.{name_number}
use Rattle.words.specs.Cursors.{tokens_left}

-- what a production for a field gives: a value and the words after it, or what is wrong
pub data Part (A : Type 0) : Type 0 where
  got : A → List Token → Part A
  bad : Fault → Part A

-- the code's answer for a field in a line
abbrev pub seen : {A : Type 0} → List ℕ → Result (A × Cursor) Fault → Part A
seen line (Ok (x, c)) = got x (tokens_left line c.at)
seen line (Err f) = bad f

abbrev pub field_fits : ℕ → Result (ℕ × Cursor) Fault → Type 0
field_fits most (Ok (x, c)) = x ≤ most
field_fits most (Err f) = Unit

-- a name is told by its number; an unknown word is none
abbrev pub is_word : Name → Token → Bool
is_word k (Word None) = false
is_word k (Word (Some j)) = eqb (name_number j) (name_number k)
is_word k (Number x) = false
is_word k Large = false

-- the words after a word that may be said
abbrev pub after_word : Name → List Token → Option (List Token)
after_word k [] = None
after_word k (t ∷ l) = cond (is_word k t) (Some l) None

-- a number of at most `most`: "a number too large", "a missing […] field"
abbrev pub byte : ℕ
byte = 255

abbrev pub short : ℕ
short = 65535

abbrev pub long : ℕ
long = 4294967295

abbrev pub numeral : ℕ → Token → List Token → Part ℕ
numeral most (Word k) l = bad NotNumber
numeral most (Number x) l = cond (leb x most) (got x l) (bad TooLarge)
numeral most Large l = bad TooLarge

unfoldable pub number_in : ℕ → List Token → Part ℕ
number_in most [] = bad MissingField
number_in most (t ∷ l) = numeral most t l

-- "address or `all`": "Address 63 means all nodes"
abbrev pub address_at : Token → List Token → Part ℕ
address_at t l = cond (is_word N.All t) (got everybody l) (numeral byte t l)

unfoldable pub address_in : List Token → Part ℕ
address_in [] = bad MissingField
address_in (t ∷ l) = address_at t l

-- "`change 2` / `change`": without an address it is 0
unfoldable pub address_or_none : List Token → Part ℕ
address_or_none [] = got 0 []
address_or_none (t ∷ l) = cond (is_word N.Times t) (got 0 (t ∷ l)) (address_at t l)

-- an optional word and the value after it; without the word the value is 0
unfoldable pub option_in : Name → (List Token → Part ℕ) → List Token → Part ℕ
option_in k value [] = got 0 []
option_in k value (t ∷ l) = cond (is_word k t) (value l) (got 0 (t ∷ l))

-- "[ "label" LABEL ]", "[ "spell" SPELL ] [ "fillers" FILLERS ]", "[ "lose" PERIOD ]": "What is not said is 0"
abbrev pub said_in : Name → List Token → Part ℕ
said_in k l = option_in k (number_in byte) l

-- "[ "to" ADDRESS ]"
abbrev pub to_in : List Token → Part ℕ
to_in l = option_in N.To address_in l

-- "[ "hold" ]": 1, or 0 for release
abbrev pub hold_in : List Token → Part ℕ
hold_in l = option_in N.Hold (got 1) l

-- "WORD = "won" | "lost" | […] | "drop"": the names of the reports
abbrev pub report_at : Token → List Token → Part Report.Word
report_at (Word (Some (N.Report w))) l = got w l
report_at t l = bad UnknownWord

unfoldable pub report_in : List Token → Part Report.Word
report_in [] = bad MissingField
report_in (t ∷ l) = report_at t l

-- ""within" DEPTH": "something other than `within` after the node" is an unknown word
unfoldable pub depth_in : List Token → Part ℕ
depth_in [] = bad MissingField
depth_in (t ∷ l) = cond (is_word N.Within t) (number_in byte l) (bad UnknownWord)
