-- The words of a line, and what each of them is.
use Rattle.std.specs.Prelude.{Bool, cond, ◌&&◌, ◌||◌, List, [], ◌∷◌, ◌++◌, ℕ, ◌+◌, ◌*◌, ◌-◌, eqb, ltb, length, drop, get_or, Option, None, Some}
use Rattle.std.specs.Borrow.{Bor}
use Rattle.std.specs.Str.{bytes_eq}
use Rattle.transcript.specs.Text.{ascii}
use Rattle.charts.specs.declared.Kind.TheVariants as K
use Rattle.charts.specs.declared.Word.TheVariants as R
use Rattle.words.specs.declared.Name.{Name}
use Rattle.words.specs.declared.Name.TheVariants.{Kind, Nodes, All, Hold, Times, Label, Actions, User, To, Spell, Fillers, Find, Within, Report}
use Rattle.words.specs.declared.Token.{Token}
use Rattle.words.specs.declared.Token.TheVariants.{Word, Number, Large}

-- "blank lines and extra spaces are fine": space, tab and carriage return
abbrev pub is_blank : ℕ → Bool
is_blank b = eqb b 32 || (eqb b 9 || eqb b 13)

-- "`#` to the end of the line is a comment"
abbrev pub is_hash : ℕ → Bool
is_hash b = eqb b 35

abbrev pub ends_word : ℕ → Bool
ends_word b = is_blank b || is_hash b

-- the words of a line, its first bytes being the word w under way
abbrev pub with_word : List ℕ → List (List ℕ) → List (List ℕ)
with_word [] l = l
with_word (b ∷ w) l = (b ∷ w) ∷ l

abbrev pub words_from : List ℕ → List ℕ → List (List ℕ)
words_from w [] = with_word w []
words_from w (b ∷ l) =
    cond (is_blank b) (with_word w (words_from [] l))
    (cond (is_hash b) (with_word w [])
    (words_from (w ++ (b ∷ [])) l))

abbrev pub words_of : List ℕ → List (List ℕ)
words_of line = words_from [] line

-- document 01's words of the ten kinds and the two of request 6, in the order of the kinds; then the five other words of runs, the five that settings alone have, and the eleven
-- that questions alone have: `find`, `within` and the words of the reports, in the order of their numbers
abbrev pub names : List (List ℕ × Name)
names =
    (ascii "request", Kind K.Request) ∷ (ascii "arbitrate", Kind K.Arbitrate) ∷ (ascii "respond", Kind K.Respond) ∷ (ascii "clock", Kind K.Clock)
    ∷ (ascii "pass", Kind K.Pass) ∷ (ascii "lose", Kind K.Lose) ∷ (ascii "change", Kind K.Change) ∷ (ascii "grant", Kind K.Grant)
    ∷ (ascii "gap", Kind K.Gap) ∷ (ascii "reset", Kind K.Reset) ∷ (ascii "ask", Kind K.Ask) ∷ (ascii "decide", Kind K.Decide) ∷ (ascii "nodes", Nodes)
    ∷ (ascii "all", All) ∷ (ascii "hold", Hold) ∷ (ascii "*", Times) ∷ (ascii "label", Label) ∷ (ascii "actions", Actions) ∷ (ascii "user", User)
    ∷ (ascii "to", To) ∷ (ascii "spell", Spell) ∷ (ascii "fillers", Fillers) ∷ (ascii "find", Find) ∷ (ascii "within", Within)
    ∷ (ascii "won", Report R.Won) ∷ (ascii "lost", Report R.Lost) ∷ (ascii "sent", Report R.Sent) ∷ (ascii "ack", Report R.Ack)
    ∷ (ascii "miss", Report R.Miss) ∷ (ascii "drop", Report R.Drop) ∷ (ascii "good", Report R.Good) ∷ (ascii "dcrc", Report R.Dcrc)
    ∷ (ascii "broad", Report R.Broad) ∷ []

-- the name that a word stands for in a table of names
abbrev pub named_in : List (List ℕ × Name) → List ℕ → Option Name
named_in [] w = None
named_in ((v, k) ∷ l) w = cond (bytes_eq w v) (Some k) (named_in l w)

-- the code's table of names, with its texts
abbrev pub texts : List (Bor (List ℕ) × Name) → List (List ℕ × Name)
texts [] = []
texts (x ∷ l) = (x.0.now, x.1) ∷ texts l

unfoldable pub name_of : List ℕ → Option Name
name_of w = named_in names w

-- "Numbers decimal or 0x hexadecimal": a byte's digit, 16 for a byte that is none
unfoldable pub digit_of : ℕ → ℕ
digit_of b =
    cond (ltb b 48) 16
    (cond (ltb b 58) (b - 48)
    (cond (ltb b 65) 16
    (cond (ltb b 71) (b - 55)
    (cond (ltb b 97) 16
    (cond (ltb b 103) (b - 87)
    16)))))

-- the numbers of 32 bits are below it; it stands for every larger number
abbrev pub limit : ℕ
limit = 4294967296

abbrev pub capped : ℕ → ℕ
capped x = cond (ltb x limit) x limit

abbrev pub value_of : ℕ → Token
value_of x = cond (ltb x limit) (Number x) Large

-- what digits of a base are, after digits with the value x; a word with another byte is no number and unknown
abbrev pub digits_from : ℕ → ℕ → List ℕ → Token
digits_from base x [] = value_of x
digits_from base x (b ∷ l) = cond (ltb (digit_of b) base) (digits_from base (capped (x * base + digit_of b)) l) (Word None)

unfoldable pub digits_of : ℕ → List ℕ → Token
digits_of base l = digits_from base 0 l

-- "after `0x` or `0X`, hexadecimal"; `0x` alone is no number
abbrev pub hex_of : List ℕ → Token
hex_of w = cond (ltb 2 (length w)) (digits_of 16 (drop 2 w)) (Word None)

abbrev pub is_hex : List ℕ → Bool
is_hex w = eqb (get_or w 0 0) 48 && (eqb (get_or w 1 0) 120 || eqb (get_or w 1 0) 88)

-- a word that begins with a digit is a number
unfoldable pub token_of : List ℕ → Token
token_of w =
    cond (ltb (digit_of (get_or w 0 0)) 10)
    (cond (is_hex w) (hex_of w) (digits_of 10 w))
    (Word (name_of w))

abbrev pub tokens_of_words : List (List ℕ) → List Token
tokens_of_words [] = []
tokens_of_words (w ∷ l) = token_of w ∷ tokens_of_words l

unfoldable pub tokens_of : List ℕ → List Token
tokens_of line = tokens_of_words (words_of line)

-- the name of a line's first word
abbrev pub kind_in : List Token → Option Name
kind_in [] = None
kind_in (Word k ∷ l) = k
kind_in (Number x ∷ l) = None
kind_in (Large ∷ l) = None

abbrev pub kind_of : List ℕ → Option Name
kind_of line = kind_in (tokens_of line)
