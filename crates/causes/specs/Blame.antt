-- Which part of a line is to blame for its fault, and why.
use Rattle.std.specs.Prelude.{Bool, true, false, cond, not, ◌&&◌, ◌||◌, List, ℕ, zero, suc, ◌+◌, ◌-◌, ◌<◌, ◌≤◌, eqb, ltb, leb, length, take, drop, get_or, Option, Result, Ok, Err}
use Rattle.charts.specs.Numbers as N
use Rattle.faults.specs.declared.Fault.{Fault}
use Rattle.faults.specs.declared.Fault.TheVariants as F
use Rattle.faults.specs.declared.Cause.{Cause}
use Rattle.faults.specs.declared.Cause.TheVariants as C
use Rattle.notation.specs.declared.Text.{Text}
use Rattle.notation.specs.declared.Text.TheVariants.{Run, Settings, Question}
use Rattle.notation.specs.declared.Line.{Line}
use Rattle.notation.specs.declared.Line.TheVariants.{Nodes, Acts, Finds}
use Rattle.notation.specs.declared.Line.TheVariants as L
use Rattle.causes.specs.declared.Blamed.{Blamed}
use Rattle.causes.specs.declared.Span.{Span}
use Rattle.words.specs.declared.Name.{Name}
use Rattle.words.specs.Names.{word_number}
use Rattle.words.specs.Words.{is_blank, is_hash, name_of, kind_of}
use Rattle.notation.specs.Grammar.{line_of}

-- "The line ends where a field should stand."
abbrev pub is_missing : Fault → Bool
is_missing F.MissingField = true
is_missing f = false

-- "wrong already", whatever follows: what misses a field may still get it
unfoldable pub is_wrong : Result Line Fault → Bool
is_wrong (Ok x) = false
is_wrong (Err f) = not (is_missing f)

-- a word ends with the byte at a place: that is no blank, and the line ends after it or a blank follows
unfoldable pub ends_with : List ℕ → ℕ → Bool
ends_with line i = not (is_blank (get_or line i 0)) && (leb (length line) (i + 1) || is_blank (get_or line (i + 1) 0))

-- what may stand at a place: a comment's `#`, a blank, a byte of a word, a `*`, the last byte of a word with which "the line is wrong already" as a line of that text
abbrev pub hash_at : List ℕ → ℕ → Bool
hash_at line i = is_hash (get_or line i 0)

abbrev pub blank_at : List ℕ → ℕ → Bool
blank_at line i = is_blank (get_or line i 0)

abbrev pub text_at : List ℕ → ℕ → Bool
text_at line i = not (is_blank (get_or line i 0))

abbrev pub star_at : List ℕ → ℕ → Bool
star_at line i = eqb (get_or line i 0) 42

unfoldable pub fatal_at : Text → List ℕ → ℕ → Bool
fatal_at text line i = ends_with line i && is_wrong (line_of text (take (i + 1) line))

-- the first such place from i on, in k places, or the place after them
abbrev pub first_from : (ℕ → Bool) → ℕ → ℕ → ℕ
first_from p zero i = i
first_from p (suc k) i = cond (p i) i (first_from p k (suc i))

unfoldable pub first_in : (ℕ → Bool) → ℕ → ℕ
first_in p n = first_from p n 0

-- the place after the last such place before a place, or 0
abbrev pub after_last : (ℕ → Bool) → ℕ → ℕ
after_last p zero = 0
after_last p (suc i) = cond (p i) (suc i) (after_last p i)

-- the same by the answers that a test may give at each place
abbrev pub IsFirst : (ℕ → Bool → Type 0) → ℕ → ℕ → Type 0
IsFirst P n r = ((k : ℕ) → k < r → P k false) × (r < n → P r true)

abbrev pub IsAfterLast : (ℕ → Bool → Type 0) → ℕ → ℕ → Type 0
IsAfterLast P n r = ((k : ℕ) → r ≤ k → k < n → P k false) × (0 < r → P (r - 1) true)

-- how many words end before a place
abbrev pub words_before : List ℕ → ℕ → ℕ
words_before line zero = 0
words_before line (suc i) = cond (ends_with line i) (suc (words_before line i)) (words_before line i)

abbrev pub span : ℕ → ℕ → Span
span from to = record { from = from; to = to }

-- "WORD is the first word with which the line is wrong already."
unfoldable pub word_in : Text → List ℕ → Span
word_in text line =
    cond (ltb (first_in (fatal_at text line) (length line)) (length line))
    (span (after_last (blank_at line) (first_in (fatal_at text line) (length line))) (first_in (fatal_at text line) (length line) + 1))
    (span 0 0)

-- "STATEMENT is the line from its first word to its last"
unfoldable pub statement_in : List ℕ → Span
statement_in line =
    cond (ltb (first_in (text_at line) (length line)) (length line)) (span (first_in (text_at line) (length line)) (after_last (text_at line) (length line))) (span 0 0)

-- what a refusal by number k is about
unfoldable pub refusal_of : ℕ → ℕ → Result Line Fault → Cause
refusal_of n k (Ok (Nodes m)) = cond (eqb k N.wrong_size) C.Size C.Plain
refusal_of n k (Ok (Acts a t)) =
    cond (eqb k N.wrong_node) (C.Node a.node n)
    (cond (eqb k N.wrong_address) (C.Address a.address n)
    (cond (eqb k N.wrong_label) (C.Label a.label)
    (cond (eqb k N.to_itself) (C.Own a.node)
    (cond (eqb k N.wrong_answer) (C.Ack a.ack)
    (cond (eqb k N.not_open) C.Closed
    C.Plain)))))
refusal_of n k (Ok (L.User i u)) =
    cond (eqb k N.wrong_node) (C.Node i n)
    (cond (eqb k N.wrong_address) (C.Address u.address n)
    (cond (eqb k N.to_itself) (C.Own i)
    C.Plain))
refusal_of n k (Ok (Finds q d)) =
    cond (eqb k N.too_deep) C.Depth
    (cond (eqb k N.wrong_node) (C.Node q.node n)
    C.Plain)
refusal_of n k x = C.Plain

abbrev pub blamed : Cause → Span → Blamed
blamed cause s = record { cause = cause; from = s.from; to = s.to }

-- the name of the last word before byte i
abbrev pub last_word : List ℕ → ℕ → List ℕ
last_word line to = take (to - after_last (blank_at line) to) (drop (after_last (blank_at line) to) line)

abbrev pub name_before : List ℕ → ℕ → Option Name
name_before line i = name_of (last_word line (after_last (text_at line) i))

-- the field that begins at byte i is named in a run and a question by the line's first word and the field's place, in settings by the word that stands before it
unfoldable pub named_at : Text → List ℕ → ℕ → ℕ
named_at Run line i = word_number (kind_of line)
named_at Settings line i = word_number (name_before line i)
named_at Question line i = word_number (kind_of line)

-- that place: how many words stand before it, or 0 for "what follows a `*`". (That is so where the last byte of text before i is a `*`: a longer word that ends in one is wrong
-- already, and is itself to blame.)
unfoldable pub place_in_line : List ℕ → ℕ → ℕ
place_in_line line i = cond (eqb (after_last (star_at line) i) (after_last (text_at line) i)) 0 (words_before line i)

unfoldable pub place_at : Text → List ℕ → ℕ → ℕ
place_at Run line i = place_in_line line i
place_at Settings line i = 1
place_at Question line i = place_in_line line i

-- the cause by the table of "What can be wrong", for a line without its comment
unfoldable pub blame_in : Text → ℕ → List ℕ → Fault → Blamed
blame_in text n line F.UnknownWord = blamed C.Quoted (word_in text line)
blame_in text n line F.NotNumber = blamed (C.Field (named_at text line (word_in text line).from) (place_at text line (word_in text line).from)) (word_in text line)
blame_in text n line F.TooLarge = blamed (C.Large (named_at text line (word_in text line).from) (place_at text line (word_in text line).from)) (word_in text line)
blame_in text n line F.MissingField = blamed (C.Missing (named_at text line (length line)) (place_at text line (length line))) (span 0 0)
blame_in text n line F.ExtraField = blamed C.Quoted (word_in text line)
blame_in text n line (F.Refused k) = blamed (refusal_of n k (line_of text line)) (statement_in line)
blame_in text n line f = blamed C.Plain (span 0 0)

-- a line over 255 bytes is only too long
unfoldable pub blame_of : Text → ℕ → List ℕ → Fault → Blamed
blame_of text n line f = cond (ltb 255 (length line)) (blamed C.Plain (span 0 0)) (blame_in text n (take (first_in (hash_at line) (length line)) line) f)
