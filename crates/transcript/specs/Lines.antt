-- "A run printed": the lines of text.
use Rattle.std.specs.Prelude.{Bool, cond, List, [], ◌∷◌, ◌++◌, ℕ, zero, suc, eqb}
use Rattle.charts.specs.declared.Reading.{Reading}
use Rattle.charts.specs.declared.Reading.TheVariants as Rd
use Rattle.charts.specs.declared.Report.{Report}
use Rattle.charts.specs.declared.Report.TheVariants.{Silent, Won, Lost, Sent, Acked, Miss, Drop, Good, Dcrc, Broad}
use Rattle.charts.specs.declared.Entry.{Entry}
use Rattle.charts.specs.Words as W
use Rattle.transcript.specs.Text.{ascii, decimal}

-- words as a line: a space between two, and a newline after the last
abbrev pub line : List (List ℕ) → List ℕ
line [] = 10 ∷ []
line (w ∷ []) = w ++ (10 ∷ [])
line (w ∷ v ∷ l) = w ++ (32 ∷ line (v ∷ l))

-- the texts of n numbers from i on, one after the other
abbrev pub texts_from : (ℕ → List ℕ) → ℕ → ℕ → List ℕ
texts_from f zero i = []
texts_from f (suc n) i = f i ++ texts_from f n (suc i)

-- the first word of a report by its number, `-` for none
abbrev pub first_word : ℕ → List ℕ
first_word w =
    cond (eqb w W.won) (ascii "won")
    (cond (eqb w W.lost) (ascii "lost")
    (cond (eqb w W.sent) (ascii "sent")
    (cond (eqb w W.acked) (ascii "ack")
    (cond (eqb w W.miss) (ascii "miss")
    (cond (eqb w W.drop) (ascii "drop")
    (cond (eqb w W.good) (ascii "good")
    (cond (eqb w W.dcrc) (ascii "dcrc")
    (cond (eqb w W.broad) (ascii "broad") (ascii "-")))))))))

-- request 4: "the name of the mode it left"
abbrev pub name_word : Reading → List ℕ
name_word Rd.Opened = ascii "Opened"
name_word Rd.Addressed = ascii "Addressed"
name_word Rd.HeadOwn = ascii "HeadOwn"
name_word Rd.HeadAll = ascii "HeadAll"
name_word Rd.BodyOwn = ascii "BodyOwn"
name_word Rd.BodyAll = ascii "BodyAll"
name_word Rd.TailOwn = ascii "TailOwn"
name_word Rd.TailAll = ascii "TailAll"

-- "`-` or node and report". Request 3: "The reports sent, ack, miss, good, dcrc and broad end with" their label; request 4: "drop and the name of the mode it left"
abbrev pub said : Report → List (List ℕ)
said Silent = first_word W.silent ∷ []
said (Won i) = decimal i ∷ first_word W.won ∷ []
said (Lost i) = decimal i ∷ first_word W.lost ∷ []
said (Sent i x) = decimal i ∷ first_word W.sent ∷ decimal x ∷ []
said (Acked i a x) = decimal i ∷ first_word W.acked ∷ decimal a ∷ decimal x ∷ []
said (Miss i x) = decimal i ∷ first_word W.miss ∷ decimal x ∷ []
said (Drop i m) = decimal i ∷ first_word W.drop ∷ name_word m ∷ []
said (Good i h d) = decimal i ∷ first_word W.good ∷ decimal h.header ∷ decimal d ∷ decimal h.label ∷ []
said (Dcrc i h) = decimal i ∷ first_word W.dcrc ∷ decimal h.header ∷ decimal h.label ∷ []
said (Broad i h d) = decimal i ∷ first_word W.broad ∷ decimal h.header ∷ decimal d ∷ decimal h.label ∷ []

-- "The player's line: index, kind, then `-` or node and report"
unfoldable pub line_of : ℕ → ℕ → Report → List ℕ
line_of index kind r = line (decimal index ∷ decimal kind ∷ said r)

unfoldable pub nodes_line : ℕ → List ℕ
nodes_line n = line (ascii "nodes" ∷ decimal n ∷ [])

unfoldable pub done_line : ℕ → List ℕ
done_line count = line (ascii "done" ∷ decimal count ∷ [])

-- "`refused`, the count accepted so far and the number"
unfoldable pub refused_line : ℕ → ℕ → List ℕ
refused_line count number = line (ascii "refused" ∷ decimal count ∷ decimal number ∷ [])

-- "the line's number and how many actions it says"
unfoldable pub span_line : ℕ → ℕ → List ℕ
span_line number times = line (decimal number ∷ decimal times ∷ [])

-- a cell of the chart's table, request 2: "the next mode's place from 0, the report's first word or `-`, and 1 or 0, with single spaces"
abbrev pub flag : Bool → ℕ
flag b = cond b 49 48

unfoldable pub cell_text : Entry → List ℕ
cell_text e = decimal e.place ++ (32 ∷ (first_word e.word ++ (32 ∷ flag e.pends ∷ [])))
