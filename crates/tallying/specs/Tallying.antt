-- The tally of a load trial as text: "one word and its number a line, in this order".
use Rattle.std.specs.Prelude.{List, [], ◌∷◌, ◌++◌, ℕ}
use Rattle.charts.specs.declared.Tally.{Tally}
use Rattle.transcript.specs.Lines.{line}
use Rattle.transcript.specs.Text.{ascii, decimal}

abbrev pub count_line : List ℕ → ℕ → List ℕ
count_line word x = line (word ∷ decimal x ∷ [])

unfoldable pub tally_text : Tally → List ℕ
tally_text t =
    count_line (ascii "requests") t.requests
    ++ (count_line (ascii "wins") t.wins
    ++ (count_line (ascii "sent") t.sent
    ++ (count_line (ascii "ack") t.acks
    ++ (count_line (ascii "miss") t.misses
    ++ count_line (ascii "drops") t.drops))))

-- the room that it finds, whatever its own length
abbrev pub room : ℕ
room = 240
