-- Request 2: "A program prints the table from the rules, a line for each mode in document 01's order (the good one of two first, new modes last): its cells in the order above".
use Rattle.std.specs.Prelude.{cond, List, [], ◌∷◌, ◌++◌, ℕ, ◌/◌, ◌%◌, eqb}
use Rattle.charts.specs.Table.{entry}
use Rattle.transcript.specs.Lines.{texts_from, cell_text}

-- what follows a cell of that class: a newline after the last of the 14, else a space
abbrev pub byte_after : ℕ → ℕ
byte_after c = cond (eqb c 13) 10 32

-- the text of the i-th cell, mode by mode; of all 25 × 14
abbrev pub cell_at : ℕ → List ℕ
cell_at i = cell_text (entry (i / 14) (i % 14)) ++ (byte_after (i % 14) ∷ [])

unfoldable pub table_text : List ℕ
table_text = texts_from cell_at 350 0
