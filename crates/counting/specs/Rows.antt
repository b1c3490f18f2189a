-- Request 7: the rows that are made of counts, and their text.
use Rattle.std.specs.Prelude.{cond, List, ℕ, ◌/◌, ◌%◌, leb, get_or, replicate}
use Rattle.charts.specs.Table.{entry}
use Rattle.charts.specs.State.{total}
use Rattle.charts.specs.Sequences.{row}
use Rattle.transcript.specs.Lines.{texts_from}
use Rattle.figures.specs.Figures.{figures_line}

-- the place to which the i-th cell of the table leads, mode by mode
abbrev pub place_at : ℕ → ℕ
place_at i = (entry (i / 14) (i % 14)).place

-- what a row adds up to
unfoldable pub sum_of : List ℕ → ℕ
sum_of l = total (λ p. get_or l p 0) 25

-- the row of k, "for each length k from 0 to 16". Past that no row is made: 25 zeros, which no row is, since each adds up to 14 to the power k
unfoldable pub row_made : ℕ → List ℕ
row_made k = cond (leb k 16) (row k) (replicate 25 0)

-- "print on a line, with single spaces, k and how many leave it in each of the 25 modes, in the table's order"; the lines of all 17 lengths
abbrev pub line_for : ℕ → List ℕ
line_for k = figures_line k (row k)

unfoldable pub counts_text : List ℕ
counts_text = texts_from line_for 17 0
