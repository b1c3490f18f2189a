-- What every reader of a text does: it counts the lines, and takes the `nodes` line.
use Rattle.std.specs.Prelude.{cond, not, ℕ, zero, suc, ◌+◌, eqb, ltb, Result, Ok, Err}
use Rattle.charts.specs.Numbers as N
use Rattle.charts.specs.Valid.{is_size}
use Rattle.faults.specs.declared.Fault.{Fault}
use Rattle.faults.specs.declared.Fault.TheVariants.{NodesAgain, Refused}

-- lines are counted from 1; the count stops at the largest number of 64 bits
abbrev pub counted : ℕ → ℕ
counted line = cond (ltb line 18446744073709551615) (line + 1) line

-- the number that is shown for line i
abbrev pub line_shown : ℕ → ℕ
line_shown zero = 0
line_shown (suc i) = counted (line_shown i)

-- "`nodes 3` first": once (n is 0 before it), and 1 refuses its number m
unfoldable pub nodes_stage : ℕ → ℕ → Result Unit Fault
nodes_stage n m = cond (not (eqb n 0)) (Err NodesAgain) (cond (not (is_size m)) (Err (Refused N.wrong_size)) (Ok tt))
