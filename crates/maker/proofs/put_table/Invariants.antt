use mathlib.Core.List.{List}
use Prim.Native.Nat.{ℕ, ◌*◌, ◌-◌, ◌≤◌}
use Rattle.transcript.specs.Lines.{texts_from}
use Rattle.transcript.specs.Room.{Puts}
use Rattle.maker.specs.Printed.{cell_at, table_text}
use Rattle.maker.proofs.put_table.Given as goal

-- whoever puts what is left from here on has put the table
abbrev pub invariant-loop-k : goal.invariant-loop-k
invariant-loop-k l = (l.end ≤ 12 * l.k) × ((stop : ℕ) (last : List ℕ) → Puts l.out l.end (texts_from cell_at (350 - l.k) l.k) stop last → Puts l.initial.out 0 table_text stop last)
