use mathlib.Core.List.{List}
use Prim.Native.Nat.{ℕ, ◌*◌, ◌-◌, ◌≤◌}
use Rattle.transcript.specs.Lines.{texts_from}
use Rattle.transcript.specs.Room.{Puts}
use Rattle.counting.specs.Rows.{line_for, counts_text}
use Rattle.counting.proofs.put_counts.Given as goal

-- whoever puts what is left from here on has put all lines
abbrev pub invariant-loop-k : goal.invariant-loop-k
invariant-loop-k l = (l.end ≤ 546 * l.k) × ((stop : ℕ) (last : List ℕ) → Puts l.out l.end (texts_from line_for (17 - l.k) l.k) stop last → Puts l.initial.out 0 counts_text stop last)
