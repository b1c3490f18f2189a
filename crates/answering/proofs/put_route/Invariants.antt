use Prim.Native.Nat.{◌*◌, ◌≤◌}
use mathlib.Core.Path.{◌≡◌}
use lib.ListN.{length}
use Rattle.transcript.specs.Lines.{texts_from}
use Rattle.transcript.specs.Writer.{written}
use Rattle.answering.specs.Answering.{record_line}
use Rattle.answering.proofs.put_route.Given as goal

abbrev pub invariant-loop-a : goal.invariant-loop-a
invariant-loop-a l = (length (texts_from (record_line l.a-items) l.a-index 0) ≤ 64 * l.a-index) × (l.line ≡ written l.initial.line (texts_from (record_line l.a-items) l.a-index 0))
