use mathlib.Core.Path.{◌≡◌}
use lib.ListN.{take}
use Rattle.transcript.specs.Writer.{written}
use Rattle.faults.specs.Faults.{shown_bytes}
use Rattle.faults.proofs.words.put_shown_bytes.Given as goal

abbrev pub invariant-loop-b : goal.invariant-loop-b
invariant-loop-b l = l.line ≡ written l.initial.line (shown_bytes (take l.b-index l.w))
