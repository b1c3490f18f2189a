use mathlib.Core.Path.{◌≡◌}
use lib.ListN.{take}
use Rattle.transcript.specs.Writer.{written}
use Rattle.transcript.proofs.writer.Line.word.Given as goal

abbrev pub invariant-loop-b : goal.invariant-loop-b
invariant-loop-b l = l.self ≡ written l.initial.self (take l.b-index l.w)
