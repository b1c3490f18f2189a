use Rattle.words.specs.Words.{words_from}
use lib.ListN.{take, drop}
use Prim.Native.Nat.{◌-◌}
use mathlib.Core.List.{[]}
use mathlib.Core.Path.{◌≡◌}
use Rattle.words.proofs.end_of_word.Given as goal

abbrev pub invariant-loop-i : goal.invariant-loop-i
invariant-loop-i l = words_from (take (l.i - l.from) (drop l.from l.line)) (drop l.i l.line) ≡ words_from [] (drop l.from l.line)
