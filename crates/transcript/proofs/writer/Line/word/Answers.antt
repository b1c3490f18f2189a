use mathlib.Core.Path.{refl}
use Rattle.std.proofs.lemmas.List.{take_more}
use Rattle.transcript.specs.Writer.{written}
use Rattle.transcript.proofs.Writes.{written_written}
use Rattle.transcript.proofs.writer.Line.word.Goals as goal

pub loop-b-init : goal.loop-b-init
unfolding written
loop-b-init c = refl

pub loop-b-preserved : goal.loop-b-preserved
loop-b-preserved c = rw (take_more c.args.w.now c.loop-b.b-index 0 c.loop-b-test.true, c.byte.ensures, c.loop-b.invariant) (written_written _ _ _)
