use mathlib.Core.Path.{refl}
use Rattle.transcript.specs.Writer.{written}
use Rattle.transcript.proofs.Writes.{written_written}
use Rattle.faults.proofs.Shows.{shown_more}
use Rattle.faults.proofs.words.put_shown_bytes.Goals as goal

pub loop-b-init : goal.loop-b-init
unfolding written
loop-b-init c = refl

pub loop-b-preserved : goal.loop-b-preserved
loop-b-preserved c = rw (shown_more c.args.w.now c.loop-b.b-index c.loop-b-test.true, c.put_shown_byte.ensures, c.loop-b.invariant) (written_written _ _ _)
