use borrow.Author.Tests.{lt-ltb, le-ltb}
use Rattle.transcript.specs.Writer.{written, with_byte}
use Rattle.transcript.proofs.writer.Line.byte.Goals as goal

pub returns-then-self : goal.returns-then-self
unfolding written with_byte
returns-then-self c = rw (lt-ltb _ _ c.if-self.true)

pub returns-else-self : goal.returns-else-self
unfolding written with_byte
returns-else-self c = rw (le-ltb _ _ c.if-self.false)
