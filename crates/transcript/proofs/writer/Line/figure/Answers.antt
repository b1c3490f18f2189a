use Rattle.transcript.proofs.Puts.{taken}
use Rattle.transcript.proofs.writer.Line.figure.Goals as goal

pub returns : goal.returns
returns c = rw (c.word.ensures, taken c.put_u64-end.ensures.puts c.put_u64-end.ensures.upper_bound)
