use Rattle.transcript.proofs.Puts.{and_then}
use Rattle.transcript.proofs.text.put_pair.Goals as goal

pub returns : goal.returns
returns c = and_then c.put_byte-a.ensures c.put_byte.ensures
