use Rattle.transcript.proofs.Puts.{puts_byte}
use Rattle.transcript.proofs.text.put_byte.Goals as goal

pub returns : goal.returns
returns c = puts_byte _ _ _
