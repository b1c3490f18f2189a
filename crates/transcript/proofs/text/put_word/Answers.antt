use Rattle.transcript.proofs.Puts.{puts_whole}
use Rattle.transcript.proofs.text.put_word.Goals as goal

pub returns : goal.returns
returns c = rw c.copy_from_slice.ensures.after (puts_whole c.args.buf.now c.args.at c.args.w.now c.requires)
