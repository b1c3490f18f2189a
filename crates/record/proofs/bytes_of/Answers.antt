use Rattle.record.proofs.Little.{laid_bytes}
use Rattle.record.proofs.bytes_of.Goals as goal

pub returns : goal.returns
returns c = rw (c.to_le_bytes.ensures, c.to_le_bytes-2.ensures) (laid_bytes c.args.a)
