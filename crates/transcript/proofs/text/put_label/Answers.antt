use native.Mathlib.Omega.{arith}
use Rattle.transcript.proofs.Puts.{and_then}
use Rattle.transcript.proofs.text.put_label.Goals as goal

pub returns : goal.returns
returns c = record { upper_bound = omega arith; puts = and_then c.put_byte-a.ensures (and_then c.put_u8-b.ensures.puts c.put_byte.ensures) }
