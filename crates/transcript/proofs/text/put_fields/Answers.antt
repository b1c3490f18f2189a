use native.Mathlib.Omega.{arith}
use Rattle.transcript.proofs.Puts.{and_then}
use Rattle.transcript.proofs.text.put_fields.Goals as goal

pub returns : goal.returns
returns c = record { upper_bound = omega arith; puts = and_then c.put_u32-a.ensures.puts (and_then c.put_byte-b.ensures c.put_u32.ensures.puts) }
