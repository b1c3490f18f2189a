use Rattle.transcript.proofs.Puts.{and_then}
use native.Mathlib.Omega.{arith}
use Rattle.transcript.proofs.text.put_node.Goals as goal

pub returns : goal.returns
returns c = record { upper_bound = omega arith; puts = and_then c.put_u8-a.ensures.puts c.put_word.ensures }
