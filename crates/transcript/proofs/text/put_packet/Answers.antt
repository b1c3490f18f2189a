use mathlib.Core.List.{append_assoc}
use native.Mathlib.Omega.{arith}
use Rattle.transcript.proofs.Puts.{and_then}
use Rattle.transcript.proofs.text.put_packet.Goals as goal

pub returns : goal.returns
returns c = record { upper_bound = omega arith; puts = simp append_assoc at (and_then c.put_node-a.ensures.puts (and_then c.put_fields-b.ensures.puts c.put_label.ensures.puts)) }
