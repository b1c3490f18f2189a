use mathlib.Core.List.{append_assoc}
use native.Mathlib.Omega.{arith}
use Rattle.transcript.proofs.Puts.{and_then}
use Rattle.transcript.proofs.text.put_report.Goals as goal

pub returns-in-Silent : goal.returns-in-Silent
returns-in-Silent c = record { upper_bound = omega arith; puts = rw c.in-Silent.is c.put_word.ensures }

pub returns-in-Won : goal.returns-in-Won
returns-in-Won c = record { upper_bound = omega arith; puts = rw c.in-Won.is c.put_node.ensures.puts }

pub returns-in-Lost : goal.returns-in-Lost
returns-in-Lost c = record { upper_bound = omega arith; puts = rw c.in-Lost.is c.put_node-in-Lost.ensures.puts }

pub returns-in-Sent : goal.returns-in-Sent
returns-in-Sent c = record { upper_bound = omega arith; puts = rw c.in-Sent.is (rw append_assoc at (and_then c.put_node-b.ensures.puts c.put_label.ensures.puts)) }

pub returns-in-Acked : goal.returns-in-Acked
returns-in-Acked c = record { upper_bound = omega arith; puts = rw c.in-Acked.is (rw append_assoc at (and_then c.put_node-b-in-Acked.ensures.puts (and_then c.put_u8-c.ensures.puts c.put_label-in-Acked.ensures.puts))) }

pub returns-in-Miss : goal.returns-in-Miss
returns-in-Miss c = record { upper_bound = omega arith; puts = rw c.in-Miss.is (rw append_assoc at (and_then c.put_node-b-in-Miss.ensures.puts c.put_label-in-Miss.ensures.puts)) }

pub returns-in-Drop : goal.returns-in-Drop
returns-in-Drop c = record { upper_bound = omega arith; puts = rw c.in-Drop.is (rw append_assoc at (and_then c.put_node-b-in-Drop.ensures.puts c.put_name.ensures.puts)) }

pub returns-in-Good : goal.returns-in-Good
returns-in-Good c = record { upper_bound = omega arith; puts = rw c.in-Good.is c.put_packet.ensures.puts }

pub returns-in-Dcrc : goal.returns-in-Dcrc
returns-in-Dcrc c = record { upper_bound = omega arith; puts = rw c.in-Dcrc.is (rw append_assoc at (and_then c.put_node-b-in-Dcrc.ensures.puts (and_then c.put_u32-c.ensures.puts c.put_label-in-Dcrc.ensures.puts))) }

pub returns-in-Broad : goal.returns-in-Broad
returns-in-Broad c = record { upper_bound = omega arith; puts = rw c.in-Broad.is c.put_packet-in-Broad.ensures.puts }
