use native.Mathlib.Omega.{arith}
use Rattle.transcript.proofs.Puts.{puts_none}
use Rattle.walk.proofs.Feeds.{not_first}
use Rattle.walk.proofs.put_nodes_once.Goals as goal

pub returns-in_default : goal.returns-in_default
returns-in_default c = rw (not_first _ c.in_default.not-Unopened) record { upper_bound = omega arith; puts = puts_none _ 0 }
