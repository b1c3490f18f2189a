use native.Mathlib.Omega.{arith}
use Rattle.transcript.proofs.Puts.{and_then}
use Rattle.transcript.proofs.Decimals.{decimal_hundreds, hundreds_longer}
use Rattle.transcript.proofs.text.put_four.Goals as goal

pub put_small-last-requires : goal.put_small-last-requires
put_small-last-requires c = let more = hundreds_longer c.args.x c.if-x-lt100.false in record { x_bound = omega arith; x_in_bounds = omega arith }

pub put_pair-requires : goal.put_pair-requires
put_pair-requires c = let more = hundreds_longer c.args.x c.if-x-lt100.false in record { x_bound = omega arith; at_in_bounds = omega arith }

pub returns : goal.returns
returns c = rw (decimal_hundreds c.args.x c.if-x-lt100.false) (and_then c.put_small-last.ensures c.put_pair.ensures)
