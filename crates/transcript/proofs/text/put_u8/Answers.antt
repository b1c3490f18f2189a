use native.Mathlib.Omega.{arith}
use Rattle.transcript.proofs.Decimals.{decimal_short}
use Rattle.transcript.proofs.text.put_u8.Goals as goal

pub put_small-requires : goal.put_small-requires
put_small-requires c = let short = decimal_short 2 c.args.x (omega arith) in record { x_bound = c.if-x-lt100.true; x_in_bounds = omega arith }

pub returns-then-x-lt100 : goal.returns-then-x-lt100
returns-then-x-lt100 c = let short = decimal_short 2 c.args.x (omega arith) in
    record { upper_bound = omega arith; puts = c.put_small.ensures }

pub put_decimal-requires : goal.put_decimal-requires
put_decimal-requires c = let short = decimal_short 2 c.args.x (omega arith) in omega arith

pub returns : goal.returns
returns c = let short = decimal_short 2 c.args.x (omega arith) in
    record { upper_bound = omega arith; puts = c.put_decimal.ensures }
