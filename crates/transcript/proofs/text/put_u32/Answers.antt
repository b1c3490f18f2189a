use native.Mathlib.Omega.{arith}
use Rattle.transcript.proofs.Decimals.{decimal_short}
use Rattle.transcript.proofs.text.put_u32.Goals as goal

pub put_decimal-requires : goal.put_decimal-requires
put_decimal-requires c = let short = decimal_short 9 c.args.x (omega arith) in omega arith

pub returns : goal.returns
returns c = let short = decimal_short 9 c.args.x (omega arith) in
    record { upper_bound = omega arith; puts = c.put_decimal.ensures }
