use mathlib.Core.Path.{ap}
use native.Mathlib.Omega.{arith}
use lib.ListN.{length}
use Rattle.transcript.proofs.Decimals.{decimal_small, decimal_pair}
use Rattle.transcript.proofs.text.put_small.Goals as goal

pub put_byte-requires : goal.put_byte-requires
put_byte-requires c = let one = ap length (decimal_small c.args.x c.if-x-lt10.true) in omega arith

pub returns-then-x-lt10 : goal.returns-then-x-lt10
returns-then-x-lt10 c = rw (decimal_small c.args.x c.if-x-lt10.true) c.put_byte.ensures

pub put_pair-requires : goal.put_pair-requires
put_pair-requires c = let two = ap length (decimal_pair c.args.x c.if-x-lt10.false c.requires.x_bound) in
    record { x_bound = c.requires.x_bound; at_in_bounds = omega arith }

pub returns : goal.returns
returns c = rw (decimal_pair c.args.x c.if-x-lt10.false c.requires.x_bound) c.put_pair.ensures
