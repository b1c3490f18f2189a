use Rattle.std.proofs.Common.{arith}
use Rattle.transcript.proofs.Puts.{and_then}
use Rattle.transcript.proofs.Decimals.{decimal_ten_thousands, ten_thousands_longer}
use Rattle.transcript.proofs.text.+put_decimal.Goals as goal

pub put_decimal-last-requires : goal.put_decimal-last-requires
put_decimal-last-requires t c = let more = ten_thousands_longer c.args.x c.if-x-lt10000.false in (omega arith, omega arith)

pub put_pair-next-requires-clause-at_in_bounds : goal.put_pair-next-requires-clause-at_in_bounds
put_pair-next-requires-clause-at_in_bounds t c = let more = ten_thousands_longer c.args.x c.if-x-lt10000.false in omega arith

pub put_pair-requires-clause-at_in_bounds : goal.put_pair-requires-clause-at_in_bounds
put_pair-requires-clause-at_in_bounds t c = let more = ten_thousands_longer c.args.x c.if-x-lt10000.false in omega arith

pub returns : goal.returns
returns t c =
    rw (decimal_ten_thousands c.args.x c.if-x-lt10000.false)
    (and_then c.put_decimal-last.ensures (and_then c.put_pair-next.ensures c.put_pair.ensures))
