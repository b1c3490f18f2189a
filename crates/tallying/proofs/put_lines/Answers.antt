use Rattle.std.proofs.Common.{arith}
use Rattle.tallying.proofs.Lengths.{tally_short, Small}
use Rattle.tallying.proofs.put_lines.Goals as goal

pub returns-clause-short : goal.returns-clause-short
returns-clause-short c =
    let small : Small c.args.t = record { requests = omega arith; wins = omega arith; sent = omega arith; acks = omega arith; misses = omega arith; drops = omega arith } in
    tally_short c.args.t small
