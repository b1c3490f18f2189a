use Rattle.std.proofs.Common.{arith}
use Rattle.faults.proofs.Lengths.{refused_short}
use Rattle.faults.proofs.words.put_fault_words.Goals as goal

pub returns-in-Refused-clause-short : goal.returns-in-Refused-clause-short
returns-in-Refused-clause-short c = rw c.in-Refused.is (refused_short c.in-Refused.number (omega arith))
