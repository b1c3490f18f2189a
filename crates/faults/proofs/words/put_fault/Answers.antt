use Rattle.std.proofs.Common.{arith}
use Rattle.faults.proofs.Lengths.{words_short}
use Rattle.faults.proofs.words.put_fault.Goals as goal

pub returns-clause-short : goal.returns-clause-short
returns-clause-short c = words_short c.args.number c.args.fault c.args.cause c.args.w.now (omega arith) c.put_fault_words.ensures.short c.put_cause.ensures.short
