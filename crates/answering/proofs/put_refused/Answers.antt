use Rattle.std.proofs.Common.{arith}
use Rattle.answering.proofs.Texts.{refused_short}
use Rattle.answering.proofs.put_refused.Goals as goal

pub returns-clause-short : goal.returns-clause-short
returns-clause-short c = refused_short c.args.number (omega arith)
