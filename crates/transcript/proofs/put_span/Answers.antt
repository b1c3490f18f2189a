use Rattle.std.proofs.Common.{arith, ◌∙◌}
use Rattle.transcript.specs.Room.{longest}
use Rattle.transcript.proofs.Writes.{all_put, pieces}
use Rattle.transcript.specs.Lines.{span_line}
use Rattle.transcript.proofs.Lengths.{span_short}
use Rattle.transcript.proofs.put_span.Goals as goal

pub returns : goal.returns
unfolding span_line
returns c =
    let new = c.new-text.ensures in
    let short = span_short c.args.line c.args.times (omega arith) (omega arith) in
    let p = all_put longest c.args.at c.args.out.now (span_line c.args.line c.args.times) c.new-text.result c.byte-2.new.self c.has_room.ensures c.if-not-has_room.false short new.starts new.holds new.same_reference (grind (arith, pieces)) c.out-1.given.1.1 in
    record { upper_bound = omega arith; value = c.end.ensures ∙ p.1; out_after = p.2 }
