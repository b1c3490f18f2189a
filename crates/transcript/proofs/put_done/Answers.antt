use Rattle.std.proofs.Common.{arith, ◌∙◌}
use Rattle.transcript.specs.Room.{longest}
use Rattle.transcript.proofs.Writes.{all_put, pieces}
use Rattle.transcript.specs.Lines.{done_line}
use Rattle.transcript.proofs.Lengths.{done_short}
use Rattle.transcript.proofs.put_done.Goals as goal

pub returns : goal.returns
unfolding done_line
returns c =
    let new = c.new-line.ensures in
    let short = done_short c.args.count (omega arith) in
    let p = all_put longest c.args.at c.args.out.now (done_line c.args.count) c.new-line.result c.byte.new.self c.has_room.ensures c.if-not-has_room.false short new.starts new.holds new.same_reference (grind (arith, pieces)) c.out-1.given.1.1 in
    record { upper_bound = omega arith; value = c.end.ensures ∙ p.1; out_after = p.2 }
