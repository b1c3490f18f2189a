use Rattle.std.proofs.Common.{arith, ◌∙◌}
use Rattle.transcript.proofs.Writes.{all_put}
use Rattle.answering.specs.Answering.{room, answer_text}
use Rattle.answering.proofs.put_answer.Goals as goal

pub returns : goal.returns
returns c =
    let new = c.new-line.ensures in
    let put = c.put_lines.ensures in
    let p = all_put room c.args.at c.args.out.now (answer_text c.args.x) c.new-line.result c.put_lines.new.line c.has_room.ensures c.if-not-has_room.false put.short new.starts new.holds new.same_reference put.writes c.out-1.given.1.1 in
    record { upper_bound = omega arith; value = c.end.ensures ∙ p.1; out_after = p.2 }
