use Rattle.std.proofs.Common.{arith, ◌∙◌}
use Rattle.transcript.proofs.Writes.{all_put}
use Rattle.faults.specs.Faults.{longest, fault_line}
use Rattle.faults.proofs.put_fault.Goals as goal

pub returns : goal.returns
returns c =
    let new = c.new-line.ensures in
    let put = c.put_fault.ensures in
    let p = all_put longest c.args.at c.args.out.now (fault_line c.args.number c.args.fault c.args.cause c.args.word.now) c.new-line.result c.put_fault.new.line c.has_room.ensures c.if-not-has_room.false put.short new.starts new.holds new.same_reference put.writes c.out-1.given.1.1 in
    record { upper_bound = omega arith; value = c.end.ensures ∙ p.1; out_after = p.2 }
