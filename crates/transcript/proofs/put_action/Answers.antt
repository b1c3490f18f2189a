use Rattle.std.proofs.Common.{arith, ◌∙◌}
use Rattle.transcript.specs.Printed.{action_line}
use Rattle.transcript.specs.Room.{longest}
use Rattle.transcript.proofs.Writes.{all_put}
use Rattle.transcript.proofs.put_action.Goals as goal

pub returns : goal.returns
returns c =
    let new = c.new-line.ensures in
    let done = c.action.ensures in
    let p = all_put longest c.args.at c.args.out.now (action_line c.args.a) c.new-line.result c.action.new.self c.has_room.ensures c.if-not-has_room.false done.short new.starts new.holds new.same_reference done.writes c.out-1.given.1.1 in
    record { upper_bound = omega arith; value = c.end.ensures ∙ p.1; out_after = p.2 }
