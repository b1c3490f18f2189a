use mathlib.Core.Path.{ap, ◌∙◌}
use Rattle.charts.specs.View.{mark}
use Rattle.link.specs.Reading.{heard_by}
use Rattle.deciding.specs.Gets.{incoming, gets}
use Rattle.deciding.specs.Decides.{decides}
use Rattle.deciding.specs.Plans.{settled}
use Rattle.deciding.proofs.Got.{heard_is}
use Rattle.deciding.proofs.Decided.{decides_is}
use Rattle.deciding.proofs.decide.play.Goals as goal

pub returns-in-Arbitrate : goal.returns-in-Arbitrate
returns-in-Arbitrate c =
    let s = c.args.scene in
    ◌∙◌ {b = settled (decides s.phase c.args.i c.args.c c.args.m)} c.decide.ensures (ap settled
    (decides_is (heard_by c.args.table.now) s.n s.phase s.concatenated c.args.i c.args.c (mark s.won.now) (mark s.pending.now) (mark s.holder.now) c.args.m c.in-Arbitrate.in-Arbitrate-own.keys2))

pub returns-in-Carry : goal.returns-in-Carry
returns-in-Carry c =
    let s = c.args.scene in
    let h = heard_by c.args.table.now in
    ◌∙◌ {b = settled (gets h s.n s.phase c.args.c (mark s.pending.now) (incoming s.phase c.args.c.misled c.args.m))} c.hear.ensures (ap settled
    (heard_is h s.n c.args.c (mark s.pending.now) s.phase s.concatenated c.args.i (mark s.won.now) (mark s.holder.now) c.args.m c.in-Carry.in-Carry-own.keys5))
