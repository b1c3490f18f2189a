use Rattle.std.proofs.Common.{◌≤◌, subst, arith, rules, length, take, OnOk}
use Rattle.std.specs.Io.KnownBytes.{Appends}
use Rattle.stream.specs.Collected.{sent}
use Rattle.walk.specs.Feeding.{finish_of}
use Rattle.filing.proofs.Walked.{read_back}
use Rattle.filing.proofs.put_end.Goals as goal

pub returns-clause-none_lost : goal.returns-clause-none_lost
returns-clause-none_lost g c =
    let end = c.finish-end.result in
    let out = c.finish-end.new.out in
    let fits : end ≤ length c.args.text.now = omega arith in
    let text = finish_of g.K.Walk.walker.done (g.K.Walk.seen c.args.walk).stage in
    let back = read_back c.args.text.now out text end c.finish-end.ensures.value c.finish-end.ensures.out_after fits in
    let old = sent (g.W.Write.contents c.args.sink.now.writer) c.args.sink.now.buf.now c.args.sink.now.held in
    let new = sent (g.W.Write.contents c.put.new.self.writer) c.put.new.self.buf.now c.put.new.self.held in
    let adds : OnOk c.map_err.result (Appends old new (take end out)) = search rules in
    subst (λ t. OnOk c.map_err.result (Appends old new t)) back adds
