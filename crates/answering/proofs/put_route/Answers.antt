use mathlib.Core.Path.{◌≡◌, refl, sym}
use native.Mathlib.Omega.{arith}
use lib.ListN.{take, length-append}
use lib.Seq.{length-take-le}
use Rattle.transcript.specs.Lines.{texts_from}
use Rattle.transcript.specs.Writer.{written}
use Rattle.transcript.proofs.Writes.{written_written}
use Rattle.answering.specs.Answering.{record_line, route_text}
use Rattle.answering.proofs.Texts.{texts_push, same_texts}
use Rattle.answering.proofs.put_route.Goals as goal

pub loop-a-init : goal.loop-a-init
unfolding written
loop-a-init c = (omega arith, refl)

pub loop-a-preserved : goal.loop-a-preserved
loop-a-preserved c =
    let texts = record_line (take c.held.result c.args.route.actions) in
    let more = length-append (texts_from texts c.loop-a.a-index 0) (texts c.loop-a.a-index) in
    rw (texts_push texts c.loop-a.a-index) (omega arith, rw (c.action.ensures.writes, c.loop-a.invariant.1) (written_written _ _ _))

pub returns : goal.returns
returns c =
    let whole = length-take-le c.held.result c.args.route.actions (omega arith) in
    let last : c.loop-a.a-index ≡ c.held.result = omega arith in
    let all : texts_from (record_line (take c.held.result c.args.route.actions)) c.loop-a.a-index 0 ≡ route_text c.args.route.count c.args.route.actions =
    rw (last, same_texts c.args.route.actions c.held.result c.held.result (omega arith), c.held.ensures.value) in
    record { short = rw (sym all) (omega arith); writes = rw (sym all) c.loop-a.invariant.1 }
