use Prim.Native.Nat.{suc, ◌+◌, ◌*◌}
use mathlib.Core.Path.{◌≡◌, refl, sym, ap, ◌∙◌}
use native.Mathlib.Omega.{arith}
use lib.ListN.{length, drop}
use borrow.Author.Rules.{rules}
use Rattle.std.specs.Prelude.{Ok, Err}
use Rattle.charts.specs.declared.Played.{Played}
use Rattle.charts.specs.View.{view, seen}
use Rattle.charts.specs.Layout.{action_at}
use Rattle.charts.proofs.Steps.{refuses_it}
use Rattle.bus.specs.Asking.{asked_after}
use Rattle.bus.proofs.Counts.{counted_asked, asked_on}
use Rattle.bus.proofs.InPlace.{advance_by_the_chart}
use Rattle.record.proofs.Walk.{tail_part}
use Rattle.transcript.specs.Lines.{line_of, refused_line}
use Rattle.transcript.proofs.Rooms.{puts_line}
use Rattle.player.specs.Feeding.{part_of}
use Rattle.player.proofs.Loop.{left, left_all, left_none, left_more, at_start, go_on, stop, ends}
use Rattle.player.proofs.block.play_actions.Goals as goal

pub loop-k-init : goal.loop-k-init
loop-k-init c = let none : c.args.first + 0 ≡ c.args.first = omega arith in
    (omega arith, rw (left_all, none) (at_start _ _ _), c.askers-asked.ensures)

pub returns-in-Err : goal.returns-in-Err
returns-in-Err c =
    let i = c.args.first + c.loop-k.k in
    let played : Played = record { report = Err c.in-Err.refusal; bus = c.play.new.bus } in
    let is = c.in-Err.ensures ∙ advance_by_the_chart _ _ _ c.table-table.ensures (counted_asked c.loop-k.state c.loop-k.asked c.loop-k.invariant.2) _ in
    let found : c.read_action-a.result ≡ action_at (drop (14 + 16 * c.loop-k.k) c.args.piece.now) = rw tail_part at c.read_action-a.ensures in
    let here = rw (left_more c.args.count c.loop-k.k c.args.piece.now c.loop-k-test.true, ← found, ← is) at c.loop-k.invariant.1 in
    let later = part_of (left c.args.count (c.loop-k.k + 1) c.args.piece.now) (view c.play.new.bus) (suc i) in
    let long : length c.loop-k.out ≡ 2048 = search rules in
    let line = puts_line {buf = c.loop-k.out} {at = c.loop-k.end} {text = refused_line i c.number.result} (omega (arith, c.loop-k.invariant.0)) c.put_refused.ensures.value c.put_refused.ensures.out_after in
    let all = stop i c.read_action-a.result.kind (seen played) later here (refuses_it c.in-Err.refusal) (rw c.number.ensures at line) in
    record { end_bound = omega arith; puts_part = record { puts = all.text_put; leaves = all.last_state; stops = all.stopped } }

pub loop-k-preserved : goal.loop-k-preserved
loop-k-preserved c =
    let i = c.args.first + c.loop-k.k in
    let played : Played = record { report = Ok c.in-Ok.report; bus = c.play.new.bus } in
    let is = c.in-Ok.ensures ∙ advance_by_the_chart _ _ _ c.table-table.ensures (counted_asked c.loop-k.state c.loop-k.asked c.loop-k.invariant.2) _ in
    let found : c.read_action-a.result ≡ action_at (drop (14 + 16 * c.loop-k.k) c.args.piece.now) = rw tail_part at c.read_action-a.ensures in
    let here = rw (left_more c.args.count c.loop-k.k c.args.piece.now c.loop-k-test.true, ← found, ← is) at c.loop-k.invariant.1 in
    let later = part_of (left c.args.count (c.loop-k.k + 1) c.args.piece.now) (view c.play.new.bus) (suc i) in
    let long : length c.loop-k.out ≡ 2048 = search rules in
    let line = puts_line {buf = c.loop-k.out} {at = c.loop-k.end} {text = line_of i c.read_action-a.result.kind c.in-Ok.report} (omega (arith, c.loop-k.invariant.0)) c.put_line-end.ensures.value c.put_line-end.ensures.out_after in
    let next : suc (c.args.first + c.loop-k.k) ≡ c.args.first + (c.loop-k.k + 1) = omega arith in (
      omega (arith, c.put_line-end.ensures.upper_bound, c.loop-k.invariant.0),
      rw (← next) (go_on i c.read_action-a.result.kind (seen played) later here refl line),
      c.askers_after-asked.ensures ∙ ap (λ k. asked_after k c.read_action-a.result.kind) c.loop-k.invariant.2 ∙ sym (asked_on c.loop-k.state c.read_action-a.result played is refl),
    )

pub returns : goal.returns
returns c = let all = ends (rw (left_none c.args.count c.loop-k.k c.args.piece.now (omega arith)) at c.loop-k.invariant.1) in
    record { end_bound = omega arith; puts_part = record { puts = all.text_put; leaves = all.last_state; stops = all.stopped } }
