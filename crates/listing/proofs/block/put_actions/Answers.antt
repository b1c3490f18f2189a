use Prim.Native.Nat.{suc, ◌+◌, ◌*◌}
use mathlib.Core.Path.{◌≡◌, refl, sym, ◌∙◌}
use native.Mathlib.Omega.{arith}
use lib.ListN.{length, drop}
use borrow.Author.Rules.{rules}
use Rattle.charts.specs.Layout.{action_at}
use Rattle.charts.proofs.Steps.{refuses_it}
use Rattle.record.proofs.Walk.{tail_part}
use Rattle.files.proofs.Pieces.{left, left_all, left_none, left_more}
use Rattle.transcript.specs.Lines.{refused_line}
use Rattle.transcript.specs.Printed.{action_line}
use Rattle.transcript.proofs.Rooms.{puts_line}
use Rattle.walk.specs.Feeding.{part_of}
use Rattle.walk.proofs.Loop.{at_start, go_on, stop, ends}
use Rattle.listing.specs.Listed.{turn, naming}
use Rattle.listing.proofs.block.put_actions.Goals as goal

pub loop-k-init : goal.loop-k-init
loop-k-init c = let none : c.args.first + 0 ≡ c.args.first = omega arith in
    (omega arith, rw (left_all, none) (at_start _ _ _))

pub returns-in-Err : goal.returns-in-Err
returns-in-Err c =
    let found : c.read_action-a.result ≡ action_at (drop (14 + 16 * c.loop-k.k) c.args.piece.now) = rw tail_part at c.read_action-a.ensures in
    let here = rw (left_more c.args.count c.loop-k.k c.args.piece.now c.loop-k-test.true, ← found) at c.loop-k.invariant.1 in
    let later = part_of naming (left c.args.count (c.loop-k.k + 1) c.args.piece.now) c.args.n (suc (c.args.first + c.loop-k.k)) in
    let long : length c.loop-k.out ≡ 2048 = search rules in
    let is = sym c.decode.ensures ∙ c.in-Err.is in
    let line = puts_line {buf = c.loop-k.out} {at = c.loop-k.end} {text = refused_line (c.args.first + c.loop-k.k) c.number.result} (omega (arith, c.loop-k.invariant.0)) c.put_refused.ensures.value c.put_refused.ensures.out_after in
    let all = stop (c.args.first + c.loop-k.k) (turn c.read_action-a.result c.args.n) later here (rw is (refuses_it c.in-Err.refusal)) (rw is (rw c.number.ensures at line)) in
    record { end_bound = omega arith; puts_part = record { puts = all.text_put; leaves = all.last_state; stops = all.stopped } }

pub loop-k-preserved : goal.loop-k-preserved
loop-k-preserved c =
    let found : c.read_action-a.result ≡ action_at (drop (14 + 16 * c.loop-k.k) c.args.piece.now) = rw tail_part at c.read_action-a.ensures in
    let here = rw (left_more c.args.count c.loop-k.k c.args.piece.now c.loop-k-test.true, ← found) at c.loop-k.invariant.1 in
    let later = part_of naming (left c.args.count (c.loop-k.k + 1) c.args.piece.now) c.args.n (suc (c.args.first + c.loop-k.k)) in
    let long : length c.loop-k.out ≡ 2048 = search rules in
    let is = sym c.decode.ensures ∙ c.in_default.is in
    let line = puts_line {buf = c.loop-k.out} {at = c.loop-k.end} {text = action_line c.read_action-a.result} (omega (arith, c.loop-k.invariant.0)) c.put_action-end.ensures.value c.put_action-end.ensures.out_after in
    let next : suc (c.args.first + c.loop-k.k) ≡ c.args.first + (c.loop-k.k + 1) = omega arith in
    (omega (arith, c.put_action-end.ensures.upper_bound, c.loop-k.invariant.0), rw (← next) (go_on (c.args.first + c.loop-k.k) (turn c.read_action-a.result c.args.n) later here (rw is refl) line))

pub returns : goal.returns
returns c = let all = ends (rw (left_none c.args.count c.loop-k.k c.args.piece.now (omega arith)) at c.loop-k.invariant.1) in
    record { end_bound = omega arith; puts_part = record { puts = all.text_put; leaves = all.last_state; stops = all.stopped } }
