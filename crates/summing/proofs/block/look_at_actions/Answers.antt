use mathlib.Core.Path.{◌≡◌, refl, sym, ◌∙◌}
use Prim.Native.Nat.{suc, ◌+◌, ◌*◌}
use native.Mathlib.Omega.{arith}
use lib.ListN.{drop, length}
use borrow.Author.Rules.{rules}
use Rattle.charts.specs.Layout.{action_at}
use Rattle.charts.proofs.Steps.{refuses_it}
use Rattle.transcript.specs.Lines.{refused_line}
use Rattle.transcript.proofs.Puts.{puts_none}
use Rattle.transcript.proofs.Rooms.{puts_line}
use Rattle.record.proofs.Walk.{tail_part}
use Rattle.files.proofs.Pieces.{left_all, left_none, left_more}
use Rattle.summing.proofs.block.look_at_actions.Goals as goal

pub loop-k-init : goal.loop-k-init
loop-k-init c = let none : c.args.first + 0 ≡ c.args.first = omega arith in
    (refl, rw (left_all, none))

pub returns-in-Err : goal.returns-in-Err
returns-in-Err c =
    let found : c.read_action-a.result ≡ action_at (drop (14 + 16 * c.loop-k.k) c.args.piece.now) = rw tail_part at c.read_action-a.ensures in
    let long : length c.loop-k.out ≡ 2048 = search rules in
    let line = puts_line {buf = c.loop-k.out} {at = c.args.at} {text = refused_line (c.args.first + c.loop-k.k) c.number.result} (omega arith) c.put_refused.ensures.value c.put_refused.ensures.out_after in
    rw (c.loop-k.invariant.1, left_more c.args.count c.loop-k.k c.args.piece.now c.loop-k-test.true, ← found, sym c.decode.ensures ∙ c.in-Err.is, refuses_it c.in-Err.refusal) record { end_bound = omega (arith, c.put_refused.ensures.upper_bound); puts_part = record { puts = rw (c.number.ensures, c.loop-k.invariant.0) at line; leaves = refl; stops = refl } }

pub loop-k-preserved : goal.loop-k-preserved
loop-k-preserved c =
    let found : c.read_action-a.result ≡ action_at (drop (14 + 16 * c.loop-k.k) c.args.piece.now) = rw tail_part at c.read_action-a.ensures in
    let next : c.args.first + (c.loop-k.k + 1) ≡ suc (c.args.first + c.loop-k.k) = omega arith in
    (c.loop-k.invariant.0, c.loop-k.invariant.1 ∙ rw (left_more c.args.count c.loop-k.k c.args.piece.now c.loop-k-test.true, ← found, ← c.decode.ensures, c.in_default.is, next))

pub returns : goal.returns
returns c = rw (c.loop-k.invariant.1, left_none c.args.count c.loop-k.k c.args.piece.now (omega arith)) record { end_bound = omega arith; puts_part = record { puts = rw c.loop-k.invariant.0 (puts_none _ _); leaves = refl; stops = refl } }
