use mathlib.Core.Path.{◌≡◌}
use mathlib.Core.List.{[], ◌∷◌}
use Prim.Native.Nat.{◌<◌}
use native.Mathlib.Omega.{arith}
use lib.ListN.{length, take, get_or}
use lib.Seq.{take_all}
use borrow.Author.Rules.{rules}
use Rattle.transcript.specs.Text.{decimal}
use Rattle.transcript.proofs.Puts.{puts_none, and_then}
use Rattle.transcript.proofs.Rooms.{puts_in}
use Rattle.figures.specs.Figures.{figures_line}
use Rattle.figures.proofs.Lines.{spaced_more, line_spaced}
use Rattle.figures.proofs.put_line.Goals as goal

pub loop-x-init : goal.loop-x-init
loop-x-init c = (search rules, omega (arith, c.put_u64-end.ensures.upper_bound), puts_none _ _)

pub loop-x-preserved : goal.loop-x-preserved
loop-x-preserved c = let rest = c.args.rest.now in
    let begun : length c.put_u64-end.new.out ≡ length c.args.out.now = search rules in
    let few : c.loop-x.x-index < length rest = c.loop-x-test.true in
    let gap = puts_in {buf = c.loop-x.out} {at = c.loop-x.end} {text = 32 ∷ []} 1 (omega (arith, c.loop-x.invariant.1, c.loop-x.invariant.0)) c.put_word-next.ensures.value c.put_word-next.ensures.out_after in
    let still : length c.put_word-next.new.out ≡ length c.loop-x.out = search rules in
    let figure = puts_in {buf = c.put_word-next.new.out} {at = c.put_word-next.result} {text = decimal (get_or rest c.loop-x.x-index 0)} 20 (omega (arith, gap.ends, c.loop-x.invariant.1, c.loop-x.invariant.0)) c.put_u64-end-in-loop-x.ensures.value c.put_u64-end-in-loop-x.ensures.out_after in (
      search rules,
      omega (arith, c.put_u64-end-in-loop-x.ensures.upper_bound, gap.ends, c.loop-x.invariant.1),
      rw (← spaced_more rest c.loop-x.x-index few) (and_then (and_then c.loop-x.invariant.2 gap) figure),
    )

pub returns : goal.returns
unfolding figures_line
returns c = let rest = c.args.rest.now in
    let begun : length c.put_u64-end.new.out ≡ length c.args.out.now = search rules in
    let all : take c.loop-x.x-index rest ≡ rest = take_all c.loop-x.x-index rest c.loop-x-test.false in
    let figure = puts_in {buf = c.args.out.now} {at = c.args.at} {text = decimal c.args.first} 20 (omega arith) c.put_u64-end.ensures.value c.put_u64-end.ensures.out_after in
    let newline = puts_in {buf = c.loop-x.out} {at = c.loop-x.end} {text = 10 ∷ []} 1 (omega (arith, c.loop-x.invariant.1, c.loop-x.invariant.0, c.loop-x.auto.x-index-end)) c.put_word.ensures.value c.put_word.ensures.out_after in
    record { upper_bound = omega (arith, newline.ends, c.loop-x.invariant.1, c.loop-x.auto.x-index-end); puts = rw (line_spaced (decimal c.args.first) rest, ← all) (and_then (and_then figure c.loop-x.invariant.2) newline) }
