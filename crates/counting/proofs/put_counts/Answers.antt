use mathlib.Core.Path.{◌≡◌, ◌∙◌}
use native.Mathlib.Omega.{arith}
use lib.ListN.{length}
use borrow.Author.Rules.{rules}
use Rattle.transcript.specs.Room.{Puts}
use Rattle.transcript.proofs.Puts.{and_then, puts_none}
use Rattle.transcript.proofs.Rooms.{puts_in}
use Rattle.transcript.proofs.Texts.{texts_more, texts_none}
use Rattle.figures.specs.Figures.{figures_line, room_for}
use Rattle.counting.specs.Rows.{line_for, counts_text}
use Rattle.counting.proofs.Rows.{made}
use Rattle.counting.proofs.put_counts.Goals as goal

pub loop-k-init : goal.loop-k-init
unfolding counts_text
loop-k-init c = (search rules, λ stop last p. p)

pub loop-k-preserved : goal.loop-k-preserved
loop-k-preserved c = let size : length c.row-row.result ≡ 25 = search rules in
    let long : length c.loop-k.out ≡ 16384 = search (rules, c.put_figures-arg-1.given) in
    let line = puts_in {buf = c.loop-k.out} {at = c.loop-k.end} {text = figures_line c.loop-k.k c.row-row.result} (room_for c.row-row.result) (omega (arith, size, c.loop-k-test.true, c.loop-k.invariant.0)) c.put_figures-end.ensures.value c.put_figures-end.ensures.out_after in
    let own : Puts c.loop-k.out c.loop-k.end (line_for c.loop-k.k) c.put_figures-end.result c.put_figures-end.new.out = rw (c.row-row.ensures ∙ made c.loop-k.k (omega (arith, c.loop-k-test.true))) at line in
    (omega (arith, c.put_figures-end.ensures.upper_bound, size, c.loop-k.invariant.0), λ stop last p. c.loop-k.invariant.1 stop last (rw (texts_more line_for 17 c.loop-k.k (omega (arith, c.loop-k-test.true))) (and_then own p)))

pub returns : goal.returns
returns c = let all = c.loop-k.invariant.1 c.loop-k.end c.loop-k.out (rw (texts_none line_for 17 c.loop-k.k (omega (arith, c.loop-k-test.false))) (puts_none c.loop-k.out c.loop-k.end)) in
    record { upper_bound = omega (arith, c.loop-k.auto.k-end, c.loop-k.invariant.0); value = omega (arith, all.ends); out_after = all.holds }
