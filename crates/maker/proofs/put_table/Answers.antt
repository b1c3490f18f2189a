use mathlib.Core.Path.{◌≡◌}
use native.Mathlib.Omega.{arith}
use lib.ListN.{length}
use borrow.Author.Rules.{rules}
use Rattle.transcript.specs.Room.{Puts}
use Rattle.transcript.proofs.Puts.{and_then, puts_none}
use Rattle.transcript.proofs.Rooms.{puts_line}
use Rattle.transcript.proofs.Texts.{texts_more, texts_none}
use Rattle.maker.specs.Printed.{cell_at, table_text}
use Rattle.maker.proofs.put_table.Goals as goal

pub loop-k-init : goal.loop-k-init
unfolding table_text
loop-k-init c = (search rules, λ stop last p. p)

pub overflow_cast-k : goal.overflow_cast-k
overflow_cast-k c = record { fits = omega (arith, c.loop-k-test.true) }

pub overflow_cast-class : goal.overflow_cast-class
overflow_cast-class c = record { fits = omega (arith, c.loop-k-test.true) }

pub loop-k-preserved : goal.loop-k-preserved
loop-k-preserved c = let long : length c.loop-k.out ≡ 8192 = search (rules, c.put_cell-arg-1.given) in
    let cell : Puts c.loop-k.out c.loop-k.end (cell_at c.loop-k.k) c.put_cell-end.result c.put_cell-end.new.out =
    puts_line (omega (arith, c.loop-k-test.true, c.loop-k.invariant.0)) (rw (c.byte_after.ensures, c.rule-cell.ensures) at c.put_cell-end.ensures.value) (rw (c.byte_after.ensures, c.rule-cell.ensures) at c.put_cell-end.ensures.out_after) in
    (omega (arith, c.put_cell-end.ensures.upper_bound, c.loop-k.invariant.0), λ stop last p. c.loop-k.invariant.1 stop last (rw (texts_more cell_at 350 c.loop-k.k c.loop-k-test.true) (and_then cell p)))

pub returns : goal.returns
returns c = let all = c.loop-k.invariant.1 c.loop-k.end c.loop-k.out (rw (texts_none cell_at 350 c.loop-k.k c.loop-k-test.false) (puts_none c.loop-k.out c.loop-k.end)) in
    record { upper_bound = omega (arith, c.loop-k.auto.k-end, c.loop-k.invariant.0); value = omega (arith, all.ends); out_after = all.holds }
