use Prim.Native.Nat.{◌+◌, ◌-◌}
use mathlib.Core.Path.{◌≡◌, sym, ◌∙◌}
use native.Mathlib.Omega.{arith}
use borrow.Author.Tests.{eq-eqb, ne_eqb}
use Rattle.faults.proofs.Shows.{break_step, break_none}
use Rattle.faults.proofs.words.has_no_break.Goals.{else-w-k-via-then-w-k+else-w-k-2, else-w-k-via-else-w-k}
use Rattle.faults.proofs.words.has_no_break.Goals as goal

pub returns-then-w-k-2 : goal.returns-then-w-k-2
returns-then-w-k-2 c =
    let step = break_step c.args.w.now c.loop-k.k c.loop-k.auto.k c.loop-k-test.true in
    sym (sym c.loop-k.invariant ∙ (step ∙ rw (eq-eqb _ _ c.if-w-k.true, eq-eqb _ _ c.if-w-k-2.true)))

pub loop-k-preserved : goal.loop-k-preserved
loop-k-preserved c =
    let step = break_step c.args.w.now c.loop-k.k c.loop-k.auto.k c.loop-k-test.true in
    let next : c.loop-k.k + 1 - 1 ≡ c.loop-k.k = omega arith in
    elim c.else-w-k.branch [
      | else-w-k-via-then-w-k+else-w-k-2 w ↦ rw next (sym (rw (eq-eqb _ _ w.if-w-k.true, ne_eqb _ _ w.if-w-k-2.false) at step) ∙ c.loop-k.invariant)
      | else-w-k-via-else-w-k w ↦ rw next (sym (rw (ne_eqb _ _ w.if-w-k.false) at step) ∙ c.loop-k.invariant)
    ]

pub returns : goal.returns
returns c = sym (break_none c.args.w.now c.loop-k.k c.loop-k-test.false) ∙ c.loop-k.invariant
