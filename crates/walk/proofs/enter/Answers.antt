use mathlib.Core.Path.{◌≡◌, sym, ◌∙◌}
use native.Mathlib.Omega.{arith}
use lib.ListN.{length}
use borrow.Author.Rules.{rules}
use Rattle.transcript.specs.Lines.{refused_line}
use Rattle.transcript.proofs.Puts.{puts_none}
use Rattle.transcript.proofs.Rooms.{puts_line}
use Rattle.walk.specs.Feeding.{found_text}
use Rattle.walk.proofs.enter.Goals as goal

pub returns-then-is_ended-clause-puts : goal.returns-then-is_ended-clause-puts
unfolding found_text
returns-then-is_ended-clause-puts c = rw (sym c.is_ended.ensures ∙ c.if-is_ended.true) (puts_none _ 0)

pub returns-in-Ok-clause-puts : goal.returns-in-Ok-clause-puts
unfolding found_text
returns-in-Ok-clause-puts c = rw (sym c.is_ended.ensures ∙ c.if-is_ended.false, sym c.look.ensures.value ∙ c.in-Ok.is) (puts_none _ 0)

pub returns-in-Err-clause-puts : goal.returns-in-Err-clause-puts
unfolding found_text
returns-in-Err-clause-puts c = let long : length c.args.out.now ≡ 2048 = search rules in
    let line = puts_line {buf = c.args.out.now} {at = 0} {text = refused_line c.accepted_by.result c.number.result} (omega arith) c.put_refused.ensures.value c.put_refused.ensures.out_after in
    rw (sym c.is_ended.ensures ∙ c.if-is_ended.false, sym c.look.ensures.value ∙ c.in-Err.is) (rw (c.accepted_by.ensures.value, c.number.ensures) at line)
