use mathlib.Core.Path.{◌≡◌, refl, ◌∙◌}
use native.Mathlib.Nat.{zero-add}
use native.Mathlib.Omega.{arith}
use lib.ListN.{length}
use borrow.Author.Rules.{rules}
use Rattle.transcript.specs.Lines.{done_line, refused_line}
use Rattle.transcript.proofs.Puts.{puts_none}
use Rattle.transcript.proofs.Rooms.{puts_line}
use Rattle.walk.specs.Feeding.{finish_of}
use Rattle.walk.proofs.put_end.Goals as goal

pub returns-in-Unopened : goal.returns-in-Unopened
unfolding finish_of
returns-in-Unopened c = let long : length c.args.out.now ≡ 2048 = search rules in
    let text = puts_line {buf = c.args.out.now} {at = 0} {text = refused_line 0 c.number.result} (omega arith) c.put_refused.ensures.value c.put_refused.ensures.out_after in
    let line = rw c.number.ensures at text in
    rw c.in-Unopened.is record { upper_bound = omega arith; value = line.ends ∙ zero-add _; out_after = line.holds }

pub returns-in-After : goal.returns-in-After
unfolding finish_of
returns-in-After c = let long : length c.args.out.now ≡ 2048 = search rules in
    let text = puts_line {buf = c.args.out.now} {at = 0} {text = done_line c.accepted_by.result} (omega arith) c.put_done.ensures.value c.put_done.ensures.out_after in
    let count = rw c.in-After.is at c.accepted_by.ensures.value in
    rw (c.in-After.is, ← count) record { upper_bound = omega arith; value = text.ends ∙ zero-add _; out_after = text.holds }

pub returns-in-Ended : goal.returns-in-Ended
unfolding finish_of
returns-in-Ended c = rw c.in-Ended.is record { upper_bound = omega arith; value = refl; out_after = (puts_none _ 0).holds }
