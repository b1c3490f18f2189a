use mathlib.Core.Path.{◌≡◌, refl, ◌∙◌}
use native.Mathlib.Nat.{zero-add}
use native.Mathlib.Omega.{arith}
use lib.ListN.{length}
use borrow.Author.Rules.{rules}
use Rattle.transcript.specs.Lines.{refused_line}
use Rattle.transcript.proofs.Puts.{puts_none}
use Rattle.transcript.proofs.Rooms.{puts_line}
use Rattle.walk.specs.Feeding.{finish_of}
use Rattle.listing.proofs.Turns.{no_end}
use Rattle.listing.proofs.ListingWalk.finish.Goals as goal

pub returns-in-Unopened : goal.returns-in-Unopened
unfolding finish_of
returns-in-Unopened c = let long : length c.args.out.now ≡ 2048 = search rules in
    let text = puts_line {buf = c.args.out.now} {at = 0} {text = refused_line 0 c.number.result} (omega arith) c.put_refused.ensures.value c.put_refused.ensures.out_after in
    let line = rw c.number.ensures at text in
    rw c.in-Unopened.is record { upper_bound = omega arith; value = line.ends ∙ zero-add _; out_after = line.holds }

pub returns-in_default : goal.returns-in_default
returns-in_default c = rw (no_end _ c.in_default.not-Unopened) record { upper_bound = omega arith; value = refl; out_after = (puts_none _ 0).holds }
