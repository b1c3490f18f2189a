use mathlib.Core.Path.{◌≡◌, refl, sym, ◌∙◌}
use Prim.Native.Nat.{◌≤◌}
use native.Mathlib.Omega.{arith}
use lib.ListN.{length, take}
use lib.Seq.{length-take-le}
use borrow.Author.Rules.{rules}
use Rattle.transcript.proofs.Rooms.{puts_in}
use Rattle.figures.specs.Figures.{figures_line, room_for}
use Rattle.files.proofs.Stages.{ended_after}
use Rattle.walk.specs.Reading.{reading}
use Rattle.walk.proofs.Feeds.{fed_nothing}
use Rattle.walk.proofs.Nodes.{fed_part}
use Rattle.summing.specs.Summed.{tracing}
use Rattle.summing.proofs.Turns.{tracing_n}
use Rattle.summing.proofs.SummingWalk.feed.Goals as goal

pub returns-in_default : goal.returns-in_default
returns-in_default c =
    let fed = fed_nothing tracing (reading c.args.self.n c.args.self.stage) c.args.piece.now c.args.out.now (sym c.enter-entered.ensures.found_value ∙ c.in_default.is) c.enter-entered.ensures.puts in
    record { end_bound = omega arith; end_value = fed.0; out_after = fed.1.0; walk_value = fed.1.1; ended_value = refl }

-- a block that passed 11 has at most 31 actions, and so many sums
pub returns : goal.returns
returns c =
    let head = c.in-Some.head in
    let known = rw c.in-Some.is at c.enter-entered.ensures.found_fits in
    let all : length c.action_sums-sums.result ≡ 31 = search rules in
    let size = length-take-le head.count c.action_sums-sums.result (omega (arith, known.1)) in
    let room : room_for (take head.count c.action_sums-sums.result) ≤ 2048 = omega (arith, size, known.1) in
    let long : length c.enter-entered.new.out ≡ 2048 = search rules in
    let heading = rw c.action_sums-sums.ensures at (puts_in {buf = c.enter-entered.new.out} {at = 0} {text = figures_line head.number (take head.count c.action_sums-sums.result)} (room_for (take head.count c.action_sums-sums.result)) (omega (arith, room)) c.put_figures-at.ensures.value c.put_figures-at.ensures.out_after) in
    let looks = rw c.accepted_by-first.ensures.value at c.look_at_actions-part.ensures.puts_part in
    let fed = fed_part tracing_n c.args.self.n c.args.self.stage c.args.piece.now c.args.out.now head (sym c.enter-entered.ensures.found_value ∙ c.in-Some.is) c.enter-entered.ensures.puts heading looks in
    rw c.stage_after.ensures record { end_bound = c.look_at_actions-part.ensures.end_bound; end_value = fed.0; out_after = fed.1.0; walk_value = fed.1.1; ended_value = sym (ended_after _ _ _) }
