use mathlib.Core.Bool.{Bool}
use mathlib.Core.Path.{refl, sym, ap, ◌∙◌}
use native.Mathlib.Omega.{arith}
use Rattle.charts.specs.View.{view}
use Rattle.files.specs.Order.{stage_after}
use Rattle.files.proofs.Stages.{ended_after}
use Rattle.walk.proofs.Feeds.{fed_nothing, fed_block}
use Rattle.player.specs.Feeding.{playing_at, advancing}
use Rattle.player.proofs.PlayerWalk.feed.Goals as goal

pub returns-in_default : goal.returns-in_default
unfolding view
returns-in_default c =
    let fed = fed_nothing advancing (playing_at c.args.self.bus c.args.self.stage) c.args.piece.now c.args.out.now (sym c.enter-entered.ensures.found_value ∙ c.in_default.is) c.enter-entered.ensures.puts in
    record { end_bound = omega arith; end_value = fed.0; out_after = fed.1.0; walk_value = fed.1.1; ended_value = refl }

pub returns : goal.returns
unfolding view
returns c =
    let head = c.in-Some.head in
    let plays = rw (c.opening.ensures, c.accepted_by.ensures.value) at c.play_actions-part.ensures.puts_part in
    let fed = fed_block advancing (playing_at c.args.self.bus c.args.self.stage) c.args.piece.now c.args.out.now head (sym c.enter-entered.ensures.found_value ∙ c.in-Some.is) c.enter-entered.ensures.puts c.put_nodes_once-at.ensures.puts
    plays.puts plays.leaves (c.stage_after.ensures ∙ ap (λ (b : Bool). stage_after b head.number head.count) plays.stops) in
    record { end_bound = c.play_actions-part.ensures.end_bound; end_value = fed.0; out_after = fed.1.0; walk_value = fed.1.1; ended_value = rw c.stage_after.ensures (sym (ended_after _ _ _)) }
