use mathlib.Core.Path.{refl, sym, ◌∙◌}
use native.Mathlib.Omega.{arith}
use Rattle.files.proofs.Stages.{ended_after}
use Rattle.walk.specs.Reading.{reading}
use Rattle.walk.proofs.Feeds.{fed_nothing}
use Rattle.walk.proofs.Nodes.{fed_part}
use Rattle.listing.specs.Listed.{naming}
use Rattle.listing.proofs.Turns.{naming_n}
use Rattle.listing.proofs.ListingWalk.feed.Goals as goal

pub returns-in_default : goal.returns-in_default
returns-in_default c =
    let fed = fed_nothing naming (reading c.args.self.n c.args.self.stage) c.args.piece.now c.args.out.now (sym c.enter-entered.ensures.found_value ∙ c.in_default.is) c.enter-entered.ensures.puts in
    record { end_bound = omega arith; end_value = fed.0; out_after = fed.1.0; walk_value = fed.1.1; ended_value = refl }

pub returns : goal.returns
returns c =
    let head = c.in-Some.head in
    let lists = rw c.accepted_by-first.ensures.value at c.put_actions-part.ensures.puts_part in
    let fed = fed_part naming_n c.args.self.n c.args.self.stage c.args.piece.now c.args.out.now head (sym c.enter-entered.ensures.found_value ∙ c.in-Some.is) c.enter-entered.ensures.puts
    c.put_nodes_once-at.ensures.puts lists in
    rw c.stage_after.ensures record { end_bound = c.put_actions-part.ensures.end_bound; end_value = fed.0; out_after = fed.1.0; walk_value = fed.1.1; ended_value = sym (ended_after _ _ _) }
