use mathlib.Core.Path.{refl, sym, ◌∙◌}
use Rattle.bus.proofs.ViewLaws.{view_n}
use Rattle.notation.proofs.Readers.{sized_nodes}
use Rattle.finder.specs.Reader.{nodes_taken}
use Rattle.finder.proofs.Begun.{begun_fresh}
use Rattle.finder.proofs.take_nodes.Goals as goal

pub returns : goal.returns
unfolding nodes_taken
returns c =
    let stage = sym c.nodes_stage.ensures ∙ c.in_ok-nodes_stage.was in
    let begun = begun_fresh c.args.n c.fresh.result (sized_nodes c.args.f.now.bus.n c.args.n stage).1 c.fresh.ensures in
    rw (view_n c.args.f.now.bus, stage, begun) refl
