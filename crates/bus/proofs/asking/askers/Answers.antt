use Rattle.std.proofs.Common.{◌≡◌, ap, ◌∙◌, arith}
use Rattle.bus.specs.Asking.{askers_in}
use Rattle.bus.proofs.Counts.{askers_placed}
use Rattle.bus.proofs.asking.askers.Goals as goal

pub returns : goal.returns
returns c =
    let all : c.loop-k.k ≡ c.places-k-end.result = omega arith in
    c.loop-k.invariant.1 ∙ ap (askers_in c.args.nodes.now) (all ∙ c.places-k-end.ensures.value) ∙ askers_placed c.args.nodes.now c.args.n c.told-nodes
