use Rattle.std.proofs.Common.{◌∙◌, sym, false}
use Rattle.charts.specs.Valid.{cell_fits}
use Rattle.charts.specs.View.{view}
use Rattle.bus.proofs.ReadLaws.{size_below, valid_safe, valid_unsafe}
use Rattle.bus.proofs.validity.is_valid.Goals as goal

pub nodes_fit-requires : goal.nodes_fit-requires
nodes_fit-requires c = size_below _ _ (sym c.is_safe.ensures ∙ c.if-is_safe.true)

pub returns-then-is_safe : goal.returns-then-is_safe
unfolding view cell_fits
returns-then-is_safe c = c.nodes_fit.ensures false false false false ∙ sym (valid_safe _ (sym c.is_safe.ensures ∙ c.if-is_safe.true))

pub returns-else-is_safe : goal.returns-else-is_safe
returns-else-is_safe c = c.if-is_safe.false ∙ sym (valid_unsafe _ (sym c.is_safe.ensures ∙ c.if-is_safe.false))
