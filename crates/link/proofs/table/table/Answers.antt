use mathlib.Core.Path.{refl}
use Rattle.link.specs.Reading.{cells}
use Rattle.link.proofs.table.table.Goals as goal

pub returns : goal.returns
unfolding cells
returns c = refl
