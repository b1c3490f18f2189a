use Rattle.std.proofs.Common.{rules}
use mathlib.Core.Path.{refl, ◌∙◌}
use native.Mathlib.Omega.{arith}
use borrow.Author.Tests.{tests}
use Rattle.std.proofs.lemmas.Iterator.{YieldsList-from_range}
use Rattle.std.proofs.lemmas.Iterator.Search.{any_from_yields_List}
use Rattle.charts.specs.Trials.{own_address}
use Rattle.charts.specs.View.{users_of}
use Rattle.trials.proofs.Below.{any_below}
use Rattle.trials.proofs.has_own.Goals as goal

pub returns : goal.returns
unfolding users_of
returns c = any_from_yields_List (own_address (users_of c.args.users.now)) _ _ c.any.result c.any.ensures.ran (YieldsList-from_range 0 c.args.n c.args.n refl (omega arith)) (λ x b q k. (search rules, search (rules, tests)))
    ∙ any_below (own_address (users_of c.args.users.now)) c.args.n
