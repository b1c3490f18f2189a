use mathlib.Core.Path.{◌≡◌, refl, ap, ◌∙◌, fun_ext}
use Prim.Native.Nat.{ℕ, zero, suc}
use lib.ListN.{replicate}
use Rattle.charts.specs.Trials.{nothing_kept}
use Rattle.charts.specs.View.{view}
use Rattle.charts.proofs.Validity.{begin_fresh}
use Rattle.turns.specs.Turns.{kept_in}
use Rattle.trials.proofs.begin.Goals as goal

none_kept : (n k : ℕ) → kept_in (replicate n nothing_kept) k ≡ nothing_kept
none_kept zero k = refl
none_kept (suc n) zero = refl
none_kept (suc n) (suc k) = none_kept n k

pub returns-clause-n_value : goal.returns-clause-n_value
unfolding view
returns-clause-n_value c = ap (λ r. r.state.n) (c.fresh.ensures ∙ begin_fresh _ c.requires)

pub returns-clause-made_value : goal.returns-clause-made_value
unfolding view
returns-clause-made_value c = λ t. record { state = ap (λ r. r.state) (c.fresh.ensures ∙ begin_fresh _ c.requires) t; kept = fun_ext (none_kept 63) t }
