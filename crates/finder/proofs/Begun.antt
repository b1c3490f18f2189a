-- A fresh bus of a size that the `nodes` line may say. Assumes nothing.
use mathlib.Core.Path.{◌≡◌, ap, ◌∙◌}
use mathlib.Core.Bool.{true, cond}
use Prim.Native.Nat.{ℕ}
use Rattle.charts.specs.declared.Begun.{Begun}
use Rattle.charts.specs.declared.Report.TheVariants.{Silent}
use Rattle.charts.specs.Numbers as N
use Rattle.charts.specs.State.{fresh}
use Rattle.charts.specs.Step.{refuses, begin}
use Rattle.charts.specs.Valid.{is_size}
use Rattle.charts.specs.View.{view, seen_begun}

pub begun_fresh : (m : ℕ) (r : Begun) → is_size m ≡ true → seen_begun r ≡ begin m → view r.bus ≡ fresh m
unfolding begin
begun_fresh m r e q = ap (λ r. r.state) q ∙ ap (λ b. (cond b (record { number = N.accepted; report = Silent; state = fresh m }) (refuses (fresh 0) N.wrong_size)).state) e
