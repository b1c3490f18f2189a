-- An action played again and again. Assumes nothing.
use mathlib.Core.Path.{◌≡◌, sym, ap, ◌∙◌}
use mathlib.Core.Bool.{cond}
use Prim.Native.Nat.{ℕ, zero, suc, ◌-◌, ◌<◌}
use native.Mathlib.Omega.{arith}
use borrow.Author.Tests.{eq-eqb, ne_eqb}
use lib.Dec.{eqb}
use Rattle.charts.proofs.Cases.{refused_keeps}
use Rattle.charts.proofs.Steps.{refuses_it}
use Rattle.charts.specs.declared.Action.{Action}
use Rattle.charts.specs.declared.Refusal.{Refusal}
use Rattle.charts.specs.Numbers.{number_of}
use Rattle.charts.specs.State.{State}
use Rattle.charts.specs.Step.{Result, refuses, step, is_accepted}
use Rattle.finder.specs.Reader.{repeated}

module _ (s : State) (a : Action) (x : Result) (e : x ≡ step s a) where
  -- accepted, it goes on from what it left
  pub goes_on : (left : ℕ) → 0 < left → x.number ≡ 0 → repeated left s a ≡ repeated (left - 1) x.state a
  goes_on zero h o = absurd (omega (arith, h))
  goes_on (suc k) h o =
      let one_less : k ≡ suc k - 1 = omega arith in
      ap (λ r. cond (is_accepted r) (repeated k r.state a) (refuses s r.number)) (sym e) ∙ ap (λ b. cond b (repeated k x.state a) (refuses s x.number)) (eq-eqb x.number 0 o) ∙ ap (λ j. repeated j x.state a) one_less

  -- refused, it ends there
  pub ends-here : (left : ℕ) → 0 < left → ((x.number ≡ 0) → ⊥) → x ≡ repeated left s a
  ends-here zero h o = absurd (omega (arith, h))
  ends-here (suc k) h o =
      let n = ne_eqb x.number 0 o in
      e ∙ refused_keeps s a (ap is_accepted (sym e) ∙ n) ∙ ap (λ r. refuses s r.number) (sym e)
      ∙ sym (ap (λ r. cond (is_accepted r) (repeated k r.state a) (refuses s r.number)) (sym e) ∙ ap (λ b. cond b (repeated k x.state a) (refuses s x.number)) n)

  -- with its refusal
  pub refused_here : (left : ℕ) (k : Refusal) → 0 < left → x.number ≡ number_of k → refuses s (number_of k) ≡ repeated left s a
  refused_here zero k h o = absurd (omega (arith, h))
  refused_here (suc j) k h o =
      sym (ap (λ r. cond (is_accepted r) (repeated j r.state a) (refuses s r.number)) (sym e) ∙ ap (λ n. cond (eqb n 0) (repeated j x.state a) (refuses s n)) o ∙ ap (λ b. cond b (repeated j x.state a) (refuses s (number_of k))) (refuses_it k))
