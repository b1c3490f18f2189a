-- `denote.Triple.Walked`'s `says` for a contract of two and of three `ensures` clauses, which a walk's end asks as P ∗ (⌜φ⌝ ∗ ⌜ψ⌝) and P ∗ (⌜φ⌝ ∗ (⌜ψ⌝ ∗ ⌜χ⌝)): each fact is shown, and P is left. It says nothing of the crate, and can be copied as it stands.
use mathlib.Core.List.{List}
use seplogic.Ra.Ura.{Ura}
use base.Logic.{SProp, ent, sep, emp, via, mono_l, comm∗, emp∗}
use types.Logic.{Logic}
use contract.Monad.{fact, fact_i}
use types.Kit.{Item, prop, Step, step}

module _ {M : Type 1} (𝓤 : Ura M) where
  -- a fact is had for nothing, beside anything
  beside : {φ : Type 0} (P : SProp 𝓤) → φ → ent 𝓤 P (sep 𝓤 (fact 𝓤 φ) P)
  beside {φ} P x = via 𝓤 (sep 𝓤 (emp 𝓤) P) (emp∗ 𝓤 P) (mono_l 𝓤 P (fact_i 𝓤 φ (emp 𝓤) x))

  both : {φ ψ : Type 0} → φ → ψ → ent 𝓤 (emp 𝓤) (sep 𝓤 (fact 𝓤 φ) (fact 𝓤 ψ))
  both {φ} {ψ} x y = via 𝓤 (fact 𝓤 ψ) (fact_i 𝓤 ψ (emp 𝓤) y) (beside (fact 𝓤 ψ) x)

  three : {φ ψ χ : Type 0} → φ → ψ → χ → ent 𝓤 (emp 𝓤) (sep 𝓤 (fact 𝓤 φ) (sep 𝓤 (fact 𝓤 ψ) (fact 𝓤 χ)))
  three {φ} {ψ} {χ} x y z = via 𝓤 (sep 𝓤 (fact 𝓤 ψ) (fact 𝓤 χ)) (both y z) (beside (sep 𝓤 (fact 𝓤 ψ) (fact 𝓤 χ)) x)

  -- what is had for nothing goes behind P
  behind : (P Q : SProp 𝓤) → ent 𝓤 (emp 𝓤) Q → ent 𝓤 P (sep 𝓤 P Q)
  behind P Q x = via 𝓤 (sep 𝓤 (emp 𝓤) P) (emp∗ 𝓤 P) (via 𝓤 (sep 𝓤 Q P) (mono_l 𝓤 P x) (comm∗ 𝓤 Q P))

module _ {M : Type 1} {𝓤 : Ura M} {𝓛 : Logic 𝓤} {K : Type 0} {Γ : List (Item 𝓤)} where
  pub says2 : K → {φ ψ : Type 0} {P : SProp 𝓤} → φ → ψ → Step K 𝓛 Γ (prop P) Γ (prop (sep 𝓤 P (sep 𝓤 (fact 𝓤 φ) (fact 𝓤 ψ))))
  says2 t {φ} {ψ} {P} x y = step (λ s. record { prf = via 𝓤 P s.prf (behind 𝓤 P (sep 𝓤 (fact 𝓤 φ) (fact 𝓤 ψ)) (both 𝓤 x y)) })

  pub says3 : K → {φ ψ χ : Type 0} {P : SProp 𝓤} → φ → ψ → χ → Step K 𝓛 Γ (prop P) Γ (prop (sep 𝓤 P (sep 𝓤 (fact 𝓤 φ) (sep 𝓤 (fact 𝓤 ψ) (fact 𝓤 χ)))))
  says3 t {φ} {ψ} {χ} {P} x y z = step (λ s. record { prf = via 𝓤 P s.prf (behind 𝓤 P (sep 𝓤 (fact 𝓤 φ) (sep 𝓤 (fact 𝓤 ψ) (fact 𝓤 χ))) (three 𝓤 x y z)) })
