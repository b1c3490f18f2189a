-- Past the table's places, and at each that has no rule of its own, stands Spurious.
use mathlib.Core.Path.{◌≡◌, ap}
use mathlib.Core.Bool.{false, ◌||◌}
use mathlib.Core.List.{List, [], ◌∷◌}
use Prim.Native.Nat.{ℕ, ◌≤◌}
use lib.Dec.{eqb, ltb}
use lib.ListN.{get_or-eq_default}
use borrow.Author.Tests.{eqb-true, ltb-true, ltb-false}
use Rattle.charts.specs.declared.Mode.TheVariants.{Spurious}
use Rattle.charts.specs.declared.Signal.TheVariants.{Start}
use Rattle.charts.specs.Modes as P
use Rattle.charts.specs.Places.{modes}
use Rattle.charts.specs.Signals.{no_head}
use Rattle.charts.specs.Reception.{answer}
use Rattle.charts.specs.Table.{entry_of, entry}
use Rattle.charts.proofs.Tools.{by_test, or-true, table_at, mem}
use Rattle.link.specs.Rules.{tells}

pub past_rule : (p c : ℕ) → 25 ≤ p → entry p c ≡ tells P.spurious 0
past_rule p c l = ap (λ m. entry_of (answer 0 0 m c Start)) (get_or-eq_default (modes 0 0 false no_head 0) Spurious l)

-- the places that have a rule of their own
abbrev pub ruled : List ℕ
ruled =
    P.rest ∷ P.await_ack ∷ P.ack_body ∷ P.ack_good ∷ P.ack_none ∷ P.opened ∷ P.addressed ∷ P.head_own ∷ P.head_all ∷ P.body_own ∷ P.body_all ∷ P.tail_own_good ∷ P.tail_own_bad
    ∷ P.tail_all_good ∷ P.tail_all_bad ∷ P.wait ∷ P.owed ∷ P.sending ∷ P.told ∷ P.answering ∷ P.acking ∷ P.holding ∷ P.listening ∷ P.asked ∷ []

-- every other place is Spurious's, or past the table
pub spurious_rule : (p c : ℕ) → mem p ruled ≡ false → entry p c ≡ tells P.spurious 0
spurious_rule p c e =
    by_test (ltb p 25)
    (λ t. ap (λ p. entry p c) (eqb-true p P.spurious (or-true _ _ (table_at (λ p. mem p ruled || eqb p P.spurious) 25 tt p (ltb-true p 25 t)) e)))
    (λ t. past_rule p c (ltb-false p 25 t))
