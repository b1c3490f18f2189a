use Rattle.std.proofs.Common.{◌≡◌, refl, ℕ, List, [], ◌∷◌, Bool, true, false, cond, ◌&&◌, take}
use Rattle.std.specs.Str.{bytes_eq}
use native.Mathlib.Omega.{arith}
use lib.Dec.{eqb}
use Rattle.std.proofs.lemmas.Bool.Decides.{nat_tests}
use Rattle.notation.specs.Meaning.{mark_size}
use Rattle.notation.proofs.mark_size.Goals as goal

same_test : (a b : ℕ) → eqb a b ≡ eqb b a
same_test a b = grind (arith, nat_tests)

-- the first three bytes, as `starts_with` compares them
mark : (t : List ℕ) → cond (bytes_eq (239 ∷ 187 ∷ 191 ∷ []) (take 3 t)) 3 0 ≡ mark_size t
unfolding mark_size
mark [] = refl
mark (a ∷ []) = rw (same_test 239 a) refl
mark (a ∷ b ∷ []) = rw (same_test 239 a, same_test 187 b) refl
mark (a ∷ b ∷ c ∷ l) = rw (same_test 239 a, same_test 187 b, same_test 191 c) (go (eqb a 239) (eqb b 187) (eqb c 191))
  where
    go : (p q r : Bool) → ◌≡◌ {A = ℕ} (cond (p && (q && (r && true))) 3 0) (cond (p && (q && r)) 3 0)
    go p q true = refl
    go p q false = refl

pub returns-then-starts_with-clause-value : goal.returns-then-starts_with-clause-value
returns-then-starts_with-clause-value c = rw (← c.starts_with.ensures.value, c.if-starts_with.true) at (mark c.args.text.now)

pub returns-else-starts_with-clause-value : goal.returns-else-starts_with-clause-value
returns-else-starts_with-clause-value c = rw (← c.starts_with.ensures.value, c.if-starts_with.false) at (mark c.args.text.now)
