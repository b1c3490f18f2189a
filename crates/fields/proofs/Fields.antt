-- A word is a name, and what may be said is there, where its number is that of the name. Assumes nothing.
use Rattle.std.proofs.Common.{Bool, true, false, cond, List, [], ◌∷◌, ℕ, ◌≡◌, refl, Option, None, Some, ap}
use Rattle.std.specs.Bool.{Decides}
use Rattle.std.proofs.lemmas.Bool.Decides.{same_from_decides}
use borrow.Author.Tests.{eq-eqb, eqb-true}
use Rattle.words.specs.declared.Name.{Name}
use Rattle.words.specs.declared.Token.{Token}
use Rattle.words.specs.declared.Token.TheVariants.{Word, Number, Large}
use Rattle.words.specs.Names.{name_number}
use Rattle.words.proofs.Names.{same_number}
use Rattle.fields.specs.Fields.{Part, got, after_word, is_word, option_in}

tells : (t : Token) (k : Name) → Decides (is_word k t) (t ≡ Word (Some k))
tells (Word None) k = (λ e. cc, λ e. cc)
tells (Word (Some j)) k = (λ e. ap (λ (x : Name). Word (Some x)) (same_number j k (eqb-true _ _ e)), λ e. let same : j ≡ k = cc in rw same (eq-eqb (name_number k) (name_number k) refl))
tells (Number x) k = (λ e. cc, λ e. cc)
tells Large k = (λ e. cc, λ e. cc)

pub is_word_lem : (t : Token) (k : Name) (r : Bool) → Decides r (t ≡ Word (Some k)) → r ≡ is_word k t
is_word_lem t k r h = same_from_decides r (is_word k t) h (tells t k)

-- what an optional word's value is, by the place after the word
abbrev pub value_after : (List Token → Part ℕ) → List Token → Option (List Token) → Part ℕ
value_after value l None = got 0 l
value_after value l (Some m) = value m

pub option_after : (k : Name) (value : List Token → Part ℕ) (l : List Token) → option_in k value l ≡ value_after value l (after_word k l)
unfolding option_in
option_after k value [] = refl
option_after k value (t ∷ l) = go (is_word k t)
  where
    go : (b : Bool) → cond b (value l) (got 0 (t ∷ l)) ≡ value_after value (t ∷ l) (cond b (Some l) None)
    go true = refl
    go false = refl
