-- The name that a word stands for is the first in the table with its text. Assumes nothing.
use Rattle.std.proofs.Common.{Bool, true, false, cond, Bor, get_or, List, [], ◌∷◌, ℕ, ◌≡◌, refl, Option, None, Some, ap, sym, ◌∙◌}
use Rattle.std.specs.Str.{bytes_eq}
use Rattle.std.specs.List.{find}
use Rattle.std.specs.Option.{option_map}
use Rattle.charts.specs.declared.Kind.TheVariants as K
use Rattle.charts.specs.declared.Word.TheVariants as R
use Rattle.words.specs.declared.Name.{Name}
use Rattle.words.specs.declared.Name.TheVariants as V
use Rattle.words.specs.Names.{name_number}
use Rattle.words.specs.Words.{texts, named_in}

first : (w : List ℕ) (l : List (Bor (List ℕ) × Name)) → option_map (λ x. x.1) (find (λ x. bytes_eq w x.0.now) l) ≡ named_in (texts l) w
first w [] = refl
first w (x ∷ l) = go (bytes_eq w x.0.now) (first w l)
  where
    go : (b : Bool) → option_map (λ y. y.1) (find (λ y. bytes_eq w y.0.now) l) ≡ named_in (texts l) w → option_map (λ y. y.1) (cond b (Some x) (find (λ y. bytes_eq w y.0.now) l)) ≡ cond b (Some x.1) (named_in (texts l) w)
    go true h = refl
    go false h = h

pub found : (w : List ℕ) (l : List (Bor (List ℕ) × Name)) (r : Option (Bor (Bor (List ℕ) × Name)))
    → option_map (λ x. x.now) r ≡ find (λ x. bytes_eq w x.0.now) l → option_map (λ x. x.now.1) r ≡ named_in (texts l) w
found w l None h = ap (option_map (λ x. x.1)) h ∙ first w l
found w l (Some x) h = ap (option_map (λ x. x.1)) h ∙ first w l

-- a name is told by its number
abbrev all : List Name
all = V.Nodes ∷ (V.Kind K.Request) ∷ (V.Kind K.Arbitrate) ∷ (V.Kind K.Respond) ∷ (V.Kind K.Clock) ∷ (V.Kind K.Pass) ∷ (V.Kind K.Lose) ∷ (V.Kind K.Change) ∷ (V.Kind K.Grant) ∷ (V.Kind K.Gap) ∷ (V.Kind K.Reset) ∷ (V.Kind K.Ask) ∷ (V.Kind K.Decide) ∷ V.Nodes ∷ V.All ∷ V.Hold ∷ V.Times ∷ V.Label ∷ V.Actions ∷ V.User ∷ V.To ∷ V.Spell ∷ V.Fillers ∷ V.Find ∷ V.Within ∷ (V.Report R.Won) ∷ (V.Report R.Lost) ∷ (V.Report R.Sent) ∷ (V.Report R.Ack) ∷ (V.Report R.Miss) ∷ (V.Report R.Drop) ∷ (V.Report R.Good) ∷ (V.Report R.Dcrc) ∷ (V.Report R.Broad) ∷ []

back : (k : Name) → get_or all (name_number k) V.Nodes ≡ k
back (V.Kind K.Request) = refl
back (V.Kind K.Arbitrate) = refl
back (V.Kind K.Respond) = refl
back (V.Kind K.Clock) = refl
back (V.Kind K.Pass) = refl
back (V.Kind K.Lose) = refl
back (V.Kind K.Change) = refl
back (V.Kind K.Grant) = refl
back (V.Kind K.Gap) = refl
back (V.Kind K.Reset) = refl
back (V.Kind K.Ask) = refl
back (V.Kind K.Decide) = refl
back V.Nodes = refl
back V.All = refl
back V.Hold = refl
back V.Times = refl
back V.Label = refl
back V.Actions = refl
back V.User = refl
back V.To = refl
back V.Spell = refl
back V.Fillers = refl
back V.Find = refl
back V.Within = refl
back (V.Report R.Won) = refl
back (V.Report R.Lost) = refl
back (V.Report R.Sent) = refl
back (V.Report R.Ack) = refl
back (V.Report R.Miss) = refl
back (V.Report R.Drop) = refl
back (V.Report R.Good) = refl
back (V.Report R.Dcrc) = refl
back (V.Report R.Broad) = refl

pub same_number : (j k : Name) → name_number j ≡ name_number k → j ≡ k
same_number j k h = sym (back j) ∙ (ap (λ (x : ℕ). get_or all x V.Nodes) h ∙ back k)
