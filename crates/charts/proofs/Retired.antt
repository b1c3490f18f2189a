-- Request 10: no accepted request is to its own node. Assumes nothing.
use mathlib.Core.Path.{◌≡◌, sym, ap, subst}
use mathlib.Core.Logic.{⊎_elim}
use mathlib.Core.Bool.{Bool, true, false}
use mathlib.Core.List.Memᴰ
use mathlib.Core.List.{List, [], ◌∷◌}
use Rattle.charts.specs.declared.Move.{Move}
use Rattle.charts.specs.declared.Move.TheVariants.{Request, Reset}
use Rattle.charts.specs.declared.Action.{Action}
use Rattle.charts.specs.State.{State}
use Rattle.charts.specs.Records.{is_own}
use Rattle.charts.specs.Step.{Result, Event, refusal, accepted, step}
use Rattle.charts.specs.Retired.{NoneToItself}
use Rattle.charts.proofs.Tools.{never}
use Rattle.charts.proofs.Steps.{Known, Stepped, refused, acts, stepped}

abbrev is_act : Event → Bool
is_act (refusal k) = false
is_act (accepted m r) = true

abbrev move_in : Event → Move
move_in (refusal k) = Reset
move_in (accepted m r) = m

pub none_to_itself : (s : State) (l : List Action) → NoneToItself s l
none_to_itself s [] i p r h = absurd (Memᴰ.not-nil h)
none_to_itself s (a ∷ l) i p r h = ⊎_elim (go (stepped s a)) (none_to_itself (step s a).state l i p r) (Memᴰ.cases_cons h)
  where
    go : {x : Result} {e : Event} → Stepped s a x e → accepted (Request i p) r ≡ e → is_own i p.to ≡ false
    go (refused k) q = never (sym (ap is_act q))
    go (acts v k l m f) q = (subst (Known s.n) (sym (ap move_in q)) k).1.1
