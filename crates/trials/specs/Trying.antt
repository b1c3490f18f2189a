-- The code's trial seen as the charts' (charts' Trials.antt), and what a trial gives: its number, its run file and its tally.
use Rattle.std.specs.Prelude.{cond, List, [], ◌∷◌, ◌++◌, ℕ, zero, suc, ◌+◌, ◌*◌, eqb, Result, Ok, Err}
use Rattle.std.proofs.lemmas.List.Edits.{sets}
use Rattle.charts.specs.declared.Action.{Action}
use Rattle.charts.specs.declared.Refusal.{Refusal}
use Rattle.charts.specs.declared.Tally.{Tally}
use Rattle.charts.specs.declared.User.{User}
use Rattle.charts.specs.Numbers as N
use Rattle.charts.specs.Numbers.{number_of}
use Rattle.charts.specs.Trials.{chosen, trial, trial_number, no_tally}
use Rattle.files.specs.File.{blocks_for, file_of}
use Rattle.turns.specs.Turns.{tally_after, Stands}
use Rattle.trials.specs.declared.block.Trial.{Trial}

-- the code's trial after k actions
abbrev pub StandsAt : (ℕ → User) → ℕ → Trial → Type 0
StandsAt us k t = Stands us k t.bus t.kept t.tally

-- so many of a trial's actions, from one on
abbrev pub part : (ℕ → User) → ℕ → ℕ → ℕ → List Action
part us n from zero = []
part us n from (suc k) = part us n from k ++ (chosen us n (from + k) ∷ [])

-- what a trial gives beside its run file: the number of its refusal, the size of its run file and the tally
pub record Tried : Type 0 where
  pub number : ℕ
  pub size : ℕ
  pub tally : Tally

-- with the tally that was kept before it: "and then the tally stays as it was"
abbrev pub refused : Tally → ℕ → Tried
refused old number = record { number = number; size = 0; tally = old }

abbrev pub tried : (ℕ → User) → ℕ → ℕ → Tried
tried us n k = record { number = N.accepted; size = 512 * blocks_for k; tally = tally_after us n k }

unfoldable pub tried_of : Tally → (ℕ → User) → ℕ → ℕ → Tried
tried_of old us n k = cond (eqb (trial_number us n k) N.accepted) (tried us n k) (refused old (trial_number us n k))

-- what the calls give, seen as that: with a tally that is lent, and with one by value
abbrev pub kept_with : Result ℕ Refusal → Tally → Tried
kept_with (Ok size) t = record { number = N.accepted; size = size; tally = t }
kept_with (Err k) t = refused t (number_of k)

abbrev pub given : Result (ℕ × Tally) Refusal → Tried
given (Ok x) = record { number = N.accepted; size = x.0; tally = x.1 }
given (Err k) = refused no_tally (number_of k)

-- the lent bytes after it: the run file of its actions stands at their start
unfoldable pub file_after : (ℕ → User) → ℕ → ℕ → List ℕ → List ℕ
file_after us n k file = cond (eqb (trial_number us n k) N.accepted) (sets file 0 (file_of n (trial us n k))) file
