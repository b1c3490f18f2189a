-- What a trial gives: refused, and carried through. Assumes nothing.
use mathlib.Core.Path.{◌≡◌, refl, sym, ap}
use mathlib.Core.Bool.{Bool, true, false}
use mathlib.Core.List.{List}
use Prim.Native.Nat.{ℕ, ◌*◌}
use lib.Dec.{eqb}
use lib.Seq.{sets}
use borrow.Author.Tests.{eq-eqb}
use Rattle.std.specs.Prelude.{Ok, Err}
use Rattle.charts.specs.declared.Refusal.{Refusal}
use Rattle.charts.specs.declared.Tally.{Tally}
use Rattle.charts.specs.declared.User.{User}
use Rattle.charts.specs.Numbers as N
use Rattle.charts.specs.Numbers.{number_of, err_number}
use Rattle.charts.specs.Trials.{trial, trial_number, no_tally}
use Rattle.charts.proofs.Tools.{clash}
use Rattle.charts.proofs.Steps.{refuses_it}
use Rattle.files.specs.File.{blocks_for, file_of}
use Rattle.turns.specs.Turns.{tally_after}
use Rattle.trials.specs.Trying.{Tried, refused, tried, tried_of, kept_with, given, file_after}

module _ (us : ℕ → User) (n k : ℕ) where
  -- refused: the tally and the bytes are as they were
  pub refused_is : (old : Tally) (r : Refusal) → number_of r ≡ trial_number us n k → refused old (number_of r) ≡ tried_of old us n k
  unfolding tried_of
  refused_is old r e = rw (← e, refuses_it r)

  pub refused_file : (r : Refusal) (file : List ℕ) → number_of r ≡ trial_number us n k → file ≡ file_after us n k file
  unfolding file_after
  refused_file r file e = rw (← e, refuses_it r)

  -- carried through
  pub tried_is : (old t : Tally) (size : ℕ) → trial_number us n k ≡ N.accepted → size ≡ 512 * blocks_for k → t ≡ tally_after us n k → ◌≡◌ {A = Tried} (record { number = N.accepted; size = size; tally = t }) (tried_of old us n k)
  unfolding tried_of
  tried_is old t size e x y = rw (eq-eqb _ _ e, x, y)

  pub tried_file : (file after : List ℕ) → trial_number us n k ≡ N.accepted → after ≡ sets file 0 (file_of n (trial us n k)) → after ≡ file_after us n k file
  unfolding file_after
  tried_file file after e x = rw (eq-eqb _ _ e) x

  -- a refusal says only its number: whatever tally stands beside it, and whichever was kept before
  pub refused_kept : (old kept t : Tally) (r : Refusal) → kept_with (Err r) t ≡ tried_of kept us n k → refused old (number_of r) ≡ tried_of old us n k
  unfolding tried_of
  refused_kept old kept t r e = go (eqb (trial_number us n k) N.accepted) refl
    where
      go : (b : Bool) → eqb (trial_number us n k) N.accepted ≡ b → refused old (number_of r) ≡ tried_of old us n k
      go true x = let y : refused t (number_of r) ≡ tried us n k = rw x at e in clash _ (ap (λ z. eqb z.number 0) y) (refuses_it r)
      go false x = let y : refused t (number_of r) ≡ refused kept (trial_number us n k) = rw x at e in rw x (ap (λ z. refused old z.number) y)

  -- what is carried through is so whatever tally was kept before
  pub tried_kept : (old t : Tally) (size : ℕ) → given (Ok (size, t)) ≡ tried_of no_tally us n k → ◌≡◌ {A = Tried} (record { number = N.accepted; size = size; tally = t }) (tried_of old us n k)
  unfolding tried_of
  tried_kept old t size e = go (eqb (trial_number us n k) N.accepted) refl
    where
      go : (b : Bool) → eqb (trial_number us n k) N.accepted ≡ b → ◌≡◌ {A = Tried} (record { number = N.accepted; size = size; tally = t }) (tried_of old us n k)
      go true x = rw x (rw x at e)
      go false x =
          let y : ◌≡◌ {A = Tried} (record { number = N.accepted; size = size; tally = t }) (refused no_tally (trial_number us n k)) = rw x at e in
          clash _ (eq-eqb _ _ (sym (ap (λ z. z.number) y))) x
