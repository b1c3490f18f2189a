-- The run file of a trial that is not refused: a file of the trial's list, and the only one. Assumes nothing.
use mathlib.Core.Path.{◌≡◌}
use Prim.Native.Nat.{ℕ, ◌≤◌}
use Rattle.charts.specs.declared.User.{User}
use Rattle.charts.specs.Numbers as N
use Rattle.charts.specs.Trials.{trial, trial_number}
use Rattle.files.specs.File.{OneFile}
use Rattle.files.proofs.Files.{one_file}
use Rattle.trials.proofs.Allowing.{goes}
use Rattle.trials.proofs.Taking.{taken}

pub trial_file : (us : ℕ → User) (n k : ℕ) → trial_number us n k ≡ N.accepted → k ≤ 65535 → OneFile n (trial us n k)
trial_file us n k e few = let g = goes us n k e in one_file n (trial us n k) (taken us n g.allowed k g.some_actions few)
