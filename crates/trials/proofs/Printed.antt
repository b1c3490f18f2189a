-- The run file of a trial prints the text of the trial's list: a line for each of the events that its tally counts. Assumes nothing.
use mathlib.Core.Path.{◌≡◌}
use Prim.Native.Nat.{ℕ, ◌≤◌}
use Rattle.charts.specs.declared.User.{User}
use Rattle.charts.specs.Numbers as N
use Rattle.charts.specs.Trials.{trial, trial_number}
use Rattle.files.specs.File.{file_of}
use Rattle.player.specs.Printed.{printed, list_printed}
use Rattle.player.proofs.Files.{file_printed}
use Rattle.trials.proofs.Files.{trial_file}

pub trial_printed : (us : ℕ → User) (n k : ℕ) → trial_number us n k ≡ N.accepted → k ≤ 65535 → printed (file_of n (trial us n k)) ≡ list_printed n (trial us n k)
trial_printed us n k e few = file_printed n (trial us n k) (file_of n (trial us n k)) (trial_file us n k e few).is_file
