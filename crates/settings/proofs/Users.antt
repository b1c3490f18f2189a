-- The users in their array: a user stored, and what is then read. Assumes nothing.
use mathlib.Core.Path.{◌≡◌, refl}
use mathlib.Core.List.{List}
use Prim.Native.Nat.{ℕ, zero, suc, ◌<◌}
use lib.ListN.{length, get_or, set, replicate}
use Rattle.charts.specs.State.{upd}
use Rattle.charts.specs.declared.User.{User}
use Rattle.charts.proofs.Views.{get_d_set}
use Rattle.charts.specs.View.{no_user, users_of}
use Rattle.settings.specs.Settings.{no_users}
use Rattle.settings.specs.Meant.{unsaid}

-- a user stored at i is the user of i, and the others stay
pub with_user_lem : (us : List User) (i : ℕ) (u : User) → i < length us → (j : ℕ) → users_of (set us i u) j ≡ upd (users_of us) i u j
unfolding users_of
with_user_lem us i u h j = get_d_set us i u no_user h j

-- before a text nothing is said of any user
none_there : {A : Type 0} (k i : ℕ) (a : A) → get_or (replicate k a) i a ≡ a
none_there zero i a = refl
none_there (suc k) zero a = refl
none_there (suc k) (suc i) a = none_there k i a

pub nobody : (j : ℕ) → users_of no_users j ≡ unsaid
unfolding users_of
nobody j = none_there 63 j no_user
