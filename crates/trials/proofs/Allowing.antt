-- A trial that is not refused: what 1, 5, 15 and 11 have tested. Assumes nothing.
use mathlib.Core.Path.{◌≡◌, refl}
use mathlib.Core.Logic.{◌≢◌}
use mathlib.Core.Bool.{Bool, true, false, cond, not}
use Prim.Native.Nat.{ℕ, ◌<◌, ◌≤◌}
use native.Mathlib.Omega.{arith}
use lib.Dec.{eqb, ltb}
use borrow.Author.Tests.{eqb-false, ltb-true, lt-ltb, not-false}
use Rattle.charts.specs.declared.User.{User}
use Rattle.charts.specs.Numbers as N
use Rattle.charts.specs.State.{some}
use Rattle.charts.specs.Trials.{stray_address, own_address, trial_number}
use Rattle.charts.specs.Valid.{is_size}
use Rattle.charts.proofs.Tools.{and-true, both, none_of}
use Rattle.turns.specs.Turns.{Allowed}

-- a bus of a good size has 2 to 63 nodes
pub size_two : (n : ℕ) → is_size n ≡ true → 2 ≤ n
size_two n e = ltb-true 1 n (and-true (ltb 1 n) (ltb n 64) e).0

pub size_small : (n : ℕ) → is_size n ≡ true → n ≤ 63
size_small n e = let l : n < 64 = ltb-true n 64 (and-true (ltb 1 n) (ltb n 64) e).1 in omega arith

-- and back
pub allowed_size : (us : ℕ → User) (n : ℕ) → Allowed us n → is_size n ≡ true
allowed_size us n a =
    let two = a.two in
    let small = a.small in
    both (ltb 1 n) (ltb n 64) (lt-ltb 1 n (omega arith)) (lt-ltb n 64 (omega arith))

-- the settings of a trial that is not refused are allowed, and it has actions
pub record Goes (us : ℕ → User) (n k : ℕ) : Type 0 where
  pub allowed : Allowed us n
  pub some_actions : 1 ≤ k

pub goes : (us : ℕ → User) (n k : ℕ) → trial_number us n k ≡ N.accepted → Goes us n k
unfolding trial_number
goes us n k e = go (is_size n) (some (stray_address us n) n) (some (own_address us) n) (eqb k 0) refl refl refl refl e
  where
    go : (a b c d : Bool) → is_size n ≡ a → some (stray_address us n) n ≡ b → some (own_address us) n ≡ c → eqb k 0 ≡ d
        → cond (not a) N.wrong_size (cond b N.wrong_address (cond c N.to_itself (cond d N.wrong_count N.accepted))) ≡ N.accepted → Goes us n k
    go true false false false f g o h e =
        let z : k ≢ 0 = eqb-false k 0 h in
        record { allowed = record { two = size_two n f; small = size_small n f; fine = λ j l. (not-false _ (none_of (stray_address us n) n g j l), none_of (own_address us) n o j l) }; some_actions = omega arith }
    go true false false true f g o h e = let z : ◌≡◌ {A = ℕ} 11 0 = e in absurd (omega arith)
    go true false true d f g o h e = let z : ◌≡◌ {A = ℕ} 15 0 = e in absurd (omega arith)
    go true true c d f g o h e = let z : ◌≡◌ {A = ℕ} 5 0 = e in absurd (omega arith)
    go false b c d f g o h e = let z : ◌≡◌ {A = ℕ} 1 0 = e in absurd (omega arith)
