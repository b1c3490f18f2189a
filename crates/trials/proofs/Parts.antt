-- A part of a trial's actions, and their records stored one after the other. Assumes nothing.
use mathlib.Core.Path.{◌≡◌, refl, ap, subst, ◌∙◌}
use mathlib.Core.List.{List, [], ◌∷◌, ◌++◌}
use Prim.Native.Nat.{ℕ, zero, suc, ◌+◌, ◌*◌, ◌<◌}
use native.Mathlib.Omega.{arith}
use lib.ListN.{length, take, length-append}
use Rattle.charts.specs.declared.Action.{Action}
use Rattle.charts.specs.declared.User.{User}
use Rattle.charts.specs.Trials.{chosen}
use Rattle.charts.specs.Layout.{bytes_of, records_of}
use Rattle.record.specs.Bytes.{put_at}
use Rattle.files.proofs.Rows.{stored_size, stored_holds}
use Rattle.trials.specs.Trying.{part}

module _ (us : ℕ → User) (n from : ℕ) where
  pub part_length : (k : ℕ) → length (part us n from k) ≡ k
  part_length zero = refl
  part_length (suc k) = let e = part_length k in length-append (part us n from k) (chosen us n (from + k) ∷ []) ∙ omega arith

  -- the record of the next action stored after those of k
  module _ (k : ℕ) (s : List ℕ) (a : Action) (size : length s ≡ 496) (few : k < 31) (holds : take (16 * k) s ≡ records_of (part us n from k)) where
    these : List Action
    these = part us n from k

    count_is : length these ≡ k
    unfolding these
    count_is = part_length k

    holds_these : take (16 * length these) s ≡ records_of these
    unfolding these
    holds_these = ap (λ j. take (16 * j) s) count_is ∙ holds

    pub next_size : length (put_at s (16 * k) (bytes_of a)) ≡ 496
    next_size = subst (λ j. length (put_at s (16 * j) (bytes_of a)) ≡ 496) count_is (stored_size s these a size (let e = count_is in omega arith) holds_these)

    pub next_holds : a ≡ chosen us n (from + k) → take (16 * (k + 1)) (put_at s (16 * k) (bytes_of a)) ≡ records_of (part us n from (k + 1))
    unfolding these
    next_holds e = subst (λ j. take (16 * j) (put_at s (16 * k) (bytes_of a)) ≡ records_of (part us n from j)) (one_more k)
        (subst (λ j. take (16 * suc j) (put_at s (16 * j) (bytes_of a)) ≡ records_of (these ++ (a ∷ []))) count_is (stored_holds s these a size (let e = count_is in omega arith) holds_these)
        ∙ ap (λ a. records_of (these ++ (a ∷ []))) e)
      where
        one_more : (k : ℕ) → suc k ≡ k + 1
        one_more k = omega arith
