-- The places of a line, one after the other. Assumes nothing.
use mathlib.Core.Path.{◌≡◌, refl, sym}
use mathlib.Core.Bool.{Bool, true, false, cond}
use mathlib.Core.Logic.{◌⊎◌, inl, inr}
use Prim.Native.Nat.{ℕ, zero, suc, ◌+◌, ◌-◌, ◌<◌, ◌≤◌}
use native.Mathlib.Omega.{arith}
use Rattle.charts.proofs.Tools.{clash}
use Rattle.causes.specs.Blame.{first_from, first_in, after_last}

-- a place that is not before another is it, or comes after it
same_or_after : (i r : ℕ) → i ≤ r → (r ≡ i) ⊎ (suc i ≤ r)
same_or_after zero zero h = inl refl
same_or_after zero (suc r) h = inr (omega arith)
same_or_after (suc i) zero h = absurd (omega arith)
same_or_after (suc i) (suc r) h = elim (same_or_after i r (omega arith)) [ inl e ↦ inl (omega arith) | inr g ↦ inr (omega arith) ]

module _ (p : ℕ → Bool) where
  first_at : (k i r : ℕ) → i ≤ r → r ≤ i + k → ((j : ℕ) → j < r → p j ≡ false) → (r < i + k → p r ≡ true) → r ≡ first_from p k i
  first_at zero i r low high before here = omega arith
  first_at (suc k) i r low high before here =
      go (p i) refl (same_or_after i r low) (λ e. first_at k (suc i) r e (omega arith) before (λ h. here (omega arith)))
    where
      go : (b : Bool) → p i ≡ b → (r ≡ i) ⊎ (suc i ≤ r) → (suc i ≤ r → r ≡ first_from p k (suc i)) → r ≡ cond b i (first_from p k (suc i))
      go true e (inl s) later = s
      go true e (inr s) later = clash (p i) e (before i s)
      go false e (inl s) later = clash (p i) (rw s at (here (omega arith))) e
      go false e (inr s) later = later s

  pub is_first : (n r : ℕ) → r ≤ n → ((j : ℕ) → j < r → p j ≡ false) → (r < n → p r ≡ true) → r ≡ first_in p n
  unfolding first_in
  is_first n r high before here = first_at n 0 r (omega arith) (omega arith) before (λ h. here (omega arith))

  -- and where there is such a place, it is one
  found_from : (k i : ℕ) → first_from p k i < i + k → p (first_from p k i) ≡ true
  found_from zero i h = absurd (omega arith)
  found_from (suc k) i h = go (p i) refl h (found_from k (suc i))
    where
      go : (b : Bool) → p i ≡ b → cond b i (first_from p k (suc i)) < i + suc k → (first_from p k (suc i) < suc i + k → p (first_from p k (suc i)) ≡ true) → p (cond b i (first_from p k (suc i))) ≡ true
      go true e g later = e
      go false e g later = later (omega arith)

  pub found : (n : ℕ) → first_in p n < n → p (first_in p n) ≡ true
  unfolding first_in
  found n h = found_from n 0 (omega arith)

  pub is_last : (n r : ℕ) → r ≤ n → ((j : ℕ) → r ≤ j → j < n → p j ≡ false) → (0 < r → p (r - 1) ≡ true) → r ≡ after_last p n
  is_last zero r high after here = omega arith
  is_last (suc n) r high after here = go (p n) refl (same_or_after r (suc n) high) (λ e. is_last n r e (λ j a b. after j a (omega arith)) here)
    where
      go : (b : Bool) → p n ≡ b → (suc n ≡ r) ⊎ (suc r ≤ suc n) → (r ≤ n → r ≡ after_last p n) → r ≡ cond b (suc n) (after_last p n)
      go true e (inl s) later = sym s
      go true e (inr s) later = clash (p n) e (after n (omega arith) (omega arith))
      go false e (inl s) later = let back : suc n - 1 ≡ n = omega arith in clash (p n) (rw back at (rw (← s) at (here (omega arith)))) e
      go false e (inr s) later = later (omega arith)

  -- a place that passes is not after the last
  pub last_after : (i k : ℕ) → p i ≡ true → i < k → i < after_last p k
  last_after i zero e h = absurd (omega arith)
  last_after i (suc k) e h = go (p k) refl (same_or_after i k (omega arith)) (last_after i k e)
    where
      go : (b : Bool) → p k ≡ b → (k ≡ i) ⊎ (suc i ≤ k) → (i < k → i < after_last p k) → i < cond b (suc k) (after_last p k)
      go true f s later = h
      go false f (inl s) later = clash (p i) e (rw s at f)
      go false f (inr s) later = later (omega arith)
