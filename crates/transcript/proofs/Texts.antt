-- What is left of n texts once k of them are put. Assumes nothing.
use mathlib.Core.Path.{◌≡◌, ap, ◌∙◌}
use mathlib.Core.List.{List, [], ◌++◌}
use Prim.Native.Nat.{ℕ, suc, ◌+◌, ◌-◌, ◌<◌, ◌≤◌}
use native.Mathlib.Omega.{arith}
use Rattle.transcript.specs.Lines.{texts_from}

pub texts_more : (f : ℕ → List ℕ) (n k : ℕ) → k < n → texts_from f (n - k) k ≡ f k ++ texts_from f (n - (k + 1)) (k + 1)
texts_more f n k h =
    let e : n - k ≡ suc (n - (k + 1)) = omega arith in
    let g : suc k ≡ k + 1 = omega arith in
    ap (λ j. texts_from f j k) e ∙ ap (λ i. f k ++ texts_from f (n - (k + 1)) i) g

pub texts_none : (f : ℕ → List ℕ) (n k : ℕ) → n ≤ k → texts_from f (n - k) k ≡ []
texts_none f n k h = let e : n - k ≡ 0 = omega arith in ap (λ j. texts_from f j k) e
