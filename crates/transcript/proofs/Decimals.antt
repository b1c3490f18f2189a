-- A figure's last digit apart, and how many digits it has. Assumes nothing.
use Prim.Native.Nat.{ℕ, zero, suc, ◌+◌, ◌/◌, ◌%◌, ◌^◌, ◌<◌, ◌≤◌}
use mathlib.Core.Path.{◌≡◌, refl, ap, ◌∙◌}
use mathlib.Core.Bool.{Bool, true, false, cond}
use mathlib.Core.List.{List, ◌++◌, append_assoc}
use native.Mathlib.Omega.{arith}
use lib.ListN.{length, length-append}
use lib.Dec.{ltb}
use borrow.Author.Tests.{ltb-true, ltb-false, lt-ltb, le-ltb}
use Rattle.transcript.specs.Text.{digit, digits, decimal}

-- what is chosen where the test fails need be equal only there
else_same : {A : Type 0} (b : Bool) (x y z : A) → (b ≡ false → y ≡ z) → cond b x y ≡ cond b x z
else_same true x y z h = refl
else_same false x y z h = h refl

-- more steps than n are enough, and all give the same digits
enough : (k m n : ℕ) → n < k → n < m → digits k n ≡ digits m n
enough zero m n h g = absurd (omega arith)
enough (suc k) zero n h g = absurd (omega arith)
enough (suc k) (suc m) n h g =
    else_same (ltb n 10) _ _ _ (λ e. let big = ltb-false n 10 e in rw (enough k m (n / 10) (omega arith) (omega arith)))

pub decimal_small : (n : ℕ) → n < 10 → decimal n ≡ digit n
unfolding decimal
decimal_small n h = rw (lt-ltb n 10 h)

pub decimal_big : (n : ℕ) → 10 ≤ n → decimal n ≡ decimal (n / 10) ++ digit (n % 10)
unfolding decimal
decimal_big n h =
    rw (le-ltb n 10 h) (ap (λ (l : List ℕ). l ++ digit (n % 10)) (enough n (suc (n / 10)) (n / 10) (omega arith) (omega arith)))

-- two digits apart
pub decimal_pair : (n : ℕ) → 10 ≤ n → n < 100 → decimal n ≡ digit (n / 10) ++ digit (n % 10)
decimal_pair n h g = rw (decimal_big n h, decimal_small (n / 10) (omega arith))

pub decimal_hundreds : (n : ℕ) → 100 ≤ n → decimal n ≡ decimal (n / 100) ++ (digit (n % 100 / 10) ++ digit (n % 100 % 10))
decimal_hundreds n h =
    let a : n / 10 / 10 ≡ n / 100 = omega arith in
    let b : n / 10 % 10 ≡ n % 100 / 10 = omega arith in
    let c : n % 10 ≡ n % 100 % 10 = omega arith in
    rw (decimal_big n (omega arith), decimal_big (n / 10) (omega arith), a, b, c) (append_assoc (decimal (n / 100)) (digit (n % 100 / 10)) (digit (n % 100 % 10)))

pub hundreds_longer : (n : ℕ) → 100 ≤ n → length (decimal n) ≡ length (decimal (n / 100)) + 2
hundreds_longer n h = ap length (decimal_hundreds n h) ∙ length-append (decimal (n / 100)) (digit (n % 100 / 10) ++ digit (n % 100 % 10))

-- four digits apart, by two and two
pub decimal_ten_thousands : (n : ℕ) → 10000 ≤ n
    → decimal n ≡ decimal (n / 10000) ++ ((digit (n % 10000 / 100 / 10) ++ digit (n % 10000 / 100 % 10)) ++ (digit (n % 10000 % 100 / 10) ++ digit (n % 10000 % 100 % 10)))
decimal_ten_thousands n h =
    let a : n / 100 / 100 ≡ n / 10000 = omega arith in
    let b : n / 100 % 100 ≡ n % 10000 / 100 = omega arith in
    let c : n % 100 ≡ n % 10000 % 100 = omega arith in
    rw (decimal_hundreds n (omega arith), decimal_hundreds (n / 100) (omega arith), a, b, c)
    (append_assoc (decimal (n / 10000)) (digit (n % 10000 / 100 / 10) ++ digit (n % 10000 / 100 % 10)) (digit (n % 10000 % 100 / 10) ++ digit (n % 10000 % 100 % 10)))

pub ten_thousands_longer : (n : ℕ) → 10000 ≤ n → length (decimal n) ≡ length (decimal (n / 10000)) + 4
ten_thousands_longer n h = ap length (decimal_ten_thousands n h) ∙ length-append (decimal (n / 10000)) _

-- a number below 10 ^ k has at most k digits, k from 1 on
short_by : (k n : ℕ) (b : Bool) → ltb n 10 ≡ b → (10 ≤ n → length (decimal (n / 10)) ≤ k) → length (decimal n) ≤ suc k
short_by k n true e h = rw (decimal_small n (ltb-true n 10 e)) (omega arith)
short_by k n false e h =
    let big = ltb-false n 10 e in
    let one_more = length-append (decimal (n / 10)) (digit (n % 10)) in
    let fewer = h big in
    rw (decimal_big n big) (omega arith)

pub decimal_short : (k n : ℕ) → n < 10 ^ suc k → length (decimal n) ≤ suc k
decimal_short zero n h = short_by 0 n (ltb n 10) refl (λ big. absurd (omega arith))
decimal_short (suc k) n h = short_by (suc k) n (ltb n 10) refl (λ big. decimal_short k (n / 10) (omega arith))
