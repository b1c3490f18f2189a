-- A figure printed in decimal is read as that figure. Assumes nothing.
use mathlib.Core.Path.{◌≡◌, refl, ap, ◌∙◌}
use mathlib.Core.Bool.{Bool, true, false, ◌&&◌}
use mathlib.Core.List.{List, [], ◌∷◌, ◌++◌, append_assoc, append-nil}
use Prim.Native.Nat.{ℕ, zero, suc, ◌+◌, ◌*◌, ◌-◌, ◌/◌, ◌%◌, ◌<◌, ◌≤◌}
use native.Mathlib.Omega.{arith}
use borrow.Author.Tests.{lt-ltb, le-ltb, ne_eqb, ltb-true, ltb-false}
use lib.Dec.{eqb, ltb}
use lib.ListN.{length, get_or, length-append}
use Rattle.transcript.specs.Text.{digit, decimal}
use Rattle.transcript.proofs.Decimals.{decimal_small, decimal_big}
use Rattle.words.specs.declared.Token.TheVariants.{Number}
use Rattle.words.specs.Words.{is_hex, digit_of, limit, digits_from, digits_of, token_of}
use Rattle.words.proofs.Spaced.{Plain, Good}

-- bytes that are decimal digits
abbrev Digits : List ℕ → Type 0
Digits [] = Unit
Digits (b ∷ l) = (48 ≤ b) × (b < 58) × Digits l

digits_then : (l m : List ℕ) → Digits l → Digits m → Digits (l ++ m)
digits_then [] m d e = e
digits_then (b ∷ l) m d e = (d.0, d.1, digits_then l m d.2 e)

-- a figure's first digit and its last, by its size
record Figure (w : List ℕ) : Type 0 where
  some : 0 < length w
  all : Digits w

figure_by : (n : ℕ) (b : Bool) → ltb n 10 ≡ b → (10 ≤ n → Figure (decimal (n / 10))) → Figure (decimal n)
figure_by n true e h =
    let small = ltb-true n 10 e in
    rw (decimal_small n small) (record { some = omega arith; all = (omega arith, omega arith, tt) })
figure_by n false e h =
    let big = ltb-false n 10 e in
    let front = h big in
    rw (decimal_big n big) (record {
      some = simp length-append (omega arith);
      all = digits_then (decimal (n / 10)) (digit (n % 10)) front.all (omega arith, omega arith, tt);
    })

figure_below : (k n : ℕ) → n < k → Figure (decimal n)
figure_below zero n h = absurd (omega arith)
figure_below (suc k) n h = figure_by n (ltb n 10) refl (λ big. figure_below k (n / 10) (omega arith))

figure : (n : ℕ) → Figure (decimal n)
figure n = figure_below (suc n) n (omega arith)

-- digits stand in a word
digits_plain : (l : List ℕ) → Digits l → Plain l
digits_plain [] d = tt
digits_plain (b ∷ l) d =
    let low = d.0 in
    let high = d.1 in
    let n32 : eqb b 32 ≡ false = ne_eqb b 32 (λ e. omega arith) in
    let n9 : eqb b 9 ≡ false = ne_eqb b 9 (λ e. omega arith) in
    let n13 : eqb b 13 ≡ false = ne_eqb b 13 (λ e. omega arith) in
    let n35 : eqb b 35 ≡ false = ne_eqb b 35 (λ e. omega arith) in
    (simp (n32, n9, n13, n35), ne_eqb b 10 (λ e. omega arith), digits_plain l d.2)

pub decimal_good : (n : ℕ) → Good (decimal n)
decimal_good n = record { some = (figure n).some; plain = digits_plain (decimal n) (figure n).all }

-- the value of a digit
digit_is : (b : ℕ) → 48 ≤ b → b < 58 → digit_of b ≡ b - 48
unfolding digit_of
digit_is b low high = rw (le-ltb b 48 low, lt-ltb b 58 high)

-- digits are read from the left
one_digit : (x d : ℕ) (l : List ℕ) → d < 10 → x * 10 + d < limit → digits_from 10 x ((48 + d) ∷ l) ≡ digits_from 10 (x * 10 + d) l
one_digit x d l h g =
    let v : digit_of (48 + d) ≡ d = digit_is (48 + d) (omega arith) (omega arith) ∙ omega arith in
    rw (v, lt-ltb d 10 h, lt-ltb (x * 10 + d) limit g)

reads_by : (n : ℕ) (l : List ℕ) (b : Bool) → ltb n 10 ≡ b → n < limit
    → ((m : List ℕ) → 10 ≤ n → digits_from 10 0 (decimal (n / 10) ++ m) ≡ digits_from 10 (n / 10) m)
    → digits_from 10 0 (decimal n ++ l) ≡ digits_from 10 n l
reads_by n l true e h f =
    let small = ltb-true n 10 e in
    let same : 0 * 10 + n ≡ n = omega arith in
    rw (decimal_small n small) (one_digit 0 n l small (omega arith) ∙ ap (λ (x : ℕ). digits_from 10 x l) same)
reads_by n l false e h f =
    let big = ltb-false n 10 e in
    let back : n / 10 * 10 + n % 10 ≡ n = omega arith in
    rw (decimal_big n big, append_assoc)
    (f (digit (n % 10) ++ l) big ∙ (one_digit (n / 10) (n % 10) l (omega arith) (omega arith) ∙ ap (λ (x : ℕ). digits_from 10 x l) back))

reads_below : (k n : ℕ) (l : List ℕ) → n < k → n < limit → digits_from 10 0 (decimal n ++ l) ≡ digits_from 10 n l
reads_below zero n l h g = absurd (omega arith)
reads_below (suc k) n l h g = reads_by n l (ltb n 10) refl g (λ m big. reads_below k (n / 10) m (omega arith) (omega arith))

reads : (n : ℕ) → n < limit → digits_of 10 (decimal n) ≡ Number n
unfolding digits_of
reads n h = rw append-nil at (reads_below (suc n) n [] (omega arith) h) ∙ rw (lt-ltb n limit h)

-- a figure is no hexadecimal number and no name
no_hex : (w : List ℕ) → 0 < length w → Digits w → is_hex w ≡ false
no_hex [] h d = absurd (omega arith)
no_hex (b ∷ []) h d = and_no (eqb b 48)
  where
    and_no : (p : Bool) → (p && false) ≡ false
    and_no true = refl
    and_no false = refl
no_hex (b ∷ e ∷ l) h d = rw (ne_eqb e 120 (λ q. let low = d.2.1 in omega arith), ne_eqb e 88 (λ q. let low = d.2.1 in omega arith)) (and_no (eqb b 48))
  where
    and_no : (p : Bool) → (p && false) ≡ false
    and_no true = refl
    and_no false = refl

first_digit : (w : List ℕ) → 0 < length w → Digits w → ltb (digit_of (get_or w 0 0)) 10 ≡ true
first_digit [] h d = absurd (omega arith)
first_digit (b ∷ l) h d =
    let low = d.0 in
    let high = d.1 in
    rw (digit_is b low high) (lt-ltb (b - 48) 10 (omega arith))

pub token_decimal : (n : ℕ) → n < limit → token_of (decimal n) ≡ Number n
unfolding token_of
token_decimal n h =
    let f = figure n in
    rw (first_digit (decimal n) f.some f.all, no_hex (decimal n) f.some f.all) (reads n h)
