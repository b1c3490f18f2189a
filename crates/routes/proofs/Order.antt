-- The order of records by their bytes, and that the choices of a phase stand in it. Assumes nothing.
use mathlib.Core.Path.{◌≡◌, refl, sym, ap, ap₂, ◌∙◌}
use mathlib.Core.Bool.{Bool, true, false, cond, ◌&&◌, ◌||◌}
use mathlib.Core.List.{List, [], ◌∷◌, ◌++◌}
use Prim.Native.Nat.{ℕ, zero, suc, ◌-◌, ◌<◌, ◌≤◌}
use native.Mathlib.Omega.{arith}
use lib.Dec.{eqb, ltb}
use borrow.Author.Tests.{eqb-true, eq-eqb, ne_eqb, ltb-true, ltb-false, lt-ltb, le-ltb}
use Rattle.charts.specs.declared.Signal.{Signal}
use Rattle.charts.specs.declared.Signal.TheVariants.{Start, End, Prefix, Gap, Dhead, Dest, Header, Data, Ack}
use Rattle.charts.specs.declared.Phase.{Phase}
use Rattle.charts.specs.declared.Phase.TheVariants.{Idle, Busy, Delivering, Granting, Gapping}
use Rattle.charts.specs.Signals.{everybody, is_checked}
use Rattle.charts.specs.Records.{named}
use Rattle.charts.specs.Layout.{bytes_of}
use Rattle.charts.specs.Routes.{before}
use Rattle.charts.proofs.Tools.{never, and-true, by_test}
use Rattle.routes.specs.Choices.{ways, choices, change_of, way_of, choice}

-- what two lists begin with alike says nothing of their order
pub before_alike : (c l m : List ℕ) → before (c ++ l) (c ++ m) ≡ before l m
before_alike [] l m = refl
before_alike (x ∷ c) l m = ap₂ (λ a b. a || (b && before (c ++ l) (c ++ m))) (le-ltb x x (omega arith)) (eq-eqb x x refl) ∙ before_alike c l m

-- what comes after the byte in which they differ says nothing either
pub before_on : (c d l m : List ℕ) → before c d ≡ true → before (c ++ l) (d ++ m) ≡ true
before_on [] d l m e = never e
before_on (x ∷ c) [] l m e = never e
before_on (x ∷ c) (y ∷ d) l m e = go (ltb x y) (eqb x y) (before_on c d l m) e
  where
    go : (a b : Bool) → (before c d ≡ true → before (c ++ l) (d ++ m) ≡ true) → a || (b && before c d) ≡ true → a || (b && before (c ++ l) (d ++ m)) ≡ true
    go true b f e = refl
    go false true f e = f e
    go false false f e = never e

-- of two lists one at most comes before the other, and none before itself
pub before_one : (l m : List ℕ) → before l m ≡ true → before m l ≡ false
before_one [] m e = never e
before_one (x ∷ l) [] e = never e
before_one (x ∷ l) (y ∷ m) e = by_test (ltb x y)
    (λ p. let h = ltb-true x y p in ap₂ (λ a b. a || (b && before m l)) (le-ltb y x (omega (arith, h))) (ne_eqb y x (λ z. omega (arith, h, z))))
    (λ p. let z = and-true (eqb x y) _ (sym (ap (λ a. a || (eqb x y && before l m)) p) ∙ e) in
    let w = sym (eqb-true x y z.0) in
    ap₂ (λ a b. a || (b && before m l)) (le-ltb y x (omega (arith, w))) (eq-eqb y x w) ∙ before_one l m z.1)

pub never_before_itself : (l : List ℕ) → before l l ≡ false
never_before_itself l = by_test (before l l) (before_one l l) (λ e. e)

-- clocks by their nodes, changes by their addresses
clocks_ascend : (i j : ℕ) → i < j → before (bytes_of (named 4 i 0)) (bytes_of (named 4 j 0)) ≡ true
unfolding bytes_of
clocks_ascend i j h = rw (lt-ltb i j h)

addresses_ascend : (a b : ℕ) → a < b → before (bytes_of (named 7 0 a)) (bytes_of (named 7 0 b)) ≡ true
unfolding bytes_of
addresses_ascend a b h = rw (lt-ltb a b h)

-- the changes of a Dest are to the nodes and then to all, whose 63 is over every node's number
pub change_to_node : (n k : ℕ) → k < n → change_of n k ≡ named 7 0 k
change_to_node n k h = rw (lt-ltb k n h)

pub change_to_all : (n : ℕ) → change_of n n ≡ named 7 0 everybody
change_to_all n = rw (le-ltb n n (omega arith))

changes_ascend : (n j k : ℕ) → n < 64 → j < k → k ≤ n → before (bytes_of (change_of n j)) (bytes_of (change_of n k)) ≡ true
changes_ascend n j k s h l = ap (λ x. before (bytes_of x) (bytes_of (change_of n k))) (change_to_node n j (omega (arith, h, l))) ∙ by_test (ltb k n)
    (λ e. ap (λ x. before (bytes_of (named 7 0 j)) (bytes_of x)) (change_to_node n k (ltb-true k n e)) ∙ addresses_ascend j k h)
    (λ e. ap (λ x. before (bytes_of (named 7 0 j)) (bytes_of x)) (ap (change_of n) (last (ltb-false k n e)) ∙ change_to_all n) ∙ addresses_ascend j everybody (omega (arith, s, h, l)))
  where
    last : n ≤ k → k ≡ n
    last m = omega (arith, l, m)

-- the ways of a Dest after the first are its changes
pub changes_next : (n a k : ℕ) → way_of n (Dest a) (suc k) ≡ change_of n k
unfolding way_of
changes_next n a k = ap (λ x. cond x (named 5 0 0) (change_of n (suc k - 1))) (ne_eqb (suc k) 0 (λ z. omega (arith, z))) ∙ ap (change_of n) (omega arith)

dest_ascends : (n a j k : ℕ) → n < 64 → j < k → k ≤ suc n → before (bytes_of (way_of n (Dest a) j)) (bytes_of (way_of n (Dest a) k)) ≡ true
unfolding way_of bytes_of
dest_ascends n a j zero s h l = absurd (omega (arith, h))
dest_ascends n a zero (suc k) s h l = ap (λ x. before (bytes_of (named 5 0 0)) (bytes_of x)) (changes_next n a k)
dest_ascends n a (suc j) (suc k) s h l = ap₂ (λ x y. before (bytes_of x) (bytes_of y)) (changes_next n a j) (changes_next n a k) ∙ changes_ascend n j k s (omega (arith, h)) (omega (arith, l))

-- pass, lose, change
checked_ascends : (n : ℕ) (g : Signal) (j k : ℕ) → is_checked g ≡ true → j < k → k < 3 → before (bytes_of (way_of n g j)) (bytes_of (way_of n g k)) ≡ true
unfolding way_of bytes_of
checked_ascends n g j zero c h l = absurd (omega (arith, h))
checked_ascends n g zero (suc zero) c h l = rw c
checked_ascends n g zero (suc (suc zero)) c h l = rw c
checked_ascends n g (suc zero) (suc (suc zero)) c h l = rw c
checked_ascends n g (suc j) (suc zero) c h l = absurd (omega (arith, h))
checked_ascends n g (suc (suc j)) (suc (suc zero)) c h l = absurd (omega (arith, h))
checked_ascends n g j (suc (suc (suc k))) c h l = absurd (omega (arith, l))

ways_ascend : (n : ℕ) (g : Signal) (j k : ℕ) → n < 64 → j < k → k < ways n g → before (bytes_of (way_of n g j)) (bytes_of (way_of n g k)) ≡ true
ways_ascend n Start j k s h l = absurd (omega (arith, h, l))
ways_ascend n End j k s h l = absurd (omega (arith, h, l))
ways_ascend n Prefix j k s h l = absurd (omega (arith, h, l))
ways_ascend n Gap j k s h l = absurd (omega (arith, h, l))
ways_ascend n Dhead j k s h l = absurd (omega (arith, h, l))
ways_ascend n (Dest a) j k s h l = dest_ascends n a j k s h (omega (arith, l))
ways_ascend n (Header x c) j k s h l = checked_ascends n (Header x c) j k refl h (omega (arith, l))
ways_ascend n (Data d c) j k s h l = checked_ascends n (Data d c) j k refl h (omega (arith, l))
ways_ascend n (Ack a c) j k s h l = checked_ascends n (Ack a c) j k refl h (omega (arith, l))

-- the choices stand in the order of their bytes
pub choices_ascend : (n : ℕ) (p : Phase) (j k : ℕ) → n < 64 → j < k → k < choices n p → before (bytes_of (choice n p j)) (bytes_of (choice n p k)) ≡ true
unfolding choice
choices_ascend n Idle j k s h l = absurd (omega (arith, l))
choices_ascend n Busy j k s h l = clocks_ascend j k h
choices_ascend n (Delivering i g w) j k s h l = ways_ascend n g j k s h l
choices_ascend n Granting j k s h l = absurd (omega (arith, h, l))
choices_ascend n (Gapping w) j k s h l = absurd (omega (arith, h, l))
