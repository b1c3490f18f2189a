-- Facts about truth values, functions with one value changed, scans and lists of places. Nothing here is about the bus.
use mathlib.Core.Path.{◌≡◌, refl, sym, ap, ap₂, subst, ◌∙◌}
use mathlib.Core.Logic.{◌≢◌, ◌⊎◌, inl, inr}
use mathlib.Core.Bool.{Bool, true, false, cond, ◌&&◌, ◌||◌, beq, false≢true, true≢false}
use mathlib.Core.List.{List, [], ◌∷◌}
use Prim.Native.Nat.{ℕ, zero, suc, ◌<◌, ◌≤◌}
use native.Mathlib.Omega.{arith}
use lib.Dec.{T, eqb}
use borrow.Author.Tests.{eqb-true, eqb-false}
use Rattle.charts.specs.State.{upd, some, others, every, lowest}

-- truth values
pub never : {A : Type 0} → false ≡ true → A
never e = absurd (false≢true e)

pub clash : {A : Type 0} (b : Bool) → b ≡ true → b ≡ false → A
clash b p q = absurd (true≢false (sym p ∙ q))

abbrev pub implies : Bool → Bool → Bool
implies true b = b
implies false b = true

pub is_true : (b : Bool) → T b → b ≡ true
is_true true t = refl
is_true false t = absurd t

pub implied : (a b : Bool) → implies a b ≡ true → a ≡ true → b ≡ true
implied true b t e = t
implied false b t e = never e

-- and back
pub not_implied : (a b : Bool) → implies a b ≡ true → b ≡ false → a ≡ false
not_implied true b e q = clash b e q
not_implied false b e q = refl

pub and-true : (a b : Bool) → a && b ≡ true → (a ≡ true) × (b ≡ true)
and-true true b e = (refl, e)
and-true false b e = never e

pub both : (a b : Bool) → a ≡ true → b ≡ true → a && b ≡ true
both true b p q = q
both false b p q = never p

pub or-false : (a b : Bool) → a || b ≡ false → (a ≡ false) × (b ≡ false)
or-false true b e = absurd (true≢false e)
or-false false b e = (refl, e)

pub neither : (a b : Bool) → a ≡ false → b ≡ false → a || b ≡ false
neither true b e f = absurd (true≢false e)
neither false b e f = f

pub or-true : (a b : Bool) → a || b ≡ true → a ≡ false → b ≡ true
or-true true b e q = absurd (true≢false q)
or-true false b e q = e

pub or_no : (b : Bool) → b || false ≡ b
or_no true = refl
or_no false = refl

pub or_yes : (b : Bool) → b || true ≡ true
or_yes true = refl
or_yes false = refl

pub and_yes : (b : Bool) → b && true ≡ b
and_yes true = refl
and_yes false = refl

pub and_no : (b : Bool) → b && false ≡ false
and_no true = refl
and_no false = refl

pub beq_eq : (a b : Bool) → beq a b ≡ true → a ≡ b
beq_eq true true t = refl
beq_eq true false t = never t
beq_eq false true t = never t
beq_eq false false t = refl

-- a fact that holds of both arms holds of a `cond`
pub pick : {A : Type 0} (P : A → Type 0) (b : Bool) (x y : A) → P x → P y → P (cond b x y)
pick P true x y p q = p
pick P false x y p q = q

-- the same, where each arm may use its test
pub pick_by : {A : Type 0} (P : A → Type 0) (b : Bool) (x y : A) → (b ≡ true → P x) → (b ≡ false → P y) → P (cond b x y)
pick_by P true x y p q = p refl
pick_by P false x y p q = q refl

-- a fact by cases of a test
pub by_test : {A : Type 0} (b : Bool) → (b ≡ true → A) → (b ≡ false → A) → A
by_test true f g = f refl
by_test false f g = g refl

-- a function with another value at i
pub at_upd : {A : Type 0} (P : ℕ → A → Type 0) (f : ℕ → A) (i : ℕ) (a : A) (k : ℕ) → P i a → P k (f k) → P k (upd f i a k)
at_upd {A} P f i a k t u = go (eqb k i) refl
  where
    go : (b : Bool) → eqb k i ≡ b → P k (cond b a (f k))
    go true e = subst (λ (x : ℕ). P x a) (sym (eqb-true k i e)) t
    go false e = u

-- the same, where the other case may use that k is not i
pub at_upd≢ : {A : Type 0} (P : ℕ → A → Type 0) (f : ℕ → A) (i : ℕ) (a : A) (k : ℕ) → P i a → (k ≢ i → P k (f k)) → P k (upd f i a k)
at_upd≢ {A} P f i a k t u = go (eqb k i) refl
  where
    go : (b : Bool) → eqb k i ≡ b → P k (cond b a (f k))
    go true e = subst (λ (x : ℕ). P x a) (sym (eqb-true k i e)) t
    go false e = u (eqb-false k i e)

pub upd_same : {A : Type 0} (f : ℕ → A) (i : ℕ) (a : A) → upd f i a i ≡ a
upd_same {A} f i a = at_upd≢ (λ k x. x ≡ a) f i a i refl (λ z. absurd (z refl))

pub upd_other : {A : Type 0} (f : ℕ → A) (i : ℕ) (a : A) (k : ℕ) → k ≢ i → upd f i a k ≡ f k
upd_other {A} f i a k q = at_upd≢ (λ k x. k ≢ i → x ≡ f k) f i a k (λ z. absurd (z refl)) (λ z y. refl) q

-- a field of a changed function is the changed field
pub upd_map : {A B : Type 0} (g : A → B) (f : ℕ → A) (i : ℕ) (a : A) (k : ℕ) → g (upd f i a k) ≡ upd (λ k. g (f k)) i (g a) k
upd_map {A} {B} g f i a k = go (eqb k i)
  where
    go : (b : Bool) → g (cond b a (f k)) ≡ cond b (g a) (g (f k))
    go true = refl
    go false = refl

-- scans
pub below_suc : (P : ℕ → Type 0) (n k : ℕ) → P n → (k < n → P k) → k < suc n → P k
below_suc P n k t r h = go (eqb k n) refl
  where
    go : (b : Bool) → eqb k n ≡ b → P k
    go true q = subst P (sym (eqb-true k n q)) t
    go false q = let d : k ≢ n = eqb-false k n q in r (omega arith)

pub none_of : (f : ℕ → Bool) (n : ℕ) → some f n ≡ false → (k : ℕ) → k < n → f k ≡ false
none_of f zero e k h = absurd (omega arith)
none_of f (suc n) e k h =
    below_suc (λ x. f x ≡ false) n k (or-false (f n) (some f n) e).0 (none_of f n (or-false (f n) (some f n) e).1 k) h

pub some_at : (f : ℕ → Bool) (n k : ℕ) → k < n → f k ≡ true → some f n ≡ true
some_at f zero k h e = absurd (omega arith)
some_at f (suc n) k h e = go (f n) refl (λ l. some_at f n k l e)
  where
    go : (b : Bool) → f n ≡ b → (k < n → some f n ≡ true) → b || some f n ≡ true
    go true q r = refl
    go false q r = r (let d : k ≢ n = (λ z. true≢false (sym e ∙ ap f z ∙ q)) in omega arith)

pub some_agree : (u v : ℕ → Bool) (n : ℕ) → ((k : ℕ) → k < n → u k ≡ v k) → some u n ≡ some v n
some_agree u v zero h = refl
some_agree u v (suc n) h = ap₂ ◌||◌ (h n (omega arith)) (some_agree u v n (λ k l. h k (omega arith)))

pub some-none : (f : ℕ → Bool) (n : ℕ) → ((k : ℕ) → k < n → f k ≡ false) → some f n ≡ false
some-none f zero h = refl
some-none f (suc n) h = neither _ _ (h n (omega arith)) (some-none f n (λ k l. h k (omega arith)))

-- where no other than i holds, f holds at i alone
pub others_off : (f : ℕ → Bool) (n i : ℕ) → others f i n ≡ false → (k : ℕ) → k < n → k ≢ i → f k ≡ false
others_off f n i e k h q = sym (upd_other f i false k q) ∙ none_of (upd f i false) n e k h

pub others_none : (f : ℕ → Bool) (n i : ℕ) → ((k : ℕ) → k < n → k ≢ i → f k ≡ false) → others f i n ≡ false
others_none f n i h = some-none (upd f i false) n (λ k l. at_upd≢ (λ k b. k < n → b ≡ false) f i false k (λ l. refl) (λ q l. h k l q) l)

low : (f : ℕ → Bool) (n d : ℕ) → f d ≡ true → f (lowest f n d) ≡ true
low f zero d e = e
low f (suc n) d e = low f n (cond (f n) n d) (pick_by (λ x. f x ≡ true) (f n) n d (λ q. q) (λ q. e))

pub lowest_below : (f : ℕ → Bool) (n d b : ℕ) → n ≤ b → d < b → lowest f n d < b
lowest_below f zero d b h g = g
lowest_below f (suc n) d b h g = lowest_below f n (cond (f n) n d) b (omega arith) (pick (λ x. x < b) (f n) n d (omega arith) g)

pub lowest_of : (f : ℕ → Bool) (n d : ℕ) → some f n ≡ true → f (lowest f n d) ≡ true
lowest_of f zero d e = never e
lowest_of f (suc n) d e = go (f n) refl (lowest_of f n d)
  where
    go : (b : Bool) → f n ≡ b → (some f n ≡ true → f (lowest f n d) ≡ true) → f (lowest f n (cond b n d)) ≡ true
    go true q r = low f n n q
    go false q r = r (rw q at e)

pub lowest_lt : (f : ℕ → Bool) (n d : ℕ) → some f n ≡ true → lowest f n d < n
lowest_lt f zero d e = never e
lowest_lt f (suc n) d e = go (f n) refl (lowest_lt f n d)
  where
    go : (b : Bool) → f n ≡ b → (some f n ≡ true → lowest f n d < n) → lowest f n (cond b n d) < suc n
    go true q r = lowest_below f n n (suc n) (omega arith) (omega arith)
    go false q r = let z : lowest f n d < n = r (rw q at e) in omega arith

pub lowest_none : (f : ℕ → Bool) (n d : ℕ) → some f n ≡ false → lowest f n d ≡ d
lowest_none f zero d e = refl
lowest_none f (suc n) d e = let z = or-false (f n) _ e in ap (λ b. lowest f n (cond b n d)) z.0 ∙ lowest_none f n d z.1

pub lowest_agree : (f g : ℕ → Bool) (n d : ℕ) → ((k : ℕ) → k < n → f k ≡ g k) → lowest f n d ≡ lowest g n d
lowest_agree f g zero d h = refl
lowest_agree f g (suc n) d h = ap (λ b. lowest f n (cond b n d)) (h n (omega arith)) ∙ lowest_agree f g n _ (λ k l. h k (omega arith))

pub every_at : (f : ℕ → Bool) (n : ℕ) → every f n ≡ true → (k : ℕ) → k < n → f k ≡ true
every_at f zero t k h = absurd (omega arith)
every_at f (suc n) t k h = below_suc (λ x. f x ≡ true) n k (and-true (f n) (every f n) t).0 (every_at f n (and-true (f n) (every f n) t).1 k) h

pub every_all : (f : ℕ → Bool) (n : ℕ) → ((k : ℕ) → k < n → f k ≡ true) → every f n ≡ true
every_all f zero h = refl
every_all f (suc n) h = both (f n) (every f n) (h n (omega arith)) (every_all f n (λ k l. h k (omega arith)))

-- computed tables: a test at each number below n, and at each pair
abbrev pub every_pair : (ℕ → ℕ → Bool) → ℕ → ℕ → Bool
every_pair f n m = every (λ i. every (f i) m) n

pub table_at : (f : ℕ → Bool) (n : ℕ) → T (every f n) → (k : ℕ) → k < n → f k ≡ true
table_at f n t k h = every_at f n (is_true _ t) k h

pub pairs_at : (f : ℕ → ℕ → Bool) (n m : ℕ) → T (every_pair f n m) → (k l : ℕ) → k < n → l < m → f k l ≡ true
pairs_at f n m t k l h g = every_at (f k) m (table_at (λ i. every (f i) m) n t k h) l g

-- lists of places
abbrev pub mem : ℕ → List ℕ → Bool
mem c [] = false
mem c (x ∷ l) = eqb c x || mem c l

abbrev pub every_in : List ℕ → List ℕ → Bool
every_in [] l = true
every_in (x ∷ k) l = mem x l && every_in k l

pub mem-sub : (k l : List ℕ) → every_in k l ≡ true → (c : ℕ) → mem c k ≡ true → mem c l ≡ true
mem-sub [] l t c h = never h
mem-sub (x ∷ k) l t c h = go (eqb c x) refl (mem-sub k l (and-true (mem x l) _ t).1 c)
  where
    go : (b : Bool) → eqb c x ≡ b → (mem c k ≡ true → mem c l ≡ true) → mem c l ≡ true
    go true e r = subst (λ y. mem y l ≡ true) (sym (eqb-true c x e)) (and-true (mem x l) _ t).0
    go false e r = r (or-true (eqb c x) (mem c k) h e)

pub not_mem_sub : (k l : List ℕ) → every_in k l ≡ true → (c : ℕ) → mem c l ≡ false → mem c k ≡ false
not_mem_sub k l t c e = by_test (mem c k) (λ h. clash _ (mem-sub k l t c h) e) (λ h. h)

pub mem_one : (x c : ℕ) → mem c (x ∷ []) ≡ true → c ≡ x
mem_one x c h = go (eqb c x) refl
  where
    go : (b : Bool) → eqb c x ≡ b → c ≡ x
    go true e = eqb-true c x e
    go false e = never (or-true (eqb c x) false h e)

pub mem_two : (x y c : ℕ) → mem c (x ∷ y ∷ []) ≡ true → (c ≡ x) ⊎ (c ≡ y)
mem_two x y c h = go (eqb c x) refl
  where
    go : (b : Bool) → eqb c x ≡ b → (c ≡ x) ⊎ (c ≡ y)
    go true e = inl (eqb-true c x e)
    go false e = inr (mem_one y c (or-true (eqb c x) _ h e))
