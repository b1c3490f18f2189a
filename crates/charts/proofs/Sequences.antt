-- How many sequences of classes lead where (specs/Sequences.antt).
use mathlib.Core.Path.{◌≡◌, refl, sym, ap, ◌∙◌}
use mathlib.Core.Logic.{◌≢◌}
use mathlib.Core.Bool.{Bool, true, false, cond, ◌&&◌}
use mathlib.Core.List.{List, [], ◌∷◌, ◌++◌, map}
use Prim.Native.Nat.{ℕ, zero, suc, ◌<◌, ◌≤◌, ◌+◌, ◌^◌}
use native.Mathlib.Nat.{pow-succ'}
use native.Mathlib.Omega.{arith}
use lib.Dec.{eqb, ltb, eqb-zero-suc, eqb-suc-zero, eqb-suc-suc, lit<}
use lib.ListN.{length, get_or}
use borrow.Author.Tests.{eqb-true, eqb-false, ltb-true, ltb-false, lt-ltb, le-ltb, eq-eqb, ne_eqb}
use Rattle.charts.specs.declared.Mode.{Mode}
use Rattle.charts.specs.declared.Signal.{Signal}
use Rattle.charts.specs.declared.Signal.TheVariants.{Start}
use Rattle.charts.specs.Modes as P
use Rattle.charts.specs.Modes.{place_of}
use Rattle.charts.specs.Signals.{class_of}
use Rattle.charts.specs.Reception.{answer, hears}
use Rattle.charts.specs.Table.{mode_at, entry}
use Rattle.charts.specs.State.{total, list_from, all_below}
use Rattle.charts.specs.Sequences.{headed, sequences, leads, leading, ending, row_of, row, same, times, ListsEach, LeavesThere, AddsUp, next, next_row, Follows}
use Rattle.charts.proofs.Tools.{by_test}
use Rattle.charts.proofs.Places.{place_lt, key}
use Rattle.charts.proofs.Sums.{total_agree, total_none, total-one, total-add, total_swap}

-- "For k = 1 that is 1 in Opened and 13 in Rest": the first rows, from the list itself
pub row_0 : row 0 ≡ 1 ∷ 0 ∷ 0 ∷ 0 ∷ 0 ∷ 0 ∷ 0 ∷ 0 ∷ 0 ∷ 0 ∷ 0 ∷ 0 ∷ 0 ∷ 0 ∷ 0 ∷ 0 ∷ 0 ∷ 0 ∷ 0 ∷ 0 ∷ 0 ∷ 0 ∷ 0 ∷ 0 ∷ 0 ∷ []
unfolding row ending
row_0 = refl

pub row_1 : row 1 ≡ 13 ∷ 0 ∷ 0 ∷ 0 ∷ 0 ∷ 1 ∷ 0 ∷ 0 ∷ 0 ∷ 0 ∷ 0 ∷ 0 ∷ 0 ∷ 0 ∷ 0 ∷ 0 ∷ 0 ∷ 0 ∷ 0 ∷ 0 ∷ 0 ∷ 0 ∷ 0 ∷ 0 ∷ 0 ∷ []
unfolding row ending
row_1 = refl

pub row_2 : row 2 ≡ 170 ∷ 0 ∷ 0 ∷ 0 ∷ 0 ∷ 13 ∷ 10 ∷ 0 ∷ 0 ∷ 0 ∷ 0 ∷ 0 ∷ 0 ∷ 0 ∷ 0 ∷ 3 ∷ 0 ∷ 0 ∷ 0 ∷ 0 ∷ 0 ∷ 0 ∷ 0 ∷ 0 ∷ 0 ∷ []
unfolding row ending
row_2 = refl

-- of nothing a test makes nothing
none : (b : Bool) {x : ℕ} → x ≡ 0 → cond b x 0 ≡ 0
none true e = e
none false e = refl

-- a cell leads to one of the 25 places
pub entry_lt : (p c : ℕ) → (entry p c).place < 25
entry_lt p c = place_lt (answer 0 0 (mode_at p) c Start).mode

-- how many of the longer sequences lead to q: for each class, those of the shorter ones that lead there from where the class leads
leading_append : (p q : ℕ) (l m : List (List ℕ)) → leading p q (l ++ m) ≡ leading p q l + leading p q m
leading_append p q [] m = omega arith
leading_append p q (s ∷ l) m = omega (arith, leading_append p q l m)

leading_map : (p q c : ℕ) (l : List (List ℕ)) → leading p q (map (λ s. c ∷ s) l) ≡ leading (entry p c).place q l
leading_map p q c [] = refl
leading_map p q c (s ∷ l) = ap (λ x. cond (eqb (leads (entry p c).place s) q) 1 0 + x) (leading_map p q c l)

leading_headed : (p q n : ℕ) (l : List (List ℕ)) → leading p q (headed n l) ≡ total (λ c. leading (entry p c).place q l) n
leading_headed p q zero l = refl
leading_headed p q (suc n) l = omega (arith, leading_append p q (headed n l) (map (λ s. n ∷ s) l), leading_headed p q n l, leading_map p q n l)

-- a sequence of no class leads to its own place
at_place : (p q : ℕ) → p ≢ q → leading p q (sequences 0) ≡ 0
at_place p q d = rw (ne_eqb p q d) refl

at_own : (p : ℕ) → leading p p (sequences 0) ≡ 1
at_own p = rw (eq-eqb p p refl) refl

-- every sequence ends at one of the 25 places
all_end : (k p : ℕ) → p < 25 → total (λ q. leading p q (sequences k)) 25 ≡ 14 ^ k
all_end zero p h = total-one (λ q. leading p q (sequences 0)) p 25 h (λ q l d. at_place p q (λ e. d (sym e))) ∙ at_own p
all_end (suc k) p h =
    total_agree _ _ 25 (λ q l. leading_headed p q 14 (sequences k))
    ∙ total_swap (λ q c. leading (entry p c).place q (sequences k)) 25 14
    ∙ total_agree _ (λ c. 14 ^ k) 14 (λ c l. all_end k (entry p c).place (entry_lt p c))
    ∙ omega (arith, pow-succ' 14 k)

pub adds_up : AddsUp
unfolding ending
adds_up k = all_end k P.rest (lit< tt)

-- what comes of two counts comes of their sum
next_add : (u v : ℕ → ℕ) (q : ℕ) → next (λ p. u p + v p) q ≡ next u q + next v q
next_add u v q =
    total_agree _ _ 25 (λ p h. total_agree _ _ 14 (λ c g. both (eqb (entry p c).place q) (u p) (v p)) ∙ total-add (λ c. brings p c (u p)) (λ c. brings p c (v p)) 14)
    ∙ total-add (λ p. total (λ c. brings p c (u p)) 14) (λ p. total (λ c. brings p c (v p)) 14) 25
  where
    brings : ℕ → ℕ → ℕ → ℕ
    brings p c x = cond (eqb (entry p c).place q) x 0

    both : (b : Bool) (x y : ℕ) → cond b (x + y) 0 ≡ cond b x 0 + cond b y 0
    both true x y = refl
    both false x y = refl

next_zero : (q : ℕ) → next (λ p. 0) q ≡ 0
next_zero q = omega (arith, next_add (λ p. 0) (λ p. 0) q)

next_agree : (u v : ℕ → ℕ) (q : ℕ) → ((p : ℕ) → p < 25 → u p ≡ v p) → next u q ≡ next v q
next_agree u v q h = total_agree _ _ 25 (λ p l. ap (λ x. total (λ c. cond (eqb (entry p c).place q) x 0) 14) (h p l))

next_total : (g : ℕ → ℕ → ℕ) (n q : ℕ) → total (λ d. next (g d) q) n ≡ next (λ p. total (λ d. g d p) n) q
next_total g zero q = sym (next_zero q)
next_total g (suc n) q = ap (λ x. x + next (g n) q) (next_total g n q) ∙ sym (next_add (λ p. total (λ d. g d p) n) (g n) q)

-- the recurrence, from any place
forward : (k p q : ℕ) → p < 25 → leading p q (sequences (suc k)) ≡ next (λ r. leading p r (sequences k)) q
forward zero p q h =
    leading_headed p q 14 (sequences 0)
    ∙ total_agree _ _ 14 (λ c l. once (eqb (entry p c).place q))
    ∙ sym (total-one (λ r. total (λ c. cond (eqb (entry r c).place q) (leading p r (sequences 0)) 0) 14) p 25 h others)
  where
    once : (b : Bool) → cond b 1 0 + 0 ≡ cond b (leading p p (sequences 0)) 0
    once true = sym (at_own p)
    once false = refl

    others : (r : ℕ) → r < 25 → r ≢ p → total (λ c. cond (eqb (entry r c).place q) (leading p r (sequences 0)) 0) 14 ≡ 0
    others r l d = total_none _ 14 (λ c g. none (eqb (entry r c).place q) (at_place p r (λ e. d (sym e))))
forward (suc k) p q h =
    leading_headed p q 14 (sequences (suc k))
    ∙ total_agree _ _ 14 (λ c l. forward k (entry p c).place q (entry_lt p c))
    ∙ next_total (λ c r. leading (entry p c).place r (sequences k)) 14 q
    ∙ sym (next_agree _ _ q (λ r l. leading_headed p r 14 (sequences k)))

-- a row's count at each of its places, and rows of equal counts
list_at : (f : ℕ → ℕ) (n i k : ℕ) → k < n → get_or (list_from f n i) k 0 ≡ f (i + k)
list_at f zero i k h = absurd (omega arith)
list_at f (suc n) i zero h = let e : i ≡ i + 0 = omega arith in ap f e
list_at f (suc n) i (suc k) h = let e : suc i + k ≡ i + suc k = omega arith in list_at f n (suc i) k (omega arith) ∙ ap f e

pub row_at : (f : ℕ → ℕ) (q : ℕ) → q < 25 → get_or (row_of f) q 0 ≡ f q
row_at f q h = let e : 0 + q ≡ q = omega arith in list_at f 25 0 q h ∙ ap f e

list_agree : (f g : ℕ → ℕ) (n i : ℕ) → ((k : ℕ) → f k ≡ g k) → list_from f n i ≡ list_from g n i
list_agree f g zero i h = refl
list_agree f g (suc n) i h = rw (h i, list_agree f g n (suc i) h) refl

pub follows : Follows
unfolding row next_row ending
follows k = list_agree _ _ 25 0 (λ q. forward k P.rest q (lit< tt) ∙ next_agree _ _ q (λ p h. sym (row_at (ending k) p h)))

-- a sequence leads to where signals of its classes leave a node
heard : (me label : ℕ) (m : Mode) (s : Signal) → place_of (hears me label m s).mode ≡ (entry (place_of m) (class_of me s)).place
unfolding hears
heard me label m s = ap (λ e. e.place) (key me label m (class_of me s) s)

pub leaves_there : LeavesThere
leaves_there me label m [] = refl
leaves_there me label m (s ∷ l) = leaves_there me label (hears me label m s).mode l ∙ ap (λ p. leads p (map (class_of me) l)) (heard me label m s)

-- the list has each sequence once
times-append : (s : List ℕ) (l m : List (List ℕ)) → times s (l ++ m) ≡ times s l + times s m
times-append s [] m = omega arith
times-append s (t ∷ l) m = omega (arith, times-append s l m)

times_map : (c : ℕ) (s : List ℕ) (d : ℕ) (l : List (List ℕ)) → times (c ∷ s) (map (λ t. d ∷ t) l) ≡ cond (eqb c d) (times s l) 0
times_map c s d [] = sym (none (eqb c d) refl)
times_map c s d (t ∷ l) = ap (λ x. cond (eqb c d && same s t) 1 0 + x) (times_map c s d l) ∙ more (eqb c d) (same s t) (times s l)
  where
    more : (b a : Bool) (x : ℕ) → cond (b && a) 1 0 + cond b x 0 ≡ cond b (cond a 1 0 + x) 0
    more true a x = refl
    more false a x = refl

times_headed : (c : ℕ) (s : List ℕ) (n : ℕ) (l : List (List ℕ)) → times (c ∷ s) (headed n l) ≡ cond (ltb c n) (times s l) 0
times_headed c s zero l = rw (le-ltb c 0 (omega arith)) refl
times_headed c s (suc n) l =
    times-append (c ∷ s) (headed n l) (map (λ t. n ∷ t) l)
    ∙ ap (λ x. x + times (c ∷ s) (map (λ t. n ∷ t) l)) (times_headed c s n l)
    ∙ ap (λ x. cond (ltb c n) (times s l) 0 + x) (times_map c s n l)
    ∙ one_more (times s l)
  where
    one_more : (x : ℕ) → cond (ltb c n) x 0 + cond (eqb c n) x 0 ≡ cond (ltb c (suc n)) x 0
    one_more x = by_test (ltb c n)
        (λ e. let below : c < n = ltb-true c n e in rw (e, ne_eqb c n (λ q. absurd (omega arith)), lt-ltb c (suc n) (omega arith)) (omega arith))
        (λ e. let above : n ≤ c = ltb-false c n e in by_test (eqb c n)
        (λ q. let same : c ≡ n = eqb-true c n q in rw (e, q, lt-ltb c (suc n) (omega arith)) (omega arith))
        (λ q. let apart : c ≢ n = eqb-false c n q in rw (e, q, le-ltb c (suc n) (omega arith)) refl))

none_headed : (n : ℕ) (l : List (List ℕ)) → times [] (headed n l) ≡ 0
none_headed zero l = refl
none_headed (suc n) l = omega (arith, times-append [] (headed n l) (map (λ t. n ∷ t) l), none_headed n l, none_mapped l)
  where
    none_mapped : (l : List (List ℕ)) → times [] (map (λ t. n ∷ t) l) ≡ 0
    none_mapped [] = refl
    none_mapped (t ∷ l) = omega (arith, none_mapped l)

pub lists_each : ListsEach
lists_each zero [] = refl
lists_each zero (c ∷ s) = rw (eqb-suc-zero (length s)) refl
lists_each (suc k) [] = none_headed 14 (sequences k) ∙ rw (eqb-zero-suc k) refl
lists_each (suc k) (c ∷ s) =
    times_headed c s 14 (sequences k)
    ∙ ap (λ x. cond (ltb c 14) x 0) (lists_each k s)
    ∙ rw (eqb-suc-suc (length s) k) (either (eqb (length s) k) (ltb c 14) (all_below s 14))
  where
    either : (a b d : Bool) → ◌≡◌ {A = ℕ} (cond b (cond (a && d) 1 0) 0) (cond (a && (b && d)) 1 0)
    either true true d = refl
    either true false d = refl
    either false true d = refl
    either false false d = refl

-- the next one, by the recurrence; docs/COUNTS.md has them by hand
pub row_3 : row 3 ≡ 2236 ∷ 0 ∷ 0 ∷ 0 ∷ 0 ∷ 170 ∷ 130 ∷ 10 ∷ 10 ∷ 0 ∷ 0 ∷ 0 ∷ 0 ∷ 0 ∷ 0 ∷ 188 ∷ 0 ∷ 0 ∷ 0 ∷ 0 ∷ 0 ∷ 0 ∷ 0 ∷ 0 ∷ 0 ∷ []
unfolding next_row
row_3 = follows 2 ∙ ap next_row row_2
