-- Request 7, "how many signal sequences end where": the sequences of classes, the place to which each leads, and how many lead to each place. The claims stand at the end.
-- No proof is in this file.
use Rattle.std.specs.Prelude.{◌≡◌, Bool, true, false, cond, ◌&&◌, List, [], ◌∷◌, ◌++◌, map, ℕ, zero, suc, ◌+◌, ◌^◌, eqb, length, get_or}
use Rattle.charts.specs.declared.Mode.{Mode}
use Rattle.charts.specs.declared.Signal.{Signal}
use Rattle.charts.specs.Modes as P
use Rattle.charts.specs.Modes.{place_of}
use Rattle.charts.specs.Signals.{class_of}
use Rattle.charts.specs.Reception.{hears}
use Rattle.charts.specs.Table.{entry}
use Rattle.charts.specs.State.{total, list_from, all_below}

-- each of the first n classes before each of some sequences
abbrev pub headed : ℕ → List (List ℕ) → List (List ℕ)
headed zero l = []
headed (suc n) l = headed n l ++ map (λ s. n ∷ s) l

-- "the 14 to the power k sequences of classes", listed
abbrev pub sequences : ℕ → List (List ℕ)
sequences zero = [] ∷ []
sequences (suc k) = headed 14 (sequences k)

-- "fed to a node": the place to which a sequence leads from place p, by the table's next places
abbrev pub leads : ℕ → List ℕ → ℕ
leads p [] = p
leads p (c ∷ s) = leads (entry p c).place s

-- how many of some sequences lead from place p to place q
abbrev pub leading : ℕ → ℕ → List (List ℕ) → ℕ
leading p q [] = 0
leading p q (s ∷ l) = cond (eqb (leads p s) q) 1 0 + leading p q l

-- "of the 14 to the power k sequences of classes fed to a node in Rest", how many leave it at place q
unfoldable pub ending : ℕ → ℕ → ℕ
ending k q = leading P.rest q (sequences k)

-- "how many leave it in each of the 25 modes, in the table's order": f at the 25 places, and the row of k
abbrev pub row_of : (ℕ → ℕ) → List ℕ
row_of f = list_from f 25 0

unfoldable pub row : ℕ → List ℕ
row k = row_of (ending k)

-- The claims, for every k. Two sequences are the same; how often one stands in a list
abbrev pub same : List ℕ → List ℕ → Bool
same [] [] = true
same [] (d ∷ t) = false
same (c ∷ s) [] = false
same (c ∷ s) (d ∷ t) = eqb c d && same s t

abbrev pub times : List ℕ → List (List ℕ) → ℕ
times s [] = 0
times s (t ∷ l) = cond (same s t) 1 0 + times s l

abbrev pub is_sequence : ℕ → List ℕ → Bool
is_sequence k s = eqb (length s) k && all_below s 14

-- the list has every sequence of k classes, each once, and nothing else
abbrev pub ListsEach : Type 0
ListsEach = (k : ℕ) (s : List ℕ) → times s (sequences k) ≡ cond (is_sequence k s) 1 0

-- the mode in which some signals, one after the other, leave node `me`
abbrev pub left_in : ℕ → ℕ → Mode → List Signal → Mode
left_in me label m [] = m
left_in me label m (s ∷ l) = left_in me label (hears me label m s).mode l

-- a sequence leads to where signals of its classes leave a node, whatever they carry and whatever the node remembers
abbrev pub LeavesThere : Type 0
LeavesThere = (me label : ℕ) (m : Mode) (l : List Signal) → place_of (left_in me label m l) ≡ leads (place_of m) (map (class_of me) l)

-- "each row adds up to 14 to the power k"
abbrev pub AddsUp : Type 0
AddsUp = (k : ℕ) → total (ending k) 25 ≡ 14 ^ k

-- from the counts of one length to those of the next: what comes to q is what each place p has, once for each class whose cell takes p to q
abbrev pub next : (ℕ → ℕ) → ℕ → ℕ
next f q = total (λ p. total (λ c. cond (eqb (entry p c).place q) (f p) 0) 14) 25

unfoldable pub next_row : List ℕ → List ℕ
next_row l = row_of (next (λ p. get_or l p 0))

abbrev pub Follows : Type 0
Follows = (k : ℕ) → row (suc k) ≡ next_row (row k)
