-- Request 9, "a route to an outcome", and request 11, "the first route": which continuations of a state lead to a report, which of them is the first, by which numbers the question is refused, and what the answers are. No proof is in this file.
use Rattle.std.specs.Prelude.{◌≡◌, Bool, true, false, cond, ◌&&◌, ◌||◌, not, List, [], ◌∷◌, ◌++◌, ℕ, ◌≤◌, eqb, ltb, length, take, replicate, Option, Some, None, Ok, Err, Result as Outcome}
use Rattle.charts.specs.declared.Report.{Report}
use Rattle.charts.specs.declared.Report.TheVariants.{Silent}
use Rattle.charts.specs.declared.Action.{Action}
use Rattle.charts.specs.declared.Word.{Word}
use Rattle.charts.specs.declared.Word.TheVariants as W
use Rattle.charts.specs.declared.Question.{Question}
use Rattle.charts.specs.declared.Route.{Route}
use Rattle.charts.specs.declared.Refusal.{Refusal}
use Rattle.charts.specs.Numbers as N
use Rattle.charts.specs.Numbers.{number_of}
use Rattle.charts.specs.Words as Words
use Rattle.charts.specs.Words.{word_of}
use Rattle.charts.specs.Records.{blank}
use Rattle.charts.specs.Layout.{records_of}
use Rattle.charts.specs.State.{State}
use Rattle.charts.specs.Valid.{valid}
use Rattle.charts.specs.Step.{Result, results, is_accepted}
use Rattle.charts.specs.Demand.{node_of}

-- "a report kind with its node": the kind is the report's first word; `-`, the word of no report, is no kind
abbrev pub numbered : Word → ℕ
numbered W.Won = Words.won
numbered W.Lost = Words.lost
numbered W.Sent = Words.sent
numbered W.Ack = Words.acked
numbered W.Miss = Words.miss
numbered W.Drop = Words.drop
numbered W.Good = Words.good
numbered W.Dcrc = Words.dcrc
numbered W.Broad = Words.broad

unfoldable pub gives : Question → Report → Bool
gives q r = eqb (word_of r) (numbered q.word) && eqb (node_of r) q.node

-- "actions of kinds 4 to 9"
abbrev pub is_bus_event : Action → Bool
is_bus_event a = ltb 3 a.kind && ltb a.kind 10

abbrev pub all_bus_events : List Action → Bool
all_bus_events [] = true
all_bus_events (a ∷ l) = is_bus_event a && all_bus_events l

-- "accepted": each when its turn comes
abbrev pub all_accepted : List Result → Bool
all_accepted [] = true
all_accepted (x ∷ l) = is_accepted x && all_accepted l

-- what the last of these results reports, and r where there is none
abbrev pub last_report : Report → List Result → Report
last_report r [] = r
last_report r (x ∷ l) = last_report x.report l

-- "a continuation of at most d accepted actions of kinds 4 to 9 whose last gives that report"; an empty one has no last, and no report
pub record IsRoute (s : State) (q : Question) (d : ℕ) (l : List Action) : Type 0 where
  pub within : length l ≤ d
  pub kinds : all_bus_events l ≡ true
  pub accepted : all_accepted (results s l) ≡ true
  pub reports : gives q (last_report Silent (results s l)) ≡ true

-- "compared byte by byte from the left" (request 11): where two lists of bytes first differ, the one with the lower byte comes before the other
abbrev pub before : List ℕ → List ℕ → Bool
before [] m = false
before (x ∷ l) [] = false
before (x ∷ l) (y ∷ m) = ltb x y || (eqb x y && before l m)

-- lists of action records, by the 16 bytes of each
abbrev pub precedes : List Action → List Action → Bool
precedes l m = before (records_of l) (records_of m)

-- "the shortest; among equally short ones the first when their action records are compared byte by byte from the left": no route is shorter, and none of its length comes before it
pub record FirstRoute (s : State) (q : Question) (d : ℕ) (l : List Action) : Type 0 where
  pub is_route : IsRoute s q d l
  pub none_shorter : (m : List Action) → IsRoute s q d m → length l ≤ length m
  pub none_before : (m : List Action) → IsRoute s q d m → length m ≡ length l → precedes m l ≡ false

-- "14, depth over 6 or n over 8, looked at after 12"; "A node not below n is refused by 4, looked at last."
abbrev pub too_deep : ℕ → ℕ → Bool
too_deep n d = ltb 6 d || ltb 8 n

unfoldable pub route_number : State → Question → ℕ → ℕ
route_number s q d =
    cond (not (valid s)) N.not_valid
    (cond (too_deep s.n d) N.too_deep
    (cond (not (ltb q.node s.n)) N.wrong_node
    N.accepted))

-- the answers: a refusal, none, and a route
abbrev pub Answer : Type 0
Answer = Outcome (Option Route) Refusal

abbrev pub in_places : List Action → List Action
in_places l = take 6 (l ++ replicate 6 blank)

abbrev pub no_route : Answer
no_route = Ok None

abbrev pub route : List Action → Answer
route l = Ok (Some (record { count = length l; actions = in_places l }))

abbrev pub has_route : Answer → Bool
has_route (Ok (Some r)) = true
has_route (Ok None) = false
has_route (Err k) = false

-- how many records its route has, else 0
abbrev pub count_of : Answer → ℕ
count_of (Ok (Some r)) = r.count
count_of (Ok None) = 0
count_of (Err k) = 0

-- what a search may answer: "Some route is enough", and "It says there is none only if no such continuation exists", of all lists of records
pub data Answers (s : State) (q : Question) (d : ℕ) : Answer → Type 0 where
  refused : (k : Refusal) → route_number s q d ≡ number_of k → Answers s q d (Err k)
  none : route_number s q d ≡ N.accepted → ((l : List Action) → IsRoute s q d l → ⊥) → Answers s q d no_route
  found : route_number s q d ≡ N.accepted → {l : List Action} → IsRoute s q d l → Answers s q d (route l)

-- "Request 9's search is to give" the first route (request 11): the answer holds it
pub record HoldsFirst (s : State) (q : Question) (d : ℕ) (x : Answer) : Type 0 where
  pub list : List Action
  pub first : FirstRoute s q d list
  pub holds : x ≡ route list

-- what the search answers: one of these answers, and a route that it holds is the first. It leaves one answer (`one_answer`, routes/proofs/First.antt)
pub record FirstAnswers (s : State) (q : Question) (d : ℕ) (x : Answer) : Type 0 where
  pub answers : Answers s q d x
  pub first : has_route x ≡ true → HoldsFirst s q d x
