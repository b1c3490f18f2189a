-- The kinds of actions, by the byte that an action record has for each.
use Rattle.std.specs.Prelude.{ℕ, ◌≡◌, false, Result, Ok, Err}
use Rattle.charts.specs.declared.Refusal.{Refusal}
use Rattle.charts.specs.declared.Refusal.TheVariants.{WrongKind}
use Rattle.charts.specs.Records.{is_kind}
use Rattle.charts.specs.declared.Kind.{Kind}
use Rattle.charts.specs.declared.Kind.TheVariants.{Request, Arbitrate, Respond, Clock, Pass, Lose, Change, Grant, Gap, Reset, Ask, Decide}

abbrev pub kind_number : Kind → ℕ
kind_number Request = 1
kind_number Arbitrate = 2
kind_number Respond = 3
kind_number Clock = 4
kind_number Pass = 5
kind_number Lose = 6
kind_number Change = 7
kind_number Grant = 8
kind_number Gap = 9
kind_number Reset = 10
kind_number Ask = 11
kind_number Decide = 12

-- a byte read as a kind: the kind with that number, or "kind not 1–12" is refused
abbrev pub Reads : ℕ → Result Kind Refusal → Type 0
Reads k (Ok x) = kind_number x ≡ k
Reads k (Err e) = (is_kind k ≡ false) × (e ≡ WrongKind)
