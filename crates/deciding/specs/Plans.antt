-- Plans: what an action, or a refused record, comes to for the one node that it is about.
use Rattle.std.specs.Prelude.{Bool, cond, ◌&&◌, ℕ, ◌<◌, ◌≤◌, ltb, Result, Ok, Err}
use Rattle.charts.specs.declared.Refusal.{Refusal}
use Rattle.charts.specs.declared.Refusal.TheVariants as R
use Rattle.charts.specs.declared.Report.{Report}
use Rattle.charts.specs.declared.Phase.{Phase}
use Rattle.charts.specs.declared.Cell.{Cell}
use Rattle.charts.specs.declared.Marking.{Marking}
use Rattle.charts.specs.declared.Move.{Move}
use Rattle.charts.specs.Records.{Decoded}
use Rattle.charts.specs.Reception.{Reception}
use Rattle.charts.specs.Actions.{Outcome, closed, does, when, may_be_open, next_of, target, outcome}
use Rattle.deciding.specs.declared.plans.Plan.{Plan}

-- a plan, or why there is none
abbrev pub Planned : Type 0
Planned = Result Plan Refusal

abbrev pub doing : Report → Phase → Cell → Marking → Planned
doing r p c x = Ok (record { report = r; phase = p; cell = c; marking = x })

-- the plan of an outcome
abbrev pub settled : Outcome → Planned
settled closed = Err R.NotOpen
settled (does r q d x) = doing r q d x

-- the node that a record is about; a refused one changes nothing at node 0
abbrev pub aimed : ℕ → Phase → (ℕ → Bool) → Decoded → ℕ
aimed n p ps (Err k) = 0
aimed n p ps (Ok m) = target n p ps m

-- the plan of an action about node i, whose cell is c, where what nodes do with signals is h; b is the bus's own mark, and q says whether a node is Asked
abbrev pub opened : Reception → ℕ → Phase → Bool → Bool → ℕ → Cell → (ℕ → Bool) → (ℕ → Bool) → (ℕ → Bool) → Move → Planned
opened h n p b q i c ws ps hs m = settled (when (may_be_open q m) (outcome h n p b i c ws ps hs m))

-- the plan of a record
abbrev pub planned : Reception → ℕ → Phase → Bool → Bool → ℕ → Cell → (ℕ → Bool) → (ℕ → Bool) → (ℕ → Bool) → Decoded → Planned
planned h n p b q i c ws ps hs (Err k) = Err k
planned h n p b q i c ws ps hs (Ok m) = opened h n p b q i c ws ps hs m

-- what 12 says that makes a plan for node i safe: at most 63 nodes, and i and the node that gets the next signal or Gap below 63. The plan that asks for it, of any action
-- about any node
abbrev pub is_ready : ℕ → Phase → ℕ → Bool
is_ready n p i = ltb n 64 && (ltb (next_of p) 63 && ltb i 63)

abbrev pub attempted : Reception → ℕ → Phase → Bool → Bool → ℕ → Cell → (ℕ → Bool) → (ℕ → Bool) → (ℕ → Bool) → Move → Planned
attempted h n p b q i c ws ps hs m = cond (is_ready n p i) (opened h n p b q i c ws ps hs m) (Err R.NotValid)

-- the same of any record, by whatever it was refused: that stays as it is
abbrev pub Tried : Type 0 → Type 0
Tried E = Result Planned E

abbrev pub tried : {E : Type 0} → Reception → ℕ → Phase → Bool → Bool → ℕ → Cell → (ℕ → Bool) → (ℕ → Bool) → (ℕ → Bool) → Result Move E → Tried E
tried h n p b q i c ws ps hs (Err k) = Err k
tried h n p b q i c ws ps hs (Ok m) = Ok (attempted h n p b q i c ws ps hs m)

-- what indexing by an accepted record needs
pub record Fits (n : ℕ) (p : Phase) (i : ℕ) : Type 0 where
  pub size : n ≤ 63
  pub next : next_of p < 63
  pub node : i < n

abbrev pub Ready : ℕ → Phase → (ℕ → Bool) → Decoded → Type 0
Ready n p ps (Err k) = Unit {0}
Ready n p ps (Ok m) = Fits n p (target n p ps m)
