-- Request 8: how a trial keeps its settings, said of its turns as they are seen from outside: the bus before each action, what was waited, and the action.
-- None of the numbers that the trial itself keeps is used. No proof is in this file.
use Rattle.std.specs.Prelude.{◌≡◌, Bool, true, false, cond, ◌&&◌, ◌||◌, ◌⊎◌, List, [], ◌∷◌, ℕ, zero, suc, ◌+◌, ◌<◌, eqb, leb, length, take}
use Rattle.charts.specs.declared.Mode.{Mode}
use Rattle.charts.specs.declared.Report.{Report}
use Rattle.charts.specs.declared.Report.TheVariants.{Won}
use Rattle.charts.specs.declared.Action.{Action}
use Rattle.charts.specs.declared.User.{User}
use Rattle.charts.specs.Modes.{is_sending, is_answering, is_acking, is_holding}
use Rattle.charts.specs.State.{State, holders, some, others, is_idle, is_busy, is_empty}
use Rattle.charts.specs.Step.{step}
use Rattle.charts.specs.Demand.{is_open, one, final}
use Rattle.charts.specs.Trials.{waits, load_after, chosen, trial, strays, bidding, came, is_of, fills, won_by, respond_by}

-- 1. WHO HOLDS A BUSY BUS: "in every run from a fresh bus a Busy bus has a holder in Spurious, or one holder alone, in Sending, Answering, Acking or Holding"
abbrev pub is_busy_with : Mode → Bool
is_busy_with m = is_sending m || (is_answering m || (is_acking m || is_holding m))

pub record HoldsAlone (s : State) : Type 0 where
  pub node : ℕ
  pub here : node < s.n
  pub holds : (s.cell node).holder ≡ true
  pub alone : others (holders s.cell) node s.n ≡ false
  pub mode : is_busy_with (s.cell node).mode ≡ true

abbrev pub HeldIfBusy : State → Type 0
HeldIfBusy s = is_busy s.phase ≡ true → (some (strays s) s.n ≡ true) ⊎ HoldsAlone s

abbrev pub BusyHeld : ℕ → List Action → Type 0
BusyHeld n l = HeldIfBusy (final n l)

-- 2. TURNS, the latest first
pub record Turn : Type 0 where
  pub before : State
  pub waited : ℕ
  pub action : Action

abbrev pub turn_at : (ℕ → User) → ℕ → ℕ → Turn
turn_at us n k = record { before = (load_after us n k).state; waited = waits (load_after us n k); action = chosen us n k }

unfoldable pub turns : (ℕ → User) → ℕ → ℕ → List Turn
turns us n zero = []
turns us n (suc k) = turn_at us n k ∷ turns us n k

abbrev pub kind_of : Turn → ℕ
kind_of t = t.action.kind

abbrev pub node_of : Turn → ℕ
node_of t = t.action.node

abbrev pub report_of : Turn → Report
report_of t = (step t.before t.action).report

-- "an idle spell of 0 to 255 actions after each win": that of user i is over w actions after the turns l; actions of anybody count, and waiting
abbrev pub is_past : ℕ → ℕ → ℕ → List Turn → Bool
is_past spell i w [] = true
is_past spell i w (t ∷ l) = cond (won_by i (report_of t)) (leb spell w) (is_past spell i (suc (w + t.waited)) l)

-- "fillers before it answers": since its last respond
abbrev pub fillers_of : ℕ → List Turn → ℕ
fillers_of i [] = 0
fillers_of i (t ∷ l) = cond (is_of 3 i t.action) 0 (cond (fills i t.before t.action) (suc (fillers_of i l)) (fillers_of i l))

-- Header, Data and Ack signals that came to node i since the last of them that was lost
abbrev pub came_to : ℕ → List Turn → ℕ
came_to i [] = 0
came_to i (t ∷ l) = cond (came i t.before t.action) (cond (eqb (kind_of t) 6) 0 (suc (came_to i l))) (came_to i l)

-- 3. THE SETTINGS KEPT, in the turn t after the turns l
pub record Keeps (us : ℕ → User) (n : ℕ) (t : Turn) (l : List Turn) : Type 0 where
  -- "each of them open when chosen"
  pub opens : is_open t.before t.action ≡ true
  -- "where only waiting is left, idle spells run down without an action": while they do, the bus is Idle, no buffer is full, no node is marked won, and no spell is over
  pub waits : (w : ℕ) → w < t.waited → (is_idle t.before.phase ≡ true) × ((i : ℕ) → i < n →
      (is_empty (t.before.cell i).buffer ≡ true) × (((t.before.cell i).won ≡ false) × (is_past (us i).spell i w l ≡ false)))
  -- "It arbitrates only to win"
  pub wins : eqb (kind_of t) 2 ≡ true → report_of t ≡ Won (node_of t)
  -- "resets only where no full buffer lacks the won mark"
  pub resets : eqb (kind_of t) 10 ≡ true → some (bidding t.before) n ≡ false
  -- "does neither while a user past its spell has an empty buffer"
  pub neither : eqb (kind_of t) 2 || eqb (kind_of t) 10 ≡ true → (i : ℕ) → i < n → is_empty (t.before.cell i).buffer ≡ true → is_past (us i).spell i t.waited l ≡ false
  -- "uses no kind 7, 11 or 12"
  pub kinds : eqb (kind_of t) 7 || (eqb (kind_of t) 11 || eqb (kind_of t) 12) ≡ false
  -- "no request into a buffer before its spell is over" (one in Holding goes into none)
  pub spells : eqb (kind_of t) 1 ≡ true → is_holding (t.before.cell (node_of t)).mode ≡ false → is_past (us (node_of t)).spell (node_of t) t.waited l ≡ true
  -- "exactly its fillers before each respond and no others"
  pub exactly : eqb (kind_of t) 3 ≡ true → fillers_of (node_of t) l ≡ (us (node_of t)).fillers
  pub no_others : eqb (kind_of t) 4 ≡ true → (is_holding (t.before.cell (node_of t)).mode ≡ false) × (is_answering (t.before.cell (node_of t)).mode ≡ true → fillers_of (node_of t) l < (us (node_of t)).fillers)
  -- "hold where open"
  pub holds : eqb (kind_of t) 3 ≡ true → t.action.hold ≡ one ((us (node_of t)).hold && is_open t.before (respond_by (node_of t) true))
  -- "just those losses": of the Header, Data and Ack signals "delivered to it" "each m-th" is lost ("0: none"), and no other signal may be lost
  pub losses : (i : ℕ) → came i t.before t.action ≡ true → eqb (kind_of t) 6 ≡ eqb (suc (came_to i l)) (us i).period

-- every turn of a trial does
abbrev pub KeepsSettings : (ℕ → User) → ℕ → ℕ → Type 0
KeepsSettings us n k = Keeps us n (turn_at us n k) (turns us n k)

-- 4. THE LIST. "for 1 to 65,535 actions"; the bus of a trial is that which its list leaves; "a longer trial begins with the shorter one's actions"
pub record IsTrial (us : ℕ → User) (n k : ℕ) : Type 0 where
  pub count : length (trial us n k) ≡ k
  pub bus : (load_after us n k).state ≡ final n (trial us n k)
  pub longer : (m : ℕ) → take k (trial us n (k + m)) ≡ trial us n k
