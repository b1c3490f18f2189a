-- The rules of a trial (charts' Trials.antt) over what the code has: marks and numbers in arrays, and of one node its cell, its user and what is kept of it.
-- (proofs/Rules.antt: of a trial's bus they are the rules.)
use Rattle.std.specs.Prelude.{◌≡◌, Bool, false, cond, ◌&&◌, ◌||◌, not, List, ℕ, suc, ◌≤◌, eqb, ltb, get_or, length}
use Rattle.charts.specs.declared.Action.{Action}
use Rattle.charts.specs.declared.Bus.{Bus}
use Rattle.charts.specs.declared.Cell.{Cell}
use Rattle.charts.specs.declared.Kept.{Kept}
use Rattle.charts.specs.declared.Node.{Node}
use Rattle.charts.specs.declared.Phase.{Phase}
use Rattle.charts.specs.declared.Phase.TheVariants.{Idle, Busy, Delivering, Granting, Gapping}
use Rattle.charts.specs.declared.Report.{Report}
use Rattle.charts.specs.declared.Report.TheVariants.{Silent, Won, Lost, Sent, Acked, Miss, Drop, Good, Dcrc, Broad}
use Rattle.charts.specs.declared.Tally.{Tally}
use Rattle.charts.specs.declared.User.{User}
use Rattle.charts.specs.Modes.{is_answering, is_spurious}
use Rattle.charts.specs.Signals.{is_checked}
use Rattle.charts.specs.State.{some, lowest, is_empty}
use Rattle.charts.specs.View.{fresh_node, view}
use Rattle.charts.specs.Demand.{history}
use Rattle.charts.specs.Asking.{of_node}
use Rattle.charts.specs.Trials.{nothing_kept, request_by, delivers, acts, is_over, least, is_carried, heard_after, won_by, lowered, Load, load_after, trial, Sends, tally_of}

-- what is kept of the user of node k; and what is left of its spell
abbrev pub kept_in : List Kept → ℕ → Kept
kept_in l k = get_or l k nothing_kept

abbrev pub left_in : List Kept → ℕ → ℕ
left_in l k = (kept_in l k).left

-- two marks that the nodes' records have: a full buffer, a Spurious holder
abbrev pub is_full : Cell → Bool
is_full c = not (is_empty c.buffer)

abbrev pub full_in : List Node → ℕ → Bool
full_in nodes k = not (is_empty (get_or nodes k fresh_node).buffer)

abbrev pub stray_in : List Node → (ℕ → Bool) → ℕ → Bool
stray_in nodes holder k = holder k && is_spurious (get_or nodes k fresh_node).mode

-- marks of nodes whose spell is over; the marks f without the marks g
abbrev pub overs : (ℕ → ℕ) → ℕ → Bool
overs left k = eqb (left k) 0

abbrev pub without : (ℕ → Bool) → (ℕ → Bool) → ℕ → Bool
without f g k = f k && not (g k)

-- the lowest node that f marks, or else that g marks
abbrev pub first_of : (ℕ → Bool) → (ℕ → Bool) → ℕ → ℕ
first_of f g n = lowest f n (lowest g n 0)

-- how much is waited: the least left, where no buffer is full and no node has the won mark. (Where a node may ask, that is 0.)
abbrev pub waits_by : Bool → (ℕ → Bool) → (ℕ → Bool) → (ℕ → ℕ) → ℕ → ℕ
waits_by idle full won left n = cond (idle && not (some (λ k. full k || won k) n)) (least left n) 0

-- a node that has a place in the arrays, else 0
abbrev pub placed : ℕ → ℕ
placed j = cond (ltb j 63) j 0

-- the node whose turn it is: on an Idle bus who may ask, or else who may arbitrate; on a Busy one the holder that acts; the next receiver
abbrev pub actor_by : ℕ → Phase → (ℕ → Bool) → (ℕ → Bool) → (ℕ → ℕ) → (ℕ → Bool) → (ℕ → Bool) → ℕ
actor_by n Idle full won left stray holder = first_of (without (overs left) full) (without full won) n
actor_by n Busy full won left stray holder = first_of stray holder n
actor_by n (Delivering i s j) full won left stray holder = placed j
actor_by n Granting full won left stray holder = 0
actor_by n (Gapping j) full won left stray holder = 0

-- the action by that node's own values
unfoldable pub starts_at : ℕ → Cell → User → Kept → Action
starts_at i c u x = cond (is_empty c.buffer && is_over x) (request_by i u x) (cond (is_full c && not c.won) (of_node 2 i) (of_node 10 0))

unfoldable pub chooses_at : Phase → Bool → ℕ → Cell → User → Kept → Action
chooses_at Idle concatenated i c u x = starts_at i c u x
chooses_at Busy concatenated i c u x = acts concatenated i c.mode u x
chooses_at (Delivering w g j) concatenated i c u x = delivers g u x
chooses_at Granting concatenated i c u x = of_node 8 0
chooses_at (Gapping j) concatenated i c u x = of_node 9 0

-- one more, of at most `most`
abbrev pub capped : ℕ → ℕ → ℕ
capped most x = cond (ltb x most) (suc x) x

-- what is kept of that node after the action, its spell aside
abbrev pub checked_in : Phase → Bool
checked_in Idle = false
checked_in Busy = false
checked_in (Delivering i g j) = is_checked g
checked_in Granting = false
checked_in (Gapping j) = false

abbrev pub filled_by : ℕ → Bool → ℕ → ℕ
filled_by kind answering filled = cond (eqb kind 3) 0 (cond (eqb kind 4 && answering) (capped 255 filled) filled)

abbrev pub made_by : ℕ → ℕ → ℕ
made_by kind made = cond (eqb kind 1) (capped 65535 made) made

unfoldable pub kept_after : Phase → Cell → User → Action → Kept → Kept
kept_after phase c u a x = record {
  left = x.left;
  heard = heard_after (is_carried a && checked_in phase) u.period x.heard;
  filled = filled_by a.kind (is_answering c.mode) x.filled;
  made = made_by a.kind x.made;
}

-- what is kept after waiting, or after an action; and after a report
abbrev pub lowered_by : ℕ → (ℕ → Kept) → ℕ → Kept
lowered_by w kept k = lowered w (kept k)

abbrev pub spells : Bool → ℕ → Kept → Kept
spells wins spell x = record { left = cond wins spell x.left; heard = x.heard; filled = x.filled; made = x.made }

abbrev pub spelled : Report → (ℕ → User) → (ℕ → Kept) → ℕ → Kept
spelled r us kept k = spells (won_by k r) (us k).spell (kept k)

-- the tally after an action; a counter of 16 bits stays at its largest number
abbrev pub counter : ℕ → ℕ
counter x = capped 65535 x

abbrev pub request_counted : ℕ → Tally → Tally
request_counted kind t = record { requests = cond (eqb kind 1) (counter t.requests) t.requests; wins = t.wins; sent = t.sent; acks = t.acks; misses = t.misses; drops = t.drops }

unfoldable pub report_counted : Report → Tally → Tally
report_counted Silent t = t
report_counted (Won i) t = record { requests = t.requests; wins = counter t.wins; sent = t.sent; acks = t.acks; misses = t.misses; drops = t.drops }
report_counted (Lost i) t = t
report_counted (Sent i x) t = record { requests = t.requests; wins = t.wins; sent = counter t.sent; acks = t.acks; misses = t.misses; drops = t.drops }
report_counted (Acked i a x) t = record { requests = t.requests; wins = t.wins; sent = t.sent; acks = counter t.acks; misses = t.misses; drops = t.drops }
report_counted (Miss i x) t = record { requests = t.requests; wins = t.wins; sent = t.sent; acks = t.acks; misses = counter t.misses; drops = t.drops }
report_counted (Drop i m) t = record { requests = t.requests; wins = t.wins; sent = t.sent; acks = t.acks; misses = t.misses; drops = counter t.drops }
report_counted (Good i h d) t = t
report_counted (Dcrc i h) t = t
report_counted (Broad i h d) t = t

-- a trial under way over arrays, and its tally after k actions: that of the events of its list
abbrev pub load_in : Bus → List Kept → Load
load_in b kept = record { state = view b; kept = kept_in kept }

abbrev pub tally_after : (ℕ → User) → ℕ → ℕ → Tally
tally_after us n k = tally_of (history n (trial us n k))

-- settings that are not refused by 1, 5 or 15
pub record Allowed (us : ℕ → User) (n : ℕ) : Type 0 where
  pub two : 2 ≤ n
  pub small : n ≤ 63
  pub fine : Sends us n

-- such a trial after k actions
pub record Stands (us : ℕ → User) (k : ℕ) (b : Bus) (kept : List Kept) (t : Tally) : Type 0 where
  pub load : load_in b kept ≡ load_after us b.n k
  pub tally : t ≡ tally_after us b.n k
