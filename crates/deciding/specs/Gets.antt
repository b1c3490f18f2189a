-- Kinds 5, 6, 7 and 9 alike: the node that the bus has next gets what comes to it, the signal on its way or a Gap. (proofs/Got.antt: this is `carry` and `gap` of the charts.)
use Rattle.std.specs.Prelude.{Bool, false, cond, ℕ, suc, ltb}
use Rattle.charts.specs.declared.Signal.TheVariants as S
use Rattle.charts.specs.declared.Report.{Report}
use Rattle.charts.specs.declared.Report.TheVariants as R
use Rattle.charts.specs.declared.Phase.{Phase}
use Rattle.charts.specs.declared.Phase.TheVariants.{Idle, Busy, Delivering, Granting, Gapping}
use Rattle.charts.specs.declared.Cell.{Cell}
use Rattle.charts.specs.declared.Way.{Way}
use Rattle.charts.specs.declared.Arrival.{Arrival}
use Rattle.charts.specs.declared.Arrival.TheVariants.{Closed, Lost, Hears}
use Rattle.charts.specs.declared.Marking.{Marking}
use Rattle.charts.specs.declared.Marking.TheVariants as M
use Rattle.charts.specs.declared.Move.{Move}
use Rattle.charts.specs.declared.Move.TheVariants.{Request, Arbitrate, Respond, Clock, Carry, Grant, GapNext, Reset, Ask, Decide}
use Rattle.charts.specs.Reception.{Reception}
use Rattle.charts.specs.Arrivals.{arrives}
use Rattle.charts.specs.State.{upd, is_idle}
use Rattle.charts.specs.Actions.{Outcome, closed, does, onward, receives, hearing, marking_at_idle, next_of}

-- what comes to that node, which may be misled
abbrev pub carried : Phase → Bool → Way → Arrival
carried Idle q w = Closed
carried Busy q w = Closed
carried (Delivering i s j) q w = arrives w q s
carried Granting q w = Closed
carried (Gapping j) q w = Closed

abbrev pub gapped : Phase → Arrival
gapped Idle = Closed
gapped Busy = Closed
gapped (Delivering i s j) = Closed
gapped Granting = Closed
gapped (Gapping j) = Hears S.Gap false

abbrev pub incoming : Phase → Bool → Move → Arrival
incoming p q (Request i x) = Closed
incoming p q (Arbitrate i) = Closed
incoming p q (Respond i a hold) = Closed
incoming p q (Clock i) = Closed
incoming p q (Carry w) = carried p q w
incoming p q Grant = Closed
incoming p q GapNext = gapped p
incoming p q Reset = Closed
incoming p q (Ask i) = Closed
incoming p q (Decide i) = Closed

-- the phase once it has got it, and the bus's own mark in that phase
abbrev pub next_gap : ℕ → ℕ → Phase
next_gap n j = cond (ltb (suc j) n) (Gapping (suc j)) Idle

abbrev pub phase_after : ℕ → Phase → (ℕ → Bool) → Phase
phase_after n Idle ps = Idle
phase_after n Busy ps = Busy
phase_after n (Delivering i s j) ps = onward n i s j ps
phase_after n Granting ps = Granting
phase_after n (Gapping j) ps = next_gap n j

abbrev pub marking_in : Phase → Marking
marking_in p = cond (is_idle p) marking_at_idle M.Nothing

-- its report is r and its cell is then c
abbrev pub got : ℕ → Phase → (ℕ → Bool) → Report → Cell → Outcome
got n p ps r c = let q = phase_after n p (upd ps (next_of p) c.pending) in does r q c (marking_in q)

abbrev pub gets : Reception → ℕ → Phase → Cell → (ℕ → Bool) → Arrival → Outcome
gets h n p c ps Closed = closed
gets h n p c ps Lost = got n p ps R.Silent c
gets h n p c ps (Hears t misleads) = got n p ps (receives h (next_of p) c t).report (hearing c (receives h (next_of p) c t) misleads)
