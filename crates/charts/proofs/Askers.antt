-- Who is Asked after an action: only kind 11 makes a node Asked, and only kind 12 ends it. So the number of nodes that are Asked can be kept from action to action. Assumes nothing.
use mathlib.Core.Path.{◌≡◌, refl, sym, ap}
use mathlib.Core.Bool.{Bool, true, false, not}
use Prim.Native.Nat.{ℕ, ◌<◌}
use lib.Dec.{eqb}
use borrow.Author.Tests.{not-true}
use Rattle.charts.specs.declared.Mode.{Mode}
use Rattle.charts.specs.declared.Signal.{Signal}
use Rattle.charts.specs.declared.Signal.TheVariants.{Gap}
use Rattle.charts.specs.declared.Report.{Report}
use Rattle.charts.specs.declared.Packet.{Packet}
use Rattle.charts.specs.declared.Phase.{Phase}
use Rattle.charts.specs.declared.Cell.{Cell}
use Rattle.charts.specs.declared.Marking.{Marking}
use Rattle.charts.specs.declared.Move.{Move}
use Rattle.charts.specs.declared.Move.TheVariants.{Request, Arbitrate, Respond, Clock, Carry, Grant, GapNext, Reset, Ask, Decide}
use Rattle.charts.specs.Modes as P
use Rattle.charts.specs.Modes.{is_told, is_owed, is_asked}
use Rattle.charts.specs.State.{State, askers, is_empty}
use Rattle.charts.specs.Actions.{does, granted}
use Rattle.charts.specs.Step.{some_asked, may_act}
use Rattle.charts.specs.Demand.{forward}
use Rattle.charts.proofs.Tools.{never, clash, pick, none_of}
use Rattle.charts.proofs.Places.{hears_unasked}
use Rattle.charts.proofs.Ways.{Puts, start, dhead, dest, header, datum, end_all, end_one, filler, ack_start, ack_body_lem, ack_hold, ack_end, holds_on, Contends, at_once, asked, Effect, waits, replies, claims, wins, loses, gives, puts, frees, arrives, is_lost, grants, grants_none, gaps, settles, resets}

-- kind 11; kind 12
abbrev pub is_ask : Move → Bool
is_ask (Request i p) = false
is_ask (Arbitrate i) = false
is_ask (Respond i a hold) = false
is_ask (Clock i) = false
is_ask (Carry w) = false
is_ask Grant = false
is_ask GapNext = false
is_ask Reset = false
is_ask (Ask i) = true
is_ask (Decide i) = false

abbrev pub is_decide : Move → Bool
is_decide (Request i p) = false
is_decide (Arbitrate i) = false
is_decide (Respond i a hold) = false
is_decide (Clock i) = false
is_decide (Carry w) = false
is_decide Grant = false
is_decide GapNext = false
is_decide Reset = false
is_decide (Ask i) = false
is_decide (Decide i) = true

-- kind 11 is no forward action
pub not_ask : (s : State) (m : Move) → forward s m ≡ true → is_ask m ≡ false
not_ask s (Request i p) e = refl
not_ask s (Arbitrate i) e = refl
not_ask s (Respond i a hold) e = refl
not_ask s (Clock i) e = refl
not_ask s (Carry w) e = refl
not_ask s Grant e = refl
not_ask s GapNext e = refl
not_ask s Reset e = refl
not_ask s (Ask i) e = never e
not_ask s (Decide i) e = refl

-- what a holder puts out leaves it in another mode than Asked, as it was before
puts_unasked : {i : ℕ} {p : Packet} {m : Mode} {g : Signal} {m' : Mode} {r : Report} → Puts i p m g m' r → (is_asked m ≡ false) × (is_asked m' ≡ false)
puts_unasked start = (refl, refl)
puts_unasked dhead = (refl, refl)
puts_unasked dest = (refl, refl)
puts_unasked header = (refl, refl)
puts_unasked datum = (refl, refl)
puts_unasked (end_all l e) = (refl, refl)
puts_unasked (end_one l e) = (refl, refl)
puts_unasked filler = (refl, refl)
puts_unasked ack_start = (refl, refl)
puts_unasked ack_body_lem = (refl, refl)
puts_unasked (ack_hold l) = (refl, refl)
puts_unasked (ack_end l) = (refl, refl)
puts_unasked holds_on = (refl, refl)

-- kinds 4 to 10 find no node Asked, and leave none
pub unasked : (s : State) → not (some_asked s) ≡ true → (i : ℕ) → i < s.n → is_asked (s.cell i).mode ≡ false
unasked s u = none_of (askers s.cell) s.n (not-true _ u)

granted_unasked : (m : Mode) → is_asked m ≡ false → is_asked (granted m) ≡ false
granted_unasked m e = pick (λ x. is_asked x ≡ false) (is_told m) _ _ refl (pick (λ x. is_asked x ≡ false) (is_owed m) _ _ refl e)

-- a node's mode before and after an action, which is about it
pub record Asking (m : Move) (before after : Cell) : Type 0 where
  pub was : is_asked before.mode ≡ is_decide m
  pub now : is_asked after.mode ≡ is_ask m
  pub full : is_ask m ≡ true → is_empty after.buffer ≡ false

module _ (s : State) where
  contends_not : {i : ℕ} {m : Move} → Contends s i m → is_ask m ≡ false
  contends_not (at_once e) = refl
  contends_not (asked e) = refl

  contends_was : {i : ℕ} {m : Move} → Contends s i m → is_asked (s.cell i).mode ≡ is_decide m
  contends_was (at_once e) = ap (λ p. eqb p P.asked) e
  contends_was (asked e) = ap (λ p. eqb p P.asked) e

  pub asking : (m : Move) (i : ℕ) (r : Report) (p : Phase) (c : Cell) (x : Marking) → i < s.n → may_act s m ≡ true → Effect s m i (does r p c x) → Asking m (s.cell i) c
  asking m i r p c x l u (waits e f) = let z = ap (λ p. eqb p P.asked) e in record { was = z; now = z; full = never }
  asking m i r p c x l u (replies e) = record { was = ap is_asked e; now = refl; full = never }
  asking m i r p c x l u (claims e f) = record { was = ap (λ p. eqb p P.asked) e; now = refl; full = λ z. f }
  asking m i r p c x l u (wins d q f w) = record { was = contends_was d; now = sym (contends_not d); full = λ z. clash _ z (contends_not d) }
  asking m i r p c x l u (loses d) = record { was = contends_was d; now = sym (contends_not d); full = λ z. clash _ z (contends_not d) }
  asking m i r p c x l u (gives e z) = record { was = ap is_asked e; now = refl; full = never }
  asking m i r p c x l u (puts q h o y) = let z = puts_unasked y in record { was = z.0; now = z.1; full = never }
  asking m i r p c x l u (frees q h e) = record { was = ap is_asked e; now = refl; full = never }
  asking m i r p c x l u (arrives {t = t} q y) = let z = unasked s u i l in record { was = z; now = hears_unasked i _ (s.cell i).mode t z; full = never }
  asking m i r p c x l u (is_lost q e) = let z = unasked s u i l in record { was = z; now = z; full = never }
  asking m i r p c x l u (grants q e y) = let z = unasked s u i l in record { was = z; now = granted_unasked (s.cell i).mode z; full = never }
  asking m i r p c x l u (grants_none q e) = let z = unasked s u i l in record { was = z; now = z; full = never }
  asking m i r p c x l u (gaps q y) = let z = unasked s u i l in record { was = z; now = hears_unasked i _ (s.cell i).mode Gap z; full = never }
  asking m i r p c x l u (settles q y) = let z = unasked s u i l in record { was = z; now = hears_unasked i _ (s.cell i).mode Gap z; full = never }
  asking m i r p c x l u (resets q) = let z = unasked s u i l in record { was = z; now = z; full = never }
