-- What the next node gets by kinds 5, 6, 7 and 9 is what the charts say of carry and gap. Assumes nothing.
use mathlib.Core.Path.{◌≡◌, refl, ap}
use mathlib.Core.Bool.{Bool, true, false, cond}
use mathlib.Core.List.{[], ◌∷◌}
use Prim.Native.Nat.{ℕ, suc}
use lib.Dec.{ltb}
use types.Run.{OneOf, miss}
use denote.Enum.Declared.{tag_of}
use Rattle.charts.specs.contracts.Move.{the_type}
use Rattle.charts.specs.declared.Signal.{Signal}
use Rattle.charts.specs.declared.Signal.TheVariants as S
use Rattle.charts.specs.declared.Report.{Report}
use Rattle.charts.specs.declared.Report.TheVariants as R
use Rattle.charts.specs.declared.Phase.{Phase}
use Rattle.charts.specs.declared.Phase.TheVariants.{Idle, Busy, Delivering, Granting, Gapping}
use Rattle.charts.specs.declared.Cell.{Cell}
use Rattle.charts.specs.declared.Way.{Way}
use Rattle.charts.specs.declared.Arrival.{Arrival}
use Rattle.charts.specs.declared.Arrival.TheVariants.{Closed, Lost, Hears}
use Rattle.charts.specs.declared.Marking.TheVariants as M
use Rattle.charts.specs.declared.Move.{Move}
use Rattle.charts.specs.declared.Move.TheVariants.{Request, Arbitrate, Respond, Clock, Carry, Grant, GapNext, Reset, Ask, Decide}
use Rattle.charts.specs.Signals.{is_end}
use Rattle.charts.specs.Reception.{Reception}
use Rattle.charts.specs.Arrivals.{arrives}
use Rattle.charts.specs.State.{upd, some}
use Rattle.charts.specs.Actions.{receives, does, onward, next_other, delivers, deliver_with, carry, takes_gap, marking_at_idle, gaps_to, gap, outcome}
use Rattle.deciding.specs.Gets.{carried, gapped, incoming, marking_in, got, gets}

-- a signal makes no bus Idle
signal_busy : (n i : ℕ) (s : Signal) (j : ℕ) (ps : ℕ → Bool) → marking_in (onward n i s j ps) ≡ M.Nothing
signal_busy n i s j ps = go (ltb (next_other i j) n) (is_end s) (some ps n)
  where
    go : (a b c : Bool) → marking_in (cond a (Delivering i s (next_other i j)) (cond b (cond c Granting (Gapping 0)) Busy)) ≡ M.Nothing
    go true b c = refl
    go false true true = refl
    go false true false = refl
    go false false c = refl

module _ (h : Reception) (n : ℕ) (c : Cell) (ps : ℕ → Bool) where
  got_delivers : (i : ℕ) (s : Signal) (j : ℕ) (r : Report) (x : Cell) → got n (Delivering i s j) ps r x ≡ delivers n i s j ps r x
  got_delivers i s j r x = ap (does r (onward n i s j (upd ps j x.pending)) x) (signal_busy n i s j (upd ps j x.pending))

  gets_carried : (i : ℕ) (s : Signal) (j : ℕ) (a : Arrival) → gets h n (Delivering i s j) c ps a ≡ deliver_with h n i s j c ps a
  gets_carried i s j Closed = refl
  gets_carried i s j Lost = got_delivers i s j R.Silent c
  gets_carried i s j (Hears t misleads) = got_delivers i s j _ _

  pub carry_is : (p : Phase) (w : Way) → gets h n p c ps (carried p c.misled w) ≡ carry h n p c ps w
  unfolding carry
  carry_is Idle w = refl
  carry_is Busy w = refl
  carry_is (Delivering i s j) w = gets_carried i s j (arrives w c.misled s)
  carry_is Granting w = refl
  carry_is (Gapping j) w = refl

  pub gap_is : (p : Phase) → gets h n p c ps (gapped p) ≡ gap h n p c
  unfolding gap
  gap_is Idle = refl
  gap_is Busy = refl
  gap_is (Delivering i s j) = refl
  gap_is Granting = refl
  gap_is (Gapping j) = go (ltb (suc j) n)
    where
      go : (b : Bool) → does (receives h j c S.Gap).report (cond b (Gapping (suc j)) Idle) (takes_gap h j c) (marking_in (cond b (Gapping (suc j)) Idle))
          ≡ cond b (gaps_to h (Gapping (suc j)) M.Nothing j c) (gaps_to h Idle marking_at_idle j c)
      go true = refl
      go false = refl

  -- of an action of these kinds, the fifth or the seventh of the type
  pub heard_is : (p : Phase) (b : Bool) (i : ℕ) (ws hs : ℕ → Bool) (m : Move) → OneOf (4 ∷ 6 ∷ []) (tag_of the_type m) →
      gets h n p c ps (incoming p c.misled m) ≡ outcome h n p b i c ws ps hs m
  unfolding outcome
  heard_is p b i ws hs (Request j q) k = absurd (miss (4 ∷ 6 ∷ []) 0 tt k)
  heard_is p b i ws hs (Arbitrate j) k = absurd (miss (4 ∷ 6 ∷ []) 1 tt k)
  heard_is p b i ws hs (Respond j a hold) k = absurd (miss (4 ∷ 6 ∷ []) 2 tt k)
  heard_is p b i ws hs (Clock j) k = absurd (miss (4 ∷ 6 ∷ []) 3 tt k)
  heard_is p b i ws hs (Carry w) k = carry_is p w
  heard_is p b i ws hs Grant k = absurd (miss (4 ∷ 6 ∷ []) 5 tt k)
  heard_is p b i ws hs GapNext k = gap_is p
  heard_is p b i ws hs Reset k = absurd (miss (4 ∷ 6 ∷ []) 7 tt k)
  heard_is p b i ws hs (Ask j) k = absurd (miss (4 ∷ 6 ∷ []) 8 tt k)
  heard_is p b i ws hs (Decide j) k = absurd (miss (4 ∷ 6 ∷ []) 9 tt k)
