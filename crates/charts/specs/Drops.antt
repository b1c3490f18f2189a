-- Request 4, "show where a packet was dropped": where a node reports `drop`, by places and classes, beside the chart that says it mode by mode. The claim, DropsThere, is at the end.
-- No proof is in this file.
use Rattle.std.specs.Prelude.{◌≡◌, Bool, true, ◌&&◌, ◌||◌, not, ℕ, eqb, leb}
use Rattle.charts.specs.declared.Mode.{Mode}
use Rattle.charts.specs.declared.Signal.{Signal}
use Rattle.charts.specs.declared.Report.{Report}
use Rattle.charts.specs.declared.Report.TheVariants.{Drop}
use Rattle.charts.specs.Modes as P
use Rattle.charts.specs.Modes.{place_of, name_at}
use Rattle.charts.specs.Signals as S
use Rattle.charts.specs.Signals.{class_of, closes}
use Rattle.charts.specs.Words as W
use Rattle.charts.specs.Words.{word_of}
use Rattle.charts.specs.Reception.{Reception}

-- "a node in Opened through the Tail modes": it reads a packet
abbrev pub reading : ℕ → Bool
reading p = leb P.opened p && leb p P.tail_all_bad

-- "goes to Wait or Owed"
abbrev pub gives_up : ℕ → Bool
gives_up q = eqb q P.wait || eqb q P.owed

-- "nor is a Dest of another node met in Addressed" a drop
abbrev pub for_another : ℕ → ℕ → Bool
for_another p c = eqb p P.addressed && eqb c S.dest_other

-- "TailAll with bad data reports drop TailAll on End or Prefix too, though it goes to Rest"
abbrev pub bad_to_all : ℕ → ℕ → Bool
bad_to_all p c = eqb p P.tail_all_bad && closes c

-- a signal of class c that takes a node from place p to place q makes it drop a packet. ("A Gap to Rest is no drop", as Rest is neither Wait nor Owed.)
abbrev pub dropping : ℕ → ℕ → ℕ → Bool
dropping p q c = (reading p && (gives_up q && not (for_another p c))) || bad_to_all p c

abbrev pub is_drop : Report → Bool
is_drop r = eqb (word_of r) W.drop

-- of each node, by the label of the packet that it is sending, its mode and the signal that it gets
pub record DropsThere (f : Reception) : Type 0 where
  -- it reports `drop` there and nowhere else
  pub there : (me label : ℕ) (m : Mode) (s : Signal) → is_drop (f me label m s).report ≡ dropping (place_of m) (place_of (f me label m s).mode) (class_of me s)
  -- "and the name of the mode it left"
  pub named : (me label : ℕ) (m : Mode) (s : Signal) → is_drop (f me label m s).report ≡ true → (f me label m s).report ≡ Drop me (name_at (place_of m))
