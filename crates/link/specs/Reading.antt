-- The reception chart's table as numbers, and what a node does with a signal by such a table.
use Rattle.std.specs.Prelude.{Bool, cond, Some, None, List, ℕ, ◌+◌, ◌*◌, ◌/◌, ◌%◌, eqb, leb, get_or}
use Rattle.charts.specs.declared.Mode.{Mode}
use Rattle.charts.specs.declared.Mode.TheVariants.{Rest, AckBody, AckEnd, Opened, Addressed, HeadOwn, HeadAll, BodyOwn, BodyAll, TailOwn, TailAll, Wait, Owed, Told, Listening}
use Rattle.charts.specs.declared.Signal.{Signal}
use Rattle.charts.specs.declared.Report.{Report}
use Rattle.charts.specs.declared.Report.TheVariants.{Silent, Acked, Miss, Drop, Good, Dcrc, Broad}
use Rattle.charts.specs.declared.Entry.{Entry}
use Rattle.link.specs.declared.modes.Kept.{Kept}
use Rattle.charts.specs.Modes as P
use Rattle.charts.specs.Modes.{place_of, name_at}
use Rattle.charts.specs.Places.{ack_in, head_in, datum_in}
use Rattle.charts.specs.Words as W
use Rattle.charts.specs.Signals.{class_of, head_of, datum_of, ack_of}
use Rattle.charts.specs.Reception.{Reception, goes}
use Rattle.charts.specs.Table.{entry}
use Rattle.charts.specs.State.{list_from}

-- a cell as one number: the next mode's place, 32 times the number of the report's word, and 512 for a pending mark
abbrev pub code : Entry → ℕ
code e = e.place + 32 * e.word + cond e.pends 512 0

-- and what such a number names
abbrev pub place_in : ℕ → ℕ
place_in x = x % 32

abbrev pub word_in : ℕ → ℕ
word_in x = x / 32 % 16

abbrev pub pends_in : ℕ → Bool
pends_in x = leb 512 x

-- where the cell of a place and a class stands in the table: 14 cells for each mode
abbrev pub index_of : ℕ → ℕ → ℕ
index_of p c = 14 * p + c

-- all 350 cells, mode by mode
unfoldable pub cells : List ℕ
cells = list_from (λ i. code (entry (i / 14) (i % 14))) 350 0

-- what a mode remembers of the signals that led to it
abbrev pub remembered : Mode → Kept
remembered m = record { ack = ack_in m; head = head_in m; datum = datum_in m }

-- the mode at place p that a node in mode m, with what it has kept, comes to by the signal s, with what it remembers from then on: of a good Ack its a, of a good Header its h,
-- and of Data the header that it has and the datum if it was good. No signal leads to the places that are not named here.
abbrev pub enters : ℕ → Mode → Kept → Signal → Mode
enters p m k s =
    cond (eqb p P.rest) Rest
    (cond (eqb p P.ack_body) AckBody
    (cond (eqb p P.ack_good) (AckEnd (Some (ack_of s)))
    (cond (eqb p P.ack_none) (AckEnd None)
    (cond (eqb p P.opened) Opened
    (cond (eqb p P.addressed) Addressed
    (cond (eqb p P.head_own) HeadOwn
    (cond (eqb p P.head_all) HeadAll
    (cond (eqb p P.body_own) (BodyOwn (head_of s))
    (cond (eqb p P.body_all) (BodyAll (head_of s))
    (cond (eqb p P.tail_own_good) (TailOwn k.head (Some (datum_of s)))
    (cond (eqb p P.tail_own_bad) (TailOwn k.head None)
    (cond (eqb p P.tail_all_good) (TailAll k.head (Some (datum_of s)))
    (cond (eqb p P.tail_all_bad) (TailAll k.head None)
    (cond (eqb p P.wait) Wait
    (cond (eqb p P.owed) Owed
    (cond (eqb p P.told) Told
    (cond (eqb p P.listening) Listening m)))))))))))))))))

-- the report with that first word of node `me`, of the label of the packet that it is sending, of the place p of its mode and of what that has kept
abbrev pub says : ℕ → ℕ → ℕ → ℕ → Kept → Report
says w me label p k =
    cond (eqb w W.acked) (Acked me k.ack label)
    (cond (eqb w W.miss) (Miss me label)
    (cond (eqb w W.drop) (Drop me (name_at p))
    (cond (eqb w W.good) (Good me k.head k.datum)
    (cond (eqb w W.dcrc) (Dcrc me k.head)
    (cond (eqb w W.broad) (Broad me k.head k.datum) Silent)))))

-- what the cell x makes of node `me` in mode m by the signal s: a cell that names its own place and nothing else leaves it as it is
abbrev pub reads : ℕ → Reception
reads x me label m s = cond (eqb x (place_of m)) (goes m) (record { mode = enters (place_in x) m (remembered m) s; report = says (word_in x) me label (place_of m) (remembered m); pends = pends_in x })

-- what each node does with a signal by the table t, whatever numbers it holds
unfoldable pub heard_by : List ℕ → Reception
heard_by t me label m s = reads (get_or t (index_of (place_of m) (class_of me s)) 0) me label m s
