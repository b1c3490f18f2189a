-- "What a node does with a signal": the reception chart, 25 modes (AckEnd, TailOwn and TailAll count as two each) by 14 classes of signals.
use Rattle.std.specs.Prelude.{true, false, cond, ℕ, eqb, None, Option, Some}
use Rattle.charts.specs.declared.Head.{Head}
use Rattle.charts.specs.declared.Mode.{Mode}
use Rattle.charts.specs.declared.Mode.TheVariants.{Rest, AwaitAck, AckBody, AckEnd, Opened, Addressed, HeadOwn, HeadAll, BodyOwn, BodyAll, TailOwn, TailAll, Wait, Owed, Sending, Told, Answering, Acking, Holding, Spurious, Listening, Asked}
use Rattle.charts.specs.declared.Reading.TheVariants as Rd
use Rattle.charts.specs.declared.Signal.{Signal}
use Rattle.charts.specs.declared.Report.{Report}
use Rattle.charts.specs.declared.Report.TheVariants.{Silent, Acked, Miss, Drop, Good, Dcrc, Broad}
use Rattle.charts.specs.declared.Heard.{Heard}
use Rattle.charts.specs.Signals as S
use Rattle.charts.specs.Signals.{class_of, is_line, closes, head_of, datum_of, ack_of}

-- the node goes to a mode with a report; without one
abbrev pub tells : Mode → Report → Heard
tells m r = record { mode = m; report = r; pends = false }

abbrev pub goes : Mode → Heard
goes m = tells m Silent

-- Gap → Rest with the first report, else → Wait with the second
abbrev pub falls : Report → Report → ℕ → Heard
falls r q c = cond (eqb c S.gap) (tells Rest r) (tells Wait q)

-- "report good h d, or dcrc h for bad data"
abbrev pub told_of : ℕ → Head → Option ℕ → Report
told_of me h (Some d) = Good me h d
told_of me h None = Dcrc me h

-- "report broad h d if the data were good"; request 4: "TailAll with bad data reports drop TailAll on End or Prefix too, though it goes to Rest"
abbrev pub broad_of : ℕ → Head → Option ℕ → Report
broad_of me h (Some d) = Broad me h d
broad_of me h None = Drop me Rd.TailAll

-- what node `me` in a mode does with the signal s, which it meets as one of class c. Request 3: "The reports sent, ack, miss, good, dcrc and broad end with" a label;
-- ack and miss with `label`, that of the packet that the node is sending, the others here with that of the header h
abbrev pub answer : ℕ → ℕ → Mode → ℕ → Signal → Heard
-- Rest (Link0): Start → Opened; else stay
answer me label Rest c s = cond (eqb c S.start) (goes Opened) (goes Rest)
-- AwaitAck (3): Prefix stay; Start → AckBody; Gap: report miss, Rest; else miss, Wait
answer me label AwaitAck c s = cond (eqb c S.prefix) (goes AwaitAck) (cond (eqb c S.start) (goes AckBody) (falls (Miss me label) (Miss me label) c))
-- AckBody (3RA): Gap: miss, Rest; another line signal: miss, Wait; else → AckEnd, remembering a if it was a good Ack
answer me label AckBody c s =
    cond (eqb c S.gap) (tells Rest (Miss me label)) (cond (is_line c) (tells Wait (Miss me label))
    (cond (eqb c S.ack_good) (goes (AckEnd (Some (ack_of s)))) (goes (AckEnd None))))
-- AckEnd (3RE): End after a good Ack: report ack a, Wait; Gap: miss, Rest; else miss, Wait. Request 1: "From AckEnd, Prefix after a good Ack now reports ack and goes to a new mode Listening"
answer me label (AckEnd (Some a)) c s =
    cond (eqb c S.end) (tells Wait (Acked me a label)) (cond (eqb c S.prefix) (tells Listening (Acked me a label)) (falls (Miss me label) (Miss me label) c))
answer me label (AckEnd None) c s = falls (Miss me label) (Miss me label) c
-- From here to TailAll, request 4: "When a node in Opened through the Tail modes goes to Wait or Owed, the report becomes drop and the name of the mode it left. A Gap to Rest is no drop, nor is a Dest
-- of another node met in Addressed."
-- Opened (4): Gap → Rest; another line signal → Wait; else → Addressed
answer me label Opened c s = cond (eqb c S.gap) (goes Rest) (cond (is_line c) (tells Wait (Drop me Rd.Opened)) (goes Addressed))
-- Addressed (4DH): Dest of itself → HeadOwn, and the node is entered as pending on the bus; Dest 63 → HeadAll; Gap → Rest; else Wait
answer me label Addressed c s =
    cond (eqb c S.dest_own) (record { mode = HeadOwn; report = Silent; pends = true })
    (cond (eqb c S.dest_all) (goes HeadAll)
    (cond (eqb c S.dest_other) (goes Wait) (falls Silent (Drop me Rd.Addressed) c)))
-- HeadOwn / HeadAll (4RH): good Header → BodyOwn / BodyAll; else Owed / Wait. HeadAll on Gap → Rest
answer me label HeadOwn c s = cond (eqb c S.header_good) (goes (BodyOwn (head_of s))) (tells Owed (Drop me Rd.HeadOwn))
answer me label HeadAll c s = cond (eqb c S.header_good) (goes (BodyAll (head_of s))) (falls Silent (Drop me Rd.HeadAll) c)
-- BodyOwn / BodyAll (4RD): Data, good or bad → TailOwn / TailAll; else Owed / Wait. BodyAll on Gap → Rest
answer me label (BodyOwn h) c s =
    cond (eqb c S.data_good) (goes (TailOwn h (Some (datum_of s)))) (cond (eqb c S.data_bad) (goes (TailOwn h None)) (tells Owed (Drop me Rd.BodyOwn)))
answer me label (BodyAll h) c s =
    cond (eqb c S.data_good) (goes (TailAll h (Some (datum_of s)))) (cond (eqb c S.data_bad) (goes (TailAll h None)) (falls Silent (Drop me Rd.BodyAll) c))
-- TailOwn: End or Prefix: report good h d, or dcrc h for bad data, and go to Told; else Owed
answer me label (TailOwn h d) c s = cond (closes c) (tells Told (told_of me h d)) (tells Owed (Drop me Rd.TailOwn))
-- TailAll: End or Prefix: report broad h d if the data were good, else drop, and go to Rest; Gap → Rest; else Wait
answer me label (TailAll h d) c s = cond (closes c) (tells Rest (broad_of me h d)) (falls Silent (Drop me Rd.TailAll) c)
-- Wait (WSA): Gap → Rest; else stay
answer me label Wait c s = falls Silent Silent c
-- Owed (WSA with a grant to come) stays
answer me label Owed c s = goes Owed
-- Sending (2), Told (4DRec), Answering (5), Acking (6), Holding (7), Spurious and Asked (1) stay on every signal
answer me label (Sending k) c s = goes (Sending k)
answer me label Told c s = goes Told
answer me label Answering c s = goes Answering
answer me label (Acking k a b) c s = goes (Acking k a b)
answer me label Holding c s = goes Holding
answer me label Spurious c s = goes Spurious
answer me label Asked c s = goes Asked
-- Listening (request 1): "Start → Opened, Prefix stay, Gap → Rest, else Wait"
answer me label Listening c s = cond (eqb c S.start) (goes Opened) (cond (eqb c S.prefix) (goes Listening) (falls Silent Silent c))

-- what each node does with a signal, by the label of the packet that it is sending and its mode
abbrev pub Reception : Type 0
Reception = ℕ → ℕ → Mode → Signal → Heard

unfoldable pub hears : Reception
hears me label m s = answer me label m (class_of me s) s
