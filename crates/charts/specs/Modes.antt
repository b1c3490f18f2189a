-- The places of the modes in document 01's list, the good one of two first: AckEnd with a good Ack or without, TailOwn and TailAll with good or bad data.
-- (Request 2's table has its lines in this order, and new modes come last.)
use Rattle.std.specs.Prelude.{Bool, cond, ℕ, eqb, None, Some}
use Rattle.charts.specs.declared.Mode.{Mode}
use Rattle.charts.specs.declared.Mode.TheVariants.{Rest, AwaitAck, AckBody, AckEnd, Opened, Addressed, HeadOwn, HeadAll, BodyOwn, BodyAll, TailOwn, TailAll, Wait, Owed, Sending, Told, Answering, Acking, Holding, Spurious, Listening, Asked}
use Rattle.charts.specs.declared.Reading.{Reading}
use Rattle.charts.specs.declared.Reading.TheVariants as Rd

abbrev pub rest : ℕ
rest = 0

abbrev pub await_ack : ℕ
await_ack = 1

abbrev pub ack_body : ℕ
ack_body = 2

abbrev pub ack_good : ℕ
ack_good = 3

abbrev pub ack_none : ℕ
ack_none = 4

abbrev pub opened : ℕ
opened = 5

abbrev pub addressed : ℕ
addressed = 6

abbrev pub head_own : ℕ
head_own = 7

abbrev pub head_all : ℕ
head_all = 8

abbrev pub body_own : ℕ
body_own = 9

abbrev pub body_all : ℕ
body_all = 10

abbrev pub tail_own_good : ℕ
tail_own_good = 11

abbrev pub tail_own_bad : ℕ
tail_own_bad = 12

abbrev pub tail_all_good : ℕ
tail_all_good = 13

abbrev pub tail_all_bad : ℕ
tail_all_bad = 14

abbrev pub wait : ℕ
wait = 15

abbrev pub owed : ℕ
owed = 16

abbrev pub sending : ℕ
sending = 17

abbrev pub told : ℕ
told = 18

abbrev pub answering : ℕ
answering = 19

abbrev pub acking : ℕ
acking = 20

abbrev pub holding : ℕ
holding = 21

abbrev pub spurious : ℕ
spurious = 22

abbrev pub listening : ℕ
listening = 23

abbrev pub asked : ℕ
asked = 24

abbrev pub place_of : Mode → ℕ
place_of Rest = rest
place_of AwaitAck = await_ack
place_of AckBody = ack_body
place_of (AckEnd (Some a)) = ack_good
place_of (AckEnd None) = ack_none
place_of Opened = opened
place_of Addressed = addressed
place_of HeadOwn = head_own
place_of HeadAll = head_all
place_of (BodyOwn h) = body_own
place_of (BodyAll h) = body_all
place_of (TailOwn h (Some d)) = tail_own_good
place_of (TailOwn h None) = tail_own_bad
place_of (TailAll h (Some d)) = tail_all_good
place_of (TailAll h None) = tail_all_bad
place_of Wait = wait
place_of Owed = owed
place_of (Sending k) = sending
place_of Told = told
place_of Answering = answering
place_of (Acking k a b) = acking
place_of Holding = holding
place_of Spurious = spurious
place_of Listening = listening
place_of Asked = asked

-- request 4: "the name of the mode it left", for the places from Opened to TailAll; it says nothing of good or bad data
unfoldable pub name_at : ℕ → Reading
name_at p =
    cond (eqb p opened) Rd.Opened
    (cond (eqb p addressed) Rd.Addressed
    (cond (eqb p head_own) Rd.HeadOwn
    (cond (eqb p head_all) Rd.HeadAll
    (cond (eqb p body_own) Rd.BodyOwn
    (cond (eqb p body_all) Rd.BodyAll
    (cond (eqb p tail_own_good) Rd.TailOwn
    (cond (eqb p tail_own_bad) Rd.TailOwn Rd.TailAll)))))))

abbrev pub is_rest : Mode → Bool
is_rest m = eqb (place_of m) rest

abbrev pub is_owed : Mode → Bool
is_owed m = eqb (place_of m) owed

abbrev pub is_told : Mode → Bool
is_told m = eqb (place_of m) told

abbrev pub is_sending : Mode → Bool
is_sending m = eqb (place_of m) sending

abbrev pub is_answering : Mode → Bool
is_answering m = eqb (place_of m) answering

abbrev pub is_acking : Mode → Bool
is_acking m = eqb (place_of m) acking

abbrev pub is_holding : Mode → Bool
is_holding m = eqb (place_of m) holding

abbrev pub is_asked : Mode → Bool
is_asked m = eqb (place_of m) asked

abbrev pub is_spurious : Mode → Bool
is_spurious m = eqb (place_of m) spurious
