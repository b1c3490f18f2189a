-- What a mode remembers, and the modes by their places: a mode is made of its place and what it remembers (proofs/Places.antt).
-- The clauses of the modes are printed by tools/places.py.
use Rattle.std.specs.Prelude.{Bool, false, List, [], ◌∷◌, ℕ, None, Option, Some}
use Rattle.charts.specs.declared.Head.{Head}
use Rattle.charts.specs.declared.Mode.{Mode}
use Rattle.charts.specs.declared.Mode.TheVariants.{Rest, AwaitAck, AckBody, AckEnd, Opened, Addressed, HeadOwn, HeadAll, BodyOwn, BodyAll, TailOwn, TailAll, Wait, Owed, Sending, Told, Answering, Acking, Holding, Spurious, Listening, Asked}
use Rattle.charts.specs.Signals.{no_head}

-- the acknowledgement of a good Ack, and the datum of good data; else 0
abbrev pub good_ack : Option ℕ → ℕ
good_ack (Some a) = a
good_ack None = 0

abbrev pub good_datum : Option ℕ → ℕ
good_datum (Some d) = d
good_datum None = 0

-- the step, acknowledgement, hold, header and datum that a mode remembers
abbrev pub step_in : Mode → ℕ
step_in Rest = 0
step_in AwaitAck = 0
step_in AckBody = 0
step_in (AckEnd x) = 0
step_in Opened = 0
step_in Addressed = 0
step_in HeadOwn = 0
step_in HeadAll = 0
step_in (BodyOwn h) = 0
step_in (BodyAll h) = 0
step_in (TailOwn h x) = 0
step_in (TailAll h x) = 0
step_in Wait = 0
step_in Owed = 0
step_in (Sending k) = k
step_in Told = 0
step_in Answering = 0
step_in (Acking k a b) = k
step_in Holding = 0
step_in Spurious = 0
step_in Listening = 0
step_in Asked = 0

abbrev pub ack_in : Mode → ℕ
ack_in Rest = 0
ack_in AwaitAck = 0
ack_in AckBody = 0
ack_in (AckEnd x) = good_ack x
ack_in Opened = 0
ack_in Addressed = 0
ack_in HeadOwn = 0
ack_in HeadAll = 0
ack_in (BodyOwn h) = 0
ack_in (BodyAll h) = 0
ack_in (TailOwn h x) = 0
ack_in (TailAll h x) = 0
ack_in Wait = 0
ack_in Owed = 0
ack_in (Sending k) = 0
ack_in Told = 0
ack_in Answering = 0
ack_in (Acking k a b) = a
ack_in Holding = 0
ack_in Spurious = 0
ack_in Listening = 0
ack_in Asked = 0

abbrev pub hold_in : Mode → Bool
hold_in Rest = false
hold_in AwaitAck = false
hold_in AckBody = false
hold_in (AckEnd x) = false
hold_in Opened = false
hold_in Addressed = false
hold_in HeadOwn = false
hold_in HeadAll = false
hold_in (BodyOwn h) = false
hold_in (BodyAll h) = false
hold_in (TailOwn h x) = false
hold_in (TailAll h x) = false
hold_in Wait = false
hold_in Owed = false
hold_in (Sending k) = false
hold_in Told = false
hold_in Answering = false
hold_in (Acking k a b) = b
hold_in Holding = false
hold_in Spurious = false
hold_in Listening = false
hold_in Asked = false

abbrev pub head_in : Mode → Head
head_in Rest = no_head
head_in AwaitAck = no_head
head_in AckBody = no_head
head_in (AckEnd x) = no_head
head_in Opened = no_head
head_in Addressed = no_head
head_in HeadOwn = no_head
head_in HeadAll = no_head
head_in (BodyOwn h) = h
head_in (BodyAll h) = h
head_in (TailOwn h x) = h
head_in (TailAll h x) = h
head_in Wait = no_head
head_in Owed = no_head
head_in (Sending k) = no_head
head_in Told = no_head
head_in Answering = no_head
head_in (Acking k a b) = no_head
head_in Holding = no_head
head_in Spurious = no_head
head_in Listening = no_head
head_in Asked = no_head

abbrev pub datum_in : Mode → ℕ
datum_in Rest = 0
datum_in AwaitAck = 0
datum_in AckBody = 0
datum_in (AckEnd x) = 0
datum_in Opened = 0
datum_in Addressed = 0
datum_in HeadOwn = 0
datum_in HeadAll = 0
datum_in (BodyOwn h) = 0
datum_in (BodyAll h) = 0
datum_in (TailOwn h x) = good_datum x
datum_in (TailAll h x) = good_datum x
datum_in Wait = 0
datum_in Owed = 0
datum_in (Sending k) = 0
datum_in Told = 0
datum_in Answering = 0
datum_in (Acking k a b) = 0
datum_in Holding = 0
datum_in Spurious = 0
datum_in Listening = 0
datum_in Asked = 0

-- the modes by their places
abbrev pub modes : ℕ → ℕ → Bool → Head → ℕ → List Mode
modes k a b h d =
    Rest ∷ AwaitAck ∷ AckBody ∷ (AckEnd (Some a)) ∷ (AckEnd None) ∷ Opened ∷ Addressed ∷ HeadOwn ∷ HeadAll ∷ (BodyOwn h) ∷ (BodyAll h) ∷ (TailOwn h (Some d)) ∷ (TailOwn h None) ∷ (TailAll h (Some d)) ∷ (TailAll h None) ∷ Wait ∷ Owed ∷ (Sending k) ∷ Told ∷ Answering ∷ (Acking k a b) ∷ Holding ∷ Spurious ∷ Listening ∷ Asked ∷ []
