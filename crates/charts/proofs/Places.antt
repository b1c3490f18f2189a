-- Modes by their places, and the reception chart by places and classes: `key` says once that what a node comes to goes by the place of its mode and the class of the signal,
-- so that a rule of the chart is one test, computed over 25 × 14 pairs (`law`).
use Rattle.std.specs.Prelude.{None, Some}
use mathlib.Core.Path.{◌≡◌, refl, sym, ap, subst, ◌∙◌}
use mathlib.Core.Bool.{Bool, true, false, cond, ◌&&◌, ◌||◌, not, beq}
use mathlib.Core.List.{List, [], ◌∷◌}
use Prim.Native.Nat.{ℕ, ◌<◌, ◌+◌, ◌*◌}
use lib.Dec.{T, eqb, lit<}
use lib.ListN.{get_or}
use borrow.Author.Tests.{eqb-true, not-true}
use Rattle.charts.specs.declared.Mode.{Mode}
use Rattle.charts.specs.declared.Mode.TheVariants.{Rest, AwaitAck, AckBody, AckEnd, Opened, Addressed, HeadOwn, HeadAll, BodyOwn, BodyAll, TailOwn, TailAll, Wait, Owed, Sending, Told, Answering, Acking, Holding, Spurious, Listening, Asked}
use Rattle.charts.specs.declared.Signal.{Signal}
use Rattle.charts.specs.declared.Signal.TheVariants.{Start, End, Prefix, Gap, Dhead, Dest, Header, Data, Ack}
use Rattle.charts.specs.declared.Heard.{Heard}
use Rattle.charts.specs.declared.Entry.{Entry}
use Rattle.charts.specs.Modes as P
use Rattle.charts.specs.Modes.{place_of, is_asked}
use Rattle.charts.specs.Signals as S
use Rattle.charts.specs.Signals.{class_of, is_line, closes}
use Rattle.charts.specs.State.{every}
use Rattle.charts.specs.Words as W
use Rattle.charts.specs.Reception.{answer, hears}
use Rattle.charts.specs.Places.{step_in, ack_in, hold_in, head_in, datum_in, modes}
use Rattle.charts.specs.Table.{entry_of, entry}
use Rattle.charts.specs.Drops.{dropping, is_drop}
use Rattle.charts.proofs.Tools.{implies, not_implied, pick, by_test, beq_eq, every_pair, table_at, pairs_at, mem}

-- the clauses from here to `place_lt` are printed by tools/places.py
pub mode_at_lem : (m : Mode) → m ≡ get_or (modes (step_in m) (ack_in m) (hold_in m) (head_in m) (datum_in m)) (place_of m) Spurious
mode_at_lem Rest = refl
mode_at_lem AwaitAck = refl
mode_at_lem AckBody = refl
mode_at_lem (AckEnd (Some a)) = refl
mode_at_lem (AckEnd None) = refl
mode_at_lem Opened = refl
mode_at_lem Addressed = refl
mode_at_lem HeadOwn = refl
mode_at_lem HeadAll = refl
mode_at_lem (BodyOwn h) = refl
mode_at_lem (BodyAll h) = refl
mode_at_lem (TailOwn h (Some d)) = refl
mode_at_lem (TailOwn h None) = refl
mode_at_lem (TailAll h (Some d)) = refl
mode_at_lem (TailAll h None) = refl
mode_at_lem Wait = refl
mode_at_lem Owed = refl
mode_at_lem (Sending k) = refl
mode_at_lem Told = refl
mode_at_lem Answering = refl
mode_at_lem (Acking k a b) = refl
mode_at_lem Holding = refl
mode_at_lem Spurious = refl
mode_at_lem Listening = refl
mode_at_lem Asked = refl

pub place_lt : (m : Mode) → place_of m < 25
place_lt Rest = lit< tt
place_lt AwaitAck = lit< tt
place_lt AckBody = lit< tt
place_lt (AckEnd (Some a)) = lit< tt
place_lt (AckEnd None) = lit< tt
place_lt Opened = lit< tt
place_lt Addressed = lit< tt
place_lt HeadOwn = lit< tt
place_lt HeadAll = lit< tt
place_lt (BodyOwn h) = lit< tt
place_lt (BodyAll h) = lit< tt
place_lt (TailOwn h (Some d)) = lit< tt
place_lt (TailOwn h None) = lit< tt
place_lt (TailAll h (Some d)) = lit< tt
place_lt (TailAll h None) = lit< tt
place_lt Wait = lit< tt
place_lt Owed = lit< tt
place_lt (Sending k) = lit< tt
place_lt Told = lit< tt
place_lt Answering = lit< tt
place_lt (Acking k a b) = lit< tt
place_lt Holding = lit< tt
place_lt Spurious = lit< tt
place_lt Listening = lit< tt
place_lt Asked = lit< tt

-- a mode at a place is the one that stands there, with what it remembers
pub mode_is : (m : Mode) (p : ℕ) → place_of m ≡ p → m ≡ get_or (modes (step_in m) (ack_in m) (hold_in m) (head_in m) (datum_in m)) p Spurious
mode_is m p e = mode_at_lem m ∙ ap (λ p. get_or (modes (step_in m) (ack_in m) (hold_in m) (head_in m) (datum_in m)) p Spurious) e

-- the place of a mode with its step: Sending's at the odd numbers from 31, Acking's at the even ones from 30
abbrev pub sending_at : ℕ → ℕ
sending_at k = 31 + 2 * k

abbrev pub acking_at : ℕ → ℕ
acking_at k = 30 + 2 * k

abbrev pub step_at : ℕ → ℕ → ℕ
step_at p k = cond (eqb p P.sending) (sending_at k) (cond (eqb p P.acking) (acking_at k) p)

abbrev pub step_of : Mode → ℕ
step_of m = step_at (place_of m) (step_in m)

-- a test that passes at the 25 places holds of every mode
pub law_mode : (f : ℕ → Bool) → T (every f 25) → (m : Mode) → f (place_of m) ≡ true
law_mode f t m = table_at f 25 t (place_of m) (place_lt m)

-- only Acking remembers a hold
pub hold_in_lem : (m : Mode) → hold_in m ≡ eqb (place_of m) P.acking && hold_in m
hold_in_lem m = ap hold_in (mode_at_lem m) ∙ go (hold_in m)
  where
    at : Bool → ℕ → Mode
    at b p = get_or (modes (step_in m) (ack_in m) b (head_in m) (datum_in m)) p Spurious

    go : (b : Bool) → hold_in (at b (place_of m)) ≡ eqb (place_of m) P.acking && b
    go true = beq_eq _ _ (table_at (λ p. beq (hold_in (at true p)) (eqb p P.acking && true)) 25 tt (place_of m) (place_lt m))
    go false = beq_eq _ _ (table_at (λ p. beq (hold_in (at false p)) (eqb p P.acking && false)) 25 tt (place_of m) (place_lt m))

pub no_hold : (m : Mode) → eqb (place_of m) P.acking ≡ false → hold_in m ≡ false
no_hold m e = hold_in_lem m ∙ ap (λ b. b && hold_in m) e

arms : (b : Bool) (x y u v : Heard) → entry_of x ≡ entry_of u → entry_of y ≡ entry_of v → entry_of (cond b x y) ≡ entry_of (cond b u v)
arms true x y u v p q = p
arms false x y u v p q = q

pub key : (me label : ℕ) (m : Mode) (c : ℕ) (s : Signal) → entry_of (answer me label m c s) ≡ entry (place_of m) c
key me label Rest c s = refl
key me label AwaitAck c s = arms (eqb c S.prefix) _ _ _ _ refl (arms (eqb c S.start) _ _ _ _ refl (arms (eqb c S.gap) _ _ _ _ refl refl))
key me label AckBody c s = arms (eqb c S.gap) _ _ _ _ refl (arms (is_line c) _ _ _ _ refl (arms (eqb c S.ack_good) _ _ _ _ refl refl))
key me label (AckEnd (Some a)) c s = arms (eqb c S.end) _ _ _ _ refl (arms (eqb c S.prefix) _ _ _ _ refl (arms (eqb c S.gap) _ _ _ _ refl refl))
key me label (AckEnd None) c s = arms (eqb c S.gap) _ _ _ _ refl refl
key me label Opened c s = arms (eqb c S.gap) _ _ _ _ refl (arms (is_line c) _ _ _ _ refl refl)
key me label Addressed c s =
    arms (eqb c S.dest_own) _ _ _ _ refl (arms (eqb c S.dest_all) _ _ _ _ refl (arms (eqb c S.dest_other) _ _ _ _ refl (arms (eqb c S.gap) _ _ _ _ refl refl)))
key me label HeadOwn c s = arms (eqb c S.header_good) _ _ _ _ refl refl
key me label HeadAll c s = arms (eqb c S.header_good) _ _ _ _ refl (arms (eqb c S.gap) _ _ _ _ refl refl)
key me label (BodyOwn h) c s = arms (eqb c S.data_good) _ _ _ _ refl (arms (eqb c S.data_bad) _ _ _ _ refl refl)
key me label (BodyAll h) c s = arms (eqb c S.data_good) _ _ _ _ refl (arms (eqb c S.data_bad) _ _ _ _ refl (arms (eqb c S.gap) _ _ _ _ refl refl))
key me label (TailOwn h (Some d)) c s = arms (closes c) _ _ _ _ refl refl
key me label (TailOwn h None) c s = arms (closes c) _ _ _ _ refl refl
key me label (TailAll h (Some d)) c s = arms (closes c) _ _ _ _ refl (arms (eqb c S.gap) _ _ _ _ refl refl)
key me label (TailAll h None) c s = arms (closes c) _ _ _ _ refl (arms (eqb c S.gap) _ _ _ _ refl refl)
key me label Wait c s = refl
key me label Owed c s = refl
key me label (Sending k) c s = refl
key me label Told c s = refl
key me label Answering c s = refl
key me label (Acking k a b) c s = refl
key me label Holding c s = refl
key me label Spurious c s = refl
key me label Listening c s = refl
key me label Asked c s = refl

pub class-lt : (me : ℕ) (s : Signal) → class_of me s < 14
class-lt me Start = lit< tt
class-lt me End = lit< tt
class-lt me Prefix = lit< tt
class-lt me Gap = lit< tt
class-lt me Dhead = lit< tt
class-lt me (Dest a) = pick (λ c. c < 14) (eqb a me) _ _ (lit< tt) (pick (λ c. c < 14) (eqb a S.everybody) _ _ (lit< tt) (lit< tt))
class-lt me (Header h good) = pick (λ c. c < 14) good _ _ (lit< tt) (lit< tt)
class-lt me (Data d good) = pick (λ c. c < 14) good _ _ (lit< tt) (lit< tt)
class-lt me (Ack a good) = pick (λ c. c < 14) good _ _ (lit< tt) (lit< tt)

-- a test of what a node comes to, of the place of its mode and of the signal's class, that passes at all pairs, holds of every node and signal
pub law : (f : Entry → ℕ → ℕ → Bool) → T (every_pair (λ p c. f (entry p c) p c) 25 14) → (me label : ℕ) (m : Mode) (s : Signal) → f (entry_of (hears me label m s)) (place_of m) (class_of me s) ≡ true
unfolding hears
law f t me label m s =
    subst (λ y. f y (place_of m) (class_of me s) ≡ true) (sym (key me label m (class_of me s) s))
    (pairs_at (λ p c. f (entry p c) p c) 25 14 t (place_of m) (class_of me s) (place_lt m) (class-lt me s))

-- a node reports a drop where request 4 says, and nowhere else
pub drops : (me label : ℕ) (m : Mode) (s : Signal) → is_drop (hears me label m s).report ≡ dropping (place_of m) (place_of (hears me label m s).mode) (class_of me s)
drops me label m s = beq_eq _ _ (law (λ y p c. beq (eqb y.word W.drop) (dropping p y.place c)) tt me label m s)

-- a node in such a mode is pending; is a holder; has a packet of its own half read
abbrev pub owing : ℕ → Bool
owing p = mem p (P.head_own ∷ P.body_own ∷ P.tail_own_good ∷ P.tail_own_bad ∷ P.owed ∷ P.told ∷ [])

abbrev pub active : ℕ → Bool
active p = mem p (P.sending ∷ P.answering ∷ P.acking ∷ P.holding ∷ P.spurious ∷ [])

abbrev pub half : ℕ → Bool
half p = mem p (P.head_own ∷ P.body_own ∷ P.tail_own_good ∷ P.tail_own_bad ∷ [])

-- a node in such a mode rests: Asked may stand wherever Rest may, since nothing is delivered while a node is Asked
abbrev pub resting : List ℕ
resting = P.rest ∷ P.asked ∷ []

-- a node owes what it owed before, or what it pends for now; nobody becomes or stops being a holder by hearing
pub owes : (me label : ℕ) (m : Mode) (s : Signal) → owing (place_of (hears me label m s).mode) ≡ owing (place_of m) || (hears me label m s).pends
owes me label m s = beq_eq _ _ (law (λ y p c. beq (owing y.place) (owing p || y.pends)) tt me label m s)

pub acts : (me label : ℕ) (m : Mode) (s : Signal) → active (place_of (hears me label m s).mode) ≡ active (place_of m)
acts me label m s = beq_eq _ _ (law (λ y p c. beq (active y.place) (active p)) tt me label m s)

-- who will not hold the bus does not come to by hearing
pub hears_no_hold : (me label : ℕ) (m : Mode) (s : Signal) → hold_in m ≡ false → hold_in (hears me label m s).mode ≡ false
unfolding hears
hears_no_hold me label m s =
    by_test (eqb (place_of m) P.acking)
    (λ q. subst (λ (m : Mode). hold_in m ≡ false → hold_in (hears me label m s).mode ≡ false) (sym (mode_is m P.acking (eqb-true _ _ q))) (λ e. e))
    (λ q e. no_hold (hears me label m s).mode (not_implied _ _ (law (λ y p c. implies (eqb y.place P.acking) (eqb p P.acking)) tt me label m s) q))

-- after an End no packet is half read
pub ended : (me label : ℕ) (m : Mode) → half (place_of (hears me label m End).mode) ≡ false
ended me label m = not-true _ (law (λ y p c. implies (eqb c S.end) (not (half y.place))) tt me label m End)

-- nobody becomes Asked by hearing
pub hears_unasked : (me label : ℕ) (m : Mode) (s : Signal) → is_asked m ≡ false → is_asked (hears me label m s).mode ≡ false
hears_unasked me label m s e = not-true _ (rw e at (law (λ y p c. implies (not (eqb p P.asked)) (not (eqb y.place P.asked))) tt me label m s))

-- a Gap makes nobody owe, and frees nobody who does
pub gap_owes : (me label : ℕ) (m : Mode) → owing (place_of (hears me label m Gap).mode) ≡ owing (place_of m)
gap_owes me label m = beq_eq _ _ (law (λ y p c. implies (eqb c S.gap) (beq (owing y.place) (owing p))) tt me label m Gap)
