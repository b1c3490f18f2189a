-- Why a book that is not wrong says "exactly one confirmation": in any list of events at all, where node i's book is not wrong, each accepted request of i is in one
-- place of it (confirmed, running or waiting), and each confirmation of i confirmed one of them. Besides, a book that is not wrong never was, and what it has confirmed stays in it.
use Rattle.std.specs.Prelude.{None, Option, Some}
use mathlib.Core.Path.{◌≡◌, refl, sym, ap, ◌∙◌}
use mathlib.Core.Bool.{Bool, true, false, not, true≢false}
use mathlib.Core.List.{List, [], ◌∷◌, ◌++◌, append-nil, append_assoc}
use Prim.Native.Nat.{ℕ, ◌+◌}
use native.Mathlib.Omega.{arith}
use lib.Dec.{eqb}
use lib.ListN.{length, length-append}
use Rattle.charts.specs.declared.Report.{Report}
use Rattle.charts.specs.declared.Report.TheVariants.{Silent, Won, Lost, Sent, Acked, Miss, Drop, Good, Dcrc, Broad}
use Rattle.charts.specs.declared.Packet.{Packet}
use Rattle.charts.specs.declared.Move.{Move}
use Rattle.charts.specs.declared.Move.TheVariants.{Request, Arbitrate, Respond, Clock, Carry, Grant, GapNext, Reset, Ask, Decide}
use Rattle.charts.specs.State.{is_empty}
use Rattle.charts.specs.Step.{Event, refusal, accepted}
use Rattle.charts.specs.Demand.{Note, told, gave, Run, none, run, Confirmed, Book, new_book, is_run, asks, wins, confirms, note, notes, holds_for, mover_of, node_of, moves, reports, book_of, one, asked, answered, requests, confirmations, size}
use Rattle.charts.proofs.Tools.{or-false}

-- from the book b to the book c: b was not wrong, q requests and a confirmations came in
record Adds (b c : Book) (q a : ℕ) : Type 0 where
  sound : b.wrong ≡ false
  all : size c ≡ size b + q
  new : List Confirmed
  past : c.confirmed ≡ new ++ b.confirmed
  many : length new ≡ a

stays : (b : Book) → b.wrong ≡ false → Adds b b 0 0
stays b w = record { sound = w; all = omega arith; new = []; past = refl; many = refl }

still_runs : (x : Note) (r : Run) → is_run (note x r) ≡ is_run r
still_runs x none = refl
still_runs x (run p l) = refl

-- a note, and another `held`, add nothing
noted : (x : Note) (mine hold : Bool) (b : Book) → b.wrong ≡ false → Adds b (notes x (holds_for mine hold b)) 0 0
noted x mine hold b w = record { sound = w; all = omega (arith, ap one (still_runs x b.running)); new = []; past = refl; many = refl }

asks_adds : (h : Bool) (p : Packet) (b : Book) → (asks h p b).wrong ≡ false → Adds b (asks h p b) 1 0
asks_adds true p b w = let z = or-false b.wrong _ w in record { sound = z.0; all = omega (arith, ap one z.1); new = []; past = refl; many = refl }
asks_adds false p b w = let z = or-false b.wrong _ w in record { sound = z.0; all = omega (arith, ap one z.1); new = []; past = refl; many = refl }

moves_adds : (mine : Bool) (m : Move) (b : Book) → (moves mine m b).wrong ≡ false → Adds b (moves mine m b) (asked mine m) 0
moves_adds true (Request i p) b w = asks_adds b.held p b w
moves_adds false (Request i p) b w = stays b w
moves_adds mine (Arbitrate i) b w = stays b w
moves_adds mine (Respond i a h) b w = noted (gave i a) mine h b w
moves_adds mine (Clock i) b w = stays b w
moves_adds mine (Carry v) b w = stays b w
moves_adds mine Grant b w = stays b w
moves_adds mine GapNext b w = stays b w
moves_adds mine Reset b w = stays b w
moves_adds mine (Ask i) b w = stays b w
moves_adds mine (Decide i) b w = stays b w

wins_adds : (f : Option Packet) (b : Book) → b.waiting ≡ f → (wins f b).wrong ≡ false → Adds b (wins f b) 0 0
wins_adds None b e w = absurd (true≢false w)
wins_adds (Some p) b e w =
    let z = or-false b.wrong _ w in record { sound = z.0; all = omega (arith, ap one z.1, ap (λ u. one (not (is_empty u))) e); new = []; past = refl; many = refl }

confirms_adds : (q : Report) (r : Run) (b : Book) → b.running ≡ r → (confirms q r b).wrong ≡ false → Adds b (confirms q r b) 0 1
confirms_adds q none b e w = absurd (true≢false w)
confirms_adds q (run p l) b e w = record { sound = w; all = omega (arith, ap (λ r. one (is_run r)) e); new = record { packet = p; stretch = l; by = q } ∷ []; past = refl; many = refl }

reports_adds : (mine : Bool) (r : Report) (b : Book) → (reports mine r b).wrong ≡ false → Adds b (reports mine r b) 0 (answered mine r)
reports_adds mine Silent b w = stays b w
reports_adds true (Won i) b w = wins_adds b.waiting b refl w
reports_adds false (Won i) b w = stays b w
reports_adds mine (Lost i) b w = stays b w
reports_adds true (Sent i x) b w = confirms_adds (Sent i x) b.running b refl w
reports_adds false (Sent i x) b w = stays b w
reports_adds true (Acked i a x) b w = confirms_adds (Acked i a x) b.running b refl w
reports_adds false (Acked i a x) b w = stays b w
reports_adds true (Miss i x) b w = confirms_adds (Miss i x) b.running b refl w
reports_adds false (Miss i x) b w = stays b w
reports_adds mine (Drop i m) b w = stays b w
reports_adds mine (Good i h d) b w = noted (told (Good i h d)) false false b w
reports_adds mine (Dcrc i h) b w = noted (told (Dcrc i h)) false false b w
reports_adds mine (Broad i h d) b w = noted (told (Broad i h d)) false false b w

tally : (i : ℕ) (l : List Event) (b : Book) → (book_of i l b).wrong ≡ false → Adds b (book_of i l b) (requests i l) (confirmations i l)
tally i [] b w = stays b w
tally i (refusal k ∷ l) b w = tally i l b w
tally i (accepted m r ∷ l) b w =
    let z = tally i l _ w in
    let y = reports_adds (eqb i (node_of r)) r _ z.sound in
    let x = moves_adds (eqb i (mover_of m)) m b y.sound in
    record {
      sound = x.sound;
      all = omega (arith, x.all, y.all, z.all);
      new = z.new ++ (y.new ++ x.new);
      past = z.past ∙ ap (λ c. z.new ++ c) (y.past ∙ ap (λ c. y.new ++ c) x.past) ∙ simp append_assoc;
      many = simp length-append (omega (arith, x.many, y.many, z.many));
    }

-- each accepted request is confirmed, running or waiting, and each confirmation confirmed one
pub counted : (i : ℕ) (l : List Event) → (book_of i l new_book).wrong ≡ false → requests i l ≡ size (book_of i l new_book)
counted i l w = let t = tally i l new_book w in omega (arith, t.all)

pub once : (i : ℕ) (l : List Event) → (book_of i l new_book).wrong ≡ false → confirmations i l ≡ length (book_of i l new_book).confirmed
once i l w = let t = tally i l new_book w in sym (ap length (t.past ∙ append-nil t.new) ∙ t.many)

-- a book that is not wrong after some events was not wrong before them, and has what it had confirmed
pub was_right : (i : ℕ) (l : List Event) (b : Book) → (book_of i l b).wrong ≡ false → b.wrong ≡ false
was_right i l b w = (tally i l b w).sound

pub keeps_confirmed : (i : ℕ) (l : List Event) (b : Book) → (book_of i l b).wrong ≡ false → (new : List Confirmed) × ((book_of i l b).confirmed ≡ new ++ b.confirmed)
keeps_confirmed i l b w = let t = tally i l b w in (t.new, t.past)
