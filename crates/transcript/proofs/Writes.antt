-- Text written on a line, piece after piece, and what a buffer with room for it then holds. Assumes nothing.
use Prim.Native.Nat.{ℕ, suc, ◌+◌, ◌<◌, ◌≤◌}
use mathlib.Core.Path.{◌≡◌, refl, ◌∙◌}
use mathlib.Core.List.{List, [], ◌∷◌, ◌++◌, append_assoc}
use native.Mathlib.Omega.{arith}
use mathlib.Core.Path.{sym}
use mathlib.Core.Bool.{Bool, true, false, cond}
use lib.Dec.{ltb, leb}
use borrow.Author.Tests.{lt-ltb, le-leb, leb-true}
use Rattle.std.specs.Prelude.{slice_set}
use lib.ListN.{length, set, length-set}
use Rattle.std.proofs.lemmas.List.{drop-drop}
use base.Fml.{GName}
use Rattle.transcript.specs.declared.writer.Line.{Line}
use Rattle.transcript.specs.Room.{put, end_in, put_in}
use Rattle.transcript.specs.Writer.{written, with_byte}

pub written_written : (l : Line) (s t : List ℕ) → written (written l s) t ≡ written l (s ++ t)
unfolding written
written_written l [] t = refl
written_written l (b ∷ s) t = written_written (with_byte l b) s t

pub ruleset pieces = (written_written, append_assoc)

-- where there is room for the text, all of it is put
pub written_in : (l : Line) (t : List ℕ) → l.at + length t ≤ length l.out.now → written l t ≡ record { out = record l.out { now = put l.out.now l.at t }; at = l.at + length t }
unfolding written with_byte put
written_in l [] h = let e : l.at + 0 ≡ l.at = omega arith in rw e
written_in l (b ∷ t) h =
    let room : l.at < length l.out.now = omega arith in
    let next : l.at + suc (length t) ≡ l.at + 1 + length t = omega arith in
    let more : suc l.at ≡ l.at + 1 = omega arith in
    let same : length (set l.out.now l.at b) ≡ length l.out.now = length-set l.out.now l.at b in
    rw (lt-ltb l.at (length l.out.now) room, next, more) (written_in (record { out = record l.out { now = set l.out.now l.at b }; at = l.at + 1 }) t (omega arith))

-- the line keeps the buffer that it was given
either_name : (b : Bool) (l : Line) (v : ℕ) → (cond b (record { out = record l.out { now = slice_set l.out.now l.at v }; at = l.at + 1 }) l).out.ghost_name ≡ l.out.ghost_name
either_name true l v = refl
either_name false l v = refl

same_name : (l : Line) (t : List ℕ) → (written l t).out.ghost_name ≡ l.out.ghost_name
unfolding written with_byte
same_name l [] = refl
same_name l (b ∷ t) = same_name (with_byte l b) t ∙ either_name (ltb l.at (length l.out.now)) l b

-- what a public function answers where there is room, and its text is no longer than that. The buffer is given back with what the line put into it.
pub all_put : (room at : ℕ) (buf t : List ℕ) (first last : Line) {has : Bool} {x : List ℕ} {name : GName} →
    has ≡ leb (at + room) (length buf) → has ≡ true → length t ≤ room → first.at ≡ at → first.out.now ≡ buf → first.out.ghost_name ≡ name → last ≡ written first t
    → (name ≡ last.out.ghost_name → x ≡ last.out.now)
    → (last.at ≡ at + length t) × (last.at ≡ end_in room buf at t) × (x ≡ put_in room buf at t)
all_put room at buf t first last h has_it short starts holds names e back =
    let fits : at + room ≤ length buf = leb-true (at + room) (length buf) (sym h ∙ has_it) in
    let fit = le-leb (at + room) (length buf) fits in
    let same : first.out.ghost_name ≡ last.out.ghost_name = sym (rw e (same_name first t)) in
    let all = e ∙ written_in first t (rw (starts, holds) (omega arith)) in
    rw (back (sym names ∙ same), all, starts, holds, fit) (refl, refl, refl)
