-- What the question for room comes to. Assumes nothing.
use Prim.Native.Nat.{ℕ, ◌+◌, ◌≤◌}
use mathlib.Core.Path.{◌≡◌, refl, sym, ◌∙◌}
use mathlib.Core.Bool.{Bool, not, true, false}
use mathlib.Core.List.{List}
use borrow.Author.Tests.{leb-true, not-true, not-false, le-leb}
use lib.Dec.{leb}
use lib.ListN.{length}
use Rattle.transcript.specs.Room.{longest, end_in, put_in, end_of, put_line, Puts}

pub fits : {b : Bool} (room at size : ℕ) → b ≡ leb (at + room) size → not b ≡ false → at + room ≤ size
fits {b} room at size e h = leb-true (at + room) size (sym e ∙ not-false b h)

-- with room the line is put; without it nothing is
pub put_in_room : {buf after : List ℕ} {at end : ℕ} {text : List ℕ} (room : ℕ) → at + room ≤ length buf → Puts buf at text end after → (end ≡ end_in room buf at text) × (after ≡ put_in room buf at text)
put_in_room {buf} {at = at} room h p = rw (le-leb (at + room) (length buf) h) (p.ends, p.holds)

pub no_room : {b : Bool} (room : ℕ) (buf : List ℕ) (at : ℕ) (text : List ℕ) → b ≡ leb (at + room) (length buf) → not b ≡ true → (at ≡ end_in room buf at text) × (buf ≡ put_in room buf at text)
no_room {b} room buf at text e h = rw (sym e ∙ not-true b h) (refl, refl)

-- the other way round: what a caller knows whose buffer has room
pub puts_in : {buf after : List ℕ} {at end : ℕ} {text : List ℕ} (room : ℕ) → at + room ≤ length buf → end ≡ end_in room buf at text → after ≡ put_in room buf at text → Puts buf at text end after
puts_in {buf} {at = at} room h e f = let fit = le-leb (at + room) (length buf) h in record { ends = rw fit at e; holds = rw fit at f }

pub puts_line : {buf after : List ℕ} {at end : ℕ} {text : List ℕ} → at + longest ≤ length buf → end ≡ end_of buf at text → after ≡ put_line buf at text → Puts buf at text end after
puts_line = puts_in longest
