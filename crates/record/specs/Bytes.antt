-- Lists of bytes, and bytes written at a place of a buffer.
use Rattle.std.specs.Prelude.{Bool, cond, List, ◌++◌, ℕ, ◌+◌, ◌<◌, leb, length, take, drop, get_or}

-- a list of bytes
abbrev pub Bytes : List ℕ → Type 0
Bytes l = (i : ℕ) → get_or l i 0 < 256

-- a list with some of its elements, from place `at` on, replaced by others
abbrev pub placed : List ℕ → ℕ → List ℕ → List ℕ
placed s at new = take at s ++ new ++ drop (at + length new) s

-- whether `count` bytes have room in `size` bytes from place `at` on
abbrev pub has_room : ℕ → ℕ → ℕ → Bool
has_room size at count = leb (at + count) size

-- what a buffer holds after bytes were written at a place: where they have no room, what it held
unfoldable pub put_at : List ℕ → ℕ → List ℕ → List ℕ
put_at s at new = cond (has_room (length s) at (length new)) (placed s at new) s
