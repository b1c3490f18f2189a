-- A line under way: a lent buffer, and the place of the next byte in it.
use Rattle.std.specs.Prelude.{cond, List, [], ◌∷◌, ℕ, ◌+◌, ltb, length, slice_set}
use Rattle.transcript.specs.declared.writer.Line.{Line}

-- a byte past the buffer's end is left out
unfoldable pub with_byte : Line → ℕ → Line
with_byte l b = cond (ltb l.at (length l.out.now)) (record { out = record l.out { now = slice_set l.out.now l.at b }; at = l.at + 1 }) l

-- what a writer does: it writes a text, byte after byte
unfoldable pub written : Line → List ℕ → Line
written l [] = l
written l (b ∷ t) = written (with_byte l b) t
