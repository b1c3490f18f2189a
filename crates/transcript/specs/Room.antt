-- A lent buffer, and text put into it from a place on.
use Rattle.std.specs.Prelude.{Bool, cond, ◌≡◌, List, ℕ, ◌+◌, leb, length}
use Rattle.std.proofs.lemmas.List.Edits.{sets}

-- the buffer with the bytes of a text stored from place `at` on; all other bytes stay
unfoldable pub put : List ℕ → ℕ → List ℕ → List ℕ
put buf at text = sets buf at text

-- what a writer does: it puts a text into the buffer at a place, and answers the place after it
pub record Puts (buf : List ℕ) (at : ℕ) (text : List ℕ) (end : ℕ) (after : List ℕ) : Type 0 where
  pub ends : end ≡ at + length text
  pub holds : after ≡ put buf at text

-- the room that each line finds, whatever its own length: 64 bytes hold the longest
abbrev pub longest : ℕ
longest = 64

abbrev pub has_room : ℕ → List ℕ → ℕ → Bool
has_room room buf at = leb (at + room) (length buf)

-- a line put into a buffer: where the text ends, and what the buffer then holds. Without room nothing is put.
abbrev pub end_in : ℕ → List ℕ → ℕ → List ℕ → ℕ
end_in room buf at text = cond (has_room room buf at) (at + length text) at

abbrev pub put_in : ℕ → List ℕ → ℕ → List ℕ → List ℕ
put_in room buf at text = cond (has_room room buf at) (put buf at text) buf

abbrev pub end_of : List ℕ → ℕ → List ℕ → ℕ
end_of buf at text = end_in longest buf at text

abbrev pub put_line : List ℕ → ℕ → List ℕ → List ℕ
put_line buf at text = put_in longest buf at text
