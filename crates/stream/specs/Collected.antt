-- A buffer of collected text: how many bytes it holds, and which. After a failed write it holds none.
use Rattle.std.specs.Prelude.{Option, Some, None, Bool, false, cond, ◌||◌, List, ℕ, ◌+◌, ◌-◌, leb, length, take}
use Rattle.std.proofs.lemmas.List.Edits.{sets}
use Rattle.std.specs.Io.KnownBytes.{append_known}

-- how many bytes are held
abbrev pub count_of : Option ℕ → ℕ
count_of None = 0
count_of (Some used) = used

-- a text is added after the bytes held where it has room there, or else at the start; one longer than the buffer is not kept
abbrev pub has_room : List ℕ → ℕ → List ℕ → Bool
has_room out used text = leb (length text) (length out - used)

unfoldable pub used_after : List ℕ → ℕ → List ℕ → ℕ
used_after out used text =
    cond (has_room out used text) (used + length text) (cond (leb (length text) (length out)) (length text) 0)

unfoldable pub collected : List ℕ → ℕ → List ℕ → List ℕ
collected out used text =
    cond (has_room out used text) (sets out used text) (cond (leb (length text) (length out)) (sets out 0 text) out)

-- whether a text is taken: none is after a failed write, one that has room is not written, and for any other it is the operating system's answer
abbrev pub taken_as : Option ℕ → List ℕ → List ℕ → Bool → Bool
taken_as None out text answer = false
taken_as (Some used) out text answer = has_room out used text || answer

-- what is held after a text, and what the buffer then has: the same where the text was not taken
abbrev pub held_after : Bool → List ℕ → Option ℕ → List ℕ → Option ℕ
held_after taken out held text = cond taken (Some (used_after out (count_of held) text)) None

abbrev pub buf_after : Bool → List ℕ → Option ℕ → List ℕ → List ℕ
buf_after taken out held text = cond taken (collected out (count_of held) text) out

-- what a writer has, where that is known, and after it the bytes that the buffer holds
abbrev pub sent : Option (List ℕ) → List ℕ → Option ℕ → Option (List ℕ)
sent contents out held = append_known contents (take (count_of held) out)
