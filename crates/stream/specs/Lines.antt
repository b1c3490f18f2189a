-- A line in some bytes: those up to the next newline.
use Rattle.std.specs.Prelude.{Option, Some, None, List, ℕ, ◌+◌, ◌-◌, ◌==◌, position, take, drop}

-- where the first newline stands
abbrev pub newline_of : List ℕ → Option ℕ
newline_of bytes = position (λ byte. byte == 10) bytes

-- the bytes before it, or all where there is none, and those after it
abbrev pub before : Option ℕ → List ℕ → List ℕ
before None bytes = bytes
before (Some newline) bytes = take newline bytes

abbrev pub after : Option ℕ → List ℕ → Option (List ℕ)
after None bytes = None
after (Some newline) bytes = Some (drop (newline + 1) bytes)

abbrev pub line_of : List ℕ → List ℕ
line_of bytes = before (newline_of bytes) bytes

abbrev pub rest_of : List ℕ → Option (List ℕ)
rest_of bytes = after (newline_of bytes) bytes

-- what is added to a line of so many bytes, of which some stand: what fits of the bytes before the newline
abbrev pub added : List ℕ → ℕ → ℕ → List ℕ
added bytes size len = take (size - len) (line_of bytes)
