-- A cursor in a line: the words from there on.
use Rattle.std.specs.Prelude.{List, [], ◌∷◌, ℕ, Option, None, Some, drop}
use Rattle.words.specs.declared.Token.{Token}
use Rattle.words.specs.declared.Cursor.{Cursor}
use Rattle.words.specs.Words.{tokens_of}

-- the words from a place on
abbrev pub tokens_left : List ℕ → ℕ → List Token
tokens_left line at = tokens_of (drop at line)

-- the words that a step found and left
abbrev pub stepped : List ℕ → Option (Token × Cursor) → List Token
stepped line None = []
stepped line (Some (t, c)) = t ∷ tokens_left line c.at
