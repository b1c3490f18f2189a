-- What a whole text of settings means: n, the number of actions and the users, or its first fault with the line that has it.
use Rattle.std.specs.Prelude.{List, [], ◌∷◌, ℕ, suc, Result, Ok, Err}
use Rattle.charts.specs.State.{upd}
use Rattle.charts.specs.View.{no_user}
use Rattle.charts.specs.declared.User.{User}
use Rattle.faults.specs.declared.Fault.{Fault}
use Rattle.faults.specs.declared.Fault.TheVariants.{UnknownWord}
use Rattle.notation.specs.declared.Text.TheVariants as T
use Rattle.notation.specs.declared.Line.{Line}
use Rattle.notation.specs.declared.Line.TheVariants as L
use Rattle.notation.specs.Grammar.{line_of}
use Rattle.notation.specs.Reading.{nodes_stage}
use Rattle.notation.specs.Meaning.{lines_of, unmarked}
use Rattle.settings.specs.declared.Settings.{Settings}
use Rattle.settings.specs.Settings.{actions_stage, user_stage, end_stage, started, feed_of, finish_of}

pub data Meaning : Type 0 where
  trial : ℕ → ℕ → (ℕ → User) → Meaning
  wrong : ℕ → Fault → Meaning

-- after a line: n (0 before the `nodes` line), the number of actions and the users so far, or what is wrong
pub data Said : Type 0 where
  on : ℕ → ℕ → (ℕ → User) → Said
  off : Fault → Said

abbrev pub said_if : Said → Result Unit Fault → Said
said_if s (Ok u) = s
said_if s (Err f) = off f

-- "the first line that is not blank is `nodes`"; "Of two lines about the same user, or about the actions, the later one counts, whole."
abbrev pub line_on : ℕ → ℕ → (ℕ → User) → Result Line Fault → Said
line_on n k us (Ok L.Blank) = on n k us
line_on n k us (Ok (L.Nodes m)) = said_if (on m k us) (nodes_stage n m)
line_on n k us (Ok (L.Acts a t)) = off UnknownWord
line_on n k us (Ok (L.Actions j)) = said_if (on n j us) (actions_stage n)
line_on n k us (Ok (L.User i u)) = said_if (on n k (upd us i u)) (user_stage n i u.address)
line_on n k us (Ok (L.Finds q d)) = off UnknownWord
line_on n k us (Err f) = off f

-- the end "has the number of its last line"
abbrev pub end_on : ℕ → Meaning → Result Unit Fault → Meaning
end_on i m (Ok u) = m
end_on i m (Err f) = wrong i f

abbrev pub after_line : ℕ → Said → (ℕ → ℕ → (ℕ → User) → Meaning) → Meaning
after_line i (on n k us) next = next n k us
after_line i (off f) next = wrong i f

-- the meaning of lines after i lines that gave n, k and us
abbrev pub settings_from : List (List ℕ) → ℕ → ℕ → ℕ → (ℕ → User) → Meaning
settings_from [] i n k us = end_on i (trial n k us) (end_stage n k (us 0))
settings_from (t ∷ ts) i n k us = after_line (suc i) (line_on n k us (line_of T.Settings t)) (settings_from ts (suc i))

-- "What is not said is 0, and release"
abbrev pub unsaid : User
unsaid = no_user

unfoldable pub settings_of : List ℕ → Meaning
settings_of text = settings_from (lines_of (unmarked text)) 0 0 0 (λ i. unsaid)

-- what the code makes of a text: each line fed, and the text's end
abbrev pub read_from : List (List ℕ) → Settings → Settings
read_from [] s = finish_of s
read_from (t ∷ ts) s = read_from ts (feed_of s t)

unfoldable pub read_by : List ℕ → Settings
read_by text = read_from (lines_of (unmarked text)) started
