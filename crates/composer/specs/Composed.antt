-- What `compose` writes and how it ends: each line fed, its action put as often as the line says, and the end of the text.
use Rattle.std.specs.Prelude.{List, [], ◌∷◌, ◌++◌, ℕ, zero, suc, ◌+◌, replicate, Result, Ok, Err}
use Rattle.charts.specs.Records.{blank}
use Rattle.faults.specs.declared.Fault.{Fault}
use Rattle.notation.specs.declared.Text.TheVariants.{Run}
use Rattle.notation.specs.declared.Line.{Line}
use Rattle.notation.specs.declared.Line.TheVariants.{Blank, Nodes, Acts, Actions, Finds}
use Rattle.notation.specs.declared.Line.TheVariants as L
use Rattle.notation.specs.Grammar.{line_of}
use Rattle.notation.specs.Meaning.{lines_of, unmarked}
use Rattle.composer.specs.declared.Composer.{Composer}
use Rattle.composer.specs.Composer.{feed_of, put_of, put_held, finish_of, finish_held, start_of}

abbrev pub begin : Composer
begin = start_of (replicate 496 0) blank

-- the composer after k puts, and the blocks that they wrote: what an empty buffer then holds
abbrev pub put_times : ℕ → Composer → Composer
put_times zero c = c
put_times (suc k) c = put_times k (put_of c).composer

abbrev pub put_bytes : ℕ → Composer → List ℕ
put_bytes zero c = []
put_bytes (suc k) c = put_held c [] ++ put_bytes k (put_of c).composer

abbrev pub settled : Composer → Composer
settled c = put_times c.left c

abbrev pub composed_from : List (List ℕ) → Composer → List ℕ
composed_from [] c = finish_held c []
composed_from (t ∷ ts) c = put_bytes (feed_of c t).left (feed_of c t) ++ composed_from ts (settled (feed_of c t))

unfoldable pub composed : List ℕ → List ℕ
composed text = composed_from (lines_of (unmarked text)) begin

-- the composer after a text, of which the program prints the fault
abbrev pub ends_from : List (List ℕ) → Composer → Composer
ends_from [] c = (finish_of c).composer
ends_from (t ∷ ts) c = ends_from ts (settled (feed_of c t))

unfoldable pub ends : List ℕ → Composer
ends text = ends_from (lines_of (unmarked text)) begin

-- how many actions lines say, "`pass * 6`" being six
abbrev pub times_said : Result Line Fault → ℕ
times_said (Ok Blank) = 0
times_said (Ok (Nodes n)) = 0
times_said (Ok (Acts a k)) = k
times_said (Ok (Actions k)) = 0
times_said (Ok (L.User i u)) = 0
times_said (Ok (Finds q d)) = 0
times_said (Err f) = 0

abbrev pub actions_in : List (List ℕ) → ℕ
actions_in [] = 0
actions_in (t ∷ ts) = times_said (line_of Run t) + actions_in ts
