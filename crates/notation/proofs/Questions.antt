-- A line of a question: but for `find` it says what it says in a run, and the words of the reports are told apart. Assumes nothing.
use mathlib.Core.Path.{◌≡◌, refl}
use mathlib.Core.Bool.{false}
use mathlib.Core.List.{List, [], ◌∷◌, ◌++◌}
use Prim.Native.Nat.{ℕ}
use native.Mathlib.Omega.{arith}
use lib.Dec.{eqb}
use Rattle.std.proofs.Common.{Some, None, Ok}
use Rattle.charts.specs.declared.Word as Report
use Rattle.charts.specs.declared.Word.TheVariants as R
use Rattle.transcript.specs.Text.{ascii}
use Rattle.words.specs.declared.Name.{Name}
use Rattle.words.specs.declared.Name.TheVariants as N
use Rattle.words.specs.declared.Token.{Token}
use Rattle.words.specs.declared.Token.TheVariants.{Word, Number, Large}
use Rattle.notation.specs.declared.Text.TheVariants.{Run, Question}
use Rattle.notation.specs.declared.Line.TheVariants.{Finds}
use Rattle.words.specs.Names.{name_number, word_number}
use Rattle.words.specs.Words.{name_of, digit_of, digits_of, token_of, tokens_of, kind_in, kind_of}
use Rattle.fields.specs.Fields.{number_in, report_in, depth_in}
use Rattle.notation.specs.Grammar.{last_of, find_of, named_of, said_by, line_of}

named_as_run : (k : Name) (l : List Token) → eqb (name_number k) (name_number N.Find) ≡ false → named_of Question k l ≡ named_of Run k l
unfolding named_of
named_as_run (N.Kind k) l h = refl
named_as_run N.Find l h = absurd (let z : ◌≡◌ {A = ℕ} 0 1 = cc in omega arith)
named_as_run N.Nodes l h = refl
named_as_run N.All l h = refl
named_as_run N.Hold l h = refl
named_as_run N.Times l h = refl
named_as_run N.Label l h = refl
named_as_run N.Actions l h = refl
named_as_run N.User l h = refl
named_as_run N.To l h = refl
named_as_run N.Spell l h = refl
named_as_run N.Fillers l h = refl
named_as_run N.Within l h = refl
named_as_run (N.Report w) l h = refl

said_as_run : (l : List Token) → eqb (word_number (kind_in l)) (name_number N.Find) ≡ false → said_by Question l ≡ said_by Run l
unfolding said_by
said_as_run [] h = refl
said_as_run (Word None ∷ l) h = refl
said_as_run (Word (Some k) ∷ l) h = named_as_run k l h
said_as_run (Number x ∷ l) h = refl
said_as_run (Large ∷ l) h = refl

-- a line that does not begin with `find` says in a question what it says in a run
pub as_in_run : (line : List ℕ) → eqb (word_number (kind_of line)) (name_number N.Find) ≡ false → line_of Question line ≡ line_of Run line
unfolding line_of
as_in_run line h = rw (said_as_run (tokens_of line) h)

-- each of the nine words asks for its own report
abbrev Asks : List ℕ → Report.Word → Type 0
Asks w r = line_of Question (ascii "find " ++ (w ++ ascii " 1 within 6")) ≡ Ok (Finds (record { word = r; node = 1 }) 6)

nine :
    Asks (ascii "won") R.Won × Asks (ascii "lost") R.Lost × Asks (ascii "sent") R.Sent × Asks (ascii "ack") R.Ack × Asks (ascii "miss") R.Miss × Asks (ascii "drop") R.Drop
    × Asks (ascii "good") R.Good × Asks (ascii "dcrc") R.Dcrc × Asks (ascii "broad") R.Broad
unfolding name_of digit_of digits_of token_of tokens_of number_in last_of report_in depth_in find_of named_of said_by line_of
nine = (refl, refl, refl, refl, refl, refl, refl, refl, refl)
