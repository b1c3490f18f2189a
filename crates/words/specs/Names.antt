-- The names by number, from 1 on; an unknown word has 0.
use Rattle.std.specs.Prelude.{ℕ, Option, None, Some, ◌+◌}
use Rattle.charts.specs.Kinds.{kind_number}
use Rattle.charts.specs.Routes.{numbered}
use Rattle.words.specs.declared.Name.{Name}
use Rattle.words.specs.declared.Name.TheVariants.{Kind, Nodes, All, Hold, Times, Label, Actions, User, To, Spell, Fillers, Find, Within, Report}

abbrev pub name_number : Name → ℕ
name_number (Kind k) = kind_number k
name_number Nodes = 13
name_number All = 14
name_number Hold = 15
name_number Times = 16
name_number Label = 17
name_number Actions = 18
name_number User = 19
name_number To = 20
name_number Spell = 21
name_number Fillers = 22
name_number Find = 23
name_number Within = 24
name_number (Report w) = 24 + numbered w

abbrev pub word_number : Option Name → ℕ
word_number None = 0
word_number (Some k) = name_number k
