-- The text of the document's first example, what comes after it, and one wrong text for each fault of a whole text, computed. Assumes nothing.
use mathlib.Core.Path.{◌≡◌, refl}
use mathlib.Core.Bool.{Bool, true, false}
use Prim.Native.Nat.{ℕ}
use Rattle.charts.specs.State.{upd}
use Rattle.charts.specs.declared.User.{User}
use Rattle.faults.specs.declared.Fault.TheVariants as F
use Rattle.transcript.specs.Text.{ascii}
use Rattle.words.specs.Words.{name_of, digit_of, digits_of, token_of, tokens_of}
use Rattle.fields.specs.Fields.{number_in, address_in, option_in}
use Rattle.notation.specs.Grammar.{last_of, nodes_of, actions_of, user_of, named_of, said_by, line_of}
use Rattle.notation.specs.Reading.{nodes_stage}
use Rattle.notation.specs.Meaning.{mark_size}
use Rattle.settings.specs.Settings.{user_stage}
use Rattle.settings.specs.Meant.{trial, wrong, unsaid, settings_of}

abbrev user : ℕ → ℕ → ℕ → Bool → ℕ → User
user address spell fillers hold period = record { spell = spell; address = address; fillers = fillers; hold = hold; period = period }

examples :
    (settings_of (ascii "nodes 2             # the first example below\nactions 19\nuser 0 to 1\nuser 1 to 0 lose 2\n")
    ≡ trial 2 19 (upd (upd (λ i. unsaid) 0 (user 1 0 0 false 0)) 1 (user 0 0 0 false 2)))
    × (settings_of (ascii "\n nodes 3\nuser 2 to all spell 0x25 fillers 1 hold lose 4\nactions 1\nactions 65535\nuser 0 to 2\nuser 2 to 1")
    ≡ trial 3 65535 (upd (upd (upd (λ i. unsaid) 2 (user 63 37 1 true 4)) 0 (user 2 0 0 false 0)) 2 (user 1 0 0 false 0)))
    × (settings_of (ascii "# 1\nactions 1\nnodes 2\n") ≡ wrong 2 F.NodesMissing)
    × (settings_of (ascii "") ≡ wrong 0 F.NodesMissing)
    × (settings_of (ascii "nodes 2\n\nnodes 2\n") ≡ wrong 3 F.NodesAgain)
    × (settings_of (ascii "nodes 64\n") ≡ wrong 1 (F.Refused 1))
    × (settings_of (ascii "nodes 2\nuser 2 to 5\n") ≡ wrong 2 (F.Refused 4))
    × (settings_of (ascii "nodes 2\nuser 1 to 2\n") ≡ wrong 2 (F.Refused 5))
    × (settings_of (ascii "nodes 2\nuser 1 to 1\n") ≡ wrong 2 (F.Refused 15))
    × (settings_of (ascii "nodes 2\nuser 0 hold\n") ≡ wrong 2 (F.Refused 15))
    × (settings_of (ascii "nodes 2\nuser 1 to 0\n# end") ≡ wrong 3 F.NoUser)
    × (settings_of (ascii "nodes 2\nactions 5\nactions 0\nuser 0 to 1\n# end") ≡ wrong 5 F.NoAction)
    × (settings_of (ascii "nodes 2\nuser 0 hold fillers 1\n") ≡ wrong 2 F.ExtraField)
    × (settings_of (ascii "nodes 2\npass\n") ≡ wrong 2 F.UnknownWord)
unfolding settings_of mark_size nodes_stage user_stage name_of digit_of digits_of token_of tokens_of number_in address_in option_in last_of nodes_of actions_of user_of named_of said_by line_of
examples = (refl, refl, refl, refl, refl, refl, refl, refl, refl, refl, refl, refl, refl, refl)
