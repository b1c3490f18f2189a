-- The settings under way: what a line and the text's end make of them.
use Rattle.std.specs.Prelude.{cond, not, List, ℕ, eqb, ltb, set, replicate, None, Some, is_some, Result, Ok, Err}
use Rattle.charts.specs.Numbers as N
use Rattle.charts.specs.Records.{is_address, is_own}
use Rattle.charts.specs.View.{no_user, users_of}
use Rattle.charts.specs.declared.User.{User}
use Rattle.faults.specs.declared.Fault.{Fault}
use Rattle.faults.specs.declared.Fault.TheVariants.{UnknownWord, NodesMissing, NoUser, NoAction, Refused}
use Rattle.notation.specs.declared.Text.TheVariants as T
use Rattle.notation.specs.declared.Line.{Line}
use Rattle.notation.specs.declared.Line.TheVariants as L
use Rattle.notation.specs.Grammar.{line_of}
use Rattle.notation.specs.Reading.{counted, nodes_stage}
use Rattle.settings.specs.declared.Settings.{Settings}

abbrev pub no_users : List User
no_users = replicate 63 no_user

-- the settings before a text
abbrev pub started : Settings
started = record { fault = None; line = 0; n = 0; actions = 0; users = no_users }

-- stopped by a fault; on a line; with so many nodes, with so many actions, with these users
abbrev pub stopped : Settings → Fault → Settings
stopped s f = record s { fault = Some f }

abbrev pub on_line : Settings → ℕ → Settings
on_line s line = record s { line = line }

abbrev pub for_nodes : Settings → ℕ → Settings
for_nodes s n = record s { n = n }

abbrev pub for_actions : Settings → ℕ → Settings
for_actions s k = record s { actions = k }

abbrev pub for_users : Settings → List User → Settings
for_users s us = record s { users = us }

-- settings that go on as t where nothing is wrong
abbrev pub goes_on : Settings → Settings → Result Unit Fault → Settings
goes_on s t (Ok u) = t
goes_on s t (Err f) = stopped s f

-- the code's answer: the settings that it leaves, stopped where there is a fault
abbrev pub ended : Settings → Result Unit Fault → Settings
ended s (Ok u) = s
ended s (Err f) = stopped s f

-- "the first line that is not blank is `nodes`"; "`a second nodes line`"
unfoldable pub nodes_taken : Settings → ℕ → Settings
nodes_taken s n = goes_on s (for_nodes s n) (nodes_stage s.n n)

-- "`no nodes line`": "Another line before the `nodes` line"
abbrev pub actions_stage : ℕ → Result Unit Fault
actions_stage n = cond (eqb n 0) (Err NodesMissing) (Ok tt)

unfoldable pub actions_taken : Settings → ℕ → Settings
actions_taken s k = goes_on s (for_actions s k) (actions_stage s.n)

-- "`refused 4`": "A user of a node that there is not."; "`refused 5`": "Looked at after 4."; "`refused 15`": "Looked at after 5."
unfoldable pub user_stage : ℕ → ℕ → ℕ → Result Unit Fault
user_stage n i address =
    cond (eqb n 0) (Err NodesMissing)
    (cond (not (ltb i n)) (Err (Refused N.wrong_node))
    (cond (not (is_address n address)) (Err (Refused N.wrong_address))
    (cond (is_own i address) (Err (Refused N.to_itself))
    (Ok tt))))

-- "Of two lines about the same user […] the later one counts, whole."
unfoldable pub user_taken : Settings → ℕ → User → Settings
user_taken s i u = goes_on s (for_users s (set s.users i u)) (user_stage s.n i u.address)

-- "line = blank | nodes | actions | user": settings have no action and no `find`
unfoldable pub line_taken : Settings → Result Line Fault → Settings
line_taken s (Ok L.Blank) = s
line_taken s (Ok (L.Nodes n)) = nodes_taken s n
line_taken s (Ok (L.Acts a k)) = stopped s UnknownWord
line_taken s (Ok (L.Actions k)) = actions_taken s k
line_taken s (Ok (L.User i u)) = user_taken s i u
line_taken s (Ok (L.Finds q d)) = stopped s UnknownWord
line_taken s (Err f) = stopped s f

-- a line fed; settings that have stopped take none
unfoldable pub feed_of : Settings → List ℕ → Settings
feed_of s line = cond (is_some s.fault) s (line_taken (on_line s (counted s.line)) (line_of T.Settings line))

-- the text's end, with the user of node 0: "no line in the whole text that says something"; "`no user 0 line`": "what is not said is 0", and a line that sends it to 0 is refused, so it has none just
-- where it sends to 0; "`actions 0`, […] or no `actions` line: told at the text's end"
abbrev pub end_stage : ℕ → ℕ → User → Result Unit Fault
end_stage n k u = cond (eqb n 0) (Err NodesMissing) (cond (is_own 0 u.address) (Err NoUser) (cond (eqb k 0) (Err NoAction) (Ok tt)))

unfoldable pub end_of : Settings → Result Unit Fault
end_of s = end_stage s.n s.actions (users_of s.users 0)

unfoldable pub finish_of : Settings → Settings
finish_of s = cond (is_some s.fault) s (goes_on s s (end_of s))
