-- The examples of the grammar's document, and one for each other row of its tables, for runs, for settings and for questions, computed. Assumes nothing.
use mathlib.Core.Path.{◌≡◌, refl}
use mathlib.Core.List.{List, [], ◌∷◌, ◌++◌}
use Prim.Native.Nat.{ℕ, ◌-◌}
use lib.ListN.{take, drop, replicate}
use Rattle.faults.specs.declared.Fault.{Fault}
use Rattle.faults.specs.declared.Fault.TheVariants as F
use Rattle.transcript.specs.Text.{ascii, decimal}
use Rattle.faults.specs.Faults.{fault_words, shown_byte, shown, hint, field_of, setting_words, question_words, field_words, cause_words, fault_line}
use Rattle.notation.specs.declared.Text.{Text}
use Rattle.notation.specs.declared.Text.TheVariants.{Run, Settings, Question}
use Rattle.causes.specs.declared.Blamed.{Blamed}
use Rattle.words.specs.Words.{name_of, digit_of, digits_of, token_of, tokens_of}
use Rattle.fields.specs.Fields.{number_in, address_in, address_or_none, option_in, report_in, depth_in}
use Rattle.notation.specs.Grammar.{last_of, repeat_of, ending_of, request_of, node_of, respond_of, change_of, action_of, nodes_of, actions_of, user_of, find_of, named_of, said_by, line_of}
use Rattle.causes.specs.Blame.{is_wrong, ends_with, fatal_at, first_in, word_in, statement_in, refusal_of, named_at, place_in_line, place_at, blame_in, blame_of}

-- the line that is said of line `number` of a text for n nodes
abbrev shown_of : ℕ → List ℕ → Fault → Blamed → List ℕ
shown_of number line f b = fault_line number f b.cause (take (b.to - b.from) (drop b.from line))

abbrev told : Text → ℕ → ℕ → List ℕ → Fault → List ℕ
told text number n line f = shown_of number line f (blame_of text n line f)

examples :
    (told Run 2 3 (ascii "clock 5") (F.Refused 4) ≡ ascii "line 2: refused 4: clock 5: no node 5, nodes are 0 to 2\n")
    × (told Run 3 3 (ascii "clock x") F.NotNumber ≡ ascii "line 3: not a number: \"x\", the node of clock\n")
    × (told Run 4 3 (ascii "pass*2") F.UnknownWord ≡ ascii "line 4: unknown word: \"pass*2\" (write spaces around *)\n")
    × (told Run 5 3 (ascii " request 1 all  4294967296 7 # 5") F.TooLarge ≡ ascii "line 5: number too large: \"4294967296\", the header of request, at most 4294967295\n")
    × (told Run 6 3 (ascii "respond 1 3 * # 2") F.MissingField ≡ ascii "line 6: missing field: the count after *\n")
    × (told Run 7 3 (ascii "nodes 3 4#5") F.ExtraField ≡ ascii "line 7: extra field: \"4\"\n")
    × (told Run 8 3 (ascii "pass * 0") F.NoRepeat ≡ ascii "line 8: repeat of 0\n")
    × (told Run 1 0 (ascii "  nodes   64\t# y") (F.Refused 1) ≡ ascii "line 1: refused 1: nodes   64: a bus has 2 to 63 nodes\n")
    × (told Run 2 2 (ascii "request 0 2 3 4 * 7\r") (F.Refused 5) ≡ ascii "line 2: refused 5: request 0 2 3 4 * 7: no address 2, addresses are 0 to 1 and all\n")
    × (told Run 2 2 (ascii "respond 0 16 hold") (F.Refused 6) ≡ ascii "line 2: refused 6: respond 0 16 hold: no acknowledgement 16, they are 0 to 15\n")
    × (told Run 2 2 (ascii "request 0 1 5 6 label 64 * 2") (F.Refused 13) ≡ ascii "line 2: refused 13: request 0 1 5 6 label 64 * 2: no label 64, labels are 0 to 63\n")
    × (told Run 3 2 (ascii "request 0 0 5 6") (F.Refused 15) ≡ ascii "line 3: refused 15: request 0 0 5 6: node 0 would send to itself\n")
    × (told Run 3 2 (ascii "request 0 1 5 6 label # 7") F.MissingField ≡ ascii "line 3: missing field: the label of request\n")
    × (told Run 4 2 (ascii "request 0 1 5 6 label 256") F.TooLarge ≡ ascii "line 4: number too large: \"256\", the label of request, at most 255\n")
    × (told Run 5 2 (ascii "request 0 1 5 6 * x") F.NotNumber ≡ ascii "line 5: not a number: \"x\", the count after *\n")
    × (told Run 6 2 (ascii "request 0 1 5 6 label 7 * x") F.NotNumber ≡ ascii "line 6: not a number: \"x\", the count after *\n")
    × (told Run 7 2 (ascii "request 0 1 5 6 7") F.ExtraField ≡ ascii "line 7: extra field: \"7\"\n")
    × (told Run 8 2 (ascii "ask x") F.NotNumber ≡ ascii "line 8: not a number: \"x\", the node of ask\n")
    × (told Run 9 2 (ascii "decide # 1") F.MissingField ≡ ascii "line 9: missing field: the node of decide\n")
    × (told Run 1 0 (ascii "nodes 256") F.TooLarge ≡ ascii "line 1: number too large: \"256\", the number of nodes, at most 255\n")
    × (told Run 2 2 (ascii "pass" ++ (194 ∷ 160 ∷ ascii "* 2")) F.UnknownWord ≡ ascii "line 2: unknown word: \"pass\\xC2\\xA0*\" (a no-break space: write a plain one)\n")
    × (told Run 1 0 (255 ∷ 254 ∷ 110 ∷ 0 ∷ []) F.UnknownWord ≡ ascii "line 1: unknown word: \"\\xFF\\xFEn\\x00\" (no plain text: UTF-16, or a binary file)\n")
    × (told Run 1 0 (replicate 70 97) F.UnknownWord ≡ ascii "line 1: unknown word: \"" ++ (replicate 64 97 ++ ascii "..\"\n"))
unfolding fault_words shown_byte shown hint field_of setting_words question_words field_words cause_words fault_line decimal name_of digit_of digits_of token_of tokens_of number_in address_in address_or_none option_in last_of repeat_of ending_of request_of node_of respond_of change_of action_of nodes_of actions_of user_of report_in depth_in find_of named_of said_by line_of is_wrong ends_with fatal_at first_in word_in statement_in refusal_of named_at place_in_line place_at blame_in blame_of
examples = (refl, refl, refl, refl, refl, refl, refl, refl, refl, refl, refl, refl, refl, refl, refl, refl, refl, refl, refl, refl, refl, refl, refl)

-- the same of settings, one for each field and each number
of_settings :
    (told Settings 2 2 (ascii "actions 65536") F.TooLarge ≡ ascii "line 2: number too large: \"65536\", the number of actions, at most 65535\n")
    × (told Settings 3 2 (ascii " user # 0") F.MissingField ≡ ascii "line 3: missing field: the node of user\n")
    × (told Settings 3 2 (ascii "user 0 to 256") F.TooLarge ≡ ascii "line 3: number too large: \"256\", the address of user, at most 255\n")
    × (told Settings 3 2 (ascii "user 0 to all spell x") F.NotNumber ≡ ascii "line 3: not a number: \"x\", the spell of user\n")
    × (told Settings 3 2 (ascii "user 0 fillers   # 1") F.MissingField ≡ ascii "line 3: missing field: the fillers of user\n")
    × (told Settings 3 2 (ascii "user 0 hold lose all") F.NotNumber ≡ ascii "line 3: not a number: \"all\", the period of user\n")
    × (told Settings 3 2 (ascii "user 0 spell 1 to 1") F.ExtraField ≡ ascii "line 3: extra field: \"to\"\n")
    × (told Settings 3 2 (ascii "pass") F.UnknownWord ≡ ascii "line 3: unknown word: \"pass\"\n")
    × (told Settings 1 0 (ascii "nodes x") F.NotNumber ≡ ascii "line 1: not a number: \"x\", the number of nodes\n")
    × (told Settings 1 0 (ascii "nodes 64") (F.Refused 1) ≡ ascii "line 1: refused 1: nodes 64: a bus has 2 to 63 nodes\n")
    × (told Settings 3 2 (ascii "user 2 to 5") (F.Refused 4) ≡ ascii "line 3: refused 4: user 2 to 5: no node 2, nodes are 0 to 1\n")
    × (told Settings 3 2 (ascii "user 1 to 5 # 5") (F.Refused 5) ≡ ascii "line 3: refused 5: user 1 to 5: no address 5, addresses are 0 to 1 and all\n")
    × (told Settings 3 2 (ascii "user 1 to 1 hold") (F.Refused 15) ≡ ascii "line 3: refused 15: user 1 to 1 hold: node 1 would send to itself\n")
    × (told Settings 3 2 [] F.NoUser ≡ ascii "line 3: no user 0 line\n")
unfolding fault_words shown_byte shown hint field_of setting_words question_words field_words cause_words fault_line decimal name_of digit_of digits_of token_of tokens_of number_in address_in address_or_none option_in last_of repeat_of ending_of request_of node_of respond_of change_of action_of nodes_of actions_of user_of report_in depth_in find_of named_of said_by line_of is_wrong ends_with fatal_at first_in word_in statement_in refusal_of named_at place_in_line place_at blame_in blame_of
of_settings = (refl, refl, refl, refl, refl, refl, refl, refl, refl, refl, refl, refl, refl, refl)

-- the same of questions
of_questions :
    (told Question 9 3 (ascii "find miss 0 within 7") (F.Refused 14) ≡ ascii "line 9: refused 14: find miss 0 within 7: a route has at most 6 actions, on a bus of at most 8 nodes\n")
    × (told Question 5 2 (ascii "clock 1") (F.Refused 7) ≡ ascii "line 5: refused 7: clock 1: not open when its turn comes\n")
    × (told Question 6 2 (ascii "find won 2 within 6 # 7") (F.Refused 4) ≡ ascii "line 6: refused 4: find won 2 within 6: no node 2, nodes are 0 to 1\n")
    × (told Question 3 2 (ascii "find -") F.UnknownWord ≡ ascii "line 3: unknown word: \"-\"\n")
    × (told Question 3 2 (ascii "find 1 0") F.UnknownWord ≡ ascii "line 3: unknown word: \"1\"\n")
    × (told Question 3 2 (ascii "find won 0 6") F.UnknownWord ≡ ascii "line 3: unknown word: \"6\"\n")
    × (told Question 3 2 (ascii "find # won") F.MissingField ≡ ascii "line 3: missing field: the report of find\n")
    × (told Question 3 2 (ascii "find won") F.MissingField ≡ ascii "line 3: missing field: the node of find\n")
    × (told Question 3 2 (ascii "find won 0") F.MissingField ≡ ascii "line 3: missing field: the depth of find\n")
    × (told Question 3 2 (ascii "find won 0 within") F.MissingField ≡ ascii "line 3: missing field: the depth of find\n")
    × (told Question 3 2 (ascii "find won within 6") F.NotNumber ≡ ascii "line 3: not a number: \"within\", the node of find\n")
    × (told Question 3 2 (ascii "find won 0 within 256") F.TooLarge ≡ ascii "line 3: number too large: \"256\", the depth of find, at most 255\n")
    × (told Question 3 2 (ascii "find won 0 within 6 * 2") F.ExtraField ≡ ascii "line 3: extra field: \"*\"\n")
    × (told Question 3 2 (ascii "pass * x") F.NotNumber ≡ ascii "line 3: not a number: \"x\", the count after *\n")
    × (told Question 2 2 [] F.NoQuestion ≡ ascii "line 2: no find line\n")
    × (told Question 4 2 (ascii "pass") F.AfterQuestion ≡ ascii "line 4: a line after find\n")
unfolding fault_words shown_byte shown hint field_of setting_words question_words field_words cause_words fault_line decimal name_of digit_of digits_of token_of tokens_of number_in address_in address_or_none option_in last_of repeat_of ending_of request_of node_of respond_of change_of action_of nodes_of actions_of user_of report_in depth_in find_of named_of said_by line_of is_wrong ends_with fatal_at first_in word_in statement_in refusal_of named_at place_in_line place_at blame_in blame_of
of_questions = (refl, refl, refl, refl, refl, refl, refl, refl, refl, refl, refl, refl, refl, refl, refl, refl)
