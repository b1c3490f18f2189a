-- "The twelve numbers" of document 01 and those that requests added: each stands here once, with its condition, and everything else cites it by name.
use Rattle.std.specs.Prelude.{ℕ, Option, Some, None, Result, Ok, Err}
use Rattle.charts.specs.declared.Refusal.{Refusal}
use Rattle.charts.specs.declared.Refusal.TheVariants.{WrongSize, WrongKind, StrayField, WrongNode, WrongAddress, WrongAnswer, NotOpen, WrongLength, WrongCheck, WrongOrder, WrongCount, NotValid, WrongLabel, TooDeep, ToItself}

-- no refusal
abbrev pub accepted : ℕ
accepted = 0

-- 1: n not 2–63
abbrev pub wrong_size : ℕ
wrong_size = 1

-- 2: kind not 1–12
abbrev pub wrong_kind : ℕ
wrong_kind = 2

-- 3: a field that the kind doesn't name, or one of the record's two zeros, is not 0
abbrev pub stray_field : ℕ
stray_field = 3

-- 4: node not below n
abbrev pub wrong_node : ℕ
wrong_node = 4

-- 5: address neither below n nor 63
abbrev pub wrong_address : ℕ
wrong_address = 5

-- 6: acknowledgement over 15 or hold over 1
abbrev pub wrong_answer : ℕ
wrong_answer = 6

-- 7: action not open
abbrev pub not_open : ℕ
not_open = 7

-- 8: block or buffer not 512 bytes, or an empty file
abbrev pub wrong_length : ℕ
wrong_length = 8

-- 9: check differs
abbrev pub wrong_check : ℕ
wrong_check = 9

-- 10: block number not the next (first: 0; none follows 4,294,967,295), n not block 0's, or the block before not full
abbrev pub wrong_order : ℕ
wrong_order = 10

-- 11: count 0 or over 31, or a byte 6–13 or past the last action not 0
abbrev pub wrong_count : ℕ
wrong_count = 11

-- 12: a state handed in that is not valid
abbrev pub not_valid : ℕ
not_valid = 12

-- 13 (request 3): label over 63
abbrev pub wrong_label : ℕ
wrong_label = 13

-- 14 (request 9): depth over 6 or n over 8
abbrev pub too_deep : ℕ
too_deep = 14

-- 15 (request 10): request to the node itself
abbrev pub to_itself : ℕ
to_itself = 15

-- the number of each refusal
abbrev pub number_of : Refusal → ℕ
number_of WrongSize = wrong_size
number_of WrongKind = wrong_kind
number_of StrayField = stray_field
number_of WrongNode = wrong_node
number_of WrongAddress = wrong_address
number_of WrongAnswer = wrong_answer
number_of NotOpen = not_open
number_of WrongLength = wrong_length
number_of WrongCheck = wrong_check
number_of WrongOrder = wrong_order
number_of WrongCount = wrong_count
number_of NotValid = not_valid
number_of WrongLabel = wrong_label
number_of TooDeep = too_deep
number_of ToItself = to_itself

-- the number of what is refused, if it is refused; of what is taken it is `accepted`
abbrev pub refusal_number : Option Refusal → ℕ
refusal_number None = accepted
refusal_number (Some k) = number_of k

abbrev pub err_number : {T : Type 0} → Result T Refusal → ℕ
err_number (Ok x) = accepted
err_number (Err k) = number_of k
