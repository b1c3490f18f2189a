-- The classes in which a node meets a signal, in request 2's order: Start, End, Prefix, Gap, Dhead, Dest own, Dest 63, Dest other, and Header, Data, Ack each good and bad.
-- "The first four are line signals."
use Rattle.std.specs.Prelude.{Bool, cond, not, ◌&&◌, ℕ, eqb, ltb, leb}
use Rattle.charts.specs.declared.Head.{Head}
use Rattle.charts.specs.declared.Signal.{Signal}
use Rattle.charts.specs.declared.Signal.TheVariants.{Start, End, Prefix, Gap, Dhead, Dest, Header, Data, Ack}

abbrev pub start : ℕ
start = 0

abbrev pub end : ℕ
end = 1

abbrev pub prefix : ℕ
prefix = 2

abbrev pub gap : ℕ
gap = 3

abbrev pub dhead : ℕ
dhead = 4

abbrev pub dest_own : ℕ
dest_own = 5

abbrev pub dest_all : ℕ
dest_all = 6

abbrev pub dest_other : ℕ
dest_other = 7

abbrev pub header_good : ℕ
header_good = 8

abbrev pub header_bad : ℕ
header_bad = 9

abbrev pub data_good : ℕ
data_good = 10

abbrev pub data_bad : ℕ
data_bad = 11

abbrev pub ack_good : ℕ
ack_good = 12

abbrev pub ack_bad : ℕ
ack_bad = 13

-- "Address 63 means all nodes"
abbrev pub everybody : ℕ
everybody = 63

-- the class of a signal as node `me` meets it
abbrev pub class_of : ℕ → Signal → ℕ
class_of me Start = start
class_of me End = end
class_of me Prefix = prefix
class_of me Gap = gap
class_of me Dhead = dhead
class_of me (Dest a) = cond (eqb a me) dest_own (cond (eqb a everybody) dest_all dest_other)
class_of me (Header h good) = cond good header_good header_bad
class_of me (Data d good) = cond good data_good data_bad
class_of me (Ack a good) = cond good ack_good ack_bad

-- Start, End or Prefix: a line signal other than Gap
abbrev pub is_line : ℕ → Bool
is_line c = ltb c gap

-- End or Prefix
abbrev pub closes : ℕ → Bool
closes c = not (ltb c end) && ltb c gap

-- the place of a signal in document 01's list of nine
abbrev pub kind_of : Signal → ℕ
kind_of Start = 0
kind_of End = 1
kind_of Prefix = 2
kind_of Gap = 3
kind_of Dhead = 4
kind_of (Dest a) = 5
kind_of (Header h good) = 6
kind_of (Data d good) = 7
kind_of (Ack a good) = 8

abbrev pub is_start : Signal → Bool
is_start s = eqb (kind_of s) 0

abbrev pub is_end : Signal → Bool
is_end s = eqb (kind_of s) 1

abbrev pub is_prefix : Signal → Bool
is_prefix s = eqb (kind_of s) 2

-- Header, Data or Ack: a signal that bears a check
abbrev pub is_checked : Signal → Bool
is_checked s = leb 6 (kind_of s)

-- what a Header carries, request 3's label "inside" it (no other signal is asked for it)
abbrev pub no_head : Head
no_head = record { header = 0; label = 0 }

abbrev pub head_of : Signal → Head
head_of Start = no_head
head_of End = no_head
head_of Prefix = no_head
head_of Gap = no_head
head_of Dhead = no_head
head_of (Dest a) = no_head
head_of (Header h good) = h
head_of (Data d good) = no_head
head_of (Ack a good) = no_head

-- what Data carries
abbrev pub datum_of : Signal → ℕ
datum_of Start = 0
datum_of End = 0
datum_of Prefix = 0
datum_of Gap = 0
datum_of Dhead = 0
datum_of (Dest a) = 0
datum_of (Header h good) = 0
datum_of (Data d good) = d
datum_of (Ack a good) = 0

-- what an Ack carries
abbrev pub ack_of : Signal → ℕ
ack_of Start = 0
ack_of End = 0
ack_of Prefix = 0
ack_of Gap = 0
ack_of Dhead = 0
ack_of (Dest a) = 0
ack_of (Header h good) = 0
ack_of (Data d good) = 0
ack_of (Ack a good) = a
