-- The first words of the reports by number, in the order of the type: those that tell come last. (`-` is the word of no report.)
use Rattle.std.specs.Prelude.{ℕ}
use Rattle.charts.specs.declared.Report.{Report}
use Rattle.charts.specs.declared.Report.TheVariants.{Silent, Won, Lost, Sent, Acked, Miss, Drop, Good, Dcrc, Broad}

abbrev pub silent : ℕ
silent = 0

abbrev pub won : ℕ
won = 1

abbrev pub lost : ℕ
lost = 2

abbrev pub sent : ℕ
sent = 3

abbrev pub acked : ℕ
acked = 4

abbrev pub miss : ℕ
miss = 5

abbrev pub drop : ℕ
drop = 6

abbrev pub good : ℕ
good = 7

abbrev pub dcrc : ℕ
dcrc = 8

abbrev pub broad : ℕ
broad = 9

abbrev pub word_of : Report → ℕ
word_of Silent = silent
word_of (Won i) = won
word_of (Lost i) = lost
word_of (Sent i x) = sent
word_of (Acked i a x) = acked
word_of (Miss i x) = miss
word_of (Drop i m) = drop
word_of (Good i h d) = good
word_of (Dcrc i h) = dcrc
word_of (Broad i h d) = broad
