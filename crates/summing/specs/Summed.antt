-- The text that `sums` prints of a run file: the file walked, each block headed by its line of sums, and its actions looked at.
use Rattle.std.specs.Prelude.{List, [], ◌++◌, ℕ, zero, suc, length, take, drop}
use Rattle.charts.specs.Records.{read}
use Rattle.charts.specs.declared.Action.{Action}
use Rattle.charts.specs.Numbers.{err_number}
use Rattle.files.specs.File.{blocks_for}
use Rattle.runfile.specs.Sums.{sums_of}
use Rattle.runfile.specs.Write.{block_of}
use Rattle.transcript.specs.Lines.{done_line}
use Rattle.figures.specs.Figures.{figures_line}
use Rattle.walk.specs.Walk.{Turn, Walker, walked}

-- an action looked at by 2 to 6 (13 and 15 after 5), without a line; the state of the walk is block 0's n
abbrev pub turn : Action → ℕ → Turn ℕ
turn a n = record { number = err_number (read n a); line = []; state = n }

-- "for each block, its number and the sums of its actions, one line a block, single spaces", as many as its count, before its actions; "ended by the player's `done` or `refused` line"
abbrev pub tracing : Walker ℕ
tracing = record {
  heading = λ first number count n b. figures_line number (take count (sums_of b));
  opening = λ n. n;
  nodes = λ n. n;
  turn = λ i a n. turn a n;
  done = done_line;
}

-- the text of a file, whatever its bytes are
abbrev pub summed : List ℕ → List ℕ
summed bytes = walked tracing bytes

-- the text of a list of actions for n nodes that the writer takes: for each block of the list's file the sums that the writer gives beside it, and `done`;
-- it is that of every file of the list (proofs/Whole.antt)
abbrev pub traces_from : ℕ → ℕ → ℕ → List Action → List ℕ
traces_from zero i n l = []
traces_from (suc k) i n l = figures_line i (take (length (take 31 l)) (sums_of (block_of i n (take 31 l)))) ++ traces_from k (suc i) n (drop 31 l)

abbrev pub list_summed : ℕ → List Action → List ℕ
list_summed n l = traces_from (blocks_for (length l)) 0 n l ++ done_line (length l)
