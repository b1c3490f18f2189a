-- The tally is no longer than the room that it finds. Assumes nothing.
use Prim.Native.Nat.{ℕ, ◌+◌, ◌<◌, ◌≤◌}
use mathlib.Core.List.{List, [], ◌++◌}
use native.Mathlib.Omega.{arith}
use lib.ListN.{length, length-append}
use Rattle.charts.specs.declared.Tally.{Tally}
use Rattle.transcript.specs.Text.{ascii, decimal}
use Rattle.transcript.proofs.Decimals.{decimal_short}
use Rattle.transcript.proofs.Lengths.{length_last, length_more}
use Rattle.tallying.specs.Tallying.{count_line, tally_text}

-- a word of at most 8 bytes and a number of two bytes, each with a byte after it
count_short : (word : List ℕ) (x : ℕ) → length word ≤ 8 → x < 65536 → length (count_line word x) ≤ 15
count_short word x h g = let a = length_more word (decimal x) [] in let b = length_last (decimal x) in let c = decimal_short 4 x (omega arith) in omega arith

-- a count's line, and the lines after it
then_short : (word : List ℕ) (x : ℕ) (rest : List ℕ) (k : ℕ) → length word ≤ 8 → x < 65536 → length rest ≤ k → length (count_line word x ++ rest) ≤ 15 + k
then_short word x rest k h g f = let a = count_short word x h g in let b = length-append (count_line word x) rest in omega arith

-- a tally's numbers fit their types
pub record Small (t : Tally) : Type 0 where
  pub requests : t.requests < 65536
  pub wins : t.wins < 65536
  pub sent : t.sent < 65536
  pub acks : t.acks < 65536
  pub misses : t.misses < 65536
  pub drops : t.drops < 65536

pub tally_short : (t : Tally) → Small t → length (tally_text t) ≤ 240
unfolding tally_text
tally_short t s =
    let all : length (tally_text t) ≤ 90 =
    then_short (ascii "requests") t.requests _ 75 (omega arith) s.requests
    (then_short (ascii "wins") t.wins _ 60 (omega arith) s.wins
    (then_short (ascii "sent") t.sent _ 45 (omega arith) s.sent
    (then_short (ascii "ack") t.acks _ 30 (omega arith) s.acks
    (then_short (ascii "miss") t.misses _ 15 (omega arith) s.misses
    (count_short (ascii "drops") t.drops (omega arith) s.drops))))) in
    omega arith
