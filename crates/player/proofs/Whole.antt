-- The player, fed the pieces of any file one after the other and then told that the file ends, prints the text of the file. Assumes nothing.
use mathlib.Core.Path.{◌≡◌, refl, ap}
use mathlib.Core.Bool.{true}
use mathlib.Core.List.{List}
use Prim.Native.Nat.{ℕ}
use borrow.Author.Tests.{ltb-true}
use lib.Dec.{ltb}
use Rattle.charts.specs.State.{State, fresh}
use Rattle.charts.specs.Valid.{is_size, valid}
use Rattle.charts.proofs.Steps.{step_n}
use Rattle.charts.proofs.Tools.{and-true}
use Rattle.charts.proofs.Validity.{fresh_valid, begin_fresh, valid_kept}
use Rattle.bus.proofs.Advances.{advance_is_step}
use Rattle.files.specs.Pieces.{pieces}
use Rattle.walk.specs.Feeding.{fed_text}
use Rattle.walk.proofs.Whole as W
use Rattle.player.specs.Printed.{turn, playing, printed}
use Rattle.player.specs.Feeding.{advancing, started}

abbrev Valid : State → Type 0
Valid s = valid s ≡ true

fresh_good : (n : ℕ) → is_size n ≡ true → Valid (fresh n)
fresh_good n z =
    let size = and-true (ltb 1 n) (ltb n 64) z in
    fresh_valid n (ltb-true 1 n size.0) (ltb-true n 64 size.1)

-- the functions of crate `bus` do what the charts do: every state that a file leads to is valid
does : W.Does Valid playing advancing
does = record {
  same_heading = λ first number count n b. refl;
  same_done = λ i. refl;
  same_opening = λ n z. ap (λ r. r.state) (begin_fresh n z);
  opening_good = fresh_good;
  opening_nodes = λ n z. refl;
  same_turn = λ i a s v. ap (turn i a.kind) (advance_is_step s a v);
  turn_good = λ i a s v. valid_kept s a v;
  turn_nodes = λ i a s v. step_n s a;
}

-- the theorem
pub whole : (bytes : List ℕ) → fed_text advancing (pieces bytes) started ≡ printed bytes
whole bytes = W.whole does (fresh 0) bytes
