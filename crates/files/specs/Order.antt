-- How far a file has been read, and what 10 then asks of the next block.
use Rattle.std.specs.Prelude.{Bool, true, false, cond, ◌&&◌, not, List, ℕ, ◌+◌, ◌*◌, eqb, ltb, Ok, Err}
use Rattle.charts.specs.declared.Refusal.TheVariants.{WrongOrder, WrongCount}
use Rattle.files.specs.declared.order.Stage.{Stage}
use Rattle.files.specs.declared.order.Stage.TheVariants.{Unopened, After, Ended}
use Rattle.runfile.specs.Block.{Head, head_of, count_fits}

abbrev pub is_ended : Stage → Bool
is_ended Unopened = false
is_ended (After i c) = false
is_ended Ended = true

-- how many actions were accepted: every block before the last one is full
abbrev pub accepted_by : Stage → ℕ
accepted_by Unopened = 0
accepted_by (After i c) = 31 * i + c
accepted_by Ended = 0

-- whether 10 lets a block with this number and n be the next one, m being block 0's n
unfoldable pub is_next : Stage → ℕ → ℕ → ℕ → Bool
is_next Unopened m number n = eqb number 0
is_next (After i c) m number n = ltb i 4294967295 && (eqb number (i + 1) && (eqb n m && eqb c 31))
is_next Ended m number n = false

-- the piece looked at by 8, 9, 1, 10, 11
abbrev pub checked : Stage → ℕ → List ℕ → Head → Head
checked g m s (Err k) = Err k
checked g m s (Ok h) =
    cond (not (is_next g m h.number h.n)) (Err WrongOrder)
    (cond (not (count_fits s)) (Err WrongCount)
    (Ok h))

unfoldable pub look_of : Stage → ℕ → List ℕ → Head
look_of g m s = checked g m s (head_of s)

abbrev pub stage_after : Bool → ℕ → ℕ → Stage
stage_after true number count = Ended
stage_after false number count = After number count
