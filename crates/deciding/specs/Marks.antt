-- Marks cleared at every node of the bus.
use Rattle.std.specs.Prelude.{Bool, true, false, cond, ◌&&◌, not, ℕ, ltb, Option, Some, None}
use Rattle.charts.specs.State.{some, lowest}
use Rattle.charts.specs.declared.Marking.{Marking}
use Rattle.charts.specs.declared.Marking.TheVariants as M

-- the marks f, with those of the nodes below n cleared if it is asked: "Records and marks of nodes from n on are neither read nor changed"
abbrev pub unmarked : Bool → ℕ → (ℕ → Bool) → ℕ → Bool
unmarked true n f k = f k && not (ltb k n)
unmarked false n f k = f k

-- the lowest of the n numbers below at which f holds, if there is one
abbrev pub first_marked : (ℕ → Bool) → ℕ → Option ℕ
first_marked f n = cond (some f n) (Some (lowest f n 0)) None

-- which marks a plan clears
abbrev pub clears_misled : Marking → Bool
clears_misled M.Nothing = false
clears_misled M.Misled = true
clears_misled M.Won = false
clears_misled (M.Concatenated b) = false

abbrev pub clears_won : Marking → Bool
clears_won M.Nothing = false
clears_won M.Misled = false
clears_won M.Won = true
clears_won (M.Concatenated b) = false
