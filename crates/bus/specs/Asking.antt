-- How many nodes are Asked, counted once and kept from action to action. (proofs/Counts.antt: where the number was right it stays right.)
use Rattle.std.specs.Prelude.{cond, List, ℕ, ◌+◌, ◌-◌, eqb, ltb, get_or}
use Rattle.charts.specs.declared.Node.{Node}
use Rattle.charts.specs.Modes.{is_asked}
use Rattle.charts.specs.State.{count}
use Rattle.charts.specs.View.{fresh_node}

-- the nodes below n that have a place in the arrays
abbrev pub places : ℕ → ℕ
places n = cond (ltb n 63) n 63

-- how many of the nodes below n are Asked
abbrev pub askers_in : List Node → ℕ → ℕ
askers_in l n = count (λ k. is_asked (get_or l k fresh_node).mode) n

-- of k nodes that were Asked, how many are after an accepted action of a kind: kind 11 makes a node Asked, kind 12 ends it; at most 63 are
abbrev pub more : ℕ → ℕ
more k = cond (ltb k 63) (k + 1) k

abbrev pub asked_after : ℕ → ℕ → ℕ
asked_after k kind = cond (eqb kind 11) (more k) (cond (eqb kind 12) (k - 1) k)
