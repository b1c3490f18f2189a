-- The bus events that are tried, by number: those that can be open in a phase, in the order of their records' bytes. (proofs/Covers.antt: every record of kinds 4 to 9 that is open in a state is one of them; proofs/Order.antt: they stand in that order.)
use Rattle.std.specs.Prelude.{cond, ℕ, ◌+◌, ◌-◌, eqb, ltb}
use Rattle.charts.specs.declared.Signal.{Signal}
use Rattle.charts.specs.declared.Signal.TheVariants.{Start, End, Prefix, Gap, Dhead, Dest, Header, Data, Ack}
use Rattle.charts.specs.declared.Phase.{Phase}
use Rattle.charts.specs.declared.Phase.TheVariants.{Idle, Busy, Delivering, Granting, Gapping}
use Rattle.charts.specs.declared.Action.{Action}
use Rattle.charts.specs.Signals.{everybody, is_checked}
use Rattle.charts.specs.Records.{named}

-- how many ways a signal has to its next receiver: it is passed; a Dest may be changed to each of the n + 1 addresses; a Header, Data or Ack may be lost or changed
abbrev pub ways : ℕ → Signal → ℕ
ways n Start = 1
ways n End = 1
ways n Prefix = 1
ways n Gap = 1
ways n Dhead = 1
ways n (Dest a) = n + 2
ways n (Header h good) = 3
ways n (Data d good) = 3
ways n (Ack a good) = 3

-- how many bus events can be open: on a Busy bus the clocks, while a signal is delivered its ways
abbrev pub choices : ℕ → Phase → ℕ
choices n Idle = 0
choices n Busy = n
choices n (Delivering i g j) = ways n g
choices n Granting = 1
choices n (Gapping j) = 1

-- the k-th change of a Dest: to the nodes' addresses in their order, and then to all nodes
abbrev pub change_of : ℕ → ℕ → Action
change_of n k = named 7 0 (cond (ltb k n) k everybody)

-- the k-th way of a signal: pass; then the changes of a Dest, or lose and change
unfoldable pub way_of : ℕ → Signal → ℕ → Action
way_of n g k =
    cond (eqb k 0) (named 5 0 0)
    (cond (is_checked g) (cond (eqb k 1) (named 6 0 0) (named 7 0 0))
    (change_of n (k - 1)))

-- the k-th bus event
unfoldable pub choice : ℕ → Phase → ℕ → Action
choice n Idle k = named 9 0 0
choice n Busy k = named 4 k 0
choice n (Delivering i g j) k = way_of n g k
choice n Granting k = named 8 0 0
choice n (Gapping j) k = named 9 0 0
