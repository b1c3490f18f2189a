-- The state that the charts speak of: the nodes' records and marks as a function from numbers to cells. (View.antt shows the code's record as such a state.)
use Rattle.std.specs.Prelude.{Bool, true, false, cond, ◌&&◌, ◌||◌, not, List, [], ◌∷◌, ℕ, zero, suc, ◌+◌, eqb, ltb, None, Option, Some}
use Rattle.charts.specs.declared.Mode.{Mode}
use Rattle.charts.specs.declared.Mode.TheVariants.{Rest}
use Rattle.charts.specs.declared.Packet.{Packet}
use Rattle.charts.specs.declared.Phase.{Phase}
use Rattle.charts.specs.declared.Phase.TheVariants.{Idle, Busy, Delivering, Granting, Gapping}
use Rattle.charts.specs.declared.Cell.{Cell}
use Rattle.charts.specs.declared.Marking.{Marking}
use Rattle.charts.specs.declared.Marking.TheVariants as M
use Rattle.charts.specs.Signals.{no_head}
use Rattle.charts.specs.Modes.{is_asked}

-- "The bus is Idle, Busy, Delivering (sender, signal, next receiver), Granting or Gapping (next node). It keeps four marks for each node: won, pending, holder, misled."
-- "The bus keeps one more mark" (request 1): an acknowledgement was closed by a Prefix, and what its sender puts out next is concatenated to it
pub record State : Type 0 where
  pub n : ℕ
  pub phase : Phase
  pub concatenated : Bool
  pub cell : ℕ → Cell

-- a cell with another mode, buffer, packet being sent; with another mark
abbrev pub set_mode : Mode → Cell → Cell
set_mode m c = record { mode = m; buffer = c.buffer; sending = c.sending; won = c.won; pending = c.pending; holder = c.holder; misled = c.misled }

abbrev pub set_buffer : Option Packet → Cell → Cell
set_buffer b c = record { mode = c.mode; buffer = b; sending = c.sending; won = c.won; pending = c.pending; holder = c.holder; misled = c.misled }

abbrev pub set_sending : Packet → Cell → Cell
set_sending p c = record { mode = c.mode; buffer = c.buffer; sending = p; won = c.won; pending = c.pending; holder = c.holder; misled = c.misled }

abbrev pub set_won : Bool → Cell → Cell
set_won b c = record { mode = c.mode; buffer = c.buffer; sending = c.sending; won = b; pending = c.pending; holder = c.holder; misled = c.misled }

abbrev pub set_pending : Bool → Cell → Cell
set_pending b c = record { mode = c.mode; buffer = c.buffer; sending = c.sending; won = c.won; pending = b; holder = c.holder; misled = c.misled }

abbrev pub set_holder : Bool → Cell → Cell
set_holder b c = record { mode = c.mode; buffer = c.buffer; sending = c.sending; won = c.won; pending = c.pending; holder = b; misled = c.misled }

abbrev pub set_misled : Bool → Cell → Cell
set_misled b c = record { mode = c.mode; buffer = c.buffer; sending = c.sending; won = c.won; pending = c.pending; holder = c.holder; misled = b }

-- the marks of the nodes
abbrev pub wons : (ℕ → Cell) → ℕ → Bool
wons f k = (f k).won

abbrev pub pendings : (ℕ → Cell) → ℕ → Bool
pendings f k = (f k).pending

abbrev pub holders : (ℕ → Cell) → ℕ → Bool
holders f k = (f k).holder

-- the nodes that are Asked
abbrev pub askers : (ℕ → Cell) → ℕ → Bool
askers f k = is_asked (f k).mode

-- f with another value at i
abbrev pub upd : {A : Type 0} → (ℕ → A) → ℕ → A → ℕ → A
upd f i a k = cond (eqb k i) a (f k)

-- f holds at one of the n numbers below; at one other than i
abbrev pub some : (ℕ → Bool) → ℕ → Bool
some f zero = false
some f (suc n) = f n || some f n

abbrev pub others : (ℕ → Bool) → ℕ → ℕ → Bool
others f i n = some (upd f i false) n

-- at how many of the n numbers below f holds
abbrev pub count : (ℕ → Bool) → ℕ → ℕ
count f zero = 0
count f (suc n) = count f n + cond (f n) 1 0

-- the sum of what f is at the n numbers below
abbrev pub total : (ℕ → ℕ) → ℕ → ℕ
total f zero = 0
total f (suc n) = total f n + f n

-- f holds at each of the n numbers below
abbrev pub every : (ℕ → Bool) → ℕ → Bool
every f zero = true
every f (suc n) = f n && every f n

-- f at n numbers from i on, as a list
abbrev pub list_from : (ℕ → ℕ) → ℕ → ℕ → List ℕ
list_from f zero i = []
list_from f (suc n) i = f i ∷ list_from f n (suc i)

-- each number of a list is below b
abbrev pub all_below : List ℕ → ℕ → Bool
all_below [] b = true
all_below (x ∷ l) b = ltb x b && all_below l b

-- the lowest of the n numbers below at which f holds, else d
abbrev pub lowest : (ℕ → Bool) → ℕ → ℕ → ℕ
lowest f zero d = d
lowest f (suc n) d = lowest f n (cond (f n) n d)

abbrev pub is_idle : Phase → Bool
is_idle Idle = true
is_idle Busy = false
is_idle (Delivering i s j) = false
is_idle Granting = false
is_idle (Gapping j) = false

abbrev pub is_busy : Phase → Bool
is_busy Idle = false
is_busy Busy = true
is_busy (Delivering i s j) = false
is_busy Granting = false
is_busy (Gapping j) = false

abbrev pub is_granting : Phase → Bool
is_granting Idle = false
is_granting Busy = false
is_granting (Delivering i s j) = false
is_granting Granting = true
is_granting (Gapping j) = false

abbrev pub is_empty : Option Packet → Bool
is_empty None = true
is_empty (Some p) = false

-- the state in another phase and with another cell i
abbrev pub moved : State → Phase → ℕ → Cell → State
moved s p i c = record { n = s.n; phase = p; concatenated = s.concatenated; cell = upd s.cell i c }

-- the bus's own mark after an action that changes marks
abbrev pub concatenated_after : Marking → Bool → Bool
concatenated_after M.Nothing b = b
concatenated_after M.Misled b = b
concatenated_after M.Won b = b
concatenated_after (M.Concatenated c) b = c

-- the state with marks of its nodes cleared, or with another mark of its own; "Records and marks of nodes from n on are neither read nor changed"
abbrev pub remarked : Marking → State → State
remarked M.Nothing s = s
remarked M.Misled s = record { n = s.n; phase = s.phase; concatenated = s.concatenated; cell = λ k. set_misled ((s.cell k).misled && not (ltb k s.n)) (s.cell k) }
remarked M.Won s = record { n = s.n; phase = s.phase; concatenated = s.concatenated; cell = λ k. set_won ((s.cell k).won && not (ltb k s.n)) (s.cell k) }
remarked (M.Concatenated b) s = record { n = s.n; phase = s.phase; concatenated = b; cell = s.cell }

-- "A fresh bus is Idle with no marks, every node in Rest, buffers empty"; the packet being sent is "all 0 on a fresh bus"
abbrev pub nothing : Packet
nothing = record { to = 0; head = no_head; datum = 0 }

abbrev pub fresh_cell : Cell
fresh_cell = record { mode = Rest; buffer = None; sending = nothing; won = false; pending = false; holder = false; misled = false }

abbrev pub fresh : ℕ → State
fresh n = record { n = n; phase = Idle; concatenated = false; cell = λ k. fresh_cell }
