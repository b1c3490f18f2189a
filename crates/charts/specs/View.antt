-- The code's bus record, seen as a state of the charts.
use Rattle.std.specs.Prelude.{Bool, false, List, ◌≡◌, ℕ, get_or, length, None, Result, Ok, Err}
use Rattle.charts.specs.declared.Mode.TheVariants.{Rest}
use Rattle.charts.specs.declared.Node.{Node}
use Rattle.charts.specs.declared.Cell.{Cell}
use Rattle.charts.specs.declared.Bus.{Bus}
use Rattle.charts.specs.declared.Played.{Played}
use Rattle.charts.specs.declared.Begun.{Begun}
use Rattle.charts.specs.declared.User.{User}
use Rattle.charts.specs.declared.Refusal.{Refusal}
use Rattle.charts.specs.declared.Report.{Report}
use Rattle.charts.specs.declared.Report.TheVariants.{Silent}
use Rattle.charts.specs.State.{State, nothing}
use Rattle.charts.specs.Numbers.{refusal_number, err_number}
use Rattle.charts.specs.Step as Step

abbrev pub fresh_node : Node
fresh_node = record { mode = Rest; buffer = None; sending = nothing }

-- the mark of node k
abbrev pub mark : List Bool → ℕ → Bool
mark l k = get_or l k false

-- a node's record with its four marks
abbrev pub cell_of : Node → Bool → Bool → Bool → Bool → Cell
cell_of x w p h m = record { mode = x.mode; buffer = x.buffer; sending = x.sending; won = w; pending = p; holder = h; misled = m }

unfoldable pub view : Bus → State
view b = record {
  n = b.n;
  phase = b.phase;
  concatenated = b.concatenated;
  cell = λ k. cell_of (get_or b.nodes k fresh_node) (mark b.won k) (mark b.pending k) (mark b.holder k) (mark b.misled k);
}

-- a record whose arrays have 63 places, as every record of the code has
pub record Sized (b : Bus) : Type 0 where
  pub nodes_size : length b.nodes ≡ 63
  pub won_size : length b.won ≡ 63
  pub pending_size : length b.pending ≡ 63
  pub holder_size : length b.holder ≡ 63
  pub misled_size : length b.misled ≡ 63

-- what a step and a fresh bus return, seen as the charts' results: a refusal by its number, and with no report
abbrev pub told : Result Report Refusal → Report
told (Ok r) = r
told (Err k) = Silent

abbrev pub seen : Played → Step.Result
seen r = record { number = err_number r.report; report = told r.report; state = view r.bus }

abbrev pub seen_begun : Begun → Step.Result
seen_begun r = record { number = refusal_number r.refusal; report = Silent; state = view r.bus }

-- the users of all nodes; past the last place of an array there is one that asks for nothing
abbrev pub no_user : User
no_user = record { spell = 0; address = 0; fillers = 0; hold = false; period = 0 }

unfoldable pub users_of : List User → ℕ → User
users_of u k = get_or u k no_user
