-- Beside demand 3: the bus's own mark, and the replies that start at once (request 1). The claim, OneReply, is at the end. No proof is in this file.
use Rattle.std.specs.Prelude.{◌≡◌, ◌≢◌, Bool, true, false, ◌&&◌, List, [], ◌∷◌, ℕ, ◌<◌, ◌≤◌, ◌+◌}
use Rattle.charts.specs.declared.Mode.TheVariants.{Acking}
use Rattle.charts.specs.declared.Move.{Move}
use Rattle.charts.specs.declared.Move.TheVariants.{Request, Arbitrate, Respond, Clock, Carry, Grant, GapNext, Reset, Ask, Decide}
use Rattle.charts.specs.declared.Action.{Action}
use Rattle.charts.specs.Modes.{is_holding}
use Rattle.charts.specs.State.{State, is_idle}
use Rattle.charts.specs.Records.{move_of}
use Rattle.charts.specs.Step.{step}
use Rattle.charts.specs.Demand.{one, is_open, meets_idle, final}

-- a reply: a request "in Holding"
abbrev pub is_reply : State → Move → Bool
is_reply s (Request i p) = is_holding (s.cell i).mode
is_reply s (Arbitrate i) = false
is_reply s (Respond i a hold) = false
is_reply s (Clock i) = false
is_reply s (Carry w) = false
is_reply s Grant = false
is_reply s GapNext = false
is_reply s Reset = false
is_reply s (Ask i) = false
is_reply s (Decide i) = false

-- how many replies are accepted in a continuation
abbrev pub replies_in : State → List Action → ℕ
replies_in s [] = 0
replies_in s (a ∷ l) = one (is_open s a && is_reply s (move_of a)) + replies_in (step s a).state l

-- of a list of action records, played from the fresh bus of n nodes
pub record OneReply (n : ℕ) (l : List Action) : Type 0 where
  -- "cleared when the bus becomes Idle": an Idle bus has the mark clear
  pub unmarked : is_idle (final n l).phase ≡ true → (final n l).concatenated ≡ false
  -- "While it is set, respond with hold 1 is not open": nobody who acknowledges then will come to Holding
  pub last : (final n l).concatenated ≡ true → (i : ℕ) → i < n → (k a : ℕ) → ((final n l).cell i).mode ≢ Acking k a true
  -- so in a continuation that does not meet Idle, as between a win and the next Idle, at most one reply starts
  pub one_reply : (c : List Action) → meets_idle (final n l) c ≡ false → replies_in (final n l) c ≤ 1
