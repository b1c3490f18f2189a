-- Demand 3, whole: the invariants hold of the fresh bus with empty books, a step keeps them, and so they hold after every list; the claim is read off them.
use mathlib.Core.Path.{◌≡◌, sym, ap, subst, ◌∙◌}
use mathlib.Core.Bool.{true, true≢false}
use mathlib.Core.Logic.{inl, inr, ⊎_elim}
use mathlib.Core.List.{List, [], ◌∷◌}
use Prim.Native.Nat.{ℕ, ◌<◌, ◌≤◌}
use native.Mathlib.Omega.{arith}
use Rattle.charts.specs.declared.Packet.{Packet}
use Rattle.charts.specs.declared.Action.{Action}
use Rattle.charts.specs.Modes as P
use Rattle.charts.specs.Modes.{place_of}
use Rattle.charts.specs.Places.{hold_in}
use Rattle.charts.specs.State.{State, is_idle, nothing, fresh}
use Rattle.charts.specs.Records.{move_of}
use Rattle.charts.specs.Step.{Result, step, after, Event, event_of, events}
use Rattle.charts.specs.Demand.{Book, new_book, enters, book_of, final, history, book, bound, Demand3}
use Rattle.charts.specs.Stretch.{EveryConfirmation}
use Rattle.charts.specs.Replies.{OneReply}
use Rattle.charts.specs.Asking.{AskedFull}
use Rattle.charts.specs.Settings.{BusyHeld}
use Rattle.charts.proofs.Places.{mode_is, resting}
use Rattle.charts.proofs.Tools.{mem, mem_two}
use Rattle.charts.proofs.Ways.{is_idle_lem, is_busy_lem}
use Rattle.charts.proofs.Steps.{Stepped, refused, acts, stepped, run_n}
use Rattle.charts.proofs.Stages.{IdleAt, Stage}
use Rattle.charts.proofs.Reach.{Reach, start}
use Rattle.charts.proofs.Progress.{effect_reach}
use Rattle.charts.proofs.Ends.{meets}
use Rattle.charts.proofs.Replies.{at_most_one}
use Rattle.charts.proofs.Open.{some_open, busy_held}
use Rattle.charts.proofs.Validity.{run_valid}
use Rattle.charts.proofs.Books.{Kept, books_kept, fresh_kept, none_runs, resting_ours}
use Rattle.charts.proofs.Counted.{counted, once}
use Rattle.charts.proofs.Payload.{Carry, fresh_carry, carries, one_responder}
use Rattle.charts.proofs.Answers.{Heed, fresh_heed, heeds}
use Rattle.charts.proofs.Stretches.{every_confirmation}

-- what holds of a state that a list of actions reaches, with the books of its nodes
record Whole (s : State) (bk : ℕ → Book) : Type 0 where
  reached : Reach s
  packet : Packet
  carried : Carry packet s
  kept : (k : ℕ) → Kept (s.cell k) (bk k)
  heeded : Heed s bk

step_whole : (s : State) (bk : ℕ → Book) (a : Action) → Whole s bk → Whole (step s a).state (λ k. enters k (event_of a (step s a)) (bk k))
step_whole s bk a w = go (step s a) (event_of a (step s a)) (stepped s a) (λ k. books_kept k s a (bk k) (w.kept k))
  where
    go : (x : Result) (e : Event) → Stepped s a x e → ((k : ℕ) → Kept (x.state.cell k) (enters k e (bk k))) → Whole x.state (λ k. enters k e (bk k))
    go x e (refused q) b = w
    go x e (acts {i = i} {r = r} {p = p} {c = c} {x = y} v k l m z) b =
        let u = carries w.packet s w.carried w.reached i l z in
        record { reached = (effect_reach s w.reached (move_of a) i r p c y l m z).0; packet = u.packet; carried = u.carry; kept = b; heeded = heeds s bk w.heeded w.packet w.carried w.kept w.reached i l z }

run_whole : (s : State) (bk : ℕ → Book) (l : List Action) → Whole s bk → Whole (after s l) (λ k. book_of k (events s l) (bk k))
run_whole s bk [] w = w
run_whole s bk (a ∷ l) w = run_whole (step s a).state (λ k. enters k (event_of a (step s a)) (bk k)) l (step_whole s bk a w)

module _ (n : ℕ) (two : 2 ≤ n) (small : n ≤ 63) (l : List Action) where
  whole : Whole (final n l) (book n l)
  whole = run_whole (fresh n) (λ k. new_book) l (record { reached = start n two; packet = nothing; carried = fresh_carry nothing n; kept = fresh_kept n; heeded = fresh_heed n })

  same_n : (final n l).n ≡ n
  same_n = run_n (fresh n) l

  in_n : (i : ℕ) → i < n → i < (final n l).n
  in_n i h = subst (λ m. i < m) (sym same_n) h

  idle : is_idle (final n l).phase ≡ true → IdleAt (final n l).concatenated (final n l).n (final n l).cell
  idle e = subst (λ p. Stage (final n l).concatenated p (final n l).n (final n l).cell) (is_idle_lem (final n l).phase e) whole.reached.stage

  at_rest : is_idle (final n l).phase ≡ true → (i : ℕ) → i < n → mem (place_of ((final n l).cell i).mode) resting ≡ true
  at_rest e i h = (idle e).rests i (in_n i h)

  pub demand_3 : Demand3 n l
  demand_3 = record {
    right = λ i h. (whole.kept i).right;
    counted = λ i h. counted i (history n l) (whole.kept i).right;
    once = λ i h. once i (history n l) (whole.kept i).right;
    waits = λ i h. (whole.kept i).waits;
    honest = λ i h. whole.heeded.honest i (in_n i h);
    opens = some_open (final n l) (run_valid n two (omega arith) l) whole.reached (one_responder whole.packet (final n l) whole.carried);
    ends = λ c f e. meets (final n l) whole.reached c f (e ∙ ap (λ n. bound n) (sym same_n));
    rests = λ e i h. ⊎_elim (λ q. inl (mode_is ((final n l).cell i).mode P.rest q)) (λ q. inr (mode_is ((final n l).cell i).mode P.asked q)) (mem_two P.rest P.asked (place_of ((final n l).cell i).mode) (at_rest e i h));
    settled = λ e i h. none_runs _ _ (book n l i).running (whole.kept i).runs (resting_ours ((final n l).cell i).mode (at_rest e i h));
  }

  -- the claim about confirmations once more, of places in the list of events alone
  pub every_confirmation_of : EveryConfirmation n l
  every_confirmation_of = every_confirmation n l demand_3.right demand_3.honest

  -- beside it: the bus's own mark, and replies
  pub one_reply_of : OneReply n l
  one_reply_of = record {
    unmarked = λ e. (idle e).unmarked;
    last = λ e i h k a q. true≢false (sym (ap hold_in q) ∙ whole.reached.last e i (in_n i h));
    one_reply = at_most_one (final n l) whole.reached;
  }

  -- and nodes that are Asked
  pub asked_full_of : AskedFull n l
  asked_full_of = whole.reached.ready

  -- and who holds a Busy bus
  pub busy_held_of : BusyHeld n l
  busy_held_of e = busy_held (final n l) (run_valid n two (omega arith) l) whole.reached (one_responder whole.packet (final n l) whole.carried)
      (subst (λ p. Stage (final n l).concatenated p (final n l).n (final n l).cell) (is_busy_lem (final n l).phase e) whole.reached.stage)
