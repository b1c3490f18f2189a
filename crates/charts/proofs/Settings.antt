-- Request 8: the list of a trial, and that each of its turns keeps the settings.
use mathlib.Core.Path.{◌≡◌, refl, sym, ap, ap₂, subst, ◌∙◌}
use mathlib.Core.Logic.{◌≢◌, ⊎_elim}
use mathlib.Core.Bool.{Bool, true, false, cond, ◌&&◌, ◌||◌, not}
use mathlib.Core.List.{List, [], ◌∷◌, ◌++◌}
use Prim.Native.Nat.{ℕ, zero, suc, ◌+◌, ◌-◌, ◌<◌, ◌≤◌}
use native.Mathlib.Omega.{arith}
use lib.Dec.{eqb, leb}
use lib.ListN.{length, take, length-append}
use lib.Seq.{take_all, take-append-le}
use borrow.Author.Tests.{eqb-true, eqb-false, eq-eqb, ne_eqb, leb-true, leb-false, le-leb, lt-leb}
use Rattle.charts.specs.declared.Marking.{Marking}
use Rattle.charts.specs.declared.Marking.TheVariants as M
use Rattle.charts.specs.declared.Report.TheVariants.{Won}
use Rattle.charts.specs.declared.Action.{Action}
use Rattle.charts.specs.declared.User.{User}
use Rattle.charts.specs.declared.Tally.{Tally}
use Rattle.charts.specs.Modes.{is_rest, is_answering, is_holding, is_asked}
use Rattle.charts.specs.Signals.{is_checked}
use Rattle.charts.specs.State.{State, wons, askers, some, remarked, is_idle, is_empty, fresh}
use Rattle.charts.specs.Actions.{may_answer}
use Rattle.charts.specs.Records.{move_of}
use Rattle.charts.specs.Valid.{valid}
use Rattle.charts.specs.Step.{Result, Event, step, after, events, event_of}
use Rattle.charts.specs.Asking.{of_node}
use Rattle.charts.specs.Demand.{is_open, one, final}
use Rattle.charts.specs.Trials.{Load, respond_by, is_due, delivers, holder_of, is_over, asking, bidding, asker, only_waits, least, lefts, waits, waited, is_carried, checked_to, came, rises, heard_after, is_of, fills, filled_after, won_by, left_after, follows, turned, load_after, chosen, trial, counted, tally_on, Sends}
use Rattle.charts.specs.Settings.{HeldIfBusy, Turn, turn_at, turns, report_of, is_past, fillers_of, came_to, KeepsSettings, IsTrial}
use Rattle.charts.proofs.Tools.{never, clash, and-true, both, and_no, and_yes, pick, pick_by, by_test, at_upd, none_of, some-none, lowest_of, lowest_lt}
use Rattle.charts.proofs.Steps.{Stepped, refused, stepped, step_n, run_n}
use Rattle.charts.proofs.Steps as Steps
use Rattle.charts.proofs.Askers.{is_ask}
use Rattle.charts.proofs.Askers as Askers
use Rattle.charts.proofs.Validity.{run_valid}
use Rattle.charts.proofs.Whole.{demand_3, busy_held_of}
use Rattle.charts.proofs.Chosen.{Chosen, carries, grants, gaps, answers, replies, clocks, asks, bids, resets, chosen_by, Ran, respond_open, bid_wins, holder_lt, least_le, is_waiting, waits_none, all-empty, waited_on, chosen_opens}

-- 1. THE LIST: one more action of a list, in the state that it leaves, in its events and in their tally
pub after_more : (s : State) (l : List Action) (a : Action) → after s (l ++ (a ∷ [])) ≡ (step (after s l) a).state
after_more s [] a = refl
after_more s (b ∷ l) a = after_more (step s b).state l a

pub events_more : (s : State) (l : List Action) (a : Action) → events s (l ++ (a ∷ [])) ≡ events s l ++ (event_of a (step (after s l) a) ∷ [])
events_more s [] a = refl
events_more s (b ∷ l) a = ap (λ x. event_of b (step s b) ∷ x) (events_more (step s b).state l a)

pub tally_more : (t : Tally) (l : List Event) (e : Event) → tally_on t (l ++ (e ∷ [])) ≡ counted e (tally_on t l)
tally_more t [] e = refl
tally_more t (f ∷ l) e = tally_more (counted f t) l e

module _ (us : ℕ → User) (n : ℕ) where
  count_is : (k : ℕ) → length (trial us n k) ≡ k
  unfolding trial
  count_is zero = refl
  count_is (suc k) = let e = count_is k in length-append (trial us n k) (chosen us n k ∷ []) ∙ omega arith

  bus_is : (k : ℕ) → (load_after us n k).state ≡ final n (trial us n k)
  unfolding trial load_after turned follows waited
  bus_is zero = refl
  bus_is (suc k) = ap (λ s. (step s (chosen us n k)).state) (bus_is k) ∙ sym (after_more (fresh n) (trial us n k) (chosen us n k))

  longer_is : (k m : ℕ) → take k (trial us n (k + m)) ≡ trial us n k
  unfolding trial
  longer_is k zero = ap (λ j. take k (trial us n j)) (add-zero k) ∙ take_all k (trial us n k) (let e = count_is k in omega arith)
    where
      add-zero : (k : ℕ) → k + 0 ≡ k
      add-zero k = omega arith
  longer_is k (suc m) = ap (λ j. take k (trial us n j)) (add-suc k m) ∙ take-append-le k (trial us n (k + m)) _ (let e = count_is (k + m) in omega arith) ∙ longer_is k m
    where
      add-suc : (k m : ℕ) → k + suc m ≡ suc (k + m)
      add-suc k m = omega arith

  pub is_trial : (k : ℕ) → IsTrial us n k
  is_trial k = record { count = count_is k; bus = bus_is k; longer = longer_is k }

-- 2. THE BUS of a trial is one that a run reaches, and no node is Asked. Only kind 11 makes a node Asked
remarked_mode : (x : Marking) (t : State) (k : ℕ) → is_asked ((remarked x t).cell k).mode ≡ is_asked (t.cell k).mode
remarked_mode M.Nothing t k = refl
remarked_mode M.Misled t k = refl
remarked_mode M.Won t k = refl
remarked_mode (M.Concatenated b) t k = refl

step_unasked : (s : State) (a : Action) → is_ask (move_of a) ≡ false → ((k : ℕ) → k < s.n → is_asked (s.cell k).mode ≡ false) → (k : ℕ) → k < s.n → is_asked ((step s a).state.cell k).mode ≡ false
step_unasked s a q h k l = go (step s a) (event_of a (step s a)) (stepped s a)
  where
    go : (x : Result) (e : Event) → Stepped s a x e → is_asked (x.state.cell k).mode ≡ false
    go x e (refused z) = h k l
    go x e (Steps.acts {i = i} {r = r} {p = p} {c = c} {x = y} v w m f z) = remarked_mode y _ k ∙ at_upd (λ k c. is_asked c.mode ≡ false) s.cell i c k ((Askers.asking s (move_of a) i r p c y m f z).now ∙ q) (h k l)

not_asks : (us : ℕ → User) (l : Load) (a : Action) → Chosen us l a → is_ask (move_of a) ≡ false
unfolding move_of
not_asks us l a (carries {g = g} {j = j} q) = pick (λ k. is_ask (move_of (of_node k 0)) ≡ false) (is_checked g && is_due (us j) (l.kept j)) 6 5 refl refl
not_asks us l a (grants q) = refl
not_asks us l a (gaps q) = refl
not_asks us l a (answers q e f) = refl
not_asks us l a (replies q e) = refl
not_asks us l a (clocks q e f) = refl
not_asks us l a (asks q t) = refl
not_asks us l a (bids q e t) = refl
not_asks us l a (resets q e f) = refl

module _ (us : ℕ → User) (n : ℕ) (two : 2 ≤ n) (small : n ≤ 63) (fine : Sends us n) where
  abbrev load : ℕ → Load
  load k = load_after us n k

  n_is : (k : ℕ) → (load k).state.n ≡ n
  n_is k = ap (λ s. s.n) (bus_is us n k) ∙ run_n (fresh n) (trial us n k)

  in_n : (k i : ℕ) → i < (load k).state.n → i < n
  in_n k i l = subst (λ m. i < m) (n_is k) l

  unasked : (k i : ℕ) → i < (load k).state.n → is_asked ((load k).state.cell i).mode ≡ false
  unfolding load_after turned follows waited
  unasked zero i l = refl
  unasked (suc k) i l = step_unasked (load k).state (chosen us n k) (not_asks us (waited (load k)) _ (chosen_by us (waited (load k)))) (unasked k) i (subst (λ m. i < m) (step_n (load k).state (chosen us n k)) l)

  pub ran : (k : ℕ) → Ran (load k).state
  ran k = record {
    valid_is = ap valid (bus_is us n k) ∙ run_valid n two (omega arith) (trial us n k);
    two = let e = n_is k in omega arith;
    unasked = some-none (askers (load k).state.cell) (load k).state.n (unasked k);
    rests = λ e i l. subst (λ s. is_asked (s.cell i).mode ≡ false → is_rest (s.cell i).mode ≡ true) (sym (bus_is us n k))
        (λ u. ⊎_elim (λ q. ap is_rest q) (λ q. clash _ (ap is_asked q) u) ((demand_3 n two small (trial us n k)).rests (ap (λ s. is_idle s.phase) (sym (bus_is us n k)) ∙ e) i (in_n k i l))) (unasked k i l);
    held = subst HeldIfBusy (sym (bus_is us n k)) (busy_held_of n two small (trial us n k));
  }

-- 3. THE NUMBERS that a trial keeps, from its turns
abbrev left_of : ℕ → ℕ → List Turn → ℕ
left_of spell i [] = 0
left_of spell i (t ∷ l) = left_after (won_by i (report_of t)) spell (left_of spell i l - t.waited)

leb_agree : (a b c d : ℕ) → (a ≤ b → c ≤ d) → (c ≤ d → a ≤ b) → leb a b ≡ leb c d
leb_agree a b c d f g = by_test (leb a b) (λ e. e ∙ sym (le-leb c d (f (leb-true a b e)))) (λ e. e ∙ sym (by_test (leb c d) (λ q. let x : b < a = leb-false a b e in let y = g (leb-true c d q) in absurd (omega arith)) (λ q. q)))

past_is : (spell i w : ℕ) (l : List Turn) → is_past spell i w l ≡ leb (left_of spell i l) w
past_is spell i w [] = sym (le-leb 0 w (omega arith))
past_is spell i w (t ∷ l) = go (won_by i (report_of t)) (past_is spell i (suc (w + t.waited)) l)
  where
    go : (b : Bool) → is_past spell i (suc (w + t.waited)) l ≡ leb (left_of spell i l) (suc (w + t.waited)) → cond b (leb spell w) (is_past spell i (suc (w + t.waited)) l) ≡ leb (left_after b spell (left_of spell i l - t.waited)) w
    go true r = refl
    go false r = r ∙ leb_agree (left_of spell i l) (suc (w + t.waited)) (left_of spell i l - t.waited - 1) w (λ h. omega arith) (λ h. omega arith)

module _ (us : ℕ → User) (n i : ℕ) where
  left_is : (k : ℕ) → left_of (us i).spell i (turns us n k) ≡ ((load_after us n k).kept i).left
  unfolding turns load_after turned follows waited
  left_is zero = refl
  left_is (suc k) = ap (λ x. left_after (won_by i (report_of (turn_at us n k))) (us i).spell (x - waits (load_after us n k))) (left_is k)

  -- a spell is over after w actions where no more than w of it are left
  over_is : (k w : ℕ) → is_past (us i).spell i w (turns us n k) ≡ leb ((load_after us n k).kept i).left w
  over_is k w = past_is (us i).spell i w (turns us n k) ∙ ap (λ x. leb x w) (left_is k)

  filled_is : (k : ℕ) → fillers_of i (turns us n k) ≡ ((load_after us n k).kept i).filled
  unfolding turns load_after turned follows waited
  filled_is zero = refl
  filled_is (suc k) = ap (λ x. filled_after (is_of 3 i (chosen us n k)) (fills i (load_after us n k).state (chosen us n k)) x) (filled_is k)

-- where a Header, Data or Ack comes to node i, it is lost just if it is due
came_due : (us : ℕ → User) (l : Load) (i : ℕ) (a : Action) → Chosen us l a → came i l.state a ≡ true → eqb a.kind 6 ≡ is_due (us i) (l.kept i)
came_due us l i a (carries {i = w} {g = g} {j = j} q) e = go (is_due (us j) (l.kept j)) ∙ ap (λ k. is_due (us k) (l.kept k)) (sym (eqb-true i j y.1))
  where
    y : (is_checked g ≡ true) × (eqb i j ≡ true)
    y = and-true (is_checked g) _ (ap (checked_to i) (sym q) ∙ (and-true (is_carried (delivers g (us j) (l.kept j))) (checked_to i l.state.phase) e).1)

    go : (b : Bool) → eqb (cond (is_checked g && b) 6 5) 6 ≡ b
    go true = ap (λ c. eqb (cond (c && true) 6 5) 6) y.0
    go false = ap (λ c. eqb (cond c 6 5) 6) (and_no (is_checked g))
came_due us l i a (grants q) e = never e
came_due us l i a (gaps q) e = never e
came_due us l i a (answers q f g) e = never e
came_due us l i a (replies q f) e = never e
came_due us l i a (clocks q f g) e = never e
came_due us l i a (asks q t) e = never e
came_due us l i a (bids q f t) e = never e
came_due us l i a (resets q f g) e = never e

-- a node that is clocked in Answering has not made all its fillers
pub fills_short : (us : ℕ → User) (l : Load) (i : ℕ) (a : Action) → Chosen us l a → fills i l.state a ≡ true → (l.kept i).filled ≢ (us i).fillers
fills_short us l i a (carries {g = g} {j = j} q) e = never (sym (pick (λ k. eqb k 4 && eqb i 0 && is_answering (l.state.cell i).mode ≡ false) (is_checked g && is_due (us j) (l.kept j)) 6 5 refl refl) ∙ e)
fills_short us l i a (grants q) e = never e
fills_short us l i a (gaps q) e = never e
fills_short us l i a (answers q f g) e = never e
fills_short us l i a (replies q f) e = never e
fills_short us l i a (clocks q f g) e =
    let y = and-true (eqb i (holder_of l.state)) _ e in
    subst (λ k. is_answering (l.state.cell k).mode ≡ true → (l.kept k).filled ≢ (us k).fillers) (sym (eqb-true i _ y.0)) (λ t z. clash _ (both _ _ t (eq-eqb _ _ z)) f) y.1
fills_short us l i a (asks q t) e = never e
fills_short us l i a (bids q f t) e = never e
fills_short us l i a (resets q f g) e = never e

module _ (us : ℕ → User) (n i : ℕ) where
  -- never more fillers than are set
  pub filled_le : (k : ℕ) → ((load_after us n k).kept i).filled ≤ (us i).fillers
  unfolding load_after turned follows waited
  filled_le zero = omega arith
  filled_le (suc k) = pick (λ x. x ≤ (us i).fillers) (is_of 3 i (chosen us n k)) _ _ (omega arith)
      (pick_by (λ x. x ≤ (us i).fillers) (fills i (load_after us n k).state (chosen us n k)) _ _
      (λ e. let h = filled_le k in let z : ((load_after us n k).kept i).filled ≢ (us i).fillers = fills_short us (waited (load_after us n k)) i _ (chosen_by us (waited (load_after us n k))) e in omega arith) (λ e. filled_le k))

  -- nor more requests than actions
  pub made_le : (k : ℕ) → ((load_after us n k).kept i).made ≤ k
  unfolding load_after turned follows waited
  made_le zero = omega arith
  made_le (suc k) = let h = made_le k in pick (λ x. x ≤ suc k) (is_of 1 i (chosen us n k)) _ _ (omega arith) (omega arith)

  -- the count of signals stays below the period; it is that of the signals since the last loss
  pub heard_lt : (k : ℕ) → (us i).period ≢ 0 → ((load_after us n k).kept i).heard < (us i).period
  unfolding load_after turned follows waited
  heard_lt zero p = omega arith
  heard_lt (suc k) p = pick (λ x. x < (us i).period) (came i (load_after us n k).state (chosen us n k) && not (eqb (us i).period 0)) _ _
      (pick_by (λ x. x < (us i).period) (leb (us i).period (suc ((load_after us n k).kept i).heard)) _ _ (λ e. omega arith) (leb-false _ _)) (heard_lt k p)

  came_is : (k : ℕ) → (us i).period ≢ 0 → came_to i (turns us n k) ≡ ((load_after us n k).kept i).heard
  unfolding turns load_after turned follows waited
  came_is zero p = refl
  came_is (suc k) p = go (came i (load_after us n k).state (chosen us n k)) refl (came_is k p)
    where
      h : ℕ
      h = ((load_after us n k).kept i).heard

      due : came i (load_after us n k).state (chosen us n k) ≡ true → eqb (chosen us n k).kind 6 ≡ leb (us i).period (suc h)
      due e = came_due us (waited (load_after us n k)) i _ (chosen_by us (waited (load_after us n k))) e
          ∙ by_test (eqb (suc h) (us i).period) (λ q. q ∙ sym (le-leb (us i).period (suc h) (let z : suc h ≡ (us i).period = eqb-true _ _ q in omega arith)))
          (λ q. q ∙ sym (lt-leb (us i).period (suc h) (let z : suc h ≢ (us i).period = eqb-false _ _ q in let b = heard_lt k p in omega arith)))

      go : (b : Bool) → came i (load_after us n k).state (chosen us n k) ≡ b → came_to i (turns us n k) ≡ h → cond b (cond (eqb (chosen us n k).kind 6) 0 (suc (came_to i (turns us n k)))) (came_to i (turns us n k)) ≡ heard_after b (us i).period h
      go true e r = ap₂ (λ c x. cond c 0 (suc x)) (due e) r ∙ sym (ap (λ c. cond (not c) (rises (us i).period h) h) (ne_eqb _ _ p))
      go false e r = r

-- 4. THE SETTINGS KEPT
module _ (us : ℕ → User) (n : ℕ) (two : 2 ≤ n) (small : n ≤ 63) (fine : Sends us n) (k : ℕ) where
  abbrev l : Load
  l = load_after us n k

  abbrev now : Load
  now = waited l

  abbrev s : State
  s = l.state

  abbrev before : List Turn
  before = turns us n k

  n_same : s.n ≡ n
  n_same = n_is us n two small fine k

  here : (i : ℕ) → i < n → i < s.n
  here i h = subst (λ m. i < m) (sym n_same) h

  ran_now : Ran now.state
  unfolding waited
  ran_now = ran us n two small fine k

  fine_now : Sends us now.state.n
  unfolding waited
  fine_now = subst (Sends us) (sym n_same) fine

  -- a spell is over just if nothing is left of it after the waiting
  left_over : (i : ℕ) → is_past (us i).spell i (waits l) before ≡ is_over (now.kept i)
  unfolding waited
  left_over i = over_is us n i k (waits l) ∙ by_test (leb x w) (λ e. e ∙ sym (eq-eqb (x - w) 0 (let z = leb-true x w e in omega arith))) (λ e. e ∙ sym (ne_eqb (x - w) 0 (let z = leb-false x w e in λ y. absurd (omega arith))))
    where
      x : ℕ
      x = (l.kept i).left

      w : ℕ
      w = waits l

  -- while idle spells run down
  Quiet : ℕ → Type 0
  Quiet w = (is_idle s.phase ≡ true) × ((i : ℕ) → i < n → (is_empty (s.cell i).buffer ≡ true) × (((s.cell i).won ≡ false) × (is_past (us i).spell i w before ≡ false)))

  waits_kept : (w : ℕ) → w < waits l → Quiet w
  unfolding waits Quiet
  waits_kept w h = by_test (only_waits l) yes (λ e. absurd (let z : waits l ≡ 0 = waits_none l e in omega arith))
    where
      yes : only_waits l ≡ true → Quiet w
      yes e = let x = is_waiting l e in (
        x.idle,
        λ i m. (
          all-empty l x i (here i m),
          (
            none_of (wons s.cell) s.n x.unwon i (here i m),
            over_is us n i k w ∙ lt-leb (l.kept i).left w (let z = least_le (lefts l) s.n i (here i m) in let y : waits l ≡ least (lefts l) s.n = ap (λ b. cond b (least (lefts l) s.n) 0) e in omega arith),
          ),
        ),
      )

  nobody_over : some (asking now) now.state.n ≡ false → (i : ℕ) → i < n → is_empty (s.cell i).buffer ≡ true → is_past (us i).spell i (waits l) before ≡ false
  unfolding waited
  nobody_over e i h b = left_over i ∙ sym (ap (λ c. c && is_over (now.kept i)) b) ∙ none_of (asking now) s.n e i (here i h)

  wins : (a : Action) → Chosen us now a → eqb a.kind 2 ≡ true → (step s a).report ≡ Won a.node
  unfolding waited
  wins a (carries {g = g} {j = j} q) e = never (sym (pick (λ k. eqb k 2 ≡ false) (is_checked g && is_due (us j) (now.kept j)) 6 5 refl refl) ∙ e)
  wins a (grants q) e = never e
  wins a (gaps q) e = never e
  wins a (answers q f g) e = never e
  wins a (replies q f) e = never e
  wins a (clocks q f g) e = never e
  wins a (asks q t) e = never e
  wins a (bids q f t) e = let h = lowest_lt (bidding s) s.n 0 t in (bid_wins s ran_now _ h q (ran_now.rests (ap is_idle q) _ h) (lowest_of (bidding s) s.n 0 t)).1
  wins a (resets q f g) e = never e

  resets_late : (a : Action) → Chosen us now a → eqb a.kind 10 ≡ true → some (bidding s) n ≡ false
  unfolding waited
  resets_late a (carries {g = g} {j = j} q) e = never (sym (pick (λ k. eqb k 10 ≡ false) (is_checked g && is_due (us j) (now.kept j)) 6 5 refl refl) ∙ e)
  resets_late a (grants q) e = never e
  resets_late a (gaps q) e = never e
  resets_late a (answers q f g) e = never e
  resets_late a (replies q f) e = never e
  resets_late a (clocks q f g) e = never e
  resets_late a (asks q t) e = never e
  resets_late a (bids q f t) e = never e
  resets_late a (resets q f g) e = subst (λ m. some (bidding s) m ≡ false) n_same g

  neither : (a : Action) → Chosen us now a → eqb a.kind 2 || eqb a.kind 10 ≡ true → (i : ℕ) → i < n → is_empty (s.cell i).buffer ≡ true → is_past (us i).spell i (waits l) before ≡ false
  unfolding waited
  neither a (carries {g = g} {j = j} q) e = never (sym (pick (λ k. eqb k 2 || eqb k 10 ≡ false) (is_checked g && is_due (us j) (now.kept j)) 6 5 refl refl) ∙ e)
  neither a (grants q) e = never e
  neither a (gaps q) e = never e
  neither a (answers q f g) e = never e
  neither a (replies q f) e = never e
  neither a (clocks q f g) e = never e
  neither a (asks q t) e = never e
  neither a (bids q f t) e = nobody_over f
  neither a (resets q f g) e = nobody_over f

  kinds : (a : Action) → Chosen us now a → eqb a.kind 7 || (eqb a.kind 11 || eqb a.kind 12) ≡ false
  kinds a (carries {g = g} {j = j} q) = pick (λ k. eqb k 7 || (eqb k 11 || eqb k 12) ≡ false) (is_checked g && is_due (us j) (now.kept j)) 6 5 refl refl
  kinds a (grants q) = refl
  kinds a (gaps q) = refl
  kinds a (answers q f g) = refl
  kinds a (replies q f) = refl
  kinds a (clocks q f g) = refl
  kinds a (asks q t) = refl
  kinds a (bids q f t) = refl
  kinds a (resets q f g) = refl

  spells : (a : Action) → Chosen us now a → eqb a.kind 1 ≡ true → is_holding (s.cell a.node).mode ≡ false → is_past (us a.node).spell a.node (waits l) before ≡ true
  unfolding waited
  spells a (carries {g = g} {j = j} q) e = never (sym (pick (λ k. eqb k 1 ≡ false) (is_checked g && is_due (us j) (now.kept j)) 6 5 refl refl) ∙ e)
  spells a (grants q) e = never e
  spells a (gaps q) e = never e
  spells a (answers q f g) e = never e
  spells a (replies q f) e = λ h. clash _ f h
  spells a (clocks q f g) e = never e
  spells a (asks q t) e = λ h. left_over (asker now) ∙ (and-true (is_empty (s.cell (asker now)).buffer) _ (lowest_of (asking now) s.n 0 t)).1
  spells a (bids q f t) e = never e
  spells a (resets q f g) e = never e

  exactly : (a : Action) → Chosen us now a → eqb a.kind 3 ≡ true → fillers_of a.node before ≡ (us a.node).fillers
  unfolding waited
  exactly a (carries {g = g} {j = j} q) e = never (sym (pick (λ k. eqb k 3 ≡ false) (is_checked g && is_due (us j) (now.kept j)) 6 5 refl refl) ∙ e)
  exactly a (grants q) e = never e
  exactly a (gaps q) e = never e
  exactly a (answers q f g) e = filled_is us n (holder_of s) k ∙ g
  exactly a (replies q f) e = never e
  exactly a (clocks q f g) e = never e
  exactly a (asks q t) e = never e
  exactly a (bids q f t) e = never e
  exactly a (resets q f g) e = never e

  no_others : (a : Action) → Chosen us now a → eqb a.kind 4 ≡ true → (is_holding (s.cell a.node).mode ≡ false) × (is_answering (s.cell a.node).mode ≡ true → fillers_of a.node before < (us a.node).fillers)
  unfolding waited
  no_others a (carries {g = g} {j = j} q) e = never (sym (pick (λ k. eqb k 4 ≡ false) (is_checked g && is_due (us j) (now.kept j)) 6 5 refl refl) ∙ e)
  no_others a (grants q) e = never e
  no_others a (gaps q) e = never e
  no_others a (answers q f g) e = never e
  no_others a (replies q f) e = never e
  no_others a (clocks q f g) e = (g, λ t. let b = filled_le us n (holder_of s) k in let y = filled_is us n (holder_of s) k in let z : (l.kept (holder_of s)).filled ≢ (us (holder_of s)).fillers = (λ z. clash _ (both _ _ t (eq-eqb _ _ z)) f) in omega arith)
  no_others a (asks q t) e = never e
  no_others a (bids q f t) e = never e
  no_others a (resets q f g) e = never e

  holds : (a : Action) → Chosen us now a → eqb a.kind 3 ≡ true → a.hold ≡ one ((us a.node).hold && is_open s (respond_by a.node true))
  unfolding waited
  holds a (carries {g = g} {j = j} q) e = never (sym (pick (λ k. eqb k 3 ≡ false) (is_checked g && is_due (us j) (now.kept j)) 6 5 refl refl) ∙ e)
  holds a (grants q) e = never e
  holds a (gaps q) e = never e
  holds a (answers q f g) e = ap (λ b. one ((us (holder_of s)).hold && b)) (sym (respond_open s ran_now (holder_of s) true (holder_lt s ran_now q) ∙ ap (λ b. b && may_answer s.concatenated true) f ∙ ap not (and_yes s.concatenated)))
  holds a (replies q f) e = never e
  holds a (clocks q f g) e = never e
  holds a (asks q t) e = never e
  holds a (bids q f t) e = never e
  holds a (resets q f g) e = never e

  losses : (a : Action) → Chosen us now a → (i : ℕ) → came i s a ≡ true → eqb a.kind 6 ≡ eqb (suc (came_to i before)) (us i).period
  unfolding waited
  losses a c i e = came_due us now i a c e ∙ by_test (eqb (us i).period 0)
      (λ z. never_due (l.kept i).heard (eqb-true _ _ z) ∙ sym (never_due (came_to i before) (eqb-true _ _ z)))
      (λ z. ap (λ x. eqb (suc x) (us i).period) (sym (came_is us n i k (eqb-false _ _ z))))
    where
      never_due : (x : ℕ) → (us i).period ≡ 0 → eqb (suc x) (us i).period ≡ false
      never_due x z = ne_eqb (suc x) (us i).period (λ y. absurd (omega arith))

  pub keeps_settings : KeepsSettings us n k
  unfolding waited Quiet
  keeps_settings = let c = chosen_by us now in record {
    opens = chosen_opens us now ran_now fine_now (waited_on l (let z = ran_now.two in omega arith)) _ c;
    waits = waits_kept;
    wins = wins _ c;
    resets = resets_late _ c;
    neither = neither _ c;
    kinds = kinds _ c;
    spells = spells _ c;
    exactly = exactly _ c;
    no_others = no_others _ c;
    holds = holds _ c;
    losses = losses _ c;
  }
