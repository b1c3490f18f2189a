-- Every accepted action keeps marks and stage, and a forward one leaves less to do; and while the bus is marked nobody comes to hold it again. One clause for each way.
use mathlib.Core.Path.{◌≡◌, refl, sym, ap, subst, ◌∙◌}
use mathlib.Core.Logic.{◌≢◌, ◌⊎◌, inl, inr}
use mathlib.Core.Bool.{Bool, true, false, cond, ◌&&◌, ◌||◌, not, beq, true≢false}
use mathlib.Core.List.{List, [], ◌∷◌}
use native.Mathlib.Nat.{mul-le-mul_right}
use Prim.Native.Nat.{ℕ, suc, ◌<◌, ◌≤◌, ◌+◌, ◌-◌, ◌*◌}
use native.Mathlib.Omega.{arith}
use lib.Dec.{T, eqb, ltb, leb, lit<}
use borrow.Author.Tests.{eqb-true, eqb-false, ltb-true, ltb-false, eq-eqb, ne_eqb, leb-true, not-true, lt-leb}
use Rattle.charts.specs.declared.Mode.{Mode}
use Rattle.charts.specs.declared.Mode.TheVariants.{Sending, Answering, Acking, Spurious}
use Rattle.charts.specs.declared.Signal.{Signal}
use Rattle.charts.specs.declared.Signal.TheVariants.{Start, Prefix, Gap}
use Rattle.charts.specs.declared.Report.{Report}
use Rattle.charts.specs.declared.Packet.{Packet}
use Rattle.charts.specs.declared.Phase.{Phase}
use Rattle.charts.specs.declared.Phase.TheVariants.{Idle, Busy, Delivering, Granting, Gapping}
use Rattle.charts.specs.declared.Cell.{Cell}
use Rattle.charts.specs.declared.Marking.{Marking}
use Rattle.charts.specs.declared.Marking.TheVariants as M
use Rattle.charts.specs.declared.Way.{Way}
use Rattle.charts.specs.declared.Move.{Move}
use Rattle.charts.specs.Modes as P
use Rattle.charts.specs.Modes.{place_of, is_answering, is_holding, is_told, is_owed, is_asked}
use Rattle.charts.specs.Signals as S
use Rattle.charts.specs.Signals.{kind_of, is_end}
use Rattle.charts.specs.Places.{step_in, hold_in}
use Rattle.charts.specs.Reception.{hears}
use Rattle.charts.specs.State.{State, pendings, holders, upd, some, others, total, lowest, every, moved, concatenated_after, remarked, is_idle}
use Rattle.charts.specs.Actions.{receives, does, first_other, next_other, puts_out, freed, after_free, onward, granted, after_grant, may_answer, marking_by}
use Rattle.charts.specs.Demand.{forward, one}
use Rattle.charts.proofs.Tools.{never, clash, implies, implied, not_implied, and-true, neither, or-true, pick_by, at_upd, at_upd≢, upd_same, upd_other, upd_map, none_of, some_at, some_agree, others_off, lowest_of, lowest_lt, table_at, mem, every_in, mem-sub, not_mem_sub, mem_two, pick, by_test, both, beq_eq}
use Rattle.charts.proofs.Places.{law, law_mode, owing, active, owes, acts, gap_owes, step_of, no_hold, hears_no_hold, place_lt, sending_at, acking_at, resting}
use Rattle.charts.proofs.Ways.{after_gap, passed_by, Puts, start, dhead, dest, header, datum, end_all, end_one, filler, ack_start, ack_body_lem, ack_hold, ack_end, holds_on, Arrives, passes, redirects, bad_header, bad_data, bad_ack, Effect, waits, replies, wins, loses, gives, puts, frees, arrives, is_lost, grants, grants_none, gaps, settles, resets, at_once, asked, contends_rests, claims}
use Rattle.charts.proofs.Steps.{remarked_n}
use Rattle.charts.proofs.Askers.{unasked, not_ask, asking}
use Rattle.charts.proofs.Stages.{row_at, round_of, filler_of, Turn, turn_at, packet_read, quiet, waiting, ended, answering, requesting, reading, grant_steps, clear_steps, acting, Sole, Delivery, Talk, Clear, BusyAt, talks, clears, GrantingAt, GappingAt, IdleAt, Stage, weigh, weights, left, bonus, row_rank, turn_rank, clear_rank, busy_rank, rank, Lands, heard_lands, lost_lands, Row, undecided}
use Rattle.charts.proofs.Reach.{Marks, Reach, low_places, low_place, step_place, passive_steps, is_talker, turn_fact, no_turn, sole_quiet, Ready, to_go, is_passive}
use Rattle.charts.proofs.Sums.{total_gap, total_agree, total-one, total_sole, weigh_le, weights_upd, next_apart, next_past, next_past_j, left_pos, left_lt, left_next, first-lt, first_apart, first-none, undecided_upd}
use Rattle.charts.specs.Step.{may_act}

-- an action leads to a stage; a forward one to a stage with less left than r
pub record Goes (fwd : Bool) (r : ℕ) (b : Bool) (p : Phase) (n : ℕ) (f : ℕ → Cell) : Type 0 where
  pub stage : Stage b p n f
  pub lower : fwd ≡ true → rank b p n f stage < r

-- two modes that no stage tells apart: the same mode, or Rest and Asked
data Same (m : Mode) : Mode → Type 0 where
  same : Same m m
  rests : {m' : Mode} → mem (place_of m) resting ≡ true → mem (place_of m') resting ≡ true → Same m m'

-- what Rest and Asked have in common, all modes have that are the same
rest_at : {A : Type 0} (h : ℕ → A) → h P.asked ≡ h P.rest → (m : Mode) → mem (place_of m) resting ≡ true → h (place_of m) ≡ h P.rest
rest_at {A} h t m e = go (mem_two P.rest P.asked (place_of m) e)
  where
    go : (place_of m ≡ P.rest) ⊎ (place_of m ≡ P.asked) → h (place_of m) ≡ h P.rest
    go (inl q) = ap h q
    go (inr q) = ap h q ∙ t

same_place : {A : Type 0} (h : ℕ → A) → h P.asked ≡ h P.rest → {m m' : Mode} → Same m m' → h (place_of m') ≡ h (place_of m)
same_place h t same = refl
same_place h t {m} {m'} (rests e f) = rest_at h t m' f ∙ sym (rest_at h t m e)

same_step : {A : Type 0} (h : ℕ → A) → h P.asked ≡ h P.rest → {m m' : Mode} → Same m m' → h (step_of m') ≡ h (step_of m)
same_step h t same = refl
same_step h t {m} {m'} (rests e f) = at m' f ∙ sym (at m e)
  where
    at : (m : Mode) → mem (place_of m) resting ≡ true → h (step_of m) ≡ h P.rest
    at m e = ap h (step_place m (is_passive resting refl m e)) ∙ rest_at h t m e

-- the lists of the tables have both or neither
abbrev fair : List ℕ → Bool
fair l = beq (mem P.asked l) (mem P.rest l)

fair_row : (h : Row → List ℕ) → T (every (λ d. fair (h (row_at d))) 22) → (d : ℕ) → d < 22 → mem P.asked (h (row_at d)) ≡ mem P.rest (h (row_at d))
fair_row h t d l = beq_eq _ _ (table_at (λ d. fair (h (row_at d))) 22 t d l)

fair_turn : (a r : Turn → Bool) → T (every (λ t. beq (a (turn_at t)) (r (turn_at t))) 17) → (t : ℕ) → t < 17 → a (turn_at t) ≡ r (turn_at t)
fair_turn a r c t l = beq_eq _ _ (table_at (λ t. beq (a (turn_at t)) (r (turn_at t))) 17 c t l)

-- so a stage goes by these and by pending marks alone
module _ (b : Bool) (n : ℕ) (f g : ℕ → Cell) (mode-same : (k : ℕ) → Same (f k).mode (g k).mode) (pend-same : (k : ℕ) → (g k).pending ≡ (f k).pending) where
  in_place : {v : Bool} (k : ℕ) (l : List ℕ) → mem P.asked l ≡ mem P.rest l → mem (place_of (f k).mode) l ≡ v → mem (place_of (g k).mode) l ≡ v
  in_place k l t h = same_place (λ c. mem c l) t (mode-same k) ∙ h

  in_step : (k : ℕ) (l : List ℕ) → mem P.asked l ≡ mem P.rest l → mem (step_of (f k).mode) l ≡ true → mem (step_of (g k).mode) l ≡ true
  in_step k l t h = same_step (λ c. mem c l) t (mode-same k) ∙ h

  same_weight : total (weights g) n ≡ total (weights f) n
  same_weight = total_agree (weights g) (weights f) n (λ k l. same_place weigh refl (mode-same k))

  same_stage : (p : Phase) (a : Stage b p n f) → (c : Stage b p n g) × (rank b p n g c ≡ rank b p n f a)
  same_stage Idle a = (record { unmarked = a.unmarked; rests = λ k l. in_place k resting refl (a.rests k l) }, refl)
  same_stage Busy (talks a) = (
    talks (record {
      t = a.t;
      t_lt = a.t_lt;
      round = a.round;
      w = a.w;
      here = a.here;
      talker = eqb-true _ _ (same_step (λ c. eqb c (turn_at a.t).step) (fair_turn (λ t. eqb P.asked t.step) (λ t. eqb P.rest t.step) tt a.t a.t_lt) (mode-same a.w) ∙ eq-eqb _ _ a.talker);
      room = λ k l z. in_place k (turn_at a.t).room (fair_turn (λ t. mem P.asked t.room) (λ t. mem P.rest t.room) tt a.t a.t_lt) (a.room k l z);
      who = a.who;
      sole = λ k l z y. in_place k (turn_at a.t).sole (fair_turn (λ t. mem P.asked t.sole) (λ t. mem P.rest t.sole) tt a.t a.t_lt) (a.sole k l z y);
    }),
    refl,
  )
  same_stage Busy (clears a) = (
    clears (record {
      steps = λ k l. in_step k clear_steps refl (a.steps k l);
      acts = some_agree (acting g) (acting f) n (λ k l. same_place active refl (mode-same k)) ∙ a.acts;
      who = a.who;
      sole = λ k l z. in_place k requesting refl (a.sole k l z);
    }),
    omega (arith, same_weight),
  )
  same_stage (Delivering w x j) a = (
    record {
      d = a.d;
      d_lt = a.d_lt;
      round = a.round;
      kind = a.kind;
      here = a.here;
      next_lt = a.next_lt;
      apart = a.apart;
      sender = in_step w (row_at a.d).sender (fair_row (λ r. r.sender) tt a.d a.d_lt) a.sender;
      before = λ k l z y. in_place k (row_at a.d).before (fair_row (λ r. r.before) tt a.d a.d_lt) (a.before k l z y);
      after = λ k l z y. in_place k (row_at a.d).after (fair_row (λ r. r.after) tt a.d a.d_lt) (a.after k l z y);
      who = a.who;
      sole = λ k l z y. in_place k (row_at a.d).sole (fair_row (λ r. r.sole) tt a.d a.d_lt) (a.sole k l z y);
    },
    ap (λ b. left w j n + ((row_at a.d).turns * n + (row_at a.d).more + b)) (same_step bonus refl (mode-same w)),
  )
  same_stage Granting a = (
    record {
      steps = λ k l. in_step k grant_steps refl (a.steps k l);
      pends = some_agree (pendings g) (pendings f) n (λ k l. pend-same k) ∙ a.pends;
      who = a.who;
      sole = λ k l z. in_place k requesting refl (a.sole k l z);
    },
    omega (arith, same_weight),
  )
  same_stage (Gapping j) a = (record { gap_lt = a.gap_lt; calm = λ k l. in_place k quiet refl (a.calm k l); past = λ k l z. in_place k resting refl (a.past k l z) }, refl)

  same_goes : (fwd : Bool) (r : ℕ) (p : Phase) → Goes fwd r b p n f → Goes fwd r b p n g
  same_goes fwd r p a = let c = same_stage p a.stage in record { stage = c.0; lower = λ e. omega (arith, c.1, a.lower e) }

-- clearing misled or won marks changes neither, and the bus's own mark is the stage's
remarked_goes : (x : Marking) (t : State) (fwd : Bool) (r : ℕ) → Goes fwd r (concatenated_after x t.concatenated) t.phase t.n t.cell →
    Goes fwd r (remarked x t).concatenated (remarked x t).phase (remarked x t).n (remarked x t).cell
remarked_goes M.Nothing t fwd r a = a
remarked_goes M.Misled t fwd r a = same_goes t.concatenated t.n t.cell (remarked M.Misled t).cell (λ k. same) (λ k. refl) fwd r t.phase a
remarked_goes M.Won t fwd r a = same_goes t.concatenated t.n t.cell (remarked M.Won t).cell (λ k. same) (λ k. refl) fwd r t.phase a
remarked_goes (M.Concatenated b) t fwd r a = a

remarked_marks : (x : Marking) (t : State) → ((k : ℕ) → Marks (t.cell k)) → (k : ℕ) → Marks ((remarked x t).cell k)
remarked_marks M.Nothing t m k = m k
remarked_marks M.Misled t m k = m k
remarked_marks M.Won t m k = m k
remarked_marks (M.Concatenated b) t m k = m k

abbrev Last : Bool → ℕ → (ℕ → Cell) → Type 0
Last b n f = b ≡ true → (k : ℕ) → k < n → hold_in (f k).mode ≡ false

remarked_last : (x : Marking) (t : State) → Last (concatenated_after x t.concatenated) t.n t.cell → Last (remarked x t).concatenated (remarked x t).n (remarked x t).cell
remarked_last M.Nothing t h = h
remarked_last M.Misled t h = h
remarked_last M.Won t h = h
remarked_last (M.Concatenated b) t h = h

remarked_ready : (x : Marking) (t : State) → ((k : ℕ) → Ready (t.cell k)) → (k : ℕ) → Ready ((remarked x t).cell k)
remarked_ready M.Nothing t m k = m k
remarked_ready M.Misled t m k = m k
remarked_ready M.Won t m k = m k
remarked_ready (M.Concatenated b) t m k = m k

pub remarked_undecided : (x : Marking) (t : State) → undecided (remarked x t).cell (remarked x t).n ≡ undecided t.cell t.n
remarked_undecided M.Nothing t = refl
remarked_undecided M.Misled t = refl
remarked_undecided M.Won t = refl
remarked_undecided (M.Concatenated b) t = refl

-- GRANTS. The node that is granted owes and has read its packet whole
granted_owed : (m : Mode) → place_of m ≡ P.owed → granted m ≡ Spurious
granted_owed m e = rw e

granted_told : (m : Mode) → place_of m ≡ P.told → granted m ≡ Answering
granted_told m e = rw e

owes_whole : (m : Mode) → mem (step_of m) grant_steps ≡ true → owing (place_of m) ≡ true → (place_of m ≡ P.owed) ⊎ (place_of m ≡ P.told)
owes_whole m h o =
    let z : active (place_of m) ≡ false = not-true _ (implied _ _ (law_mode (λ p. implies (owing p) (not (active p))) tt m) o) in
    let t : mem (place_of m) grant_steps ≡ true = ap (λ c. mem c grant_steps) (sym (step_place m z)) ∙ h in
    mem_two P.owed P.told (place_of m) (implied _ _ (implied (mem (place_of m) grant_steps) _ (law_mode (λ p. implies (mem p grant_steps) (implies (owing p) (mem p (P.owed ∷ P.told ∷ [])))) tt m) t) o)

owes_no : (m : Mode) → mem (step_of m) grant_steps ≡ true → owing (place_of m) ≡ false → mem (step_of m) clear_steps ≡ true
owes_no m h o = rw (ne_eqb (step_of m) P.owed (no P.owed refl (lit< tt)), ne_eqb (step_of m) P.told (no P.told refl (lit< tt))) at h
  where
    no : (c : ℕ) → owing c ≡ true → c < 30 → step_of m ≡ c → ⊥
    no c p l e = true≢false (sym p ∙ ap owing (sym e ∙ sym (low_place m (omega arith))) ∙ o)

-- what a granted node is then
record Granted (m : Mode) : Type 0 where
  frees : owing (place_of (granted m)) ≡ false
  holds : active (place_of (granted m)) ≡ true
  step : mem (step_of (granted m)) (P.answering ∷ P.spurious ∷ []) ≡ true
  lighter : weigh (place_of m) ≡ weigh (place_of (granted m)) + 1

is_granted : (m : Mode) → (place_of m ≡ P.owed) ⊎ (place_of m ≡ P.told) → Granted m
is_granted m (inl e) = let g = granted_owed m e in record { frees = ap (λ m. owing (place_of m)) g; holds = ap (λ m. active (place_of m)) g; step = ap (λ m. mem (step_of m) (P.answering ∷ P.spurious ∷ [])) g; lighter = ap weigh e ∙ sym (ap (λ m. weigh (place_of m) + 1) g) }
is_granted m (inr e) = let g = granted_told m e in record { frees = ap (λ m. owing (place_of m)) g; holds = ap (λ m. active (place_of m)) g; step = ap (λ m. mem (step_of m) (P.answering ∷ P.spurious ∷ [])) g; lighter = ap weigh e ∙ sym (ap (λ m. weigh (place_of m) + 1) g) }

-- MARKS. What a holder puts out leaves its marks right: it owed nothing, and it goes on acting unless it put out an End
puts_marks : (i : ℕ) (p : Packet) (m : Mode) (g : Signal) (m' : Mode) (r : Report) → Puts i p m g m' r → (owing (place_of m) ≡ false) × (owing (place_of m') ≡ false) × (not (is_end g) ≡ active (place_of m'))
puts_marks i p m g m' r start = (refl, refl, refl)
puts_marks i p m g m' r dhead = (refl, refl, refl)
puts_marks i p m g m' r dest = (refl, refl, refl)
puts_marks i p m g m' r header = (refl, refl, refl)
puts_marks i p m g m' r datum = (refl, refl, refl)
puts_marks i p m g m' r (end_all l e) = (refl, refl, refl)
puts_marks i p m g m' r (end_one l e) = (refl, refl, refl)
puts_marks i p m g m' r filler = (refl, refl, refl)
puts_marks i p m g m' r ack_start = (refl, refl, refl)
puts_marks i p m g m' r ack_body_lem = (refl, refl, refl)
puts_marks i p m g m' r (ack_hold l) = (refl, refl, refl)
puts_marks i p m g m' r (ack_end l) = (refl, refl, refl)
puts_marks i p m g m' r holds_on = (refl, refl, refl)

module _ (s : State) (v : Reach s) where
  abbrev n : ℕ
  n = s.n

  abbrev ms : (k : ℕ) → Marks (s.cell k)
  ms = v.marks

  -- the marks of the one cell that an action changes
  own_marks : (m : Move) (i : ℕ) (r : Report) (p : Phase) (c : Cell) (x : Marking) → Effect s m i (does r p c x) → Marks c
  own_marks m i r p c x (waits e f) = ms i
  own_marks m i r p c x (replies e) = ((ms i).0 ∙ ap (λ m. owing (place_of m)) e, (ms i).1 ∙ ap (λ m. active (place_of m)) e)
  own_marks m i r p c x (claims e f) = ((ms i).0 ∙ ap owing e, (ms i).1 ∙ ap active e)
  own_marks m i r p c x (wins d q f w) = ((ms i).0 ∙ rest_at owing refl (s.cell i).mode (contends_rests d), refl)
  own_marks m i r p c x (loses d) = ((ms i).0 ∙ rest_at owing refl (s.cell i).mode (contends_rests d), (ms i).1 ∙ rest_at active refl (s.cell i).mode (contends_rests d))
  own_marks m i r p c x (gives e u) = ((ms i).0 ∙ ap (λ m. owing (place_of m)) e, (ms i).1 ∙ ap (λ m. active (place_of m)) e)
  own_marks m i r p c x (puts {g = g} {m = m'} q h o y) = let z = puts_marks i (s.cell i).sending (s.cell i).mode g m' r y in ((ms i).0 ∙ z.0 ∙ sym z.1, z.2)
  own_marks m i r p c x (frees q h e) = ((ms i).0 ∙ ap (λ m. owing (place_of m)) e, refl)
  own_marks m i r p c x (arrives {t = t} q y) = (ap (λ b. b || (receives hears i (s.cell i) t).pends) (ms i).0 ∙ sym (owes i _ (s.cell i).mode t), (ms i).1 ∙ sym (acts i _ (s.cell i).mode t))
  own_marks m i r p c x (is_lost q e) = ms i
  own_marks m i r p c x (grants q e l) = let g = is_granted (s.cell i).mode whole in (sym g.frees, sym g.holds)
    where
      at : GrantingAt s.n s.cell
      at = subst (λ p. Stage s.concatenated p s.n s.cell) q v.stage

      whole : (place_of (s.cell i).mode ≡ P.owed) ⊎ (place_of (s.cell i).mode ≡ P.told)
      whole = owes_whole (s.cell i).mode (at.steps i (subst (λ i. i < s.n) l (lowest_lt (pendings s.cell) s.n 0 e)))
          (sym (ms i).0 ∙ subst (λ i. (s.cell i).pending ≡ true) l (lowest_of (pendings s.cell) s.n 0 e))
  own_marks m i r p c x (grants_none q e) = ms i
  own_marks m i r p c x (gaps q u) = ((ms i).0 ∙ sym (gap_owes i _ (s.cell i).mode), (ms i).1 ∙ sym (acts i _ (s.cell i).mode Gap))
  own_marks m i r p c x (settles q u) = ((ms i).0 ∙ sym (gap_owes i _ (s.cell i).mode), (ms i).1 ∙ sym (acts i _ (s.cell i).mode Gap))
  own_marks m i r p c x (resets q) = ms i

  pub marks_kept : (m : Move) (i : ℕ) (r : Report) (p : Phase) (c : Cell) (x : Marking) → Effect s m i (does r p c x) → (k : ℕ) → Marks ((remarked x (moved s p i c)).cell k)
  marks_kept m i r p c x y = remarked_marks x (moved s p i c) (λ k. at_upd (λ k c. Marks c) s.cell i c k (own_marks m i r p c x y) (ms k))

  -- HOLDS. While the bus is marked, the one cell that an action changes will not hold it again: no respond with hold 1 is open; and at the Prefix that marks the bus no other node is Acking
  puts_last : (i : ℕ) → i < s.n → (m : Mode) (g : Signal) (m' : Mode) (r : Report) → (s.cell i).mode ≡ m → Puts i (s.cell i).sending m g m' r → concatenated_after (marking_by m g) s.concatenated ≡ true → hold_in m' ≡ false
  puts_last i l m g m' r e start z = refl
  puts_last i l m g m' r e dhead z = refl
  puts_last i l m g m' r e dest z = refl
  puts_last i l m g m' r e header z = refl
  puts_last i l m g m' r e datum z = refl
  puts_last i l m g m' r e (end_all h u) z = refl
  puts_last i l m g m' r e (end_one h u) z = refl
  puts_last i l m g m' r e filler z = refl
  puts_last i l m g m' r e ack_start z = sym (ap hold_in e) ∙ v.last z i l
  puts_last i l m g m' r e ack_body_lem z = sym (ap hold_in e) ∙ v.last z i l
  puts_last i l m g m' r e (ack_hold h) z = refl
  puts_last i l m g m' r e (ack_end h) z = refl
  puts_last i l m g m' r e holds_on z = refl

  own_last : (m : Move) (i : ℕ) (r : Report) (p : Phase) (c : Cell) (x : Marking) → i < s.n → Effect s m i (does r p c x) → concatenated_after x s.concatenated ≡ true → hold_in c.mode ≡ false
  own_last m i r p c x l (waits e f) z = v.last z i l
  own_last m i r p c x l (replies e) z = refl
  own_last m i r p c x l (claims e f) z = refl
  own_last m i r p c x l (wins d q f w) z = refl
  own_last m i r p c x l (loses d) z = refl
  own_last m i r p c x l (gives {h = h} e u) z = not-true h (sym (ap (λ b. may_answer b h) z) ∙ u)
  own_last m i r p c x l (puts {g = g} {m = m'} q h o y) z = puts_last i l (s.cell i).mode g m' r refl y z
  own_last m i r p c x l (frees q h e) z = refl
  own_last m i r p c x l (arrives {t = t} q y) z = hears_no_hold i _ (s.cell i).mode t (v.last z i l)
  own_last m i r p c x l (is_lost q e) z = v.last z i l
  own_last m i r p c x l (grants q e u) z =
      pick (λ (m : Mode). hold_in m ≡ false) (is_told (s.cell i).mode) _ _ refl (pick (λ (m : Mode). hold_in m ≡ false) (is_owed (s.cell i).mode) _ _ refl (v.last z i l))
  own_last m i r p c x l (grants_none q e) z = v.last z i l
  own_last m i r p c x l (gaps q u) z = hears_no_hold i _ (s.cell i).mode Gap (v.last z i l)
  own_last m i r p c x l (settles q u) z = never z
  own_last m i r p c x l (resets q) z = v.last z i l

  others_last : (m : Move) (i : ℕ) (r : Report) (p : Phase) (c : Cell) (x : Marking) → Effect s m i (does r p c x) → concatenated_after x s.concatenated ≡ true → (k : ℕ) → k ≢ i → k < s.n → hold_in (s.cell k).mode ≡ false
  others_last m i r p c x (waits e f) z k o l = v.last z k l
  others_last m i r p c x (replies e) z k o l = v.last z k l
  others_last m i r p c x (claims e f) z k o l = v.last z k l
  others_last m i r p c x (wins d q f w) z k o l = v.last z k l
  others_last m i r p c x (loses d) z k o l = v.last z k l
  others_last m i r p c x (gives e u) z k o l = v.last z k l
  others_last m i r p c x (puts q h u y) z k o l = no_hold (s.cell k).mode
      (not_implied _ _ (law_mode (λ p. implies (eqb p P.acking) (active p)) tt (s.cell k).mode) (sym (ms k).1 ∙ others_off (holders s.cell) s.n i u k l o))
  others_last m i r p c x (frees q h e) z k o l = v.last z k l
  others_last m i r p c x (arrives q y) z k o l = v.last z k l
  others_last m i r p c x (is_lost q e) z k o l = v.last z k l
  others_last m i r p c x (grants q e u) z k o l = v.last z k l
  others_last m i r p c x (grants_none q e) z k o l = v.last z k l
  others_last m i r p c x (gaps q u) z k o l = v.last z k l
  others_last m i r p c x (settles q u) z k o l = never z
  others_last m i r p c x (resets q) z k o l = v.last z k l

  last_kept : (m : Move) (i : ℕ) (r : Report) (p : Phase) (c : Cell) (x : Marking) → i < s.n → Effect s m i (does r p c x) → Last (remarked x (moved s p i c)).concatenated (remarked x (moved s p i c)).n (remarked x (moved s p i c)).cell
  last_kept m i r p c x l y = remarked_last x (moved s p i c) λ z k.
      at_upd≢ (λ k c. k < s.n → hold_in c.mode ≡ false) s.cell i c k (λ h. own_last m i r p c x l y z) (others_last m i r p c x y z k)

abbrev all_of : (ℕ → Bool) → List ℕ → Bool
all_of h [] = true
all_of h (x ∷ l) = h x && all_of h l

all_mem : (h : ℕ → Bool) (l : List ℕ) → all_of h l ≡ true → (c : ℕ) → mem c l ≡ true → h c ≡ true
all_mem h [] t c e = never e
all_mem h (x ∷ l) t c e = go (eqb c x) refl (all_mem h l (and-true (h x) _ t).1 c) e
  where
    go : (b : Bool) → eqb c x ≡ b → (mem c l ≡ true → h c ≡ true) → b || mem c l ≡ true → h c ≡ true
    go true q r e = ap h (eqb-true c x q) ∙ (and-true (h x) _ t).0
    go false q r e = r e

-- steps and weights: a node at a step of the Busy bus that acts; Acking's first step; nodes that weigh nothing
abbrev acting_step : ℕ → Bool
acting_step c = leb 30 c || active c

pub acting_step_lem : (m : Mode) → acting_step (step_of m) ≡ true → active (place_of m) ≡ true
acting_step_lem m = go (eqb (place_of m) P.sending) (eqb (place_of m) P.acking) refl refl
  where
    go : (b c : Bool) → eqb (place_of m) P.sending ≡ b → eqb (place_of m) P.acking ≡ c → acting_step (cond b (sending_at (step_in m)) (cond c (acking_at (step_in m)) (place_of m))) ≡ true → active (place_of m) ≡ true
    go true c e q h = ap active (eqb-true (place_of m) P.sending e)
    go false true e q h = ap active (eqb-true (place_of m) P.acking q)
    go false false e q h = or-true (leb 30 (place_of m)) (active (place_of m)) h (lt-leb 30 (place_of m) (omega (arith, place_lt m)))

acting_in : (l : List ℕ) → all_of acting_step l ≡ true → (m : Mode) → mem (step_of m) l ≡ true → active (place_of m) ≡ true
acting_in l t m e = acting_step_lem m (all_mem acting_step l t (step_of m) e)

acking_place : (m : Mode) → step_of m ≡ acking_at 0 → place_of m ≡ P.acking
acking_place m = go (eqb (place_of m) P.sending) (eqb (place_of m) P.acking) refl refl
  where
    go : (b c : Bool) → eqb (place_of m) P.sending ≡ b → eqb (place_of m) P.acking ≡ c → cond b (sending_at (step_in m)) (cond c (acking_at (step_in m)) (place_of m)) ≡ acking_at 0 → place_of m ≡ P.acking
    go true c e q h = absurd (omega arith)
    go false true e q h = eqb-true (place_of m) P.acking q
    go false false e q h = absurd (omega (arith, place_lt m))

weigh_quiet : (m : Mode) → mem (place_of m) quiet ≡ true → weigh (place_of m) ≡ 0
weigh_quiet m e = eqb-true _ 0 (implied _ _ (law_mode (λ p. implies (mem p quiet) (eqb (weigh p) 0)) tt m) e)

weigh_answering : (m : Mode) → mem (step_of m) answering ≡ true → weigh (place_of m) ≤ bonus (step_of m)
weigh_answering m e = go (mem_two P.answering (acking_at 0) (step_of m) e)
  where
    go : (step_of m ≡ P.answering) ⊎ (step_of m ≡ acking_at 0) → weigh (place_of m) ≤ bonus (step_of m)
    go (inl q) = omega (arith, ap weigh (low_place m (omega arith) ∙ q), ap bonus q)
    go (inr q) = omega (arith, ap weigh (acking_place m q), ap bonus q)

-- DELIVERIES. Node j comes to a cell c that the row allows after it
-- the turn after row d, where its sender is at step c: the row after it where the sender has asked from Holding
abbrev turn_after : ℕ → ℕ → ℕ
turn_after d c = (row_at d).next + cond (eqb c (sending_at 0)) 1 0

-- a filler of Answering is followed by clearing, an End by granting or gaps, and any other row by a turn of its round with no more left
is_filler : ℕ → Bool
is_filler d = mem P.answering (row_at d).sender

is_turn : ℕ → Bool
is_turn d = not (eqb (row_at d).kind 1 || is_filler d)

abbrev clears_after : ℕ → Bool
clears_after d = eqb d (filler_of (row_at d).round) && (every_in (row_at d).sender answering && (every_in (row_at d).after quiet && every_in requesting (row_at d).sole))

-- a place of l is one of k too
abbrev within : List ℕ → List ℕ → ℕ → Bool
within l k p = implies (mem p l) (mem p k)

follows : ℕ → ℕ → Bool
follows d c =
    ltb (turn_after d c) 17 && (eqb c (turn_at (turn_after d c)).step && (every_in (row_at d).after (turn_at (turn_after d c)).room
    && (leb (turn_at (turn_after d c)).turns (row_at d).turns && (leb (turn_at (turn_after d c)).more ((row_at d).more + bonus c)
    && (eqb (turn_at (turn_after d c)).round (row_at d).round && all_of (within (turn_at (turn_after d c)).sole (row_at d).sole) (row_at d).after)))))

all_follow : T (every (λ d. implies (is_turn d) (all_of (follows d) (row_at d).sender)) 22)
unfolding is_turn is_filler follows
all_follow = tt

not_within : (l k room : List ℕ) → all_of (within l k) room ≡ true → (p : ℕ) → mem p room ≡ true → mem p k ≡ false → mem p l ≡ false
not_within l k room t p e = not_implied _ _ (all_mem (within l k) room t p e)

-- the round tells the mark
marked_by : (b c : Bool) → round_of b ≡ round_of c → b ≡ c
marked_by true true e = refl
marked_by true false e = absurd (omega arith)
marked_by false true e = absurd (omega arith)
marked_by false false e = refl

rank_le : (a b c d n : ℕ) → a ≤ b → c ≤ d → a * n + c ≤ b * n + d
rank_le a b c d n h l = omega (arith, mul-le-mul_right n h)

module _ (b : Bool) (n : ℕ) (f : ℕ → Cell) (w : ℕ) (here : w < n) (ms : (k : ℕ) → Marks (f k)) where
  -- what holds of w and of the others holds of all
  all_of_lem : (P : ℕ → Type 0) → P w → ((k : ℕ) → k < n → k ≢ w → P k) → (k : ℕ) → k < n → P k
  all_of_lem P t u k l = go (eqb k w) refl
    where
      go : (b : Bool) → eqb k w ≡ b → P k
      go true e = subst P (sym (eqb-true k w e)) t
      go false e = u k l (eqb-false k w e)

  abbrev Others : List ℕ → Type 0
  Others l = (k : ℕ) → k < n → k ≢ w → mem (place_of (f k).mode) l ≡ true

  -- nobody but w and `who` is in a place of l
  abbrev But : List ℕ → ℕ → Type 0
  But l who = (k : ℕ) → k < n → k ≢ w → k ≢ who → mem (place_of (f k).mode) l ≡ false

  turn_lands : (d : ℕ) → d < 22 → is_turn d ≡ true → (row_at d).round ≡ round_of b → mem (step_of (f w).mode) (row_at d).sender ≡ true → Others (row_at d).after → (who : ℕ) → But (row_at d).sole who →
      (a : BusyAt b n f) × (busy_rank b n f a ≤ row_rank d (step_of (f w).mode) n)
  unfolding follows
  turn_lands d l t r e u who o =
      let c = step_of (f w).mode in
      let z = all_mem (follows d) (row_at d).sender (implied _ _ (table_at (λ d. implies (is_turn d) (all_of (follows d) (row_at d).sender)) 22 all_follow d l) t) c e in
      let z0 = and-true (ltb (turn_after d c) 17) _ z in
      let z1 = and-true (eqb c (turn_at (turn_after d c)).step) _ z0.1 in
      let z2 = and-true (every_in (row_at d).after (turn_at (turn_after d c)).room) _ z1.1 in
      let z3 = and-true (leb (turn_at (turn_after d c)).turns (row_at d).turns) _ z2.1 in
      let z4 = and-true (leb (turn_at (turn_after d c)).more ((row_at d).more + bonus c)) _ z3.1 in
      let z5 = and-true (eqb (turn_at (turn_after d c)).round (row_at d).round) _ z4.1 in (
        talks (record {
          t = turn_after d c;
          t_lt = ltb-true _ 17 z0.0;
          round = eqb-true _ _ z5.0 ∙ r;
          w = w;
          here = here;
          talker = eqb-true _ _ z1.0;
          room = λ k o q. mem-sub (row_at d).after (turn_at (turn_after d c)).room z2.0 (place_of (f k).mode) (u k o q);
          who = who;
          sole = λ k h p q. not_within (turn_at (turn_after d c)).sole (row_at d).sole (row_at d).after z5.1 (place_of (f k).mode) (u k h p) (o k h p q);
        }),
        omega (arith, rank_le (turn_at (turn_after d c)).turns (row_at d).turns (turn_at (turn_after d c)).more ((row_at d).more + bonus c) n (leb-true _ _ z3.0) (leb-true _ _ z4.0)),
      )

  -- a filler of Answering: the bus goes on clearing
  clear_lands : (d : ℕ) → d ≡ filler_of (round_of b) → mem (step_of (f w).mode) answering ≡ true → Others quiet → (who : ℕ) → But requesting who → (a : BusyAt b n f) × (busy_rank b n f a ≤ row_rank d (step_of (f w).mode) n)
  clear_lands d q e u who o = (
    clears (record {
      steps = all_of_lem (λ k. mem (step_of (f k).mode) clear_steps ≡ true) (mem-sub answering clear_steps refl (step_of (f w).mode) e) (λ k z q. passive_steps quiet clear_steps refl refl (f k).mode (u k z q));
      acts = some_at (acting f) n w here (acting_in answering refl (f w).mode e);
      who = who;
      sole = all_of_lem (λ k. k ≢ who → mem (place_of (f k).mode) requesting ≡ false) (λ q. answers) o;
    }),
    subst (λ d. clear_rank b n f ≤ row_rank d (step_of (f w).mode) n) (sym q) (fits b),
  )
    where
      answers : mem (place_of (f w).mode) requesting ≡ false
      answers = not_implied _ _ (law_mode (λ p. implies (mem p requesting) (not (active p))) tt (f w).mode) (ap not (acting_in answering refl (f w).mode e))

      sum : total (weights f) n ≤ bonus (step_of (f w).mode)
      sum = omega (arith, weigh_answering (f w).mode e, total-one (weights f) w n here (λ k z q. weigh_quiet (f k).mode (u k z q)))

      fits : (b : Bool) → clear_rank b n f ≤ row_rank (filler_of (round_of b)) (step_of (f w).mode) n
      fits true = omega (arith, sum)
      fits false = omega (arith, sum)

  -- an End: rows 5, 9, 17 and 21. The nodes are done with the packet, its sender rests or awaits the acknowledgement
  abbrev EndLands : ℕ → Type 0
  EndLands r =
      (some (pendings f) n ≡ true → (a : Stage b Granting n f) × (rank b Granting n f a ≤ r))
      × (some (pendings f) n ≡ false → (a : Stage b (Gapping 0) n f) × (rank b (Gapping 0) n f a ≤ r))

  owes_not : (k : ℕ) → (f k).pending ≡ false → mem (place_of (f k).mode) packet_read ≡ true → mem (place_of (f k).mode) quiet ≡ true
  owes_not k p e = implied _ _ (implied (mem (place_of (f k).mode) packet_read) _ (law_mode (λ p. implies (mem p packet_read) (implies (not (owing p)) (mem p quiet))) tt (f k).mode) e) (ap not (sym (ms k).0 ∙ p))

  to_gaps : (r : ℕ) → n ≤ r → mem (step_of (f w).mode) ended ≡ true → Others packet_read → some (pendings f) n ≡ false → (a : Stage b (Gapping 0) n f) × (rank b (Gapping 0) n f a ≤ r)
  to_gaps r l e u p = (
    record {
      gap_lt = omega arith;
      calm = all_of_lem (λ k. mem (place_of (f k).mode) quiet ≡ true) (low_places ended quiet refl refl (f w).mode e) (λ k z q. owes_not k (none_of (pendings f) n p k z) (u k z q));
      past = λ k z q. absurd (omega arith);
    },
    omega arith,
  )

  -- the End of a packet: nodes may owe, and only its sender awaits an acknowledgement
  packet_end : (r : ℕ) → n ≤ r → clear_rank b n f ≤ r → mem (step_of (f w).mode) ended ≡ true → Others packet_read → EndLands r
  packet_end r l h e u = (
    (λ p. (
      record {
        steps = all_of_lem (λ k. mem (step_of (f k).mode) grant_steps ≡ true) (mem-sub ended grant_steps refl (step_of (f w).mode) e) (λ k z q. passive_steps packet_read grant_steps refl refl (f k).mode (u k z q));
        pends = p;
        who = w;
        sole = λ k z q. not-true _ (implied _ _ (law_mode (λ p. implies (mem p packet_read) (not (mem p requesting))) tt (f k).mode) (u k z q));
      },
      h,
    )),
    to_gaps r l e u,
  )

  -- its sender weighs nothing. In round 0 the others may weigh 2 each, in round 1 one of them may
  sender_light : mem (step_of (f w).mode) ended ≡ true → weights f w ≡ 0
  sender_light e = weigh_quiet (f w).mode (low_places ended quiet refl refl (f w).mode e)

  first_fits : b ≡ false → mem (step_of (f w).mode) ended ≡ true → clear_rank b n f ≤ 15 * n + 1
  first_fits q e = rw q (omega (arith, total_gap (weights f) n w (λ k. weigh_le (f k).mode) here (sender_light e)))

  reply_fits : b ≡ true → mem (step_of (f w).mode) ended ≡ true → Others packet_read → (who : ℕ) → But reading who → clear_rank b n f ≤ 4 * n + 2
  reply_fits q e u who o = rw q (omega (arith, total_sole (weights f) n who (λ k. weigh_le (f k).mode) light))
    where
      light : (k : ℕ) → k < n → k ≢ who → weights f k ≡ 0
      light = all_of_lem (λ k. k ≢ who → weights f k ≡ 0) (λ z. sender_light e) λ k l p z.
          eqb-true _ 0 (implied _ _ (implied _ _ (law_mode (λ p. implies (mem p packet_read) (implies (not (mem p reading)) (eqb (weigh p) 0))) tt (f k).mode) (u k l p)) (ap not (o k l p z)))

  -- the End of an acknowledgement: nobody owes
  last_end : (r : ℕ) → n ≤ r → mem (step_of (f w).mode) ended ≡ true → Others waiting → EndLands r
  last_end r l e u = (
    (λ p. absurd (clash _ (lowest_of (pendings f) n 0 p) (free (lowest (pendings f) n 0) (lowest_lt (pendings f) n 0 p)))),
    to_gaps r l e (λ k z q. mem-sub waiting packet_read refl (place_of (f k).mode) (u k z q)),
  )
    where
      calm : (m : Mode) → mem (place_of m) quiet ≡ true → owing (place_of m) ≡ false
      calm m h = not-true _ (implied _ _ (law_mode (λ p. implies (mem p quiet) (not (owing p))) tt m) h)

      free : (k : ℕ) → k < n → (f k).pending ≡ false
      free = all_of_lem (λ k. (f k).pending ≡ false) ((ms w).0 ∙ calm (f w).mode (low_places ended quiet refl refl (f w).mode e)) (λ k z q. (ms k).0 ∙ calm (f k).mode (mem-sub waiting quiet refl (place_of (f k).mode) (u k z q)))

  end_lands : (d : ℕ) → d < 22 → eqb (row_at d).kind 1 ≡ true → (row_at d).round ≡ round_of b → mem (step_of (f w).mode) (row_at d).sender ≡ true → Others (row_at d).after → (who : ℕ) → But (row_at d).sole who →
      EndLands (row_rank d (step_of (f w).mode) n)
  end_lands d l k r e u who o = by_test (eqb d 5) first λ p. by_test (eqb d 17) reply (other p)
    where
      c : ℕ
      c = step_of (f w).mode

      fact : (h : ℕ → Bool) → T (every (λ d. implies (eqb (row_at d).kind 1) (h d)) 22) → h d ≡ true
      fact h t = implied _ _ (table_at (λ d. implies (eqb (row_at d).kind 1) (h d)) 22 t d l) k

      at-end : mem c ended ≡ true
      at-end = mem-sub (row_at d).sender ended (fact (λ d. every_in (row_at d).sender ended) tt) c e

      room : n ≤ row_rank d c n
      room = omega (arith, mul-le-mul_right n (leb-true 1 (row_at d).turns (fact (λ d. leb 1 (row_at d).turns) tt)))

      -- the places after row q, and what it says of the others
      others_at : (q : ℕ) → eqb d q ≡ true → Others (row_at q).after
      others_at q z k h p = subst (λ d. mem (place_of (f k).mode) (row_at d).after ≡ true) (eqb-true d q z) (u k h p)

      first : eqb d 5 ≡ true → EndLands (row_rank d c n)
      first z = packet_end _ room
          (subst (λ d. clear_rank b n f ≤ row_rank d c n) (sym (eqb-true d 5 z)) (omega (arith, first_fits (marked_by b false (sym r ∙ ap (λ d. (row_at d).round) (eqb-true d 5 z))) at-end))) at-end (others_at 5 z)

      reply : eqb d 17 ≡ true → EndLands (row_rank d c n)
      reply z = packet_end _ room
          (subst (λ d. clear_rank b n f ≤ row_rank d c n) (sym (eqb-true d 17 z)) (omega (
            arith,
            reply_fits (marked_by b true (sym r ∙ ap (λ d. (row_at d).round) (eqb-true d 17 z))) at-end (others_at 17 z)
                who (λ k h p q. subst (λ d. mem (place_of (f k).mode) (row_at d).sole ≡ false) (eqb-true d 17 z) (o k h p q)),
          ))) at-end (others_at 17 z)

      other : eqb d 5 ≡ false → eqb d 17 ≡ false → EndLands (row_rank d c n)
      other p q = last_end _ room at-end λ k z o.
          mem-sub (row_at d).after waiting (implied (not (eqb d 5 || eqb d 17)) _ (fact (λ d. implies (not (eqb d 5 || eqb d 17)) (every_in (row_at d).after waiting)) tt) (ap not (neither _ _ p q))) (place_of (f k).mode) (u k z o)

-- node j, the next to hear row a, comes to a cell c that the row allows
module _ (s : State) (w : ℕ) (g : Signal) (j : ℕ) (a : Delivery s.concatenated s.n s.cell w g j) (c : Cell) (ok : Lands a.d (place_of c.mode) (s.cell j).mode)
    (ms : (k : ℕ) → Marks (upd s.cell j c k)) where
  abbrev b : Bool
  b = s.concatenated

  abbrev cells : ℕ → Cell
  cells = upd s.cell j c

  abbrev was : ℕ
  was = left w j s.n + row_rank a.d (step_of (s.cell w).mode) s.n

  same_w : cells w ≡ s.cell w
  same_w = upd_other s.cell j c w (λ q. a.apart (sym q))

  sends_on : mem (step_of (cells w).mode) (row_at a.d).sender ≡ true
  sends_on = subst (λ c. mem (step_of c.mode) (row_at a.d).sender ≡ true) (sym same_w) a.sender

  same_rank : row_rank a.d (step_of (cells w).mode) s.n ≡ row_rank a.d (step_of (s.cell w).mode) s.n
  same_rank = ap (λ c. row_rank a.d (step_of c.mode) s.n) same_w

  heard_it : (k : ℕ) → k < s.n → k ≢ w → k < next_other w j → mem (place_of (cells k).mode) (row_at a.d).after ≡ true
  heard_it k l q z =
      at_upd≢ (λ k c. k < s.n → k ≢ w → k < next_other w j → mem (place_of c.mode) (row_at a.d).after ≡ true) s.cell j c k
      (λ l q z. ok.after) (λ o l q z. a.after k l q (next_past w j k z o q)) l q z

  but_one : (k : ℕ) → k < s.n → k ≢ w → k ≢ a.who → mem (place_of (cells k).mode) (row_at a.d).sole ≡ false
  but_one k = at_upd (λ k c. k < s.n → k ≢ w → k ≢ a.who → mem (place_of c.mode) (row_at a.d).sole ≡ false) s.cell j c k (λ l p q. ok.sole (a.sole j l p q)) (a.sole k)

  to_hear : (k : ℕ) → k < s.n → k ≢ w → next_other w j ≤ k → mem (place_of (cells k).mode) (row_at a.d).before ≡ true
  to_hear k l q z =
      let p : j < next_other w j = next_past_j w j in
      subst (λ c. mem (place_of c.mode) (row_at a.d).before ≡ true) (sym (upd_other s.cell j c k (λ e. absurd (omega arith)))) (a.before k l q (omega arith))

  goes_on : next_other w j < s.n → Goes true was b (Delivering w g (next_other w j)) s.n cells
  goes_on l = record {
    stage = record {
      d = a.d;
      d_lt = a.d_lt;
      round = a.round;
      kind = a.kind;
      here = a.here;
      next_lt = l;
      apart = next_apart w j;
      sender = sends_on;
      before = to_hear;
      after = heard_it;
      who = a.who;
      sole = but_one;
    };
    lower = λ e. omega (arith, same_rank, left_next w j s.n a.next_lt a.here a.apart l);
  }

  module _ (all : s.n ≤ next_other w j) where
    everyone : (k : ℕ) → k < s.n → k ≢ w → mem (place_of (cells k).mode) (row_at a.d).after ≡ true
    everyone k l q = heard_it k l q (omega arith)

    less : (q : ℕ) → q ≤ row_rank a.d (step_of (cells w).mode) s.n → q < was
    less q l = omega (arith, same_rank, left_pos w j s.n a.here a.next_lt a.apart)

    ends_it : is_end g ≡ true → (c : Bool) → some (pendings cells) s.n ≡ c → Goes true was b (cond c Granting (Gapping 0)) s.n cells
    ends_it e c p = go c p (end_lands b s.n cells w a.here ms a.d a.d_lt (ap (λ k. eqb k 1) (sym a.kind) ∙ e) a.round sends_on everyone a.who but_one)
      where
        go : (c : Bool) → some (pendings cells) s.n ≡ c → EndLands b s.n cells w a.here ms (row_rank a.d (step_of (cells w).mode) s.n) → Goes true was b (cond c Granting (Gapping 0)) s.n cells
        go true p z = record { stage = (z.0 p).0; lower = λ e. less _ (z.0 p).1 }
        go false p z = record { stage = (z.1 p).0; lower = λ e. less _ (z.1 p).1 }

    frees_it : is_end g ≡ false → Goes true was b Busy s.n cells
    unfolding is_turn is_filler
    frees_it e = go (is_filler a.d) refl
      where
        go : (c : Bool) → is_filler a.d ≡ c → Goes true was b Busy s.n cells
        go true q =
            let y = implied _ _ (table_at (λ d. implies (is_filler d) (clears_after d)) 22 tt a.d a.d_lt) q in
            let y0 = and-true (eqb a.d (filler_of (row_at a.d).round)) _ y in
            let y1 = and-true (every_in (row_at a.d).sender answering) _ y0.1 in
            let y2 = and-true (every_in (row_at a.d).after quiet) _ y1.1 in
            let z = clear_lands b s.n cells w a.here ms a.d (eqb-true _ _ y0.0 ∙ ap filler_of a.round) (mem-sub (row_at a.d).sender answering y1.0 (step_of (cells w).mode) sends_on)
            (λ k l o. mem-sub (row_at a.d).after quiet y2.0 (place_of (cells k).mode) (everyone k l o))
            a.who (λ k l p o. not_mem_sub requesting (row_at a.d).sole y2.1 (place_of (cells k).mode) (but_one k l p o)) in
            record { stage = z.0; lower = λ e. less _ z.1 }
        go false q =
            let z = turn_lands b s.n cells w a.here ms a.d a.d_lt (ap not (neither _ _ (ap (λ k. eqb k 1) (sym a.kind) ∙ e) q)) a.round sends_on everyone a.who but_one in
            record { stage = z.0; lower = λ e. less _ z.1 }

  delivered_goes : Goes true was b (onward s.n w g j (upd (pendings s.cell) j c.pending)) s.n cells
  delivered_goes =
      pick_by (λ p. Goes true was b p s.n cells) (ltb (next_other w j) s.n) _ _ (λ e. goes_on (ltb-true _ _ e)) λ e.
      let l = ltb-false (next_other w j) s.n e in
      pick_by (λ p. Goes true was b p s.n cells) (is_end g) _ _ (λ z. ends_it l z _ (some_agree (pendings cells) (upd (pendings s.cell) j c.pending) s.n (λ k l. upd_map (λ c. c.pending) s.cell j c k))) (frees_it l)

-- A HOLDER GOES ON. Node i goes from step c, which is also its place, to step c' at place e, and the bus stays: what the tables have to say for that
abbrev shifts : ℕ → ℕ → Bool
shifts c' t =
    ltb (suc t) 17 && (eqb (turn_at (suc t)).step c' && (every_in (turn_at t).room (turn_at (suc t)).room
    && (eqb (turn_at (suc t)).turns (turn_at t).turns && (ltb (turn_at (suc t)).more (turn_at t).more
    && (eqb (turn_at (suc t)).round (turn_at t).round && all_of (within (turn_at (suc t)).sole (turn_at t).sole) (turn_at t).room)))))

record Shift (c c' e : ℕ) : Type 0 where
  not_resting : mem c resting ≡ false
  turn_on : T (every (λ t. implies (eqb (turn_at t).step c) (shifts c' t)) 17)
  not_room : T (every (λ t. not (mem c (turn_at t).room)) 17)
  sends_on : T (every (λ d. implies (mem c (row_at d).sender) (mem c' (row_at d).sender)) 22)
  not_row : T (every (λ d. not (mem c (row_at d).before) && not (mem c (row_at d).after)) 22)
  clears_on : implies (mem c clear_steps) (mem c' clear_steps) ≡ true
  grants_on : implies (mem c grant_steps) (mem c' grant_steps) ≡ true
  lighter : implies (mem c grant_steps) (ltb (weigh e) (weigh c)) ≡ true
  poorer : bonus c' < bonus c
  not_quiet : mem c quiet ≡ false
  acting_on : active e ≡ true
  asks_not : mem e requesting ≡ false

responds : Shift P.answering (acking_at 0) P.acking
responds = record { not_resting = refl; turn_on = tt; not_room = tt; sends_on = tt; not_row = tt; clears_on = refl; grants_on = refl; lighter = refl; poorer = lit< tt; not_quiet = refl; acting_on = refl; asks_not = refl }

asks : Shift P.holding (sending_at 0) P.sending
asks = record { not_resting = refl; turn_on = tt; not_room = tt; sends_on = tt; not_row = tt; clears_on = refl; grants_on = refl; lighter = refl; poorer = lit< tt; not_quiet = refl; acting_on = refl; asks_not = refl }

module _ (b : Bool) (n : ℕ) (f : ℕ → Cell) (i : ℕ) (l : i < n) (c c' e : ℕ) (y : Shift c c' e) (x : Cell)
    (at_step : step_of (f i).mode ≡ c) (at_place : place_of (f i).mode ≡ c) (to_step : step_of x.mode ≡ c') (to-place : place_of x.mode ≡ e) (pend : x.pending ≡ (f i).pending) where
  abbrev shifted : ℕ → Cell
  shifted = upd f i x

  lighter_sum : mem c grant_steps ≡ true → total (weights shifted) n < total (weights f) n
  lighter_sum t = omega (arith, weights_upd f i x n l, ap weigh at_place, ap weigh to-place, ltb-true (weigh e) (weigh c) (implied (mem c grant_steps) _ y.lighter t))

  in_steps : (k : List ℕ) → mem c' k ≡ true → ((j : ℕ) → j < n → mem (step_of (f j).mode) k ≡ true) → (j : ℕ) → j < n → mem (step_of (shifted j).mode) k ≡ true
  in_steps k t u j z = at_upd (λ j d. j < n → mem (step_of d.mode) k ≡ true) f i x j (λ z. ap (λ c. mem c k) to_step ∙ t) (u j) z

  -- as a requester a node is who it was
  sole_on : {w : ℕ} → Sole n f requesting w → Sole n shifted requesting w
  sole_on {w} u k = at_upd (λ k d. k < n → k ≢ w → mem (place_of d.mode) requesting ≡ false) f i x k (λ z q. ap (λ p. mem p requesting) to-place ∙ y.asks_not) (u k)

  -- the one node at step c is not among the others
  sole_at : (w : ℕ) (k : List ℕ) → mem c k ≡ false → (i ≢ w → mem (place_of (f i).mode) k ≡ true) → w ≡ i
  sole_at w k t u = go (eqb i w) refl
    where
      go : (b : Bool) → eqb i w ≡ b → w ≡ i
      go true q = sym (eqb-true i w q)
      go false q = clash _ (ap (λ c. mem c k) (sym at_place) ∙ u (eqb-false i w q)) t

  -- its turn t' after its turn t
  talker_on : (t' : ℕ) → eqb (turn_at t').step c' ≡ true → step_of (shifted i).mode ≡ (turn_at t').step
  talker_on t' h = ap (λ d. step_of d.mode) (upd_same f i x) ∙ to_step ∙ sym (eqb-true (turn_at t').step c' h)

  room_on : (t t' : ℕ) → every_in (turn_at t).room (turn_at t').room ≡ true → (k : ℕ) → k ≢ i → mem (place_of (f k).mode) (turn_at t).room ≡ true → mem (place_of (shifted k).mode) (turn_at t').room ≡ true
  room_on t t' h k q z = ap (λ d. mem (place_of d.mode) (turn_at t').room) (upd_other f i x k q) ∙ mem-sub (turn_at t).room (turn_at t').room h (place_of (f k).mode) z

  but_on : (t t' : ℕ) → all_of (within (turn_at t').sole (turn_at t).sole) (turn_at t).room ≡ true → (k : ℕ) → k ≢ i → mem (place_of (f k).mode) (turn_at t).room ≡ true →
      mem (place_of (f k).mode) (turn_at t).sole ≡ false → mem (place_of (shifted k).mode) (turn_at t').sole ≡ false
  but_on t t' h k q z u = ap (λ d. mem (place_of d.mode) (turn_at t').sole) (upd_other f i x k q) ∙ not_within (turn_at t').sole (turn_at t).sole (turn_at t).room h (place_of (f k).mode) z u

  shift : (p : Phase) (a : Stage b p n f) → Goes true (rank b p n f a) b p n shifted
  shift Idle a = clash _ (ap (λ c. mem c resting) (sym at_place) ∙ a.rests i l) y.not_resting
  shift Busy (clears a) =
      let t : mem c clear_steps ≡ true = ap (λ c. mem c clear_steps) (sym at_step) ∙ a.steps i l in
      record {
        stage = clears (record {
          steps = in_steps clear_steps (implied (mem c clear_steps) _ y.clears_on t) a.steps;
          acts = some_at (acting shifted) n i l (ap (λ d. active (place_of d.mode)) (upd_same f i x) ∙ ap active to-place ∙ y.acting_on);
          who = a.who;
          sole = sole_on a.sole;
        });
        lower = λ z. omega (arith, lighter_sum (mem-sub clear_steps grant_steps refl c t));
      }
  shift Busy (talks a) =
      let q : a.w ≡ i = sole_at a.w (turn_at a.t).room (not-true _ (table_at (λ t. not (mem c (turn_at t).room)) 17 y.not_room a.t a.t_lt)) (a.room i l) in
      let d : (turn_at a.t).step ≡ c = sym a.talker ∙ ap (λ w. step_of (f w).mode) q ∙ at_step in
      let z = implied _ _ (table_at (λ t. implies (eqb (turn_at t).step c) (shifts c' t)) 17 y.turn_on a.t a.t_lt) (eq-eqb _ _ d) in
      let z0 = and-true (ltb (suc a.t) 17) _ z in
      let z1 = and-true (eqb (turn_at (suc a.t)).step c') _ z0.1 in
      let z2 = and-true (every_in (turn_at a.t).room (turn_at (suc a.t)).room) _ z1.1 in
      let z3 = and-true (eqb (turn_at (suc a.t)).turns (turn_at a.t).turns) _ z2.1 in
      let z4 = and-true (ltb (turn_at (suc a.t)).more (turn_at a.t).more) _ z3.1 in
      let z5 = and-true (eqb (turn_at (suc a.t)).round (turn_at a.t).round) _ z4.1 in
      record {
        stage = talks (record {
          t = suc a.t;
          t_lt = ltb-true (suc a.t) 17 z0.0;
          round = eqb-true (turn_at (suc a.t)).round (turn_at a.t).round z5.0 ∙ a.round;
          w = i;
          here = l;
          talker = talker_on (suc a.t) z1.0;
          room = λ k o p. room_on a.t (suc a.t) z2.0 k p (a.room k o (λ r. p (r ∙ q)));
          who = a.who;
          sole = λ k o p r. but_on a.t (suc a.t) z5.1 k p (a.room k o (λ r. p (r ∙ q))) (a.sole k o (λ r. p (r ∙ q)) r);
        });
        lower = λ z. less (eqb-true _ _ z3.0) (ltb-true _ _ z4.0);
      }
    where
      less : {p q r s : ℕ} → p ≡ q → r < s → p * n + r < q * n + s
      less {p} {q} {r} {s} e h = rw e (omega arith)
  shift (Delivering w g j) a =
      let q : w ≡ i = is_w (ltb i j) refl in
      let t : mem c (row_at a.d).sender ≡ true = ap (λ c. mem c (row_at a.d).sender) (sym at_step ∙ ap (λ k. step_of (f k).mode) (sym q)) ∙ a.sender in
      let e' : step_of (shifted w).mode ≡ c' = ap (λ k. step_of (shifted k).mode) q ∙ ap (λ d. step_of d.mode) (upd_same f i x) ∙ to_step in
      record {
        stage = record {
          d = a.d;
          d_lt = a.d_lt;
          round = a.round;
          kind = a.kind;
          here = a.here;
          next_lt = a.next_lt;
          apart = a.apart;
          sender = ap (λ c. mem c (row_at a.d).sender) e' ∙ implied _ _ (table_at (λ d. implies (mem c (row_at d).sender) (mem c' (row_at d).sender)) 22 y.sends_on a.d a.d_lt) t;
          before = λ k z p o. ap (λ d. mem (place_of d.mode) (row_at a.d).before) (upd_other f i x k (λ r. p (r ∙ sym q))) ∙ a.before k z p o;
          after = λ k z p o. ap (λ d. mem (place_of d.mode) (row_at a.d).after) (upd_other f i x k (λ r. p (r ∙ sym q))) ∙ a.after k z p o;
          who = a.who;
          sole = λ k z p o. ap (λ d. mem (place_of d.mode) (row_at a.d).sole) (upd_other f i x k (λ r. p (r ∙ sym q))) ∙ a.sole k z p o;
        };
        lower = λ z. omega (arith, ap bonus e', ap (λ k. bonus (step_of (f k).mode)) q, ap bonus at_step, y.poorer);
      }
    where
      off : (not (mem c (row_at a.d).before) ≡ true) × (not (mem c (row_at a.d).after) ≡ true)
      off = and-true _ _ (table_at (λ d. not (mem c (row_at d).before) && not (mem c (row_at d).after)) 22 y.not_row a.d a.d_lt)

      is_w : (b : Bool) → ltb i j ≡ b → w ≡ i
      is_w true r = sole_at w (row_at a.d).after (not-true _ off.1) (λ p. a.after i l p (ltb-true i j r))
      is_w false r = sole_at w (row_at a.d).before (not-true _ off.0) (λ p. a.before i l p (ltb-false i j r))
  shift Granting a =
      let t : mem c grant_steps ≡ true = ap (λ c. mem c grant_steps) (sym at_step) ∙ a.steps i l in
      record {
        stage = record { steps = in_steps grant_steps (implied (mem c grant_steps) _ y.grants_on t) a.steps; pends = some_agree (pendings shifted) (pendings f) n (λ k z. at_upd (λ k d. d.pending ≡ (f k).pending) f i x k pend refl) ∙ a.pends; who = a.who; sole = sole_on a.sole };
        lower = λ z. omega (arith, lighter_sum t);
      }
  shift (Gapping j) a = clash _ (ap (λ c. mem c quiet) (sym at_place) ∙ a.calm i l) y.not_quiet

-- a step of Sending, or of Acking past its first, is no step of clearing
pub odd_clear : (k : ℕ) → mem (sending_at k) clear_steps ≡ false
odd_clear k = rw (ne_eqb (31 + 2 * k) 0 (λ e. omega arith), ne_eqb (31 + 2 * k) 1 (λ e. omega arith), ne_eqb (31 + 2 * k) 15 (λ e. omega arith), ne_eqb (31 + 2 * k) 19 (λ e. omega arith), ne_eqb (31 + 2 * k) 22 (λ e. omega arith), ne_eqb (31 + 2 * k) 24 (λ e. omega arith), ne_eqb (31 + 2 * k) 30 (λ e. omega arith))

pub even_clear : (k : ℕ) → 1 ≤ k → mem (acking_at k) clear_steps ≡ false
even_clear k h = rw (ne_eqb (30 + 2 * k) 0 (λ e. omega arith), ne_eqb (30 + 2 * k) 1 (λ e. omega arith), ne_eqb (30 + 2 * k) 15 (λ e. omega arith), ne_eqb (30 + 2 * k) 19 (λ e. omega arith), ne_eqb (30 + 2 * k) 22 (λ e. omega arith), ne_eqb (30 + 2 * k) 24 (λ e. omega arith), ne_eqb (30 + 2 * k) 30 (λ e. omega arith))

-- A SIGNAL IS PUT OUT. A clock of the node whose turn it is puts out a signal of kind q and leaves it at step e: the row that follows, by the tables; with k = 1 the row after it, of the next round (Acking's closing Prefix)
clocks : Bool → ℕ → ℕ → ℕ → Turn → Bool
clocks fwd k q e t =
    ltb (t.next + k) 22 && (eqb q (row_at (t.next + k)).kind && (mem e (row_at (t.next + k)).sender && (every_in t.room (row_at (t.next + k)).before
    && (implies fwd (leb (suc (row_at (t.next + k)).turns) t.turns && leb ((row_at (t.next + k)).more + bonus e) t.more)
    && (eqb (row_at (t.next + k)).round (t.round + k) && all_of (within (row_at (t.next + k)).sole t.sole) t.room)))))

abbrev clocks_in : Bool → ℕ → ℕ → ℕ → Turn → Bool
clocks_in fwd k q e t = implies (leb (t.round + k) 1) (clocks fwd k q e t)

round_le : (b : Bool) → leb (round_of b) 1 ≡ true
round_le true = refl
round_le false = refl

module _ (s : State) (v : Reach s) (i : ℕ) (l : i < s.n) where
  -- row d starts from node i
  starts_row : (fwd b : Bool) (d r : ℕ) (g : Signal) (c : Cell) → d < 22 → (row_at d).round ≡ round_of b → kind_of g ≡ (row_at d).kind → mem (step_of c.mode) (row_at d).sender ≡ true →
      ((k : ℕ) → k < s.n → k ≢ i → mem (place_of (s.cell k).mode) (row_at d).before ≡ true) →
      (who : ℕ) → ((k : ℕ) → k < s.n → k ≢ i → k ≢ who → mem (place_of (s.cell k).mode) (row_at d).sole ≡ false) →
      (fwd ≡ true → s.n + row_rank d (step_of c.mode) s.n ≤ r) →
      Goes fwd r b (Delivering i g (first_other i)) s.n (upd s.cell i c)
  starts_row fwd b d r g c dl ro ki se ot who so le = record {
    stage = record {
      d = d;
      d_lt = dl;
      round = ro;
      kind = ki;
      here = l;
      next_lt = first-lt i s.n v.two;
      apart = first_apart i;
      sender = ap (λ x. mem (step_of x.mode) (row_at d).sender) (upd_same s.cell i c) ∙ se;
      before = λ k z p o. ap (λ x. mem (place_of x.mode) (row_at d).before) (upd_other s.cell i c k p) ∙ ot k z p;
      after = λ k z p o. absurd (first-none i k o p);
      who = who;
      sole = λ k z p o. ap (λ x. mem (place_of x.mode) (row_at d).sole) (upd_other s.cell i c k p) ∙ so k z p o;
    };
    lower = λ e. omega (arith, le e, left_lt i (first_other i) s.n (omega (arith, v.two)), ap (λ x. row_rank d (step_of x.mode) s.n) (upd_same s.cell i c));
  }

  -- node i's turn, from step c; b is the mark after
  turn_puts : (fwd b : Bool) (k c q e : ℕ) → T (every (λ t. implies (eqb (turn_at t).step c) (clocks_in fwd k q e (turn_at t))) 17) → round_of s.concatenated + k ≡ round_of b →
      (a : Talk s.concatenated s.n s.cell) → active (place_of (s.cell i).mode) ≡ true → step_of (s.cell i).mode ≡ c →
      (g : Signal) (x : Cell) → kind_of g ≡ q → step_of x.mode ≡ e → Goes fwd (turn_rank a.t s.n) b (Delivering i g (first_other i)) s.n (upd s.cell i x)
  unfolding clocks
  turn_puts fwd b k c q e t m a z st g x kq xe =
      let w : i ≡ a.w = is_talker s.concatenated s.n s.cell a i l z in
      let d = (turn_at a.t).next + k in
      let r : (turn_at a.t).round + k ≡ round_of b = ap (λ r. r + k) a.round ∙ m in
      let y = implied _ _ (turn_fact s.concatenated s.n s.cell a c (ap (λ i. step_of (s.cell i).mode) (sym w) ∙ st) (clocks_in fwd k q e) t) (ap (λ r. leb r 1) r ∙ round_le b) in
      let y0 = and-true (ltb d 22) _ y in
      let y1 = and-true (eqb q (row_at d).kind) _ y0.1 in
      let y2 = and-true (mem e (row_at d).sender) _ y1.1 in
      let y3 = and-true (every_in (turn_at a.t).room (row_at d).before) _ y2.1 in
      let y4 = and-true (implies fwd (leb (suc (row_at d).turns) (turn_at a.t).turns && leb ((row_at d).more + bonus e) (turn_at a.t).more)) _ y3.1 in
      let y5 = and-true (eqb (row_at d).round ((turn_at a.t).round + k)) _ y4.1 in
      starts_row fwd b d (turn_rank a.t s.n) g x (ltb-true d 22 y0.0) (eqb-true _ _ y5.0 ∙ r) (kq ∙ eqb-true _ _ y1.0) (ap (λ c. mem c (row_at d).sender) xe ∙ y2.0)
      (λ k o p. mem-sub (turn_at a.t).room (row_at d).before y3.0 (place_of (s.cell k).mode) (a.room k o (λ j. p (j ∙ sym w))))
      a.who (λ k o p u. not_within (row_at d).sole (turn_at a.t).sole (turn_at a.t).room y5.1 (place_of (s.cell k).mode) (a.room k o (λ j. p (j ∙ sym w))) (a.sole k o (λ j. p (j ∙ sym w)) u))
      (λ f. let b = and-true (leb (suc (row_at d).turns) (turn_at a.t).turns) _ (implied fwd _ y4.0 f) in
      omega (arith, ap bonus xe, rank_le (suc (row_at d).turns) (turn_at a.t).turns ((row_at d).more + bonus e) (turn_at a.t).more s.n (leb-true _ _ b.0) (leb-true _ _ b.1)))

  -- the round goes on
  same_round : round_of s.concatenated + 0 ≡ round_of s.concatenated
  same_round = omega arith

  -- the last step of Sending is 5, and that of Acking 2
  last_sending : (a : Talk s.concatenated s.n s.cell) (k : ℕ) → 5 ≤ k → (turn_at a.t).step ≡ sending_at k → k ≡ 5
  last_sending a k h e = omega (arith, ltb-true (turn_at a.t).step 42 (table_at (λ t. ltb (turn_at t).step 42) 17 tt a.t a.t_lt))

  last_acking : (a : Talk s.concatenated s.n s.cell) (k : ℕ) → 2 ≤ k → (turn_at a.t).step ≡ acking_at k → k ≡ 2
  last_acking a k h e =
      let odds = sending_at 0 ∷ sending_at 1 ∷ sending_at 2 ∷ sending_at 3 ∷ sending_at 4 ∷ sending_at 5 ∷ [] in
      let z = or-true (mem (turn_at a.t).step odds) _ (table_at (λ t. mem (turn_at t).step odds || leb (turn_at t).step 34) 17 tt a.t a.t_lt) (ap (λ c. mem c odds) e ∙ not_odd) in
      omega (arith, leb-true (turn_at a.t).step 34 z)
    where
      not_odd : mem (acking_at k) (sending_at 0 ∷ sending_at 1 ∷ sending_at 2 ∷ sending_at 3 ∷ sending_at 4 ∷ sending_at 5 ∷ []) ≡ false
      not_odd = rw (ne_eqb (30 + 2 * k) 31 (λ e. omega arith), ne_eqb (30 + 2 * k) 33 (λ e. omega arith), ne_eqb (30 + 2 * k) 35 (λ e. omega arith), ne_eqb (30 + 2 * k) 37 (λ e. omega arith), ne_eqb (30 + 2 * k) 39 (λ e. omega arith), ne_eqb (30 + 2 * k) 41 (λ e. omega arith))

  -- what node i puts out in its turn, and while the bus clears; x is its cell then
  abbrev after_put : Mode → Signal → Cell
  after_put m g = puts_out g m (s.cell i)

  abbrev Put : Bool → ℕ → Mode → Signal → Mode → Type 0
  Put fwd r m₀ g m = Goes fwd r (concatenated_after (marking_by m₀ g) s.concatenated) (Delivering i g (first_other i)) s.n (upd s.cell i (after_put m g))

  puts_turn : (a : Talk s.concatenated s.n s.cell) (m : Mode) (g : Signal) (m' : Mode) (r : Report) → (s.cell i).mode ≡ m → Puts i (s.cell i).sending m g m' r → Put (not (is_answering m || is_holding m)) (turn_rank a.t s.n) m g m'
  unfolding clocks
  puts_turn a m g m' r e start = turn_puts true s.concatenated 0 (sending_at 0) 0 (sending_at 1) tt same_round a (ap (λ m. active (place_of m)) e) (ap step_of e) g (after_put m' g) refl refl
  puts_turn a m g m' r e dhead = turn_puts true s.concatenated 0 (sending_at 1) 4 (sending_at 2) tt same_round a (ap (λ m. active (place_of m)) e) (ap step_of e) g (after_put m' g) refl refl
  puts_turn a m g m' r e dest = turn_puts true s.concatenated 0 (sending_at 2) 5 (sending_at 3) tt same_round a (ap (λ m. active (place_of m)) e) (ap step_of e) g (after_put m' g) refl refl
  puts_turn a m g m' r e header = turn_puts true s.concatenated 0 (sending_at 3) 6 (sending_at 4) tt same_round a (ap (λ m. active (place_of m)) e) (ap step_of e) g (after_put m' g) refl refl
  puts_turn a m g m' r e datum = turn_puts true s.concatenated 0 (sending_at 4) 7 (sending_at 5) tt same_round a (ap (λ m. active (place_of m)) e) (ap step_of e) g (after_put m' g) refl refl
  puts_turn a m g m' r e (end_all {k = k} h u) =
      let z : active (place_of (s.cell i).mode) ≡ true = ap (λ m. active (place_of m)) e in
      let w = is_talker s.concatenated s.n s.cell a i l z in
      let q : k ≡ 5 = last_sending a k h (sym a.talker ∙ ap (λ i. step_of (s.cell i).mode) (sym w) ∙ ap step_of e) in
      turn_puts true s.concatenated 0 (sending_at 5) 1 P.rest tt same_round a z (ap step_of e ∙ ap sending_at q) g (after_put m' g) refl refl
  puts_turn a m g m' r e (end_one {k = k} h u) =
      let z : active (place_of (s.cell i).mode) ≡ true = ap (λ m. active (place_of m)) e in
      let w = is_talker s.concatenated s.n s.cell a i l z in
      let q : k ≡ 5 = last_sending a k h (sym a.talker ∙ ap (λ i. step_of (s.cell i).mode) (sym w) ∙ ap step_of e) in
      turn_puts true s.concatenated 0 (sending_at 5) 1 P.await_ack tt same_round a z (ap step_of e ∙ ap sending_at q) g (after_put m' g) refl refl
  puts_turn a m g m' r e filler = absurd (no_turn s.concatenated s.n s.cell a P.answering tt (ap (λ i. step_of (s.cell i).mode) (sym (is_talker s.concatenated s.n s.cell a i l (ap (λ m. active (place_of m)) e))) ∙ ap step_of e))
  puts_turn a m g m' r e ack_start = absurd (no_turn s.concatenated s.n s.cell a (acking_at 0) tt (ap (λ i. step_of (s.cell i).mode) (sym (is_talker s.concatenated s.n s.cell a i l (ap (λ m. active (place_of m)) e))) ∙ ap step_of e))
  puts_turn a m g m' r e ack_body_lem = turn_puts true s.concatenated 0 (acking_at 1) 8 (acking_at 2) tt same_round a (ap (λ m. active (place_of m)) e) (ap step_of e) g (after_put m' g) refl refl
  puts_turn a m g m' r e (ack_hold {k = k} h) =
      let z : active (place_of (s.cell i).mode) ≡ true = ap (λ m. active (place_of m)) e in
      let w = is_talker s.concatenated s.n s.cell a i l z in
      let q : k ≡ 2 = last_acking a k h (sym a.talker ∙ ap (λ i. step_of (s.cell i).mode) (sym w) ∙ ap step_of e) in
      let u : s.concatenated ≡ false = by_test s.concatenated (λ y. never (sym (v.last y i l) ∙ ap hold_in e)) (λ y. y) in
      let o : round_of s.concatenated ≡ 0 = ap round_of u in
      turn_puts true true 1 (acking_at 2) 2 P.holding tt (omega (arith, o)) a z (ap step_of e ∙ ap acking_at q) g (after_put m' g) refl refl
  puts_turn a m g m' r e (ack_end {k = k} h) =
      let z : active (place_of (s.cell i).mode) ≡ true = ap (λ m. active (place_of m)) e in
      let w = is_talker s.concatenated s.n s.cell a i l z in
      let q : k ≡ 2 = last_acking a k h (sym a.talker ∙ ap (λ i. step_of (s.cell i).mode) (sym w) ∙ ap step_of e) in
      turn_puts true s.concatenated 0 (acking_at 2) 1 P.rest tt same_round a z (ap step_of e ∙ ap acking_at q) g (after_put m' g) refl refl
  puts_turn a m g m' r e holds_on = turn_puts false s.concatenated 0 P.holding 2 P.holding tt same_round a (ap (λ m. active (place_of m)) e) (ap step_of e) g (after_put m' g) refl refl

  module _ (a : Clear s.n s.cell) (o : others (holders s.cell) i s.n ≡ false) where
    other_step : {A : Type 0} (m : Mode) → (s.cell i).mode ≡ m → mem (step_of m) clear_steps ≡ false → A
    other_step {A} m e t = clash _ (a.steps i l) (ap (λ m. mem (step_of m) clear_steps) e ∙ t)

    -- a filler of Answering, and the Start of its acknowledgement, in either round
    filler_row : (b : Bool) → s.concatenated ≡ b → Put false (clear_rank s.concatenated s.n s.cell) Answering Prefix Answering
    filler_row true e = starts_row false s.concatenated 18 _ Prefix (after_put Answering Prefix) (lit< tt) (sym (ap round_of e)) refl refl (sole_quiet s v.marks a.steps i o) a.who (λ k z p q. a.sole k z q) never
    filler_row false e = starts_row false s.concatenated 6 _ Prefix (after_put Answering Prefix) (lit< tt) (sym (ap round_of e)) refl refl (sole_quiet s v.marks a.steps i o) a.who (λ k z p q. a.sole k z q) never

    ack_row : (c : ℕ) (h b : Bool) → s.concatenated ≡ b → Put true (clear_rank s.concatenated s.n s.cell) (Acking 0 c h) Start (Acking 1 c h)
    ack_row c h true e = starts_row true s.concatenated 19 _ Start (after_put (Acking 1 c h) Start) (lit< tt) (sym (ap round_of e)) refl refl (sole_quiet s v.marks a.steps i o) a.who (λ k z p q. a.sole k z q) (λ z. rw e (omega arith))
    ack_row c h false e = starts_row true s.concatenated 7 _ Start (after_put (Acking 1 c h) Start) (lit< tt) (sym (ap round_of e)) refl refl (sole_quiet s v.marks a.steps i o) a.who (λ k z p q. a.sole k z q) (λ z. rw e (omega arith))

    puts_clear : (m : Mode) (g : Signal) (m' : Mode) (r : Report) → (s.cell i).mode ≡ m → Puts i (s.cell i).sending m g m' r → Put (not (is_answering m || is_holding m)) (clear_rank s.concatenated s.n s.cell) m g m'
    puts_clear m g m' r e start = other_step m e refl
    puts_clear m g m' r e dhead = other_step m e refl
    puts_clear m g m' r e dest = other_step m e refl
    puts_clear m g m' r e header = other_step m e refl
    puts_clear m g m' r e datum = other_step m e refl
    puts_clear m g m' r e (end_all {k = k} h u) = other_step m e (odd_clear k)
    puts_clear m g m' r e (end_one {k = k} h u) = other_step m e (odd_clear k)
    puts_clear m g m' r e filler = filler_row s.concatenated refl
    puts_clear m g m' r e (ack_start {a = c} {h = h}) = ack_row c h s.concatenated refl
    puts_clear m g m' r e ack_body_lem = other_step m e refl
    puts_clear m g m' r e (ack_hold {k = k} h) = other_step m e (even_clear k (omega arith))
    puts_clear m g m' r e (ack_end {k = k} h) = other_step m e (even_clear k (omega arith))
    puts_clear m g m' r e holds_on = other_step m e refl

    -- a spurious holder ends its holding
    frees_goes : place_of (s.cell i).mode ≡ P.spurious → Goes true (clear_rank s.concatenated s.n s.cell) s.concatenated (Gapping 0) s.n (upd s.cell i (freed (s.cell i)))
    frees_goes p = record {
      stage = record {
        gap_lt = omega arith;
        calm = λ k z. at_upd≢ (λ k c. k < s.n → mem (place_of c.mode) quiet ≡ true) s.cell i _ k (λ z. refl) (λ q z. sole_quiet s v.marks a.steps i o k z q) z;
        past = λ k z q. absurd (omega arith);
      };
      lower = λ z. fewer s.concatenated;
    }
      where
        fewer : (b : Bool) → s.n - 0 < clear_rank b s.n s.cell
        fewer true = omega (arith, v.two)
        fewer false = omega arith

  -- other holders are left
  frees_one : Clear s.n s.cell → others (holders s.cell) i s.n ≡ true → place_of (s.cell i).mode ≡ P.spurious →
      Goes true (clear_rank s.concatenated s.n s.cell) s.concatenated Busy s.n (upd s.cell i (freed (s.cell i)))
  frees_one a o p = record {
    stage = clears (record {
      steps = λ k z. at_upd (λ k c. k < s.n → mem (step_of c.mode) clear_steps ≡ true) s.cell i x k (λ z. refl) (a.steps k) z;
      acts = some_agree (acting (upd s.cell i x)) (upd (holders s.cell) i false) s.n (λ k z. upd_map (λ c. active (place_of c.mode)) s.cell i x k ∙ at_upd≢ (λ k b. upd (acting s.cell) i false k ≡ b) (holders s.cell) i false k (upd_same (acting s.cell) i false) (λ q. upd_other (acting s.cell) i false k q ∙ sym (v.marks k).1)) ∙ o;
      who = a.who;
      sole = λ k. at_upd (λ k c. k < s.n → k ≢ a.who → mem (place_of c.mode) requesting ≡ false) s.cell i x k (λ z q. refl) (a.sole k);
    });
    lower = λ z. omega (arith, weights_upd s.cell i x s.n l, ap weigh p);
  }
    where
      x : Cell
      x = freed (s.cell i)

-- THE WAYS
module _ (s : State) (v : Reach s) where
  abbrev mark : Bool
  mark = s.concatenated

  abbrev now : ℕ
  now = rank mark s.phase s.n s.cell v.stage

  -- what is left, with 1 for node i where it is Asked; an action counts where it is forward and the bus is not Idle
  abbrev left_with : ℕ → ℕ
  left_with i = now + one (is_asked (s.cell i).mode)

  abbrev counting : Move → Bool
  counting m = forward s m && not (is_idle s.phase)

  counts : (fwd : Bool) (m : Move) (r k : ℕ) (b : Bool) (p : Phase) (f : ℕ → Cell) → (forward s m ≡ true → fwd ≡ true) → Goes fwd r b p s.n f → Goes (counting m) (r + k) b p s.n f
  counts fwd m r k b p f h g = record { stage = g.stage; lower = λ e. omega (arith, g.lower (h (and-true (forward s m) _ e).0)) }

  -- the one cell that changes keeps its pending mark, and its mode but for Rest and Asked
  unmoved : (m : Move) (i : ℕ) (c : Cell) → Same (s.cell i).mode c.mode → c.pending ≡ (s.cell i).pending → (forward s m ≡ true → is_asked (s.cell i).mode ≡ true) →
      Goes (counting m) (left_with i) mark s.phase s.n (upd s.cell i c)
  unmoved m i c e q h =
      same_goes mark s.n s.cell (upd s.cell i c) (λ k. at_upd (λ k c. Same (s.cell k).mode c.mode) s.cell i c k e same) (λ k. at_upd (λ k c. c.pending ≡ (s.cell k).pending) s.cell i c k q refl)
      (counting m) (left_with i) s.phase (record { stage = v.stage; lower = λ z. omega (arith, ap one (h (and-true (forward s m) _ z).0)) })

  -- in a phase q that is known
  on_phase : (fwd : Bool) (m : Move) (i : ℕ) (b : Bool) (p : Phase) (c : Cell) (q : Phase) → (forward s m ≡ true → fwd ≡ true) → s.phase ≡ q →
      ((a : Stage mark q s.n s.cell) → Goes fwd (rank mark q s.n s.cell a) b p s.n (upd s.cell i c)) → Goes (counting m) (left_with i) b p s.n (upd s.cell i c)
  on_phase fwd m i b p c q h e g =
      counts fwd m now _ b p _ h
      (subst (λ x. ((a : Stage mark x s.n s.cell) → Goes fwd (rank mark x s.n s.cell a) b p s.n (upd s.cell i c)) → Goes fwd now b p s.n (upd s.cell i c)) e (λ g. g v.stage) g)

  won_goes : (i : ℕ) (c : Cell) → i < s.n → s.phase ≡ Idle → c.mode ≡ Sending 0 → Goes false now mark Busy s.n (upd s.cell i c)
  won_goes i c l q e = record {
    stage = talks (record {
      t = 0;
      t_lt = lit< tt;
      round = sym (ap round_of idle.unmarked);
      w = i;
      here = l;
      talker = ap (λ d. step_of d.mode) (upd_same s.cell i c) ∙ ap step_of e;
      room = λ k z o. ap (λ d. mem (place_of d.mode) resting) (upd_other s.cell i c k o) ∙ idle.rests k z;
      who = i;
      sole = λ k z o y. ap (λ d. mem (place_of d.mode) requesting) (upd_other s.cell i c k o) ∙ rest_at (λ p. mem p requesting) refl (s.cell k).mode (idle.rests k z);
    });
    lower = never;
  }
    where
      idle : IdleAt mark s.n s.cell
      idle = subst (λ p. Stage mark p s.n s.cell) q v.stage

  granted_goes : (i : ℕ) → i < s.n → (s.cell i).pending ≡ true → (a : GrantingAt s.n s.cell) → (c : Cell) → c.mode ≡ granted (s.cell i).mode → c.pending ≡ false →
      Goes true (clear_rank mark s.n s.cell) mark (after_grant s.n i (pendings s.cell)) s.n (upd s.cell i c)
  granted_goes i l p a c e q =
      pick_by (λ x. Goes true (clear_rank mark s.n s.cell) mark x s.n cells) (others (pendings s.cell) i s.n) _ _
      (λ o. record { stage = record { steps = in_grant; pends = some_agree (pendings cells) (upd (pendings s.cell) i false) s.n pend_upd ∙ o; who = a.who; sole = alone }; lower = λ z. omega (arith, sum) })
      (λ o. record { stage = clears (record { steps = clear o; acts = some_at (acting cells) s.n i l (ap (λ d. active (place_of d.mode)) (upd_same s.cell i c) ∙ acts_now); who = a.who; sole = alone }); lower = λ z. omega (arith, sum) })
    where
      cells : ℕ → Cell
      cells = upd s.cell i c

      x : Mode
      x = (s.cell i).mode

      g : Granted x
      g = is_granted x (owes_whole x (a.steps i l) (sym (v.marks i).0 ∙ p))

      acts_now : active (place_of c.mode) ≡ true
      acts_now = ap (λ m. active (place_of m)) e ∙ g.holds

      alone : Sole s.n cells requesting a.who
      alone k = at_upd (λ k c. k < s.n → k ≢ a.who → mem (place_of c.mode) requesting ≡ false) s.cell i c k
          (λ z o. not_implied _ _ (law_mode (λ p. implies (mem p requesting) (not (active p))) tt c.mode) (ap not acts_now)) (a.sole k)

      at_it : (l : List ℕ) → every_in (P.answering ∷ P.spurious ∷ []) l ≡ true → mem (step_of c.mode) l ≡ true
      at_it l t = ap (λ m. mem (step_of m) l) e ∙ mem-sub (P.answering ∷ P.spurious ∷ []) l t (step_of (granted x)) g.step

      sum : total (weights cells) s.n + 1 ≡ total (weights s.cell) s.n
      sum = omega (arith, weights_upd s.cell i c s.n l, ap (λ m. weigh (place_of m)) e, g.lighter)

      pend_upd : (k : ℕ) → k < s.n → pendings cells k ≡ upd (pendings s.cell) i false k
      pend_upd k z = upd_map (λ c. c.pending) s.cell i c k ∙ ap (λ b. upd (pendings s.cell) i b k) q

      in_grant : (k : ℕ) → k < s.n → mem (step_of (cells k).mode) grant_steps ≡ true
      in_grant k z = at_upd (λ k c. k < s.n → mem (step_of c.mode) grant_steps ≡ true) s.cell i c k (λ z. at_it grant_steps refl) (a.steps k) z

      clear : others (pendings s.cell) i s.n ≡ false → (k : ℕ) → k < s.n → mem (step_of (cells k).mode) clear_steps ≡ true
      clear o k z = at_upd≢ (λ k c. k < s.n → mem (step_of c.mode) clear_steps ≡ true) s.cell i c k (λ z. at_it clear_steps refl)
          (λ q z. owes_no (s.cell k).mode (a.steps k z) (sym (v.marks k).0 ∙ others_off (pendings s.cell) s.n i o k z q)) z

  -- node j gets its Gap, and others are to come; or it was the last, and the bus is Idle and unmarked
  module _ (j : ℕ) (a : GappingAt s.n s.cell j) (u : is_asked (s.cell j).mode ≡ false) where
    abbrev x : Cell
    x = after_gap j (s.cell j)

    abbrev gapped : ℕ → Cell
    gapped = upd s.cell j x

    rested : place_of (receives hears j (s.cell j) Gap).mode ≡ P.rest
    rested = eqb-true _ _ (implied (mem (place_of (s.cell j).mode) quiet) _ (implied (not (is_asked (s.cell j).mode)) _
        (law (λ y p c. implies (eqb c S.gap) (implies (not (eqb p P.asked)) (implies (mem p quiet) (eqb y.place P.rest)))) tt j _ (s.cell j).mode Gap) (ap not u)) (a.calm j a.gap_lt))

    low : (k : ℕ) → k < s.n → k < suc j → mem (place_of (gapped k).mode) resting ≡ true
    low k l z = at_upd≢ (λ k c. k < s.n → k < suc j → mem (place_of c.mode) resting ≡ true) s.cell j x k (λ l z. ap (λ p. mem p resting) rested) (λ q l z. a.past k l (omega arith)) l z

    still : (k : ℕ) → k < s.n → mem (place_of (gapped k).mode) quiet ≡ true
    still k l = at_upd (λ k c. k < s.n → mem (place_of c.mode) quiet ≡ true) s.cell j x k (λ l. ap (λ p. mem p quiet) rested) (a.calm k) l

    gapped_goes : suc j < s.n → Goes true (s.n - j) mark (Gapping (suc j)) s.n gapped
    gapped_goes l = record { stage = record { gap_lt = l; calm = still; past = low }; lower = λ z. omega arith }

    settled_goes : s.n ≤ suc j → Goes true (s.n - j) false Idle s.n gapped
    settled_goes l = record { stage = record { unmarked = refl; rests = λ k z. low k z (omega arith) }; lower = λ z. omega (arith, a.gap_lt) }

  -- what arrives is of the same kind as what was put out
  same_kind : (b : Bool) (y : Way) (g t : Signal) (c : Bool) → Arrives b y g t c → kind_of t ≡ kind_of g
  same_kind b y g t c passes = passed_by (λ x. kind_of x ≡ kind_of g) b g refl (λ h c d e. ap kind_of (sym e))
  same_kind b y g t c (redirects e) = refl
  same_kind b y g t c bad_header = refl
  same_kind b y g t c bad_data = refl
  same_kind b y g t c bad_ack = refl

  moves_on : (m : Move) (i : ℕ) (r : Report) (p : Phase) (c : Cell) (x : Marking) → i < s.n → may_act s m ≡ true → Effect s m i (does r p c x) → Goes (counting m) (left_with i) (concatenated_after x mark) p s.n (upd s.cell i c)
  moves_on m i r p c x l u (waits e f) = unmoved m i c same refl (λ z. clash _ z (ap (λ p. eqb p P.holding) e))
  moves_on m i r p c x l u (replies e) =
      counts true m now _ _ p _ (λ z. refl) (shift mark s.n s.cell i l P.holding (sending_at 0) P.sending asks c (ap step_of e) (ap place_of e) refl refl refl s.phase v.stage)
  moves_on m i r p c x l u (claims e f) = unmoved m i c (rests (ap (λ p. mem p resting) e) refl) refl never
  moves_on m i r p c x l u (wins d q f w) = let g = won_goes i c l q refl in record { stage = g.stage; lower = λ z. clash _ (and-true (forward s m) _ z).1 (ap (λ p. not (is_idle p)) q) }
  moves_on m i r p c x l u (loses (at_once e)) = unmoved m i c (rests (ap (λ p. mem p resting) e) refl) refl never
  moves_on m i r p c x l u (loses (asked e)) = unmoved m i c (rests (ap (λ p. mem p resting) e) refl) refl (λ z. ap (λ p. eqb p P.asked) e)
  moves_on m i r p c x l u (gives e o) = counts true m now _ _ p _ (λ z. refl) (shift mark s.n s.cell i l P.answering (acking_at 0) P.acking responds c (ap step_of e) (ap place_of e) refl refl refl s.phase v.stage)
  moves_on m i r p c x l u (puts {g = g} {m = m'} q h o y) = on_phase (forward s m) m i _ p c Busy (λ z. z) q go
    where
      go : (c : BusyAt mark s.n s.cell) → Goes (not (is_answering (s.cell i).mode || is_holding (s.cell i).mode)) (busy_rank mark s.n s.cell c) (concatenated_after (marking_by (s.cell i).mode g) mark) (Delivering i g (first_other i)) s.n (upd s.cell i (puts_out g m' (s.cell i)))
      go (talks a) = puts_turn s v i l a (s.cell i).mode g m' r refl y
      go (clears a) = puts_clear s v i l a o (s.cell i).mode g m' r refl y
  moves_on m i r p c x l u (frees q h e) = on_phase true m i _ p c Busy (λ z. refl) q go
    where
      go : (c : BusyAt mark s.n s.cell) → Goes true (busy_rank mark s.n s.cell c) mark (after_free s.n i (holders s.cell)) s.n (upd s.cell i (freed (s.cell i)))
      go (talks a) = absurd (no_turn mark s.n s.cell a P.spurious tt (ap (λ i. step_of (s.cell i).mode) (sym (is_talker mark s.n s.cell a i l (ap (λ m. active (place_of m)) e))) ∙ ap step_of e))
      go (clears a) = pick_by (λ z. Goes true (clear_rank mark s.n s.cell) mark z s.n (upd s.cell i (freed (s.cell i)))) (others (holders s.cell) i s.n) _ _ (λ o. frees_one s v i l a o (ap place_of e)) (λ o. frees_goes s v i l a o (ap place_of e))
  moves_on m i r p c x l u (arrives {v = y} {w = w} {g = g} {t = t} {b = b} q z) = on_phase true m i _ p c (Delivering w g i) (λ z. refl) q λ a.
      delivered_goes s w g i a c (heard_lands a.d a.d_lt i _ (s.cell i).mode t (unasked s u i l) (same_kind _ y g t b z ∙ a.kind) (a.before i a.next_lt a.apart (omega arith))) (λ k. at_upd (λ k c. Marks c) s.cell i c k (own_marks s v m i r p c x (arrives q z)) (v.marks k))
  moves_on m i r p c x l u (is_lost {w = w} {g = g} q e) = on_phase true m i _ p c (Delivering w g i) (λ z. refl) q λ a.
      delivered_goes s w g i a c (lost_lands a.d a.d_lt (subst (λ q. leb 6 q ≡ true) a.kind e) (s.cell i).mode (a.before i a.next_lt a.apart (omega arith)))
      (λ k. at_upd (λ k c. Marks c) s.cell i c k (v.marks i) (v.marks k))
  moves_on m i r p c x l u (grants q e z) = on_phase true m i _ p c Granting (λ z. refl) q λ a.
      granted_goes i l (subst (λ i. (s.cell i).pending ≡ true) z (lowest_of (pendings s.cell) s.n 0 e)) a c refl refl
  moves_on m i r p c x l u (grants_none q e) = on_phase true m i _ p c Granting (λ z. refl) q λ a. clash _ a.pends e
  moves_on m i r p c x l u (gaps q z) = on_phase true m i _ p c (Gapping i) (λ z. refl) q (λ a. gapped_goes i a (unasked s u i l) z)
  moves_on m i r p c x l u (settles q z) = on_phase true m i _ p c (Gapping i) (λ z. refl) q (λ a. settled_goes i a (unasked s u i l) z)
  moves_on m i r p c x l u (resets q) = unmoved m i c same refl never

  -- an accepted action keeps what every reached state has, and a forward one leaves less to do, unless the bus is Idle
  pub effect_reach : (m : Move) (i : ℕ) (r : Report) (p : Phase) (c : Cell) (x : Marking) → i < s.n → may_act s m ≡ true → Effect s m i (does r p c x) →
      (u : Reach (remarked x (moved s p i c))) × (forward s m ≡ true → is_idle s.phase ≡ false → to_go (remarked x (moved s p i c)) u < to_go s v)
  effect_reach m i r p c x l u y =
      let g = remarked_goes x (moved s p i c) (counting m) (left_with i) (moves_on m i r p c x l u y) in
      let z = asking s m i r p c x l u y in (
        record {
          two = subst (λ n. 2 ≤ n) (sym (remarked_n x (moved s p i c))) v.two;
          marks = marks_kept s v m i r p c x y;
          ready = remarked_ready x (moved s p i c) (λ k. at_upd (λ k c. Ready c) s.cell i c k (λ q. z.full (sym z.now ∙ q)) (v.ready k));
          stage = g.stage;
          last = last_kept s v m i r p c x l y;
        },
        λ f q. omega (arith, g.lower (both _ _ f (ap not q)), remarked_undecided x (moved s p i c), undecided_upd s.cell i c s.n l, ap one (z.now ∙ not_ask s m f)),
      )
