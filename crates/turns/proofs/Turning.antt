-- One turn of a trial over arrays: if these stood for the charts' trial after k actions, what the turn leaves stands for it after one more. Assumes nothing.
use Rattle.std.specs.Prelude.{Ok, Err}
use mathlib.Core.Path.{◌≡◌, refl, sym, ap, ap₂, subst, ◌∙◌, fun_ext}
use mathlib.Core.Bool.{Bool, true, false, cond, ◌&&◌}
use mathlib.Core.Logic.{◌≢◌}
use mathlib.Core.List.{List, [], ◌∷◌}
use Prim.Native.Nat.{ℕ, suc, ◌+◌, ◌-◌, ◌<◌, ◌≤◌}
use native.Mathlib.Omega.{arith}
use lib.Dec.{eqb, ltb}
use lib.ListN.{get_or, set, length}
use borrow.Author.Tests.{eqb-true, eq-eqb, ltb-false}
use Rattle.charts.specs.declared.Action.{Action}
use Rattle.charts.specs.declared.Bus.{Bus}
use Rattle.charts.specs.declared.Cell.{Cell}
use Rattle.charts.specs.declared.Kept.{Kept}
use Rattle.charts.specs.declared.Played.{Played}
use Rattle.charts.specs.declared.Refusal.{Refusal}
use Rattle.charts.specs.declared.Report.{Report}
use Rattle.charts.specs.declared.Report.TheVariants as R
use Rattle.charts.specs.declared.Tally.{Tally}
use Rattle.charts.specs.declared.User.{User}
use Rattle.charts.specs.Modes.{is_answering}
use Rattle.charts.specs.State.{State, upd, is_idle, fresh}
use Rattle.charts.specs.Actions.{next_of}
use Rattle.charts.specs.Records.{move_of}
use Rattle.charts.specs.Valid.{valid}
use Rattle.charts.specs.Step.{Event, refusal, accepted, is_accepted, some_asked, event_of, events, step}
use Rattle.charts.specs.Demand.{is_open, one, final, history}
use Rattle.charts.specs.Trials.{Load, nothing_kept, lowered, reported, choice, waits, waited, is_carried, heard_after, won_by, keeps, follows, turned, acted, load_after, chosen, trial, counted, no_tally, tally_on, tally_of, is_request}
use Rattle.charts.specs.View.{view, cell_of, mark, fresh_node, seen, told}
use Rattle.charts.specs.Numbers.{err_number}
use Rattle.charts.proofs.Steps.{is_valid, next_lt, step_n, refuses_it}
use Rattle.charts.proofs.Tools.{and-true, both, pick, clash, upd_map}
use Rattle.charts.proofs.Views.{get_d_set}
use Rattle.charts.proofs.Chosen.{Chosen, chosen_by}
use Rattle.charts.proofs.Settings.{is_trial, events_more, tally_more, ran, keeps_settings, filled_le, fills_short, made_le}
use Rattle.bus.specs.Advance.{advance_of}
use Rattle.bus.specs.Asking.{places}
use Rattle.bus.proofs.Advances.{advance_is_step}
use Rattle.bus.proofs.ViewLaws.{view_n}
use Rattle.turns.specs.Turns.{kept_in, left_in, full_in, stray_in, waits_by, actor_by, chooses_at, checked_in, filled_by, made_by, kept_after, lowered_by, spells, spelled, request_counted, report_counted, load_in, tally_after, Allowed, Stands}
use Rattle.turns.proofs.Rules.{waits_is, actor, choice_is, named, names_now, heard_then, made_then, filled_then, Short, counted_is}

places_is : (n : ℕ) → n ≤ 63 → places n ≡ n
places_is n h = go (ltb n 63) refl
  where
    go : (b : Bool) → ltb n 63 ≡ b → cond b n 63 ≡ n
    go true e = refl
    go false e = let z = ltb-false n 63 e in omega arith

-- a counter is at most the number of events
record Few (m : ℕ) (t : Tally) : Type 0 where
  requests_le : t.requests ≤ m
  wins_le : t.wins ≤ m
  sent_le : t.sent ≤ m
  acks_le : t.acks ≤ m
  misses_le : t.misses ≤ m
  drops_le : t.drops ≤ m

grown : (m : ℕ) (r : Report) (t : Tally) → t.requests ≤ suc m → t.wins ≤ m → t.sent ≤ m → t.acks ≤ m → t.misses ≤ m → t.drops ≤ m → Few (suc m) (reported r t)
grown m R.Silent t h0 h1 h2 h3 h4 h5 = record { requests_le = omega arith; wins_le = omega arith; sent_le = omega arith; acks_le = omega arith; misses_le = omega arith; drops_le = omega arith }
grown m (R.Won i) t h0 h1 h2 h3 h4 h5 = record { requests_le = omega arith; wins_le = omega arith; sent_le = omega arith; acks_le = omega arith; misses_le = omega arith; drops_le = omega arith }
grown m (R.Lost i) t h0 h1 h2 h3 h4 h5 = record { requests_le = omega arith; wins_le = omega arith; sent_le = omega arith; acks_le = omega arith; misses_le = omega arith; drops_le = omega arith }
grown m (R.Sent i x) t h0 h1 h2 h3 h4 h5 = record { requests_le = omega arith; wins_le = omega arith; sent_le = omega arith; acks_le = omega arith; misses_le = omega arith; drops_le = omega arith }
grown m (R.Acked i b x) t h0 h1 h2 h3 h4 h5 = record { requests_le = omega arith; wins_le = omega arith; sent_le = omega arith; acks_le = omega arith; misses_le = omega arith; drops_le = omega arith }
grown m (R.Miss i x) t h0 h1 h2 h3 h4 h5 = record { requests_le = omega arith; wins_le = omega arith; sent_le = omega arith; acks_le = omega arith; misses_le = omega arith; drops_le = omega arith }
grown m (R.Drop i y) t h0 h1 h2 h3 h4 h5 = record { requests_le = omega arith; wins_le = omega arith; sent_le = omega arith; acks_le = omega arith; misses_le = omega arith; drops_le = omega arith }
grown m (R.Good i b d) t h0 h1 h2 h3 h4 h5 = record { requests_le = omega arith; wins_le = omega arith; sent_le = omega arith; acks_le = omega arith; misses_le = omega arith; drops_le = omega arith }
grown m (R.Dcrc i b) t h0 h1 h2 h3 h4 h5 = record { requests_le = omega arith; wins_le = omega arith; sent_le = omega arith; acks_le = omega arith; misses_le = omega arith; drops_le = omega arith }
grown m (R.Broad i b d) t h0 h1 h2 h3 h4 h5 = record { requests_le = omega arith; wins_le = omega arith; sent_le = omega arith; acks_le = omega arith; misses_le = omega arith; drops_le = omega arith }

counted_few : (m : ℕ) (e : Event) (t : Tally) → Few m t → Few (suc m) (counted e t)
counted_few m (refusal j) t f = record { requests_le = omega arith; wins_le = omega arith; sent_le = omega arith; acks_le = omega arith; misses_le = omega arith; drops_le = omega arith }
counted_few m (accepted v r) t f = grown m r _ (let z = f.requests_le in let y : one (is_request v) ≤ 1 = pick (λ x. x ≤ 1) (is_request v) 1 0 (omega arith) (omega arith) in omega arith) f.wins_le f.sent_le f.acks_le f.misses_le f.drops_le

few_on : (m : ℕ) (t : Tally) (l : List Event) → Few m t → Few (m + length l) (tally_on t l)
few_on m t [] f = subst (λ m. Few m t) (add-zero m) f
  where
    add-zero : (m : ℕ) → m ≡ m + 0
    add-zero m = omega arith
few_on m t (e ∷ l) f = subst (λ m. Few m (tally_on (counted e t) l)) (add-suc m (length l)) (few_on (suc m) (counted e t) l (counted_few m e t f))
  where
    add-suc : (m j : ℕ) → suc m + j ≡ m + suc j
    add-suc m j = omega arith

events_length : (s : State) (l : List Action) → length (events s l) ≡ length l
events_length s [] = refl
events_length s (a ∷ l) = ap suc (events_length (step s a).state l)

few_counted : (us : ℕ → User) (n k : ℕ) → k < 65535 → Short (tally_after us n k)
unfolding tally_of
few_counted us n k h =
    let f = few_on 0 no_tally (history n (trial us n k)) (record { requests_le = omega arith; wins_le = omega arith; sent_le = omega arith; acks_le = omega arith; misses_le = omega arith; drops_le = omega arith }) in
    let e : length (history n (trial us n k)) ≡ k = events_length (fresh n) (trial us n k) ∙ (is_trial us n k).count in
    record { requests_lt = let z = f.requests_le in omega arith; wins_lt = let z = f.wins_le in omega arith; sent_lt = let z = f.sent_le in omega arith; acks_lt = let z = f.acks_le in omega arith; misses_lt = let z = f.misses_le in omega arith; drops_lt = let z = f.drops_le in omega arith }

-- a step keeps the number of nodes
pub keeps_n : (b : Bus) (p : Played) (a : Action) → valid (view b) ≡ true → seen p ≡ advance_of (view b) a → p.bus.n ≡ b.n
keeps_n b p a v e = sym (view_n p.bus) ∙ ap (λ q. q.state.n) (e ∙ advance_is_step (view b) a v) ∙ step_n (view b) a ∙ view_n b

module _ (us : ℕ → User) (k : ℕ) (b : Bus) (kept : List Kept) (t : Tally) (ok : Allowed us b.n) (stands : Stands us k b kept t) where
  pub valid_now : valid (view b) ≡ true
  valid_now = ap (λ l. valid l.state) stands.load ∙ (ran us b.n ok.two ok.small ok.fine k).valid_is

  pub unasked_now : false ≡ some_asked (view b)
  unasked_now = sym (ap (λ l. some_asked l.state) stands.load ∙ (ran us b.n ok.two ok.small ok.fine k).unasked)

  next_place : next_of b.phase < 63
  unfolding view
  next_place = let v = is_valid (view b) valid_now in let z = next_lt b.n b.phase v.two v.phase_fits_lem in let y = ok.small in omega arith

  -- after the waiting
  module _ (w : ℕ) (w-is : w ≡ waits_by (is_idle b.phase) (full_in b.nodes) (mark b.won) (left_in kept) (places b.n)) (kept1 : List Kept) (kept1-is : kept_in kept1 ≡ lowered_by w (kept_in kept)) where
    abbrev pub now : Load
    now = load_in b kept1

    waits_now : w ≡ waits (load_in b kept)
    unfolding view
    waits_now = w-is ∙ ap (waits_by (is_idle b.phase) (full_in b.nodes) (mark b.won) (left_in kept)) (places_is b.n ok.small) ∙ waits_is (load_in b kept)

    now_is : now ≡ waited (load_after us b.n k)
    unfolding waited
    now_is =
        ap (λ (f : ℕ → Kept). record { state = view b; kept = f }) kept1-is
        ∙ ap (λ w. record { state = view b; kept = λ i. lowered w (kept_in kept i) }) waits_now
        ∙ ap waited stands.load

    -- the node whose turn it is, and the action
    module _ (who : ℕ) (who-is : who ≡ actor_by (places b.n) b.phase (full_in b.nodes) (mark b.won) (left_in kept1) (stray_in b.nodes (mark b.holder)) (mark b.holder)) where
      actor_is : who ≡ actor now
      unfolding view
      actor_is = who-is ∙ ap (λ m. actor_by m b.phase (full_in b.nodes) (mark b.won) (left_in kept1) (stray_in b.nodes (mark b.holder)) (mark b.holder)) (places_is b.n ok.small)

      module _ (c : Cell) (c-is : c ≡ cell_of (get_or b.nodes who fresh_node) (mark b.won who) (mark b.pending who) (mark b.holder who) (mark b.misled who))
          (u : User) (u-is : u ≡ us who) (u-fits : u.fillers < 256) (x : Kept) (x-is : x ≡ kept_in kept1 who)
          (a : Action) (a-is : a ≡ chooses_at b.phase b.concatenated who c u x) where
        some_node : 1 ≤ b.n
        some_node = let z = ok.two in omega arith

        choice_now : a ≡ choice us now
        unfolding view
        choice_now = a-is ∙ ap₂ (λ c u. chooses_at b.phase b.concatenated who c u x) c-is u-is ∙ ap (chooses_at b.phase b.concatenated who _ (us who)) x-is
            ∙ ap (λ i. chooses_at b.phase b.concatenated i ((view b).cell i) (us i) (kept_in kept1 i)) actor_is ∙ choice_is now us ok.small some_node next_place

        pub chosen_now : a ≡ chosen us b.n k
        chosen_now = choice_now ∙ ap (choice us) now_is

        chose : Chosen us now a
        chose = subst (Chosen us now) (sym choice_now) (chosen_by us now)

        -- what is kept of the node, in range: the waiting leaves it but for its spell
        filled_few : eqb a.kind 4 && is_answering ((view b).cell (actor now)).mode ≡ true → (kept_in kept1 (actor now)).filled < 255
        unfolding view
        filled_few e =
            let y = and-true (eqb a.kind 4) _ e in
            let i = actor now in
            let short : (kept_in kept1 i).filled ≢ (us i).fillers = fills_short us now i a chose (both _ _ (both _ _ y.0 (eq-eqb i a.node (sym (names_now now us ok.small some_node a chose (ap named (eqb-true a.kind 4 y.0)))))) y.1) in
            let same : (kept_in kept1 i).filled ≡ (kept_in kept i).filled = ap (λ f. (f i).filled) kept1-is in
            let le : (kept_in kept i).filled ≤ (us i).fillers = subst (λ (l : Load). (l.kept i).filled ≤ (us i).fillers) (sym stands.load) (filled_le us b.n i k) in
            let fits : (us i).fillers < 256 = subst (λ (v : User). v.fillers < 256) (u-is ∙ ap us actor_is) u-fits in
            omega arith

        made_few : k < 65535 → (kept_in kept1 (actor now)).made < 65535
        unfolding view
        made_few h =
            let same : (kept_in kept1 (actor now)).made ≡ (kept_in kept (actor now)).made = ap (λ f. (f (actor now)).made) kept1-is in
            let z : (kept_in kept (actor now)).made ≤ k = subst (λ (l : Load). (l.kept (actor now)).made ≤ k) (sym stands.load) (made_le us b.n (actor now) k) in omega arith

        is_open_now : is_accepted (step (view b) a) ≡ true
        is_open_now = ap₂ (λ s a. is_open s a) (ap (λ l. l.state) stands.load) chosen_now ∙ (keeps_settings us b.n ok.two ok.small ok.fine k).opens

        -- it is open: no step refuses it
        pub never_refused : (p : Played) (e : Refusal) → seen p ≡ advance_of (view b) a → p.report ≡ Err e → ⊥
        never_refused p e p-is said = clash _ (ap is_accepted (p-is ∙ advance_is_step (view b) a valid_now) ∙ is_open_now) (ap (λ r. eqb (err_number r) 0) said ∙ refuses_it e)

        -- what the turn leaves
        module _ (few : k < 65535) (p : Played) (report : Report) (p-is : seen p ≡ advance_of (view b) a) (said : p.report ≡ Ok report) (y : Kept) (y-is : y ≡ kept_after b.phase c u a x)
            (kept2 kept3 : List Kept) (kept2-is : kept_in kept2 ≡ lowered_by 1 (kept_in (set kept1 who y))) (kept3-is : kept_in kept3 ≡ spelled report us (kept_in kept2))
            (t' : Tally) (t'-is : t' ≡ report_counted report (request_counted a.kind t)) where
          abbrev bus : Bus
          bus = p.bus

          stepped : seen p ≡ step (view b) a
          stepped = p-is ∙ advance_is_step (view b) a valid_now

          reports : report ≡ (step (view b) a).report
          reports = ap told (sym said) ∙ ap (λ q. q.report) stepped

          same_n : bus.n ≡ b.n
          same_n = keeps_n b p a valid_now p-is

          y_at : y ≡ kept_after b.phase ((view b).cell who) (us who) a (kept_in kept1 who)
          unfolding view
          y_at = y-is ∙ ap₂ (λ c u. kept_after b.phase c u a x) c-is u-is ∙ ap (kept_after b.phase _ (us who) a) x-is

          -- what is kept of a node once the actor's is stored; the rest of the turn leaves it but for the spells
          module _ (size : who < length kept1) (i : ℕ) where
            stored : kept_in (set kept1 who y) i ≡ upd (kept_in kept1) who y i
            stored = get_d_set kept1 who y nothing_kept size i

            part : (f : Kept → ℕ) → f (kept_in (set kept1 who y) i) ≡ upd (λ i. f (kept_in kept1 i)) who (f y) i
            part f = ap f stored ∙ upd_map f (kept_in kept1) who y i

            spell_left : (kept_in (set kept1 who y) i).left ≡ (kept_in kept1 i).left
            unfolding kept_after
            spell_left = part (λ x. x.left) ∙ go (eqb i who) refl
              where
                go : (o : Bool) → eqb i who ≡ o → cond o y.left (kept_in kept1 i).left ≡ (kept_in kept1 i).left
                go true e = ap (λ z. z.left) y_at ∙ sym (ap (λ j. (kept_in kept1 j).left) (eqb-true i who e))
                go false e = refl

            kept_eq : {l l' h h' f f' m m' : ℕ} → l ≡ l' → h ≡ h' → f ≡ f' → m ≡ m' → ◌≡◌ {A = Kept} (record { left = l; heard = h; filled = f; made = m }) (record { left = l'; heard = h'; filled = f'; made = m' })
            kept_eq {l} {l'} {h} {h'} {f} {f'} {m} {m'} p q s t = ap₂ (λ l h. record { left = l; heard = h; filled = f; made = m }) p q ∙ ap₂ (λ f m. record { left = l'; heard = h'; filled = f; made = m }) s t

            kept_now : kept_in kept3 i ≡ keeps i (us i) (view b) a (step (view b) a).report (now.kept i)
            unfolding kept_after view
            kept_now = (λ p. kept3-is p i) ∙ ap₂ (λ r x. spells (won_by i r) (us i).spell x) reports (λ p. kept2-is p i) ∙ kept_eq
                (ap (λ x. cond (won_by i (step (view b) a).report) (us i).spell (x - 1)) spell_left)
                (part (λ x. x.heard) ∙ ap₂ (λ j z. upd (λ i. (kept_in kept1 i).heard) j z i) actor_is (ap (λ z. z.heard) y_at ∙ ap (λ j. heard_after (is_carried a && checked_in b.phase) (us j).period (kept_in kept1 j).heard) actor_is) ∙ sym (heard_then now us ok.small some_node next_place a chose i))
                (part (λ x. x.filled) ∙ ap₂ (λ j z. upd (λ i. (kept_in kept1 i).filled) j z i) actor_is (ap (λ z. z.filled) y_at ∙ ap (λ j. filled_by a.kind (is_answering ((view b).cell j).mode) (kept_in kept1 j).filled) actor_is) ∙ sym (filled_then now us ok.small some_node next_place a chose i filled_few))
                (part (λ x. x.made) ∙ ap₂ (λ j z. upd (λ i. (kept_in kept1 i).made) j z i) actor_is (ap (λ z. z.made) y_at ∙ ap (λ j. made_by a.kind (kept_in kept1 j).made) actor_is) ∙ sym (made_then now us ok.small some_node next_place a chose i (made_few few)))

          load_now : who < length kept1 → load_in bus kept3 ≡ follows us now a (step (view b) a)
          unfolding follows
          load_now size = ap₂ (λ s f. record { state = s; kept = f }) (ap (λ q. q.state) stepped) (fun_ext (kept_now size))

          -- the tally of one event more
          state_is : view b ≡ final b.n (trial us b.n k)
          state_is = ap (λ l. l.state) stands.load ∙ (is_trial us b.n k).bus

          event_is : event_of (chosen us b.n k) (step (final b.n (trial us b.n k)) (chosen us b.n k)) ≡ accepted (move_of a) report
          event_is = ap₂ (λ s a. event_of a (step s a)) (sym state_is) (sym chosen_now) ∙ ap₂ (λ b r. cond b (accepted (move_of a) r) (refusal (step (view b') a).number)) is_open_now (sym reports)
            where
              b' : Bus
              b' = b

          tally_now : t' ≡ tally_after us b.n (suc k)
          unfolding trial tally_of
          tally_now = t'-is ∙ counted_is a report t short ∙ ap₂ counted (sym event_is) stands.tally ∙ sym (ap (tally_on no_tally) (events_more (fresh b.n) (trial us b.n k) (chosen us b.n k)) ∙ tally_more no_tally (history b.n (trial us b.n k)) _)
            where
              short : Short t
              short = subst Short (sym stands.tally) (few_counted us b.n k few)

          pub stands_on : who < length kept1 → Stands us (suc k) bus kept3 t'
          unfolding load_after turned
          stands_on size = record {
            load = load_now size ∙ ap (λ a. follows us now a (step (view b) a)) choice_now ∙ ap (acted us) now_is ∙ ap (λ n. load_after us n (suc k)) (sym same_n);
            tally = tally_now ∙ ap (λ n. tally_after us n (suc k)) (sym same_n);
          }
