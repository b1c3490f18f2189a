-- Of a trial's bus the rules over arrays and over one node's values are the charts' rules. Assumes nothing.
use mathlib.Core.Path.{◌≡◌, refl, sym, ap, ap₂, subst, ◌∙◌}
use mathlib.Core.Bool.{Bool, true, false, cond, ◌&&◌, ◌||◌, not, true≢false}
use Prim.Native.Nat.{ℕ, suc, ◌+◌, ◌<◌, ◌≤◌}
use native.Mathlib.Omega.{arith}
use lib.Dec.{eqb}
use borrow.Author.Tests.{eqb-true, lt-ltb, not-true}
use Rattle.charts.specs.declared.Action.{Action}
use Rattle.charts.specs.declared.Move.{Move}
use Rattle.charts.specs.declared.Move.TheVariants.{Arbitrate, Respond, Clock, Carry, Grant, GapNext, Reset, Ask, Decide}
use Rattle.charts.specs.declared.Way.TheVariants.{Pass, Lose, Change}
use Rattle.charts.specs.declared.Phase.{Phase}
use Rattle.charts.specs.declared.Phase.TheVariants.{Idle, Busy, Delivering, Granting, Gapping}
use Rattle.charts.specs.declared.Report.{Report}
use Rattle.charts.specs.declared.Report.TheVariants as R
use Rattle.charts.specs.declared.Tally.{Tally}
use Rattle.charts.specs.declared.User.{User}
use Rattle.charts.specs.Modes.{is_answering}
use Rattle.charts.specs.Signals.{is_checked}
use Rattle.charts.specs.State.{wons, holders, upd, some, lowest, is_idle, is_empty}
use Rattle.charts.specs.Actions.{next_of}
use Rattle.charts.specs.Records.{move_of}
use Rattle.charts.specs.Step.{accepted}
use Rattle.charts.specs.Asking.{of_node}
use Rattle.charts.specs.Demand.{one}
use Rattle.charts.specs.Trials.{Load, request_by, is_due, delivers, strays, holder_of, asking, bidding, asker, starts, chooses, choice, only_waits, least, lefts, waits, is_carried, checked_to, came, heard_after, is_of, fills, filled_after, made_after, is_request, reported, counted}
use Rattle.charts.proofs.Tools.{never, clash, and-true, both, or-false, and_no, and_yes, pick, pick_by, by_test, none_of, some-none, lowest_none, lowest_agree, lowest_of, lowest_lt}
use Rattle.charts.proofs.Chosen.{Chosen, carries, grants, gaps, answers, replies, clocks, asks, bids, resets, least_le, is_waiting, all-empty, waits_none}
use Rattle.turns.proofs.Lowest.{lowest_same}
use Rattle.turns.proofs.Negated.{not-not}
use Rattle.turns.specs.Turns.{is_full, overs, without, first_of, waits_by, actor_by, starts_at, chooses_at, capped, checked_in, filled_by, made_by, counter, request_counted, report_counted}

-- a request, a respond or a clock
abbrev pub named : ℕ → Bool
named kind = eqb kind 1 || (eqb kind 3 || eqb kind 4)

module _ (l : Load) where
  -- the nodes with full buffers
  abbrev pub fulls : ℕ → Bool
  fulls k = not (is_empty (l.state.cell k).buffer)

  abbrev taken : ℕ → Bool
  taken k = fulls k || (l.state.cell k).won

  -- 1. how much is waited
  pub waits_is : waits_by (is_idle l.state.phase) fulls (wons l.state.cell) (lefts l) l.state.n ≡ waits l
  unfolding waits only_waits
  waits_is = by_test (only_waits l) yes no
    where
      n : ℕ
      n = l.state.n

      yes : only_waits l ≡ true → waits_by (is_idle l.state.phase) fulls (wons l.state.cell) (lefts l) n ≡ waits l
      yes e =
          let w = is_waiting l e in
          let z : some taken n ≡ false = some-none taken n (λ k h. ap₂ ◌||◌ (ap not (all-empty l w k h)) (none_of (wons l.state.cell) n w.unwon k h)) in
          ap₂ (λ i t. cond (i && not t) (least (lefts l) n) 0) w.idle z ∙ sym (ap (λ b. cond b (least (lefts l) n) 0) e)

      -- a node that may ask has nothing left
      none_left : some (asking l) n ≡ true → least (lefts l) n ≡ 0
      none_left t =
          let k = lowest (asking l) n 0 in
          let z : lefts l k ≡ 0 = eqb-true _ _ (and-true (is_empty (l.state.cell k).buffer) _ (lowest_of (asking l) n 0 t)).1 in
          let b = least_le (lefts l) n k (lowest_lt (asking l) n 0 t) in omega arith

      no : only_waits l ≡ false → waits_by (is_idle l.state.phase) fulls (wons l.state.cell) (lefts l) n ≡ waits l
      no e = by_test (is_idle l.state.phase && not (some taken n))
          (λ q. ap (λ b. cond b (least (lefts l) n) 0) q ∙ free (and-true (is_idle l.state.phase) _ q).0 (not-true _ (and-true (is_idle l.state.phase) _ q).1) ∙ sym (waits_none l e))
          (λ q. ap (λ b. cond b (least (lefts l) n) 0) q ∙ sym (waits_none l e))
        where
          free : is_idle l.state.phase ≡ true → some taken n ≡ false → least (lefts l) n ≡ 0
          free i z = by_test (some (asking l) n) none_left (λ a. clash (only_waits l)
              (both _ _ i (both _ _ (ap not a) (both _ _
              (ap not (some-none (bidding l.state) n (λ k h. ap (λ b. b && not (l.state.cell k).won) (or-false (fulls k) _ (none_of taken n z k h)).0)))
              (ap not (some-none (wons l.state.cell) n (λ k h. (or-false (fulls k) _ (none_of taken n z k h)).1)))))) e)

  -- 2. whose turn it is, and what is chosen by that node's own values
  abbrev pub actor : ℕ
  actor = actor_by l.state.n l.state.phase fulls (wons l.state.cell) (lefts l) (strays l.state) (holders l.state.cell)

  module _ (us : ℕ → User) (small : l.state.n ≤ 63) (some_node : 1 ≤ l.state.n) where
    asks_agree : (k : ℕ) → k < l.state.n → without (overs (lefts l)) fulls k ≡ asking l k
    asks_agree k h = ap (λ y. eqb (lefts l k) 0 && y) (not-not (is_empty (l.state.cell k).buffer)) ∙ swap (eqb (lefts l k) 0) (is_empty (l.state.cell k).buffer)
      where
        swap : (a b : Bool) → a && b ≡ b && a
        swap true true = refl
        swap true false = refl
        swap false true = refl
        swap false false = refl

    starter : ℕ
    starter = first_of (without (overs (lefts l)) fulls) (without fulls (wons l.state.cell)) l.state.n

    starter_is : starter ≡ lowest (asking l) l.state.n (lowest (bidding l.state) l.state.n 0)
    unfolding starter
    starter_is = lowest_agree _ (asking l) l.state.n _ asks_agree

    At : ℕ → Type 0
    At i = starts_at i (l.state.cell i) (us i) (l.kept i) ≡ starts us l

    start_is : At starter
    unfolding At starts starts_at starter
    start_is = subst At (sym starter_is) (by_test (some (asking l) n) ask (λ e. subst At (sym (lowest_none (asking l) n _ e)) (by_test (some (bidding l.state) n) (bid e) (none e))))
      where
        n : ℕ
        n = l.state.n

        bidder : ℕ
        bidder = lowest (bidding l.state) n 0

        ask : some (asking l) n ≡ true → At (lowest (asking l) n (lowest (bidding l.state) n 0))
        ask t = subst At (lowest_same (asking l) n 0 _ t)
            (ap (λ b. cond b (request_by (asker l) (us (asker l)) (l.kept (asker l))) (cond (is_full (l.state.cell (asker l)) && not (l.state.cell (asker l)).won) (of_node 2 (asker l)) (of_node 10 0))) (lowest_of (asking l) n 0 t)
            ∙ sym (ap (λ b. cond b (request_by (asker l) (us (asker l)) (l.kept (asker l))) (cond (some (bidding l.state) n) (of_node 2 bidder) (of_node 10 0))) t))

        bid : some (asking l) n ≡ false → some (bidding l.state) n ≡ true → At (lowest (bidding l.state) n 0)
        bid e t =
            ap₂ (λ a b. cond a (request_by bidder (us bidder) (l.kept bidder)) (cond b (of_node 2 bidder) (of_node 10 0))) (none_of (asking l) n e bidder (lowest_lt (bidding l.state) n 0 t)) (lowest_of (bidding l.state) n 0 t)
            ∙ sym (ap₂ (λ a b. cond a (request_by (asker l) (us (asker l)) (l.kept (asker l))) (cond b (of_node 2 bidder) (of_node 10 0))) e t)

        none : some (asking l) n ≡ false → some (bidding l.state) n ≡ false → At (lowest (bidding l.state) n 0)
        none e t = subst At (sym (lowest_none (bidding l.state) n 0 t))
            (ap₂ (λ a b. cond a (request_by 0 (us 0) (l.kept 0)) (cond b (of_node 2 0) (of_node 10 0))) (none_of (asking l) n e 0 (omega arith)) (none_of (bidding l.state) n t 0 (omega arith))
            ∙ sym (ap₂ (λ a b. cond a (request_by (asker l) (us (asker l)) (l.kept (asker l))) (cond b (of_node 2 bidder) (of_node 10 0))) e t))

    pub choice_is : next_of l.state.phase < 63 → chooses_at l.state.phase l.state.concatenated actor (l.state.cell actor) (us actor) (l.kept actor) ≡ choice us l
    unfolding choice chooses_at At starter holder_of
    choice_is lt = go l.state.phase refl lt
      where
        who : Phase → ℕ
        who p = actor_by l.state.n p fulls (wons l.state.cell) (lefts l) (strays l.state) (holders l.state.cell)

        go : (p : Phase) → l.state.phase ≡ p → next_of p < 63 → chooses_at p l.state.concatenated (who p) (l.state.cell (who p)) (us (who p)) (l.kept (who p)) ≡ chooses us l p
        go Idle e h = start_is
        go Busy e h = refl
        go (Delivering i g j) e h = ap (λ k. delivers g (us k) (l.kept k)) (ap (λ b. cond b j 0) (lt-ltb j 63 h))
        go Granting e h = refl
        go (Gapping j) e h = refl

    -- 3. the node that a request, a respond or a clock names is the one whose turn it is
    who_now : (p : Phase) → l.state.phase ≡ p → actor_by l.state.n p fulls (wons l.state.cell) (lefts l) (strays l.state) (holders l.state.cell) ≡ actor
    who_now p e = ap (λ p. actor_by l.state.n p fulls (wons l.state.cell) (lefts l) (strays l.state) (holders l.state.cell)) (sym e)

    pub names_now : (a : Action) → Chosen us l a → named a.kind ≡ true → a.node ≡ actor
    unfolding holder_of starter
    names_now a (carries {g = g} {j = j} q) e = never (sym (pick (λ k. named k ≡ false) (is_checked g && is_due (us j) (l.kept j)) 6 5 refl refl) ∙ e)
    names_now a (grants q) e = never e
    names_now a (gaps q) e = never e
    names_now a (answers q f g) e = who_now Busy q
    names_now a (replies q f) e = who_now Busy q
    names_now a (clocks q f g) e = who_now Busy q
    names_now a (asks q t) e = lowest_same (asking l) l.state.n 0 _ t ∙ sym starter_is ∙ who_now Idle q
    names_now a (bids q f t) e = never e
    names_now a (resets q f g) e = never e

    -- 4. what follows an action, node by node: but for spells it is about that node alone
    module _ (lt : next_of l.state.phase < 63) (a : Action) (chose : Chosen us l a) (k : ℕ) where
      of_actor : (kind : ℕ) → named kind ≡ true → is_of kind k a ≡ (eqb a.kind kind && eqb k actor)
      of_actor kind z = by_test (eqb a.kind kind)
          (λ e. ap (λ j. eqb a.kind kind && eqb k j) (names_now a chose (ap named (eqb-true a.kind kind e) ∙ z)))
          (λ e. ap (λ b. b && eqb k a.node) e ∙ sym (ap (λ b. b && eqb k actor) e))

      came_at : checked_to k l.state.phase ≡ (checked_in l.state.phase && eqb k actor)
      came_at = go l.state.phase refl lt
        where
          go : (p : Phase) → l.state.phase ≡ p → next_of p < 63 → checked_to k p ≡ (checked_in p && eqb k actor)
          go Idle e h = refl
          go Busy e h = refl
          go (Delivering i g j) e h = ap (λ i. is_checked g && eqb k i) (sym (ap (λ b. cond b j 0) (lt-ltb j 63 h)) ∙ who_now (Delivering i g j) e)
          go Granting e h = refl
          go (Gapping j) e h = refl

      -- a fact about a node, where it is that node and where it is not
      at_actor : (P : ℕ → Bool → Type 0) → P actor true → P k false → P k (eqb k actor)
      at_actor P t f = go (eqb k actor) refl
        where
          go : (b : Bool) → eqb k actor ≡ b → P k b
          go true e = subst (λ i. P i true) (sym (eqb-true k actor e)) t
          go false e = f

      pub heard_then : heard_after (came k l.state a) (us k).period (l.kept k).heard
          ≡ upd (λ i. (l.kept i).heard) actor (heard_after (is_carried a && checked_in l.state.phase) (us actor).period (l.kept actor).heard) k
      heard_then = ap (λ b. heard_after (is_carried a && b) (us k).period (l.kept k).heard) came_at
          ∙ at_actor (λ i b. heard_after (is_carried a && (checked_in l.state.phase && b)) (us i).period (l.kept i).heard
          ≡ cond b (heard_after (is_carried a && checked_in l.state.phase) (us actor).period (l.kept actor).heard) (l.kept i).heard)
          (ap (λ b. heard_after (is_carried a && b) (us actor).period (l.kept actor).heard) (and_yes (checked_in l.state.phase)))
          (ap (λ b. heard_after (is_carried a && b) (us k).period (l.kept k).heard) (and_no (checked_in l.state.phase)) ∙ ap (λ b. heard_after b (us k).period (l.kept k).heard) (and_no (is_carried a)))

      pub made_then : (l.kept actor).made < 65535 → made_after (is_of 1 k a) (l.kept k).made ≡ upd (λ i. (l.kept i).made) actor (made_by a.kind (l.kept actor).made) k
      made_then few = ap (λ b. made_after b (l.kept k).made) (of_actor 1 refl)
          ∙ at_actor (λ i b. made_after (eqb a.kind 1 && b) (l.kept i).made ≡ cond b (made_by a.kind (l.kept actor).made) (l.kept i).made)
          (ap₂ (λ b x. cond b x (l.kept actor).made) (and_yes (eqb a.kind 1)) (sym (ap (λ b. cond b (suc (l.kept actor).made) (l.kept actor).made) (lt-ltb (l.kept actor).made 65535 few))))
          (ap (λ b. made_after b (l.kept k).made) (and_no (eqb a.kind 1)))

      pub filled_then : (eqb a.kind 4 && is_answering (l.state.cell actor).mode ≡ true → (l.kept actor).filled < 255) →
          filled_after (is_of 3 k a) (fills k l.state a) (l.kept k).filled ≡ upd (λ i. (l.kept i).filled) actor (filled_by a.kind (is_answering (l.state.cell actor).mode) (l.kept actor).filled) k
      filled_then few = ap₂ (λ x y. filled_after x (y && is_answering (l.state.cell k).mode) (l.kept k).filled) (of_actor 3 refl) (of_actor 4 refl)
          ∙ at_actor (λ i b. filled_after (eqb a.kind 3 && b) ((eqb a.kind 4 && b) && is_answering (l.state.cell i).mode) (l.kept i).filled
          ≡ cond b (filled_by a.kind (is_answering (l.state.cell actor).mode) (l.kept actor).filled) (l.kept i).filled)
          (ap₂ (λ x y. filled_after x (y && ans) f) (and_yes (eqb a.kind 3)) (and_yes (eqb a.kind 4))
          ∙ ap (cond (eqb a.kind 3) 0) (by_test (eqb a.kind 4 && ans) (λ e. ap (λ b. cond b (suc f) f) e ∙ sym (ap₂ (λ b c. cond b (cond c (suc f) f) f) e (lt-ltb f 255 (few e)))) (λ e. ap (λ b. cond b (suc f) f) e ∙ sym (ap (λ b. cond b (capped 255 f) f) e))))
          (ap₂ (λ x y. filled_after x (y && is_answering (l.state.cell k).mode) (l.kept k).filled) (and_no (eqb a.kind 3)) (and_no (eqb a.kind 4)))
        where
          ans : Bool
          ans = is_answering (l.state.cell actor).mode

          f : ℕ
          f = (l.kept actor).filled

-- 5. the tally, where no counter is at its largest number
counter_is : (x : ℕ) → x < 65535 → counter x ≡ suc x
counter_is x h = ap (λ b. cond b (suc x) x) (lt-ltb x 65535 h)

pub record Short (t : Tally) : Type 0 where
  pub requests_lt : t.requests < 65535
  pub wins_lt : t.wins < 65535
  pub sent_lt : t.sent < 65535
  pub acks_lt : t.acks < 65535
  pub misses_lt : t.misses < 65535
  pub drops_lt : t.drops < 65535

report_is : (r : Report) (t : Tally) → t.wins < 65535 → t.sent < 65535 → t.acks < 65535 → t.misses < 65535 → t.drops < 65535 → report_counted r t ≡ reported r t
unfolding report_counted
report_is R.Silent t h1 h2 h3 h4 h5 = refl
report_is (R.Won i) t h1 h2 h3 h4 h5 = ap (λ x. record { requests = t.requests; wins = x; sent = t.sent; acks = t.acks; misses = t.misses; drops = t.drops }) (counter_is _ h1)
report_is (R.Lost i) t h1 h2 h3 h4 h5 = refl
report_is (R.Sent i y) t h1 h2 h3 h4 h5 = ap (λ x. record { requests = t.requests; wins = t.wins; sent = x; acks = t.acks; misses = t.misses; drops = t.drops }) (counter_is _ h2)
report_is (R.Acked i b y) t h1 h2 h3 h4 h5 = ap (λ x. record { requests = t.requests; wins = t.wins; sent = t.sent; acks = x; misses = t.misses; drops = t.drops }) (counter_is _ h3)
report_is (R.Miss i y) t h1 h2 h3 h4 h5 = ap (λ x. record { requests = t.requests; wins = t.wins; sent = t.sent; acks = t.acks; misses = x; drops = t.drops }) (counter_is _ h4)
report_is (R.Drop i m) t h1 h2 h3 h4 h5 = ap (λ x. record { requests = t.requests; wins = t.wins; sent = t.sent; acks = t.acks; misses = t.misses; drops = x }) (counter_is _ h5)
report_is (R.Good i h d) t h1 h2 h3 h4 h5 = refl
report_is (R.Dcrc i h) t h1 h2 h3 h4 h5 = refl
report_is (R.Broad i h d) t h1 h2 h3 h4 h5 = refl

request_is : (a : Action) → is_request (move_of a) ≡ eqb a.kind 1
unfolding move_of
request_is a = by_test (eqb a.kind 1) (λ e. rw e) (λ e. pick_by (λ m. is_request m ≡ eqb a.kind 1) (eqb a.kind 1) _ _ (λ f. clash _ f e) (λ f. others ∙ sym e))
  where
    no : (b : Bool) (x y : Move) → is_request x ≡ false → is_request y ≡ false → is_request (cond b x y) ≡ false
    no b x y p q = pick (λ m. is_request m ≡ false) b x y p q

    others : is_request (cond (eqb a.kind 2) (Arbitrate a.node) (cond (eqb a.kind 3) (Respond a.node a.ack (eqb a.hold 1)) (cond (eqb a.kind 4) (Clock a.node) (cond (eqb a.kind 5) (Carry Pass) (cond (eqb a.kind 6) (Carry Lose)
        (cond (eqb a.kind 7) (Carry (Change a.address)) (cond (eqb a.kind 8) Grant (cond (eqb a.kind 9) GapNext (cond (eqb a.kind 10) Reset (cond (eqb a.kind 11) (Ask a.node) (Decide a.node))))))))))) ≡ false
    others =
        no (eqb a.kind 2) _ _ refl (no (eqb a.kind 3) _ _ refl (no (eqb a.kind 4) _ _ refl (no (eqb a.kind 5) _ _ refl (no (eqb a.kind 6) _ _ refl (no (eqb a.kind 7) _ _ refl
        (no (eqb a.kind 8) _ _ refl (no (eqb a.kind 9) _ _ refl (no (eqb a.kind 10) _ _ refl (no (eqb a.kind 11) _ _ refl refl)))))))))

pub counted_is : (a : Action) (r : Report) (t : Tally) → Short t → report_counted r (request_counted a.kind t) ≡ counted (accepted (move_of a) r) t
counted_is a r t h = ap (report_counted r) (ap (λ x. record { requests = x; wins = t.wins; sent = t.sent; acks = t.acks; misses = t.misses; drops = t.drops }) (go (eqb a.kind 1) (is_request (move_of a)) (sym (request_is a))))
    ∙ report_is r _ h.wins_lt h.sent_lt h.acks_lt h.misses_lt h.drops_lt
  where
    go : (b c : Bool) → b ≡ c → cond b (counter t.requests) t.requests ≡ t.requests + one c
    go true true e = counter_is t.requests h.requests_lt ∙ omega arith
    go true false e = absurd (true≢false e)
    go false true e = never e
    go false false e = omega arith
