-- The writer of run files takes every action of a trial that is not refused. Assumes nothing.
use mathlib.Core.Path.{◌≡◌, refl, sym, ap, subst, ◌∙◌}
use mathlib.Core.Bool.{Bool, true, false, ◌&&◌}
use mathlib.Core.List.{List, [], ◌∷◌, ◌++◌, append_assoc, append-nil}
use Prim.Native.Nat.{ℕ, zero, suc, ◌+◌, ◌<◌, ◌≤◌}
use native.Mathlib.Omega.{arith}
use lib.Dec.{eqb, ltb}
use lib.ListN.{length}
use borrow.Author.Tests.{eqb-true, ltb-true}
use Rattle.charts.specs.declared.Action.{Action}
use Rattle.std.specs.Prelude.{Ok, Err}
use Rattle.charts.specs.declared.Kept.{Kept}
use Rattle.charts.specs.declared.User.{User}
use Rattle.charts.specs.Asking.{of_node}
use Rattle.charts.specs.Records.{Decoded, is_address, move_of, read}
use Rattle.charts.specs.Signals.{is_checked}
use Rattle.charts.specs.State.{fresh}
use Rattle.charts.specs.Trials.{Load, request_by, respond_by, is_due, holder_of, holds_now, asking, bidding, asker, waited, load_after, chosen, trial}
use Rattle.charts.specs.Layout.{Fits}
use Rattle.charts.proofs.Tools.{or-true, pick, by_test, lowest_lt}
use Rattle.charts.proofs.Steps.{run_n}
use Rattle.charts.proofs.Open.{open_reads}
use Rattle.charts.proofs.Chosen.{Chosen, carries, grants, gaps, answers, replies, clocks, asks, bids, resets, chosen_by, holder_lt}
use Rattle.charts.proofs.Settings.{is_trial, ran, made_le, keeps_settings}
use Rattle.runfile.specs.Write.{refused_or, first_refusal}
use Rattle.files.specs.File.{AllFit, Taken}
use Rattle.turns.specs.Turns.{Allowed}
use Rattle.trials.specs.Trying.{part}
use Rattle.trials.proofs.Parts.{part_length}
use Rattle.trials.proofs.Allowing.{allowed_size}

-- 1. records with few fields fit their bytes: of a node, of a respond, of a request
named_fits : (kind i : ℕ) → kind < 256 → i < 256 → Fits (of_node kind i)
named_fits kind i h l = record {
  kind_fits = h;
  node_fits = l;
  address_fits = omega arith;
  ack_fits = omega arith;
  hold_fits = omega arith;
  label_fits = omega arith;
  byte6_fits = omega arith;
  byte7_fits = omega arith;
  header_fits = omega arith;
  datum_fits = omega arith;
}

respond_fits : (i : ℕ) (b : Bool) → i < 256 → Fits (respond_by i b)
respond_fits i b l = record {
  kind_fits = omega arith;
  node_fits = l;
  address_fits = omega arith;
  ack_fits = omega arith;
  hold_fits = held b;
  label_fits = omega arith;
  byte6_fits = omega arith;
  byte7_fits = omega arith;
  header_fits = omega arith;
  datum_fits = omega arith;
}
  where
    held : (b : Bool) → (respond_by i b).hold < 256
    held true = omega arith
    held false = omega arith

request_fits : (i : ℕ) (u : User) (x : Kept) → i < 256 → u.address < 256 → x.made ≤ 65535 → Fits (request_by i u x)
request_fits i u x l h g = record {
  kind_fits = omega arith;
  node_fits = l;
  address_fits = h;
  ack_fits = omega arith;
  hold_fits = omega arith;
  label_fits = omega arith;
  byte6_fits = omega arith;
  byte7_fits = omega arith;
  header_fits = omega arith;
  datum_fits = omega arith;
}

-- an address is below n, or 63
address_small : (n x : ℕ) → n ≤ 63 → is_address n x ≡ true → x < 256
address_small n x small e =
    by_test (ltb x n) (λ h. let l : x < n = ltb-true x n h in omega arith)
    (λ h. let z : x ≡ 63 = eqb-true x 63 (or-true (ltb x n) (eqb x 63) e h) in omega arith)

-- 2. one more action
fit_more : (l : List Action) (x : Action) → AllFit l → Fits x → AllFit (l ++ (x ∷ []))
fit_more [] x f g = (g, tt)
fit_more (b ∷ l) x f g = (f.0, fit_more l x f.1 g)

taken_more : (n : ℕ) (l : List Action) (x : Action) → first_refusal n l ≡ 0 → first_refusal n (x ∷ []) ≡ 0 → first_refusal n (l ++ (x ∷ [])) ≡ 0
taken_more n [] x e g = g
taken_more n (b ∷ l) x e g = go (read n b) e (λ f. taken_more n l x f g)
  where
    go : (d : Decoded) → refused_or d (first_refusal n l) ≡ 0 → (first_refusal n l ≡ 0 → first_refusal n (l ++ (x ∷ [])) ≡ 0) → refused_or d (first_refusal n (l ++ (x ∷ []))) ≡ 0
    go (Err k) e f = e
    go (Ok m) e f = f e

-- 3. a longer trial is the shorter one and the part after it
pub trial_on : (us : ℕ → User) (n from k : ℕ) → trial us n (from + k) ≡ trial us n from ++ part us n from k
unfolding trial
trial_on us n from zero = ap (trial us n) (add_zero from) ∙ sym (append-nil (trial us n from))
  where
    add_zero : (k : ℕ) → k + 0 ≡ k
    add_zero k = omega arith
trial_on us n from (suc k) =
    ap (trial us n) (add_suc from k) ∙ ap (λ l. l ++ (chosen us n (from + k) ∷ [])) (trial_on us n from k) ∙ append_assoc (trial us n from) (part us n from k) (chosen us n (from + k) ∷ [])
  where
    add_suc : (j k : ℕ) → j + suc k ≡ suc (j + k)
    add_suc j k = omega arith

trial_part : (us : ℕ → User) (n k : ℕ) → trial us n k ≡ part us n 0 k
unfolding trial
trial_part us n k = ap (trial us n) (zero_add k) ∙ trial_on us n 0 k
  where
    zero_add : (k : ℕ) → k ≡ 0 + k
    zero_add k = omega arith

-- 4. each action is open when chosen, so it is read; and its fields fit their bytes
module _ (us : ℕ → User) (n : ℕ) (a : Allowed us n) where
  module _ (k : ℕ) where
    abbrev l : Load
    l = load_after us n k

    abbrev now : Load
    now = waited l

    n_is : l.state.n ≡ n
    n_is = ap (λ s. s.n) (is_trial us n k).bus ∙ run_n (fresh n) (trial us n k)

    reads : read n (chosen us n k) ≡ Ok (move_of (chosen us n k))
    reads = subst (λ m. read m (chosen us n k) ≡ Ok (move_of (chosen us n k))) n_is (open_reads l.state (chosen us n k) (keeps_settings us n a.two a.small a.fine k).opens)

    node_small : (i : ℕ) → i < l.state.n → i < 256
    node_small i h = let e = n_is in let small = a.small in omega arith

    sent_small : (i : ℕ) → i < l.state.n → (us i).address < 256
    sent_small i h = address_small n (us i).address a.small (a.fine i (subst (λ m. i < m) n_is h)).0

    made_small : (i : ℕ) → k ≤ 65535 → (l.kept i).made ≤ 65535
    made_small i few = let m = made_le us n i k in omega arith

    fits : (x : Action) → Chosen us now x → k ≤ 65535 → Fits x
    unfolding waited
    fits x (carries {g = g} {j = j} q) few = pick (λ k. Fits (of_node k 0)) (is_checked g && is_due (us j) (now.kept j)) 6 5 (named_fits 6 0 (omega arith) (omega arith)) (named_fits 5 0 (omega arith) (omega arith))
    fits x (grants q) few = named_fits 8 0 (omega arith) (omega arith)
    fits x (gaps q) few = named_fits 9 0 (omega arith) (omega arith)
    fits x (answers q e f) few = respond_fits (holder_of l.state) (holds_now (us (holder_of l.state)) l.state.concatenated) (node_small _ (holder_lt l.state (ran us n a.two a.small a.fine k) q))
    fits x (replies q e) few =
        let h = holder_lt l.state (ran us n a.two a.small a.fine k) q in
        request_fits (holder_of l.state) (us (holder_of l.state)) (now.kept (holder_of l.state)) (node_small _ h) (sent_small _ h) (made_small _ few)
    fits x (clocks q e f) few = named_fits 4 (holder_of l.state) (omega arith) (node_small _ (holder_lt l.state (ran us n a.two a.small a.fine k) q))
    fits x (asks q t) few =
        let h = lowest_lt (asking now) l.state.n 0 t in
        request_fits (asker now) (us (asker now)) (now.kept (asker now)) (node_small _ h) (sent_small _ h) (made_small _ few)
    fits x (bids q e t) few = named_fits 2 _ (omega arith) (node_small _ (lowest_lt (bidding l.state) l.state.n 0 t))
    fits x (resets q e f) few = named_fits 10 0 (omega arith) (omega arith)

  -- 5. so does every part of a trial, and the whole of it
  pub part_fits : (from k : ℕ) → from + k ≤ 65535 → AllFit (part us n from k)
  part_fits from zero h = tt
  part_fits from (suc k) h = fit_more (part us n from k) (chosen us n (from + k)) (part_fits from k (omega arith)) (fits (from + k) _ (chosen_by us (waited (load_after us n (from + k)))) (omega arith))

  pub part_taken : (from k : ℕ) → first_refusal n (part us n from k) ≡ 0
  part_taken from zero = refl
  part_taken from (suc k) = taken_more n (part us n from k) (chosen us n (from + k)) (part_taken from k) (ap (λ d. refused_or d 0) (reads (from + k)))

  pub taken : (k : ℕ) → 1 ≤ k → k ≤ 65535 → Taken n (trial us n k)
  taken k some few =
      let size : length (part us n 0 k) ≡ k = part_length us n 0 k in
      subst (Taken n) (sym (trial_part us n k)) (record { nodes = allowed_size us n a; some = omega arith; numbered = omega arith; fits = part_fits 0 k (omega arith); accepted = part_taken 0 k })
