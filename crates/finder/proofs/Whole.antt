-- The text of a question whose reading goes to its end: the state that it asks about is that of its run, and what it asks is not refused. Assumes nothing.
use mathlib.Core.Path.{◌≡◌, refl, sym, ap, ap₂, subst, ◌∙◌}
use mathlib.Core.Bool.{Bool, true, false, cond, ◌&&◌, true≢false}
use mathlib.Core.List.{List, [], ◌∷◌, ◌++◌, append-nil, append_assoc}
use Prim.Native.Nat.{ℕ, zero, suc}
use lib.Dec.{eqb}
use lib.ListN.{replicate}
use borrow.Author.Tests.{eqb-true}
use Rattle.charts.specs.declared.Action.{Action}
use Rattle.charts.specs.declared.Question.{Question}
use Rattle.charts.specs.Numbers as N
use Rattle.charts.specs.State.{State, fresh}
use Rattle.charts.specs.Valid.{is_size}
use Rattle.charts.specs.Step as Step
use Rattle.charts.specs.Step.{refuses, step, after, results, is_accepted}
use Rattle.charts.specs.Routes.{all_accepted, route_number}
use Rattle.charts.proofs.Tools.{never, clash, and-true, both}
use Rattle.charts.proofs.Steps.{step_n}
use Rattle.charts.proofs.Settings.{after_more}
use Rattle.faults.specs.declared.Fault.{Fault}
use Rattle.faults.specs.declared.Fault.TheVariants as F
use Rattle.notation.specs.declared.Text.TheVariants as T
use Rattle.notation.specs.declared.Line.{Line}
use Rattle.notation.specs.declared.Line.TheVariants as L
use Rattle.std.proofs.Common.{Option, None, Some, is_some, Result, Ok, Err}
use Rattle.notation.specs.Grammar.{line_of}
use Rattle.notation.specs.Reading.{counted, nodes_stage}
use Rattle.notation.specs.Meaning.{lines_of, unmarked}
use Rattle.notation.proofs.Readers.{sized_nodes}
use Rattle.notation.proofs.Questions.{as_in_run}
use Rattle.finder.specs.Reader.{Reader, started, stopped, on_line, on_bus, asking, goes_on, nodes_taken, repeated, played_by, action_taken, question_taken, statement_taken, says, line_taken, feed_of, finish_of}
use Rattle.finder.specs.Meant.{fed_from, read_by, nodes_in, acts_in, asks_in, said_from, nodes_of, run_of, asks_of, PlayedRun, NoFind}

-- one more action, accepted
more_accepted : (s : State) (l : List Action) (a : Action) → all_accepted (results s l) ≡ true → is_accepted (step (after s l) a) ≡ true → all_accepted (results s (l ++ (a ∷ []))) ≡ true
more_accepted s [] a h e = both (is_accepted (step s a)) true e refl
more_accepted s (b ∷ l) a h e =
    let first = and-true (is_accepted (step s b)) _ h in
    both (is_accepted (step s b)) _ first.0 (more_accepted (step s b).state l a first.1 e)

one_more : (l : List Action) (s : State) (a : Action) → PlayedRun l s → is_accepted (step s a) ≡ true → PlayedRun (l ++ (a ∷ [])) (step s a).state
one_more l s a p e =
    let same = step_n s a in
    record {
      size = ap is_size same ∙ p.size;
      state = ap (λ t. (step t a).state) p.state ∙ sym (after_more (fresh s.n) l a) ∙ ap (λ n. after (fresh n) (l ++ (a ∷ []))) (sym same);
      accepted =
          ap (λ n. all_accepted (results (fresh n) (l ++ (a ∷ [])))) same
          ∙ more_accepted (fresh s.n) l a p.accepted (ap (λ t. is_accepted (step t a)) (sym p.state) ∙ e);
    }

-- an action as often as its line says, accepted each time
module _ (k : ℕ) (l : List Action) (s : State) (a : Action) (p : PlayedRun l s) where
  abbrev rest : Step.Result
  rest = repeated k (step s a).state a

  first_of : (PlayedRun (l ++ (a ∷ [])) (step s a).state → is_accepted rest ≡ true → PlayedRun ((l ++ (a ∷ [])) ++ replicate k a) rest.state)
      → is_accepted (repeated (suc k) s a) ≡ true → PlayedRun (l ++ replicate (suc k) a) (repeated (suc k) s a).state
  first_of later = go (is_accepted (step s a)) refl
    where
      go : (b : Bool) → is_accepted (step s a) ≡ b → is_accepted (cond b rest (refuses s (step s a).number)) ≡ true
          → PlayedRun (l ++ (a ∷ replicate k a)) (cond b rest (refuses s (step s a).number)).state
      go true q h = subst (λ m. PlayedRun m rest.state) (append_assoc l (a ∷ []) (replicate k a)) (later (one_more l s a p q) h)
      go false q h = clash (is_accepted (step s a)) h q

repeats : (k : ℕ) (l : List Action) (s : State) (a : Action) → PlayedRun l s → is_accepted (repeated k s a) ≡ true → PlayedRun (l ++ replicate k a) (repeated k s a).state
repeats zero l s a p e = subst (λ m. PlayedRun m s) (sym (append-nil l)) p
repeats (suc k) l s a p e = first_of k l s a p (repeats k (l ++ (a ∷ [])) (step s a).state a) e

repeats_n : (k : ℕ) (s : State) (a : Action) → (repeated k s a).state.n ≡ s.n
repeats_n zero s a = refl
repeats_n (suc k) s a = go (is_accepted (step s a)) (repeats_n k (step s a).state a)
  where
    go : (b : Bool) → (repeated k (step s a).state a).state.n ≡ (step s a).state.n → (cond b (repeated k (step s a).state a) (refuses s (step s a).number)).state.n ≡ s.n
    go true e = e ∙ step_n s a
    go false e = refl

-- a reader that goes on, after lines that said the numbers of nodes ns, the actions l and the questions qs: before the `nodes` line no number and no action, after it its number and the
-- actions that were played; before the line `find` no question, after it that one, which is not refused
record Reads (ns : List ℕ) (l : List Action) (qs : List (Question × ℕ)) (r : Reader) : Type 0 where
  none : eqb r.state.n 0 ≡ true → (ns ≡ []) × (l ≡ [])
  played : eqb r.state.n 0 ≡ false → (ns ≡ r.state.n ∷ []) × PlayedRun l r.state
  unasked : r.asked ≡ false → qs ≡ []
  asks : r.asked ≡ true → (qs ≡ (r.question, r.depth) ∷ []) × (route_number r.state r.question r.depth ≡ N.accepted)

abbrev Goes : List ℕ → List Action → List (Question × ℕ) → Reader → Type 0
Goes ns l qs r = r.fault ≡ None → Reads ns l qs r

halts : {A : Type 0} {f : Fault} → ◌≡◌ {A = Option Fault} (Some f) None → A
halts e = absurd (true≢false (ap is_some e))

-- a size is not 0
not_none : {A : Type 0} (n : ℕ) → is_size n ≡ true → eqb n 0 ≡ true → A
not_none n e z = never (ap is_size (sym (eqb-true n 0 z)) ∙ e)

module _ (ns : List ℕ) (l : List Action) (qs : List (Question × ℕ)) (r : Reader) (v : Reads ns l qs r) where
  -- after a line that is taken; one that says nothing
  abbrev Then : Result Line Fault → Reader → Type 0
  Then x r = Goes (ns ++ nodes_in x) (l ++ acts_in x) (qs ++ asks_in x) r

  same : Reads (ns ++ []) (l ++ []) (qs ++ []) r
  same = rw (append-nil ns, append-nil l, append-nil qs) v

  -- the lines of each sort before the line `find`
  module _ (before : r.asked ≡ false) where
    nodes_go : (m : ℕ) → Then (Ok (L.Nodes m)) (nodes_taken r m)
    unfolding nodes_taken
    nodes_go m = go (nodes_stage r.state.n m) refl
      where
        go : (x : Result Unit Fault) → nodes_stage r.state.n m ≡ x → Then (Ok (L.Nodes m)) (goes_on r (on_bus r (fresh m)) x)
        go (Ok u) q e =
            let first = sized_nodes r.state.n m q in
            let empty = v.none first.0 in
            let run : PlayedRun (l ++ []) (fresh m) = rw empty.1 (record { size = first.1; state = refl; accepted = refl }) in
            record {
              none = not_none m first.1;
              played = λ z. (ap (λ x. x ++ (m ∷ [])) empty.0, run);
              unasked = same.unasked;
              asks = λ z. clash r.asked z before;
            }
        go (Err f) q e = halts e

    action_goes : (a : Action) (k : ℕ) → Then (Ok (L.Acts a k)) (action_taken r a k)
    unfolding action_taken
    action_goes a k = go (eqb r.state.n 0) refl
      where
        plays : (ns ≡ r.state.n ∷ []) × PlayedRun l r.state → (b : Bool) → is_accepted (repeated k r.state a) ≡ b
            → Then (Ok (L.Acts a k)) (cond b (on_bus r (repeated k r.state a).state) (stopped r (F.Refused (repeated k r.state a).number)))
        plays p true q e =
            let more = repeats k l r.state a p.1 q in
            let one = append-nil ns ∙ p.0 ∙ ap (λ n. n ∷ []) (sym (repeats_n k r.state a)) in
            record {
              none = not_none (repeated k r.state a).state.n more.size;
              played = λ z. (one, more);
              unasked = same.unasked;
              asks = λ z. clash r.asked z before;
            }
        plays p false q e = halts e

        go : (b : Bool) → eqb r.state.n 0 ≡ b → Then (Ok (L.Acts a k)) (cond b (stopped r F.NodesMissing) (played_by r (repeated k r.state a)))
        go true q e = halts e
        go false q e = plays (v.played q) (is_accepted (repeated k r.state a)) refl e

    question_goes : (q : Question) (d : ℕ) → Then (Ok (L.Finds q d)) (question_taken r q d)
    unfolding question_taken
    question_goes q d = go (eqb r.state.n 0) (eqb (route_number r.state q d) N.accepted) refl
      where
        go : (b c : Bool) → eqb (route_number r.state q d) N.accepted ≡ c
            → Then (Ok (L.Finds q d)) (cond b (stopped r F.NodesMissing) (cond c (asking r q d) (stopped r (F.Refused (route_number r.state q d)))))
        go true c h e = halts e
        go false false h e = halts e
        go false true h e =
            record {
              none = same.none;
              played = same.played;
              unasked = λ z. absurd (true≢false z);
              asks = λ z. (ap (λ x. x ++ ((q, d) ∷ [])) (v.unasked before), eqb-true (route_number r.state q d) N.accepted h);
            }

    statement_goes : (x : Line) → Then (Ok x) (statement_taken r x)
    unfolding statement_taken
    statement_goes L.Blank e = same
    statement_goes (L.Nodes m) e = nodes_go m e
    statement_goes (L.Acts a k) e = action_goes a k e
    statement_goes (L.Actions k) e = halts e
    statement_goes (L.User i u) e = halts e
    statement_goes (L.Finds q d) e = question_goes q d e

  -- "Only blank lines and comments may follow the line `find`."
  follows : (x : Line) → Then (Ok x) (cond (says x) (stopped r F.AfterQuestion) (statement_taken r x))
  unfolding statement_taken
  follows L.Blank e = same
  follows (L.Nodes m) e = halts e
  follows (L.Acts a k) e = halts e
  follows (L.Actions k) e = halts e
  follows (L.User i u) e = halts e
  follows (L.Finds q d) e = halts e

  line_goes : (x : Result Line Fault) → Then x (line_taken r x)
  unfolding line_taken
  line_goes (Err f) = λ e. halts e
  line_goes (Ok x) = go r.asked refl
    where
      go : (b : Bool) → r.asked ≡ b → Then (Ok x) (cond (b && says x) (stopped r F.AfterQuestion) (statement_taken r x))
      go false q e = statement_goes q x e
      go true q e = follows x e

  on_line_reads : (i : ℕ) → Reads ns l qs (on_line r i)
  on_line_reads i = record { none = v.none; played = v.played; unasked = v.unasked; asks = v.asks }

feed_goes : (x : Result Line Fault) (t : List ℕ) (ns : List ℕ) (l : List Action) (qs : List (Question × ℕ)) (r : Reader) → line_of T.Question t ≡ x → Goes ns l qs r
    → Goes (ns ++ nodes_in x) (l ++ acts_in x) (qs ++ asks_in x) (feed_of r t)
unfolding feed_of
feed_goes x t ns l qs r o v = rw o (go r.fault refl)
  where
    go : (y : Option Fault) → r.fault ≡ y → Goes (ns ++ nodes_in x) (l ++ acts_in x) (qs ++ asks_in x) (cond (is_some y) r (line_taken (on_line r (counted r.line)) x))
    go None q e = line_goes ns l qs (on_line r (counted r.line)) (on_line_reads ns l qs r (v q) (counted r.line)) x e
    go (Some f) q e = halts (sym q ∙ e)

-- the lines of a text one after the other
all_go : (ts : List (List ℕ)) (ns : List ℕ) (l : List Action) (qs : List (Question × ℕ)) (r : Reader) → Goes ns l qs r
    → Goes (ns ++ said_from nodes_in T.Question ts) (l ++ said_from acts_in T.Question ts) (qs ++ said_from asks_in T.Question ts) (fed_from ts r)
all_go [] ns l qs r v = rw (append-nil ns, append-nil l, append-nil qs) v
all_go (t ∷ ts) ns l qs r v =
    let x = line_of T.Question t in
    rw (← append_assoc ns (nodes_in x) (said_from nodes_in T.Question ts), ← append_assoc l (acts_in x) (said_from acts_in T.Question ts), ← append_assoc qs (asks_in x) (said_from asks_in T.Question ts))
    (all_go ts (ns ++ nodes_in x) (l ++ acts_in x) (qs ++ asks_in x) (feed_of r t) (feed_goes x t ns l qs r refl v))

-- a text that ends without a fault has its `nodes` line and its line `find`
record Ends (ns : List ℕ) (l : List Action) (qs : List (Question × ℕ)) (r : Reader) : Type 0 where
  run : (ns ≡ r.state.n ∷ []) × PlayedRun l r.state
  asked : r.asked ≡ true
  question : (qs ≡ (r.question, r.depth) ∷ []) × (route_number r.state r.question r.depth ≡ N.accepted)

finish_ends : (ns : List ℕ) (l : List Action) (qs : List (Question × ℕ)) (r : Reader) → Goes ns l qs r → (finish_of r).fault ≡ None → Ends ns l qs (finish_of r)
unfolding finish_of
finish_ends ns l qs r v = go r.fault (eqb r.state.n 0) r.asked refl refl refl
  where
    finished : (x : Option Fault) (b c : Bool) → Reader
    finished x b c = cond (is_some x) r (cond b (stopped r F.NodesMissing) (cond c r (stopped r F.NoQuestion)))

    go : (x : Option Fault) (b c : Bool) → r.fault ≡ x → eqb r.state.n 0 ≡ b → r.asked ≡ c → (finished x b c).fault ≡ None → Ends ns l qs (finished x b c)
    go (Some f) b c q h k e = halts (sym q ∙ e)
    go None true c q h k e = halts e
    go None false false q h k e = halts e
    go None false true q h k e = record { run = (v q).played h; asked = k; question = (v q).asks k }

begins : Goes [] [] [] started
begins e = record { none = λ z. (refl, refl); played = λ z. absurd (true≢false z); unasked = λ z. refl; asks = λ z. never z }

module _ (text : List ℕ) (e : (read_by text).fault ≡ None) where
  ends : Ends (nodes_of text) (run_of text) (asks_of text) (read_by text)
  unfolding read_by nodes_of run_of asks_of
  ends = finish_ends _ _ _ _ (all_go (lines_of (unmarked text)) [] [] [] started begins) e

  -- for every text whose reading goes to its end without a fault: the state that the question is about is that of the text's run
  pub played_run : PlayedRun (run_of text) (read_by text).state
  played_run = ends.run.1

  -- on as many nodes as its one `nodes` line says
  pub nodes_once_lem : nodes_of text ≡ (read_by text).state.n ∷ []
  nodes_once_lem = ends.run.0

  -- what is asked is what its one line `find` says
  pub asked_once : asks_of text ≡ ((read_by text).question, (read_by text).depth) ∷ []
  asked_once = ends.question.0

  -- and the search does not refuse it
  pub asked_taken : ((read_by text).asked ≡ true) × (route_number (read_by text).state (read_by text).question (read_by text).depth ≡ N.accepted)
  asked_taken = (ends.asked, ends.question.1)

-- lines that do not begin with `find` say what they say in a run
pub as_run : {A : Type 0} (says : Result Line Fault → List A) (ts : List (List ℕ)) → NoFind ts → said_from says T.Question ts ≡ said_from says T.Run ts
as_run says [] h = refl
as_run says (t ∷ ts) h = ap₂ (λ x l. says x ++ l) (as_in_run t h.0) (as_run says ts h.1)
