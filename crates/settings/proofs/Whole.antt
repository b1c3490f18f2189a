-- The lines of a text of settings, fed one after the other, and its end: they give what the text means. Assumes nothing.
use mathlib.Core.Path.{◌≡◌, refl, ap, ◌∙◌, fun_ext}
use mathlib.Core.Bool.{Bool, true, false, cond, not}
use mathlib.Core.List.{List, [], ◌∷◌}
use Prim.Native.Nat.{ℕ, suc, ◌^◌, ◌<◌, ◌≤◌}
use native.Mathlib.Omega.{arith}
use borrow.Author.Tests.{ltb-true}
use lib.Dec.{eqb, ltb}
use lib.ListN.{length, set, length-set}
use Rattle.charts.specs.Records.{is_address, is_own}
use Rattle.charts.specs.State.{upd}
use Rattle.charts.specs.declared.User.{User}
use Rattle.charts.proofs.Tools.{and-true}
use Rattle.std.proofs.Common.{None, Some, Result, Ok, Err}
use Rattle.charts.specs.Numbers as N
use Rattle.faults.specs.declared.Fault.{Fault}
use Rattle.faults.specs.declared.Fault.TheVariants as F
use Rattle.notation.specs.declared.Text.TheVariants as T
use Rattle.notation.specs.declared.Line.{Line}
use Rattle.notation.specs.declared.Line.TheVariants as L
use Rattle.notation.specs.Grammar.{line_of}
use Rattle.notation.specs.Reading.{counted, line_shown, nodes_stage}
use Rattle.notation.specs.Meaning.{lines_of, unmarked}
use Rattle.notation.proofs.Readers.{shown_small, sized_nodes}
use Rattle.settings.specs.declared.Settings.{Settings}
use Rattle.charts.specs.View.{users_of}
use Rattle.settings.specs.Settings.{started, on_line, for_nodes, for_actions, for_users, goes_on, nodes_taken, actions_stage, actions_taken, user_stage, user_taken, line_taken, feed_of, end_stage, end_of, finish_of}
use Rattle.settings.specs.Meant.{Meaning, trial, wrong, Said, on, off, said_if, line_on, end_on, after_line, settings_from, unsaid, settings_of, read_from, read_by}
use Rattle.settings.proofs.Users.{with_user_lem, nobody}

-- settings after i lines that gave n, k and us
record After (i n k : ℕ) (us : ℕ → User) (s : Settings) : Type 0 where
  going : s.fault ≡ None
  line : s.line ≡ line_shown i
  nodes : s.n ≡ n
  few : n ≤ 63
  actions : s.actions ≡ k
  places : length s.users ≡ 63
  users : (j : ℕ) → users_of s.users j ≡ us j

-- settings after a line that the meaning takes, or that has a fault
abbrev Goes : ℕ → Settings → Said → Type 0
Goes i s (on n k us) = After i n k us s
Goes i s (off f) = (s.fault ≡ Some f) × (s.line ≡ line_shown i)

-- the settings at the end of a text with that meaning
abbrev pub Reads : Settings → Meaning → Type 0
Reads s (trial n k us) = (s.fault ≡ None) × (s.n ≡ n) × (s.actions ≡ k) × (users_of s.users ≡ us)
Reads s (wrong i f) = (s.fault ≡ Some f) × (s.line ≡ line_shown i)

-- a user's line that goes on is one of a node below n
below_n : (n i address : ℕ) → user_stage n i address ≡ Ok (tt {0}) → i < n
unfolding user_stage
below_n n i address e = go (eqb n 0) (ltb i n) (is_address n address) (is_own i address) refl e
  where
    go : (b c d o : Bool) → ltb i n ≡ c
        → cond b (Err F.NodesMissing) (cond (not c) (Err (F.Refused N.wrong_node)) (cond (not d) (Err (F.Refused N.wrong_address)) (cond o (Err (F.Refused N.to_itself)) (Ok (tt {0}))))) ≡ Ok (tt {0}) → i < n
    go false true d o p h = ltb-true i n p
    go false false d o p h = absurd (let z : ◌≡◌ {A = ℕ} 0 1 = cc in omega arith)
    go true c d o p h = absurd (let z : ◌≡◌ {A = ℕ} 0 1 = cc in omega arith)

module _ (i n k : ℕ) (us : ℕ → User) (s : Settings) (a : After i n k us s) where
  next_line : counted s.line ≡ line_shown (suc i)
  next_line = ap counted a.line

  -- the settings on the next line
  abbrev next : Settings
  next = on_line s (counted s.line)

  stage_goes : (t : Settings) (w : Said) (x : Result Unit Fault) → (x ≡ Ok (tt {0}) → Goes (suc i) t w) → Goes (suc i) (goes_on next t x) (said_if w x)
  stage_goes t w (Ok u) h = h refl
  stage_goes t w (Err f) h = (refl, next_line)

  nodes_go : (m : ℕ) → Goes (suc i) (line_taken next (Ok (L.Nodes m))) (line_on n k us (Ok (L.Nodes m)))
  unfolding line_taken nodes_taken
  nodes_go m = rw (ap (λ (x : ℕ). nodes_stage x m) a.nodes) (stage_goes (for_nodes next m) (on m k us) (nodes_stage n m) λ e.
      let small = ltb-true m 64 ((and-true (ltb 1 m) _ (sized_nodes n m e).1).1) in
      record { going = a.going; line = next_line; nodes = refl; few = omega arith; actions = a.actions; places = a.places; users = a.users })

  actions_go : (j : ℕ) → Goes (suc i) (line_taken next (Ok (L.Actions j))) (line_on n k us (Ok (L.Actions j)))
  unfolding line_taken actions_taken
  actions_go j = rw (ap (λ (x : ℕ). actions_stage x) a.nodes) (stage_goes (for_actions next j) (on n j us) (actions_stage n) λ e.
      record { going = a.going; line = next_line; nodes = a.nodes; few = a.few; actions = refl; places = a.places; users = a.users })

  user_goes : (j : ℕ) (u : User) → Goes (suc i) (line_taken next (Ok (L.User j u))) (line_on n k us (Ok (L.User j u)))
  unfolding line_taken user_taken
  user_goes j u = rw (ap (λ (x : ℕ). user_stage x j u.address) a.nodes) (stage_goes (for_users next (set s.users j u)) (on n k (upd us j u)) (user_stage n j u.address) λ e.
      let below = below_n n j u.address e in
      let few = a.few in
      let sixty = a.places in
      let inside : j < length s.users = omega arith in
      record {
        going = a.going;
        line = next_line;
        nodes = a.nodes;
        few = a.few;
        actions = a.actions;
        places = length-set s.users j u ∙ a.places;
        users = λ m. with_user_lem s.users j u inside m ∙ ap (λ (x : User). cond (eqb m j) u x) (a.users m);
      })

  line_goes : (x : Result Line Fault) → Goes (suc i) (line_taken next x) (line_on n k us x)
  unfolding line_taken
  line_goes (Ok L.Blank) = record { going = a.going; line = next_line; nodes = a.nodes; few = a.few; actions = a.actions; places = a.places; users = a.users }
  line_goes (Ok (L.Nodes m)) = nodes_go m
  line_goes (Ok (L.Acts x t)) = (refl, next_line)
  line_goes (Ok (L.Actions j)) = actions_go j
  line_goes (Ok (L.User j u)) = user_goes j u
  line_goes (Ok (L.Finds q d)) = (refl, next_line)
  line_goes (Err f) = (refl, next_line)

  fed : (t : List ℕ) → feed_of s t ≡ line_taken next (line_of T.Settings t)
  unfolding feed_of
  fed t = rw a.going

  feed_goes : (t : List ℕ) → Goes (suc i) (feed_of s t) (line_on n k us (line_of T.Settings t))
  feed_goes t = rw (fed t) (line_goes (line_of T.Settings t))

  -- the end of the text
  finished : finish_of s ≡ goes_on s s (end_stage n k (us 0))
  unfolding finish_of end_of
  finished = rw (a.going, a.nodes, a.actions, a.users 0)

  end_goes : Reads (finish_of s) (end_on i (trial n k us) (end_stage n k (us 0)))
  end_goes = rw finished (go (end_stage n k (us 0)))
    where
      go : (x : Result Unit Fault) → Reads (goes_on s s x) (end_on i (trial n k us) x)
      go (Ok u) = (a.going, a.nodes, a.actions, fun_ext a.users)
      go (Err f) = (refl, a.line)

-- settings that have stopped take no more
module _ (s : Settings) (f : Fault) (h : s.fault ≡ Some f) where
  feed_still : (t : List ℕ) → feed_of s t ≡ s
  unfolding feed_of
  feed_still t = rw h

  finish_still : finish_of s ≡ s
  unfolding finish_of
  finish_still = rw h

  still : (ts : List (List ℕ)) → read_from ts s ≡ s
  still [] = finish_still
  still (t ∷ ts) = rw (feed_still t) (still ts)

-- the lines of a text one after the other
abbrev AllRead : List (List ℕ) → Type 0
AllRead ts = (i n k : ℕ) (us : ℕ → User) (s : Settings) → After i n k us s → Reads (read_from ts s) (settings_from ts i n k us)

one_line : (t : List ℕ) (ts : List (List ℕ)) → AllRead ts → AllRead (t ∷ ts)
one_line t ts later i n k us s a = go (line_on n k us (line_of T.Settings t)) (feed_goes i n k us s a t)
  where
    go : (w : Said) → Goes (suc i) (feed_of s t) w → Reads (read_from ts (feed_of s t)) (after_line (suc i) w (settings_from ts (suc i)))
    go (on m j vs) g = later (suc i) m j vs (feed_of s t) g
    go (off f) g = rw (still (feed_of s t) f g.0 ts) g

all_read : (ts : List (List ℕ)) → AllRead ts
all_read [] i n k us s a = end_goes i n k us s a
all_read (t ∷ ts) i n k us s a = one_line t ts (all_read ts) i n k us s a

begins : After 0 0 0 (λ i. unsaid) started
begins = record { going = refl; line = refl; nodes = refl; few = omega arith; actions = refl; places = refl; users = nobody }

-- for every text: its lines fed and its end give exactly what it means
pub whole : (text : List ℕ) → Reads (read_by text) (settings_of text)
unfolding settings_of read_by
whole text = all_read (lines_of (unmarked text)) 0 0 0 (λ i. unsaid) started begins

-- a text that means n, k and us is read as these, without a fault
pub sets : (text : List ℕ) (n k : ℕ) (us : ℕ → User) → settings_of text ≡ trial n k us
    → ((read_by text).fault ≡ None) × ((read_by text).n ≡ n) × ((read_by text).actions ≡ k) × (users_of (read_by text).users ≡ us)
sets text n k us h = rw h at (whole text)

-- a text that is wrong leaves the settings stopped with that fault on that line
pub stops : (text : List ℕ) (i : ℕ) (f : Fault) → settings_of text ≡ wrong i f → i < 2 ^ 64 → ((read_by text).fault ≡ Some f) × ((read_by text).line ≡ i)
stops text i f h small =
    let o = rw h at (whole text) in
    (o.0, o.1 ∙ shown_small i small)
