-- What a text of settings means, a trial takes: none of 1, 5, 15 and 11 refuses it. Assumes nothing.
use mathlib.Core.Path.{◌≡◌, refl, sym, ap, ◌∙◌}
use mathlib.Core.Bool.{Bool, true, false, cond, not}
use mathlib.Core.List.{List, [], ◌∷◌}
use Prim.Native.Nat.{ℕ, suc}
use native.Mathlib.Omega.{arith}
use borrow.Author.Tests.{eqb-true, eqb-false, ltb-true, lt-ltb, ne_eqb}
use lib.Dec.{eqb, ltb}
use Rattle.std.proofs.Common.{Result, Ok, Err}
use Rattle.charts.specs.Numbers as N
use Rattle.charts.specs.Records.{is_address, is_own}
use Rattle.charts.specs.State.{upd}
use Rattle.charts.specs.Trials.{stray_address, own_address, trial_number}
use Rattle.charts.specs.Valid.{is_size}
use Rattle.charts.proofs.Tools.{some-none, and-true}
use Rattle.charts.specs.declared.User.{User}
use Rattle.faults.specs.declared.Fault.{Fault}
use Rattle.faults.specs.declared.Fault.TheVariants as F
use Rattle.notation.specs.declared.Text.TheVariants as T
use Rattle.notation.specs.declared.Line.{Line}
use Rattle.notation.specs.declared.Line.TheVariants as L
use Rattle.notation.specs.Grammar.{line_of}
use Rattle.notation.specs.Reading.{nodes_stage}
use Rattle.notation.specs.Meaning.{lines_of, unmarked}
use Rattle.notation.proofs.Readers.{sized_nodes}
use Rattle.settings.specs.Settings.{actions_stage, user_stage, end_stage}
use Rattle.settings.specs.Meant.{Meaning, trial, wrong, Said, on, off, said_if, line_on, end_on, after_line, settings_from, unsaid, settings_of}

-- n and the users after some lines: before the `nodes` line nobody sends elsewhere than to 0, after it everybody to an address; and no node but 0 to itself
record Fine (n : ℕ) (us : ℕ → User) : Type 0 where
  none : eqb n 0 ≡ true → (j : ℕ) → (us j).address ≡ 0
  size : eqb n 0 ≡ false → is_size n ≡ true
  sent : eqb n 0 ≡ false → (j : ℕ) → is_address n (us j).address ≡ true
  other : (j : ℕ) → eqb j 0 ≡ false → is_own j (us j).address ≡ false

abbrev FineSaid : Said → Type 0
FineSaid (on n k us) = Fine n us
FineSaid (off f) = Unit

not_both : {P : Type 0} {b : Bool} → b ≡ true → b ≡ false → P
not_both e f = absurd (let z : true ≡ false = sym e ∙ f in let y : ◌≡◌ {A = ℕ} 0 1 = cc in omega arith)

stage_fine : (w : Said) (x : Result Unit Fault) → (x ≡ Ok (tt {0}) → FineSaid w) → FineSaid (said_if w x)
stage_fine w (Ok u) h = h refl
stage_fine w (Err f) h = tt

-- a user's line that goes on follows the `nodes` line, and sends to an address, not to its own node
record Sent (n i address : ℕ) : Type 0 where
  after : eqb n 0 ≡ false
  known : is_address n address ≡ true
  else : is_own i address ≡ false

sends : (n i address : ℕ) → user_stage n i address ≡ Ok (tt {0}) → Sent n i address
unfolding user_stage
sends n i address e = go (eqb n 0) (ltb i n) (is_address n address) (is_own i address) refl refl refl e
  where
    go : (b c d o : Bool) → eqb n 0 ≡ b → is_address n address ≡ d → is_own i address ≡ o
        → cond b (Err F.NodesMissing) (cond (not c) (Err (F.Refused N.wrong_node)) (cond (not d) (Err (F.Refused N.wrong_address)) (cond o (Err (F.Refused N.to_itself)) (Ok (tt {0}))))) ≡ Ok (tt {0})
        → Sent n i address
    go false true true false p q r h = record { after = p; known = q; else = r }
    go false true true true p q r h = absurd (let z : ◌≡◌ {A = ℕ} 0 1 = cc in omega arith)
    go false true false o p q r h = absurd (let z : ◌≡◌ {A = ℕ} 0 1 = cc in omega arith)
    go false false d o p q r h = absurd (let z : ◌≡◌ {A = ℕ} 0 1 = cc in omega arith)
    go true c d o p q r h = absurd (let z : ◌≡◌ {A = ℕ} 0 1 = cc in omega arith)

module _ (n k : ℕ) (us : ℕ → User) (fine : Fine n us) where
  nodes_fine : (m : ℕ) → nodes_stage n m ≡ Ok (tt {0}) → Fine m us
  nodes_fine m e =
      let first = sized_nodes n m e in
      let low = ltb-true 1 m ((and-true (ltb 1 m) _ first.1).0) in
      record {
        none = λ z. not_both z (ne_eqb m 0 (λ q. omega arith));
        size = λ z. first.1;
        sent = λ z j. rw (fine.none first.0 j, lt-ltb 0 m (omega arith));
        other = fine.other;
      }

  user_fine : (i : ℕ) (u : User) → user_stage n i u.address ≡ Ok (tt {0}) → Fine n (upd us i u)
  user_fine i u e =
      let goes = sends n i u.address e in
      record { none = λ z. not_both z goes.after; size = fine.size; sent = λ z j. go j goes.known (fine.sent z j) (eqb j i); other = λ j z. apart j goes.else (fine.other j z) (eqb j i) refl }
    where
      go : (j : ℕ) → is_address n u.address ≡ true → is_address n (us j).address ≡ true → (b : Bool) → is_address n (cond b u (us j)).address ≡ true
      go j p q true = p
      go j p q false = q

      apart : (j : ℕ) → is_own i u.address ≡ false → is_own j (us j).address ≡ false → (b : Bool) → eqb j i ≡ b → is_own j (cond b u (us j)).address ≡ false
      apart j p q true e = ap (λ (m : ℕ). is_own m u.address) (eqb-true j i e) ∙ p
      apart j p q false e = q

  line_fine : (x : Result Line Fault) → FineSaid (line_on n k us x)
  line_fine (Ok L.Blank) = fine
  line_fine (Ok (L.Nodes m)) = stage_fine (on m k us) (nodes_stage n m) (nodes_fine m)
  line_fine (Ok (L.Acts a t)) = tt
  line_fine (Ok (L.Actions j)) = stage_fine (on n j us) (actions_stage n) (λ e. fine)
  line_fine (Ok (L.User i u)) = stage_fine (on n k (upd us i u)) (user_stage n i u.address) (user_fine i u)
  line_fine (Ok (L.Finds q d)) = tt
  line_fine (Err f) = tt

abbrev Takes : Meaning → Type 0
Takes (trial n k us) = trial_number us n k ≡ N.accepted
Takes (wrong i f) = Unit

end_takes : (i n k : ℕ) (us : ℕ → User) → Fine n us → Takes (end_on i (trial n k us) (end_stage n k (us 0)))
unfolding trial_number
end_takes i n k us fine = go (eqb n 0) (is_own 0 (us 0).address) (eqb k 0) refl refl refl
  where
    all_other : is_own 0 (us 0).address ≡ false → (j : ℕ) (b : Bool) → eqb j 0 ≡ b → is_own j (us j).address ≡ false
    all_other o j true e = ap (λ (m : ℕ). is_own m (us m).address) (eqb-true j 0 e) ∙ o
    all_other o j false e = fine.other j e

    go : (b o c : Bool) → eqb n 0 ≡ b → is_own 0 (us 0).address ≡ o → eqb k 0 ≡ c
        → Takes (end_on i (trial n k us) (cond b (Err F.NodesMissing) (cond o (Err F.NoUser) (cond c (Err F.NoAction) (Ok (tt {0}))))))
    go true o c p r q = tt
    go false true c p r q = tt
    go false false true p r q = tt
    go false false false p r q = rw (fine.size p, some-none (stray_address us n) n (λ j h. ap not (fine.sent p j)), some-none (own_address us) n (λ j h. all_other r j (eqb j 0) refl), q)

all_take : (ts : List (List ℕ)) (i n k : ℕ) (us : ℕ → User) → Fine n us → Takes (settings_from ts i n k us)
all_take [] i n k us fine = end_takes i n k us fine
all_take (t ∷ ts) i n k us fine = go (line_on n k us (line_of T.Settings t)) (line_fine n k us fine (line_of T.Settings t)) (all_take ts (suc i))
  where
    go : (w : Said) → FineSaid w → ((m j : ℕ) (vs : ℕ → User) → Fine m vs → Takes (settings_from ts (suc i) m j vs)) → Takes (after_line (suc i) w (settings_from ts (suc i)))
    go (on m j vs) g later = later m j vs g
    go (off f) g later = tt

of_text : (text : List ℕ) → Takes (settings_of text)
unfolding settings_of
of_text text = all_take (lines_of (unmarked text)) 0 0 0 (λ i. unsaid) (record { none = λ e j. refl; size = λ e. not_both refl e; sent = λ e j. not_both refl e; other = λ j e. ne_eqb 0 j (λ z. eqb-false j 0 e (sym z)) })

-- for every text that means n, k and us: a trial with these is not refused
pub takes : (text : List ℕ) (n k : ℕ) (us : ℕ → User) → settings_of text ≡ trial n k us → trial_number us n k ≡ N.accepted
takes text n k us h = rw h at (of_text text)
