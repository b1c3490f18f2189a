-- The pieces of any file, fed one after the other, and then the file's end, give the text of the file. Assumes nothing.
use mathlib.Core.Path.{◌≡◌, refl, sym, ap, ◌∙◌}
use mathlib.Core.Bool.{Bool, true, false, cond}
use mathlib.Core.List.{List, [], ◌∷◌, ◌++◌, append_assoc, append-nil}
use Prim.Native.Nat.{ℕ, suc, ◌+◌}
use native.Mathlib.Omega.{arith}
use lib.Dec.{eqb, eqb-suc-zero}
use lib.ListN.{length}
use Rattle.charts.specs.declared.Action.{Action}
use Rattle.charts.specs.Valid.{is_size}
use Rattle.charts.proofs.Tools.{never}
use Rattle.std.specs.Prelude.{Ok, Err}
use Rattle.files.specs.declared.order.Stage.{Stage}
use Rattle.files.specs.declared.order.Stage.TheVariants.{Unopened, After, Ended}
use Rattle.runfile.specs.Block.{Head, head_of}
use Rattle.files.specs.Order.{is_ended, accepted_by, look_of, stage_after}
use Rattle.files.specs.Pieces.{pieces, Before, none, is_first, follows, looked_at, actions_in}
use Rattle.files.proofs.Stages.{before, same_look, Passed, passed, next, counted}
use Rattle.transcript.specs.Lines.{refused_line}
use Rattle.walk.specs.Walk.{is_taken, Walker, walking, opened, block_walked, walked_from, walked}
use Rattle.walk.specs.Feeding.{is_unopened, opening_of, found_by, text_by, found_in, found_text, Part, line_then, part_of, found_gives, feed_of, finish_of, fed_text}

-- a walk v that does what w does, in every state that some block 0 and the actions after it can lead to
pub record Does {S : Type 0} (Good : S → Type 0) (w v : Walker S) : Type 0 where
  pub same_heading : (first : Bool) (number count n : ℕ) (b : List ℕ) → v.heading first number count n b ≡ w.heading first number count n b
  pub same_done : (i : ℕ) → v.done i ≡ w.done i
  pub same_opening : (n : ℕ) → is_size n ≡ true → v.opening n ≡ w.opening n
  pub opening_good : (n : ℕ) → is_size n ≡ true → Good (w.opening n)
  pub opening_nodes : (n : ℕ) → is_size n ≡ true → v.nodes (w.opening n) ≡ n
  pub same_turn : (i : ℕ) (a : Action) (s : S) → Good s → v.turn i a s ≡ w.turn i a s
  pub turn_good : (i : ℕ) (a : Action) (s : S) → Good s → Good (w.turn i a s).state
  pub turn_nodes : (i : ℕ) (a : Action) (s : S) → Good s → v.nodes (w.turn i a s).state ≡ v.nodes s

module _ {S : Type 0} {Good : S → Type 0} {w v : Walker S} (does : Does Good w v) where
  -- one action and what follows it
  one_turn : (b : Bool) (t refused : List ℕ) (s : S) (p : Part S) (rest : List ℕ) (later : S → List ℕ)
      → rest ≡ p.text ++ cond p.ended [] (later p.state)
      → cond b (t ++ rest) refused
      ≡ (cond b (line_then t p) (record { text = refused; state = s; ended = true })).text
      ++ cond (cond b (line_then t p) (record { text = refused; state = s; ended = true })).ended [] (later (cond b (line_then t p) (record { text = refused; state = s; ended = true })).state)
  one_turn true t refused s p rest later e = rw e (sym (append_assoc t p.text (cond p.ended [] (later p.state))))
  one_turn false t refused s p rest later e = sym (append-nil refused)

  played : (acts : List Action) (s : S) (i : ℕ) (later : S → ℕ → List ℕ) → Good s
      → walking w acts s i later
      ≡ (part_of v acts s i).text ++ cond (part_of v acts s i).ended [] (later (part_of v acts s i).state (i + length acts))
  played [] s i later good = let e : i + 0 ≡ i = omega arith in rw e
  played (a ∷ l) s i later good =
      let next : i + suc (length l) ≡ suc i + length l = omega arith in
      let t = w.turn i a s in
      rw (does.same_turn i a s good, next)
      (one_turn (is_taken t) t.line (refused_line i t.number) t.state (part_of v l t.state (suc i)) _ (λ u. later u (suc i + length l))
      (played l t.state (suc i) later (does.turn_good i a s good)))

  -- the state after them is good, with the same n
  record Kept (s t : S) : Type 0 where
    still_good : Good t
    as_many : v.nodes t ≡ v.nodes s

  one_kept : (b : Bool) (t : List ℕ) (q p : Part S) (s : S) → Kept s p.state → Kept s q.state → Kept s (cond b (line_then t p) q).state
  one_kept true t q p s h k = h
  one_kept false t q p s h k = k

  part_kept : (acts : List Action) (s : S) (i : ℕ) → Good s → Kept s (part_of v acts s i).state
  part_kept [] s i good = record { still_good = good; as_many = refl }
  part_kept (a ∷ l) s i good =
      let t = w.turn i a s in
      let k = does.turn_good i a s good in
      let same = does.turn_nodes i a s good in
      let rest = part_kept l t.state (suc i) k in
      rw (does.same_turn i a s good)
      (one_kept (is_taken t) t.line (record { text = refused_line i t.number; state = t.state; ended = true }) (part_of v l t.state (suc i)) s
      (record { still_good = rest.still_good; as_many = rest.as_many ∙ same })
      (record { still_good = k; as_many = same }))

  -- after a refusal nothing is printed
  silent : (l : List (List ℕ)) (s : S) → fed_text v l (record { state = s; stage = Ended }) ≡ []
  unfolding feed_of found_in found_text finish_of
  silent [] s = refl
  silent (b ∷ l) s = silent l s

  -- the state that a walk may be in after block 0
  abbrev Fine : Stage → S → Type 0
  Fine Unopened s = Unit {0}
  Fine (After i c) s = Good s
  Fine Ended s = Unit {0}

  -- block 0 or not, in both; and the same state to begin with, which is good and has the block's n
  record Opens (g : Stage) (s : S) (n : ℕ) : Type 0 where
    first_is : is_unopened g ≡ is_first (before g (v.nodes s))
    opening_is : opening_of v g n s ≡ opened w (before g (v.nodes s)) n s
    opens_good : Good (opening_of v g n s)
    opens_nodes : v.nodes (opening_of v g n s) ≡ n

  opens : (g : Stage) (s : S) (number n : ℕ) → is_ended g ≡ false → Fine g s → follows (before g (v.nodes s)) number n ≡ true → is_size n ≡ true → Opens g s n
  opens Unopened s number n k good f z =
      let e = does.same_opening n z in
      record {
        first_is = refl;
        opening_is = e;
        opens_good = rw e (does.opening_good n z);
        opens_nodes = rw e (does.opening_nodes n z);
      }
  opens (After i c) s number n k good f z =
      record { first_is = rw (eqb-suc-zero i); opening_is = rw (eqb-suc-zero i); opens_good = good; opens_nodes = sym (next i c (v.nodes s) number n f).same_n }
  opens Ended s number n k good f z = never (sym k)

  -- a block and what follows it
  module _ (l : List (List ℕ)) (rest : (g : Stage) (s : S) → is_ended g ≡ false → Fine g s → fed_text v l (record { state = s; stage = g }) ≡ walked_from w l (before g (v.nodes s)) s (accepted_by g)) where
    ends : (p : Part S) (number count : ℕ) (b : Before) (i : ℕ) → Good p.state → before (After number count) (v.nodes p.state) ≡ b → accepted_by (After number count) ≡ i
        → fed_text v l (record { state = p.state; stage = stage_after p.ended number count }) ≡ cond p.ended [] (walked_from w l b p.state i)
    ends p number count b i good e f = by_end p.ended
      where
        by_end : (x : Bool) → fed_text v l (record { state = p.state; stage = stage_after x number count }) ≡ cond x [] (walked_from w l b p.state i)
        by_end true = silent l p.state
        by_end false = rw (← e, ← f) (rest (After number count) p.state refl good)

    block : (g : Stage) (s : S) (b : List ℕ) (h : Head) → is_ended g ≡ false → Fine g s → Passed (before g (v.nodes s)) h
        → (found_gives v g s b (text_by g h) (found_by h)).text ++ fed_text v l (found_gives v g s b (text_by g h) (found_by h)).after ≡ block_walked w b (before g (v.nodes s)) s (accepted_by g) h (walked_from w l)
    block g s b (Err j) k good z = rw (silent l s) (append-nil _)
    block g s b (Ok h) k good z =
        let number = h.number in
        let count = h.count in
        let n = h.n in
        let acts = actions_in count b in
        let m = v.nodes s in
        let o = opens g s number n k good z.0 z.1 in
        let q = counted g m number count n b k z.0 in
        let p = part_of v acts (opening_of v g n s) (accepted_by g) in
        let kept = part_kept acts (opening_of v g n s) (accepted_by g) o.opens_good in
        let later : Before = record { blocks = suc (before g m).blocks; full = eqb count 31; n = n } in
        let same : before (After number count) (v.nodes p.state) ≡ later = rw (q.the_next, kept.as_many ∙ o.opens_nodes) in
        let follow = ends p number count later (accepted_by g + length acts) kept.still_good same (sym q.in_all) in
        let heading = w.heading (is_unopened g) number count n b in
        rw (does.same_heading (is_unopened g) number count n b)
        (append_assoc heading p.text _
        ∙ rw (← o.opening_is, ← o.first_is)
        (ap (λ (t : List ℕ). heading ++ t)
        (ap (λ (t : List ℕ). p.text ++ t) follow ∙ sym (played acts (opening_of v g n s) (accepted_by g) (walked_from w l later) o.opens_good))))

  fed : (l : List (List ℕ)) (g : Stage) (s : S) → is_ended g ≡ false → Fine g s → fed_text v l (record { state = s; stage = g }) ≡ walked_from w l (before g (v.nodes s)) s (accepted_by g)
  unfolding feed_of found_in found_text look_of finish_of
  fed [] Unopened s k good = refl
  fed [] (After i c) s k good = rw (eqb-suc-zero i) (does.same_done _)
  fed [] Ended s k good = never (sym k)
  fed (b ∷ l) g s k good =
      rw (k, same_look g (v.nodes s) b (head_of b) k)
      (block l (λ h t j good. fed l h t j good) g s b (looked_at (before g (v.nodes s)) b (head_of b)) k good (passed (before g (v.nodes s)) b))

  -- the state before block 0 says nothing
  pub any_state : (l : List (List ℕ)) (s t : S) → walked_from w l none s 0 ≡ walked_from w l none t 0
  any_state [] s t = refl
  any_state (b ∷ l) s t = by_head (looked_at none b (head_of b))
    where
      by_head : (h : Head) → block_walked w b none s 0 h (walked_from w l) ≡ block_walked w b none t 0 h (walked_from w l)
      by_head (Err k) = refl
      by_head (Ok h) = refl

  -- the theorem
  pub whole : (s : S) (bytes : List ℕ) → fed_text v (pieces bytes) (record { state = s; stage = Unopened }) ≡ walked w bytes
  whole s bytes = fed (pieces bytes) Unopened s refl tt ∙ any_state (pieces bytes) s (w.opening 0)
