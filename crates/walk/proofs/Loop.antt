-- The loop over a block's actions: what is left to do, and what has been put. Assumes nothing.
use mathlib.Core.Path.{◌≡◌, refl, sym, ◌∙◌}
use mathlib.Core.Bool.{Bool, true, false}
use mathlib.Core.List.{List, []}
use Prim.Native.Nat.{ℕ, ◌+◌}
use native.Mathlib.Omega.{arith}
use lib.ListN.{length, length-append}
use Rattle.transcript.specs.Lines.{refused_line}
use Rattle.transcript.specs.Room.{put, Puts}
use Rattle.transcript.proofs.Puts.{put_put, put_none}
use Rattle.walk.specs.Walk.{Turn, is_taken}
use Rattle.walk.specs.Feeding.{Part, turn_of}

-- to put the rest from here on is to put the whole from the start
pub record Same {S : Type 0} (start : List ℕ) (at : ℕ) (whole : Part S) (buf : List ℕ) (end : ℕ) (rest : Part S) : Type 0 where
  pub same_text : put buf end rest.text ≡ put start at whole.text
  pub same_end : end + length rest.text ≡ at + length whole.text
  pub same_state : rest.state ≡ whole.state
  pub same_stop : rest.ended ≡ whole.ended

pub record Put {S : Type 0} (start : List ℕ) (at : ℕ) (whole : Part S) (buf : List ℕ) (end : ℕ) (state : S) (stop : Bool) : Type 0 where
  pub text_put : Puts start at whole.text end buf
  pub last_state : state ≡ whole.state
  pub stopped : stop ≡ whole.ended

pub at_start : {S : Type 0} (buf : List ℕ) (at : ℕ) (whole : Part S) → Same buf at whole buf at whole
at_start buf at whole = record { same_text = refl; same_end = refl; same_state = refl; same_stop = refl }

-- one action more: its line is put, and the rest is left; or its refusal is put, and nothing is
module _ {S : Type 0} (i : ℕ) (t : Turn S) (later : Part S) {start buf after : List ℕ} {at end next : ℕ} {whole : Part S} (same : Same start at whole buf end (turn_of i t later)) where
  pub go_on : is_taken t ≡ true → Puts buf end t.line next after → Same start at whole after next later
  go_on e p =
      let s = rw e at same in
      let long = length-append t.line later.text in
      record {
        same_text = rw (p.holds, p.ends) (put_put buf end t.line later.text ∙ s.same_text);
        same_end = omega (arith, s.same_end);
        same_state = s.same_state;
        same_stop = s.same_stop;
      }

  pub stop : is_taken t ≡ false → Puts buf end (refused_line i t.number) next after → Put start at whole after next t.state true
  stop e p =
      let s = rw e at same in
      record {
        text_put = record { ends = p.ends ∙ s.same_end; holds = p.holds ∙ s.same_text };
        last_state = s.same_state;
        stopped = s.same_stop;
      }

-- no action is left
pub ends : {S : Type 0} {start buf : List ℕ} {at end : ℕ} {whole : Part S} {s : S} → Same start at whole buf end (record { text = []; state = s; ended = false }) → Put start at whole buf end s false
ends {buf = buf} {end = end} s =
    record {
      text_put = record { ends = omega (arith, s.same_end); holds = sym (put_none buf end) ∙ s.same_text };
      last_state = s.same_state;
      stopped = s.same_stop;
    }
