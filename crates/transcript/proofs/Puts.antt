-- Text put into a buffer, piece after piece. Assumes nothing.
use Prim.Native.Nat.{ℕ, suc, ◌+◌, ◌-◌, ◌≤◌}
use mathlib.Core.Path.{◌≡◌, refl, ◌∙◌}
use mathlib.Core.List.{List, [], ◌∷◌, ◌++◌, append_assoc}
use native.Mathlib.Omega.{arith}
use lib.ListN.{length, take, drop, set, length-append}
use Rattle.std.proofs.lemmas.List.{drop-drop}
use lib.Seq.{length-sets, sets-eq, take_at, length-take-le}
use Rattle.transcript.specs.Room.{put, Puts}

pub put_none : (buf : List ℕ) (at : ℕ) → put buf at [] ≡ buf
unfolding put
put_none buf at = refl

pub put_more : (buf : List ℕ) (at b : ℕ) (t : List ℕ) → put buf at (b ∷ t) ≡ put (set buf at b) (suc at) t
unfolding put
put_more buf at b t = refl

pub length-put : (buf : List ℕ) (at : ℕ) (t : List ℕ) → length (put buf at t) ≡ length buf
unfolding put
length-put buf at t = length-sets buf at t

-- a text and then another, at the place after it
pub put_put : (buf : List ℕ) (at : ℕ) (s t : List ℕ) → put (put buf at s) (at + length s) t ≡ put buf at (s ++ t)
unfolding put
put_put buf at [] t = let e : at + 0 ≡ at = omega arith in rw e
put_put buf at (b ∷ s) t =
    let e : at + suc (length s) ≡ suc at + length s = omega arith in
    rw e (put_put (set buf at b) (suc at) s t)

-- what two writers do, one after the other
pub and_then : {buf after last : List ℕ} {at end stop : ℕ} {s t : List ℕ} → Puts buf at s end after → Puts after end t stop last → Puts buf at (s ++ t) stop last
and_then {buf} {after} {last} {at} {end} {stop} {s} {t} p q =
    record {
      ends = let e = length-append s t in omega arith;
      holds = q.holds ∙ rw (p.holds, p.ends) (put_put buf at s t);
    }

pub puts_none : (buf : List ℕ) (at : ℕ) → Puts buf at [] at buf
unfolding put
puts_none buf at = record { ends = omega arith; holds = refl }

pub puts_byte : (buf : List ℕ) (at b : ℕ) → Puts buf at (b ∷ []) (at + 1) (set buf at b)
unfolding put
puts_byte buf at b = record { ends = refl; holds = refl }

-- what a reader of the buffer finds before the text's end
pub take_put : (buf : List ℕ) (at : ℕ) (t : List ℕ) → at + length t ≤ length buf → take (at + length t) (put buf at t) ≡ take at buf ++ t
unfolding put
take_put buf at t h =
    let e : length (take at buf ++ t) ≡ at + length t = length-append (take at buf) t ∙ rw (length-take-le at buf (omega arith)) in
    rw (sets-eq t buf at h) (take_at (take at buf ++ t) (drop (at + length t) buf) (at + length t) e)

-- a text copied into its place
pub puts_whole : (buf : List ℕ) (at : ℕ) (t : List ℕ) → at + length t ≤ length buf → Puts buf at t (at + length t) (take at buf ++ (t ++ drop (at + length t - at) (drop at buf)))
unfolding put
puts_whole buf at t h =
    let far : at + length t - at ≡ length t = omega arith in
    record { ends = refl; holds = rw (sets-eq t buf at h, append_assoc, far, drop-drop) }

-- what a text put at the start of a buffer is read back as
pub taken : {buf after : List ℕ} {end : ℕ} {t : List ℕ} → Puts buf 0 t end after → end ≤ length buf → take end after ≡ t
taken {buf} {t = t} p h =
    let e = p.ends in
    let same : 0 + length t ≡ length t = omega arith in
    rw (p.holds, p.ends) (take_put buf 0 t (omega arith))
