-- Actions summed one after the other. Assumes nothing.
use mathlib.Core.Path.{◌≡◌, refl, sym, ◌∙◌}
use mathlib.Core.Bool.{true}
use mathlib.Core.List.{List, [], ◌∷◌, ◌++◌, append_assoc}
use Prim.Native.Nat.{ℕ, zero, suc, ◌+◌, ◌*◌, ◌-◌, ◌%◌, ◌<◌, ◌≤◌}
use native.Mathlib.Omega.{arith}
use native.Mathlib.Numerals.{add-one}
use lib.Dec.{eqb}
use lib.ListN.{length, take, drop, set, length-append, length-drop}
use lib.Seq.{set_at, take-add, take-append-le, length-take-le}
use borrow.Author.Tests.{eqb-true}
use Rattle.record.specs.Bytes.{Bytes}
use Rattle.runfile.specs.Block.{weigh, zeros, count_fits}
use Rattle.runfile.specs.Sums.{sum_to, sums_to, sums_for}
use Rattle.runfile.proofs.Loops.{and_left}
use Rattle.runfile.proofs.Parts.{bytes_take}
use Rattle.runfile.proofs.Sums.{weigh_append, few_small}

pub length_sums : (k : ℕ) (actions : List ℕ) → length (sums_to k actions) ≡ k
length_sums zero actions = refl
length_sums (suc k) actions = simp length-append (omega (arith, length_sums k actions))

-- k actions are summed: their sum, not reduced yet, and the sums so far
pub record Sums (actions : List ℕ) (k sum : ℕ) (sums : List ℕ) : Type 0 where
  pub so_far : sum ≡ weigh 14 (take (16 * k) actions)
  pub each : sums ≡ sums_for k actions

pub none : (actions : List ℕ) → Sums actions 0 0 (zeros 31)
none actions = record { so_far = refl; each = refl }

module _ (actions : List ℕ) (k : ℕ) (fits : 16 * (k + 1) ≤ length actions) where
  -- the bytes of one action more
  next_sum : weigh 14 (take (16 * (k + 1)) actions) ≡ weigh 14 (take (16 * k) actions) + weigh (14 + 16 * k) (take 16 (drop (16 * k) actions))
  next_sum =
      let e : 16 * (k + 1) ≡ 16 * k + 16 = omega arith in
      let n : length (take (16 * k) actions) ≡ 16 * k = length-take-le (16 * k) actions (omega arith) in
      rw (e, take-add (16 * k) 16 actions) (rw n at (weigh_append 14 (take (16 * k) actions) (take 16 (drop (16 * k) actions))))

  pub row_length : length (take 16 (drop (16 * k) actions)) ≡ 16
  row_length = length-take-le 16 (drop (16 * k) actions) (simp length-drop (omega arith))

  module _ {sum : ℕ} {sums : List ℕ} (s : Sums actions k sum sums) where
    all : sum + weigh (14 + 16 * k) (take 16 (drop (16 * k) actions)) ≡ weigh 14 (take (16 * (k + 1)) actions)
    all = rw s.so_far (sym next_sum)

    pub one_more : k < 31
        → Sums actions (k + 1) (sum + weigh (14 + 16 * k) (take 16 (drop (16 * k) actions))) (set sums k ((sum + weigh (14 + 16 * k) (take 16 (drop (16 * k) actions))) % 65521))
    one_more few = record { so_far = all; each = rw (all, s.each, add-one k) stored }
      where
        stored : set (sums_for k actions) k (sum_to (suc k) actions) ≡ sums_for (suc k) actions
        stored =
            let w : 31 - k ≡ suc (31 - suc k) = omega arith in
            rw w (set_at (sums_to k actions) 0 (zeros (31 - suc k)) (sum_to (suc k) actions) k (length_sums k actions)
            ∙ sym (append_assoc (sums_to k actions) (sum_to (suc k) actions ∷ []) (zeros (31 - suc k))))

-- the sum of a block's actions fits 32 bits
pub sum_small : (actions : List ℕ) (k : ℕ) → Bytes actions → k ≤ 31 → 16 * k ≤ length actions → weigh 14 (take (16 * k) actions) ≤ 64504800
sum_small actions k bytes few fits =
    let n : length (take (16 * k) actions) ≡ 16 * k = length-take-le (16 * k) actions fits in
    let s = rw n at (few_small 14 (take (16 * k) actions) (bytes_take (16 * k) actions bytes) (rw n (omega arith))) in
    omega arith

-- the sums of the first actions do not depend on what stands after them
pub sums_append : (k : ℕ) (actions rest : List ℕ) → 16 * k ≤ length actions → sums_to k (actions ++ rest) ≡ sums_to k actions
sums_append zero actions rest h = refl
sums_append (suc k) actions rest h =
    rw (sums_append k actions rest (omega arith), take-append-le (16 * suc k) actions rest h)

-- what 11 lets pass is 512 bytes
pub fits_size : (s : List ℕ) → count_fits s ≡ true → length s ≡ 512
unfolding count_fits
fits_size s h = eqb-true (length s) 512 (and_left (eqb (length s) 512) _ h)
