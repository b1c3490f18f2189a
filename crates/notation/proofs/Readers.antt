-- What every reader of a text may rely on. Assumes nothing.
use mathlib.Core.Path.{◌≡◌, refl}
use mathlib.Core.Bool.{Bool, true, false, cond, not}
use Prim.Native.Nat.{ℕ, zero, suc, ◌^◌, ◌<◌}
use native.Mathlib.Omega.{arith}
use borrow.Author.Tests.{lt-ltb}
use lib.Dec.{eqb}
use Rattle.charts.specs.Numbers as N
use Rattle.charts.specs.Valid.{is_size}
use Rattle.faults.specs.declared.Fault.TheVariants as F
use Rattle.std.proofs.Common.{Ok, Err}
use Rattle.notation.specs.Reading.{line_shown, nodes_stage}

-- the number shown for a line is its number, as far as 64 bits hold it
pub shown_small : (i : ℕ) → i < 2 ^ 64 → line_shown i ≡ i
shown_small zero h = refl
shown_small (suc i) h = rw (shown_small i (omega arith), lt-ltb i 18446744073709551615 (omega arith)) (omega arith)

-- a `nodes` line with which a text goes on is its first, and 1 does not refuse it
pub sized_nodes : (n m : ℕ) → nodes_stage n m ≡ Ok (tt {0}) → (eqb n 0 ≡ true) × (is_size m ≡ true)
unfolding nodes_stage
sized_nodes n m e = go (eqb n 0) (is_size m) refl refl e
  where
    go : (b s : Bool) → eqb n 0 ≡ b → is_size m ≡ s → cond (not b) (Err F.NodesAgain) (cond (not s) (Err (F.Refused N.wrong_size)) (Ok (tt {0}))) ≡ Ok (tt {0})
        → (eqb n 0 ≡ true) × (is_size m ≡ true)
    go true true p q h = (p, q)
    go true false p q h = absurd (let z : ◌≡◌ {A = ℕ} 0 1 = cc in omega arith)
    go false s p q h = absurd (let z : ◌≡◌ {A = ℕ} 0 1 = cc in omega arith)
