use mathlib.Core.Path.{◌≡◌, ap}
use Prim.Native.Nat.{ℕ, ◌%◌}
use native.Mathlib.Omega.{arith}
use lib.ListN.{length, take, drop, length-drop}
use lib.Seq.{take-take, length-take-le}
use borrow.Author.Rules.{rules}
use Rattle.runfile.specs.Block.{check_of}
use Rattle.runfile.proofs.Parts.{cut}
use Rattle.runfile.proofs.Sums.{part_small, weigh_cut}
use Rattle.runfile.proofs.check_sum.Goals as goal

pub overflow_add-result : goal.overflow_add-result
overflow_add-result c = let b = part_small c.args.block.now 0 496 (λ (i : ℕ). omega (arith, c.type_inv.block i)) (search rules) in
    let n : length (take 14 (drop 496 c.args.block.now)) ≡ 14 = length-take-le 14 (drop 496 c.args.block.now) (simp length-drop (search rules)) in
    rw c.rows_sum.ensures (omega (arith, b.1, rw n at c.weighed.ensures.upper_bound))

pub returns : goal.returns
unfolding check_of
returns c = let n : length (take 510 c.args.block.now) ≡ 510 = length-take-le 510 c.args.block.now (search rules) in
    let w = rw (take-take 496 510 c.args.block.now (omega arith), cut 496 14 c.args.block.now (search rules)) at (weigh_cut 0 496 (take 510 c.args.block.now) (rw n (omega arith))) in
    ap (λ (x : ℕ). x % 65521) (omega (arith, c.rows_sum.ensures, c.weighed.ensures.value, w))
