use mathlib.Core.Path.{ap}
use Prim.Native.Nat.{ℕ, ◌+◌}
use native.Mathlib.Omega.{arith}
use native.Mathlib.Nat.{add-zero, zero-add}
use lib.ListN.{drop_of_length-le}
use borrow.Author.Rules.{rules}
use Rattle.runfile.specs.Block.{weigh}
use Rattle.runfile.proofs.Sums.{few_small, weigh_more}
use Rattle.runfile.proofs.weighed.Goals as goal

pub loop-i-init : goal.loop-i-init
loop-i-init c = simp (add-zero, zero-add)

pub overflow_mul-sum : goal.overflow_mul-sum
overflow_mul-sum c = let s = c.args.bytes.now in
    let b = few_small c.args.at s (λ (i : ℕ). omega (arith, c.type_inv.bytes i)) (search rules) in
    let m = weigh_more c.args.at c.loop-i.i s c.loop-i-test.true in
    omega arith

pub overflow_add-sum-in-loop-i-2 : goal.overflow_add-sum-in-loop-i-2
overflow_add-sum-in-loop-i-2 c = let s = c.args.bytes.now in
    let b = few_small c.args.at s (λ (i : ℕ). omega (arith, c.type_inv.bytes i)) (search rules) in
    let m = weigh_more c.args.at c.loop-i.i s c.loop-i-test.true in
    omega arith

pub loop-i-preserved : goal.loop-i-preserved
loop-i-preserved c = let m = weigh_more c.args.at c.loop-i.i c.args.bytes.now c.loop-i-test.true in
    omega arith

pub returns : goal.returns
returns c = let s = c.args.bytes.now in
    let z = ap (weigh (c.args.at + c.loop-i.i)) (drop_of_length-le s c.loop-i-test.false) in
    let b = few_small c.args.at s (λ (i : ℕ). omega (arith, c.type_inv.bytes i)) (search rules) in
    record { value = omega arith; upper_bound = omega arith }
