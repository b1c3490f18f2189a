use mathlib.Core.Path.{◌≡◌, sym, ◌∙◌}
use Prim.Native.Nat.{ℕ, ◌+◌, ◌*◌, ◌-◌}
use native.Mathlib.Omega.{arith}
use lib.ListN.{length, take, drop, length-drop}
use lib.Seq.{length-take-le, drop-drop}
use borrow.Author.Rules.{rules}
use Rattle.runfile.specs.Block.{count_in}
use Rattle.runfile.specs.Sums.{sums_of}
use Rattle.runfile.proofs.Parts.{bytes_drop}
use Rattle.runfile.proofs.Traces.{none, one_more, sum_small, fits_size}
use Rattle.runfile.proofs.action_sums.Goals as goal

pub returns-then-not-count_fits : goal.returns-then-not-count_fits
unfolding sums_of
returns-then-not-count_fits c = rw (sym c.count_fits.ensures.value ∙ c.if-not-count_fits.true)

pub bounds-block-4 : goal.bounds-block-4
bounds-block-4 c = omega (arith, fits_size _ (sym c.count_fits.ensures.value ∙ c.if-not-count_fits.false))

pub loop-k-init : goal.loop-k-init
loop-k-init c = let fits = c.if-not-count_fits.false in
    (c.count_fits.ensures.block_bound fits, fits_size _ (sym c.count_fits.ensures.value ∙ fits), none _)

pub weighed-so_far-requires : goal.weighed-so_far-requires
weighed-so_far-requires c = let e : 14 + 16 * c.loop-k.k + 16 - (14 + 16 * c.loop-k.k) ≡ 16 = omega arith in
    let n : length (take 16 (drop (14 + 16 * c.loop-k.k) c.args.block.now)) ≡ 16 = length-take-le 16 (drop (14 + 16 * c.loop-k.k) c.args.block.now) (simp length-drop (search rules)) in
    rw (e, n) (search rules)

pub overflow_add-so_far : goal.overflow_add-so_far
overflow_add-so_far c = let e : 14 + 16 * c.loop-k.k + 16 - (14 + 16 * c.loop-k.k) ≡ 16 = omega arith in
    let n : length (take 16 (drop (14 + 16 * c.loop-k.k) c.args.block.now)) ≡ 16 = length-take-le 16 (drop (14 + 16 * c.loop-k.k) c.args.block.now) (simp length-drop (search rules)) in
    let b = sum_small (drop 14 c.args.block.now) c.loop-k.k (bytes_drop 14 c.args.block.now (λ (i : ℕ). omega (arith, c.type_inv.block i))) (search rules) (simp length-drop (search rules)) in
    omega (arith, c.loop-k.invariant.2.so_far, rw (e, n) at c.weighed-so_far.ensures.upper_bound)

pub loop-k-preserved : goal.loop-k-preserved
loop-k-preserved c = let e : 14 + 16 * c.loop-k.k + 16 - (14 + 16 * c.loop-k.k) ≡ 16 = omega arith in
    let m = one_more (drop 14 c.args.block.now) c.loop-k.k (simp length-drop (search rules)) c.loop-k.invariant.2 (search rules) in
    (search rules, search rules, rw (c.weighed-so_far.ensures.value, e) (rw drop-drop at m))

pub returns : goal.returns
unfolding sums_of
returns c = let fits = sym c.count_fits.ensures.value ∙ c.if-not-count_fits.false in
    let z : c.loop-k.k ≡ count_in c.args.block.now = omega arith in
    rw (fits, ← z) c.loop-k.invariant.2.each
