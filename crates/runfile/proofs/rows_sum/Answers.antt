use mathlib.Core.Path.{◌≡◌, ap, sym, ◌∙◌}
use Prim.Native.Nat.{ℕ, ◌+◌, ◌*◌, ◌-◌, ◌≤◌}
use native.Mathlib.Omega.{arith}
use lib.ListN.{length, take, drop, length-drop}
use lib.Seq.{slice, slice_empty, length-take-le}
use borrow.Author.Rules.{rules}
use Rattle.runfile.specs.Block.{weigh}
use Rattle.runfile.proofs.Sums.{part_small, row_more, length_plus, slice_front}
use Rattle.runfile.proofs.rows_sum.Goals as goal

pub loop-k-init : goal.loop-k-init
loop-k-init c = let e = slice_empty 496 c.args.block.now in
    (search rules, search rules, rw e, rw e)

pub add_row-requires : goal.add_row-requires
add_row-requires c = let b = part_small c.args.block.now (496 - 16 * c.loop-k.k) 496 (λ (i : ℕ). omega (arith, c.type_inv.block i)) (search rules) in
    let e : 480 - 16 * c.loop-k.k + 16 - (480 - 16 * c.loop-k.k) ≡ 16 = omega arith in
    let f : 16 ≤ length (drop (480 - 16 * c.loop-k.k) c.args.block.now) = rw length-drop (omega arith) in
    record { t_len = (search rules, search rules, rw e (length-take-le 16 (drop (480 - 16 * c.loop-k.k) c.args.block.now) f)); u_bound = omega arith }

pub loop-k-preserved : goal.loop-k-preserved
loop-k-preserved c = let at : ℕ = 480 - 16 * c.loop-k.k in
    let row = take 16 (drop (480 - 16 * c.loop-k.k) c.args.block.now) in
    let e : 480 - 16 * c.loop-k.k + 16 - (480 - 16 * c.loop-k.k) ≡ 16 = omega arith in
    let f : 16 ≤ length (drop (480 - 16 * c.loop-k.k) c.args.block.now) = rw length-drop (omega arith) in
    let n : length row ≡ 16 = length-take-le 16 (drop (480 - 16 * c.loop-k.k) c.args.block.now) f in
    let t = rw e at c.add_row.ensures.t_after in
    let p = slice_front c.args.block.now (480 - 16 * c.loop-k.k) 16 496 (omega arith) (search rules) in
    let m = row_more 16 c.loop-k.t c.loop-k.u row (slice (496 - 16 * c.loop-k.k) 496 c.args.block.now) c.loop-k.invariant.0 c.loop-k.invariant.1 n c.loop-k.invariant.2 c.loop-k.invariant.3 in
    let q : 480 - 16 * c.loop-k.k + 16 ≡ 496 - 16 * c.loop-k.k = omega arith in
    let z : 496 - 16 * (c.loop-k.k + 1) ≡ 480 - 16 * c.loop-k.k = omega arith in
    (rw t (length_plus c.loop-k.t row (c.loop-k.invariant.0 ∙ sym n) ∙ c.loop-k.invariant.0), rw c.add_row.ensures.u_after (length_plus c.loop-k.u c.loop-k.t (c.loop-k.invariant.1 ∙ sym c.loop-k.invariant.0) ∙ c.loop-k.invariant.1), rw (t, z, p, q) m.0, rw (t, c.add_row.ensures.u_after, z, p, q) m.1)

pub columns-requires : goal.columns-requires
columns-requires c = let b = part_small c.args.block.now (496 - 16 * c.loop-k.k) 496 (λ (i : ℕ). omega (arith, c.type_inv.block i)) (search rules) in
    record { t_len = (search rules, search rules); t_bound = omega arith }

pub returns : goal.returns
returns c = let z : 496 - 16 * c.loop-k.k ≡ 0 = omega arith in
    c.columns.ensures ∙ c.loop-k.invariant.3 ∙ ap (λ (x : ℕ). weigh 0 (slice x 496 c.args.block.now)) z
