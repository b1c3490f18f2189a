use mathlib.Core.Path.{◌≡◌, sym, ◌∙◌}
use Prim.Native.Nat.{ℕ, ◌+◌, ◌≤◌}
use native.Mathlib.Omega.{arith}
use lib.ListN.{length, length-take}
use lib.Seq.{take-append-le}
use borrow.Author.Rules.{rules}
use Rattle.charts.specs.Layout.{little}
use Rattle.record.proofs.Little.{little_4}
use Rattle.runfile.specs.Block.{weigh, zeros, check_sum}
use Rattle.runfile.specs.Write.{body_of, block_with}
use Rattle.runfile.proofs.Stored.{head_copied, check_copied, body_length, body_sum}
use Rattle.runfile.proofs.Sums.{few_small}
use Rattle.runfile.proofs.store_head.Goals as goal

pub overflow_add-check : goal.overflow_add-check
overflow_add-check c = let r = c.args.records.now in
    let b = few_small 14 r (λ (i : ℕ). omega (arith, c.type_inv.records i)) (search rules) in
    omega (arith, c.requires.sum_value, simp length-take at c.weighed-head.ensures.upper_bound)

pub returns : goal.returns
unfolding block_with
returns c = let r = c.args.records.now in
    let few : length r ≤ 496 = c.requires.records_len_bound in
    let body = body_of c.args.number c.args.n r in
    let long = body_length c.args.number c.args.n r few in
    let stored = head_copied c.args.number c.args.n r _ few (c.copy_from_slice.ensures.after ∙ (c.to_le_bytes.ensures ∙ sym (little_4 c.args.number))) in
    let head = rw (c.requires.block_value, stored, take-append-le 14 body (zeros 2) (omega arith)) at c.weighed-head.ensures.value in
    let sum : c.args.sum + c.weighed-head.result ≡ weigh 0 body = omega (arith, c.requires.sum_value, head, body_sum c.args.number c.args.n r few) in
    let check : c.copy_from_slice-2.new.self ≡ little 2 (check_sum body) = rw (← sum) (c.copy_from_slice-2.ensures.after ∙ c.to_le_bytes-2.ensures) in
    rw (c.requires.block_value, stored) (check_copied body (check_sum body) _ long check)
