use mathlib.Core.Path.{◌≡◌, refl, sym, ◌∙◌}
use Prim.Native.Nat.{ℕ, ◌+◌, ◌*◌, ◌-◌, ◌≤◌}
use native.Mathlib.Omega.{arith}
use native.Mathlib.Nat.{sub-zero}
use lib.ListN.{length, take, drop, length-drop}
use lib.Seq.{length-sets}
use borrow.Author.Rules.{rules}
use Rattle.charts.specs.Layout.{action_at}
use Rattle.record.proofs.Round.{action_front}
use Rattle.record.proofs.Walk.{records_more}
use Rattle.runfile.specs.Block.{zeros}
use Rattle.runfile.proofs.Stored.{action_stored, copied}
use Rattle.runfile.proofs.Traces.{none, one_more, sum_small, row_length}
use Rattle.runfile.proofs.take_actions.Goals as goal

pub loop-k-init : goal.loop-k-init
loop-k-init c = (search rules, rw sub-zero, refl, none _)

pub returns-in_err-decode-clause-refusal_value : goal.returns-in_err-decode-clause-refusal_value
returns-in_err-decode-clause-refusal_value c =
    let r = c.args.records.now in
    let e : 16 * c.loop-k.k + 16 - 16 * c.loop-k.k ≡ 16 = omega arith in
    let long : 16 ≤ length (drop (16 * c.loop-k.k) r) = simp length-drop (omega arith) in
    let act : c.read_action-action.result ≡ action_at (drop (16 * c.loop-k.k) r) = rw e at c.read_action-action.ensures ∙ action_front 16 _ (omega arith) long in
    sym (c.loop-k.invariant.1 ∙ rw (records_more r c.args.count c.loop-k.k c.loop-k-test.true, ← act, ← c.decode.ensures, c.in_err-decode.was) (search rules))

pub overflow_add-sum : goal.overflow_add-sum
overflow_add-sum c = let e : 16 * c.loop-k.k + 16 - 16 * c.loop-k.k ≡ 16 = omega arith in
    let b = sum_small c.args.records.now c.loop-k.k (λ (i : ℕ). omega (arith, c.type_inv.records i)) (search rules) (search rules) in
    omega (arith, c.loop-k.invariant.3.so_far, rw (e, row_length c.args.records.now c.loop-k.k (search rules)) at c.weighed-sum.ensures.upper_bound)

pub loop-k-preserved : goal.loop-k-preserved
loop-k-preserved c = let r = c.args.records.now in
    let e : 16 * c.loop-k.k + 16 - 16 * c.loop-k.k ≡ 16 = omega arith in
    let long : 16 ≤ length (drop (16 * c.loop-k.k) r) = simp length-drop (omega arith) in
    let act : c.read_action-action.result ≡ action_at (drop (16 * c.loop-k.k) r) = rw e at c.read_action-action.ensures ∙ action_front 16 _ (omega arith) long in
    let fits : 16 * (c.loop-k.k + 1) ≤ length r = search rules in
    let row : length (take 16 (drop (16 * c.loop-k.k) r)) ≡ 16 = row_length r c.loop-k.k fits in
    let put = copied c.loop-k.block (14 + 16 * c.loop-k.k) 16 _ _ (rw e at c.copy_from_slice.ensures.after) row (omega arith) in (
      rw (put, length-sets) c.loop-k.invariant.0,
      c.loop-k.invariant.1 ∙ rw (records_more r c.args.count c.loop-k.k c.loop-k-test.true, ← act, ← c.decode.ensures, c.in_ok-decode.was),
      rw (put, c.loop-k.invariant.2) (action_stored (zeros 512) r c.loop-k.k fits),
      rw (c.weighed-sum.ensures.value, e) (one_more r c.loop-k.k fits c.loop-k.invariant.3 (search rules)),
    )
