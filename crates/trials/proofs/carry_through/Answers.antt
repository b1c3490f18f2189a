use Prim.Native.Nat.{◌+◌, ◌*◌, ◌-◌, ◌≤◌}
use mathlib.Core.Path.{◌≡◌, sym, ap, ◌∙◌}
use native.Mathlib.Omega.{arith}
use lib.ListN.{length, take}
use borrow.Author.Rules.{rules}
use Rattle.charts.specs.Numbers.{refusal_number}
use Rattle.charts.specs.View.{users_of}
use borrow.Rule.Slice.PartMut.{mid_len}
use Rattle.charts.specs.Layout.{records_of}
use Rattle.runfile.specs.Write.{block_with, write_number}
use Rattle.trials.specs.Trying.{StandsAt, part}
use Rattle.trials.proofs.Carrying.{Counts, counts, written_is, stored, carried_none, carried_all, done_full, next_taken, next_size, carried_on}
use Rattle.trials.proofs.carry_through.Goals as goal

pub loop-number-init : goal.loop-number-init
loop-number-init c = carried_none (users_of c.args.users.now) c.args.n c.args.actions c.args.file.now c.begin-t.result c.begin-t.ensures.n_value c.begin-t.ensures.made_value c.begin-t.ensures.tally_value

pub loop-number-preserved : goal.loop-number-preserved
loop-number-preserved c =
    let us = users_of c.args.users.now in
    let x = c.loop-number.invariant in
    let count = c.min-count.result in
    let full = done_full us c.args.n c.args.actions c.args.file.now c.loop-number.file c.loop-number.t c.loop-number.number x (omega arith) in
    let place : 31 * c.loop-number.number ≡ x.done = sym full.1 in
    let counted : Counts (c.args.actions - x.done) count = counts (c.args.actions - x.done) count (omega arith) (rw (← place) c.min-count.ensures) in
    let bytes = take (16 * count) c.make_actions-records.result in
    let made : bytes ≡ records_of (part us c.loop-number.t.bus.n x.done count) = rw (← place) c.make_actions-records.ensures.records_value in
    let stands : StandsAt us (x.done + count) c.make_actions-records.new.t = rw (← place) c.make_actions-records.ensures.stands_at_2 in
    let long : length c.loop-number.file ≡ 1082880 = search rules in
    let k : 512 * c.loop-number.number + 512 - 512 * c.loop-number.number ≡ 512 = omega arith in
    let room : 512 * c.loop-number.number + 512 ≤ 1082880 = omega arith in
    let asked = mid_len (512 * c.loop-number.number) (512 * c.loop-number.number + 512) c.loop-number.file (omega arith) ∙ k in
    let took : refusal_number c.write_block.result.refusal ≡ 0 = c.write_block.ensures.refusal_value ∙ (ap (λ s. write_number s c.args.n bytes) asked ∙ next_taken us c.args.n c.args.actions c.requires.allowed c.requires.le_actions.1 c.args.file.now c.loop-number.file c.loop-number.t c.loop-number.number count x full.0 counted bytes made) in
    let is : c.write_block.new.out ≡ block_with c.loop-number.number c.args.n bytes = c.write_block.ensures.out_after ∙ written_is _ _ _ took in
    let size : length c.write_block.new.out ≡ 512 = ap length is ∙ next_size us c.args.n c.args.actions c.requires.allowed c.requires.le_actions.1 c.args.file.now c.loop-number.file c.loop-number.t c.loop-number.number count x full.0 counted bytes made in
    carried_on us c.args.n c.args.actions c.requires.allowed c.requires.le_actions.1 c.args.file.now c.loop-number.file c.loop-number.t c.loop-number.number count x full.0 counted bytes made
    c.make_actions-records.new.t c.write_block.new.out _ c.make_actions-records.ensures.n_value stands is (rw k (stored c.loop-number.file (512 * c.loop-number.number) 512 c.write_block.new.out size (omega arith)))

pub returns-clause-file_after : goal.returns-clause-file_after
returns-clause-file_after c = (carried_all (users_of c.args.users.now) c.args.n c.args.actions c.args.file.now c.loop-number.file c.loop-number.t c.loop-number.number c.loop-number.invariant (omega arith)).2
