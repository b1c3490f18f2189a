use Prim.Native.Nat.{suc, ◌+◌, ◌*◌, ◌<◌}
use mathlib.Core.Path.{◌≡◌, refl, sym, ap, subst, ◌∙◌}
use native.Mathlib.Omega.{arith}
use lib.ListN.{length, take}
use Rattle.charts.specs.declared.Played.{Played}
use Rattle.charts.specs.Trials.{chosen}
use Rattle.charts.specs.View.{users_of}
use Rattle.turns.specs.Turns.{Allowed}
use Rattle.turns.proofs.Turning.{keeps_n, valid_now, unasked_now, chosen_now, never_refused, stands_on}
use Rattle.bus.proofs.InPlace.{advance_by_the_chart}
use Rattle.trials.proofs.Parts.{next_size, next_holds}
use Rattle.trials.proofs.block.make_actions.Goals as goal
use Rattle.trials.proofs.block.make_actions.Goals.{in-Ok, in_default}

pub loop-k-preserved : goal.loop-k-preserved
unfolding users_of
loop-k-preserved c =
    let us = users_of c.args.users.now in
    let b = c.loop-k.t.bus in
    let n = c.args.t.now.bus.n in
    let done = c.args.done + c.loop-k.k in
    let kept = c.loop-k.t.kept in
    let tally = c.loop-k.t.tally in
    let stands = c.loop-k.invariant.stands in
    let allowed : Allowed us b.n = subst (Allowed us) (sym c.loop-k.invariant.nodes) c.requires.allowed in
    let who = c.actor-who.result in
    let p : Played = record { report = c.play.result; bus = c.play.new.bus } in
    let is_step = c.play.ensures ∙ advance_by_the_chart _ _ _ c.table-table.ensures (unasked_now us done b kept tally allowed stands) _ in
    elim c.match-play.branch [
      | in-Ok w ↦
          let r = w.in-Ok.report in
          let next : suc done ≡ c.args.done + (c.loop-k.k + 1) = omega arith in
          let few : c.loop-k.k < 31 = omega (arith, c.loop-k-test.true, c.requires.count_bound.0) in
          let place : who < length c.run_down.new.kept = omega (arith, c.run_down.ensures.kept_len, c.actor-who.ensures.upper_bound) in
          let stood = stands_on us done b kept tally allowed stands
          c.wait-waited.result c.wait-waited.ensures c.run_down.new.kept c.run_down.ensures.kept_after
          who c.actor-who.ensures.value c.cell_of-cell.result c.cell_of-cell.ensures c.user_at-u.result c.user_at-u.ensures.value c.user_at-u.ensures.fillers_bound _ refl
          c.choose-a.result c.choose-a.ensures (omega (arith, c.loop-k-test.true, c.requires.count_bound.1)) p r is_step w.in-Ok.is w.keep.result w.keep.ensures
          w.run_down-in-Ok.new.kept w.begin_spell.new.kept w.run_down-in-Ok.ensures.kept_after w.begin_spell.ensures.kept_after
          w.count-t.result w.count-t.ensures place in
          let chose = chosen_now us done b kept tally allowed stands
          c.wait-waited.result c.wait-waited.ensures c.run_down.new.kept c.run_down.ensures.kept_after
          who c.actor-who.ensures.value c.cell_of-cell.result c.cell_of-cell.ensures c.user_at-u.result c.user_at-u.ensures.value c.user_at-u.ensures.fillers_bound _ refl
          c.choose-a.result c.choose-a.ensures ∙ ap (λ n. chosen us n done) c.loop-k.invariant.nodes in
          rw (w.t-is, w.records-is) (record {
            stands = rw (← next) stood;
            nodes = keeps_n b p c.choose-a.result (valid_now us done b kept tally allowed stands) is_step ∙ c.loop-k.invariant.nodes;
            sized = ap length w.write_action.ensures.out_after ∙ next_size us n c.args.done c.loop-k.k c.loop-k.records c.choose-a.result c.loop-k.invariant.sized few c.loop-k.invariant.holds;
            holds = ap (take (16 * (c.loop-k.k + 1))) w.write_action.ensures.out_after ∙ next_holds us n c.args.done c.loop-k.k c.loop-k.records c.choose-a.result c.loop-k.invariant.sized few c.loop-k.invariant.holds chose;
          })
      | in_default w ↦ absurd (never_refused us done b kept tally allowed stands
          c.wait-waited.result c.wait-waited.ensures c.run_down.new.kept c.run_down.ensures.kept_after
          who c.actor-who.ensures.value c.cell_of-cell.result c.cell_of-cell.ensures c.user_at-u.result c.user_at-u.ensures.value c.user_at-u.ensures.fillers_bound _ refl
          c.choose-a.result c.choose-a.ensures p w.in_default.field-0 is_step w.in_default.is)
    ]
