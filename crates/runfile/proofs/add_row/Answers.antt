use mathlib.Core.Path.{◌≡◌, refl, ap, sym, ◌∙◌}
use Prim.Native.Nat.{◌+◌}
use native.Mathlib.Omega.{arith}
use lib.ListN.{drop, get_or, set}
use lib.Seq.{drop-set-lt}
use borrow.Author.Rules.{rules}
use Rattle.runfile.specs.Block.{total}
use Rattle.runfile.proofs.Sums.{total_plus, added_more, added_end, added_small}
use Rattle.runfile.proofs.add_row.Goals as goal

pub loop-c-init : goal.loop-c-init
loop-c-init c = (search rules, search rules, refl, refl)

pub overflow_add-u : goal.overflow_add-u
overflow_add-u c = let h = added_small c.loop-c.c c.loop-c.u c.loop-c.t (search rules) (search rules) in
    let e = ap total c.loop-c.invariant.3 in
    let p = total_plus c.args.u.now c.args.t.now (search rules) in
    omega arith

pub overflow_add-t : goal.overflow_add-t
overflow_add-t c = let h = added_small c.loop-c.c c.loop-c.u c.loop-c.t (search rules) (search rules) in
    let e = ap total c.loop-c.invariant.3 in
    let p = total_plus c.args.u.now c.args.t.now (search rules) in
    omega arith

pub loop-c-preserved : goal.loop-c-preserved
loop-c-preserved c = let v = get_or c.loop-c.t c.loop-c.c 0 + get_or c.args.row.now c.loop-c.c 0 in
    let e : drop (c.loop-c.c + 1) (set c.loop-c.t c.loop-c.c v) ≡ drop (c.loop-c.c + 1) c.loop-c.t = drop-set-lt (c.loop-c.c + 1) c.loop-c.t c.loop-c.c v (omega arith) in
    let t = added_more c.loop-c.c c.loop-c.t c.args.row.now (search rules) (search rules) in
    let u = added_more c.loop-c.c c.loop-c.u c.loop-c.t (search rules) (search rules) in
    (search rules, search rules, (c.loop-c.invariant.2 ∙ t), rw e (c.loop-c.invariant.3 ∙ u))

pub returns : goal.returns
returns c = let t = added_end c.loop-c.c c.loop-c.t c.args.row.now (search rules) in
    let u = added_end c.loop-c.c c.loop-c.u c.loop-c.t (search rules) in
    record { t_after = sym (c.loop-c.invariant.2 ∙ t); u_after = sym (c.loop-c.invariant.3 ∙ u) }
