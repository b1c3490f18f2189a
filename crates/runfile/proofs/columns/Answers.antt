use mathlib.Core.Path.{ap}
use native.Mathlib.Omega.{arith}
use lib.ListN.{drop_of_length-le}
use borrow.Author.Rules.{rules}
use Rattle.runfile.specs.Block.{weigh, total}
use Rattle.runfile.proofs.Sums.{column_more}
use Rattle.runfile.proofs.columns.Goals as goal

pub overflow_mul-sum : goal.overflow_mul-sum
overflow_mul-sum c = let h = column_more c.args.t.now c.args.u.now c.loop-c.c (search rules) (search rules) in
    omega arith

pub overflow_mul-sum-in-loop-c : goal.overflow_mul-sum-in-loop-c
overflow_mul-sum-in-loop-c c = let h = column_more c.args.t.now c.args.u.now c.loop-c.c (search rules) (search rules) in
    omega arith

pub overflow_add-sum-in-loop-c : goal.overflow_add-sum-in-loop-c
overflow_add-sum-in-loop-c c = let h = column_more c.args.t.now c.args.u.now c.loop-c.c (search rules) (search rules) in
    omega arith

pub overflow_add-sum-in-loop-c-2 : goal.overflow_add-sum-in-loop-c-2
overflow_add-sum-in-loop-c-2 c = let h = column_more c.args.t.now c.args.u.now c.loop-c.c (search rules) (search rules) in
    omega arith

pub loop-c-preserved : goal.loop-c-preserved
loop-c-preserved c = let h = column_more c.args.t.now c.args.u.now c.loop-c.c (search rules) (search rules) in
    omega arith

pub returns : goal.returns
returns c = let t = ap (weigh c.loop-c.c) (drop_of_length-le c.args.t.now {i = c.loop-c.c} (search rules)) in
    let u = ap total (drop_of_length-le c.args.u.now {i = c.loop-c.c} (search rules)) in
    omega arith
