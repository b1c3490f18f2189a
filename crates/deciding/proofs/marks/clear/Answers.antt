use Rattle.std.proofs.Common.{◌≤◌, rules, arith, length}
use borrow.Author.Tests.{lt-ltb}
use Rattle.std.proofs.lemmas.List.{length-take-le}
use Rattle.deciding.proofs.MarkLaws.{unmarked_front}
use Rattle.deciding.proofs.marks.clear.Goals as goal

pub returns-then-n-lt64-clause-marks_after : goal.returns-then-n-lt64-clause-marks_after
returns-then-n-lt64-clause-marks_after c =
    let h : c.args.n ≤ length c.args.marks.now = omega arith in
    rw (c.if-asked.true, lt-ltb _ _ c.if-n-lt64.true, c.fill.ensures.after (λ y k. search rules), length-take-le c.args.n c.args.marks.now h) (unmarked_front c.args.marks.now c.args.n h)
