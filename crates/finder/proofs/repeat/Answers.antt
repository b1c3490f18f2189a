use Rattle.std.proofs.Common.{rules, Err}
use mathlib.Core.Path.{◌≡◌, sym, ap, ◌∙◌}
use Prim.Native.Nat.{◌-◌, ◌+◌}
use native.Mathlib.Omega.{arith}
use Rattle.charts.specs.Numbers.{err_number}
use Rattle.charts.specs.View.{view, seen}
use Rattle.finder.proofs.Repeats.{goes_on, refused_here}
use Rattle.finder.proofs.repeat.Goals as goal

pub returns-in_err-played : goal.returns-in_err-played
returns-in_err-played c =
    let e : c.from_residual.result ≡ Err c.in_err-played.field-0.0 = search rules in
    rw e (refused_here (view c.loop.bus) c.args.a (seen c.step-played.result) c.step-played.ensures (c.args.times - c.loop.counter) c.in_err-played.field-0.0 (omega (arith, c.loop-test.true)) (ap err_number c.in_err-played.was) ∙ sym c.loop.invariant)

pub loop-preserved : goal.loop-preserved
loop-preserved c =
    let less : c.args.times - (c.loop.counter + 1) ≡ c.args.times - c.loop.counter - 1 = omega arith in
    rw less (c.loop.invariant ∙ goes_on (view c.loop.bus) c.args.a (seen c.step-played.result) c.step-played.ensures (c.args.times - c.loop.counter) (omega (arith, c.loop-test.true)) (ap err_number c.in_ok-played.was))
