-- The answer is the loop's from the fresh bus, and demand 3 is the charts' theorem.
use mathlib.Core.Path.{◌≡◌, ap, ◌∙◌}
use mathlib.Core.Bool.{true}
use Prim.Native.Nat.{ℕ, ◌≤◌}
use native.Mathlib.Omega.{arith}
use lib.Dec.{ltb}
use borrow.Author.Tests.{ltb-true}
use Rattle.charts.specs.Valid.{is_size}
use Rattle.charts.specs.Step.{Result, begin, after}
use Rattle.charts.proofs.Tools.{and-true}
use Rattle.charts.proofs.Validity.{begin_fresh}
use Rattle.charts.proofs.Whole.{demand_3}
use Rattle.replay.specs.Replay.{Replay, seen_replay, played_on, records_in}
use Rattle.replay.proofs.replay.Goals as goal

size : (n : ℕ) → is_size n ≡ true → (2 ≤ n) × (n ≤ 63)
size n e = let z = and-true (ltb 1 n) (ltb n 64) e in (omega (arith, ltb-true 1 n z.0), omega (arith, ltb-true n 64 z.1))

pub returns : goal.returns
returns c = let l = records_in c.args.records.now in
    let e : seen_replay c.play_on.result ≡ played_on (begin c.args.n).number (begin c.args.n).state l =
    c.play_on.ensures ∙ ap (λ (r : Result). played_on r.number r.state l) c.fresh-begun.ensures in
    record {
      played = e;
      returned = λ h. ap (λ (r : Replay). r.state) e ∙ ap (λ (r : Result). after r.state l) (begin_fresh c.args.n h);
      demand = λ h. demand_3 c.args.n (size c.args.n h).0 (size c.args.n h).1 l;
    }
