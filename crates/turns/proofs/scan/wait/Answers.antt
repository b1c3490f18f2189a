use Rattle.std.proofs.Common.{◌≡◌, ◌<◌, ℕ, Bool, true}
use mathlib.Core.Bool.{◌||◌}
use native.Mathlib.Omega.{arith}
use Rattle.charts.specs.State.{is_idle}
use Rattle.charts.specs.View.{mark}
use Rattle.charts.proofs.Tools.{some_at, and_no, or_yes}
use Rattle.turns.specs.Turns.{left_in, full_in, waits_by}
use Rattle.turns.proofs.scan.wait.Goals as goal
use Rattle.turns.proofs.scan.wait.Goals.{then-is_full-via-then-is_full, then-is_full-via-else-is_full+then-bus-k}

-- where a node is taken nothing is waited
none_free : (idle : Bool) (full won : ℕ → Bool) (left : ℕ → ℕ) (n k : ℕ) → k < n → (full k || won k) ≡ true → 0 ≡ waits_by idle full won left n
none_free idle full won left n k h e = rw (some_at (λ k. full k || won k) n k h e, and_no idle)

pub returns-then-is_full : goal.returns-then-is_full
returns-then-is_full c =
    let k = c.loop-k.k in
    let taken : (full_in c.args.bus.now.nodes k || mark c.args.bus.now.won k) ≡ true = elim c.then-is_full.branch [
      | then-is_full-via-then-is_full w ↦ rw (← c.is_full.ensures, w.if-is_full.true)
      | then-is_full-via-else-is_full+then-bus-k w ↦ rw w.if-bus-k.true (or_yes (full_in c.args.bus.now.nodes k))
    ] in rw (← c.places-k-end.ensures.value) (none_free (is_idle c.args.bus.now.phase) (full_in c.args.bus.now.nodes) (mark c.args.bus.now.won) (left_in c.args.kept.now) c.places-k-end.result k c.loop-k-test.true taken)

pub returns : goal.returns
returns c = let e : c.loop-k.k ≡ c.places-k-end.result = omega arith in
    rw (c.loop-k.invariant.lowest, ← c.places-k-end.ensures.value, ← e, c.loop-k.invariant.free, ← c.is_idle.ensures, c.if-not-is_idle.false)
