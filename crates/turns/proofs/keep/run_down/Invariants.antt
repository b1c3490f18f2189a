use Rattle.std.proofs.Common.{◌≡◌, ◌<◌, ◌≤◌, length, ℕ}
use Rattle.turns.specs.Turns.{kept_in, lowered_by}
use Rattle.turns.proofs.keep.run_down.Given as goal

-- the spells below the index have run down, and the others not yet
abbrev pub invariant-loop-x : goal.invariant-loop-x
invariant-loop-x l = record {
  sized : length l.kept ≡ 63;
  lowered : (k : ℕ) → k < l.x-index → kept_in l.kept k ≡ lowered_by l.by (kept_in l.initial.kept) k;
  rest : (k : ℕ) → l.x-index ≤ k → kept_in l.kept k ≡ kept_in l.initial.kept k;
}
