use Rattle.std.proofs.Common.{◌≡◌, ◌+◌, ◌*◌, length, take}
use Rattle.charts.specs.View.{users_of}
use Rattle.charts.specs.Layout.{records_of}
use Rattle.trials.specs.Trying.{StandsAt, part}
use Rattle.trials.proofs.block.make_actions.Given as goal

abbrev pub invariant-loop-k : goal.invariant-loop-k
invariant-loop-k l = record {
  stands : StandsAt (users_of l.users) (l.done + l.k) l.t;
  nodes : l.t.bus.n ≡ l.initial.t.bus.n;
  sized : length l.records ≡ 496;
  holds : take (16 * l.k) l.records ≡ records_of (part (users_of l.users) l.initial.t.bus.n l.done l.k);
}
