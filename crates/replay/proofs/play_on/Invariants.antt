-- What is left to play, from the bus as it is, comes to what the whole list comes to.
use Rattle.std.proofs.Common.{◌≡◌, ◌+◌, ◌≤◌, length}
use Rattle.std.specs.Slice.Iter.{chunks_exact_rest, chunks_exact_size}
use Rattle.charts.specs.Step.{after}
use Rattle.charts.specs.View.{view}
use Rattle.charts.specs.Demand.{accepted_of}
use Rattle.replay.specs.Replay.{records_in}
use Rattle.replay.proofs.play_on.Given as goal

abbrev pub invariant-loop-record : goal.invariant-loop-record
invariant-loop-record l = record {
  size : chunks_exact_size l.record-iterator ≡ 16;
  room : l.accepted + length (chunks_exact_rest l.record-iterator) ≤ length l.records;
  played : after (view l.bus) (records_in (chunks_exact_rest l.record-iterator)) ≡ after (view l.initial.bus) (records_in l.records);
  counted : l.accepted + accepted_of (view l.bus) (records_in (chunks_exact_rest l.record-iterator)) ≡ accepted_of (view l.initial.bus) (records_in l.records);
}
