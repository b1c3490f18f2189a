use Rattle.std.proofs.Common.{◌≡◌, None}
use Rattle.stream.specs.Collected.{sent}
use Rattle.filing.proofs.Walked.{Owes}
use Rattle.filing.proofs.walk_input.Given as goal

abbrev pub invariant-loop : goal.invariant-loop
invariant-loop g l = record {
  same_buffer : l.sink.buf.ghost_name ≡ l.fn.sink.buf.ghost_name;
  stays_failed : l.fn.sink.held ≡ None → l.sink.held ≡ None;
  owes : Owes g.K.Walk.walker (g.R.Read.remaining l.fn.reader) (g.R.Read.remaining l.reader)
      (sent (g.W.Write.contents l.fn.sink.writer) l.fn.sink.buf.now l.fn.sink.held)
      (sent (g.W.Write.contents l.sink.writer) l.sink.buf.now l.sink.held)
      (g.K.Walk.seen l.walk);
}
