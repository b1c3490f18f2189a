use Rattle.std.proofs.Common.{◌≡◌, None, length}
use Rattle.std.specs.Slice.Iter.{chunks_rest, chunks_size}
use Rattle.stream.specs.Collected.{sent}
use Rattle.filing.proofs.Walked.{Left}
use Rattle.filing.proofs.feed_pieces.Given as goal

abbrev pub invariant-loop-piece : goal.invariant-loop-piece
invariant-loop-piece g l = record {
  same_buffer : l.sink.buf.ghost_name ≡ l.fn.sink.buf.ghost_name;
  size : chunks_size l.piece-iterator ≡ 512;
  stays_failed : l.fn.sink.held ≡ None → l.sink.held ≡ None;
  room : length l.text ≡ 2048;
  left : Left g.K.Walk.walker l.input (g.K.Walk.seen l.fn.walk)
      (sent (g.W.Write.contents l.fn.sink.writer) l.fn.sink.buf.now l.fn.sink.held)
      (sent (g.W.Write.contents l.sink.writer) l.sink.buf.now l.sink.held)
      (chunks_rest l.piece-iterator) (g.K.Walk.seen l.walk);
}
