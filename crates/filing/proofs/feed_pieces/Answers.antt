use Rattle.std.proofs.Common.{◌≤◌, ◌∙◌, sym, subst, ap, arith, rules, ℕ, min, length, take}
use Rattle.std.specs.Slice.Iter.{chunks_rest}
use Rattle.std.specs.Io.KnownBytes.{Appends}
use Rattle.stream.specs.Collected.{sent}
use Rattle.walk.specs.Feeding.{feed_of}
use Rattle.filing.proofs.Walked.{read_back, left_next, left_ended}
use Rattle.filing.proofs.feed_pieces.Goals as goal

pub returns-then-fed : goal.returns-then-fed
returns-then-fed g c =
    let w = g.K.Walk.walker in
    let first = g.K.Walk.seen c.args.walk in
    let p = g.K.Walk.seen c.loop-piece.walk in
    let q = g.K.Walk.seen c.feed-fed.result.walk in
    let piece = c.in-Some.piece.now in
    let rest = chunks_rest c.loop-piece.piece-iterator in
    let more = chunks_rest c.next.new.self in
    let steps = c.in-Some.ensures.steps in
    let end = c.feed-fed.result.end in
    let out = c.feed-fed.new.out in
    let fits : end ≤ length c.loop-piece.text = omega (arith, c.loop-piece.invariant.room) in
    let back = read_back c.loop-piece.text out (feed_of w p piece).text end c.feed-fed.ensures.end_value c.feed-fed.ensures.out_after fits in
    let old = sent (g.W.Write.contents c.args.sink.now.writer) c.args.sink.now.buf.now c.args.sink.now.held in
    let mid = sent (g.W.Write.contents c.loop-piece.sink.writer) c.loop-piece.sink.buf.now c.loop-piece.sink.held in
    let new = sent (g.W.Write.contents c.put.new.self.writer) c.put.new.self.buf.now c.put.new.self.held in
    let put : Appends mid new (take end out) = search rules in
    let adds = subst (Appends mid new) back put in
    let size = steps.1.1 ∙ ap (λ (n : ℕ). min n (length rest)) c.loop-piece.invariant.size in
    let left = left_next w c.args.input.now first old mid new rest piece more p q c.loop-piece.invariant.left steps.1.0 size steps.1.2 adds c.feed-fed.ensures.walk_value in
    let ends = left_ended w c.args.input.now first old new more q left (sym c.feed-fed.ensures.ended_value ∙ c.if-fed.true) in
    record {
      same_buffer = c.put.ensures.same_buffer ∙ c.loop-piece.invariant.same_buffer;
      stays_failed = search rules;
      refusal_taken = search rules;
      walk_value = ends.1;
      none_lost = ends.0;
    }

pub loop-piece-preserved : goal.loop-piece-preserved
loop-piece-preserved g c =
    let w = g.K.Walk.walker in
    let first = g.K.Walk.seen c.args.walk in
    let p = g.K.Walk.seen c.loop-piece.walk in
    let q = g.K.Walk.seen c.feed-fed.result.walk in
    let piece = c.in-Some.piece.now in
    let rest = chunks_rest c.loop-piece.piece-iterator in
    let more = chunks_rest c.next.new.self in
    let steps = c.in-Some.ensures.steps in
    let end = c.feed-fed.result.end in
    let out = c.feed-fed.new.out in
    let fits : end ≤ length c.loop-piece.text = omega (arith, c.loop-piece.invariant.room) in
    let back = read_back c.loop-piece.text out (feed_of w p piece).text end c.feed-fed.ensures.end_value c.feed-fed.ensures.out_after fits in
    let old = sent (g.W.Write.contents c.args.sink.now.writer) c.args.sink.now.buf.now c.args.sink.now.held in
    let mid = sent (g.W.Write.contents c.loop-piece.sink.writer) c.loop-piece.sink.buf.now c.loop-piece.sink.held in
    let new = sent (g.W.Write.contents c.put.new.self.writer) c.put.new.self.buf.now c.put.new.self.held in
    let put : Appends mid new (take end out) = search rules in
    let adds = subst (Appends mid new) back put in
    let size = steps.1.1 ∙ ap (λ (n : ℕ). min n (length rest)) c.loop-piece.invariant.size in
    record {
      same_buffer = c.put.ensures.same_buffer ∙ c.loop-piece.invariant.same_buffer;
      size = steps.0 ∙ c.loop-piece.invariant.size;
      stays_failed = search rules;
      room = search rules;
      left = left_next w c.args.input.now first old mid new rest piece more p q c.loop-piece.invariant.left steps.1.0 size steps.1.2 adds c.feed-fed.ensures.walk_value;
    }
