use Rattle.std.proofs.Common.{◌≡◌, ◌≤◌, ◌%◌, ◌∙◌, sym, subst, refl, arith, rules, ℕ, true, length, take}
use Rattle.stream.specs.Collected.{sent}
use Rattle.files.specs.Order.{is_ended}
use Rattle.files.specs.Pieces.{pieces}
use Rattle.filing.specs.Walked.{pieces_after}
use Rattle.filing.proofs.Walked.{begins, next_part, refused, ended, on_ok}
use Rattle.filing.proofs.walk_input.Goals as goal

pub loop-init : goal.loop-init
loop-init g c =
    let known = g.R.Read.remaining c.args.reader.now in
    let old = sent (g.W.Write.contents c.args.sink.now.writer) c.args.sink.now.buf.now c.args.sink.now.held in
    record { same_buffer = refl; stays_failed = λ e. e; owes = begins g.K.Walk.walker known old (g.K.Walk.seen c.start-walk.result) c.start-walk.ensures }

pub returns-in_default-clause-walks : goal.returns-in_default-clause-walks
returns-in_default-clause-walks g c =
    let w = g.K.Walk.walker in
    let known = g.R.Read.remaining c.args.reader.now in
    let now = g.R.Read.remaining c.loop.reader in
    let left = g.R.Read.remaining c.fill.new.reader in
    let old = sent (g.W.Write.contents c.args.sink.now.writer) c.args.sink.now.buf.now c.args.sink.now.held in
    let mid = sent (g.W.Write.contents c.loop.sink.writer) c.loop.sink.buf.now c.loop.sink.held in
    let new = sent (g.W.Write.contents c.feed_pieces.new.sink.writer) c.feed_pieces.new.sink.buf.now c.feed_pieces.new.sink.held in
    let p = g.K.Walk.seen c.loop.walk in
    let buf = c.fill.new.buf in
    let count = c.in_ok-count.count in
    let same : length buf ≡ length c.args.input.now = omega arith in
    let whole = subst (λ (n : ℕ). n % 512 ≡ 0) (sym same) c.requires.whole_blocks in
    let fits : count ≤ length buf = omega (arith, c.in_ok-count.ensures.prefix_len) in
    let q = pieces_after w (pieces (take count buf)) p in
    let stops : is_ended q.stage ≡ true = search rules in
    refused w known left old new q (next_part w known now left old mid new p q buf count c.loop.invariant.owes c.in_ok-count.ensures.none_lost whole fits c.in_ok-count.ensures.at_end c.in_ok-next.ensures.none_lost refl) stops

pub returns-then-count-input-clause-walks : goal.returns-then-count-input-clause-walks
returns-then-count-input-clause-walks g c =
    let w = g.K.Walk.walker in
    let known = g.R.Read.remaining c.args.reader.now in
    let now = g.R.Read.remaining c.loop.reader in
    let left = g.R.Read.remaining c.fill.new.reader in
    let old = sent (g.W.Write.contents c.args.sink.now.writer) c.args.sink.now.buf.now c.args.sink.now.held in
    let mid = sent (g.W.Write.contents c.loop.sink.writer) c.loop.sink.buf.now c.loop.sink.held in
    let new = sent (g.W.Write.contents c.feed_pieces.new.sink.writer) c.feed_pieces.new.sink.buf.now c.feed_pieces.new.sink.held in
    let p = g.K.Walk.seen c.loop.walk in
    let buf = c.fill.new.buf in
    let count = c.in_ok-count.count in
    let same : length buf ≡ length c.args.input.now = omega arith in
    let whole = subst (λ (n : ℕ). n % 512 ≡ 0) (sym same) c.requires.whole_blocks in
    let fits : count ≤ length buf = omega (arith, c.in_ok-count.ensures.prefix_len) in
    let q = g.K.Walk.seen c.in-Some.next in
    let after : q ≡ pieces_after w (pieces (take count buf)) p = search rules in
    let owes = next_part w known now left old mid new p q buf count c.loop.invariant.owes c.in_ok-count.ensures.none_lost whole fits c.in_ok-count.ensures.at_end c.in_ok-next.ensures.none_lost after in
    let last = sent (g.W.Write.contents c.put_end.new.sink.writer) c.put_end.new.sink.buf.now c.put_end.new.sink.held in
    on_ok c.put_end.result (ended w known left old new last q owes (c.in_ok-count.ensures.at_end c.if-count-input.true)) c.put_end.ensures.none_lost

pub loop-preserved : goal.loop-preserved
loop-preserved g c =
    let w = g.K.Walk.walker in
    let known = g.R.Read.remaining c.args.reader.now in
    let now = g.R.Read.remaining c.loop.reader in
    let left = g.R.Read.remaining c.fill.new.reader in
    let old = sent (g.W.Write.contents c.args.sink.now.writer) c.args.sink.now.buf.now c.args.sink.now.held in
    let mid = sent (g.W.Write.contents c.loop.sink.writer) c.loop.sink.buf.now c.loop.sink.held in
    let new = sent (g.W.Write.contents c.feed_pieces.new.sink.writer) c.feed_pieces.new.sink.buf.now c.feed_pieces.new.sink.held in
    let p = g.K.Walk.seen c.loop.walk in
    let buf = c.fill.new.buf in
    let count = c.in_ok-count.count in
    let same : length buf ≡ length c.args.input.now = omega arith in
    let whole = subst (λ (n : ℕ). n % 512 ≡ 0) (sym same) c.requires.whole_blocks in
    let fits : count ≤ length buf = omega (arith, c.in_ok-count.ensures.prefix_len) in
    let q = g.K.Walk.seen c.in-Some.next in
    let after : q ≡ pieces_after w (pieces (take count buf)) p = search rules in
    record {
      same_buffer = c.in_ok-next.ensures.same_buffer ∙ c.loop.invariant.same_buffer;
      stays_failed = λ e. c.in_ok-next.ensures.stays_failed (c.loop.invariant.stays_failed e);
      owes = next_part w known now left old mid new p q buf count c.loop.invariant.owes c.in_ok-count.ensures.none_lost whole fits c.in_ok-count.ensures.at_end c.in_ok-next.ensures.none_lost after;
    }
