use Rattle.std.proofs.Common.{length, ◌-◌, rules}
use borrow.Rule.Slice.PartMut.{post_of}
use Rattle.stream.proofs.Sent.{read_on}
use Rattle.stream.proofs.fill.Goals as goal

pub loop-count-preserved : goal.loop-count-preserved
loop-count-preserved g c =
    let known = g.R.Read.remaining in
    let buf = c.loop-count.buf in
    let done = c.loop-count.count in
    let told = c.in-Ok.ensures in (
      search rules,
      read_on (known c.args.reader.now) (known c.loop-count.reader) (known c.read.new.self) buf c.read.new.buf (post_of done (length buf - done) buf) done c.in-Ok.more c.loop-count.invariant.1 told.bytes.0 c.loop-count.invariant.0 told.bound.0,
    )
