use Rattle.std.proofs.Common.{arith}
use mathlib.Core.Path.{sym}
use lib.Seq.{length-take-le}
use Rattle.faults.proofs.words.put_shown.Goals as goal

pub slice_bounds-put_shown_bytes-end : goal.slice_bounds-put_shown_bytes-end
slice_bounds-put_shown_bytes-end c = sym (length-take-le 64 c.args.w.now (omega arith))
