use Rattle.std.proofs.Common.{arith}
use Prim.Native.Nat.{ℕ}
use mathlib.Core.Path.{◌≡◌}
use mathlib.Core.List.{List, ◌++◌, append_assoc}
use Rattle.transcript.specs.declared.writer.Line.{Line}
use Rattle.transcript.specs.Writer.{written}
use Rattle.transcript.proofs.Writes.{written_written}
use Rattle.faults.specs.declared.Cause.TheVariants as C
use Rattle.faults.specs.Faults.{cause_words}
use Rattle.faults.proofs.Lengths.{cause_short}
use Rattle.faults.proofs.words.put_cause.Goals as goal

four_written : (l : Line) (s t u v : List ℕ) → written (written (written (written l s) t) u) v ≡ written l (s ++ (t ++ (u ++ v)))
four_written l s t u v = simp (written_written, append_assoc)

pub returns-in-Plain-clause-short : goal.returns-in-Plain-clause-short
returns-in-Plain-clause-short c = rw c.in-Plain.is (cause_short C.Plain c.args.w.now tt)

pub returns-in-Quoted-clause-short : goal.returns-in-Quoted-clause-short
returns-in-Quoted-clause-short c = rw c.in-Quoted.is (cause_short C.Quoted c.args.w.now tt)

pub returns-in-Field-clause-short : goal.returns-in-Field-clause-short
returns-in-Field-clause-short c = rw c.in-Field.is (cause_short (C.Field c.in-Field.kind c.in-Field.place) c.args.w.now tt)

pub returns-in-Large-clause-short : goal.returns-in-Large-clause-short
returns-in-Large-clause-short c = rw c.in-Large.is (cause_short (C.Large c.in-Large.kind c.in-Large.place) c.args.w.now tt)

pub returns-in-Missing-clause-short : goal.returns-in-Missing-clause-short
returns-in-Missing-clause-short c = rw c.in-Missing.is (cause_short (C.Missing c.in-Missing.kind c.in-Missing.place) c.args.w.now tt)

pub returns-in-Size-clause-short : goal.returns-in-Size-clause-short
returns-in-Size-clause-short c = rw c.in-Size.is (cause_short C.Size c.args.w.now tt)

pub returns-in-Node-clause-short : goal.returns-in-Node-clause-short
returns-in-Node-clause-short c = rw c.in-Node.is (cause_short (C.Node c.in-Node.node c.in-Node.n) c.args.w.now (omega arith, omega arith))

pub returns-in-Address-clause-short : goal.returns-in-Address-clause-short
returns-in-Address-clause-short c = rw c.in-Address.is (cause_short (C.Address c.in-Address.address c.in-Address.n) c.args.w.now (omega arith, omega arith))

pub returns-in-Label-clause-short : goal.returns-in-Label-clause-short
returns-in-Label-clause-short c = rw c.in-Label.is (cause_short (C.Label c.in-Label.label) c.args.w.now (omega arith))

pub returns-in-Own-clause-short : goal.returns-in-Own-clause-short
returns-in-Own-clause-short c = rw c.in-Own.is (cause_short (C.Own c.in-Own.node) c.args.w.now (omega arith))

pub returns-in-Ack-clause-short : goal.returns-in-Ack-clause-short
returns-in-Ack-clause-short c = rw c.in-Ack.is (cause_short (C.Ack c.in-Ack.ack) c.args.w.now (omega arith))

pub returns-in-Closed-clause-short : goal.returns-in-Closed-clause-short
returns-in-Closed-clause-short c = rw c.in-Closed.is (cause_short C.Closed c.args.w.now tt)

pub returns-in-Depth-clause-short : goal.returns-in-Depth-clause-short
returns-in-Depth-clause-short c = rw c.in-Depth.is (cause_short C.Depth c.args.w.now tt)

pub returns-in-Plain-clause-writes : goal.returns-in-Plain-clause-writes
unfolding cause_words written
returns-in-Plain-clause-writes c = rw c.in-Plain.is

pub returns-in-Address-clause-writes : goal.returns-in-Address-clause-writes
unfolding cause_words
returns-in-Address-clause-writes c = rw (c.in-Address.is, c.word-in-Address-2.ensures, c.figure-in-Address.ensures, c.last_of-in-Address.ensures, c.word-in-Address.ensures, c.put_said_with-in-Address.ensures) (four_written _ _ _ _ _)

pub returns-in-Label-clause-writes : goal.returns-in-Label-clause-writes
unfolding cause_words
returns-in-Label-clause-writes c = rw (c.in-Label.is, c.word-in-Label.ensures, c.put_said_with-in-Label.ensures) (written_written _ _ _)

pub returns-in-Ack-clause-writes : goal.returns-in-Ack-clause-writes
unfolding cause_words
returns-in-Ack-clause-writes c = rw (c.in-Ack.is, c.word-in-Ack.ensures, c.put_said_with-in-Ack.ensures) (written_written _ _ _)

pub returns-in-Depth-clause-writes : goal.returns-in-Depth-clause-writes
unfolding cause_words
returns-in-Depth-clause-writes c = rw c.in-Depth.is c.put_said-in-Depth.ensures
