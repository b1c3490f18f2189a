use Rattle.transcript.specs.Room.{longest}
use Rattle.transcript.proofs.Said.{line_said}
use Rattle.transcript.specs.Text.{decimal}
use lib.ListN.{length}
use Rattle.transcript.specs.Lines.{line_of}
use Rattle.transcript.proofs.Rooms.{fits, put_in_room, no_room}
use Rattle.transcript.proofs.Puts.{and_then}
use native.Mathlib.Omega.{arith}
use Rattle.transcript.proofs.put_line.Goals as goal

pub returns-then-not-has_room : goal.returns-then-not-has_room
returns-then-not-has_room c = record { upper_bound = omega arith; value = (no_room longest c.args.out.now c.args.at _ c.has_room.ensures c.if-not-has_room.true-raw).0; out_after = (no_room longest c.args.out.now c.args.at _ c.has_room.ensures c.if-not-has_room.true-raw).1 }

pub put_u64-a-requires : goal.put_u64-a-requires
put_u64-a-requires c = let room = fits longest c.args.at (length c.args.out.now) c.has_room.ensures c.if-not-has_room.false-raw in omega arith

pub put_byte-b-requires : goal.put_byte-b-requires
put_byte-b-requires c = let room = fits longest c.args.at (length c.args.out.now) c.has_room.ensures c.if-not-has_room.false-raw in omega arith

pub put_u8-c-requires : goal.put_u8-c-requires
put_u8-c-requires c = let room = fits longest c.args.at (length c.args.out.now) c.has_room.ensures c.if-not-has_room.false-raw in omega arith

pub put_byte-d-requires : goal.put_byte-d-requires
put_byte-d-requires c = let room = fits longest c.args.at (length c.args.out.now) c.has_room.ensures c.if-not-has_room.false-raw in omega arith

pub put_report-requires : goal.put_report-requires
put_report-requires c = let room = fits longest c.args.at (length c.args.out.now) c.has_room.ensures c.if-not-has_room.false-raw in omega arith

pub returns : goal.returns
unfolding line_of
returns c = let room = fits longest c.args.at (length c.args.out.now) c.has_room.ensures c.if-not-has_room.false-raw in let p = put_in_room longest room (and_then c.put_u64-a.ensures.puts
    (and_then c.put_byte-b.ensures
    (and_then c.put_u8-c.ensures.puts
    (and_then c.put_byte-d.ensures
    c.put_report.ensures.puts)))) in record { upper_bound = omega arith; value = rw (line_said (decimal c.args.kind) c.args.report) p.0; out_after = rw (line_said (decimal c.args.kind) c.args.report) p.1 }
