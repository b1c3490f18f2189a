use Rattle.transcript.proofs.Rooms.{fits, put_in_room, no_room}
use native.Mathlib.Omega.{arith}
use lib.ListN.{length}
use Rattle.transcript.proofs.put_u8.Goals as goal

pub returns-then-not-has_room : goal.returns-then-not-has_room
returns-then-not-has_room c = record { upper_bound = omega arith; value = (no_room 3 c.args.out.now c.args.at _ c.has_room.ensures c.if-not-has_room.true-raw).0; out_after = (no_room 3 c.args.out.now c.args.at _ c.has_room.ensures c.if-not-has_room.true-raw).1 }

pub put_u8-requires : goal.put_u8-requires
put_u8-requires c = let room = fits 3 c.args.at (length c.args.out.now) c.has_room.ensures c.if-not-has_room.false-raw in omega arith

pub returns : goal.returns
returns c = let room = fits 3 c.args.at (length c.args.out.now) c.has_room.ensures c.if-not-has_room.false-raw in let p = put_in_room 3 room c.put_u8.ensures.puts in record { upper_bound = omega arith; value = p.0; out_after = p.1 }
