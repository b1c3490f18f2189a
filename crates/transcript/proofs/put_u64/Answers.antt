use Rattle.transcript.proofs.Rooms.{fits, put_in_room, no_room}
use native.Mathlib.Omega.{arith}
use lib.ListN.{length}
use Rattle.transcript.proofs.put_u64.Goals as goal

pub returns-then-not-has_room : goal.returns-then-not-has_room
returns-then-not-has_room c = record { upper_bound = omega arith; value = (no_room 20 c.args.out.now c.args.at _ c.has_room.ensures c.if-not-has_room.true-raw).0; out_after = (no_room 20 c.args.out.now c.args.at _ c.has_room.ensures c.if-not-has_room.true-raw).1 }

pub put_u64-requires : goal.put_u64-requires
put_u64-requires c = let room = fits 20 c.args.at (length c.args.out.now) c.has_room.ensures c.if-not-has_room.false-raw in omega arith

pub returns : goal.returns
returns c = let room = fits 20 c.args.at (length c.args.out.now) c.has_room.ensures c.if-not-has_room.false-raw in let p = put_in_room 20 room c.put_u64.ensures.puts in record { upper_bound = omega arith; value = p.0; out_after = p.1 }
