use Rattle.transcript.proofs.Rooms.{fits, put_in_room, no_room}
use native.Mathlib.Omega.{arith}
use lib.ListN.{length}
use Rattle.transcript.proofs.put_word.Goals as goal

pub returns-then-not-has_room : goal.returns-then-not-has_room
returns-then-not-has_room c = record { value = (no_room (length c.args.word.now) c.args.out.now c.args.at _ c.has_room.ensures c.if-not-has_room.true-raw).0; out_after = (no_room (length c.args.word.now) c.args.out.now c.args.at _ c.has_room.ensures c.if-not-has_room.true-raw).1 }

pub put_word-requires : goal.put_word-requires
put_word-requires c = let room = fits (length c.args.word.now) c.args.at (length c.args.out.now) c.has_room.ensures c.if-not-has_room.false-raw in omega arith

pub returns : goal.returns
returns c = let room = fits (length c.args.word.now) c.args.at (length c.args.out.now) c.has_room.ensures c.if-not-has_room.false-raw in let p = put_in_room (length c.args.word.now) room c.put_word.ensures in record { value = p.0; out_after = p.1 }
