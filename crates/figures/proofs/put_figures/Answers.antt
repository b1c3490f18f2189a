use mathlib.Core.Path.{refl, sym}
use Prim.Native.Nat.{◌+◌, ◌<◌}
use native.Mathlib.Omega.{arith}
use lib.ListN.{length}
use borrow.Author.Tests.{lt-leb}
use Rattle.transcript.proofs.Rooms.{fits, put_in_room, no_room}
use Rattle.figures.specs.Figures.{figures_line, room_for}
use Rattle.figures.proofs.put_figures.Goals as goal

pub returns-then-out-rest : goal.returns-then-out-rest
returns-then-out-rest c = let rest = c.args.rest.now in
    let short : length c.args.out.now < c.args.at + room_for rest = omega arith in
    let p = no_room (room_for rest) c.args.out.now c.args.at (figures_line c.args.first rest) (sym (lt-leb (c.args.at + room_for rest) (length c.args.out.now) short)) refl in record { upper_bound = omega arith; value = p.0; out_after = p.1 }

pub returns-then-not-has_room : goal.returns-then-not-has_room
returns-then-not-has_room c = record { upper_bound = omega arith; value = (no_room (room_for c.args.rest.now) c.args.out.now c.args.at _ c.has_room.ensures c.if-not-has_room.true-raw).0; out_after = (no_room (room_for c.args.rest.now) c.args.out.now c.args.at _ c.has_room.ensures c.if-not-has_room.true-raw).1 }

pub put_line-requires : goal.put_line-requires
put_line-requires c = fits (room_for c.args.rest.now) c.args.at (length c.args.out.now) c.has_room.ensures c.if-not-has_room.false-raw

pub returns : goal.returns
returns c = let room = fits (room_for c.args.rest.now) c.args.at (length c.args.out.now) c.has_room.ensures c.if-not-has_room.false-raw in
    let p = put_in_room (room_for c.args.rest.now) room c.put_line.ensures.puts in record { upper_bound = c.put_line.ensures.upper_bound; value = p.0; out_after = p.1 }
