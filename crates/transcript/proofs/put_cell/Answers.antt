use Rattle.std.proofs.Common.{arith, ◌∙◌, ◌++◌, ◌∷◌, []}
use Rattle.transcript.specs.Lines.{cell_text}
use Rattle.transcript.specs.Room.{longest}
use Rattle.transcript.proofs.Lengths.{cell_short}
use Rattle.transcript.proofs.Writes.{all_put, pieces}
use Rattle.transcript.proofs.put_cell.Goals as goal

pub returns : goal.returns
unfolding cell_text
returns c =
    let new = c.new-line.ensures in
    let short = cell_short c.args.e c.args.after (omega arith) in
    let p = all_put longest c.args.at c.args.out.now (cell_text c.args.e ++ (c.args.after ∷ [])) c.new-line.result c.byte-4.new.self c.has_room.ensures c.if-not-has_room.false (omega (arith, short)) new.starts new.holds new.same_reference (grind (arith, pieces)) c.out-1.given.1.1 in
    record { upper_bound = omega arith; value = c.end.ensures ∙ p.1; out_after = p.2 }
