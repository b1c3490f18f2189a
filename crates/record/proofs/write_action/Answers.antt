use mathlib.Core.Path.{refl, sym, ◌∙◌}
use Rattle.charts.specs.Layout.{bytes_of}
use Rattle.record.specs.Bytes.{put_at}
use Rattle.record.proofs.Little.{put_copied}
use Rattle.record.proofs.write_action.Goals as goal

pub returns-then-not-has_room-clause-out_after : goal.returns-then-not-has_room-clause-out_after
unfolding put_at bytes_of
returns-then-not-has_room-clause-out_after c = simp (sym c.has_room.ensures.value ∙ c.if-not-has_room.true)

pub returns-clause-out_after : goal.returns-clause-out_after
unfolding bytes_of
returns-clause-out_after c = put_copied c.args.out.now c.args.at 16 _ (bytes_of c.args.a) (c.copy_from_slice.ensures.after ∙ c.bytes_of.ensures) refl (sym c.has_room.ensures.value ∙ c.if-not-has_room.false)
