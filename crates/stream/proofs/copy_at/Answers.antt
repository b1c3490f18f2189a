use Rattle.std.proofs.Common.{◌≡◌, ◌+◌, ◌-◌, length, take, drop, sym, arith, ◌∙◌, drop-drop, append_assoc}
use Rattle.std.proofs.lemmas.List.Edits.{sets-eq}
use Rattle.stream.proofs.copy_at.Goals as goal

pub returns : goal.returns
returns c =
    let size : c.args.at + length c.args.text.now - c.args.at ≡ length c.args.text.now = omega arith in
    rw (c.copy_from_slice.ensures.after, size, drop-drop) (sym (sets-eq c.args.text.now c.args.out.now c.args.at c.requires ∙ append_assoc (take c.args.at c.args.out.now) c.args.text.now (drop (c.args.at + length c.args.text.now) c.args.out.now)))
