use Rattle.std.proofs.Common.{◌≡◌, ◌≤◌, length, true}
use Rattle.texts.proofs.Reader.next_line.Given as goal

abbrev pub invariant-loop : goal.invariant-loop
invariant-loop g l = (l.len ≤ length l.line) × (l.self.lines.whole ≡ true)
