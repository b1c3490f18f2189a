-- Lines of figures: what `sums` prints of a block, and `counts` of a length.
use Rattle.std.specs.Prelude.{List, ◌∷◌, map, ℕ, ◌+◌, ◌*◌, length}
use Rattle.transcript.specs.Lines.{line}
use Rattle.transcript.specs.Text.{decimal}

-- a figure and others after it, "with single spaces"
unfoldable pub figures_line : ℕ → List ℕ → List ℕ
figures_line x l = line (decimal x ∷ map decimal l)

-- the room that such a line finds, whatever its own length: 20 digits for each figure and a byte after it
abbrev pub room_for : List ℕ → ℕ
room_for l = 21 * (length l + 1)
