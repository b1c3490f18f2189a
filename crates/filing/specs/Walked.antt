-- What a program writes that walks the run file that it reads.
use Rattle.std.specs.Prelude.{List, [], ◌∷◌, ◌++◌, ℕ, Option, None, Some}
use Rattle.std.specs.Io.KnownBytes.{Appends}
use Rattle.files.specs.declared.order.Stage.TheVariants.{Unopened}
use Rattle.files.specs.Pieces.{pieces}
use Rattle.walk.specs.Walk.{Walker}
use Rattle.walk.specs.Feeding.{Walking, feed_of, fed_text}

-- the text of pieces fed one after the other, and the walk after them
abbrev pub pieces_text : {S : Type 0} → Walker S → List (List ℕ) → Walking S → List ℕ
pieces_text w [] p = []
pieces_text w (b ∷ l) p = (feed_of w p b).text ++ pieces_text w l (feed_of w p b).after

abbrev pub pieces_after : {S : Type 0} → Walker S → List (List ℕ) → Walking S → Walking S
pieces_after w [] p = p
pieces_after w (b ∷ l) p = pieces_after w l (feed_of w p b).after

-- to what was written the text of the whole file is added, where its bytes are known. (The state before block 0 says nothing: `whole` of walk/proofs/Whole.antt.)
abbrev pub Walks : {S : Type 0} → Walker S → Option (List ℕ) → Option (List ℕ) → Option (List ℕ) → Type 0
Walks w None old new = Unit {0}
Walks {S} w (Some bytes) old new = (s : S) × Appends old new (fed_text w (pieces bytes) (record { state = s; stage = Unopened }))
