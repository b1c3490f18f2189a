-- Action records stored one after the other in 496 bytes. Assumes nothing.
use mathlib.Core.Path.{◌≡◌, sym, ◌∙◌}
use mathlib.Core.List.{List, [], ◌∷◌, ◌++◌, append_assoc, append-nil}
use Prim.Native.Nat.{ℕ, suc, ◌+◌, ◌*◌, ◌<◌, ◌≤◌}
use native.Mathlib.Omega.{arith}
use borrow.Author.Tests.{le-leb}
use lib.ListN.{length, take, drop, length-append, length-drop}
use lib.Seq.{take_at}
use Rattle.charts.specs.declared.Action.{Action}
use Rattle.charts.specs.Layout.{bytes_of, records_of}
use Rattle.record.specs.Bytes.{put_at}
use Rattle.record.proofs.Round.{length_bytes}
use Rattle.files.proofs.Lists.{records_length}

records_more : (l : List Action) (a : Action) → records_of (l ++ (a ∷ [])) ≡ records_of l ++ bytes_of a
records_more [] a = append-nil (bytes_of a)
records_more (b ∷ l) a = rw (records_more l a) (sym (append_assoc (bytes_of b) (records_of l) (bytes_of a)))

-- a record stored after those of l
module _ (s : List ℕ) (l : List Action) (a : Action) (size : length s ≡ 496) (few : length l < 31) (holds : take (16 * length l) s ≡ records_of l) where
  room : 16 * length l + 16 ≤ length s
  room = omega arith

  stored_is : put_at s (16 * length l) (bytes_of a) ≡ (records_of l ++ bytes_of a) ++ drop (16 * length l + 16) s
  unfolding put_at
  stored_is =
      let fits = room in
      rw (length_bytes a, le-leb (16 * length l + 16) (length s) fits, holds)

  two_length : length (records_of l ++ bytes_of a) ≡ 16 * suc (length l)
  two_length = length-append (records_of l) (bytes_of a) ∙ rw (records_length l, length_bytes a) (omega arith)

  pub stored_size : length (put_at s (16 * length l) (bytes_of a)) ≡ 496
  stored_size =
      let fits = room in
      let two = two_length in
      rw stored_is (length-append (records_of l ++ bytes_of a) (drop (16 * length l + 16) s) ∙ rw (two, length-drop) (omega arith))

  pub stored_holds : take (16 * suc (length l)) (put_at s (16 * length l) (bytes_of a)) ≡ records_of (l ++ (a ∷ []))
  stored_holds = rw (stored_is, records_more l a) (take_at (records_of l ++ bytes_of a) (drop (16 * length l + 16) s) (16 * suc (length l)) two_length)
