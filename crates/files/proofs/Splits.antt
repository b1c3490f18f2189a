-- A file of two lists of actions, one after the other. Assumes nothing.
use mathlib.Core.Path.{◌≡◌, sym}
use mathlib.Core.List.{List, [], ◌∷◌, ◌++◌, append_assoc}
use Prim.Native.Nat.{ℕ, zero, suc, ◌+◌, ◌*◌, ◌≤◌}
use native.Mathlib.Omega.{arith}
use lib.ListN.{length, take, drop, length-drop}
use lib.Seq.{take-append-le, drop-append-le}
use Rattle.charts.specs.declared.Action.{Action}
use Rattle.runfile.specs.Write.{block_of}
use Rattle.files.specs.File.{file_from}

-- full blocks, and the blocks after them
pub file_split : (k j i n : ℕ) (l m : List Action) → length l ≡ 31 * k → file_from (k + j) i n (l ++ m) ≡ file_from k i n l ++ file_from j (i + k) n m
file_split zero j i n [] m h =
    let e : 0 + j ≡ j = omega arith in
    let f : i + 0 ≡ i = omega arith in
    rw (e, f)
file_split zero j i n (a ∷ l) m h = absurd (omega arith)
file_split (suc k) j i n l m h =
    let long : 31 ≤ length l = omega arith in
    let e : suc k + j ≡ suc (k + j) = omega arith in
    let f : i + suc k ≡ suc i + k = omega arith in
    let size : length (drop 31 l) ≡ 31 * k = rw length-drop (omega arith) in
    rw (e, f, take-append-le 31 l m long, drop-append-le 31 l m long, file_split k j (suc i) n (drop 31 l) m size)
    (sym (append_assoc (block_of i n (take 31 l)) (file_from k (suc i) n (drop 31 l)) (file_from j (suc i + k) n m)))
