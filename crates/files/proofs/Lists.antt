-- Lists of actions and their bytes. Assumes nothing.
use mathlib.Core.Path.{◌≡◌, refl, ap, ◌∙◌}
use mathlib.Core.List.{List, [], ◌∷◌}
use Prim.Native.Nat.{ℕ, zero, suc, ◌+◌, ◌*◌, ◌-◌, ◌≤◌}
use native.Mathlib.Omega.{arith}
use lib.ListN.{length, take, drop, length-append, length-drop}
use lib.Seq.{take-add, drop_at}
use Rattle.charts.specs.declared.Action.{Action}
use Rattle.charts.specs.Layout.{bytes_of, actions_of, records_of}
use Rattle.record.specs.Bytes.{Bytes}
use Rattle.record.proofs.Little.{bytes_append}
use Rattle.record.proofs.Round.{action_front, action_of_bytes, bytes_of_action, length_bytes, bytes_bytes}
use Rattle.runfile.specs.Block.{holds, read_block, used_bytes}
use Rattle.files.specs.File.{AllFit}
use Rattle.runfile.proofs.Parts.{cut, bytes_drop}
use Rattle.files.proofs.Accepted.{shown, at_most, used_is}

pub records_length : (l : List Action) → length (records_of l) ≡ 16 * length l
records_length [] = refl
records_length (a ∷ l) = simp (length-append, length_bytes) (omega (arith, records_length l))

pub records_bytes : (l : List Action) → AllFit l → Bytes (records_of l)
records_bytes [] f i = omega arith
records_bytes (a ∷ l) f i = bytes_append (bytes_of a) (records_of l) (bytes_bytes a f.0) (records_bytes l f.1) i

-- the records read where the bytes of a list stand are that list
pub actions_of_records : (l : List Action) → AllFit l → actions_of (length l) (records_of l) ≡ l
actions_of_records [] f = refl
actions_of_records (a ∷ l) f =
    rw (action_of_bytes a (records_of l) f.0, drop_at (bytes_of a) (records_of l) 16 (length_bytes a), actions_of_records l f.1)

-- the bytes of the records read are the first bytes
pub records_of_actions : (k : ℕ) (s : List ℕ) → Bytes s → 16 * k ≤ length s → records_of (actions_of k s) ≡ take (16 * k) s
records_of_actions zero s b h = refl
records_of_actions (suc k) s b h =
    let one : 16 ≤ length s = omega arith in
    let rest : 16 * k ≤ length (drop 16 s) = simp length-drop (omega arith) in
    let e : 16 * suc k ≡ 16 + 16 * k = omega arith in
    rw (e, take-add 16 (16 * k) s, bytes_of_action s one b, records_of_actions k (drop 16 s) (bytes_drop 16 s b) rest)

-- the records of an accepted block are those that stand in it from byte 14 on
actions_front : (k m : ℕ) (s : List ℕ) → 16 * k ≤ m → m ≤ length s → actions_of k (take m s) ≡ actions_of k s
actions_front zero m s h f = refl
actions_front (suc k) m s h f =
    let e : m ≡ 16 + (m - 16) = omega arith in
    let p : 16 ≤ m = omega arith in
    let q : 16 ≤ length s = omega arith in
    let c : drop 16 (take m s) ≡ take (m - 16) (drop 16 s) = ap (λ (x : ℕ). drop 16 (take x s)) e ∙ cut 16 (m - 16) s q in
    let h' : 16 * k ≤ m - 16 = omega arith in
    let f' : m - 16 ≤ length (drop 16 s) = simp length-drop (omega arith) in
    rw (action_front m s p f, c, actions_front k (m - 16) (drop 16 s) h' f')

pub actions_in_block : (s : List ℕ) (number count n : ℕ) → read_block s ≡ holds number count n → actions_of count (used_bytes s) ≡ actions_of count (drop 14 s)
actions_in_block s number count n read =
    let a = shown s number count n read in
    let few = at_most s number count n read in
    let fits : 16 * count ≤ length (drop 14 s) = simp length-drop (omega (arith, a.size)) in
    rw (used_is s number count n read) (actions_front count (16 * count) (drop 14 s) (omega arith) fits)
