-- A record and its 16 bytes say the same. Assumes nothing.
use mathlib.Core.Path.{◌≡◌, refl, ap₂}
use mathlib.Core.List.{List, [], ◌∷◌, ◌++◌}
use mathlib.Core.Bool.{Bool, true, false, cond}
use Prim.Native.Nat.{ℕ, zero, suc, ◌+◌, ◌<◌, ◌≤◌}
use native.Mathlib.Omega.{arith}
use lib.Dec.{ltb}
use lib.ListN.{length, take, drop, get_or}
use lib.Seq.{drop-cons, get_or-take, length-take-le}
use borrow.Author.Tests.{le-ltb}
use Rattle.charts.specs.declared.Action.{Action}
use Rattle.charts.specs.Records.{blank}
use Rattle.charts.specs.Layout.{little, value, bytes_of, laid_out, action_at, Fits}
use Rattle.record.specs.Bytes.{Bytes}
use Rattle.record.proofs.Little.{value_little, little_value, value_bound, bytes_little, bytes_append}

-- k elements of a list from place i on, each by its place
abbrev pub from : ℕ → ℕ → List ℕ → List ℕ
from i zero l = []
from i (suc k) l = get_or l i 0 ∷ from (suc i) k l

pub take_from : (i k : ℕ) (l : List ℕ) → i + k ≤ length l → take k (drop i l) ≡ from i k l
take_from i zero l h = refl
take_from i (suc k) l h =
    let f : i < length l = omega arith in
    rw (drop-cons l i 0 f, take_from (suc i) k l (omega arith))

pub bytes_from : (i k : ℕ) (l : List ℕ) → Bytes l → Bytes (from i k l)
bytes_from i zero l h j = omega arith
bytes_from i (suc k) l h zero = h i
bytes_from i (suc k) l h (suc j) = bytes_from (suc i) k l h j

-- the record read where a record's bytes stand is that record
pub action_of_bytes : (a : Action) (rest : List ℕ) → Fits a → action_at (bytes_of a ++ rest) ≡ a
unfolding action_at bytes_of
action_of_bytes a rest f =
    let e : 16 ≤ length (bytes_of a ++ rest) = omega arith in
    rw (le-ltb (length (bytes_of a ++ rest)) 16 e, value_little 4 a.header f.header_fits, value_little 4 a.datum f.datum_fits)

-- the bytes of the record read are the first 16 bytes
pub bytes_of_action : (l : List ℕ) → 16 ≤ length l → Bytes l → bytes_of (action_at l) ≡ take 16 l
unfolding action_at bytes_of
bytes_of_action l h b =
    let e : take 16 l ≡ from 0 16 l = take_from 0 16 l h in
    let four : (i : ℕ) → little 4 (value (from i 4 l)) ≡ from i 4 l = λ i. little_value (from i 4 l) (bytes_from i 4 l b) in
    rw (e, le-ltb (length l) 16 h) (ap₂ (λ (x y : List ℕ). from 0 8 l ++ (x ++ y)) (four 8) (four 12))

-- what is read of bytes has its fields in the ranges of their bytes
pub action_fits : (l : List ℕ) → Bytes l → Fits (action_at l)
unfolding action_at
action_fits l b = go (ltb (length l) 16)
  where
    go : (short : Bool) → Fits (cond short blank (laid_out l))
    go true = record {
      kind_fits = omega arith;
      node_fits = omega arith;
      address_fits = omega arith;
      ack_fits = omega arith;
      hold_fits = omega arith;
      label_fits = omega arith;
      byte6_fits = omega arith;
      byte7_fits = omega arith;
      header_fits = omega arith;
      datum_fits = omega arith;
    }
    go false = record {
      kind_fits = b 0;
      node_fits = b 1;
      address_fits = b 2;
      ack_fits = b 3;
      hold_fits = b 4;
      label_fits = b 5;
      byte6_fits = b 6;
      byte7_fits = b 7;
      header_fits = value_bound (from 8 4 l) (bytes_from 8 4 l b);
      datum_fits = value_bound (from 12 4 l) (bytes_from 12 4 l b);
    }

-- a record's bytes are 16 bytes
pub length_bytes : (a : Action) → length (bytes_of a) ≡ 16
unfolding bytes_of
length_bytes a = refl

pub bytes_bytes : (a : Action) → Fits a → Bytes (bytes_of a)
unfolding bytes_of
bytes_bytes a f zero = f.kind_fits
bytes_bytes a f (suc zero) = f.node_fits
bytes_bytes a f (suc (suc zero)) = f.address_fits
bytes_bytes a f (suc (suc (suc zero))) = f.ack_fits
bytes_bytes a f (suc (suc (suc (suc zero)))) = f.hold_fits
bytes_bytes a f (suc (suc (suc (suc (suc zero))))) = f.label_fits
bytes_bytes a f (suc (suc (suc (suc (suc (suc zero)))))) = f.byte6_fits
bytes_bytes a f (suc (suc (suc (suc (suc (suc (suc zero))))))) = f.byte7_fits
bytes_bytes a f (suc (suc (suc (suc (suc (suc (suc (suc i)))))))) =
    bytes_append (little 4 a.header) (little 4 a.datum) (bytes_little 4 a.header) (bytes_little 4 a.datum) i

-- a record is read off the first 16 bytes: what follows them makes no difference
pub action_front : (m : ℕ) (l : List ℕ) → 16 ≤ m → m ≤ length l → action_at (take m l) ≡ action_at l
unfolding action_at
action_front m l h f =
    let short : 16 ≤ length (take m l) = rw (length-take-le m l f) h in
    let long : 16 ≤ length l = omega arith in
    let g : (i : ℕ) → i < m → get_or (take m l) i 0 ≡ get_or l i 0 = λ i k. get_or-take m l i 0 k in
    rw (le-ltb (length (take m l)) 16 short, le-ltb (length l) 16 long, g 0 (omega arith), g 1 (omega arith), g 2 (omega arith), g 3 (omega arith), g 4 (omega arith), g 5 (omega arith), g 6 (omega arith), g 7 (omega arith), g 8 (omega arith), g 9 (omega arith), g 10 (omega arith), g 11 (omega arith), g 12 (omega arith), g 13 (omega arith), g 14 (omega arith), g 15 (omega arith))
