-- The bytes of an action record: "16 bytes each: kind, node, address, acknowledgement, hold, three zeros, header (4 bytes), data (4 bytes)", and request 3: "Byte 5 of an action record becomes the label".
use Rattle.std.specs.Prelude.{cond, List, [], ◌∷◌, ◌++◌, ℕ, zero, suc, ◌+◌, ◌*◌, ◌/◌, ◌%◌, ◌<◌, ltb, length, drop, get_or}
use Rattle.charts.specs.declared.Action.{Action}
use Rattle.charts.specs.Records.{blank}

-- "fields little-endian": the lowest k bytes of a number, and the number of a list of bytes
abbrev pub little : ℕ → ℕ → List ℕ
little zero x = []
little (suc k) x = x % 256 ∷ little k (x / 256)

abbrev pub value : List ℕ → ℕ
value [] = 0
value (b ∷ l) = b + 256 * value l

-- the numbers below it fit k bytes
abbrev pub bound : ℕ → ℕ
bound zero = 1
bound (suc k) = 256 * bound k

-- a record's 16 bytes
unfoldable pub bytes_of : Action → List ℕ
bytes_of a =
    a.kind ∷ a.node ∷ a.address ∷ a.ack ∷ a.hold ∷ a.label ∷ a.byte6 ∷ a.byte7
    ∷ (little 4 a.header ++ little 4 a.datum)

-- the record that the first 16 bytes of a list are
abbrev pub laid_out : List ℕ → Action
laid_out l = record {
  kind = get_or l 0 0;
  node = get_or l 1 0;
  address = get_or l 2 0;
  ack = get_or l 3 0;
  hold = get_or l 4 0;
  label = get_or l 5 0;
  byte6 = get_or l 6 0;
  byte7 = get_or l 7 0;
  header = value (get_or l 8 0 ∷ get_or l 9 0 ∷ get_or l 10 0 ∷ get_or l 11 0 ∷ []);
  datum = value (get_or l 12 0 ∷ get_or l 13 0 ∷ get_or l 14 0 ∷ get_or l 15 0 ∷ []);
}

-- the record at the start of a list of bytes; less than 16 bytes hold none, and stand for the record of zeros
unfoldable pub action_at : List ℕ → Action
action_at l = cond (ltb (length l) 16) blank (laid_out l)

-- the action records that stand one after the other in a list of bytes, and the bytes of a list of records
abbrev pub actions_of : ℕ → List ℕ → List Action
actions_of zero s = []
actions_of (suc k) s = action_at s ∷ actions_of k (drop 16 s)

abbrev pub records_of : List Action → List ℕ
records_of [] = []
records_of (a ∷ l) = bytes_of a ++ records_of l

-- fields in the ranges of their bytes
pub record Fits (a : Action) : Type 0 where
  pub kind_fits : a.kind < 256
  pub node_fits : a.node < 256
  pub address_fits : a.address < 256
  pub ack_fits : a.ack < 256
  pub hold_fits : a.hold < 256
  pub label_fits : a.label < 256
  pub byte6_fits : a.byte6 < 256
  pub byte7_fits : a.byte7 < 256
  pub header_fits : a.header < bound 4
  pub datum_fits : a.datum < bound 4
