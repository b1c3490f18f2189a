-- Whole run files.
use Rattle.std.specs.Prelude.{◌≡◌, true, List, [], ◌∷◌, ◌++◌, ℕ, zero, suc, ◌+◌, ◌*◌, ◌/◌, ◌<◌, ◌≤◌, length, take, drop}
use Rattle.charts.specs.Numbers as N
use Rattle.charts.specs.Valid.{is_size}
use Rattle.charts.specs.declared.Action.{Action}
use Rattle.charts.specs.Layout.{bound, actions_of, records_of, Fits}
use Rattle.record.specs.Bytes.{Bytes}
use Rattle.runfile.specs.Block.{holds, read_block, used_bytes}
use Rattle.runfile.specs.Write.{first_refusal, write_number, block_of}

-- "All but the last block are full": how many blocks a list of actions fills, and its blocks from number i on
abbrev pub blocks_for : ℕ → ℕ
blocks_for count = (count + 30) / 31

abbrev pub file_from : ℕ → ℕ → ℕ → List Action → List ℕ
file_from zero i n l = []
file_from (suc k) i n l = block_of i n (take 31 l) ++ file_from k (suc i) n (drop 31 l)

-- "block number from 0": the file of a list of actions for n nodes
unfoldable pub file_of : ℕ → List Action → List ℕ
file_of n l = file_from (blocks_for (length l)) 0 n l

-- a block that a reader of files accepts as block i of a file for n nodes, by 8, 9, 1, 10 and 11, and whose actions are l
pub record IsBlock (n i : ℕ) (l : List Action) (s : List ℕ) : Type 0 where
  pub accepted : read_block s ≡ holds i (length l) n
  pub actions : actions_of (length l) (used_bytes s) ≡ l

-- 10: "block number not the next (first: 0 […]), n not block 0's, or the block before not full" is refused: the blocks of a file from number i on
pub data Blocks (n : ℕ) : ℕ → List Action → List ℕ → Type 0 where
  last : {i : ℕ} {l : List Action} {s : List ℕ} → IsBlock n i l s → Blocks n i l s
  next : {i : ℕ} {l m : List Action} {s t : List ℕ} → IsBlock n i l s → length l ≡ 31 → Blocks n (suc i) m t → Blocks n i (l ++ m) (s ++ t)

-- actions whose fields are in the ranges of their bytes
abbrev pub AllFit : List Action → Type 0
AllFit [] = Unit
AllFit (a ∷ l) = Fits a × AllFit l

-- bytes that are a file of a list of actions for n nodes
pub record IsFile (n : ℕ) (l : List Action) (s : List ℕ) : Type 0 where
  pub bytes : Bytes s
  pub blocks : Blocks n 0 l s

-- a non-empty list of actions that the writer takes for n nodes, each by 1 and 2 to 6 (13 and 15 after 5), and whose blocks have numbers of 32 bits
pub record Taken (n : ℕ) (l : List Action) : Type 0 where
  pub nodes : is_size n ≡ true
  pub some : 1 ≤ length l
  pub numbered : length l ≤ 31 * bound 4
  pub fits : AllFit l
  pub accepted : first_refusal n l ≡ N.accepted

-- one file: the bytes of `file_of` are a file, each of its blocks is one that the writer takes, and no other bytes are a file
pub record OneFile (n : ℕ) (l : List Action) : Type 0 where
  pub is_file : IsFile n l (file_of n l)
  pub written : (k : ℕ) → 31 * k < length l → write_number 512 n (records_of (take 31 (drop (31 * k) l))) ≡ N.accepted
  pub only : (s : List ℕ) → IsFile n l s → s ≡ file_of n l
