-- The composer: what a line, an action put into the block under way, and the text's end make of it.
use Rattle.std.specs.Prelude.{true, false, cond, not, List, ℕ, ◌+◌, ◌*◌, ◌-◌, eqb, ltb, take, Some, None, is_some, Result, Ok, Err}
use Rattle.charts.specs.Numbers as N
use Rattle.charts.specs.Numbers.{number_of}
use Rattle.charts.specs.Records.{Decoded, read}
use Rattle.charts.specs.declared.Action.{Action}
use Rattle.charts.specs.Layout.{bytes_of}
use Rattle.record.specs.Bytes.{put_at}
use Rattle.runfile.specs.Write.{write_number, block_with}
use Rattle.faults.specs.declared.Fault.{Fault}
use Rattle.faults.specs.declared.Fault.TheVariants.{UnknownWord, NodesMissing, NoAction, TooMany, Refused}
use Rattle.notation.specs.declared.Text.TheVariants.{Run}
use Rattle.notation.specs.declared.Line.{Line}
use Rattle.notation.specs.declared.Line.TheVariants.{Blank, Nodes, Acts, Actions, Finds}
use Rattle.notation.specs.declared.Line.TheVariants as L
use Rattle.composer.specs.declared.Composer.{Composer}
use Rattle.composer.specs.declared.Wrote.{Wrote}
use Rattle.words.specs.Words.{limit}
use Rattle.notation.specs.Grammar.{line_of}
use Rattle.notation.specs.Reading.{counted, nodes_stage}

-- the composer stopped by a fault; on the next line; with so many nodes; with an action to put so often
abbrev pub stopped : Composer → Fault → Composer
stopped c f = record {
  fault = Some f;
  line = c.line;
  n = c.n;
  blocks = c.blocks;
  count = c.count;
  records = c.records;
  action = c.action;
  left = c.left;
}

abbrev pub on_line : Composer → ℕ → Composer
on_line c line = record {
  fault = c.fault;
  line = line;
  n = c.n;
  blocks = c.blocks;
  count = c.count;
  records = c.records;
  action = c.action;
  left = c.left;
}

abbrev pub for_nodes : Composer → ℕ → Composer
for_nodes c n = record {
  fault = c.fault;
  line = c.line;
  n = n;
  blocks = c.blocks;
  count = c.count;
  records = c.records;
  action = c.action;
  left = c.left;
}

abbrev pub to_put : Composer → Action → ℕ → Composer
to_put c a k = record {
  fault = c.fault;
  line = c.line;
  n = c.n;
  blocks = c.blocks;
  count = c.count;
  records = c.records;
  action = a;
  left = k;
}

abbrev pub with_block : Composer → ℕ → ℕ → List ℕ → ℕ → Composer
with_block c blocks count records left = record {
  fault = c.fault;
  line = c.line;
  n = c.n;
  blocks = blocks;
  count = count;
  records = records;
  action = c.action;
  left = left;
}

-- "`nodes 3` first": once, and 1 refuses n
abbrev pub nodes_as : Composer → ℕ → Result Unit Fault → Composer
nodes_as c n (Ok u) = for_nodes c n
nodes_as c n (Err f) = stopped c f

unfoldable pub nodes_taken : Composer → ℕ → Composer
nodes_taken c n = nodes_as c n (nodes_stage c.n n)

-- "the paper's number 1 to 6 for what the writer would refuse"
abbrev pub read_taken : Composer → Action → ℕ → Decoded → Composer
read_taken c a k (Err j) = stopped c (Refused (number_of j))
read_taken c a k (Ok m) = to_put c a k

unfoldable pub action_taken : Composer → Action → ℕ → Composer
action_taken c a k = cond (eqb c.n 0) (stopped c NodesMissing) (read_taken c a k (read c.n a))

-- a run has no lines of settings and no `find`
unfoldable pub line_taken : Composer → Result Line Fault → Composer
line_taken c (Ok Blank) = c
line_taken c (Ok (Nodes n)) = nodes_taken c n
line_taken c (Ok (Acts a k)) = action_taken c a k
line_taken c (Ok (Actions k)) = stopped c UnknownWord
line_taken c (Ok (L.User i u)) = stopped c UnknownWord
line_taken c (Ok (Finds q d)) = stopped c UnknownWord
line_taken c (Err f) = stopped c f

-- a line fed to the composer. One that has stopped, or has still an action to put, takes none.
unfoldable pub feed_of : Composer → List ℕ → Composer
feed_of c line =
    cond (is_some c.fault) c
    (cond (not (eqb c.left 0)) c
    (line_taken (on_line c (counted c.line)) (line_of Run line)))

-- nothing is written
abbrev pub quiet : Composer → Wrote
quiet c = record { composer = c; written = false }

-- the block under way written, its records being the first `size` bytes: "none follows 4,294,967,295"
abbrev pub written_as : Composer → ℕ → Wrote
written_as c k =
    cond (eqb k N.accepted) (record { composer = with_block c (c.blocks + 1) 0 c.records c.left; written = true })
    (quiet (stopped c (Refused k)))

abbrev pub records_in : Composer → ℕ → List ℕ
records_in c size = take size c.records

unfoldable pub flush_of : Composer → ℕ → Wrote
flush_of c size =
    cond (not (ltb c.blocks limit)) (quiet (stopped c TooMany))
    (written_as c (write_number 512 c.n (records_in c size)))

-- what the lent buffer then holds
unfoldable pub held_after : Composer → ℕ → Wrote → List ℕ → List ℕ
held_after c size p out = cond p.written (block_with c.blocks c.n (records_in c size)) out

-- the action under way put once more, `count` records standing in the block then
abbrev pub stored : Composer → ℕ → Composer
stored c count = with_block c c.blocks count (put_at c.records (16 * c.count) (bytes_of c.action)) (c.left - 1)

-- "All but the last block are full": the 31st record fills a block
unfoldable pub put_of : Composer → Wrote
put_of c =
    cond (is_some c.fault) (quiet c)
    (cond (eqb c.left 0) (quiet c)
    (cond (ltb c.count 30) (quiet (stored c (c.count + 1)))
    (flush_of (stored c c.count) 496)))

abbrev pub put_held : Composer → List ℕ → List ℕ
put_held c out = held_after (stored c c.count) 496 (put_of c) out

-- the text's end: "no `nodes` line, no action"
abbrev pub used_by : ℕ → ℕ
used_by count = cond (ltb count 31) (16 * count) 496

unfoldable pub finish_of : Composer → Wrote
finish_of c =
    cond (is_some c.fault) (quiet c)
    (cond (not (eqb c.left 0)) (quiet c)
    (cond (eqb c.n 0) (quiet (stopped c NodesMissing))
    (cond (not (eqb c.count 0)) (flush_of c (used_by c.count))
    (cond (eqb c.blocks 0) (quiet (stopped c NoAction)) (quiet c)))))

abbrev pub finish_held : Composer → List ℕ → List ℕ
finish_held c out = held_after c (used_by c.count) (finish_of c) out

-- the composer before a text
abbrev pub start_of : List ℕ → Action → Composer
start_of records a = record { fault = None; line = 0; n = 0; blocks = 0; count = 0; records = records; action = a; left = 0 }
