-- No text is longer than the room that it finds. Assumes nothing.
use Prim.Native.Nat.{ℕ, ◌+◌, ◌<◌, ◌≤◌}
use mathlib.Core.Path.{◌≡◌}
use mathlib.Core.Bool.{Bool, true, false, cond}
use mathlib.Core.List.{List, [], ◌∷◌, ◌++◌}
use native.Mathlib.Omega.{arith}
use lib.ListN.{length, length-append}
use Rattle.std.specs.Prelude.{eqb}
use Rattle.charts.specs.Signals.{everybody}
use Rattle.charts.specs.Words as W
use Rattle.charts.specs.declared.Action.{Action}
use Rattle.charts.specs.declared.Entry.{Entry}
use Rattle.transcript.specs.Text.{ascii, decimal}
use Rattle.transcript.specs.Lines.{line, first_word, flag, nodes_line, done_line, refused_line, span_line, cell_text}
use Rattle.transcript.specs.Printed.{request_words, respond_words, address_word, hold_word, change_word, label_words, line_after, words_for, action_line}
use Rattle.transcript.proofs.Decimals.{decimal_short}
use Rattle.transcript.proofs.PrintLaws.{line_after_lem}

pub length_last : (w : List ℕ) → length (line (w ∷ [])) ≡ length w + 1
length_last w = length-append w (10 ∷ [])

pub length_more : (w v : List ℕ) (l : List (List ℕ)) → length (line (w ∷ v ∷ l)) ≡ length w + 1 + length (line (v ∷ l))
length_more w v l = let e = length-append w (32 ∷ line (v ∷ l)) in omega arith

pub length_after : (w : List ℕ) (l : List (List ℕ)) → length (line (w ∷ l)) ≡ length w + length (line_after l)
length_after w l = rw (line_after_lem w l) (length-append w (line_after l))

-- figures of a byte, of 4 and of 8 bytes
pub byte_short : (n : ℕ) → n < 256 → length (decimal n) ≤ 3
byte_short n h = decimal_short 2 n (omega arith)

pub short_4 : (n : ℕ) → n < 4294967296 → length (decimal n) ≤ 10
short_4 n h = decimal_short 9 n (omega arith)

pub short_8 : (n : ℕ) → n < 18446744073709551616 → length (decimal n) ≤ 20
short_8 n h = decimal_short 19 n (omega arith)

pub cond_short : (b : Bool) (x y : List ℕ) (k : ℕ) → length x ≤ k → length y ≤ k → length (cond b x y) ≤ k
cond_short true x y k h g = h
cond_short false x y k h g = g

line_short : (b : Bool) (v w : List (List ℕ)) (k : ℕ) → length (line v) ≤ k → length (line w) ≤ k → length (line (cond b v w)) ≤ k
line_short true v w k h g = h
line_short false v w k h g = g

after_short : (b : Bool) (v w : List (List ℕ)) (k : ℕ) → length (line_after v) ≤ k → length (line_after w) ≤ k → length (line_after (cond b v w)) ≤ k
after_short true v w k h g = h
after_short false v w k h g = g

pub first_short : (w : ℕ) → length (first_word w) ≤ 5
first_short w =
    cond_short (eqb w W.won) (ascii "won") _ 5 (omega arith)
    (cond_short (eqb w W.lost) (ascii "lost") _ 5 (omega arith)
    (cond_short (eqb w W.sent) (ascii "sent") _ 5 (omega arith)
    (cond_short (eqb w W.acked) (ascii "ack") _ 5 (omega arith)
    (cond_short (eqb w W.miss) (ascii "miss") _ 5 (omega arith)
    (cond_short (eqb w W.drop) (ascii "drop") _ 5 (omega arith)
    (cond_short (eqb w W.good) (ascii "good") _ 5 (omega arith)
    (cond_short (eqb w W.dcrc) (ascii "dcrc") _ 5 (omega arith)
    (cond_short (eqb w W.broad) (ascii "broad") (ascii "-") 5 (omega arith) (omega arith)))))))))

pub nodes_short : (n : ℕ) → n < 256 → length (nodes_line n) ≤ 64
unfolding nodes_line
nodes_short n h = let a = length_more (ascii "nodes") (decimal n) [] in let b = length_last (decimal n) in let d = byte_short n h in omega arith

pub done_short : (n : ℕ) → n < 18446744073709551616 → length (done_line n) ≤ 64
unfolding done_line
done_short n h = let a = length_more (ascii "done") (decimal n) [] in let b = length_last (decimal n) in let d = short_8 n h in omega arith

pub refused_short : (n k : ℕ) → n < 18446744073709551616 → k < 256 → length (refused_line n k) ≤ 64
unfolding refused_line
refused_short n k h g =
    let a = length_more (ascii "refused") (decimal n) (decimal k ∷ []) in
    let b = length_more (decimal n) (decimal k) [] in
    let c = length_last (decimal k) in
    let d = short_8 n h in
    let e = byte_short k g in
    omega arith

pub span_short : (n k : ℕ) → n < 18446744073709551616 → k < 4294967296 → length (span_line n k) ≤ 64
unfolding span_line
span_short n k h g =
    let b = length_more (decimal n) (decimal k) [] in
    let c = length_last (decimal k) in
    let d = short_8 n h in
    let e = short_4 k g in
    omega arith

pub cell_short : (e : Entry) (after : ℕ) → e.place < 256 → length (cell_text e ++ (after ∷ [])) ≤ 12
unfolding cell_text
cell_short e after h =
    let a = length-append (decimal e.place ++ (32 ∷ (first_word e.word ++ (32 ∷ flag e.pends ∷ [])))) (after ∷ []) in
    let b = length-append (decimal e.place) (32 ∷ (first_word e.word ++ (32 ∷ flag e.pends ∷ []))) in
    let c = length-append (first_word e.word) (32 ∷ flag e.pends ∷ []) in
    let d = byte_short e.place h in
    let f = first_short e.word in
    omega arith

address_short : (n : ℕ) → n < 256 → length (address_word n) ≤ 3
unfolding address_word
address_short n h = cond_short (eqb n everybody) (ascii "all") (decimal n) 3 (omega arith) (byte_short n h)

of_node_short : (w : List ℕ) (n : ℕ) → length w ≤ 9 → n < 256 → length (line (w ∷ decimal n ∷ [])) ≤ 64
of_node_short w n h g = let a = length_more w (decimal n) [] in let b = length_last (decimal n) in let c = byte_short n g in omega arith

labels_short : (n : ℕ) → n < 256 → length (line_after (label_words n)) ≤ 11
labels_short n h =
    after_short _ [] (ascii "label" ∷ decimal n ∷ []) 11 (omega arith) (let a = length_more (ascii "label") (decimal n) [] in let b = length_last (decimal n) in let c = byte_short n h in omega arith)

pub action_short : (a : Action) → a.node < 256 → a.address < 256 → a.ack < 256 → a.label < 256 → a.header < 4294967296 → a.datum < 4294967296 → length (action_line a) ≤ 64
unfolding action_line words_for
action_short a node_fits address_fits ack_fits label_fits header_fits datum_fits =
    let node = byte_short a.node node_fits in
    let address = address_short a.address address_fits in
    let ack = byte_short a.ack ack_fits in
    let header = short_4 a.header header_fits in
    let datum = short_4 a.datum datum_fits in
    let labels = labels_short a.label label_fits in
    let hold : length (line_after (hold_word a.hold)) ≤ 6 = after_short _ [] (ascii "hold" ∷ []) 6 (omega arith) (omega arith) in
    let change : length (line_after (change_word a.address)) ≤ 5 = after_short _ [] (address_word a.address ∷ []) 5 (omega arith) (let e = length_last (address_word a.address) in omega arith) in
    let request : length (line (request_words a)) ≤ 64 =
    let r₁ = length_more (ascii "request") (decimal a.node) (address_word a.address ∷ decimal a.header ∷ decimal a.datum ∷ label_words a.label) in
    let r₂ = length_more (decimal a.node) (address_word a.address) (decimal a.header ∷ decimal a.datum ∷ label_words a.label) in
    let r₃ = length_more (address_word a.address) (decimal a.header) (decimal a.datum ∷ label_words a.label) in
    let r₄ = length_more (decimal a.header) (decimal a.datum) (label_words a.label) in
    let r₅ = length_after (decimal a.datum) (label_words a.label) in
    omega arith in
    let respond : length (line (respond_words a)) ≤ 64 =
    let r₁ = length_more (ascii "respond") (decimal a.node) (decimal a.ack ∷ hold_word a.hold) in
    let r₂ = length_more (decimal a.node) (decimal a.ack) (hold_word a.hold) in
    let r₃ = length_after (decimal a.ack) (hold_word a.hold) in
    omega arith in
    let changed : length (line (ascii "change" ∷ change_word a.address)) ≤ 64 = let r = length_after (ascii "change") (change_word a.address) in omega arith in
    line_short (eqb a.kind 1) (request_words a) _ 64 request
    (line_short (eqb a.kind 2) (ascii "arbitrate" ∷ decimal a.node ∷ []) _ 64 (of_node_short (ascii "arbitrate") a.node (omega arith) node_fits)
    (line_short (eqb a.kind 3) (respond_words a) _ 64 respond
    (line_short (eqb a.kind 4) (ascii "clock" ∷ decimal a.node ∷ []) _ 64 (of_node_short (ascii "clock") a.node (omega arith) node_fits)
    (line_short (eqb a.kind 5) (ascii "pass" ∷ []) _ 64 (omega arith)
    (line_short (eqb a.kind 6) (ascii "lose" ∷ []) _ 64 (omega arith)
    (line_short (eqb a.kind 7) (ascii "change" ∷ change_word a.address) _ 64 changed
    (line_short (eqb a.kind 8) (ascii "grant" ∷ []) _ 64 (omega arith)
    (line_short (eqb a.kind 9) (ascii "gap" ∷ []) _ 64 (omega arith)
    (line_short (eqb a.kind 10) (ascii "reset" ∷ []) _ 64 (omega arith)
    (line_short (eqb a.kind 11) (ascii "ask" ∷ decimal a.node ∷ []) _ 64 (of_node_short (ascii "ask") a.node (omega arith) node_fits)
    (line_short (eqb a.kind 12) (ascii "decide" ∷ decimal a.node ∷ []) [] 64 (of_node_short (ascii "decide") a.node (omega arith) node_fits)
    (omega arith))))))))))))
