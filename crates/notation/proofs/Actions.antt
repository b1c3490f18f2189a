-- An action's printed line is read, in a run, as that action. Assumes nothing.
use mathlib.Core.Path.{◌≡◌, refl, ap, ◌∙◌}
use mathlib.Core.Bool.{Bool, true, false, cond, ◌&&◌, ◌||◌, not}
use mathlib.Core.List.{List, [], ◌∷◌}
use Prim.Native.Nat.{ℕ, zero, suc, ◌<◌, ◌≤◌}
use native.Mathlib.Omega.{arith}
use borrow.Author.Tests.{le-leb, eqb-true, eqb-false, ltb-true}
use lib.Dec.{eqb, ltb}
use lib.ListN.{length}
use Rattle.charts.specs.Signals.{everybody}
use Rattle.charts.specs.declared.Action.{Action}
use Rattle.charts.specs.declared.Move.{Move}
use Rattle.std.proofs.Common.{Some, Ok, Err}
use Rattle.charts.specs.declared.Kind.{Kind}
use Rattle.charts.specs.declared.Kind.TheVariants as K
use Rattle.charts.specs.declared.Refusal.TheVariants as R
use Rattle.charts.specs.Kinds.{kind_number}
use Rattle.words.specs.declared.Name.TheVariants as V
use Rattle.charts.specs.Records.{is_kind, names_node, names_address, names_answer, names_packet, clean, move_of, bad_node, bad_address, bad_label, requests_itself, read}
use Rattle.charts.specs.Layout.{Fits}
use Rattle.charts.proofs.Tools.{and-true}
use Rattle.transcript.specs.Text.{ascii, decimal}
use Rattle.transcript.proofs.Decimals.{decimal_short}
use Rattle.words.specs.declared.Token.{Token}
use Rattle.words.specs.declared.Token.TheVariants.{Word, Number}
use Rattle.notation.specs.declared.Text.TheVariants.{Run}
use Rattle.notation.specs.declared.Line.TheVariants.{Acts}
use Rattle.words.specs.Words.{token_of, name_of, digit_of}
use Rattle.fields.specs.Fields.{got, option_in, said_in, number_in, address_in, address_or_none}
use Rattle.notation.specs.Grammar.{record_of, ending_of, request_of, node_of, respond_of, change_of, action_of, named_of, said_by, line_of}
use Rattle.words.specs.Lines.{spaced}
use Rattle.transcript.specs.Printed.{address_word, label_words, hold_word, change_word, words_for}
use Rattle.words.proofs.Spaced.{Good, good_by}
use Rattle.words.proofs.Figures.{decimal_good, token_decimal}
use Rattle.notation.proofs.Said.{said_line}

-- a record is told by its fields
same_action : (a : Action) (kind node address ack hold label b6 b7 header datum : ℕ)
    → a.kind ≡ kind → a.node ≡ node → a.address ≡ address → a.ack ≡ ack → a.hold ≡ hold → a.label ≡ label → a.byte6 ≡ b6 → a.byte7 ≡ b7
    → a.header ≡ header → a.datum ≡ datum
    → record { kind = kind; node = node; address = address; ack = ack; hold = hold; label = label; byte6 = b6; byte7 = b7; header = header; datum = datum } ≡ a
same_action a kind node address ack hold label b6 b7 header datum e1 e2 e3 e4 e5 e6 e7 e8 e9 e10 =
    rw (← e1, ← e2, ← e3, ← e4, ← e5, ← e6, ← e7, ← e8, ← e9, ← e10)

-- what an accepted record has shown
record Shown (a : Action) : Type 0 where
  kind : is_kind a.kind ≡ true
  clear : clean a ≡ true
  answer : (ltb a.ack 16 && ltb a.hold 2) ≡ true

shown : (n : ℕ) (a : Action) (m : Move) → read n a ≡ Ok m → Shown a
unfolding read
shown n a m h =
    go (is_kind a.kind) (clean a) (bad_node n a) (bad_address n a) (bad_label a) (requests_itself a) (ltb a.ack 16 && ltb a.hold 2) refl refl refl h
  where
    go : (p q r s u o t : Bool) → is_kind a.kind ≡ p → clean a ≡ q → (ltb a.ack 16 && ltb a.hold 2) ≡ t
        → cond (not p) (Err R.WrongKind) (cond (not q) (Err R.StrayField) (cond r (Err R.WrongNode) (cond s (Err R.WrongAddress)
        (cond u (Err R.WrongLabel) (cond o (Err R.ToItself) (cond (not t) (Err R.WrongAnswer) (Ok (move_of a)))))))) ≡ Ok m
        → Shown a
    go true true false false false false true ep eq et e = record { kind = ep; clear = eq; answer = et }
    go true true false false false false false ep eq et e = absurd (let z : ◌≡◌ {A = ℕ} 0 1 = cc in omega arith)
    go true true false false false true t ep eq et e = absurd (let z : ◌≡◌ {A = ℕ} 0 1 = cc in omega arith)
    go true true false false true o t ep eq et e = absurd (let z : ◌≡◌ {A = ℕ} 0 1 = cc in omega arith)
    go true true false true u o t ep eq et e = absurd (let z : ◌≡◌ {A = ℕ} 0 1 = cc in omega arith)
    go true true true s u o t ep eq et e = absurd (let z : ◌≡◌ {A = ℕ} 0 1 = cc in omega arith)
    go true false r s u o t ep eq et e = absurd (let z : ◌≡◌ {A = ℕ} 0 1 = cc in omega arith)
    go false q r s u o t ep eq et e = absurd (let z : ◌≡◌ {A = ℕ} 0 1 = cc in omega arith)

named_or : (b p : Bool) → (b || p) ≡ true → b ≡ false → p ≡ true
named_or true p h e = absurd (let z : ◌≡◌ {A = ℕ} 0 1 = cc in omega arith)
named_or false p h e = h

-- the fields that a clean record's kind doesn't name are 0
record Zeros (a : Action) : Type 0 where
  six : a.byte6 ≡ 0
  seven : a.byte7 ≡ 0
  node : names_node a.kind ≡ false → a.node ≡ 0
  address : names_address a.kind ≡ false → a.address ≡ 0
  ack : names_answer a.kind ≡ false → a.ack ≡ 0
  hold : names_answer a.kind ≡ false → a.hold ≡ 0
  label : names_packet a.kind ≡ false → a.label ≡ 0
  header : names_packet a.kind ≡ false → a.header ≡ 0
  datum : names_packet a.kind ≡ false → a.datum ≡ 0

zeros : (a : Action) → clean a ≡ true → Zeros a
unfolding clean
zeros a h =
    let k : ℕ = a.kind in
    let r6 = (and-true (eqb a.byte6 0) _ h).1 in
    let r7 = (and-true (eqb a.byte7 0) _ r6).1 in
    let rn = (and-true (names_node k || eqb a.node 0) _ r7).1 in
    let ra = (and-true (names_address k || eqb a.address 0) _ rn).1 in
    let answer = named_or (names_answer k) (eqb a.ack 0 && eqb a.hold 0) ((and-true (names_answer k || (eqb a.ack 0 && eqb a.hold 0)) _ ra).0) in
    let packet = named_or (names_packet k) (eqb a.label 0 && (eqb a.header 0 && eqb a.datum 0)) ((and-true (names_answer k || (eqb a.ack 0 && eqb a.hold 0)) _ ra).1) in
    record {
      six = eqb-true a.byte6 0 ((and-true (eqb a.byte6 0) _ h).0);
      seven = eqb-true a.byte7 0 ((and-true (eqb a.byte7 0) _ r6).0);
      node = λ e. eqb-true a.node 0 (named_or (names_node k) _ ((and-true (names_node k || eqb a.node 0) _ r7).0) e);
      address = λ e. eqb-true a.address 0 (named_or (names_address k) _ ((and-true (names_address k || eqb a.address 0) _ rn).0) e);
      ack = λ e. eqb-true a.ack 0 ((and-true (eqb a.ack 0) _ (answer e)).0);
      hold = λ e. eqb-true a.hold 0 ((and-true (eqb a.ack 0) _ (answer e)).1);
      label = λ e. eqb-true a.label 0 ((and-true (eqb a.label 0) _ (packet e)).0);
      header = λ e. eqb-true a.header 0 ((and-true (eqb a.header 0) _ ((and-true (eqb a.label 0) _ (packet e)).1)).0);
      datum = λ e. eqb-true a.datum 0 ((and-true (eqb a.header 0) _ ((and-true (eqb a.label 0) _ (packet e)).1)).1);
    }

-- the names as they are read
token_request : token_of (ascii "request") ≡ Word (Some (V.Kind K.Request))
unfolding token_of name_of digit_of
token_request = refl

token_respond : token_of (ascii "respond") ≡ Word (Some (V.Kind K.Respond))
unfolding token_of name_of digit_of
token_respond = refl

token_change : token_of (ascii "change") ≡ Word (Some (V.Kind K.Change))
unfolding token_of name_of digit_of
token_change = refl

token_nodes : token_of (ascii "nodes") ≡ Word (Some V.Nodes)
unfolding token_of name_of digit_of
token_nodes = refl

token_all : token_of (ascii "all") ≡ Word (Some V.All)
unfolding token_of name_of digit_of
token_all = refl

token_hold : token_of (ascii "hold") ≡ Word (Some V.Hold)
unfolding token_of name_of digit_of
token_hold = refl

token_label : token_of (ascii "label") ≡ Word (Some V.Label)
unfolding token_of name_of digit_of
token_label = refl

-- an address as it is printed and read
record Address (x : ℕ) (w : List ℕ) : Type 0 where
  good : Good w
  short : length w ≤ 3
  token : token_of w ≡ cond (eqb x everybody) (Word (Some V.All)) (Number x)

address_word_lem : (x : ℕ) → x < 256 → Address x (address_word x)
unfolding address_word
address_word_lem x h = go (eqb x everybody) refl
  where
    go : (b : Bool) → eqb x everybody ≡ b → Address x (cond b (ascii "all") (decimal x))
    go true e = record { good = good_by _ _ refl; short = omega arith; token = rw e token_all }
    go false e = record { good = decimal_good x; short = decimal_short 2 x (omega arith); token = rw e (token_decimal x (omega arith)) }

-- what the words of each form say; the label of a request is what l, the words after its data, say
say_request : (node address label header datum : ℕ) (l : List Token) → node < 256 → address < 256 → header < 4294967296 → datum < 4294967296 → said_in V.Label l ≡ got label []
    → said_by Run (Word (Some (V.Kind K.Request)) ∷ Number node ∷ cond (eqb address everybody) (Word (Some V.All)) (Number address) ∷ Number header ∷ Number datum ∷ l)
    ≡ Ok (Acts (record_of 1 node address 0 0 label header datum) 1)
unfolding said_by named_of action_of request_of number_in address_in ending_of
say_request node address label header datum l p q r s t = go (eqb address everybody) refl
  where
    go : (b : Bool) → eqb address everybody ≡ b
        → said_by Run (Word (Some (V.Kind K.Request)) ∷ Number node ∷ cond b (Word (Some V.All)) (Number address) ∷ Number header ∷ Number datum ∷ l) ≡ Ok (Acts (record_of 1 node address 0 0 label header datum) 1)
    go true e =
        let n1 = le-leb node 255 (omega arith) in
        let n3 = le-leb header 4294967295 (omega arith) in
        let n4 = le-leb datum 4294967295 (omega arith) in
        rw (eqb-true address everybody e, n1, n3, n4, t)
    go false e =
        let n1 = le-leb node 255 (omega arith) in
        let n2 = le-leb address 255 (omega arith) in
        let n3 = le-leb header 4294967295 (omega arith) in
        let n4 = le-leb datum 4294967295 (omega arith) in
        rw (n1, n2, n3, n4, t)

no_label : said_in V.Label [] ≡ got 0 []
unfolding option_in
no_label = refl

say_label : (label : ℕ) → label < 256 → said_in V.Label (Word (Some V.Label) ∷ Number label ∷ []) ≡ got label []
unfolding option_in number_in
say_label label p = rw (le-leb label 255 (omega arith))

say_respond : (node ack : ℕ) → node < 256 → ack < 256 → said_by Run (Word (Some (V.Kind K.Respond)) ∷ Number node ∷ Number ack ∷ []) ≡ Ok (Acts (record_of 3 node 0 ack 0 0 0 0) 1)
unfolding said_by named_of action_of respond_of number_in option_in ending_of
say_respond node ack p q = rw (le-leb node 255 (omega arith), le-leb ack 255 (omega arith))

say_hold : (node ack : ℕ) → node < 256 → ack < 256 → said_by Run (Word (Some (V.Kind K.Respond)) ∷ Number node ∷ Number ack ∷ Word (Some V.Hold) ∷ []) ≡ Ok (Acts (record_of 3 node 0 ack 1 0 0 0) 1)
unfolding said_by named_of action_of respond_of number_in option_in ending_of
say_hold node ack p q = rw (le-leb node 255 (omega arith), le-leb ack 255 (omega arith))

say_change : (address : ℕ) → address < 256
    → said_by Run (Word (Some (V.Kind K.Change)) ∷ cond (eqb address everybody) (Word (Some V.All)) (Number address) ∷ []) ≡ Ok (Acts (record_of 7 0 address 0 0 0 0 0) 1)
unfolding said_by named_of action_of change_of address_or_none ending_of
say_change address p = go (eqb address everybody) refl
  where
    go : (b : Bool) → eqb address everybody ≡ b → said_by Run (Word (Some (V.Kind K.Change)) ∷ cond b (Word (Some V.All)) (Number address) ∷ []) ≡ Ok (Acts (record_of 7 0 address 0 0 0 0 0) 1)
    go true e = rw (eqb-true address everybody e)
    go false e = rw (le-leb address 255 (omega arith))

bare_change : said_by Run (Word (Some (V.Kind K.Change)) ∷ []) ≡ Ok (Acts (record_of 7 0 0 0 0 0 0 0) 1)
unfolding said_by named_of action_of change_of address_or_none ending_of
bare_change = refl

-- a kind's record, where the other fields are 0
module _ (a : Action) (f : Fits a) (s : Shown a) where
  z : Zeros a
  z = zeros a s.clear

  -- "`pass`, `lose`, […] `grant`, `gap`, `reset`"
  bare : (j : Kind) (w : List ℕ) → a.kind ≡ kind_number j → words_for a ≡ w ∷ [] → Good w → length w ≤ 9 → token_of w ≡ Word (Some (V.Kind j))
      → said_by Run (Word (Some (V.Kind j)) ∷ []) ≡ Ok (Acts (record_of (kind_number j) 0 0 0 0 0 0 0) 1)
      → names_node (kind_number j) ≡ false → names_address (kind_number j) ≡ false → names_answer (kind_number j) ≡ false → names_packet (kind_number j) ≡ false → line_of Run (spaced (words_for a)) ≡ Ok (Acts a 1)
  bare j w e words good short token says nn na nk np =
      rw words
      (said_line Run (w ∷ []) (good, tt) (omega arith)
      ∙ (rw token says
      ∙ ap (λ (x : Action). Ok (Acts x 1))
      (same_action a (kind_number j) 0 0 0 0 0 0 0 0 0 e (z.node (rw e nn)) (z.address (rw e na)) (z.ack (rw e nk)) (z.hold (rw e nk)) (z.label (rw e np)) z.six z.seven
      (z.header (rw e np)) (z.datum (rw e np)))))

  -- "`arbitrate 0`", "`clock 0`"; "`ask NODE`", "`decide NODE`"
  of_node : (j : Kind) (w : List ℕ) → a.kind ≡ kind_number j → words_for a ≡ w ∷ decimal a.node ∷ [] → Good w → length w ≤ 9 → token_of w ≡ Word (Some (V.Kind j))
      → said_by Run (Word (Some (V.Kind j)) ∷ Number a.node ∷ []) ≡ Ok (Acts (record_of (kind_number j) a.node 0 0 0 0 0 0) 1)
      → names_address (kind_number j) ≡ false → names_answer (kind_number j) ≡ false → names_packet (kind_number j) ≡ false → line_of Run (spaced (words_for a)) ≡ Ok (Acts a 1)
  of_node j w e words good short token says na nk np =
      let small = f.node_fits in
      let few = decimal_short 2 a.node (omega arith) in
      rw words
      (said_line Run (w ∷ decimal a.node ∷ []) (good, (decimal_good a.node, tt)) (omega arith)
      ∙ (rw (token, token_decimal a.node (omega arith)) says
      ∙ ap (λ (x : Action). Ok (Acts x 1))
      (same_action a (kind_number j) a.node 0 0 0 0 0 0 0 0 e refl (z.address (rw e na)) (z.ack (rw e nk)) (z.hold (rw e nk)) (z.label (rw e np)) z.six z.seven
      (z.header (rw e np)) (z.datum (rw e np)))))

  request_words_lem : a.kind ≡ 1
      → words_for a ≡ ascii "request" ∷ decimal a.node ∷ address_word a.address ∷ decimal a.header ∷ decimal a.datum ∷ label_words a.label
  unfolding words_for
  request_words_lem e = rw e

  request : a.kind ≡ 1 → line_of Run (spaced (words_for a)) ≡ Ok (Acts a 1)
  request e = rw (request_words_lem e) (go (eqb a.label 0) refl)
    where
      to : Address a.address (address_word a.address)
      to = address_word_lem a.address f.address_fits

      whole : (label : ℕ) → a.label ≡ label → record_of 1 a.node a.address 0 0 label a.header a.datum ≡ a
      whole label h = same_action a 1 a.node a.address 0 0 label 0 0 a.header a.datum e refl refl (z.ack (rw e)) (z.hold (rw e)) h z.six z.seven refl refl

      go : (b : Bool) → eqb a.label 0 ≡ b
          → line_of Run (spaced (ascii "request" ∷ decimal a.node ∷ address_word a.address ∷ decimal a.header ∷ decimal a.datum ∷ cond b [] (ascii "label" ∷ decimal a.label ∷ []))) ≡ Ok (Acts a 1)
      go true h =
          let sn = f.node_fits in
          let sh = f.header_fits in
          let sd = f.datum_fits in
          let at = to.short in
          let l1 = decimal_short 2 a.node (omega arith) in
          let l2 = decimal_short 9 a.header (omega arith) in
          let l3 = decimal_short 9 a.datum (omega arith) in
          said_line Run (ascii "request" ∷ decimal a.node ∷ address_word a.address ∷ decimal a.header ∷ decimal a.datum ∷ [])
          (good_by _ _ refl, (decimal_good a.node, (to.good, (decimal_good a.header, (decimal_good a.datum, tt))))) (omega arith)
          ∙ (rw (token_request, token_decimal a.node (omega arith), to.token, token_decimal a.header sh, token_decimal a.datum sd)
          (say_request a.node a.address 0 a.header a.datum [] sn f.address_fits sh sd no_label)
          ∙ ap (λ (x : Action). Ok (Acts x 1)) (whole 0 (eqb-true a.label 0 h)))
      go false h =
          let sn = f.node_fits in
          let sh = f.header_fits in
          let sd = f.datum_fits in
          let sl = f.label_fits in
          let at = to.short in
          let l1 = decimal_short 2 a.node (omega arith) in
          let l2 = decimal_short 9 a.header (omega arith) in
          let l3 = decimal_short 9 a.datum (omega arith) in
          let l4 = decimal_short 2 a.label (omega arith) in
          said_line Run (ascii "request" ∷ decimal a.node ∷ address_word a.address ∷ decimal a.header ∷ decimal a.datum ∷ ascii "label" ∷ decimal a.label ∷ [])
          (good_by _ _ refl, (decimal_good a.node, (to.good, (decimal_good a.header, (decimal_good a.datum, (good_by _ _ refl, (decimal_good a.label, tt))))))) (omega arith)
          ∙ (rw (token_request, token_decimal a.node (omega arith), to.token, token_decimal a.header sh, token_decimal a.datum sd, token_label, token_decimal a.label (omega arith))
          (say_request a.node a.address a.label a.header a.datum _ sn f.address_fits sh sd (say_label a.label sl))
          ∙ ap (λ (x : Action). Ok (Acts x 1)) (whole a.label refl))

  respond_words_lem : a.kind ≡ 3 → words_for a ≡ ascii "respond" ∷ decimal a.node ∷ decimal a.ack ∷ hold_word a.hold
  unfolding words_for
  respond_words_lem e = rw e

  respond : a.kind ≡ 3 → line_of Run (spaced (words_for a)) ≡ Ok (Acts a 1)
  respond e = rw (respond_words_lem e) (go (eqb a.hold 0) refl)
    where
      sn : a.node < 256
      sn = f.node_fits

      sk : a.ack < 256
      sk = f.ack_fits

      held : a.hold < 2
      held = ltb-true a.hold 2 ((and-true (ltb a.ack 16) _ s.answer).1)

      go : (b : Bool) → eqb a.hold 0 ≡ b
          → line_of Run (spaced (ascii "respond" ∷ decimal a.node ∷ decimal a.ack ∷ cond b [] (ascii "hold" ∷ []))) ≡ Ok (Acts a 1)
      go true h =
          let hn = sn in
          let hk = sk in
          let l1 = decimal_short 2 a.node (omega arith) in
          let l2 = decimal_short 2 a.ack (omega arith) in
          said_line Run (ascii "respond" ∷ decimal a.node ∷ decimal a.ack ∷ []) (good_by _ _ refl, (decimal_good a.node, (decimal_good a.ack, tt))) (omega arith)
          ∙ (rw (token_respond, token_decimal a.node (omega arith), token_decimal a.ack (omega arith)) (say_respond a.node a.ack sn sk)
          ∙ ap (λ (x : Action). Ok (Acts x 1))
          (same_action a 3 a.node 0 a.ack 0 0 0 0 0 0 e refl (z.address (rw e)) refl (eqb-true a.hold 0 h) (z.label (rw e)) z.six z.seven
          (z.header (rw e)) (z.datum (rw e))))
      go false h =
          let hn = sn in
          let hk = sk in
          let l1 = decimal_short 2 a.node (omega arith) in
          let l2 = decimal_short 2 a.ack (omega arith) in
          let some = eqb-false a.hold 0 h in
          let few = held in
          let one : a.hold ≡ 1 = omega arith in
          said_line Run (ascii "respond" ∷ decimal a.node ∷ decimal a.ack ∷ ascii "hold" ∷ [])
          (good_by _ _ refl, (decimal_good a.node, (decimal_good a.ack, (good_by _ _ refl, tt)))) (omega arith)
          ∙ (rw (token_respond, token_decimal a.node (omega arith), token_decimal a.ack (omega arith), token_hold) (say_hold a.node a.ack sn sk)
          ∙ ap (λ (x : Action). Ok (Acts x 1))
          (same_action a 3 a.node 0 a.ack 1 0 0 0 0 0 e refl (z.address (rw e)) refl one (z.label (rw e)) z.six z.seven (z.header (rw e)) (z.datum (rw e))))

  change_words : a.kind ≡ 7 → words_for a ≡ ascii "change" ∷ change_word a.address
  unfolding words_for
  change_words e = rw e

  change : a.kind ≡ 7 → line_of Run (spaced (words_for a)) ≡ Ok (Acts a 1)
  change e = rw (change_words e) (go (eqb a.address 0) refl)
    where
      whole : (x : ℕ) → a.address ≡ x → record_of 7 0 x 0 0 0 0 0 ≡ a
      whole x h =
          same_action a 7 0 x 0 0 0 0 0 0 0 e (z.node (rw e)) h (z.ack (rw e)) (z.hold (rw e)) (z.label (rw e)) z.six z.seven (z.header (rw e)) (z.datum (rw e))

      go : (b : Bool) → eqb a.address 0 ≡ b → line_of Run (spaced (ascii "change" ∷ cond b [] (address_word a.address ∷ []))) ≡ Ok (Acts a 1)
      go true h =
          said_line Run (ascii "change" ∷ []) (good_by _ _ refl, tt) (omega arith)
          ∙ (rw token_change bare_change ∙ ap (λ (x : Action). Ok (Acts x 1)) (whole 0 (eqb-true a.address 0 h)))
      go false h =
          let to = address_word_lem a.address f.address_fits in
          let short = to.short in
          said_line Run (ascii "change" ∷ address_word a.address ∷ []) (good_by _ _ refl, (to.good, tt)) (omega arith)
          ∙ (rw (token_change, to.token) (say_change a.address f.address_fits) ∙ ap (λ (x : Action). Ok (Acts x 1)) (whole a.address refl))

-- a property of the twelve kinds
twelve : (P : ℕ → Type 0) → P 1 → P 2 → P 3 → P 4 → P 5 → P 6 → P 7 → P 8 → P 9 → P 10 → P 11 → P 12 → (k : ℕ) → is_kind k ≡ true → P k
twelve P p1 p2 p3 p4 p5 p6 p7 p8 p9 p10 p11 p12 zero h = absurd (let z : ◌≡◌ {A = ℕ} 0 1 = cc in omega arith)
twelve P p1 p2 p3 p4 p5 p6 p7 p8 p9 p10 p11 p12 (suc zero) h = p1
twelve P p1 p2 p3 p4 p5 p6 p7 p8 p9 p10 p11 p12 (suc (suc zero)) h = p2
twelve P p1 p2 p3 p4 p5 p6 p7 p8 p9 p10 p11 p12 (suc (suc (suc zero))) h = p3
twelve P p1 p2 p3 p4 p5 p6 p7 p8 p9 p10 p11 p12 (suc (suc (suc (suc zero)))) h = p4
twelve P p1 p2 p3 p4 p5 p6 p7 p8 p9 p10 p11 p12 (suc (suc (suc (suc (suc zero))))) h = p5
twelve P p1 p2 p3 p4 p5 p6 p7 p8 p9 p10 p11 p12 (suc (suc (suc (suc (suc (suc zero)))))) h = p6
twelve P p1 p2 p3 p4 p5 p6 p7 p8 p9 p10 p11 p12 (suc (suc (suc (suc (suc (suc (suc zero))))))) h = p7
twelve P p1 p2 p3 p4 p5 p6 p7 p8 p9 p10 p11 p12 (suc (suc (suc (suc (suc (suc (suc (suc zero)))))))) h = p8
twelve P p1 p2 p3 p4 p5 p6 p7 p8 p9 p10 p11 p12 (suc (suc (suc (suc (suc (suc (suc (suc (suc zero))))))))) h = p9
twelve P p1 p2 p3 p4 p5 p6 p7 p8 p9 p10 p11 p12 (suc (suc (suc (suc (suc (suc (suc (suc (suc (suc zero)))))))))) h = p10
twelve P p1 p2 p3 p4 p5 p6 p7 p8 p9 p10 p11 p12 (suc (suc (suc (suc (suc (suc (suc (suc (suc (suc (suc zero))))))))))) h = p11
twelve P p1 p2 p3 p4 p5 p6 p7 p8 p9 p10 p11 p12 (suc (suc (suc (suc (suc (suc (suc (suc (suc (suc (suc (suc zero)))))))))))) h = p12
twelve P p1 p2 p3 p4 p5 p6 p7 p8 p9 p10 p11 p12 (suc (suc (suc (suc (suc (suc (suc (suc (suc (suc (suc (suc (suc k))))))))))))) h =
    absurd (let small = ltb-true (suc (suc (suc (suc (suc (suc (suc (suc (suc (suc (suc (suc (suc k))))))))))))) 13 ((and-true (ltb 0 (suc (suc (suc (suc (suc (suc (suc (suc (suc (suc (suc (suc (suc k)))))))))))))) _ h).1) in omega arith)

-- for every action record that the writer takes for some n, its printed line says that action, once
pub line_back : (n : ℕ) (a : Action) (m : Move) → Fits a → read n a ≡ Ok m → line_of Run (spaced (words_for a)) ≡ Ok (Acts a 1)
unfolding words_for said_by named_of action_of node_of number_in ending_of token_of name_of digit_of
line_back n a m f h =
    let s = shown n a m h in
    let small = f.node_fits in
    let fits = le-leb a.node 255 (omega arith) in
    twelve (λ (k : ℕ). a.kind ≡ k → line_of Run (spaced (words_for a)) ≡ Ok (Acts a 1))
    (request a f s)
    (λ e. of_node a f s K.Arbitrate (ascii "arbitrate") e (rw e) (good_by _ _ refl) (omega arith) refl (rw fits) refl refl refl)
    (respond a f s)
    (λ e. of_node a f s K.Clock (ascii "clock") e (rw e) (good_by _ _ refl) (omega arith) refl (rw fits) refl refl refl)
    (λ e. bare a f s K.Pass (ascii "pass") e (rw e) (good_by _ _ refl) (omega arith) refl refl refl refl refl refl)
    (λ e. bare a f s K.Lose (ascii "lose") e (rw e) (good_by _ _ refl) (omega arith) refl refl refl refl refl refl)
    (change a f s)
    (λ e. bare a f s K.Grant (ascii "grant") e (rw e) (good_by _ _ refl) (omega arith) refl refl refl refl refl refl)
    (λ e. bare a f s K.Gap (ascii "gap") e (rw e) (good_by _ _ refl) (omega arith) refl refl refl refl refl refl)
    (λ e. bare a f s K.Reset (ascii "reset") e (rw e) (good_by _ _ refl) (omega arith) refl refl refl refl refl refl)
    (λ e. of_node a f s K.Ask (ascii "ask") e (rw e) (good_by _ _ refl) (omega arith) refl (rw fits) refl refl refl)
    (λ e. of_node a f s K.Decide (ascii "decide") e (rw e) (good_by _ _ refl) (omega arith) refl (rw fits) refl refl refl)
    a.kind s.kind refl
