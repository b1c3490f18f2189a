-- The text printed for n and a list of actions means that n and that list. Assumes nothing.
use mathlib.Core.Path.{◌≡◌, refl, ap, ap₂, ◌∙◌}
use mathlib.Core.Bool.{Bool, true, false, cond}
use mathlib.Core.List.{List, [], ◌∷◌, ◌++◌, append_assoc, append-nil}
use Prim.Native.Nat.{ℕ, suc, ◌+◌, ◌<◌}
use native.Mathlib.Omega.{arith}
use borrow.Author.Tests.{ne_eqb, le-leb, ltb-true}
use lib.Dec.{eqb, ltb}
use lib.ListN.{length}
use Rattle.charts.specs.Valid.{is_size}
use Rattle.charts.specs.declared.Action.{Action}
use Rattle.charts.proofs.Tools.{and-true}
use Rattle.transcript.specs.Text.{ascii, decimal}
use Rattle.transcript.specs.Lines.{line, nodes_line}
use Rattle.transcript.proofs.Decimals.{decimal_short}
use Rattle.std.proofs.Common.{Some, Ok}
use Rattle.words.specs.declared.Name.TheVariants as N
use Rattle.words.specs.declared.Token.TheVariants.{Word, Number}
use Rattle.notation.specs.declared.Text.TheVariants.{Run}
use Rattle.notation.specs.declared.Line.TheVariants.{Nodes}
use Rattle.words.specs.Words.{token_of, name_of, digit_of}
use Rattle.fields.specs.Fields.{number_in}
use Rattle.notation.specs.Grammar.{said_by, named_of, nodes_of, last_of, line_of}
use Rattle.words.specs.Lines.{spaced}
use Rattle.transcript.specs.Printed.{address_word, words_for, action_line}
use Rattle.notation.specs.Reading.{nodes_stage}
use Rattle.notation.specs.Meaning.{run, lines_from, lines_of, mark_size, meaning_from, end_on, meaning_of, action_lines, text_of, Accepts, AllAccepted}
use Rattle.words.proofs.Spaced.{Plain, Good, good_by, AllGood, line_spaced}
use Rattle.words.proofs.Figures.{decimal_good, token_decimal}
use Rattle.notation.proofs.Said.{said_line}
use Rattle.notation.proofs.Actions.{line_back}

-- bytes without a newline
abbrev OneLine : List ℕ → Type 0
OneLine [] = Unit
OneLine (b ∷ l) = (eqb b 10 ≡ false) × OneLine l

line_then_lem : (l m : List ℕ) → OneLine l → OneLine m → OneLine (l ++ m)
line_then_lem [] m p q = q
line_then_lem (b ∷ l) m p q = (p.0, line_then_lem l m p.1 q)

plain_line : (w : List ℕ) → Plain w → OneLine w
plain_line [] p = tt
plain_line (b ∷ w) p = (p.1, plain_line w p.2)

spaced_line : (ws : List (List ℕ)) → AllGood ws → OneLine (spaced ws)
spaced_line [] g = tt
spaced_line (w ∷ []) g = plain_line w g.0.plain
spaced_line (w ∷ v ∷ l) g = line_then_lem w (32 ∷ spaced (v ∷ l)) (plain_line w g.0.plain) (refl, spaced_line (v ∷ l) g.1)

-- a line and the newline after it
first_line : (w v rest : List ℕ) → OneLine v → lines_from w (v ++ (10 ∷ rest)) ≡ (w ++ v) ∷ lines_from [] rest
first_line w [] rest p = rw append-nil
first_line w (b ∷ v) rest p =
    rw p.0 (first_line (w ++ (b ∷ [])) v rest p.1 ∙ rw append_assoc)

pub printed_line : (ws : List (List ℕ)) (rest : List ℕ) → AllGood ws → lines_of (line ws ++ rest) ≡ spaced ws ∷ lines_of rest
printed_line ws rest g = rw (line_spaced ws, append_assoc) (first_line [] (spaced ws) rest (spaced_line ws g))

-- the words of every action stand in a line
either : (b : Bool) (x y : List (List ℕ)) → AllGood x → AllGood y → AllGood (cond b x y)
either true x y p q = p
either false x y p q = q

address_good : (x : ℕ) → Good (address_word x)
unfolding address_word
address_good x = go (eqb x 63)
  where
    go : (b : Bool) → Good (cond b (ascii "all") (decimal x))
    go true = good_by _ _ refl
    go false = decimal_good x

words_good : (a : Action) → AllGood (words_for a)
unfolding words_for
words_good a =
    let k : ℕ = a.kind in
    let figure : (x : ℕ) → Good (decimal x) = decimal_good in
    either (eqb k 1) _ _ (good_by _ _ refl, (figure a.node, (address_good a.address, (figure a.header, (figure a.datum, either (eqb a.label 0) _ _ tt (good_by _ _ refl, (figure a.label, tt)))))))
    (either (eqb k 2) _ _ (good_by _ _ refl, (figure a.node, tt))
    (either (eqb k 3) _ _ (good_by _ _ refl, (figure a.node, (figure a.ack, either (eqb a.hold 0) _ _ tt (good_by _ _ refl, tt))))
    (either (eqb k 4) _ _ (good_by _ _ refl, (figure a.node, tt))
    (either (eqb k 5) _ _ (good_by _ _ refl, tt)
    (either (eqb k 6) _ _ (good_by _ _ refl, tt)
    (either (eqb k 7) _ _ (good_by _ _ refl, either (eqb a.address 0) _ _ tt (address_good a.address, tt))
    (either (eqb k 8) _ _ (good_by _ _ refl, tt)
    (either (eqb k 9) _ _ (good_by _ _ refl, tt)
    (either (eqb k 10) _ _ (good_by _ _ refl, tt)
    (either (eqb k 11) _ _ (good_by _ _ refl, (figure a.node, tt))
    (either (eqb k 12) _ _ (good_by _ _ refl, (figure a.node, tt)) tt)))))))))))

-- the lines of the actions
abbrev line_words : List Action → List (List ℕ)
line_words [] = []
line_words (a ∷ l) = spaced (words_for a) ∷ line_words l

lines_back : (l : List Action) → lines_of (action_lines l) ≡ line_words l
unfolding action_line
lines_back [] = refl
lines_back (a ∷ l) = printed_line (words_for a) (action_lines l) (words_good a) ∙ ap (λ (x : List (List ℕ)). spaced (words_for a) ∷ x) (lines_back l)

one_action : (n i : ℕ) (done : List Action) (a : Action) (ts : List (List ℕ)) → eqb n 0 ≡ false → Accepts n a
    → meaning_from (spaced (words_for a) ∷ ts) i n done ≡ meaning_from ts (suc i) n (done ++ (a ∷ []))
one_action n i done a ts h g = rw (line_back n a g.move g.fits g.reads, h, g.reads)

actions_back : (n i : ℕ) (done l : List Action) → eqb n 0 ≡ false → AllAccepted n l → meaning_from (line_words l) i n done ≡ end_on (i + length l) n (done ++ l)
actions_back n i done [] h g =
    let e : i + 0 ≡ i = omega arith in
    rw (e, append-nil)
actions_back n i done (a ∷ l) h g =
    let e : suc i + length l ≡ i + suc (length l) = omega arith in
    one_action n i done a (line_words l) h g.0
    ∙ (actions_back n (suc i) (done ++ (a ∷ [])) l h g.1
    ∙ ap₂ (λ (j : ℕ) (x : List Action). end_on j n x) e (append_assoc done (a ∷ []) l))

-- the `nodes` line
say_nodes : (n : ℕ) → n < 256 → said_by Run (Word (Some N.Nodes) ∷ Number n ∷ []) ≡ Ok (Nodes n)
unfolding said_by named_of nodes_of number_in last_of
say_nodes n h = rw (le-leb n 255 (omega arith))

token_nodes : token_of (ascii "nodes") ≡ Word (Some N.Nodes)
unfolding token_of name_of digit_of
token_nodes = refl

nodes_good : (n : ℕ) → AllGood (ascii "nodes" ∷ decimal n ∷ [])
nodes_good n = (good_by _ _ refl, (decimal_good n, tt))

nodes_back : (n : ℕ) → n < 256 → line_of Run (spaced (ascii "nodes" ∷ decimal n ∷ [])) ≡ Ok (Nodes n)
nodes_back n h =
    let short = decimal_short 2 n (omega arith) in
    said_line Run (ascii "nodes" ∷ decimal n ∷ []) (nodes_good n) (omega arith)
    ∙ rw (token_nodes, token_decimal n (omega arith)) (say_nodes n h)

-- for every n and every list of actions that the writer takes for it: their text means them
pub text_back : (n : ℕ) (a : Action) (l : List Action) → is_size n ≡ true → AllAccepted n (a ∷ l) → meaning_of (text_of n (a ∷ l)) ≡ run n (a ∷ l)
unfolding meaning_of mark_size text_of nodes_line nodes_stage
text_back n a l size g =
    let high = ltb-true n 64 ((and-true (ltb 1 n) _ size).1) in
    let low = ltb-true 1 n ((and-true (ltb 1 n) _ size).0) in
    let some : eqb n 0 ≡ false = ne_eqb n 0 (λ e. omega arith) in
    rw (printed_line (ascii "nodes" ∷ decimal n ∷ []) (action_lines (a ∷ l)) (nodes_good n), nodes_back n (omega arith), size, lines_back (a ∷ l))
    (actions_back n 1 [] (a ∷ l) some g ∙ rw (some, ne_eqb (suc (length l)) 0 (λ e. omega arith)))
