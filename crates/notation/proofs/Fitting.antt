-- The fields of an action that a line says are in the ranges of their bytes. Assumes nothing.
use mathlib.Core.Path.{◌≡◌, refl}
use mathlib.Core.Bool.{Bool, true, false, cond}
use mathlib.Core.List.{List, [], ◌∷◌}
use Prim.Native.Nat.{ℕ, ◌<◌, ◌≤◌}
use native.Mathlib.Omega.{arith}
use borrow.Author.Tests.{leb-true}
use lib.Dec.{eqb, ltb, leb}
use lib.ListN.{length}
use Rattle.charts.specs.declared.Action.{Action}
use Rattle.charts.specs.Layout.{Fits}
use Rattle.std.proofs.Common.{Result, Ok, Err, Some, None}
use Rattle.charts.specs.declared.Kind.{Kind}
use Rattle.charts.specs.declared.Kind.TheVariants as K
use Rattle.charts.specs.declared.Word as Report
use Rattle.charts.specs.Kinds.{kind_number}
use Rattle.faults.specs.declared.Fault.{Fault}
use Rattle.faults.specs.declared.Fault.TheVariants.{TooLarge, ExtraField, NoRepeat, LongLine}
use Rattle.notation.specs.declared.Text.{Text}
use Rattle.notation.specs.declared.Text.TheVariants.{Run, Settings, Question}
use Rattle.notation.specs.declared.Line.{Line}
use Rattle.notation.specs.declared.Line.TheVariants.{Blank, Nodes, Acts, Actions, Finds}
use Rattle.notation.specs.declared.Line.TheVariants as L
use Rattle.words.specs.declared.Token.{Token}
use Rattle.words.specs.declared.Token.TheVariants.{Word, Number, Large}
use Rattle.words.specs.Words.{tokens_of}
use Rattle.words.specs.declared.Name.{Name}
use Rattle.words.specs.declared.Name.TheVariants as N
use Rattle.fields.specs.Fields.{Part, got, bad, is_word, byte, long, numeral, number_in, address_at, address_in, address_or_none, option_in, said_in, to_in, hold_in, short, report_in, depth_in}
use Rattle.notation.specs.Grammar.{after, last_of, times_of, repeat_of, ending_of, record_of, request_of, node_of, respond_of, change_of, action_of, nodes_then, nodes_of, actions_then, actions_of, user_of, find_of, named_of, said_by, line_of}

abbrev pub Fitting : Result Line Fault → Type 0
Fitting (Ok Blank) = Unit
Fitting (Ok (Nodes n)) = Unit
Fitting (Ok (Acts a k)) = Fits a
Fitting (Ok (Actions n)) = Unit
Fitting (Ok (L.User i u)) = Unit
Fitting (Ok (Finds q d)) = Unit
Fitting (Err f) = Unit

either : (b : Bool) (x y : Result Line Fault) → (b ≡ true → Fitting x) → Fitting y → Fitting (cond b x y)
either true x y p q = p refl
either false x y p q = q

-- a field's value, if there is one
abbrev AtMost : ℕ → Part ℕ → Type 0
AtMost most (got x l) = x ≤ most
AtMost most (bad f) = Unit

either_field : (most : ℕ) (b : Bool) (p q : Part ℕ) → (b ≡ true → AtMost most p) → AtMost most q → AtMost most (cond b p q)
either_field most true p q f g = f refl
either_field most false p q f g = g

then_fitting : (most : ℕ) (p : Part ℕ) (next : ℕ → List Token → Result Line Fault) → AtMost most p → ((x : ℕ) (l : List Token) → x ≤ most → Fitting (next x l)) → Fitting (after p next)
then_fitting most (got x l) next h g = g x l h
then_fitting most (bad f) next h g = tt

numeral_most : (most : ℕ) (t : Token) (l : List Token) → AtMost most (numeral most t l)
numeral_most most (Word k) l = tt
numeral_most most (Number x) l = either_field most (leb x most) (got x l) (bad TooLarge) (λ e. leb-true x most e) tt
numeral_most most Large l = tt

number_most : (most : ℕ) (l : List Token) → AtMost most (number_in most l)
unfolding number_in
number_most most [] = tt
number_most most (t ∷ l) = numeral_most most t l

address_at_lem : (t : Token) (l : List Token) → AtMost byte (address_at t l)
address_at_lem t l = either_field byte (is_word N.All t) _ _ (λ e. omega arith) (numeral_most byte t l)

address_most : (l : List Token) → AtMost byte (address_in l)
unfolding address_in
address_most [] = tt
address_most (t ∷ l) = address_at_lem t l

none_most : (l : List Token) → AtMost byte (address_or_none l)
unfolding address_or_none
none_most [] = omega arith
none_most (t ∷ l) = either_field byte (is_word N.Times t) _ _ (λ e. omega arith) (address_at_lem t l)

option_most : (k : Name) (value : List Token → Part ℕ) (l : List Token) → ((m : List Token) → AtMost byte (value m)) → AtMost byte (option_in k value l)
unfolding option_in
option_most k value [] h = omega arith
option_most k value (t ∷ l) h = either_field byte (is_word k t) _ _ (λ e. h l) (omega arith)

-- the end of an action's line
last_fitting : (r : Line) (l : List Token) → Fitting (Ok r) → Fitting (last_of r l)
unfolding last_of
last_fitting r [] f = f
last_fitting r (t ∷ l) f = tt

repeat_fitting : (a : Action) (l : List Token) → Fits a → Fitting (repeat_of a l)
unfolding repeat_of
repeat_fitting a l f =
    then_fitting long (number_in long l) (times_of a) (number_most long l) (λ k m h. either (eqb k 0) (Err NoRepeat) (last_of (Acts a k) m) (λ e. tt) (last_fitting (Acts a k) m f))

ending_fitting : (a : Action) (l : List Token) → Fits a → Fitting (ending_of a l)
unfolding ending_of
ending_fitting a [] f = f
ending_fitting a (t ∷ l) f = either (is_word N.Times t) (repeat_of a l) (Err ExtraField) (λ e. repeat_fitting a l f) tt

record_fits : (kind node address ack hold label header datum : ℕ) → kind < 256 → node ≤ byte → address ≤ byte → ack ≤ byte → hold ≤ byte → label ≤ byte → header ≤ long → datum ≤ long
    → Fits (record_of kind node address ack hold label header datum)
record_fits kind node address ack hold label header datum k n a c h y x d = record {
  kind_fits = k;
  node_fits = omega arith;
  address_fits = omega arith;
  ack_fits = omega arith;
  hold_fits = omega arith;
  label_fits = omega arith;
  byte6_fits = omega arith;
  byte7_fits = omega arith;
  header_fits = omega arith;
  datum_fits = omega arith;
}

request_fitting : (l : List Token) → Fitting (request_of l)
unfolding request_of
request_fitting l =
    then_fitting byte (number_in byte l) _ (number_most byte l) λ node l1 n.
    then_fitting byte (address_in l1) _ (address_most l1) λ address l2 a.
    then_fitting long (number_in long l2) _ (number_most long l2) λ header l3 x.
    then_fitting long (number_in long l3) _ (number_most long l3) λ datum l4 d.
    then_fitting byte (said_in N.Label l4) _ (option_most N.Label (number_in byte) l4 (number_most byte)) λ label l5 y.
    ending_fitting _ l5 (record_fits 1 node address 0 0 label header datum (omega arith) n a (omega arith) (omega arith) y x d)

node_fitting : (kind : ℕ) (l : List Token) → kind < 256 → Fitting (node_of kind l)
unfolding node_of
node_fitting kind l k =
    then_fitting byte (number_in byte l) _ (number_most byte l) λ node l1 n.
    ending_fitting _ l1 (record_fits kind node 0 0 0 0 0 0 k n (omega arith) (omega arith) (omega arith) (omega arith) (omega arith) (omega arith))

respond_fitting : (l : List Token) → Fitting (respond_of l)
unfolding respond_of
respond_fitting l =
    then_fitting byte (number_in byte l) _ (number_most byte l) λ node l1 n.
    then_fitting byte (number_in byte l1) _ (number_most byte l1) λ ack l2 c.
    then_fitting byte (hold_in l2) _ (option_most N.Hold (got 1) l2 (λ m. omega arith)) λ hold l3 h.
    ending_fitting _ l3 (record_fits 3 node 0 ack hold 0 0 0 (omega arith) n (omega arith) c h (omega arith) (omega arith) (omega arith))

change_fitting : (l : List Token) → Fitting (change_of l)
unfolding change_of
change_fitting l =
    then_fitting byte (address_or_none l) _ (none_most l) λ address l1 a.
    ending_fitting _ l1 (record_fits 7 0 address 0 0 0 0 0 (omega arith) (omega arith) a (omega arith) (omega arith) (omega arith) (omega arith) (omega arith))

kind_small : (k : Kind) → kind_number k < 256
kind_small K.Request = omega arith
kind_small K.Arbitrate = omega arith
kind_small K.Respond = omega arith
kind_small K.Clock = omega arith
kind_small K.Pass = omega arith
kind_small K.Lose = omega arith
kind_small K.Change = omega arith
kind_small K.Grant = omega arith
kind_small K.Gap = omega arith
kind_small K.Reset = omega arith
kind_small K.Ask = omega arith
kind_small K.Decide = omega arith

bare_fitting : (k : Kind) (l : List Token) → Fitting (ending_of (record_of (kind_number k) 0 0 0 0 0 0 0) l)
bare_fitting k l =
    ending_fitting _ l
    (record_fits (kind_number k) 0 0 0 0 0 0 0 (kind_small k) (omega arith) (omega arith) (omega arith) (omega arith) (omega arith) (omega arith) (omega arith))

action_fitting : (kind : Kind) (l : List Token) → Fitting (action_of kind l)
unfolding action_of
action_fitting K.Request l = request_fitting l
action_fitting K.Arbitrate l = node_fitting 2 l (omega arith)
action_fitting K.Respond l = respond_fitting l
action_fitting K.Clock l = node_fitting 4 l (omega arith)
action_fitting K.Pass l = bare_fitting K.Pass l
action_fitting K.Lose l = bare_fitting K.Lose l
action_fitting K.Change l = change_fitting l
action_fitting K.Grant l = bare_fitting K.Grant l
action_fitting K.Gap l = bare_fitting K.Gap l
action_fitting K.Reset l = bare_fitting K.Reset l
action_fitting K.Ask l = node_fitting 11 l (omega arith)
action_fitting K.Decide l = node_fitting 12 l (omega arith)

nodes_fitting : (l : List Token) → Fitting (nodes_of l)
unfolding nodes_of
nodes_fitting l = then_fitting byte (number_in byte l) nodes_then (number_most byte l) (λ n m h. last_fitting (Nodes n) m tt)

-- settings say no action
actions_fitting : (l : List Token) → Fitting (actions_of l)
unfolding actions_of
actions_fitting l = then_fitting short (number_in short l) actions_then (number_most short l) (λ n m h. last_fitting (Actions n) m tt)

user_fitting : (l : List Token) → Fitting (user_of l)
unfolding user_of
user_fitting l =
    then_fitting byte (number_in byte l) _ (number_most byte l) λ node l1 n.
    then_fitting byte (to_in l1) _ (option_most N.To address_in l1 address_most) λ address l2 a.
    then_fitting byte (said_in N.Spell l2) _ (option_most N.Spell (number_in byte) l2 (number_most byte)) λ spell l3 s.
    then_fitting byte (said_in N.Fillers l3) _ (option_most N.Fillers (number_in byte) l3 (number_most byte)) λ fillers l4 f.
    then_fitting byte (hold_in l4) _ (option_most N.Hold (got 1) l4 (λ m. omega arith)) λ hold l5 h.
    then_fitting byte (said_in (N.Kind K.Lose) l5) _ (option_most (N.Kind K.Lose) (number_in byte) l5 (number_most byte)) λ period l6 p.
    last_fitting _ l6 tt

-- nor does the line that asks
depth_most : (l : List Token) → AtMost byte (depth_in l)
unfolding depth_in
depth_most [] = tt
depth_most (t ∷ l) = either_field byte (is_word N.Within t) _ _ (λ e. number_most byte l) tt

after_report : (p : Part Report.Word) (next : Report.Word → List Token → Result Line Fault) → ((w : Report.Word) (l : List Token) → Fitting (next w l)) → Fitting (after p next)
after_report (got w l) next h = h w l
after_report (bad f) next h = tt

find_fitting : (l : List Token) → Fitting (find_of l)
unfolding find_of
find_fitting l =
    after_report (report_in l) _ λ word l1.
    then_fitting byte (number_in byte l1) _ (number_most byte l1) λ node l2 n.
    then_fitting byte (depth_in l2) _ (depth_most l2) λ depth l3 d.
    last_fitting _ l3 tt

named_fitting : (text : Text) (k : Name) (l : List Token) → Fitting (named_of text k l)
unfolding named_of
named_fitting Run (N.Kind k) l = action_fitting k l
named_fitting Run N.Nodes l = nodes_fitting l
named_fitting Run N.All l = tt
named_fitting Run N.Hold l = tt
named_fitting Run N.Times l = tt
named_fitting Run N.Label l = tt
named_fitting Run N.Actions l = tt
named_fitting Run N.User l = tt
named_fitting Run N.To l = tt
named_fitting Run N.Spell l = tt
named_fitting Run N.Fillers l = tt
named_fitting Run N.Find l = tt
named_fitting Run N.Within l = tt
named_fitting Run (N.Report w) l = tt
named_fitting Settings (N.Kind k) l = tt
named_fitting Settings N.Nodes l = nodes_fitting l
named_fitting Settings N.All l = tt
named_fitting Settings N.Hold l = tt
named_fitting Settings N.Times l = tt
named_fitting Settings N.Label l = tt
named_fitting Settings N.Actions l = actions_fitting l
named_fitting Settings N.User l = user_fitting l
named_fitting Settings N.To l = tt
named_fitting Settings N.Spell l = tt
named_fitting Settings N.Fillers l = tt
named_fitting Settings N.Find l = tt
named_fitting Settings N.Within l = tt
named_fitting Settings (N.Report w) l = tt
named_fitting Question (N.Kind k) l = action_fitting k l
named_fitting Question N.Nodes l = nodes_fitting l
named_fitting Question N.All l = tt
named_fitting Question N.Hold l = tt
named_fitting Question N.Times l = tt
named_fitting Question N.Label l = tt
named_fitting Question N.Actions l = tt
named_fitting Question N.User l = tt
named_fitting Question N.To l = tt
named_fitting Question N.Spell l = tt
named_fitting Question N.Fillers l = tt
named_fitting Question N.Find l = find_fitting l
named_fitting Question N.Within l = tt
named_fitting Question (N.Report w) l = tt

said_fitting : (text : Text) (l : List Token) → Fitting (said_by text l)
unfolding said_by
said_fitting text [] = tt
said_fitting text (Word None ∷ l) = tt
said_fitting text (Word (Some k) ∷ l) = named_fitting text k l
said_fitting text (Number x ∷ l) = tt
said_fitting text (Large ∷ l) = tt

pub line_fitting : (text : Text) (line : List ℕ) → Fitting (line_of text line)
unfolding line_of
line_fitting text line = either (ltb 255 (length line)) (Err LongLine) (said_by text (tokens_of line)) (λ e. tt) (said_fitting text (tokens_of line))
