-- No fault's line is longer than the room that it finds. Assumes nothing.
use Prim.Native.Nat.{ℕ, ◌+◌, ◌*◌, ◌-◌, ◌<◌, ◌≤◌}
use mathlib.Core.Path.{◌≡◌, refl}
use mathlib.Core.Bool.{Bool, true, false, cond}
use mathlib.Core.List.{List, [], ◌∷◌, ◌++◌}
use native.Mathlib.Omega.{arith}
use borrow.Author.Tests.{ltb-true, ltb-false}
use lib.Dec.{ltb}
use lib.ListN.{length, take, length-append}
use lib.Seq.{length-take-le}
use Rattle.std.specs.Prelude.{eqb, ◌&&◌}
use Rattle.transcript.specs.Text.{ascii, decimal}
use Rattle.transcript.proofs.Lengths.{byte_short, short_8, cond_short}
use Rattle.faults.specs.declared.Fault.{Fault}
use Rattle.faults.specs.declared.Fault.TheVariants as F
use Rattle.faults.specs.declared.Cause.{Cause}
use Rattle.faults.specs.declared.Cause.TheVariants as C
use Rattle.faults.specs.declared.words.Field.{Field}
use Rattle.faults.specs.declared.words.Field.TheVariants as W
use Rattle.faults.specs.Faults.{fault_words, escaped, shown_byte, shown_bytes, shown, has_control, has_no_break, has_star, hint, quoted, field_of, field_words, setting_words, question_words, most_words, word_of, said_of, said_with, cause_words, fault_line}

pub refused_short : (k : ℕ) → k < 256 → length (fault_words (F.Refused k)) ≤ 20
unfolding fault_words
refused_short k h = let a = length-append (ascii "refused ") (decimal k) in let b = byte_short k h in omega arith

-- a fault's number fits its type
abbrev pub FittingFault : Fault → Type 0
FittingFault (F.Refused k) = k < 256
FittingFault _ = Unit

pub fault_short : (f : Fault) → FittingFault f → length (fault_words f) ≤ 20
unfolding fault_words
fault_short F.UnknownWord h = omega arith
fault_short F.NotNumber h = omega arith
fault_short F.TooLarge h = omega arith
fault_short F.MissingField h = omega arith
fault_short F.ExtraField h = omega arith
fault_short F.NoRepeat h = omega arith
fault_short F.LongLine h = omega arith
fault_short F.NodesMissing h = omega arith
fault_short F.NodesAgain h = omega arith
fault_short F.NoUser h = omega arith
fault_short F.NoAction h = omega arith
fault_short F.TooMany h = omega arith
fault_short F.NoQuestion h = omega arith
fault_short F.AfterQuestion h = omega arith
fault_short (F.Refused k) h = refused_short k h

byte_shown : (b : ℕ) → length (shown_byte b) ≤ 4
unfolding shown_byte
byte_shown b =
    cond_short (eqb b 9) (32 ∷ []) _ 4 (omega arith)
    (cond_short (eqb b 13) (32 ∷ []) _ 4 (omega arith)
    (cond_short (ltb b 32) (escaped b) _ 4 (omega arith)
    (cond_short (ltb b 127) (b ∷ []) (escaped b) 4 (omega arith) (omega arith))))

bytes_shown : (w : List ℕ) → length (shown_bytes w) ≤ 4 * length w
bytes_shown [] = omega arith
bytes_shown (b ∷ w) = let a = length-append (shown_byte b) (shown_bytes w) in let c = byte_shown b in let d = bytes_shown w in omega arith

either_shown : (w : List ℕ) (b : Bool) → ltb 64 (length w) ≡ b → length (cond b (shown_bytes (take 64 w) ++ ascii "..") (shown_bytes w)) ≤ 258
either_shown w true e =
    let long = ltb-true 64 (length w) e in
    let a = length-append (shown_bytes (take 64 w)) (ascii "..") in
    let c = bytes_shown (take 64 w) in
    let d = length-take-le 64 w (omega arith) in
    omega arith
either_shown w false e = let short = ltb-false 64 (length w) e in let c = bytes_shown w in omega arith

shown_short : (w : List ℕ) → length (shown w) ≤ 258
unfolding shown
shown_short w = either_shown w (ltb 64 (length w)) refl

hint_short : (w : List ℕ) → length (hint w) ≤ 48
unfolding hint
hint_short w =
    cond_short (has_control w) (ascii " (no plain text: UTF-16, or a binary file)") _ 48 (omega arith)
    (cond_short (has_no_break w) (ascii " (a no-break space: write a plain one)") _ 48 (omega arith)
    (cond_short (has_star w && ltb 1 (length w)) (ascii " (write spaces around *)") [] 48 (omega arith) (omega arith)))

quoted_short : (w : List ℕ) → length (quoted w) ≤ 308
quoted_short w =
    let a = length-append (shown w) (ascii "\"" ++ hint w) in
    let b = shown_short w in
    let c = hint_short w in
    omega arith

field_short : (f : Field) → length (field_words f) ≤ 32
unfolding field_words setting_words question_words
field_short W.Count = omega arith
field_short W.Header = omega arith
field_short W.Data = omega arith
field_short W.RequestNode = omega arith
field_short W.RequestAddress = omega arith
field_short W.RequestLabel = omega arith
field_short W.ArbitrateNode = omega arith
field_short W.RespondNode = omega arith
field_short W.Acknowledgement = omega arith
field_short W.ClockNode = omega arith
field_short W.ChangeAddress = omega arith
field_short W.AskNode = omega arith
field_short W.DecideNode = omega arith
field_short W.Nodes = omega arith
field_short W.Actions = omega arith
field_short W.UserNode = omega arith
field_short W.UserAddress = omega arith
field_short W.Spell = omega arith
field_short W.Fillers = omega arith
field_short W.Period = omega arith
field_short W.FindReport = omega arith
field_short W.FindNode = omega arith
field_short W.FindDepth = omega arith

most_short : (f : Field) → length (most_words f) ≤ 20
most_short W.Count = omega arith
most_short W.Header = omega arith
most_short W.Data = omega arith
most_short W.RequestNode = omega arith
most_short W.RequestAddress = omega arith
most_short W.RequestLabel = omega arith
most_short W.ArbitrateNode = omega arith
most_short W.RespondNode = omega arith
most_short W.Acknowledgement = omega arith
most_short W.ClockNode = omega arith
most_short W.ChangeAddress = omega arith
most_short W.AskNode = omega arith
most_short W.DecideNode = omega arith
most_short W.Nodes = omega arith
most_short W.Actions = omega arith
most_short W.UserNode = omega arith
most_short W.UserAddress = omega arith
most_short W.Spell = omega arith
most_short W.Fillers = omega arith
most_short W.Period = omega arith
most_short W.FindReport = omega arith
most_short W.FindNode = omega arith
most_short W.FindDepth = omega arith

word_short : (w : List ℕ) (f : Field) → length (word_of w f) ≤ 344
word_short w f = let a = length-append (quoted w) (ascii ", " ++ field_words f) in let b = quoted_short w in let c = field_short f in omega arith

-- what follows the shown line
said_short : (w what : List ℕ) (k : ℕ) → length what ≤ k → length (said_of w what) ≤ 260 + k
said_short w what k h = let a = length-append (shown w) what in let b = shown_short w in omega arith

with_short : (w what : List ℕ) (x : ℕ) → length what ≤ 30 → x < 256 → length (said_with w what x) ≤ 293
with_short w what x h g = let a = length-append (said_of w what) (decimal x) in let b = said_short w what 30 h in let c = byte_short x g in omega arith

-- a cause's figures fit their types
abbrev pub Fitting : Cause → Type 0
Fitting (C.Node node n) = (node < 256) × (n < 256)
Fitting (C.Address address n) = (address < 256) × (n < 256)
Fitting (C.Label label) = label < 256
Fitting (C.Own node) = node < 256
Fitting (C.Ack ack) = ack < 256
Fitting _ = Unit

pub cause_short : (cause : Cause) (w : List ℕ) → Fitting cause → length (cause_words cause w) ≤ 400
unfolding cause_words
cause_short C.Plain w h = omega arith
cause_short C.Quoted w h = let a = quoted_short w in omega arith
cause_short (C.Field kind place) w h = let a = word_short w (field_of kind place) in omega arith
cause_short (C.Large kind place) w h =
    let f = field_of kind place in
    let a = length-append (word_of w (field_of kind place)) (most_words (field_of kind place)) in
    let b = word_short w (field_of kind place) in
    let c = most_short (field_of kind place) in
    omega arith
cause_short (C.Missing kind place) w h = let a = field_short (field_of kind place) in omega arith
cause_short C.Size w h = let a = said_short w (ascii ": a bus has 2 to 63 nodes") 80 (omega arith) in omega arith
cause_short (C.Node node n) w h =
    let a = length-append (said_with w (ascii ": no node ") node) (ascii ", nodes are 0 to " ++ decimal (n - 1)) in
    let b = with_short w (ascii ": no node ") node (omega arith) h.0 in
    let c = byte_short (n - 1) (omega arith) in
    omega arith
cause_short (C.Address address n) w h =
    let a = length-append (said_with w (ascii ": no address ") address) (ascii ", addresses are 0 to " ++ (decimal (n - 1) ++ ascii " and all")) in
    let b = with_short w (ascii ": no address ") address (omega arith) h.0 in
    let c = byte_short (n - 1) (omega arith) in
    let d = length-append (decimal (n - 1)) (ascii " and all") in
    omega arith
cause_short (C.Label label) w h =
    let a = length-append (said_with w (ascii ": no label ") label) (ascii ", labels are 0 to 63") in
    let b = with_short w (ascii ": no label ") label (omega arith) h in
    omega arith
cause_short (C.Own node) w h =
    let a = length-append (said_with w (ascii ": node ") node) (ascii " would send to itself") in
    let b = with_short w (ascii ": node ") node (omega arith) h in
    omega arith
cause_short (C.Ack ack) w h =
    let a = length-append (said_with w (ascii ": no acknowledgement ") ack) (ascii ", they are 0 to 15") in
    let b = with_short w (ascii ": no acknowledgement ") ack (omega arith) h in
    omega arith
cause_short C.Closed w h = let a = said_short w (ascii ": not open when its turn comes") 80 (omega arith) in omega arith
cause_short C.Depth w h = let a = said_short w (ascii ": a route has at most 6 actions, on a bus of at most 8 nodes") 80 (omega arith) in omega arith

pub words_short : (number : ℕ) (f : Fault) (cause : Cause) (w : List ℕ) → number < 18446744073709551616 → length (fault_words f) ≤ 20 → length (cause_words cause w) ≤ 400 → length (fault_line number f cause w) ≤ 512
unfolding fault_line
words_short number f cause w h e g =
    let a = length-append (decimal number) (ascii ": " ++ (fault_words f ++ (cause_words cause w ++ (10 ∷ [])))) in
    let b = length-append (fault_words f) (cause_words cause w ++ (10 ∷ [])) in
    let c = length-append (cause_words cause w) (10 ∷ []) in
    let d = short_8 number h in
    omega arith

-- of every fault whose number fits its type
pub line_short : (number : ℕ) (f : Fault) (cause : Cause) (w : List ℕ) → number < 18446744073709551616 → FittingFault f → length (cause_words cause w) ≤ 400 → length (fault_line number f cause w) ≤ 512
line_short number f cause w h e g = words_short number f cause w h (fault_short f e) g
