-- An action record looked at by the numbers 2 to 5, 13, 15 and 6, in that order.
use Rattle.std.specs.Prelude.{Bool, cond, ◌&&◌, ◌||◌, not, ℕ, eqb, ltb, Result, Err, Ok}
use Rattle.charts.specs.declared.Refusal.{Refusal}
use Rattle.charts.specs.declared.Refusal.TheVariants as R
use Rattle.charts.specs.declared.Packet.{Packet}
use Rattle.charts.specs.declared.Way.TheVariants.{Pass, Lose, Change}
use Rattle.charts.specs.declared.Move.{Move}
use Rattle.charts.specs.declared.Move.TheVariants.{Request, Arbitrate, Respond, Clock, Carry, Grant, GapNext, Reset, Ask, Decide}
use Rattle.charts.specs.declared.Action.{Action}
use Rattle.charts.specs.Signals.{everybody}

-- "kind not 1–12" is refused
abbrev pub is_kind : ℕ → Bool
is_kind k = ltb 0 k && ltb k 13

-- the fields that each kind names: node (1 to 4, 11, 12), address (1, 7), acknowledgement and hold (3), label, header and data (1)
abbrev pub names_node : ℕ → Bool
names_node k = ltb k 5 || ltb 10 k

abbrev pub names_address : ℕ → Bool
names_address k = eqb k 1 || eqb k 7

abbrev pub names_answer : ℕ → Bool
names_answer k = eqb k 3

abbrev pub names_packet : ℕ → Bool
names_packet k = eqb k 1

-- "Fields that a kind doesn't name are 0": no "field that the kind doesn't name, or one of the record's […] zeros, is not 0" (two zeros, since byte 5 is the label)
unfoldable pub clean : Action → Bool
clean a =
    eqb a.byte6 0 && (eqb a.byte7 0
    && ((names_node a.kind || eqb a.node 0)
    && ((names_address a.kind || eqb a.address 0)
    && ((names_answer a.kind || (eqb a.ack 0 && eqb a.hold 0))
    && (names_packet a.kind || (eqb a.label 0 && (eqb a.header 0 && eqb a.datum 0)))))))

-- a record that names at most a node and an address; the record of zeros
abbrev pub named : ℕ → ℕ → ℕ → Action
named kind i b = record { kind = kind; node = i; address = b; ack = 0; hold = 0; label = 0; byte6 = 0; byte7 = 0; header = 0; datum = 0 }

abbrev pub blank : Action
blank = named 0 0 0

-- an address "below n" or 63
abbrev pub is_address : ℕ → ℕ → Bool
is_address n a = ltb a n || eqb a everybody

-- "a node's own number" (request 10), of node i
abbrev pub is_own : ℕ → ℕ → Bool
is_own i a = eqb a i

-- "the label for kind 1, 0 to 63"
abbrev pub is_label : ℕ → Bool
is_label x = ltb x 64

-- the action of a record, by its kind
abbrev pub packet_of : Action → Packet
packet_of a = record { to = a.address; head = record { header = a.header; label = a.label }; datum = a.datum }

unfoldable pub move_of : Action → Move
move_of a =
    cond (eqb a.kind 1) (Request a.node (packet_of a))
    (cond (eqb a.kind 2) (Arbitrate a.node)
    (cond (eqb a.kind 3) (Respond a.node a.ack (eqb a.hold 1))
    (cond (eqb a.kind 4) (Clock a.node)
    (cond (eqb a.kind 5) (Carry Pass)
    (cond (eqb a.kind 6) (Carry Lose)
    (cond (eqb a.kind 7) (Carry (Change a.address))
    (cond (eqb a.kind 8) Grant
    (cond (eqb a.kind 9) GapNext
    (cond (eqb a.kind 10) Reset
    (cond (eqb a.kind 11) (Ask a.node)
    (Decide a.node)))))))))))

-- the conditions of 4, 5, 13, 15 and 6: "node not below n"; "address neither below n nor 63"; "label over 63"; "request to the node itself"; "acknowledgement over 15 or hold over 1"
abbrev pub bad_node : ℕ → Action → Bool
bad_node n a = names_node a.kind && not (ltb a.node n)

abbrev pub bad_address : ℕ → Action → Bool
bad_address n a = names_address a.kind && not (is_address n a.address)

abbrev pub bad_label : Action → Bool
bad_label a = names_packet a.kind && not (is_label a.label)

abbrev pub requests_itself : Action → Bool
requests_itself a = names_packet a.kind && is_own a.node a.address

abbrev pub bad_answer : Action → Bool
bad_answer a = not (ltb a.ack 16 && ltb a.hold 2)

-- an action record looked at: the action, or why it is refused
abbrev pub Decoded : Type 0
Decoded = Result Move Refusal

-- "then 2 to 6", 13 "looked at after 5" and 15 "looked at after 13": the first number whose condition holds, or the action
unfoldable pub read : ℕ → Action → Decoded
read n a =
    cond (not (is_kind a.kind)) (Err R.WrongKind)
    (cond (not (clean a)) (Err R.StrayField)
    (cond (bad_node n a) (Err R.WrongNode)
    (cond (bad_address n a) (Err R.WrongAddress)
    (cond (bad_label a) (Err R.WrongLabel)
    (cond (requests_itself a) (Err R.ToItself)
    (cond (bad_answer a) (Err R.WrongAnswer)
    (Ok (move_of a))))))))
