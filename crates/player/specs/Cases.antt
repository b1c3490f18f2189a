-- Document 01's marked cases A to I, a concatenated response (request 1), labels (request 3), drops (request 4) and contention (request 6) as rows of one table: the bytes of a file, and the text that the documents say it prints. (proofs/Cases.antt tests the table.)
use Rattle.std.specs.Prelude.{List, [], ◌∷◌, ◌++◌, ℕ, replicate}
use Rattle.charts.specs.declared.Action.{Action}
use Rattle.files.specs.File.{file_of}
use Rattle.transcript.specs.Text.{ascii}

-- an action record, and those of the kinds that the cases use, with the fields that each kind names
abbrev record_of : ℕ → ℕ → ℕ → ℕ → ℕ → ℕ → ℕ → ℕ → Action
record_of kind node address ack hold label header datum =
    record { kind = kind; node = node; address = address; ack = ack; hold = hold; label = label; byte6 = 0; byte7 = 0; header = header; datum = datum }

abbrev request : ℕ → ℕ → ℕ → ℕ → ℕ → Action
request i to label h d = record_of 1 i to 0 0 label h d

abbrev arbitrate : ℕ → Action
arbitrate i = record_of 2 i 0 0 0 0 0 0

abbrev respond : ℕ → ℕ → ℕ → Action
respond i a hold = record_of 3 i 0 a hold 0 0 0

abbrev clock : ℕ → Action
clock i = record_of 4 i 0 0 0 0 0 0

abbrev pass : Action
pass = record_of 5 0 0 0 0 0 0 0

abbrev lose : Action
lose = record_of 6 0 0 0 0 0 0 0

abbrev change : ℕ → Action
change to = record_of 7 0 to 0 0 0 0 0

abbrev grant : Action
grant = record_of 8 0 0 0 0 0 0 0

abbrev gap : Action
gap = record_of 9 0 0 0 0 0 0 0

abbrev ask : ℕ → Action
ask i = record_of 11 i 0 0 0 0 0 0

abbrev decide : ℕ → Action
decide i = record_of 12 i 0 0 0 0 0 0

-- "request 0 to 63 (header 1, data 2), arbitrate 0, six times clock 0 and pass": node 0 of two sends, and this becomes of its Header and of its Data
abbrev sends : ℕ → ℕ → ℕ → ℕ → Action → Action → List Action
sends to label h d header datum =
    request 0 to label h d ∷ arbitrate 0 ∷ clock 0 ∷ pass ∷ clock 0 ∷ pass ∷ clock 0 ∷ pass ∷ clock 0 ∷ header ∷ clock 0 ∷ datum ∷ clock 0 ∷ pass ∷ []

-- "grant, respond 1 with 1 and hold 0, three times clock 1 and pass […]; two gaps": node 1 answers, and this becomes of its Ack
abbrev answers : ℕ → Action → List Action
answers a ack = grant ∷ respond 1 a 0 ∷ clock 1 ∷ pass ∷ clock 1 ∷ ack ∷ clock 1 ∷ pass ∷ gap ∷ gap ∷ []

-- F: "n = 3, 0 to 1, node 2's Dest changed to 2 […] both grants"
abbrev misled : List Action
misled =
    request 0 1 0 5 6 ∷ arbitrate 0 ∷ clock 0 ∷ pass ∷ pass ∷ clock 0 ∷ pass ∷ pass ∷ clock 0 ∷ pass ∷ change 2
    ∷ clock 0 ∷ pass ∷ pass ∷ clock 0 ∷ pass ∷ pass ∷ clock 0 ∷ pass ∷ pass ∷ grant ∷ grant ∷ []

-- request 1: node 1 acknowledges with hold 1, puts out a filler and replies to node 0, who is granted the bus
abbrev replies : List Action
replies =
    sends 1 0 5 6 pass pass ++ (grant ∷ respond 1 1 1 ∷ clock 1 ∷ pass ∷ clock 1 ∷ pass ∷ clock 1 ∷ pass ∷ clock 1 ∷ pass
    ∷ request 1 0 0 7 8 ∷ clock 1 ∷ pass ∷ clock 1 ∷ pass ∷ clock 1 ∷ pass ∷ clock 1 ∷ pass ∷ clock 1 ∷ pass ∷ clock 1 ∷ pass ∷ grant ∷ [])

-- request 6: both nodes of two "ask before the bus decides", and node 0 is decided first
abbrev contends : List Action
contends = request 0 63 0 1 2 ∷ request 1 63 0 3 4 ∷ ask 1 ∷ ask 0 ∷ decide 0 ∷ []

pub record Row : Type 0 where
  pub file : List ℕ
  pub text : List ℕ

abbrev pub case_a : Row
case_a = record {
  file = file_of 2 (sends 63 0 1 2 pass pass ++ (gap ∷ gap ∷ []));
  text = ascii "nodes 2\n0 1 -\n1 2 0 won\n2 4 -\n3 5 -\n4 4 -\n5 5 -\n6 4 -\n7 5 -\n8 4 -\n9 5 -\n10 4 -\n11 5 -\n12 4 0 sent 0\n13 5 1 broad 1 2 0\n14 9 -\n15 9 -\ndone 16\n";
}

abbrev pub case_b : Row
case_b = record {
  file = file_of 2 (sends 1 0 5 6 pass pass ++ answers 1 pass);
  text = ascii "nodes 2\n0 1 -\n1 2 0 won\n2 4 -\n3 5 -\n4 4 -\n5 5 -\n6 4 -\n7 5 -\n8 4 -\n9 5 -\n10 4 -\n11 5 -\n12 4 -\n13 5 1 good 5 6 0\n14 8 -\n15 3 -\n16 4 -\n17 5 -\n18 4 -\n19 5 -\n20 4 -\n21 5 0 ack 1 0\n22 9 -\n23 9 -\ndone 24\n";
}

-- "B with change at 11: 13 reports `1 dcrc 5`"
abbrev pub case_c : Row
case_c = record {
  file = file_of 2 (sends 1 0 5 6 pass (change 0) ++ answers 1 pass);
  text = ascii "nodes 2\n0 1 -\n1 2 0 won\n2 4 -\n3 5 -\n4 4 -\n5 5 -\n6 4 -\n7 5 -\n8 4 -\n9 5 -\n10 4 -\n11 7 -\n12 4 -\n13 5 1 dcrc 5 0\n14 8 -\n15 3 -\n16 4 -\n17 5 -\n18 4 -\n19 5 -\n20 4 -\n21 5 0 ack 1 0\n22 9 -\n23 9 -\ndone 24\n";
}

-- "B with lose at 9, nothing reported at 13; grant, clock 1, gap: index 16 reports `0 miss`"
abbrev pub case_d : Row
case_d = record {
  file = file_of 2 (sends 1 0 5 6 lose pass ++ (grant ∷ clock 1 ∷ gap ∷ []));
  text = ascii "nodes 2\n0 1 -\n1 2 0 won\n2 4 -\n3 5 -\n4 4 -\n5 5 -\n6 4 -\n7 5 -\n8 4 -\n9 6 -\n10 4 -\n11 5 1 drop HeadOwn\n12 4 -\n13 5 -\n14 8 -\n15 4 -\n16 9 0 miss 0\ndone 17\n";
}

-- "B with lose at 19: 21 reports `0 miss`"
abbrev pub case_e : Row
case_e = record {
  file = file_of 2 (sends 1 0 5 6 pass pass ++ answers 1 lose);
  text = ascii "nodes 2\n0 1 -\n1 2 0 won\n2 4 -\n3 5 -\n4 4 -\n5 5 -\n6 4 -\n7 5 -\n8 4 -\n9 5 -\n10 4 -\n11 5 -\n12 4 -\n13 5 1 good 5 6 0\n14 8 -\n15 3 -\n16 4 -\n17 5 -\n18 4 -\n19 6 -\n20 4 -\n21 5 0 miss 0\n22 9 -\n23 9 -\ndone 24\n";
}

-- "after both grants clock 1 is refused 7 until clock 2": the refusal ends a run, so these are two runs
abbrev pub case_f_refused : Row
case_f_refused = record {
  file = file_of 3 (misled ++ (clock 1 ∷ []));
  text = ascii "nodes 3\n0 1 -\n1 2 0 won\n2 4 -\n3 5 -\n4 5 -\n5 4 -\n6 5 -\n7 5 -\n8 4 -\n9 5 -\n10 7 -\n11 4 -\n12 5 -\n13 5 2 drop HeadOwn\n14 4 -\n15 5 -\n16 5 -\n17 4 -\n18 5 1 good 5 6 0\n19 5 -\n20 8 -\n21 8 -\nrefused 22 7\n";
}

abbrev pub case_f_taken : Row
case_f_taken = record {
  file = file_of 3 (misled ++ (clock 2 ∷ clock 1 ∷ []));
  text = ascii "nodes 3\n0 1 -\n1 2 0 won\n2 4 -\n3 5 -\n4 5 -\n5 4 -\n6 5 -\n7 5 -\n8 4 -\n9 5 -\n10 7 -\n11 4 -\n12 5 -\n13 5 2 drop HeadOwn\n14 4 -\n15 5 -\n16 5 -\n17 4 -\n18 5 1 good 5 6 0\n19 5 -\n20 8 -\n21 8 -\n22 4 -\n23 4 -\ndone 24\n";
}

abbrev pub case_g : Row
case_g = record {
  file = replicate 512 0;
  text = ascii "refused 0 1\n";
}

abbrev pub case_h : Row
case_h = record {
  file = file_of 2 (arbitrate 0 ∷ []);
  text = ascii "nodes 2\nrefused 0 7\n";
}

-- "n = 1 refused, 2 and 63 taken, 64 refused; acknowledgement 15 taken, 16 refused"
abbrev pub case_i_1 : Row
case_i_1 = record {
  file = file_of 1 (request 0 63 0 0 0 ∷ []);
  text = ascii "refused 0 1\n";
}

abbrev pub case_i_2 : Row
case_i_2 = record {
  file = file_of 2 (request 0 1 0 0 0 ∷ []);
  text = ascii "nodes 2\n0 1 -\ndone 1\n";
}

abbrev pub case_i_63 : Row
case_i_63 = record {
  file = file_of 63 (request 62 61 0 0 0 ∷ []);
  text = ascii "nodes 63\n0 1 -\ndone 1\n";
}

abbrev pub case_i_64 : Row
case_i_64 = record {
  file = file_of 64 (request 0 1 0 0 0 ∷ []);
  text = ascii "refused 0 1\n";
}

abbrev pub case_i_15 : Row
case_i_15 = record {
  file = file_of 2 (sends 1 0 5 6 pass pass ++ answers 15 pass);
  text = ascii "nodes 2\n0 1 -\n1 2 0 won\n2 4 -\n3 5 -\n4 4 -\n5 5 -\n6 4 -\n7 5 -\n8 4 -\n9 5 -\n10 4 -\n11 5 -\n12 4 -\n13 5 1 good 5 6 0\n14 8 -\n15 3 -\n16 4 -\n17 5 -\n18 4 -\n19 5 -\n20 4 -\n21 5 0 ack 15 0\n22 9 -\n23 9 -\ndone 24\n";
}

abbrev pub case_i_16 : Row
case_i_16 = record {
  file = file_of 2 (sends 1 0 5 6 pass pass ++ answers 16 pass);
  text = ascii "nodes 2\n0 1 -\n1 2 0 won\n2 4 -\n3 5 -\n4 4 -\n5 5 -\n6 4 -\n7 5 -\n8 4 -\n9 5 -\n10 4 -\n11 5 -\n12 4 -\n13 5 1 good 5 6 0\n14 8 -\nrefused 15 6\n";
}

-- "a concatenated response in IEEE 1394 is meant to be received": node 0 hears the reply through the filler and acknowledges it
abbrev pub case_reply : Row
case_reply = record {
  file = file_of 2 (replies ++ (respond 0 2 0 ∷ clock 0 ∷ pass ∷ clock 0 ∷ pass ∷ clock 0 ∷ pass ∷ gap ∷ gap ∷ []));
  text = ascii "nodes 2\n0 1 -\n1 2 0 won\n2 4 -\n3 5 -\n4 4 -\n5 5 -\n6 4 -\n7 5 -\n8 4 -\n9 5 -\n10 4 -\n11 5 -\n12 4 -\n13 5 1 good 5 6 0\n14 8 -\n15 3 -\n16 4 -\n17 5 -\n18 4 -\n19 5 -\n20 4 -\n21 5 0 ack 1 0\n22 4 -\n23 5 -\n24 1 -\n25 4 -\n26 5 -\n27 4 -\n28 5 -\n29 4 -\n30 5 -\n31 4 -\n32 5 -\n33 4 -\n34 5 -\n35 4 -\n36 5 0 good 7 8 0\n37 8 -\n38 3 -\n39 4 -\n40 5 -\n41 4 -\n42 5 -\n43 4 -\n44 5 1 ack 2 0\n45 9 -\n46 9 -\ndone 47\n";
}

-- "While it is set, respond with hold 1 is not open"
abbrev pub case_reply_held : Row
case_reply_held = record {
  file = file_of 2 (replies ++ (respond 0 2 1 ∷ []));
  text = ascii "nodes 2\n0 1 -\n1 2 0 won\n2 4 -\n3 5 -\n4 4 -\n5 5 -\n6 4 -\n7 5 -\n8 4 -\n9 5 -\n10 4 -\n11 5 -\n12 4 -\n13 5 1 good 5 6 0\n14 8 -\n15 3 -\n16 4 -\n17 5 -\n18 4 -\n19 5 -\n20 4 -\n21 5 0 ack 1 0\n22 4 -\n23 5 -\n24 1 -\n25 4 -\n26 5 -\n27 4 -\n28 5 -\n29 4 -\n30 5 -\n31 4 -\n32 5 -\n33 4 -\n34 5 -\n35 4 -\n36 5 0 good 7 8 0\n37 8 -\nrefused 38 7\n";
}

-- request 3: "The reports sent, ack, miss, good, dcrc and broad end with" the label: A, B, C and E with one
abbrev pub case_label_a : Row
case_label_a = record {
  file = file_of 2 (sends 63 5 1 2 pass pass ++ (gap ∷ gap ∷ []));
  text = ascii "nodes 2\n0 1 -\n1 2 0 won\n2 4 -\n3 5 -\n4 4 -\n5 5 -\n6 4 -\n7 5 -\n8 4 -\n9 5 -\n10 4 -\n11 5 -\n12 4 0 sent 5\n13 5 1 broad 1 2 5\n14 9 -\n15 9 -\ndone 16\n";
}

abbrev pub case_label_b : Row
case_label_b = record {
  file = file_of 2 (sends 1 7 5 6 pass pass ++ answers 1 pass);
  text = ascii "nodes 2\n0 1 -\n1 2 0 won\n2 4 -\n3 5 -\n4 4 -\n5 5 -\n6 4 -\n7 5 -\n8 4 -\n9 5 -\n10 4 -\n11 5 -\n12 4 -\n13 5 1 good 5 6 7\n14 8 -\n15 3 -\n16 4 -\n17 5 -\n18 4 -\n19 5 -\n20 4 -\n21 5 0 ack 1 7\n22 9 -\n23 9 -\ndone 24\n";
}

abbrev pub case_label_c : Row
case_label_c = record {
  file = file_of 2 (sends 1 62 5 6 pass (change 0) ++ answers 1 pass);
  text = ascii "nodes 2\n0 1 -\n1 2 0 won\n2 4 -\n3 5 -\n4 4 -\n5 5 -\n6 4 -\n7 5 -\n8 4 -\n9 5 -\n10 4 -\n11 7 -\n12 4 -\n13 5 1 dcrc 5 62\n14 8 -\n15 3 -\n16 4 -\n17 5 -\n18 4 -\n19 5 -\n20 4 -\n21 5 0 ack 1 62\n22 9 -\n23 9 -\ndone 24\n";
}

abbrev pub case_label_e : Row
case_label_e = record {
  file = file_of 2 (sends 1 63 5 6 pass pass ++ answers 1 lose);
  text = ascii "nodes 2\n0 1 -\n1 2 0 won\n2 4 -\n3 5 -\n4 4 -\n5 5 -\n6 4 -\n7 5 -\n8 4 -\n9 5 -\n10 4 -\n11 5 -\n12 4 -\n13 5 1 good 5 6 63\n14 8 -\n15 3 -\n16 4 -\n17 5 -\n18 4 -\n19 6 -\n20 4 -\n21 5 0 miss 63\n22 9 -\n23 9 -\ndone 24\n";
}

-- "13, label over 63": 63 taken, 64 refused
abbrev pub case_label_63 : Row
case_label_63 = record {
  file = file_of 2 (request 0 1 63 0 0 ∷ []);
  text = ascii "nodes 2\n0 1 -\ndone 1\n";
}

abbrev pub case_label_64 : Row
case_label_64 = record {
  file = file_of 2 (request 0 1 64 0 0 ∷ []);
  text = ascii "nodes 2\nrefused 0 13\n";
}

-- request 4: "the report becomes drop and the name of the mode it left": B with change at 9, with lose at 11
abbrev pub case_drop_head_own : Row
case_drop_head_own = record {
  file = file_of 2 (sends 1 0 5 6 (change 0) pass);
  text = ascii "nodes 2\n0 1 -\n1 2 0 won\n2 4 -\n3 5 -\n4 4 -\n5 5 -\n6 4 -\n7 5 -\n8 4 -\n9 7 1 drop HeadOwn\n10 4 -\n11 5 -\n12 4 -\n13 5 -\ndone 14\n";
}

abbrev pub case_drop_body_own : Row
case_drop_body_own = record {
  file = file_of 2 (sends 1 0 5 6 pass lose);
  text = ascii "nodes 2\n0 1 -\n1 2 0 won\n2 4 -\n3 5 -\n4 4 -\n5 5 -\n6 4 -\n7 5 -\n8 4 -\n9 5 -\n10 4 -\n11 6 -\n12 4 -\n13 5 1 drop BodyOwn\ndone 14\n";
}

-- A with lose at 9, with lose at 11, with change at 11: "TailAll with bad data reports drop TailAll on End or Prefix too, though it goes to Rest"
abbrev pub case_drop_head_all : Row
case_drop_head_all = record {
  file = file_of 2 (sends 63 0 1 2 lose pass ++ (gap ∷ gap ∷ []));
  text = ascii "nodes 2\n0 1 -\n1 2 0 won\n2 4 -\n3 5 -\n4 4 -\n5 5 -\n6 4 -\n7 5 -\n8 4 -\n9 6 -\n10 4 -\n11 5 1 drop HeadAll\n12 4 0 sent 0\n13 5 -\n14 9 -\n15 9 -\ndone 16\n";
}

abbrev pub case_drop_body_all : Row
case_drop_body_all = record {
  file = file_of 2 (sends 63 0 1 2 pass lose ++ (gap ∷ gap ∷ []));
  text = ascii "nodes 2\n0 1 -\n1 2 0 won\n2 4 -\n3 5 -\n4 4 -\n5 5 -\n6 4 -\n7 5 -\n8 4 -\n9 5 -\n10 4 -\n11 6 -\n12 4 0 sent 0\n13 5 1 drop BodyAll\n14 9 -\n15 9 -\ndone 16\n";
}

abbrev pub case_drop_tail_all : Row
case_drop_tail_all = record {
  file = file_of 2 (sends 63 0 1 2 pass (change 0) ++ (gap ∷ gap ∷ []));
  text = ascii "nodes 2\n0 1 -\n1 2 0 won\n2 4 -\n3 5 -\n4 4 -\n5 5 -\n6 4 -\n7 5 -\n8 4 -\n9 5 -\n10 4 -\n11 7 -\n12 4 0 sent 0\n13 5 1 drop TailAll\n14 9 -\n15 9 -\ndone 16\n";
}

-- "decided as kind 2 decides, won or lost; a loser returns to Rest": it hears the packet, keeps its own, and wins with it the next time
abbrev pub case_contention : Row
case_contention = record {
  file = file_of 2 (contends ++ (decide 1 ∷ clock 0 ∷ pass ∷ clock 0 ∷ pass ∷ clock 0 ∷ pass ∷ clock 0 ∷ pass ∷ clock 0 ∷ pass ∷ clock 0 ∷ pass ∷ gap ∷ gap ∷ ask 1 ∷ decide 1 ∷ []));
  text = ascii "nodes 2\n0 1 -\n1 1 -\n2 11 -\n3 11 -\n4 12 0 won\n5 12 1 lost\n6 4 -\n7 5 -\n8 4 -\n9 5 -\n10 4 -\n11 5 -\n12 4 -\n13 5 -\n14 4 -\n15 5 -\n16 4 0 sent 0\n17 5 1 broad 1 2 0\n18 9 -\n19 9 -\n20 11 -\n21 12 1 won\ndone 22\n";
}

-- "While a node is Asked, kinds 4 to 10 are not open."
abbrev pub case_contention_clocked : Row
case_contention_clocked = record {
  file = file_of 2 (contends ++ (clock 0 ∷ []));
  text = ascii "nodes 2\n0 1 -\n1 1 -\n2 11 -\n3 11 -\n4 12 0 won\nrefused 5 7\n";
}

-- request 10: "A run that still has one is played up to it, prints its lines as before, and stops there with the new number": from Rest, in the second block of a whole file; and from Holding
abbrev pub case_own_rest : Row
case_own_rest = record {
  file = file_of 2 (sends 1 0 5 6 pass pass ++ (answers 1 pass ++ (request 1 63 0 3 4 ∷ arbitrate 1 ∷ clock 1 ∷ pass ∷ clock 1 ∷ pass ∷ clock 1 ∷ pass ∷ clock 1 ∷ pass ∷ clock 1 ∷ pass ∷ clock 1 ∷ pass ∷ gap ∷ gap ∷ request 0 0 0 5 6 ∷ arbitrate 0 ∷ [])));
  text = ascii "nodes 2\n0 1 -\n1 2 0 won\n2 4 -\n3 5 -\n4 4 -\n5 5 -\n6 4 -\n7 5 -\n8 4 -\n9 5 -\n10 4 -\n11 5 -\n12 4 -\n13 5 1 good 5 6 0\n14 8 -\n15 3 -\n16 4 -\n17 5 -\n18 4 -\n19 5 -\n20 4 -\n21 5 0 ack 1 0\n22 9 -\n23 9 -\n24 1 -\n25 2 1 won\n26 4 -\n27 5 -\n28 4 -\n29 5 -\n30 4 -\n31 5 -\n32 4 -\n33 5 -\n34 4 -\n35 5 -\n36 4 1 sent 0\n37 5 0 broad 3 4 0\n38 9 -\n39 9 -\nrefused 40 15\n";
}

abbrev pub case_own_holding : Row
case_own_holding = record {
  file = file_of 2 (sends 1 0 5 6 pass pass ++ (grant ∷ respond 1 1 1 ∷ clock 1 ∷ pass ∷ clock 1 ∷ pass ∷ clock 1 ∷ pass ∷ request 1 1 0 7 8 ∷ clock 1 ∷ pass ∷ []));
  text = ascii "nodes 2\n0 1 -\n1 2 0 won\n2 4 -\n3 5 -\n4 4 -\n5 5 -\n6 4 -\n7 5 -\n8 4 -\n9 5 -\n10 4 -\n11 5 -\n12 4 -\n13 5 1 good 5 6 0\n14 8 -\n15 3 -\n16 4 -\n17 5 -\n18 4 -\n19 5 -\n20 4 -\n21 5 0 ack 1 0\nrefused 22 15\n";
}

abbrev pub cases : List Row
cases =
    case_a ∷ case_b ∷ case_c ∷ case_d ∷ case_e ∷ case_f_refused ∷ case_f_taken ∷ case_g ∷ case_h ∷ case_i_1 ∷ case_i_2 ∷ case_i_63 ∷ case_i_64 ∷ case_i_15 ∷ case_i_16
    ∷ case_reply ∷ case_reply_held ∷ case_label_a ∷ case_label_b ∷ case_label_c ∷ case_label_e ∷ case_label_63 ∷ case_label_64
    ∷ case_drop_head_own ∷ case_drop_body_own ∷ case_drop_head_all ∷ case_drop_body_all ∷ case_drop_tail_all ∷ case_contention ∷ case_contention_clocked
    ∷ case_own_rest ∷ case_own_holding ∷ []
