-- A walk over what is read, part after part. Assumes nothing.
use Rattle.std.proofs.Common.{◌≡◌, refl, sym, subst, ap, ◌∙◌, arith, rules, ℕ, zero, suc, ◌*◌, ◌/◌, ◌%◌, ◌<◌, ◌≤◌, min, true, List, [], ◌∷◌, ◌++◌, length, take, drop, Option, None, Some, Result, Ok, Err, OnOk, append_assoc, append-nil, ◌⊎◌, inl, inr, take-append-drop, length-append, length-drop}
use Rattle.std.proofs.Math.Seq.{take_all}
use Rattle.std.proofs.lemmas.Bool.{cases_lt}
use Rattle.std.proofs.lemmas.List.{length-take-le}
use Rattle.std.specs.Io.KnownBytes.{Appends, Consumes, IsAtEnd, append_known}
use Rattle.transcript.specs.Room.{put, Puts}
use Rattle.transcript.proofs.Puts.{taken}
use Rattle.files.specs.declared.order.Stage.{Stage}
use Rattle.files.specs.declared.order.Stage.TheVariants.{Unopened, After, Ended}
use Rattle.files.specs.Order.{is_ended}
use Rattle.files.specs.Pieces.{cut, pieces}
use Rattle.files.proofs.Pieces.{more_pieces}
use Rattle.walk.specs.Walk.{Walker}
use Rattle.walk.specs.Feeding.{Walking, found_in, found_text, feed_of, finish_of, fed_text}
use Rattle.charts.proofs.Tools.{never}
use Rattle.filing.specs.Walked.{pieces_text, pieces_after, Walks}

-- known bytes that grow by nothing, and twice
grows_none : (old : Option (List ℕ)) → Appends old old []
grows_none None = search rules
grows_none (Some xs) = sym (append-nil xs)

grows_twice : (old mid new : Option (List ℕ)) (s t : List ℕ) → Appends old mid s → Appends mid new t → Appends old new (s ++ t)
grows_twice None mid new s t h k = search rules
grows_twice (Some xs) None new s t h k = elim h [ ]
grows_twice (Some xs) (Some ys) None s t h k = elim k [ ]
grows_twice (Some xs) (Some ys) (Some zs) s t h k = k ∙ ap (λ (l : List ℕ). l ++ t) h ∙ append_assoc xs s t

-- what a text put at the start of a buffer is read back as
pub read_back : (buf out text : List ℕ) (end : ℕ) → end ≡ length text → out ≡ put buf 0 text → end ≤ length buf → take end out ≡ text
read_back buf out text end ends holds fits =
    let put_there : Puts buf 0 text end out = record { ends = omega arith; holds = holds } in
    taken put_there fits

-- what holds of an `Ok`, and what follows
pub on_ok : {A E : Type 0} (r : Result A E) {P Q : Type 0} → (P → Q) → OnOk r P → OnOk r Q
on_ok (Ok x) f h = f h
on_ok (Err e) f h = h

-- a last piece that is short, and blocks before other bytes
cut_none : (k : ℕ) → cut k [] ≡ []
cut_none zero = refl
cut_none (suc k) = refl

short_piece : (s : List ℕ) → 0 < length s → length s ≤ 512 → pieces s ≡ s ∷ []
short_piece [] some few = absurd (omega arith)
short_piece (b ∷ l) some few =
    let none = length-drop 512 (b ∷ l) in
    let nothing : drop 512 (b ∷ l) ≡ [] = by_length (drop 512 (b ∷ l)) (omega (arith, none, few)) in
    rw (take_all 512 (b ∷ l) few, nothing, cut_none (length l))
  where
    by_length : (t : List ℕ) → length t ≡ 0 → t ≡ []
    by_length [] e = refl
    by_length (x ∷ t) e = absurd (omega arith)

first_piece : (rest piece more : List ℕ) → rest ≡ piece ++ more → length piece ≡ min 512 (length rest) → 0 < length rest → pieces rest ≡ piece ∷ pieces more
first_piece rest piece [] is size some =
    let whole : rest ≡ piece = is ∙ append-nil piece in
    let same = ap length whole in
    rw whole (short_piece piece (omega arith) (omega arith))
first_piece rest piece (b ∷ l) is size some =
    let longer = ap length is ∙ length-append piece (b ∷ l) in
    rw is (more_pieces piece (b ∷ l) (omega arith))

many_pieces : (k : ℕ) (s t : List ℕ) → length s ≡ k * 512 → pieces (s ++ t) ≡ pieces s ++ pieces t
many_pieces zero [] t e = refl
many_pieces zero (b ∷ l) t e = absurd (omega arith)
many_pieces (suc k) s t e =
    let front = length-take-le 512 s (omega arith) in
    let back = length-drop 512 s in
    let halves = take-append-drop 512 s in
    let far = append_assoc (take 512 s) (drop 512 s) t in
    let rest = many_pieces k (drop 512 s) t (omega arith) in
    ap (λ (l : List ℕ). pieces (l ++ t)) (sym halves)
    ∙ ap pieces far
    ∙ more_pieces (take 512 s) (drop 512 s ++ t) front
    ∙ ap (λ (l : List (List ℕ)). take 512 s ∷ l) rest
    ∙ ap (λ (l : List (List ℕ)). l ++ pieces t) (sym (more_pieces (take 512 s) (drop 512 s) front) ∙ ap pieces halves)

-- a part of a file of which all is whole blocks, or after which the file ends
abbrev pub Cut : List ℕ → Option (List ℕ) → Type 0
Cut part next = ((k : ℕ) × (length part ≡ k * 512)) ⊎ IsAtEnd next

cut_apart : (part rest : List ℕ) → Cut part (Some rest) → pieces (part ++ rest) ≡ pieces part ++ pieces rest
cut_apart part rest (inl whole) = many_pieces whole.0 part rest whole.1
cut_apart part rest (inr none) = rw none (ap pieces (append-nil part) ∙ sym (append-nil (pieces part)))

pub cut_by : (part : List ℕ) (next : Option (List ℕ)) (count size : ℕ) → size % 512 ≡ 0 → length part ≡ count → count ≤ size → (count < size → IsAtEnd next) → Cut part next
cut_by part next count size whole is fits at_end =
    elim (cases_lt count size) [ inl less ↦ inr (at_end less) | inr full ↦ inl (size / 512, omega arith) ]

module _ {S : Type 0} (w : Walker S) where
  -- pieces and then others, and then the file's end
  fed_more : (l m : List (List ℕ)) (p : Walking S) → fed_text w (l ++ m) p ≡ pieces_text w l p ++ fed_text w m (pieces_after w l p)
  fed_more [] m p = refl
  fed_more (b ∷ l) m p =
      let q = (feed_of w p b).after in
      ap (λ (t : List ℕ). (feed_of w p b).text ++ t) (fed_more l m q) ∙ sym (append_assoc (feed_of w p b).text (pieces_text w l q) (fed_text w m (pieces_after w l q)))

  -- after a refusal nothing is printed, and the walk stays ended
  record Silent (l : List (List ℕ)) (p : Walking S) : Type 0 where
    no_text : pieces_text w l p ≡ []
    stays : is_ended (pieces_after w l p).stage ≡ true

  silent : (l : List (List ℕ)) (s : S) → Silent l (record { state = s; stage = Ended })
  unfolding feed_of found_in found_text
  silent [] s = record { no_text = refl; stays = refl }
  silent (b ∷ l) s =
      let rest = silent l s in
      record { no_text = rest.no_text; stays = rest.stays }

  silent_after : (l : List (List ℕ)) (s : S) (g : Stage) → is_ended g ≡ true → Silent l (record { state = s; stage = g })
  silent_after l s Unopened e = never e
  silent_after l s (After i c) e = never e
  silent_after l s Ended e = silent l s

  no_end : (g : Stage) → is_ended g ≡ true → finish_of w.done g ≡ []
  unfolding finish_of
  no_end Unopened e = never e
  no_end (After i c) e = never e
  no_end Ended e = refl

  -- some input of which a rest is left to feed: what was written, and what the walk writes of the rest, is what it writes of all
  pub record Left (all : List ℕ) (first : Walking S) (old sent : Option (List ℕ)) (rest : List ℕ) (p : Walking S) : Type 0 where
    pub text : List ℕ
    pub adds : Appends old sent text
    pub whole : pieces_text w (pieces all) first ≡ text ++ pieces_text w (pieces rest) p
    pub after : pieces_after w (pieces all) first ≡ pieces_after w (pieces rest) p

  pub left_next : (all : List ℕ) (first : Walking S) (old sent new : Option (List ℕ)) (rest piece more : List ℕ) (p q : Walking S) → Left all first old sent rest p
      → rest ≡ piece ++ more → length piece ≡ min 512 (length rest) → 0 < length rest
      → Appends sent new (feed_of w p piece).text → q ≡ (feed_of w p piece).after → Left all first old new more q
  left_next all first old sent new rest piece more p q h is size some adds next =
      let cut = first_piece rest piece more is size some in
      let fed = feed_of w p piece in
      record {
        text = h.text ++ fed.text;
        adds = grows_twice old sent new h.text fed.text h.adds adds;
        whole = h.whole
            ∙ ap (λ (l : List (List ℕ)). h.text ++ pieces_text w l p) cut
            ∙ sym (append_assoc h.text fed.text (pieces_text w (pieces more) fed.after))
            ∙ ap (λ (v : Walking S). (h.text ++ fed.text) ++ pieces_text w (pieces more) v) (sym next);
        after = h.after
            ∙ ap (λ (l : List (List ℕ)). pieces_after w l p) cut
            ∙ ap (λ (v : Walking S). pieces_after w (pieces more) v) (sym next);
      }

  pub left_ended : (all : List ℕ) (first : Walking S) (old sent : Option (List ℕ)) (rest : List ℕ) (p : Walking S) → Left all first old sent rest p → is_ended p.stage ≡ true
      → Appends old sent (pieces_text w (pieces all) first) × (is_ended (pieces_after w (pieces all) first).stage ≡ true)
  left_ended all first old sent rest p h ended =
      let quiet = silent_after (pieces rest) p.state p.stage ended in
      let same : pieces_text w (pieces all) first ≡ h.text = h.whole ∙ ap (λ (t : List ℕ). h.text ++ t) quiet.no_text ∙ append-nil h.text in
      (subst (Appends old sent) (sym same) h.adds, rw h.after quiet.stays)

  -- a file of which some bytes are left to read, where it is known: what was written, and what the walk writes of the rest, is the text of the file
  pub record Owed (bytes left : List ℕ) (old sent : Option (List ℕ)) (p : Walking S) : Type 0 where
    pub state : S
    pub text : List ℕ
    pub adds : Appends old sent text
    pub whole : fed_text w (pieces bytes) (record { state = state; stage = Unopened }) ≡ text ++ fed_text w (pieces left) p

  abbrev pub Owes : Option (List ℕ) → Option (List ℕ) → Option (List ℕ) → Option (List ℕ) → Walking S → Type 0
  Owes None now old sent p = Unit {0}
  Owes (Some bytes) None old sent p = ⊥
  Owes (Some bytes) (Some left) old sent p = Owed bytes left old sent p

  pub begins : (known old : Option (List ℕ)) (p : Walking S) → p.stage ≡ Unopened → Owes known known old old p
  begins None old p e = tt
  begins (Some bytes) old p e =
      record {
        state = p.state;
        text = [];
        adds = grows_none old;
        whole = ap (λ (g : Stage). fed_text w (pieces bytes) (record { state = p.state; stage = g })) (sym e);
      }

  -- a part is read and fed
  pub goes_on : (known now next old sent new : Option (List ℕ)) (p q : Walking S) (part : List ℕ) → Owes known now old sent p → Consumes now next part
      → Cut part next → Appends sent new (pieces_text w (pieces part) p) → q ≡ pieces_after w (pieces part) p → Owes known next old new q
  goes_on None now next old sent new p q part h read cut adds after = tt
  goes_on (Some bytes) None next old sent new p q part h read cut adds after = absurd h
  goes_on (Some bytes) (Some left) None old sent new p q part h read cut adds after = absurd read
  goes_on (Some bytes) (Some left) (Some rest) old sent new p q part h read cut adds after =
      let text = pieces_text w (pieces part) p in
      let parts : pieces left ≡ pieces part ++ pieces rest = ap pieces read ∙ cut_apart part rest cut in
      record {
        state = h.state;
        text = h.text ++ text;
        adds = grows_twice old sent new h.text text h.adds adds;
        whole = h.whole
            ∙ ap (λ (t : List ℕ). h.text ++ t) (ap (λ (l : List (List ℕ)). fed_text w l p) parts ∙ fed_more (pieces part) (pieces rest) p
            ∙ ap (λ (v : Walking S). text ++ fed_text w (pieces rest) v) (sym after))
            ∙ sym (append_assoc h.text text (fed_text w (pieces rest) q));
      }

  -- as `fill` and `feed_pieces` say it
  pub next_part : (known now next old sent new : Option (List ℕ)) (p q : Walking S) (buf : List ℕ) (count : ℕ) → Owes known now old sent p
      → Consumes now next (take count buf) → length buf % 512 ≡ 0 → count ≤ length buf → (count < length buf → IsAtEnd next)
      → Appends sent new (pieces_text w (pieces (take count buf)) p) → q ≡ pieces_after w (pieces (take count buf)) p → Owes known next old new q
  next_part known now next old sent new p q buf count h read whole fits at_end adds after =
      let size = length-take-le count buf fits in
      goes_on known now next old sent new p q (take count buf) h read (cut_by (take count buf) next count (length buf) whole size fits at_end) adds after

  -- a refusal ends it
  pub refused : (known now old sent : Option (List ℕ)) (p : Walking S) → Owes known now old sent p → is_ended p.stage ≡ true → Walks w known old sent
  refused None now old sent p h ended = tt
  refused (Some bytes) None old sent p h ended = absurd h
  refused (Some bytes) (Some left) old sent p h ended =
      let quiet = silent_after (pieces left) p.state p.stage ended in
      let none : fed_text w (pieces left) p ≡ [] =
      ap (λ (l : List (List ℕ)). fed_text w l p) (sym (append-nil (pieces left))) ∙ fed_more (pieces left) [] p
      ∙ ap (λ (t : List ℕ). t ++ finish_of w.done (pieces_after w (pieces left) p).stage) quiet.no_text ∙ no_end _ quiet.stays in
      (h.state, subst (Appends old sent) (sym (h.whole ∙ ap (λ (t : List ℕ). h.text ++ t) none ∙ append-nil h.text)) h.adds)

  -- the file ends
  pub ended : (known now old sent new : Option (List ℕ)) (p : Walking S) → Owes known now old sent p → IsAtEnd now → Appends sent new (finish_of w.done p.stage) → Walks w known old new
  ended None now old sent new p h at_end adds = tt
  ended (Some bytes) None old sent new p h at_end adds = absurd h
  ended (Some bytes) (Some left) old sent new p h at_end adds =
      let last : fed_text w (pieces bytes) (record { state = h.state; stage = Unopened }) ≡ h.text ++ finish_of w.done p.stage =
      h.whole ∙ ap (λ (l : List ℕ). h.text ++ fed_text w (pieces l) p) at_end in
      (h.state, subst (Appends old new) (sym last) (grows_twice old sent new h.text (finish_of w.done p.stage) h.adds adds))

  -- what is held is written
  pub written : (known old contents new : Option (List ℕ)) (held : List ℕ) → Walks w known old (append_known contents held) → Appends contents new held → Walks w known old new
  written None old contents new held h adds = tt
  written (Some bytes) None contents new held h adds = (h.0, tt)
  written (Some bytes) (Some xs) None new held h adds = absurd h.1
  written (Some bytes) (Some xs) (Some ys) None held h adds = absurd adds
  written (Some bytes) (Some xs) (Some ys) (Some zs) held h adds = (h.0, adds ∙ h.1)
