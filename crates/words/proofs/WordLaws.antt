-- The words of a line, byte by byte. Assumes nothing.
use mathlib.Core.Path.{◌≡◌, refl, sym, ap}
use mathlib.Core.Bool.{Bool, true, false, cond, ◌||◌}
use mathlib.Core.List.{List, [], ◌∷◌, ◌++◌}
use Prim.Native.Nat.{ℕ, suc, ◌+◌, ◌-◌, ◌<◌, ◌≤◌}
use native.Mathlib.Omega.{arith}
use lib.ListN.{length, take, drop, get_or, length-drop, drop_of_length-le}
use lib.Seq.{take-suc, get_or-drop, drop-cons, length-take-le}
use Rattle.words.specs.Words.{is_blank, is_hash, ends_word, with_word, words_from, token_of, tokens_of_words, tokens_of}
use Rattle.words.specs.Cursors.{tokens_left}

-- a blank before the words
pub skip_one : (b : ℕ) (l : List ℕ) → is_blank b ≡ true → tokens_of (b ∷ l) ≡ tokens_of l
unfolding tokens_of
skip_one b l h = rw h

pub none_left : tokens_of [] ≡ []
unfolding tokens_of
none_left = refl

pub comment : (b : ℕ) (l : List ℕ) → is_blank b ≡ false → is_hash b ≡ true → tokens_of (b ∷ l) ≡ []
unfolding tokens_of
comment b l h g = rw (h, g)

-- the word under way
pub with_word_lem : (w : List ℕ) (l : List (List ℕ)) → 0 < length w → with_word w l ≡ w ∷ l
with_word_lem [] l h = absurd (omega arith)
with_word_lem (b ∷ w) l h = refl

or_left : (p q : Bool) → (p || q) ≡ false → p ≡ false
or_left true q h = h
or_left false q h = refl

or_right : (p q : Bool) → (p || q) ≡ false → q ≡ false
or_right true q h = absurd (let z : true ≡ false = h in let y : ◌≡◌ {A = ℕ} 0 1 = cc in omega arith)
or_right false q h = h

pub goes_on : (w : List ℕ) (b : ℕ) (l : List ℕ) → ends_word b ≡ false → words_from w (b ∷ l) ≡ words_from (w ++ (b ∷ [])) l
goes_on w b l h = rw (or_left (is_blank b) (is_hash b) h, or_right (is_blank b) (is_hash b) h)

pub ends-here : (w : List ℕ) (b : ℕ) (l : List ℕ) → 0 < length w → ends_word b ≡ true → words_from w (b ∷ l) ≡ w ∷ words_from [] (b ∷ l)
ends-here w b l h e = go (is_blank b) (is_hash b) e
  where
    go : (p q : Bool) → (p || q) ≡ true
        → cond p (with_word w (words_from [] l)) (cond q (with_word w []) (words_from (w ++ (b ∷ [])) l))
        ≡ w ∷ cond p (words_from [] l) (cond q [] (words_from (b ∷ []) l))
    go true q g = with_word_lem w (words_from [] l) h
    go false true g = with_word_lem w [] h
    go false false g = absurd (let y : ◌≡◌ {A = ℕ} 0 1 = cc in omega arith)

-- the bytes of a line from one place up to another
pub part-more : (line : List ℕ) (from i : ℕ) → from ≤ i → i < length line → take (suc i - from) (drop from line) ≡ take (i - from) (drop from line) ++ (get_or line i 0 ∷ [])
part-more line from i h g =
    let e : suc i - from ≡ suc (i - from) = omega arith in
    let f : from + (i - from) ≡ i = omega arith in
    let short : i - from < length (drop from line) = simp length-drop (omega arith) in
    rw (e, take-suc (drop from line) (i - from) 0 short, get_or-drop, f)

pub part_some : (line : List ℕ) (from i : ℕ) → from < i → i ≤ length line → 0 < length (take (i - from) (drop from line))
part_some line from i h g =
    let fits : i - from ≤ length (drop from line) = simp length-drop (omega arith) in
    rw (length-take-le (i - from) (drop from line) fits) (omega arith)

-- a word that begins at a place: its first byte, a byte more, and its end
module _ (line : List ℕ) (from : ℕ) where
  pub begins : from < length line → ends_word (get_or line from 0) ≡ false
      → words_from (take (suc from - from) (drop from line)) (drop (suc from) line) ≡ words_from [] (drop from line)
  begins h e =
      let one : suc from - from ≡ 1 = omega arith in
      rw (one, drop-cons line from 0 h) (sym (goes_on [] (get_or line from 0) (drop (suc from) line) e))

  pub one_more : (i : ℕ) → from < i → i < length line → ends_word (get_or line i 0) ≡ false
      → words_from (take (suc i - from) (drop from line)) (drop (suc i) line) ≡ words_from (take (i - from) (drop from line)) (drop i line)
  one_more i h g e =
      rw (part-more line from i (omega arith) g, drop-cons line i 0 g) (sym (goes_on (take (i - from) (drop from line)) (get_or line i 0) (drop (suc i) line) e))

  pub word_ends : (i : ℕ) → from < i → i < length line → ends_word (get_or line i 0) ≡ true
      → words_from (take (i - from) (drop from line)) (drop i line) ≡ words_from [] (drop from line)
      → tokens_left line from ≡ token_of (take (i - from) (drop from line)) ∷ tokens_left line i
  unfolding tokens_of
  word_ends i h g e inv =
      rw (← inv, drop-cons line i 0 g)
      (ap tokens_of_words (ends-here (take (i - from) (drop from line)) (get_or line i 0) (drop (suc i) line) (part_some line from i h (omega arith)) e))

  pub line_ends : (i : ℕ) → from < i → i ≤ length line → length line ≤ i
      → words_from (take (i - from) (drop from line)) (drop i line) ≡ words_from [] (drop from line)
      → tokens_left line from ≡ token_of (take (i - from) (drop from line)) ∷ tokens_left line i
  unfolding tokens_of
  line_ends i h g e inv =
      rw (← inv, drop_of_length-le line e)
      (ap tokens_of_words (with_word_lem (take (i - from) (drop from line)) [] (part_some line from i h g)))
