-- A line made of words has these words. Assumes nothing.
use mathlib.Core.Path.{◌≡◌, refl, ap, ◌∙◌}
use mathlib.Core.Bool.{Bool, true, false, ◌&&◌, not}
use mathlib.Core.List.{List, [], ◌∷◌, ◌++◌, append_assoc, append-nil}
use Prim.Native.Nat.{ℕ, suc, ◌+◌, ◌<◌, ◌≤◌}
use native.Mathlib.Omega.{arith}
use lib.Dec.{eqb}
use lib.ListN.{length, length-append}
use Rattle.transcript.specs.Lines.{line}
use Rattle.words.specs.Words.{ends_word, words_from, words_of, tokens_of_words, tokens_of}
use Rattle.words.specs.Lines.{spaced}
use Rattle.words.proofs.WordLaws.{with_word_lem, goes_on}

-- bytes that stand in a word: no blank, no `#`, no newline
abbrev pub Plain : List ℕ → Type 0
Plain [] = Unit
Plain (b ∷ w) = (ends_word b ≡ false) × (eqb b 10 ≡ false) × Plain w

abbrev is_plain : List ℕ → Bool
is_plain [] = true
is_plain (b ∷ w) = not (ends_word b) && (not (eqb b 10) && is_plain w)

pub record Good (w : List ℕ) : Type 0 where
  pub some : 0 < length w
  pub plain : Plain w

abbrev pub AllGood : List (List ℕ) → Type 0
AllGood [] = Unit
AllGood (w ∷ l) = Good w × AllGood l

-- a word that is given is tested by computing
plain_by : (w : List ℕ) → is_plain w ≡ true → Plain w
plain_by [] h = tt
plain_by (b ∷ w) h = go (ends_word b) (eqb b 10) (is_plain w) refl refl h (plain_by w)
  where
    go : (p q r : Bool) → ends_word b ≡ p → eqb b 10 ≡ q → (not p && (not q && r)) ≡ true → (r ≡ true → Plain w) → (ends_word b ≡ false) × (eqb b 10 ≡ false) × Plain w
    go false false r ep eq e k = (ep, eq, k e)
    go false true r ep eq e k = absurd (let z : ◌≡◌ {A = ℕ} 0 1 = cc in omega arith)
    go true q r ep eq e k = absurd (let z : ◌≡◌ {A = ℕ} 0 1 = cc in omega arith)

pub good_by : (b : ℕ) (w : List ℕ) → is_plain (b ∷ w) ≡ true → Good (b ∷ w)
good_by b w h = record { some = omega arith; plain = plain_by (b ∷ w) h }

-- the bytes of a word under way
pub word_then : (w v l : List ℕ) → Plain v → words_from w (v ++ l) ≡ words_from (w ++ v) l
word_then w [] l p = rw append-nil
word_then w (b ∷ v) l p =
    goes_on w b (v ++ l) p.0
    ∙ (word_then (w ++ (b ∷ [])) v l p.2 ∙ rw append_assoc)

pub words_back : (ws : List (List ℕ)) → AllGood ws → words_of (spaced ws) ≡ ws
words_back [] g = refl
words_back (w ∷ []) g =
    rw append-nil at (word_then [] w [] g.0.plain) ∙ with_word_lem w [] g.0.some
words_back (w ∷ v ∷ l) g =
    word_then [] w (32 ∷ spaced (v ∷ l)) g.0.plain
    ∙ (with_word_lem w (words_from [] (spaced (v ∷ l))) g.0.some ∙ ap (λ (x : List (List ℕ)). w ∷ x) (words_back (v ∷ l) g.1))

-- how long such a line is at most
abbrev pub total : List (List ℕ) → ℕ
total [] = 0
total (w ∷ l) = suc (length w + total l)

pub spaced_short : (ws : List (List ℕ)) → length (spaced ws) ≤ total ws
spaced_short [] = omega arith
spaced_short (w ∷ []) = omega arith
spaced_short (w ∷ v ∷ l) =
    let h = spaced_short (v ∷ l) in
    simp length-append (omega arith)

-- so these are the words that it is read as
pub tokens_back : (ws : List (List ℕ)) → AllGood ws → tokens_of (spaced ws) ≡ tokens_of_words ws
unfolding tokens_of
tokens_back ws g = ap tokens_of_words (words_back ws g)

-- a printed line is that line and a newline
pub line_spaced : (ws : List (List ℕ)) → line ws ≡ spaced ws ++ (10 ∷ [])
line_spaced [] = refl
line_spaced (w ∷ []) = refl
line_spaced (w ∷ v ∷ l) = rw (line_spaced (v ∷ l), append_assoc)
