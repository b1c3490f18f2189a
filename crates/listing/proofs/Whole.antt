-- What is listed of a file. Assumes nothing.
use mathlib.Core.Path.{◌≡◌, refl, ◌∙◌}
use mathlib.Core.List.{List, [], ◌∷◌}
use Prim.Native.Nat.{ℕ, suc}
use native.Mathlib.Omega.{arith}
use Rattle.charts.specs.Numbers as N
use Rattle.charts.specs.Records.{Decoded, read}
use Rattle.charts.specs.declared.Action.{Action}
use Rattle.std.specs.Prelude.{Ok, Err}
use Rattle.files.specs.Pieces.{pieces}
use Rattle.runfile.specs.Write.{refused_or, first_refusal}
use Rattle.files.specs.File.{AllFit, file_of, IsFile, Taken}
use Rattle.runfile.proofs.Loops.{never_zero}
use Rattle.files.proofs.Files.{one_file}
use Rattle.notation.specs.Meaning.{action_lines, text_of, run, meaning_of, AllAccepted}
use Rattle.notation.proofs.Texts.{text_back}
use Rattle.composer.specs.Composed.{composed}
use Rattle.composer.proofs.Whole.{composes}
use Rattle.walk.specs.Walk.{walking}
use Rattle.walk.specs.Feeding.{fed_text}
use Rattle.walk.proofs.Nodes.{whole as walk_whole}
use Rattle.walk.proofs.Files.{file_walked}
use Rattle.walk.specs.Reading.{started}
use Rattle.listing.specs.Listed.{naming, listed}
use Rattle.listing.proofs.Turns.{naming_n}

-- the pieces of any file, fed one after the other, and then the file's end, give exactly the text of the file
pub whole : (bytes : List ℕ) → fed_text naming (pieces bytes) started ≡ listed bytes
whole = walk_whole naming_n

-- actions that the writer takes for n nodes are accepted one by one
one_by_one : (n : ℕ) (l : List Action) → AllFit l → first_refusal n l ≡ N.accepted → AllAccepted n l
one_by_one n [] fits e = tt
one_by_one n (a ∷ l) fits e = go (read n a) refl (one_by_one n l fits.1) e
  where
    go : (d : Decoded) → read n a ≡ d → (first_refusal n l ≡ N.accepted → AllAccepted n l) → refused_or d (first_refusal n l) ≡ N.accepted → AllAccepted n (a ∷ l)
    go (Err k) r rest h = absurd (never_zero k h)
    go (Ok m) r rest h = (record { fits = fits.0; move = m; reads = r }, rest h)

-- their text is that of their lines
lines_are : (n i : ℕ) (l : List Action) → AllAccepted n l → walking naming l n i (λ s j. []) ≡ action_lines l
lines_are n i [] g = refl
lines_are n i (a ∷ l) g = rw (g.0.reads, lines_are n (suc i) l g.1)

-- every list of actions that the writer takes: what is listed of its file is the text of the list
pub file_listed : (n : ℕ) (l : List Action) (bytes : List ℕ) → Taken n l → IsFile n l bytes → listed bytes ≡ text_of n l
unfolding text_of
file_listed n l bytes t f =
    file_walked naming (λ first number count n b. refl) n l bytes f ∙ rw (lines_are n 0 l (one_by_one n l t.fits t.accepted))

pub listed_text : (n : ℕ) (l : List Action) → Taken n l → listed (file_of n l) ≡ text_of n l
listed_text n l t = file_listed n l (file_of n l) t (one_file n l t).is_file

-- and that text composes to the same bytes
text_means : (n : ℕ) (l : List Action) → Taken n l → meaning_of (text_of n l) ≡ run n l
text_means n [] t = absurd (omega (arith, t.some))
text_means n (a ∷ l) t = text_back n a l t.nodes (one_by_one n (a ∷ l) t.fits t.accepted)

pub lists_back : (n : ℕ) (l : List Action) → Taken n l → composed (listed (file_of n l)) ≡ file_of n l
lists_back n l t = rw (listed_text n l t) (composes (text_of n l) n l (text_means n l t) t.numbered).1
