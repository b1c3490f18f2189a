-- The text of an answer, and its length. Assumes nothing.
use Prim.Native.Nat.{ℕ, zero, suc, ◌+◌, ◌<◌, ◌≤◌}
use mathlib.Core.Path.{◌≡◌, refl, sym, ap, ◌∙◌}
use mathlib.Core.List.{List, [], ◌++◌, append_assoc, append-nil}
use native.Mathlib.Omega.{arith}
use lib.ListN.{length, take, get_or}
use Rattle.std.proofs.lemmas.List.{get_or-take}
use Rattle.charts.specs.declared.Action.{Action}
use Rattle.charts.specs.Records.{blank}
use Rattle.transcript.specs.Text.{ascii, decimal}
use Rattle.transcript.specs.Lines.{texts_from}
use Rattle.transcript.proofs.Lengths.{length_last, length_more, byte_short}
use Rattle.answering.specs.Answering.{refused_text, record_line}

-- one text more, at the end
texts_end : (f : ℕ → List ℕ) (n i : ℕ) → texts_from f (suc n) i ≡ texts_from f n i ++ f (n + i)
texts_end f zero i = let e : 0 + i ≡ i = omega arith in append-nil (f i) ∙ ap f (sym e)
texts_end f (suc n) i =
    let e : n + suc i ≡ suc n + i = omega arith in
    ap (λ l. f i ++ l) (texts_end f n (suc i)) ∙ rw (append_assoc, e)

texts_suc : (f : ℕ → List ℕ) (n : ℕ) → texts_from f (suc n) 0 ≡ texts_from f n 0 ++ f n
texts_suc f n = let g : n + 0 ≡ n = omega arith in texts_end f n 0 ∙ ap (λ k. texts_from f n 0 ++ f k) g

pub texts_push : (f : ℕ → List ℕ) (n : ℕ) → texts_from f (n + 1) 0 ≡ texts_from f n 0 ++ f n
texts_push f n = let e : n + 1 ≡ suc n = omega arith in ap (λ k. texts_from f k 0) e ∙ texts_suc f n

pub refused_short : (k : ℕ) → k < 256 → length (refused_text k) ≤ 384
refused_short k h = let a = length_more (ascii "refused") (decimal k) [] in let b = length_last (decimal k) in let c = byte_short k h in omega arith

-- the texts of the first records are those of a list that begins with them
pub same_texts : (l : List Action) (h n : ℕ) → n ≤ h → texts_from (record_line (take h l)) n 0 ≡ texts_from (record_line l) n 0
same_texts l h zero g = refl
same_texts l h (suc n) g =
    let same : get_or (take h l) n blank ≡ get_or l n blank = get_or-take h l n blank (omega arith) in
    texts_suc (record_line (take h l)) n ∙ rw (same_texts l h n (omega arith), same) (sym (texts_suc (record_line l) n))
