-- The table of cases, by one computed test.
use mathlib.Core.Path.{◌≡◌, refl}
use mathlib.Core.Bool.{Bool, true, false, ◌&&◌}
use mathlib.Core.List.Memᴰ
use mathlib.Core.List.{List, [], ◌∷◌, Memᴰ}
use mathlib.Core.Logic.{⊎_elim}
use Prim.Native.Nat.{ℕ}
use borrow.Author.Tests.{eqb-true}
use lib.Dec.{eqb}
use lib.ListN.{drop}
use Rattle.charts.proofs.Tools.{never, and-true}
use Rattle.charts.specs.Records.{read, clean, move_of}
use Rattle.charts.specs.Reception.{hears}
use Rattle.charts.specs.Outputs.{output}
use Rattle.charts.specs.Arrivals.{arrives}
use Rattle.charts.specs.Actions.{request, arbitrate, respond, clock, carry, grant, gap, reset, ask, decide, outcome}
use Rattle.charts.specs.Valid.{mode_fits, cell_fits, phase_fits, valid}
use Rattle.charts.specs.Step.{step, play, look}
use Rattle.charts.specs.Layout.{bytes_of, action_at}
use Rattle.runfile.specs.Block.{check_of, head_of, count_fits}
use Rattle.runfile.specs.Write.{body_of, block_with}
use Rattle.files.specs.File.{file_of}
use Rattle.transcript.specs.Text.{decimal}
use Rattle.transcript.specs.Lines.{line_of, nodes_line, done_line, refused_line}
use Rattle.player.specs.Printed.{printed}
use Rattle.player.specs.Cases.{Row, cases, case_h}

abbrev same : List ℕ → List ℕ → Bool
same [] [] = true
same [] (y ∷ t) = false
same (x ∷ s) [] = false
same (x ∷ s) (y ∷ t) = eqb x y && same s t

abbrev hold : List Row → Bool
hold [] = true
hold (r ∷ l) = same (printed r.file) r.text && hold l

-- the one computed test
cases_hold : hold cases ≡ true
unfolding read clean move_of hears output arrives request arbitrate respond clock carry grant gap reset ask decide outcome mode_fits cell_fits phase_fits valid step play look bytes_of action_at check_of head_of count_fits body_of block_with file_of decimal line_of nodes_line done_line refused_line
cases_hold = refl

same_eq : (s t : List ℕ) → same s t ≡ true → s ≡ t
same_eq [] [] e = refl
same_eq [] (y ∷ t) e = never e
same_eq (x ∷ s) [] e = never e
same_eq (x ∷ s) (y ∷ t) e =
    let both = and-true (eqb x y) (same s t) e in
    rw (eqb-true x y both.0, same_eq s t both.1)

row_holds : (l : List Row) → hold l ≡ true → (r : Row) → Memᴰ r l → printed r.file ≡ r.text
row_holds [] e r m = absurd (Memᴰ.not-nil m)
row_holds (q ∷ l) e r m =
    let both = and-true (same (printed q.file) q.text) (hold l) e in
    ⊎_elim (λ is. rw is (same_eq (printed q.file) q.text both.0)) (row_holds l both.1 r) (Memᴰ.cases_cons m)

-- every row of the table: what the documents say of its file is what is printed
pub cases_printed : (r : Row) → Memᴰ r cases → printed r.file ≡ r.text
cases_printed = row_holds cases cases_hold

-- H: "check 47"
pub check_of_h : drop 510 case_h.file ≡ 47 ∷ 0 ∷ []
unfolding bytes_of body_of block_with file_of
check_of_h = refl
