-- The table that the constant holds is the chart: one test, computed over its 350 cells, gives the rule at each, and what a node reads there with what modes remember is what the chart says.
use mathlib.Core.Path.{◌≡◌, refl, sym, ap, ◌∙◌}
use Prim.Native.Nat.{ℕ, ◌<◌}
use lib.Dec.{T, eqb}
use lib.ListN.{get_or}
use borrow.Author.Tests.{eqb-true}
use Rattle.std.specs.Prelude.{None, Some}
use Rattle.charts.specs.declared.Mode.{Mode}
use Rattle.charts.specs.declared.Mode.TheVariants.{Rest, AwaitAck, AckBody, AckEnd, Opened, Addressed, HeadOwn, HeadAll, BodyOwn, BodyAll, TailOwn, TailAll, Wait, Owed, Sending, Told, Answering, Acking, Holding, Spurious, Listening, Asked}
use Rattle.charts.specs.declared.Signal.{Signal}
use Rattle.charts.specs.declared.Heard.{Heard}
use Rattle.charts.specs.Modes.{place_of, name_at}
use Rattle.charts.specs.Signals as S
use Rattle.charts.specs.Signals.{class_of, is_line, closes}
use Rattle.charts.specs.Reception.{answer, hears}
use Rattle.charts.specs.Table.{entry_of, entry}
use Rattle.charts.proofs.Tools.{pick, every_pair, pairs_at}
use Rattle.charts.proofs.Places.{key, place_lt, class-lt}
use Rattle.link.specs.Reading.{code, place_in, index_of, cells, reads, heard_by}

-- every cell of the table is the rule's
agrees : T (every_pair (λ p c. eqb (get_or cells (index_of p c) 0) (code (entry p c))) 25 14)
unfolding cells
agrees = tt

pub cell_is : (p c : ℕ) → p < 25 → c < 14 → get_or cells (index_of p c) 0 ≡ code (entry p c)
cell_is p c l k = eqb-true _ _ (pairs_at (λ p c. eqb (get_or cells (index_of p c) 0) (code (entry p c))) 25 14 agrees p c l k)

-- and names the rule's next place
names_next : T (every_pair (λ p c. eqb (place_in (code (entry p c))) (entry p c).place) 25 14)
names_next = tt

pub next_place : (p c : ℕ) → p < 25 → c < 14 → place_in (get_or cells (index_of p c) 0) ≡ (entry p c).place
next_place p c l k = ap place_in (cell_is p c l k) ∙ eqb-true _ _ (pairs_at (λ p c. eqb (place_in (code (entry p c))) (entry p c).place) 25 14 names_next p c l k)

-- a node that reads the cell of what the chart says does just that: nothing that a mode remembers is lost
kept : (me label : ℕ) (m : Mode) (c : ℕ) (s : Signal) → reads (code (entry_of (answer me label m c s))) me label m s ≡ answer me label m c s
unfolding name_at
kept me label m c s = go m
  where
    Kept : Mode → Heard → Type 0
    Kept m x = reads (code (entry_of x)) me label m s ≡ x

    go : (m : Mode) → Kept m (answer me label m c s)
    go Rest = pick (Kept Rest) (eqb c S.start) _ _ refl refl
    go AwaitAck = pick (Kept AwaitAck) (eqb c S.prefix) _ _ refl (pick (Kept AwaitAck) (eqb c S.start) _ _ refl (pick (Kept AwaitAck) (eqb c S.gap) _ _ refl refl))
    go AckBody = pick (Kept AckBody) (eqb c S.gap) _ _ refl (pick (Kept AckBody) (is_line c) _ _ refl (pick (Kept AckBody) (eqb c S.ack_good) _ _ refl refl))
    go (AckEnd (Some a)) = let K = Kept (AckEnd (Some a)) in pick K (eqb c S.end) _ _ refl (pick K (eqb c S.prefix) _ _ refl (pick K (eqb c S.gap) _ _ refl refl))
    go (AckEnd None) = pick (Kept (AckEnd None)) (eqb c S.gap) _ _ refl refl
    go Opened = pick (Kept Opened) (eqb c S.gap) _ _ refl (pick (Kept Opened) (is_line c) _ _ refl refl)
    go Addressed = let K = Kept Addressed in pick K (eqb c S.dest_own) _ _ refl (pick K (eqb c S.dest_all) _ _ refl (pick K (eqb c S.dest_other) _ _ refl (pick K (eqb c S.gap) _ _ refl refl)))
    go HeadOwn = pick (Kept HeadOwn) (eqb c S.header_good) _ _ refl refl
    go HeadAll = pick (Kept HeadAll) (eqb c S.header_good) _ _ refl (pick (Kept HeadAll) (eqb c S.gap) _ _ refl refl)
    go (BodyOwn h) = pick (Kept (BodyOwn h)) (eqb c S.data_good) _ _ refl (pick (Kept (BodyOwn h)) (eqb c S.data_bad) _ _ refl refl)
    go (BodyAll h) = let K = Kept (BodyAll h) in pick K (eqb c S.data_good) _ _ refl (pick K (eqb c S.data_bad) _ _ refl (pick K (eqb c S.gap) _ _ refl refl))
    go (TailOwn h (Some d)) = pick (Kept (TailOwn h (Some d))) (closes c) _ _ refl refl
    go (TailOwn h None) = pick (Kept (TailOwn h None)) (closes c) _ _ refl refl
    go (TailAll h (Some d)) = let K = Kept (TailAll h (Some d)) in pick K (closes c) _ _ refl (pick K (eqb c S.gap) _ _ refl refl)
    go (TailAll h None) = let K = Kept (TailAll h None) in pick K (closes c) _ _ refl (pick K (eqb c S.gap) _ _ refl refl)
    go Wait = pick (Kept Wait) (eqb c S.gap) _ _ refl refl
    go Owed = refl
    go (Sending k) = refl
    go Told = refl
    go Answering = refl
    go (Acking k a b) = refl
    go Holding = refl
    go Spurious = refl
    go Listening = pick (Kept Listening) (eqb c S.start) _ _ refl (pick (Kept Listening) (eqb c S.prefix) _ _ refl (pick (Kept Listening) (eqb c S.gap) _ _ refl refl))
    go Asked = refl

by_table : (me label : ℕ) (m : Mode) (s : Signal) → heard_by cells me label m s ≡ hears me label m s
unfolding heard_by hears
by_table me label m s =
    let c = class_of me s in
    ap (λ x. reads x me label m s) (cell_is (place_of m) c (place_lt m) (class-lt me s) ∙ ap code (sym (key me label m c s))) ∙ kept me label m c s

-- what nodes do by the chart's table is what they do by the chart
pub table_hears : heard_by cells ≡ hears
table_hears = λ i me label m s. by_table me label m s i
