-- A plan carried out in place, on the arrays of a bus, is a step on its view; by the chart's table, and where it is right whether a node is Asked, it is the charts' step. Assumes nothing.
use mathlib.Core.Path.{◌≡◌, refl, sym, ap, ap₂, ◌∙◌}
use mathlib.Core.Bool.{Bool, ◌&&◌}
use mathlib.Core.List.{List}
use Prim.Native.Nat.{ℕ, ◌<◌}
use native.Mathlib.Omega.{arith}
use lib.Dec.{ltb}
use lib.ListN.{get_or, set}
use borrow.Author.Tests.{lt-ltb}
use Rattle.charts.specs.declared.Node.{Node}
use Rattle.charts.specs.declared.Bus.{Bus}
use Rattle.charts.specs.declared.Cell.{Cell}
use Rattle.charts.specs.declared.Phase.{Phase}
use Rattle.charts.specs.declared.Action.{Action}
use Rattle.charts.proofs.Tools.{and_yes}
use Rattle.charts.specs.declared.Refusal.{Refusal}
use Rattle.std.specs.Prelude.{Ok, Err}
use Rattle.charts.specs.Numbers.{number_of}
use Rattle.charts.specs.Records.{Decoded}
use Rattle.charts.specs.Reception.{Reception, hears}
use Rattle.charts.specs.State.{State, concatenated_after}
use Rattle.charts.specs.Actions.{next_of}
use Rattle.charts.specs.Step.{Result, play, refuses, step_with, some_asked}
use Rattle.charts.specs.View.{view, cell_of, mark, fresh_node, Sized}
use Rattle.link.specs.Reading.{cells, heard_by}
use Rattle.link.proofs.Reading.{table_hears}
use Rattle.deciding.specs.declared.plans.Plan.{Plan}
use Rattle.bus.specs.Advance.{glance, advance_of, step_by, advance_by}
use Rattle.deciding.specs.Marks.{unmarked, clears_misled, clears_won}
use Rattle.deciding.specs.Plans.{Planned, Tried, Ready, aimed, planned, tried}
use Rattle.bus.proofs.ReadLaws.{plan_fits}
use Rattle.bus.proofs.ViewLaws.{view_n, view_phase, stored, applied, carried}

-- a record's plan, or what refused it, in one answer
abbrev pub flat : Tried Refusal → Planned
flat (Err k) = Err k
flat (Ok r) = r

-- what passes 12 is planned
tried_ready : (h : Reception) (n : ℕ) (p : Phase) (b q : Bool) (i : ℕ) (c : Cell) (ws ps hs : ℕ → Bool) (d : Decoded) → Ready n p ps d → i < 63 →
    flat (tried h n p b q i c ws ps hs d) ≡ planned h n p b q i c ws ps hs d
tried_ready h n p b q i c ws ps hs (Err k) r l = refl
tried_ready h n p b q i c ws ps hs (Ok m) r l = rw (lt-ltb n 64 (let s = r.size in omega arith), lt-ltb (next_of p) 63 r.next, lt-ltb i 63 l)

module _ (b : Bus) (d : Decoded) (i : ℕ) (c : Cell) (r : Tried Refusal) (size : Sized b) (ready : Ready b.n b.phase (mark b.pending) d) (l : i < 63)
    (is-aim : i ≡ aimed b.n b.phase (mark b.pending) d)
    (is-cell : c ≡ cell_of (get_or b.nodes i fresh_node) (mark b.won i) (mark b.pending i) (mark b.holder i) (mark b.misled i))
    (h : Reception) (q : Bool) (is-plan : r ≡ tried h b.n b.phase b.concatenated q i c (mark b.won) (mark b.pending) (mark b.holder) d) where
  plan_is : flat r ≡ planned h b.n b.phase b.concatenated q i c (mark b.won) (mark b.pending) (mark b.holder) d
  plan_is = ap flat is-plan ∙ tried_ready h b.n b.phase b.concatenated q i c (mark b.won) (mark b.pending) (mark b.holder) d ready l

  -- a record that has no plan, or is refused itself, leaves the bus as it is
  pub stays : (k : Refusal) → flat r ≡ Err k → refuses (view b) (number_of k) ≡ step_by h q (view b) d
  stays k e = ap (applied (view b) i) (sym e) ∙ carried h q b d i c (flat r) is-aim is-cell plan_is

  module _ (p : Plan) (planned-p : r ≡ Ok (Ok p)) where
    -- a plan is one for at most 63 nodes
    clears_fit : (o a : Bool) → o ≡ a → (o && ltb b.n 64) ≡ a
    clears_fit o a e = let s = plan_fits b d i c p ready h q (sym (ap flat planned-p) ∙ plan_is) in rw (lt-ltb b.n 64 (omega arith), and_yes o) e

    -- v, w and m are what is then stored of the node, and the marks won and misled once `x` and `y` have asked to clear them; o is the bus's own mark
    pub carries : (v : Node) (w m : List Bool) (x y o : Bool) → v ≡ record { mode = p.cell.mode; buffer = p.cell.buffer; sending = p.cell.sending } →
        x ≡ clears_won p.marking → mark w ≡ unmarked (x && ltb b.n 64) b.n (mark (set b.won i p.cell.won)) →
        y ≡ clears_misled p.marking → mark m ≡ unmarked (y && ltb b.n 64) b.n (mark (set b.misled i p.cell.misled)) →
        o ≡ concatenated_after p.marking b.concatenated →
        ◌≡◌ {A = Result} (record { number = 0; report = p.report; state = view (record { n = b.n; phase = p.phase; nodes = set b.nodes i v; won = w; pending = set b.pending i p.cell.pending; holder = set b.holder i p.cell.holder; misled = m; concatenated = o }) })
        (step_by h q (view b) d)
    carries v w m x y o ev ex ew ey em eo =
        ap (λ s. record { number = 0; report = p.report; state = s }) (stored b p.phase i p.cell p.marking v w m o size l ev
        (ew ∙ ap (λ o. unmarked o b.n (mark (set b.won i p.cell.won))) (clears_fit x _ ex))
        (em ∙ ap (λ o. unmarked o b.n (mark (set b.misled i p.cell.misled))) (clears_fit y _ ey)) eo)
        ∙ ap (applied (view b) i) (sym (ap flat planned-p)) ∙ carried h q b d i c (flat r) is-aim is-cell plan_is

-- of a record that was looked at as `advance` looks at it
pub advances : (b : Bus) (a : Action) → step_with (view b) (glance b.n b.phase a) ≡ advance_of (view b) a
unfolding advance_of
advances b a = rw (view_n b, view_phase b)

pub advances_by : (h : Reception) (q : Bool) (b : Bus) (a : Action) → step_by h q (view b) (glance b.n b.phase a) ≡ advance_by h q (view b) a
unfolding advance_by
advances_by h q b a = rw (view_n b, view_phase b)

-- by the chart's table, and where it is right whether a node is Asked, a step is the charts'
pub charted : (s : State) (d : Decoded) → step_by hears (some_asked s) s d ≡ step_with s d
unfolding play
charted s (Err k) = refl
charted s (Ok m) = refl

module _ (t : List ℕ) (q : Bool) (s : State) (is-table : t ≡ cells) (is-asked : q ≡ some_asked s) where
  pub by_the_chart : (d : Decoded) → step_by (heard_by t) q s d ≡ step_with s d
  by_the_chart d = ap₂ (λ h q. step_by h q s d) (ap heard_by is-table ∙ table_hears) is-asked ∙ charted s d

  pub advance_by_the_chart : (a : Action) → advance_by (heard_by t) q s a ≡ advance_of s a
  unfolding advance_by advance_of
  advance_by_the_chart a = by_the_chart (glance s.n s.phase a)
