-- A plan carried out on the arrays of a bus is the charts' step on its view. Assumes nothing.
use mathlib.Core.Path.{◌≡◌, refl, sym, ◌∙◌, fun_ext}
use mathlib.Core.Bool.{Bool, true, false, cond, ◌&&◌, not}
use mathlib.Core.List.{List, map}
use Prim.Native.Nat.{ℕ, zero, suc, ◌<◌}
use native.Mathlib.Omega.{arith}
use lib.Dec.{eqb, ltb}
use lib.ListN.{get_or, set, length, length-map, replicate}
use Rattle.charts.specs.declared.Node.{Node}
use Rattle.charts.specs.declared.Bus.{Bus}
use Rattle.charts.specs.declared.Cell.{Cell}
use Rattle.charts.specs.declared.Phase.{Phase}
use Rattle.charts.specs.declared.Phase.TheVariants.{Idle}
use Rattle.charts.specs.declared.Marking.{Marking}
use Rattle.charts.specs.declared.Marking.TheVariants as M
use Rattle.std.specs.Prelude.{Ok, Err}
use Rattle.charts.specs.Numbers.{number_of}
use Rattle.charts.specs.Records.{Decoded}
use Rattle.charts.specs.Reception.{Reception}
use Rattle.charts.specs.Actions.{Outcome, closed, does}
use Rattle.charts.specs.State.{State, upd, moved, concatenated_after, remarked, wons, pendings, holders, fresh, fresh_cell}
use Rattle.charts.specs.Step.{Result, refuses, carry_out, about}
use Rattle.charts.specs.View.{view, cell_of, mark, fresh_node, Sized}
use Rattle.deciding.specs.Marks.{unmarked, clears_misled, clears_won}
use Rattle.deciding.specs.Plans.{Planned, settled, aimed, planned}
use Rattle.bus.specs.Advance.{comes_to_by, step_by}
use Rattle.charts.proofs.Views.{get_d_set}

pub view_n : (b : Bus) → (view b).n ≡ b.n
unfolding view
view_n b = refl

pub view_phase : (b : Bus) → (view b).phase ≡ b.phase
unfolding view
view_phase b = refl

-- what owning an array of structs tells of its length
pub length_mapped : (X Y : Type 0) (f : X → Y) (l : List X) (n : ℕ) → length (map f l) ≡ n → length l ≡ n
length_mapped X Y f l n e = sym (length-map l f) ∙ e

blank_at : {A : Type 0} (n k : ℕ) (a : A) → get_or (replicate n a) k a ≡ a
blank_at zero k a = refl
blank_at (suc n) zero a = refl
blank_at (suc n) (suc k) a = blank_at n k a

-- arrays of fresh nodes and of no marks are the fresh bus
pub fresh_view : (m n : ℕ) →
    view (record { n = n; phase = Idle; nodes = replicate m fresh_node; won = replicate m false; pending = replicate m false; holder = replicate m false; misled = replicate m false; concatenated = false }) ≡ fresh n
unfolding view
fresh_view m n = λ t. record { n = n; phase = Idle; concatenated = false; cell = fun_ext cells t }
  where
    cells : (k : ℕ) → cell_of (get_or (replicate m fresh_node) k fresh_node) (mark (replicate m false) k) (mark (replicate m false) k) (mark (replicate m false) k) (mark (replicate m false) k) ≡ fresh_cell
    cells k = rw (blank_at m k fresh_node, blank_at m k false)

abbrev node_of : Cell → Node
node_of c = record { mode = c.mode; buffer = c.buffer; sending = c.sending }

-- one cell stored, the marks w and m of all nodes cleared or not, and o the bus's own mark
pub stored : (b : Bus) (p : Phase) (i : ℕ) (c : Cell) (x : Marking) (v : Node) (w m : List Bool) (o : Bool) → Sized b → i < 63 → v ≡ node_of c →
    mark w ≡ unmarked (clears_won x) b.n (mark (set b.won i c.won)) →
    mark m ≡ unmarked (clears_misled x) b.n (mark (set b.misled i c.misled)) →
    o ≡ concatenated_after x b.concatenated →
    view (record { n = b.n; phase = p; nodes = set b.nodes i v; won = w; pending = set b.pending i c.pending; holder = set b.holder i c.holder; misled = m; concatenated = o })
    ≡ remarked x (moved (view b) p i c)
unfolding view
stored b p i c x v w m o z l ev ew em eo = by x ew em eo
  where
    in_it : {A : Type 0} (k : List A) → length k ≡ 63 → i < length k
    in_it k e = omega arith

    -- the cell k of the arrays after the stores, with its won and misled marks passed through f and g
    at : (f g : Bool → Bool) (k : ℕ) →
        cell_of (get_or (set b.nodes i v) k fresh_node) (f (get_or (set b.won i c.won) k false)) (get_or (set b.pending i c.pending) k false) (get_or (set b.holder i c.holder) k false) (g (get_or (set b.misled i c.misled) k false))
        ≡ record { mode = (upd (view b).cell i c k).mode; buffer = (upd (view b).cell i c k).buffer; sending = (upd (view b).cell i c k).sending; won = f (upd (view b).cell i c k).won; pending = (upd (view b).cell i c k).pending; holder = (upd (view b).cell i c k).holder; misled = g (upd (view b).cell i c k).misled }
    at f g k =
        rw (
          get_d_set b.nodes i v fresh_node (in_it b.nodes z.nodes_size) k,
          get_d_set b.won i c.won false (in_it b.won z.won_size) k,
          get_d_set b.pending i c.pending false (in_it b.pending z.pending_size) k,
          get_d_set b.holder i c.holder false (in_it b.holder z.holder_size) k,
          get_d_set b.misled i c.misled false (in_it b.misled z.misled_size) k,
          ev,
        )
        (go (eqb k i))
      where
        go : (o : Bool) →
            cell_of (cond o (node_of c) (get_or b.nodes k fresh_node)) (f (cond o c.won (get_or b.won k false))) (cond o c.pending (get_or b.pending k false)) (cond o c.holder (get_or b.holder k false)) (g (cond o c.misled (get_or b.misled k false)))
            ≡ record { mode = (cond o c ((view b).cell k)).mode; buffer = (cond o c ((view b).cell k)).buffer; sending = (cond o c ((view b).cell k)).sending; won = f (cond o c ((view b).cell k)).won; pending = (cond o c ((view b).cell k)).pending; holder = (cond o c ((view b).cell k)).holder; misled = g (cond o c ((view b).cell k)).misled }
        go true = refl
        go false = refl

    marks : (k : ℕ) → Bool → Bool → Cell
    marks k = λ q r. cell_of (get_or (set b.nodes i v) k fresh_node) q (get_or (set b.pending i c.pending) k false) (get_or (set b.holder i c.holder) k false) r

    by : (x : Marking) → mark w ≡ unmarked (clears_won x) b.n (mark (set b.won i c.won)) →
        mark m ≡ unmarked (clears_misled x) b.n (mark (set b.misled i c.misled)) →
        o ≡ concatenated_after x b.concatenated →
        view (record { n = b.n; phase = p; nodes = set b.nodes i v; won = w; pending = set b.pending i c.pending; holder = set b.holder i c.holder; misled = m; concatenated = o })
        ≡ remarked x (moved (view b) p i c)
    by M.Nothing ew em eo = λ t. record { n = b.n; phase = p; concatenated = eo t; cell = fun_ext (λ k. (λ t. marks k (ew t k) (em t k)) ∙ at (λ q. q) (λ q. q) k) t }
    by M.Misled ew em eo = λ t. record { n = b.n; phase = p; concatenated = eo t; cell = fun_ext (λ k. (λ t. marks k (ew t k) (em t k)) ∙ at (λ q. q) (λ q. q && not (ltb k b.n)) k) t }
    by M.Won ew em eo = λ t. record { n = b.n; phase = p; concatenated = eo t; cell = fun_ext (λ k. (λ t. marks k (ew t k) (em t k)) ∙ at (λ q. q && not (ltb k b.n)) (λ q. q) k) t }
    by (M.Concatenated y) ew em eo = λ t. record { n = b.n; phase = p; concatenated = eo t; cell = fun_ext (λ k. (λ t. marks k (ew t k) (em t k)) ∙ at (λ q. q) (λ q. q) k) t }

-- what a step returns that is planned: a plan for node i carried out, or the refusal
abbrev pub applied : State → ℕ → Planned → Result
applied s i (Ok p) = record { number = 0; report = p.report; state = remarked p.marking (moved s p.phase i p.cell) }
applied s i (Err k) = refuses s (number_of k)

plays : (s : State) (i : ℕ) (o : Outcome) → applied s i (settled o) ≡ carry_out s i o
plays s i closed = refl
plays s i (does r p c x) = refl

abbrev aim : State → Decoded → ℕ
aim s d = aimed s.n s.phase (pendings s.cell) d

steps : (h : Reception) (q : Bool) (s : State) (d : Decoded) → applied s (aim s d) (planned h s.n s.phase s.concatenated q (aim s d) (s.cell (aim s d)) (wons s.cell) (pendings s.cell) (holders s.cell) d) ≡ step_by h q s d
steps h q s (Err k) = refl
steps h q s (Ok m) = plays s (about s m) (comes_to_by h q s m)

pub carried : (h : Reception) (q : Bool) (b : Bus) (d : Decoded) (i : ℕ) (c : Cell) (p : Planned) → i ≡ aimed b.n b.phase (mark b.pending) d →
    c ≡ cell_of (get_or b.nodes i fresh_node) (mark b.won i) (mark b.pending i) (mark b.holder i) (mark b.misled i) →
    p ≡ planned h b.n b.phase b.concatenated q i c (mark b.won) (mark b.pending) (mark b.holder) d →
    applied (view b) i p ≡ step_by h q (view b) d
unfolding view
carried h q b d i c p ei ec ep = rw (ep, ec, ei) (steps h q (view b) d)
