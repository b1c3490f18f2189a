-- The code's bus record as a state of the charts (specs/View.antt): the view loses nothing, and storing one node's record and marks is moving its cell.
use mathlib.Core.Path.{◌≡◌, refl, sym, ap, subst, ◌∙◌, fun_ext}
use mathlib.Core.Bool.{Bool, true, false, cond}
use mathlib.Core.List.{List}
use Prim.Native.Nat.{ℕ, ◌<◌}
use native.Mathlib.Omega.{arith}
use lib.Dec.{eqb}
use lib.ListN.{get_or, set, length}
use lib.Seq.{get_or-set_same, get_or-set_other, ext_get_or}
use borrow.Author.Tests.{eqb-true, eqb-false}
use Rattle.charts.specs.declared.Node.{Node}
use Rattle.charts.specs.declared.Phase.{Phase}
use Rattle.charts.specs.declared.Cell.{Cell}
use Rattle.charts.specs.declared.Bus.{Bus}
use Rattle.charts.specs.State.{State, upd, moved}
use Rattle.charts.specs.View.{fresh_node, mark, cell_of, view, Sized}

-- the record of the node in a cell
abbrev node_in : Cell → Node
node_in c = record { mode = c.mode; buffer = c.buffer; sending = c.sending }

-- two records of the code with the same view are the same: their arrays have 63 places, and the view shows each of them
pub view_exact : (b d : Bus) → Sized b → Sized d → view b ≡ view d → b ≡ d
unfolding view
view_exact b d y z e =
    λ t. record { n = ap (λ (s : State). s.n) e t; phase = ap (λ (s : State). s.phase) e t; nodes = nodes t; won = won t; pending = pending t; holder = holder t; misled = misled t; concatenated = ap (λ (s : State). s.concatenated) e t }
  where
    -- what is read of a cell is the same in both
    same : {A : Type 0} (f : Cell → A) (k : ℕ) → f ((view b).cell k) ≡ f ((view d).cell k)
    same f k = ap (λ s. f (s.cell k)) e

    nodes : b.nodes ≡ d.nodes
    nodes = ext_get_or fresh_node b.nodes d.nodes (y.nodes_size ∙ sym z.nodes_size) (λ k l. same node_in k)

    won : b.won ≡ d.won
    won = ext_get_or false b.won d.won (y.won_size ∙ sym z.won_size) (λ k l. same (λ c. c.won) k)

    pending : b.pending ≡ d.pending
    pending = ext_get_or false b.pending d.pending (y.pending_size ∙ sym z.pending_size) (λ k l. same (λ c. c.pending) k)

    holder : b.holder ≡ d.holder
    holder = ext_get_or false b.holder d.holder (y.holder_size ∙ sym z.holder_size) (λ k l. same (λ c. c.holder) k)

    misled : b.misled ≡ d.misled
    misled = ext_get_or false b.misled d.misled (y.misled_size ∙ sym z.misled_size) (λ k l. same (λ c. c.misled) k)

-- a stored element, read at any place
pub get_d_set : {A : Type 0} (l : List A) (i : ℕ) (a d : A) → i < length l → (k : ℕ) → get_or (set l i a) k d ≡ upd (λ k. get_or l k d) i a k
get_d_set {A} l i a d h k = go (eqb k i) refl
  where
    go : (b : Bool) → eqb k i ≡ b → get_or (set l i a) k d ≡ cond b a (get_or l k d)
    go true e = subst (λ x. get_or (set l i a) x d ≡ a) (sym (eqb-true k i e)) (get_or-set_same l i a d h)
    go false e = get_or-set_other l i k a d (eqb-false k i e)

-- storing a node's record and its four marks at i is moving cell i. (An array that an action leaves alone is `set l i (get_or l i d)`: `set-get_or` of lib.Seq)
pub view_set : (b : Bus) (p : Phase) (i : ℕ) (x : Node) (w q h m : Bool) → Sized b → i < 63 →
    view (record { n = b.n; phase = p; nodes = set b.nodes i x; won = set b.won i w; pending = set b.pending i q; holder = set b.holder i h; misled = set b.misled i m; concatenated = b.concatenated })
    ≡ moved (view b) p i (cell_of x w q h m)
unfolding view
view_set b p i x w q h m z l = λ t. record { n = b.n; phase = p; concatenated = b.concatenated; cell = fun_ext cells t }
  where
    in_it : {A : Type 0} (k : List A) → length k ≡ 63 → i < length k
    in_it k e = omega arith

    cells : (k : ℕ) → cell_of (get_or (set b.nodes i x) k fresh_node) (mark (set b.won i w) k) (mark (set b.pending i q) k) (mark (set b.holder i h) k) (mark (set b.misled i m) k)
        ≡ upd (view b).cell i (cell_of x w q h m) k
    cells k =
        rw (
          get_d_set b.nodes i x fresh_node (in_it b.nodes z.nodes_size) k,
          get_d_set b.won i w false (in_it b.won z.won_size) k,
          get_d_set b.pending i q false (in_it b.pending z.pending_size) k,
          get_d_set b.holder i h false (in_it b.holder z.holder_size) k,
          get_d_set b.misled i m false (in_it b.misled z.misled_size) k,
        )
        (go (eqb k i))
      where
        go : (o : Bool) → cell_of (cond o x (get_or b.nodes k fresh_node)) (cond o w (mark b.won k)) (cond o q (mark b.pending k)) (cond o h (mark b.holder k)) (cond o m (mark b.misled k))
            ≡ cond o (cell_of x w q h m) ((view b).cell k)
        go true = refl
        go false = refl
