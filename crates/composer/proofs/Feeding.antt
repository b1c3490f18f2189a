-- One line of a text, fed to a composer and put: it goes on as the text's meaning does, or stops with the line's fault. Assumes nothing.
use mathlib.Core.Path.{◌≡◌, refl, ap, sym, ◌∙◌}
use mathlib.Core.Bool.{Bool, true, false, cond}
use mathlib.Core.List.{List, [], ◌∷◌, ◌++◌, append-nil}
use Prim.Native.Nat.{ℕ, zero, suc, ◌*◌, ◌≤◌}
use native.Mathlib.Omega.{arith}
use lib.Dec.{eqb}
use lib.ListN.{length, replicate, length-append, length-replicate}
use Rattle.charts.specs.Valid.{is_size}
use Rattle.charts.specs.Records.{Decoded, read}
use Rattle.charts.specs.declared.Action.{Action}
use Rattle.charts.specs.Layout.{bound}
use Rattle.faults.specs.declared.Fault.{Fault}
use Rattle.faults.specs.declared.Fault.TheVariants as F
use Rattle.notation.specs.declared.Text.TheVariants.{Run}
use Rattle.notation.specs.declared.Line.{Line}
use Rattle.notation.specs.declared.Line.TheVariants as L
use Rattle.notation.specs.Grammar.{line_of}
use Rattle.notation.specs.Reading.{counted, line_shown, nodes_stage}
use Rattle.notation.specs.Meaning.{Said, on, off, read_on, nodes_on, line_on, Accepts}
use Rattle.notation.proofs.Fitting.{Fitting, line_fitting}
use Rattle.notation.proofs.Readers.{sized_nodes}
use Rattle.std.specs.Prelude.{Result, Ok, Err, Some}
use Rattle.composer.specs.declared.Composer.{Composer}
use Rattle.composer.specs.Composer.{stopped, on_line, for_nodes, to_put, nodes_as, read_taken, nodes_taken, action_taken, line_taken, feed_of, put_of, finish_of}
use Rattle.composer.specs.Composed.{put_times, put_bytes, settled, ends_from}
use Rattle.composer.proofs.Standing.{Stands, same_block, parts_length, puts}

-- a composer after i lines that gave n (0 before the `nodes` line) and the actions of l, all put
pub record After (i n : ℕ) (l : List Action) (bytes : List ℕ) (c : Composer) : Type 0 where
  pub stands : Stands n l bytes c
  pub idle : c.left ≡ 0
  pub line : c.line ≡ line_shown i
  pub sized : eqb n 0 ≡ false → is_size n ≡ true
  pub none : eqb n 0 ≡ true → l ≡ []

-- a composer after a line that the meaning takes, or that has a fault
abbrev pub Goes : ℕ → List ℕ → Composer → Said → Type 0
Goes i bytes c (on n l) = length l ≤ 31 * bound 4 → After i n l (bytes ++ put_bytes c.left c) (settled c)
Goes i bytes c (off f) = (c.fault ≡ Some f) × (c.line ≡ line_shown i)

none_put : {i n : ℕ} {l : List Action} {bytes : List ℕ} {c : Composer} (k : ℕ) → k ≡ 0 → After i n l bytes c → After i n l (bytes ++ put_bytes k c) (put_times k c)
none_put {bytes = bytes} zero e a = rw (append-nil bytes) a
none_put (suc k) e a = absurd (omega arith)

module _ (i n : ℕ) (l : List Action) (bytes : List ℕ) (c : Composer) (a : After i n l bytes c) where
  next_line : counted c.line ≡ line_shown (suc i)
  next_line = ap counted a.line

  -- the composer on the next line
  abbrev next : Composer
  next = on_line c (counted c.line)

  blank_goes : Goes (suc i) bytes next (on n l)
  blank_goes few =
      let at = a.stands.at in
      none_put c.left a.idle (record {
        stands = same_block a.stands (record { going = at.going; nodes = at.nodes; blocks = at.blocks; count = at.count; size = at.size; holds = at.holds });
        idle = a.idle;
        line = next_line;
        sized = a.sized;
        none = a.none;
      })

  nodes_go : (m : ℕ) → eqb n 0 ≡ true → is_size m ≡ true → Goes (suc i) bytes (for_nodes next m) (on m l)
  nodes_go m first size few =
      let s = a.stands in
      let at = a.stands.at in
      let empty = a.none first in
      let lengths = ap length empty in
      let sizes = parts_length s in
      let block : s.block ≡ 0 = omega arith in
      none_put c.left a.idle (record {
        stands = record {
          block = 0;
          full = [];
          under = [];
          parts = empty;
          size = refl;
          few = omega arith;
          at = record { going = at.going; nodes = refl; blocks = at.blocks ∙ block; count = at.count ∙ omega arith; size = at.size; holds = refl };
          accepted = rw empty tt;
          wrote = s.wrote ∙ rw block;
        };
        idle = a.idle;
        line = next_line;
        sized = λ e. size;
        none = λ e. empty;
      })

  action_goes : (x : Action) (k : ℕ) → eqb n 0 ≡ false → Accepts n x → Goes (suc i) bytes (to_put next x k) (on n (l ++ replicate k x))
  action_goes x k some good few =
      let at = a.stands.at in
      let sizes = length-append l (replicate k x) in
      let times = length-replicate k x in
      let w = puts n (a.sized some) x good k (line_shown (suc i)) l bytes (to_put next x k) (record {
        stands = same_block a.stands (record { going = at.going; nodes = at.nodes; blocks = at.blocks; count = at.count; size = at.size; holds = at.holds });
        action = refl;
        left = refl;
        line = next_line;
      }) (omega arith) in
      record { stands = w.stands; idle = w.left; line = w.line; sized = a.sized; none = λ e. absurd (let z : true ≡ false = sym e ∙ some in let y : ◌≡◌ {A = ℕ} 0 1 = cc in omega arith) }

  nodes_line_goes : (m : ℕ) → Goes (suc i) bytes (line_taken next (Ok (L.Nodes m))) (line_on n l (Ok (L.Nodes m)))
  unfolding line_taken nodes_taken
  nodes_line_goes m = rw (ap (λ (x : ℕ). nodes_stage x m) a.stands.at.nodes) (go (nodes_stage n m) (λ e. nodes_go m (sized_nodes n m e).0 (sized_nodes n m e).1))
    where
      go : (s : Result Unit Fault) → (s ≡ Ok tt → Goes (suc i) bytes (for_nodes next m) (on m l)) → Goes (suc i) bytes (nodes_as next m s) (nodes_on m l s)
      go (Ok u) f = f refl
      go (Err f) g = (refl, next_line)

  action_line_goes : (x : Action) (k : ℕ) → Fitting (Ok (L.Acts x k)) → Goes (suc i) bytes (line_taken next (Ok (L.Acts x k))) (line_on n l (Ok (L.Acts x k)))
  unfolding line_taken action_taken
  action_line_goes x k fits = rw (ap (λ (m : ℕ). eqb m 0) a.stands.at.nodes, ap (λ (m : ℕ). read m x) a.stands.at.nodes) (go (eqb n 0) (read n x) refl refl)
    where
      go : (b : Bool) (d : Decoded) → eqb n 0 ≡ b → read n x ≡ d
          → Goes (suc i) bytes
          (cond b (stopped next F.NodesMissing) (read_taken next x k d))
          (cond b (off F.NodesMissing) (read_on n l x k d))
      go true d p q = (refl, next_line)
      go false (Err j) p q = (refl, next_line)
      go false (Ok v) p q = action_goes x k p (record { fits = fits; move = v; reads = q })

  line_goes : (x : Result Line Fault) → Fitting x → Goes (suc i) bytes (line_taken next x) (line_on n l x)
  unfolding line_taken
  line_goes (Ok L.Blank) fits = blank_goes
  line_goes (Ok (L.Nodes m)) fits = nodes_line_goes m
  line_goes (Ok (L.Acts x k)) fits = action_line_goes x k fits
  line_goes (Ok (L.Actions k)) fits = (refl, next_line)
  line_goes (Ok (L.User k u)) fits = (refl, next_line)
  line_goes (Ok (L.Finds q d)) fits = (refl, next_line)
  line_goes (Err f) fits = (refl, next_line)

  fed : (t : List ℕ) → feed_of c t ≡ line_taken next (line_of Run t)
  unfolding feed_of
  fed t = rw (a.stands.at.going, a.idle)

  pub feed_goes : (t : List ℕ) → Goes (suc i) bytes (feed_of c t) (line_on n l (line_of Run t))
  feed_goes t = rw (fed t) (line_goes (line_of Run t) (line_fitting Run t))

-- a composer that has stopped takes no more
module _ (c : Composer) (f : Fault) (h : c.fault ≡ Some f) where
  feed_still : (t : List ℕ) → feed_of c t ≡ c
  unfolding feed_of
  feed_still t = rw h

  put_still : (put_of c).composer ≡ c
  unfolding put_of
  put_still = rw h

  finish_still : (finish_of c).composer ≡ c
  unfolding finish_of
  finish_still = rw h

  puts_still : (k : ℕ) → put_times k c ≡ c
  puts_still zero = refl
  puts_still (suc k) = rw put_still (puts_still k)

  feeds_still : (ts : List (List ℕ)) → ends_from ts c ≡ c
  feeds_still [] = finish_still
  feeds_still (t ∷ ts) = rw (feed_still t, puts_still c.left) (feeds_still ts)

  pub still : (k : ℕ) (ts : List (List ℕ)) → ends_from ts (put_times k c) ≡ c
  still k ts = rw (puts_still k) (feeds_still ts)
