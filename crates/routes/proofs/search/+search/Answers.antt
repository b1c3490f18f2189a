use Rattle.std.proofs.Common.{◌≡◌, ℕ, ◌-◌, arith}
use mathlib.Core.Path.{sym, ap, ◌∙◌}
use Rattle.charts.specs.View.{view, told}
use Rattle.bus.proofs.ViewLaws.{view_n}
use lib.Dec.{eqb}
use Rattle.charts.specs.Numbers.{err_number, accepted}
use Rattle.charts.proofs.Steps.{is_valid, refuses_it}
use Rattle.routes.specs.Choices.{choices}
use Rattle.routes.specs.Search.{first_from, searched, following, trail_of}
use Rattle.routes.proofs.Deeper.{none_led, stays_valid, led, not_led, not_open}
use Rattle.routes.proofs.search.+search.Goals as goal
use Rattle.routes.proofs.search.+search.Goals.{in-Ok+in_default-search, in_default}

pub returns-then-gives : goal.returns-then-gives
unfolding searched
returns-then-gives t c = rw (c.if-left-eq0.true) (simp (c.named.ensures, ← c.gives.ensures, c.if-gives.true))

pub returns-else-gives : goal.returns-else-gives
unfolding searched
returns-else-gives t c = rw (c.if-left-eq0.true) (simp (← c.gives.ensures, c.if-gives.false))

pub choices-k-end-requires : goal.choices-k-end-requires
choices-k-end-requires t c = omega (arith, (is_valid (view c.args.b) c.requires).small, view_n c.args.b)

less_none : (n : ℕ) → n ≡ n - 0
less_none n = omega arith

pub loop-k-init : goal.loop-k-init
loop-k-init t c = ap (λ m. first_from (following (c.args.left - 1) (view c.args.b) c.args.q) m 0) (less_none (choices c.args.b.n c.args.b.phase))

pub search-requires : goal.search-requires
search-requires t c = (omega (arith, c.decreases, c.if-left-eq0.false), stays_valid c.args.b c.args.q c.args.left c.loop-k.k c.requires c.if-left-eq0.false c.loop-k.invariant (rw (← c.choices-k-end.ensures) c.loop-k-test.true) c.choice-a.result c.choice-a.ensures c.advance-played.result c.advance-played.ensures)

pub returns-in-Some : goal.returns-in-Some
returns-in-Some t c = rw c.prepend.ensures (led c.args.b c.args.q c.args.left c.loop-k.k c.requires c.if-left-eq0.false c.loop-k.invariant (rw (← c.choices-k-end.ensures) c.loop-k-test.true) c.choice-a.result c.choice-a.ensures c.advance-played.result c.advance-played.ensures (ap (λ r. eqb (err_number r) accepted) c.in-Ok.is) c.in-Some.rest (sym c.in-Some.is ∙ c.search.ensures ∙ ap (λ r. trail_of (searched (c.args.left - 1) (view c.advance-played.result.bus) (told r) c.args.q)) (sym c.in-Ok.is)) c.args.report)

pub loop-k-preserved : goal.loop-k-preserved
loop-k-preserved t c = elim c.match-played.branch [
  | in-Ok+in_default-search w ↦ not_led c.args.b c.args.q c.args.left c.loop-k.k c.requires c.if-left-eq0.false c.loop-k.invariant (rw (← c.choices-k-end.ensures) c.loop-k-test.true) c.choice-a.result c.choice-a.ensures c.advance-played.result c.advance-played.ensures (ap (λ r. eqb (err_number r) accepted) w.in-Ok.is) (sym w.in_default-search.is ∙ w.search.ensures ∙ ap (λ r. trail_of (searched (c.args.left - 1) (view c.advance-played.result.bus) (told r) c.args.q)) (sym w.in-Ok.is))
  | in_default w ↦ not_open c.args.b c.args.q c.args.left c.loop-k.k c.requires c.if-left-eq0.false c.loop-k.invariant (rw (← c.choices-k-end.ensures) c.loop-k-test.true) c.choice-a.result c.choice-a.ensures c.advance-played.result c.advance-played.ensures (ap (λ r. eqb (err_number r) accepted) w.in_default.is ∙ refuses_it w.in_default.field-0)
]

pub returns : goal.returns
returns t c = none_led c.args.b c.args.q c.args.left c.loop-k.k c.requires c.if-left-eq0.false c.loop-k.invariant c.args.report (rw (← c.choices-k-end.ensures) c.loop-k-test.false)
