use Rattle.std.proofs.Common.{◌≡◌, sym, ap, ap₂, ◌∙◌, Bool, true, false, cond, List, ◌++◌, ◌∷◌, ℕ, ◌+◌, ◌/◌, ◌<◌, ◌≤◌, suc, take, drop, length, eqb, arith, Result, Ok, Err}
use Rattle.std.specs.Result.{is_ok}
use Rattle.std.specs.Slice.Iter.{chunks_exact_rest, chunks_exact_size}
use Rattle.std.proofs.Math.Seq.{drop-append_seam, take-append_seam}
use Rattle.std.proofs.Math.ListN.{length-append}
use Rattle.charts.specs.declared.Refusal.{Refusal}
use Rattle.charts.specs.declared.Report.{Report}
use Rattle.charts.specs.declared.Bus.{Bus}
use Rattle.charts.specs.declared.Played.{Played}
use Rattle.charts.specs.Numbers.{err_number}
use Rattle.charts.specs.Step as Step
use Rattle.charts.specs.Step.{step, after}
use Rattle.charts.specs.View.{view, seen}
use Rattle.charts.specs.Demand.{one, accepted_of}
use Rattle.charts.specs.Layout.{action_at}
use Rattle.charts.proofs.Steps.{refuses_it}
use Rattle.record.proofs.Round.{action_front}
use Rattle.replay.specs.Replay.{records_in}
use Rattle.replay.proofs.play_on.Goals as goal
use Rattle.replay.proofs.play_on.Goals.{then-is_ok, else-is_ok}

-- the first record of a list, and those after it
first : (s x t : List ℕ) → s ≡ x ++ t → length x ≡ 16 → records_in s ≡ action_at x ∷ records_in t
first s x t e h =
    let n : length s ≡ 16 + length t = ap length e ∙ length-append x t ∙ ap (λ k. k + length t) h in
    let more : length s / 16 ≡ suc (length t / 16) = omega arith in
    let front : take 16 s ≡ x = ap₂ take (sym h) e ∙ take-append_seam x t in
    let back : drop 16 s ≡ t = ap₂ drop (sym h) e ∙ drop-append_seam x t in
    let at : action_at s ≡ action_at x = sym (action_front 16 s (omega arith) (omega arith)) ∙ ap action_at front in
    rw (more, at, back)

-- one record played: the rest from the bus after it
turn : (b : Bus) (p : Played) (s x t : List ℕ) → s ≡ x ++ t → length x ≡ 16 → seen p ≡ step (view b) (action_at x) →
    (after (view p.bus) (records_in t) ≡ after (view b) (records_in s))
    × (accepted_of (view b) (records_in s) ≡ one (eqb (err_number p.report) 0) + accepted_of (view p.bus) (records_in t))
turn b p s x t e h q =
    let f = first s x t e h in (
      ap (λ (r : Step.Result). after r.state (records_in t)) q ∙ sym (ap (after (view b)) f),
      ap (accepted_of (view b)) f ∙ sym (ap (λ (r : Step.Result). one (eqb r.number 0) + accepted_of r.state (records_in t)) q),
    )

-- a record is accepted that is answered with a report
one_ok : (r : Result Report Refusal) (o : Bool) → o ≡ is_ok r → one (eqb (err_number r) 0) ≡ cond o 1 0
one_ok (Ok x) o e = rw e
one_ok (Err k) o e = rw (e, refuses_it k)

one_le : (b : Bool) → one b ≤ 1
one_le true = omega arith
one_le false = omega arith

pub loop-record-init : goal.loop-record-init
loop-record-init c =
    let gives = c.into_iter-record-iterator.ensures.into_iter_gives in
    let all : chunks_exact_rest c.into_iter-record-iterator.result ≡ c.args.records.now = ap chunks_exact_rest gives ∙ c.chunks_exact-record-items.ensures.rest in
    record { size = ap chunks_exact_size gives ∙ c.chunks_exact-record-items.ensures.size; room = rw all (omega arith); played = rw all; counted = rw all (omega arith) }

pub overflow_add-accepted : goal.overflow_add-accepted
overflow_add-accepted c =
    let cut = c.in-Some.ensures.steps.1 in
    let size = ap length cut.0 ∙ length-append c.in-Some.record.now (chunks_exact_rest c.next.new.self) in
    let some : 0 < length (chunks_exact_rest c.loop-record.record-iterator) = omega (arith, cut.1, c.loop-record.invariant.size, size) in
    omega (arith, some, c.loop-record.invariant.room)

pub loop-record-preserved : goal.loop-record-preserved
loop-record-preserved c =
    let old = c.loop-record.invariant in
    let steps = c.in-Some.ensures.steps in
    let rest = chunks_exact_rest c.next.new.self in
    let whole : length c.in-Some.record.now ≡ 16 = steps.1.1 ∙ old.size in
    let size = ap length steps.1.0 ∙ length-append c.in-Some.record.now rest in
    let then = turn c.loop-record.bus c.step-played.result (chunks_exact_rest c.loop-record.record-iterator) c.in-Some.record.now rest steps.1.0 whole (c.step-played.ensures ∙ ap (step (view c.loop-record.bus)) c.read_action.ensures) in
    let ok = one_ok c.step-played.result.report c.is_ok.result c.is_ok.ensures.value in
    let more : c.if-is_ok.accepted ≡ c.loop-record.accepted + one (eqb (err_number c.step-played.result.report) 0) =
    elim c.if-is_ok.branch [ then-is_ok w ↦ rw (ok, w.if-is_ok.true) w.accepted-is | else-is_ok w ↦ rw (ok, w.if-is_ok.false) (omega (arith, w.accepted-is)) ] in
    let most : one (eqb (err_number c.step-played.result.report) 0) ≤ 1 = one_le (eqb (err_number c.step-played.result.report) 0) in
    record { size = steps.0 ∙ old.size; room = omega (arith, more, most, whole, size, old.room); played = then.0 ∙ old.played; counted = omega (arith, more, then.1, old.counted) }

pub returns : goal.returns
returns c =
    let old = c.loop-record.invariant in
    let steps = c.in-None.ensures.steps in
    let none : length (chunks_exact_rest c.loop-record.record-iterator) / 16 ≡ 0 = omega (arith, steps.1.0, old.size) in
    let after_all : view c.loop-record.bus ≡ after (view c.args.start) (records_in c.args.records.now) = rw none at old.played in
    let counted : c.loop-record.accepted + 0 ≡ accepted_of (view c.args.start) (records_in c.args.records.now) = rw none at old.counted in
    let accepted : c.loop-record.accepted ≡ accepted_of (view c.args.start) (records_in c.args.records.now) = omega arith in
    rw (after_all, accepted)
