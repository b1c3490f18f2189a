-- The fields that must be 0, tested kind by kind, and not in the order in which they are named. Assumes nothing.
use mathlib.Core.Path.{◌≡◌, ap, sym, ◌∙◌}
use mathlib.Core.Bool.{Bool, true, false, ◌&&◌, ◌||◌, and_assoc, and_comm, and-true}
use lib.Dec.{eqb}
use Rattle.charts.specs.Records.{names_node, clean}
use Rattle.charts.specs.declared.Action.{Action}

-- a test after two others; tests in another order
module _ (x y : Bool) where
  abbrev after : Bool → Bool
  after t = x && (y && t)

  first_two : (k : Bool) → ((x && y) && k) ≡ after (k && true)
  first_two k = and_assoc x y k ∙ ap after (sym (and-true k))

  module _ (p : Bool) where
    last_first : (r : Bool) → (((x && y) && p) && r) ≡ after (r && p)
    last_first r = and_assoc (x && y) p r ∙ (and_assoc x y (p && r) ∙ ap after (and_comm p r))

    last_two_first : (m k : Bool) → (((x && y) && p) && (m && k)) ≡ after (m && (k && p))
    last_two_first m k = last_first (m && k) ∙ ap after (and_assoc m k p)

    last_three_first : (r m k : Bool) → ((((x && y) && p) && r) && (m && k)) ≡ after (m && (r && (k && p)))
    last_three_first r m k =
        and_assoc ((x && y) && p) r (m && k)
        ∙ (last_first (r && (m && k))
        ∙ ap after
        (ap (λ (t : Bool). t && p) (sym (and_assoc r m k) ∙ (ap (λ (t : Bool). t && k) (and_comm r m) ∙ and_assoc m r k))
        ∙ (and_assoc m (r && k) p ∙ ap (λ (t : Bool). m && t) (and_assoc r k p))))

module _ (a : Action) where
  abbrev pub zeros : Bool
  zeros = eqb a.byte6 0 && eqb a.byte7 0

  abbrev pub answer : Bool
  answer = eqb a.ack 0 && eqb a.hold 0

  abbrev pub packet : Bool
  packet = eqb a.label 0 && (eqb a.header 0 && eqb a.datum 0)

  pub of_request : a.kind ≡ 1 → (zeros && answer) ≡ clean a
  unfolding clean
  of_request e = rw e (first_two (eqb a.byte6 0) (eqb a.byte7 0) answer)

  pub of_change : a.kind ≡ 7 → ((zeros && packet) && (eqb a.node 0 && answer)) ≡ clean a
  unfolding clean
  of_change e = rw e (last_two_first (eqb a.byte6 0) (eqb a.byte7 0) packet (eqb a.node 0) answer)

  pub of_respond : a.kind ≡ 3 → ((zeros && packet) && eqb a.address 0) ≡ clean a
  unfolding clean
  of_respond e = rw e (last_first (eqb a.byte6 0) (eqb a.byte7 0) packet (eqb a.address 0))

  pub of_others : eqb a.kind 1 ≡ false → eqb a.kind 7 ≡ false → eqb a.kind 3 ≡ false
      → (((zeros && packet) && eqb a.address 0) && ((names_node a.kind || eqb a.node 0) && answer)) ≡ clean a
  unfolding clean
  of_others e f g = rw (e, f, g) (last_three_first (eqb a.byte6 0) (eqb a.byte7 0) packet (eqb a.address 0) (names_node a.kind || eqb a.node 0) answer)
