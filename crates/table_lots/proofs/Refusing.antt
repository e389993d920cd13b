-- A drafting refused or accepted: the refusal by the tests that were met, and what an accepted one goes on with.
use Prim.Native.Nat.{ℕ, ◌≤◌}
use native.Mathlib.Omega.{arith}
use mathlib.Core.Path.{◌≡◌, refl, sym, ◌∙◌, ap}
use mathlib.Core.Bool.{Bool, true, false, ◌&&◌}
use mathlib.Core.List.{List, map}
use borrow.Author.Tests.{leb-true}
use lib.Dec.{leb}
use lib.ListN.{length}
use Rattle.lists.specs.Lists.{total}
use Rattle.lists.proofs.Tests.{and_first, and_second}
use Rattle.search_rules.specs.Range.{Entry}
use Rattle.table_rules.specs.Refusals.{no_room, unless, or_else}
use Rattle.table_rules.specs.Geometry.{buckets_of}
use Rattle.table_rules.specs.Table.{Table, order_of, live_of, live_total}
use Rattle.table_rules.specs.Checks.{change_refusal}
use Rattle.table_rules.proofs.Chains.{or_zero, unless_zero}
use Rattle.lots_rules.specs.Lots.{Summary}
use Rattle.lots_rules.specs.Drafting.{bad_radii, most_radii, radii_pass, drafted_items, draft_fits, lots_refusal}
use Rattle.lots_rules.proofs.Items.{Draftable, draftable}

-- the refusal by the outcomes of its tests
refusal_by_lem : ℕ → Bool → Bool → ℕ
refusal_by_lem n radiiOk fits = or_else n (unless radiiOk bad_radii (unless fits no_room 0))

module _ (t : Table) (work : List Entry) (summary : List Summary) (listing : List Entry) (radii : List ℕ) (chosen : ℕ) where
  abbrev refusal : ℕ
  refusal = lots_refusal t work summary listing radii chosen

  refusal_tests : refusal ≡ refusal_by_lem (change_refusal (length work) t) (radii_pass radii chosen) (draft_fits t radii summary listing)
  unfolding lots_refusal refusal_by_lem
  refusal_tests = refl

  by_tests : (n : ℕ) (a b : Bool) → change_refusal (length work) t ≡ n → radii_pass radii chosen ≡ a → draft_fits t radii summary listing ≡ b → refusal_by_lem n a b ≡ refusal
  by_tests n a b f g h = sym (refusal_tests ∙ (rw (f, g, h)))

  module _ (passes : change_refusal (length work) t ≡ 0) where
    pub refused-radii : radii_pass radii chosen ≡ false → bad_radii ≡ refusal
    unfolding refusal_by_lem
    refused-radii e = by_tests 0 false _ passes e refl

    -- the live sizes, added up, number the items
    pub fits-test : (order items : ℕ) → order ≡ order_of t → items ≡ total (map (live_of t) (buckets_of order))
        → draft_fits t radii summary listing ≡ (leb (length radii) (length summary) && leb items (length listing))
    unfolding draft_fits live_total
    fits-test order items e f =
        let size : length (drafted_items t) ≡ items = (draftable (length work) t passes).counted ∙ sym (f ∙ ap (λ (o : ℕ). total (map (live_of t) (buckets_of o))) e) in
        ap (λ (n : ℕ). leb (length radii) (length summary) && leb n (length listing)) size

    module _ (chosen-passes : radii_pass radii chosen ≡ true) where
      pub refused-room : draft_fits t radii summary listing ≡ false → no_room ≡ refusal
      unfolding refusal_by_lem
      refused-room e = by_tests 0 true false passes chosen-passes e

      pub not-refused : draft_fits t radii summary listing ≡ true → 0 ≡ refusal
      unfolding refusal_by_lem
      not-refused e = by_tests 0 true true passes chosen-passes e

  -- what an accepted drafting goes on with
  pub record Accepted : Type 0 where
    pub passes : change_refusal (length work) t ≡ 0
    pub items : Draftable (length work) t
    pub some : 1 ≤ chosen
    pub within : chosen ≤ length radii
    pub summaries : length radii ≤ length summary
    pub listed : length (drafted_items t) ≤ length listing

  pub accepted : refusal ≡ 0 → Accepted
  unfolding lots_refusal radii_pass draft_fits
  accepted e =
      let a = or_zero (change_refusal (length work) t) _ e in
      let b = unless_zero (radii_pass radii chosen) bad_radii _ (omega arith) a.1 in
      let c = unless_zero (draft_fits t radii summary listing) no_room 0 (omega arith) b.1 in
      let place = and_second (leb 1 (length radii) && leb (length radii) most_radii) (leb 1 chosen && leb chosen (length radii)) b.0 in
      record {
        passes = a.0;
        items = draftable (length work) t a.0;
        some = leb-true 1 chosen (and_first (leb 1 chosen) (leb chosen (length radii)) place);
        within = leb-true chosen (length radii) (and_second (leb 1 chosen) (leb chosen (length radii)) place);
        summaries = leb-true (length radii) (length summary) (and_first (leb (length radii) (length summary)) (leb (length (drafted_items t)) (length listing)) c.0);
        listed = leb-true (length (drafted_items t)) (length listing) (and_second (leb (length radii) (length summary)) (leb (length (drafted_items t)) (length listing)) c.0);
      }
