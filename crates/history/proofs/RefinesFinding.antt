-- The finding of a tag: what `find` gives is the first live slot with the tag, and the row that stands there. Where no tag is live twice it is the
-- only one. By the slots of a bucket, then by the buckets.
use Prim.Native.Nat.{ℕ, suc}
use mathlib.Core.Path.{◌≡◌, refl, sym, ◌∙◌, ap}
use mathlib.Core.Bool.{Bool, true, false, ◌&&◌}
use mathlib.Core.List.{List, [], ◌∷◌, ◌++◌, map, flatten}
use mathlib.Core.Option.{Option, none, some}
use lib.Dec.{eqb}
use lib.ListN.{length, take}
use lib.Seq.{take_all}
use native.Mathlib.Omega.{arith}
use Rattle.lists.specs.Lists.{select, distinct}
use Rattle.metric_rules.specs.Row.{Row, tag_of, is_live}
use Rattle.search_rules.proofs.Selecting.{select_append, select_none}
use Rattle.table_rules.specs.Geometry.{buckets_of}
use Rattle.table_rules.specs.Table.{Table, order_of, slots_of, live_slots}
use Rattle.table_rules.specs.Rebuild.{live_items}
use Rattle.table_rules.specs.LookUp.{Place, place_from, place_in, find}
use Rattle.history.proofs.RefinesLists.{select_both, select_once}

-- the rows with a tag
abbrev pub tagged : ℕ → List Row → List Row
tagged tag rows = select (λ r. eqb (tag_of r) tag) rows

-- the row found, if one was
abbrev pub row_found : Option Place → List Row
row_found none = []
row_found (some place) = place.row ∷ []

from_slots : (tag k i : ℕ) (rows : List Row) → row_found (place_from tag k i rows) ≡ take 1 (select (λ r. is_live r && eqb (tag_of r) tag) rows)
unfolding place_from select
from_slots tag k i [] = refl
from_slots tag k i (r ∷ rs) = go (is_live r && eqb (tag_of r) tag) (from_slots tag k (suc i) rs)
  where
    go : (b : Bool) → row_found (place_from tag k (suc i) rs) ≡ take 1 (select (λ x. is_live x && eqb (tag_of x) tag) rs)
        → row_found (elim b [ true ↦ some (record { bucket = k; slot = i; row = r }) | false ↦ place_from tag k (suc i) rs ])
        ≡ take 1 (elim b [ true ↦ r ∷ select (λ x. is_live x && eqb (tag_of x) tag) rs | false ↦ select (λ x. is_live x && eqb (tag_of x) tag) rs ])
    go true e = refl
    go false e = e

-- the first of two lists, where one was found in the first list or not
first_of : (o p : Option Place) (xs ys : List Row) → row_found o ≡ take 1 xs → row_found p ≡ take 1 ys
    → row_found (elim o [ some place ↦ some place | none ↦ p ]) ≡ take 1 (xs ++ ys)
first_of none p [] ys e f = f
first_of none p (x ∷ xs) ys e f = absurd (omega (arith, ap length e))
first_of (some place) p [] ys e f = absurd (omega (arith, ap length e))
first_of (some place) p (x ∷ xs) ys e f = e

in_buckets : (t : Table) (tag : ℕ) (ks : List ℕ) → row_found (place_in t tag ks) ≡ take 1 (tagged tag (live_items t ks))
unfolding place_in live_items live_slots flatten
in_buckets t tag [] = ap (take 1) (sym (select_none (λ r. eqb (tag_of r) tag) [] tt))
in_buckets t tag (k ∷ ks) =
    first_of (place_from tag k 0 (slots_of t k)) (place_in t tag ks) (tagged tag (live_slots t k)) (tagged tag (live_items t ks))
    (from_slots tag k 0 (slots_of t k) ∙ ap (take 1) (sym (select_both (λ r. eqb (tag_of r) tag) is_live (slots_of t k))))
    (in_buckets t tag ks)
    ∙ ap (take 1) (sym (select_append (λ r. eqb (tag_of r) tag) (live_slots t k) (live_items t ks)))

-- what is found is the live row with the tag
pub find_row : (t : Table) (tag : ℕ) → distinct (map tag_of (live_items t (buckets_of (order_of t)))) ≡ true
    → row_found (find t tag) ≡ tagged tag (live_items t (buckets_of (order_of t)))
unfolding find
find_row t tag once =
    let live = live_items t (buckets_of (order_of t)) in
    in_buckets t tag (buckets_of (order_of t)) ∙ take_all 1 (tagged tag live) (select_once tag_of tag live once)
