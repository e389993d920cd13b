-- Where the finding of a tag ends: at a live slot of that tag in a bucket of the order, or nowhere, and then no live slot of the table has the tag. And the
-- bucket's live slots once that slot is marked dead. By the lists of slots and of buckets.
use Prim.Native.Nat.{ℕ, zero, suc, ◌+◌, ◌≤◌, ◌<◌}
use mathlib.Core.Path.{◌≡◌, refl, sym, ◌∙◌, ap, subst}
use mathlib.Core.Bool.{Bool, true, false, ◌&&◌, false≢true}
use mathlib.Core.List.Permᴰ
use mathlib.Core.List.{List, [], ◌∷◌, ◌++◌, flatten, Permᴰ}
use mathlib.Core.Option.{Option, none, some, none-ne-some, some-injective}
use native.Mathlib.Omega.{arith}
use lib.Dec.{eqb}
use lib.ListN.{length, get_or, set}
use borrow.Author.Tests.{eqb-true, eqb-false, ne_eqb}
use Rattle.lists.specs.Lists.{select, All}
use Rattle.lists.proofs.Lists.{all_append}
use Rattle.lists.proofs.Tests.{and_first, and_second}
use Rattle.metric_rules.specs.Row.{Row, row_width, mark_of, tag_of, is_live, with_mark}
use Rattle.metric_rules.proofs.Codec.{mark_with_mark}
use Rattle.table_rules.specs.Geometry.{room, buckets_of}
use Rattle.table_rules.specs.Table.{Table, order_of, built_of, slots_of, live_slots}
use Rattle.table_rules.specs.Rebuild.{live_items}
use Rattle.table_rules.specs.Remove.{marked}
use Rattle.table_rules.specs.LookUp.{Place, place_from, place_in, find, is_live_tag}
use Rattle.table_rules.proofs.ByNumber.{all_count}
use Rattle.table_rules.proofs.Live.{Roomy, slots_length, all_live_lem, live_lost}
use Rattle.table_rules.proofs.Changes.{marked_only, marked_slots}

not_live : (row : Row) → mark_of row ≡ 1 → is_live row ≡ false
unfolding is_live
not_live row e = ne_eqb (mark_of row) 0 (λ z. absurd (omega (arith, e, z)))

-- a place at which a live slot with the tag stands
pub record Found (t : Table) (tag : ℕ) (place : Place) : Type 0 where
  pub in_order : place.bucket ≤ order_of t
  pub within : place.slot < length (slots_of t place.bucket)
  pub row : get_or (slots_of t place.bucket) place.slot [] ≡ place.row
  pub live : is_live place.row ≡ true
  pub tagged : tag_of place.row ≡ tag

-- among the slots from slot i on: the place is slot i + j, for some j
record FoundFrom (tag k i : ℕ) (slots : List Row) (place : Place) : Type 0 where
  further : ℕ
  bucket : place.bucket ≡ k
  slot : place.slot ≡ i + further
  within : further < length slots
  row : get_or slots further [] ≡ place.row
  live : is_live place.row ≡ true
  tagged : tag_of place.row ≡ tag

found_from : (tag k i : ℕ) (slots : List Row) (place : Place) → place_from tag k i slots ≡ some place → FoundFrom tag k i slots place
unfolding place_from
found_from tag k i [] place e = absurd (none-ne-some place e)
found_from tag k i (r ∷ rs) place e = go (found_from tag k (suc i) rs place) (is_live r && eqb (tag_of r) tag) refl e
  where
    go :
        (place_from tag k (suc i) rs ≡ some place → FoundFrom tag k (suc i) rs place) → (b : Bool) → (is_live r && eqb (tag_of r) tag) ≡ b
        → elim b [ true ↦ some (record { bucket = k; slot = i; row = r }) | false ↦ place_from tag k (suc i) rs ] ≡ some place
        → FoundFrom tag k i (r ∷ rs) place
    go rest true h e =
        let here : record { bucket = k; slot = i; row = r } ≡ place = some-injective (record { bucket = k; slot = i; row = r }) place e in
        record {
          further = 0;
          bucket = ap (λ (p : Place). p.bucket) (sym here);
          slot = ap (λ (p : Place). p.slot) (sym here) ∙ omega arith;
          within = omega arith;
          row = ap (λ (p : Place). p.row) here;
          live = ap (λ (p : Place). is_live p.row) (sym here) ∙ and_first (is_live r) (eqb (tag_of r) tag) h;
          tagged = ap (λ (p : Place). tag_of p.row) (sym here) ∙ eqb-true (tag_of r) tag (and_second (is_live r) (eqb (tag_of r) tag) h);
        }
    go rest false h e =
        let there : FoundFrom tag k (suc i) rs place = rest e in
        record {
          further = suc there.further;
          bucket = there.bucket;
          slot = there.slot ∙ omega arith;
          within = omega (arith, there.within);
          row = there.row;
          live = there.live;
          tagged = there.tagged;
        }

-- no live slot with the tag
not_from : (tag k i : ℕ) (slots : List Row) → place_from tag k i slots ≡ none → All (λ r. tag_of r ≡ tag → ⊥) (select is_live slots)
unfolding place_from select
not_from tag k i [] e = tt
not_from tag k i (r ∷ rs) e = go (not_from tag k (suc i) rs) (is_live r) (eqb (tag_of r) tag) refl e
  where
    go :
        (place_from tag k (suc i) rs ≡ none → All (λ x. tag_of x ≡ tag → ⊥) (select is_live rs)) → (live same : Bool) → eqb (tag_of r) tag ≡ same
        → ◌≡◌ {A = Option Place} (elim (live && same) [ true ↦ some (record { bucket = k; slot = i; row = r }) | false ↦ place_from tag k (suc i) rs ]) none
        → All (λ x. tag_of x ≡ tag → ⊥) (elim live [ true ↦ r ∷ select is_live rs | false ↦ select is_live rs ])
    go rest false same h e = rest e
    go rest true true h e = absurd (none-ne-some (record { bucket = k; slot = i; row = r }) (sym e))
    go rest true false h e = (eqb-false (tag_of r) tag h, rest e)

module _ (t : Table) (tag : ℕ) where
  found_in : (ks : List ℕ) (place : Place) → All (λ k. k ≤ order_of t) ks → place_in t tag ks ≡ some place → Found t tag place
  unfolding place_in
  found_in [] place h e = absurd (none-ne-some place e)
  found_in (k ∷ ks) place h e = go (found_in ks place h.1) (place_from tag k 0 (slots_of t k)) refl e
    where
      go :
          (place_in t tag ks ≡ some place → Found t tag place) → (o : Option Place) → place_from tag k 0 (slots_of t k) ≡ o
          → elim o [ some p ↦ some p | none ↦ place_in t tag ks ] ≡ some place → Found t tag place
      go rest (some p) f e =
          let here : FoundFrom tag k 0 (slots_of t k) place = found_from tag k 0 (slots_of t k) place (f ∙ e) in
          let slot : place.slot ≡ here.further = here.slot ∙ omega arith in
          record {
            in_order = rw here.bucket h.0;
            within = rw (here.bucket, slot) here.within;
            row = rw (here.bucket, slot) here.row;
            live = here.live;
            tagged = here.tagged;
          }
      go rest none f e = rest e

  not_in : (ks : List ℕ) → place_in t tag ks ≡ none → All (λ r. tag_of r ≡ tag → ⊥) (live_items t ks)
  unfolding place_in live_items flatten live_slots
  not_in [] e = tt
  not_in (k ∷ ks) e = go (not_in ks) (place_from tag k 0 (slots_of t k)) refl e
    where
      go :
          (place_in t tag ks ≡ none → All (λ r. tag_of r ≡ tag → ⊥) (live_items t ks)) → (o : Option Place) → place_from tag k 0 (slots_of t k) ≡ o
          → ◌≡◌ {A = Option Place} (elim o [ some p ↦ some p | none ↦ place_in t tag ks ]) none
          → All (λ r. tag_of r ≡ tag → ⊥) (live_slots t k ++ live_items t ks)
      go rest (some p) f e = absurd (none-ne-some p (sym e))
      go rest none f e = all_append (λ r. tag_of r ≡ tag → ⊥) (live_slots t k) (live_items t ks) (not_from tag k 0 (slots_of t k) f) (rest e)

  pub found : (place : Place) → find t tag ≡ some place → Found t tag place
  unfolding find buckets_of
  found place e = found_in (buckets_of (order_of t)) place (all_count (λ k. k ≤ order_of t) 0 (suc (order_of t)) (λ j l m. omega arith)) e

  pub no_live_tag : is_live_tag t tag ≡ false → All (λ r. tag_of r ≡ tag → ⊥) (all_live_lem t)
  unfolding is_live_tag find all_live_lem
  no_live_tag h = go (find t tag) refl h
    where
      go : (o : Option Place) → find t tag ≡ o → elim o [ some p ↦ true | none ↦ false ] ≡ false → All (λ r. tag_of r ≡ tag → ⊥) (all_live_lem t)
      go (some p) e h = absurd (false≢true (sym h))
      go none e h = not_in (buckets_of (order_of t)) e

-- a live slot marked dead is no longer among the live ones, and the others still are
pub mark_loses :
    (slots : List Row) (i : ℕ) (row : Row) → i < length slots → get_or slots i [] ≡ row → is_live row ≡ true → length row ≡ row_width
    → Permᴰ (select is_live slots) (row ∷ select is_live (set slots i (with_mark 1 row)))
unfolding select
mark_loses [] i row h e l w = absurd (omega arith)
mark_loses (r ∷ rs) zero row h e l w =
    let dead : is_live (with_mark 1 row) ≡ false = not_live (with_mark 1 row) (mark_with_mark row 1 w) in
    let live : is_live r ≡ true = ap is_live e ∙ l in
    rw (live, dead, select) (Permᴰ.cons e (Permᴰ.refl (select is_live rs)))
mark_loses (r ∷ rs) (suc i) row h e l w = go (is_live r) (mark_loses rs i row (omega arith) e l w)
  where
    go :
        (b : Bool) → Permᴰ (select is_live rs) (row ∷ select is_live (set rs i (with_mark 1 row)))
        → Permᴰ (elim b [ true ↦ r ∷ select is_live rs | false ↦ select is_live rs ])
        (row ∷ elim b [ true ↦ r ∷ select is_live (set rs i (with_mark 1 row)) | false ↦ select is_live (set rs i (with_mark 1 row)) ])
    go true p = Permᴰ.trans (Permᴰ.cons refl p) (Permᴰ.swap refl refl)
    go false p = p

-- the live items of the table once the slot found is marked dead
module _ (t : Table) (tag : ℕ) (place : Place) (roomy : Roomy t) (found : Found t tag place) (whole : length place.row ≡ row_width) where
  pub found_within : place.slot < built_of t place.bucket
  found_within = omega (arith, found.within, slots_length roomy place.bucket found.in_order)

  found_room : place.slot < room place.bucket
  found_room = omega (arith, found_within, roomy.within place.bucket found.in_order)

  marked_live_slots : live_slots (marked t place) place.bucket ≡ select is_live (set (slots_of t place.bucket) place.slot (with_mark 1 place.row))
  unfolding live_slots
  marked_live_slots =
      ap (select is_live) (marked_slots t place found.in_order roomy.long found_room found_within (roomy.within place.bucket found.in_order))

  -- the bucket loses that row
  pub marked_loses : Permᴰ (live_slots t place.bucket) (place.row ∷ live_slots (marked t place) place.bucket)
  unfolding live_slots
  marked_loses =
      subst (λ (xs : List Row). Permᴰ (select is_live (slots_of t place.bucket)) (place.row ∷ xs)) (sym marked_live_slots)
      (mark_loses (slots_of t place.bucket) place.slot place.row found.within found.row found.live whole)

  pub marked_permutes : Permᴰ (all_live_lem t) (place.row ∷ all_live_lem (marked t place))
  marked_permutes =
      live_lost place.bucket found.in_order roomy (marked_only t place found.in_order roomy.long found_room) (place.row ∷ []) marked_loses
