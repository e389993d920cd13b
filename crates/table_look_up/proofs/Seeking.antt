-- The finding of a tag as the code makes it: the slots of a bucket by the first that is tagged, and the buckets as a loop has them.
use Prim.Native.Nat.{ℕ, suc, ◌+◌, ◌<◌, ◌≤◌}
use Prim.Native.Nat.compare
use native.Mathlib.Omega.{arith}
use borrow.Author.Tests.{lt-ltb}
use mathlib.Core.Path.{◌≡◌, refl, sym, ◌∙◌, ap}
use mathlib.Core.Bool.{Bool, true, false, not, cond, ◌&&◌}
use mathlib.Core.List.{List, [], ◌∷◌}
use mathlib.Core.Option as rules
use mathlib.Core.Option.{none, some}
use lib.Dec.{eqb, ltb}
use lib.ListN.{length, get_or}
use Rattle.std.specs.Prelude.{Option, Some, None, position}
use Rattle.std.specs.List.{position_or_len}
use Rattle.metric_rules.specs.Row.{Row, tag_of, is_live}
use Rattle.table_rules.specs.Table.{Table, slots_of}
use Rattle.table_rules.specs.LookUp.{Place, place_from, place_in}
use Rattle.table_rules.proofs.Buckets.{buckets_from, buckets_next, buckets_end}

abbrev pub tagged : ℕ → Row → Bool
tagged tag row = is_live row && eqb (tag_of row) tag

abbrev pub place : ℕ → ℕ → Row → Place
place k i row = record { bucket = k; slot = i; row = row }

-- the place at slot i + n of slots that are listed from slot i on, if they reach it
placed : ℕ → ℕ → List Row → ℕ → rules.Option Place
placed k i slots n = elim (ltb n (length slots)) [ true ↦ some (place k (i + n) (get_or slots n [])) | false ↦ none ]

both_next : (m n : ℕ) → ltb (suc m) (suc n) ≡ ltb m n
both_next m n = rw compare.suc-suc

by_position : (tag k i : ℕ) (slots : List Row) → place_from tag k i slots ≡ placed k i slots (position_or_len (tagged tag) slots)
unfolding place_from placed
by_position tag k i [] = refl
by_position tag k i (r ∷ rs) = go (tagged tag r) (1 + n) (omega arith) (by_position tag k (suc i) rs)
  where
    n : ℕ
    n = position_or_len (tagged tag) rs

    go :
        (b : Bool) (m : ℕ) → m ≡ suc n → place_from tag k (suc i) rs ≡ placed k (suc i) rs n
        → elim b [ true ↦ some (place k i r) | false ↦ place_from tag k (suc i) rs ] ≡ placed k i (r ∷ rs) (cond (not b) m 0)
    go true m e rest = let same : i ≡ i + 0 = omega arith in
        ap (λ (j : ℕ). some (place k j r)) same
        ∙ ap (λ (x : Bool). elim x as (λ y. rules.Option Place) [ true ↦ some (place k (i + 0) r) | false ↦ none ]) (sym (lt-ltb 0 (suc (length rs)) (omega arith)))
    go false m e rest =
        let same : suc i + n ≡ i + suc n = omega arith in
        rest
        ∙ ap (λ (j : ℕ). elim (ltb n (length rs)) as (λ x. rules.Option Place) [ true ↦ some (place k j (get_or rs n [])) | false ↦ none ]) same
        ∙ ap (λ (x : Bool). elim x as (λ y. rules.Option Place) [ true ↦ some (place k (i + suc n) (get_or rs n [])) | false ↦ none ]) (sym (both_next n (length rs)))
        ∙ ap (placed k i (r ∷ rs)) (sym e)

-- what is found among the slots of bucket k, by the first that is tagged
place_at : ℕ → List Row → Option ℕ → rules.Option Place
place_at k slots (Some i) = some (place k i (get_or slots i []))
place_at k slots None = none

found_first : (tag k : ℕ) (slots : List Row) → place_from tag k 0 slots ≡ place_at k slots (position (tagged tag) slots)
unfolding place_at placed
found_first tag k slots = by_position tag k 0 slots ∙ go (ltb n (length slots)) (0 + n) (omega arith)
  where
    n : ℕ
    n = position_or_len (tagged tag) slots

    go :
        (b : Bool) (m : ℕ) → m ≡ n
        → elim b as (λ x. rules.Option Place) [ true ↦ some (place k m (get_or slots n [])) | false ↦ none ] ≡ place_at k slots (cond b (Some n) None)
    go true m e = ap (λ (j : ℕ). some (place k j (get_or slots n []))) e
    go false m e = refl

-- of the slots that were lent
module _ (t : Table) (tag k : ℕ) {slots : List Row} (lent : slots ≡ slots_of t k) where
  pub slot_hit : {i : ℕ} → Some i ≡ position (tagged tag) slots → place_from tag k 0 (slots_of t k) ≡ some (place k i (get_or (slots_of t k) i []))
  unfolding place_at
  slot_hit {i} e =
      ap (place_from tag k 0) (sym lent) ∙ found_first tag k slots ∙ ap (place_at k slots) (sym e)
      ∙ ap (λ (xs : List Row). some (place k i (get_or xs i []))) lent

  pub slot_missed : None ≡ position (tagged tag) slots → place_from tag k 0 (slots_of t k) ≡ none
  unfolding place_at
  slot_missed e = ap (place_from tag k 0) (sym lent) ∙ found_first tag k slots ∙ ap (place_at k slots) (sym e)

module _ (t : Table) (tag order k : ℕ) (h : k ≤ order) where
  by_bucket : (o : rules.Option Place) → place_from tag k 0 (slots_of t k) ≡ o
      → place_in t tag (buckets_from order k) ≡ elim o [ some p ↦ some p | none ↦ place_in t tag (buckets_from order (k + 1)) ]
  unfolding place_in
  by_bucket o e =
      ap (place_in t tag) (buckets_next order k h)
      ∙ ap (λ (x : rules.Option Place). elim x as (λ y. rules.Option Place) [ some p ↦ some p | none ↦ place_in t tag (buckets_from order (k + 1)) ]) e

  pub bucket_hit : (p : Place) → place_from tag k 0 (slots_of t k) ≡ some p → place_in t tag (buckets_from order k) ≡ some p
  bucket_hit p e = by_bucket (some p) e

  pub bucket_missed : place_from tag k 0 (slots_of t k) ≡ none → place_in t tag (buckets_from order (k + 1)) ≡ place_in t tag (buckets_from order k)
  bucket_missed e = sym (by_bucket none e)

pub buckets_ended : (t : Table) (tag order k : ℕ) → order < k → place_in t tag (buckets_from order k) ≡ none
unfolding place_in
buckets_ended t tag order k h = ap (place_in t tag) (buckets_end order k h)
