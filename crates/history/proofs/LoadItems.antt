-- The model that is fed an image, read at places of its own, is the one that the reader's definitions give: word by word of each slot.
use Prim.Native.Nat.{ℕ, zero, suc, ◌+◌, ◌*◌}
use mathlib.Core.Path.{◌≡◌, refl, sym, ap, ap₂, ◌∙◌}
use mathlib.Core.Bool.{Bool, true, false}
use mathlib.Core.List.{List, [], ◌∷◌, map}
use native.Mathlib.Omega.{arith}
use lib.IntN.{ℤ}
use lib.Dec.{eqb}
use mir.Syntax.{w32}
use mir.Val.{to_z}
use Rattle.lists.specs.Lists.{total, select, count_from}
use Rattle.metric_rules.specs.declared.Profile.{Profile}
use Rattle.metric_rules.specs.declared.Weights.{Weights}
use Rattle.metric_rules.specs.declared.Space.{Space}
use Rattle.metric_rules.specs.Row.{word, wide, measures_at, code_at, profile_of, is_live}
use Rattle.metric_rules.specs.Distance.{weights_one}
use Rattle.table_rules.specs.Geometry.{buckets_of}
use Rattle.image_rules.specs.Bytes.{start_fields, weight_fields, tag_fields, record_fields, start_bytes}
use Rattle.image_rules.specs.Read as reader
use Rattle.image_rules.specs.Read.{fields_at, order_in, weights_as, space_in, slots_in, row_in, bucket_in}
use Rattle.image_rules.specs.Load.{live_rows}
use Rattle.image_rules.proofs.EachBucket.{rows_in_buckets}
use Rattle.history.specs.Places.{number_from}
use Rattle.history.specs.LoadTests.{form_bytes, slots_in_all, record_from, mark_in, weights_read, space_read}
use Rattle.history.specs.Model.{item_of, Model, profile_read, item_read, image_model}
use Rattle.history.proofs.ImageBytes.{number_wide}
use Rattle.history.proofs.LoadTests.{number_read, order_read, metric_read, form_read, slots_read, record_place, record_from_lem, number_from_lem, tag_read}
use Rattle.history.proofs.LoadTests.{live_mark, day_read_lem}
use Rattle.history.proofs.RefinesLists.{select_flatten}

-- what is made of those that pass, of a list and of what it was made of
pick_map : {A B C : Type 0} (f : A → B) (test : B → Bool) (before : A → Bool) (g : B → C) (h : A → C) → ((x : A) → test (f x) ≡ before x)
    → ((x : A) → g (f x) ≡ h x) → (xs : List A) → map g (select test (map f xs)) ≡ map h (select before xs)
unfolding select
pick_map f test before g h same made [] = refl
pick_map {A} {B} {C} f test before g h same made (x ∷ xs) =
    ap (λ (b : Bool). map g (elim b as (λ _. List B) [ true ↦ f x ∷ select test (map f xs) | false ↦ select test (map f xs) ])) (same x)
    ∙ go (before x) (pick_map f test before g h same made xs)
  where
    go : (b : Bool) → map g (select test (map f xs)) ≡ map h (select before xs)
        → map g (elim b as (λ _. List B) [ true ↦ f x ∷ select test (map f xs) | false ↦ select test (map f xs) ])
        ≡ map h (elim b as (λ _. List A) [ true ↦ x ∷ select before xs | false ↦ select before xs ])
    go true e = ap₂ ◌∷◌ (made x) e
    go false e = e

-- the model by the reader's definitions
abbrev pub read_model : List ℕ → Model
read_model image = record { order = order_in image; space = space_in image; items = map item_of (live_rows image) }

module _ (image : List ℕ) where
  weights_by : (form : ℕ) → weights_as form image ≡ record { each = weights_read form image }
  unfolding weights_as weights_one weights_read weight_fields start_bytes start_fields fields_at total
  weights_by zero = refl
  weights_by (suc form) =
      λ i. record { each = number_read image 1 4 i ∷ number_read image 1 5 i ∷ number_read image 1 6 i ∷ number_read image 1 7 i ∷ [] }

  pub space_read_lem : space_in image ≡ space_read image
  unfolding space_in space_read
  space_read_lem =
      ap₂ {C = Space} (λ (m : ℕ) (w : Weights). record { metric = m; weights = w }) (metric_read image)
      (ap (λ (form : ℕ). weights_as form image) (form_read image) ∙ weights_by (form_bytes image))

  profile_is : (i : ℕ) → profile_of (row_in image i) ≡ profile_read image (record_from image i)
  unfolding profile_of wide measures_at code_at row_in word fields_at tag_fields record_fields profile_read
  profile_is i =
      let here = record_place image i in
      let there = record_from image i in
      let e = record_from_lem image i in
      let at : (place n : ℕ) → place ≡ here + n → reader.number_at image 4 place ≡ number_from image (there + n) 4 =
      λ place n f. number_from_lem image 4 place (there + n) (f ∙ ap (λ (p : ℕ). p + n) e) in
      let m0 : reader.number_at image 4 here ≡ number_from image (there + 4 * 0) 4 = at here 0 (omega arith) in
      let m1 : reader.number_at image 4 (here + 4) ≡ number_from image (there + 4 * 1) 4 = at (here + 4) 4 (omega arith) in
      let m2 : reader.number_at image 4 (here + 4 + 4) ≡ number_from image (there + 4 * 2) 4 = at (here + 4 + 4) 8 (omega arith) in
      let m3 : reader.number_at image 4 (here + 4 + 4 + 4) ≡ number_from image (there + 4 * 3) 4 = at (here + 4 + 4 + 4) 12 (omega arith) in
      let far : there + 16 + 4 ≡ there + 20 = omega arith in
      let further : there + 24 + 4 ≡ there + 28 = omega arith in
      let first : number_from image (there + 16) 8 ≡ wide (reader.number_at image 4 (here + 4 + 4 + 4 + 4)) (reader.number_at image 4 (here + 4 + 4 + 4 + 4 + 4)) =
      number_wide image (there + 16) _ _ (sym (at (here + 4 + 4 + 4 + 4) 16 (omega arith)))
      (ap (λ (p : ℕ). number_from image p 4) far ∙ sym (at (here + 4 + 4 + 4 + 4 + 4) 20 (omega arith))) in
      let second : number_from image (there + 24) 8 ≡ wide (reader.number_at image 4 (here + 4 + 4 + 4 + 4 + 4 + 4))
      (reader.number_at image 4 (here + 4 + 4 + 4 + 4 + 4 + 4 + 4)) =
      number_wide image (there + 24) _ _ (sym (at (here + 4 + 4 + 4 + 4 + 4 + 4) 24 (omega arith)))
      (ap (λ (p : ℕ). number_from image p 4) further ∙ sym (at (here + 4 + 4 + 4 + 4 + 4 + 4 + 4) 28 (omega arith))) in
      ap₂ {C = Profile} (λ (ms : List ℤ) (code : List ℕ). record { measures = ms; code = code })
      (λ j. to_z w32 (m0 j) ∷ to_z w32 (m1 j) ∷ to_z w32 (m2 j) ∷ to_z w32 (m3 j) ∷ [])
      (λ j. sym first j ∷ sym second j ∷ [])

  item_is : (i : ℕ) → item_of (row_in image i) ≡ item_read image i
  unfolding item_of item_read
  item_is i = λ j. record { tag = tag_read image i j; profile = profile_is i j; day = day_read_lem image i j }

  pub items_read : map item_of (live_rows image) ≡ map (item_read image) (select (λ i. eqb (mark_in image i) 0) (count_from 0 (slots_in_all image)))
  unfolding live_rows
  items_read =
      ap (map item_of) (select_flatten is_live (bucket_in image) (buckets_of (order_in image)) ∙ ap (select is_live) (rows_in_buckets image))
      ∙ pick_map (row_in image) is_live (λ i. eqb (mark_in image i) 0) item_of (item_read image) (live_mark image) item_is (count_from 0 (slots_in image))
      ∙ ap (λ (n : ℕ). map (item_read image) (select (λ i. eqb (mark_in image i) 0) (count_from 0 n))) (slots_read image)

  pub image_model_lem : read_model image ≡ image_model image
  unfolding image_model
  image_model_lem = λ j. record { order = order_read image j; space = space_read_lem j; items = items_read j }
