-- What is asked of an image's slots in all, bucket by bucket: fields and trees together. It is what a load asks field by field and then slot by slot.
use Prim.Native.Nat.{ℕ}
use mathlib.Core.Path.{◌≡◌, refl, ◌∙◌, ap, ap₂}
use mathlib.Core.Bool.{Bool, true, false, ◌&&◌, and_assoc}
use mathlib.Core.List.{List, [], ◌∷◌, map}
use Rattle.lists.specs.Lists.{every, distinct}
use Rattle.metric_rules.specs.Row.{Row, tag_of}
use Rattle.metric_rules.specs.declared.Space.{Space}
use Rattle.metric_rules.specs.Distance.{distance}
use Rattle.tree_rules.specs.Layout.{is_layout}
use Rattle.table_rules.specs.Geometry.{buckets_of}
use Rattle.table_rules.specs.Checks.{live_size_holds}
use Rattle.image_rules.specs.Read.{order_in, space_in, live_in, bucket_in}
use Rattle.image_rules.specs.Load.{fields_pass, bucket_fields_pass, all_fields_pass, live_rows}
use Rattle.image_rules.specs.Trees.{trees_pass}

-- a bucket: its slots' fields, its live size, no tag twice, and its slots are a tree's layout, marks aside
unfoldable pub bucket_passes_lem : Space → ℕ → List Row → Bool
bucket_passes_lem space live slots =
    every fields_pass slots && live_size_holds slots live && distinct (map tag_of slots) && is_layout (distance space) slots

-- every bucket passes, and no live tag occurs twice at all
unfoldable pub slots_pass : List ℕ → Bool
slots_pass image =
    every (λ k. bucket_passes_lem (space_in image) (live_in image k) (bucket_in image k)) (buckets_of (order_in image))
    && distinct (map tag_of (live_rows image))

-- two tests of every element, both at once or one after the other
every_both : {A : Type 0} (f g both : A → Bool) → ((x : A) → both x ≡ (f x && g x)) → (xs : List A) → every both xs ≡ (every f xs && every g xs)
unfolding every
every_both f g both e [] = refl
every_both f g both e (x ∷ xs) = ap₂ ◌&&◌ (e x) (every_both f g both e xs) ∙ shuffle (f x) (g x) (every f xs) (every g xs)
  where
    shuffle : (a b c d : Bool) → ((a && b) && (c && d)) ≡ ((a && c) && (b && d))
    shuffle true true c d = refl
    shuffle true false true d = refl
    shuffle true false false d = refl
    shuffle false b c d = refl

pub in_two_steps : (image : List ℕ) → slots_pass image ≡ (all_fields_pass image && trees_pass (space_in image) (order_in image) (bucket_in image))
unfolding slots_pass all_fields_pass bucket_fields_pass trees_pass bucket_passes_lem live_rows
in_two_steps image =
    let fields : ℕ → Bool = λ (k : ℕ). every fields_pass (bucket_in image k) && live_size_holds (bucket_in image k) (live_in image k) in
    let trees : ℕ → Bool = λ (k : ℕ). distinct (map tag_of (bucket_in image k)) && is_layout (distance (space_in image)) (bucket_in image k) in
    let both : ℕ → Bool = λ (k : ℕ). bucket_passes_lem (space_in image) (live_in image k) (bucket_in image k) in
    let ks : List ℕ = buckets_of (order_in image) in
    ap (λ (b : Bool). b && distinct (map tag_of (live_rows image)))
    (every_both fields trees both (λ k. and_assoc (fields k) (distinct (map tag_of (bucket_in image k))) (is_layout (distance (space_in image)) (bucket_in image k))) ks)
    ∙ and_assoc (every fields ks) (every trees ks) (distinct (map tag_of (live_rows image)))
