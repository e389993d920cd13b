-- Over the buckets of an order: what holds of each, as a list and bucket by bucket; and functions and tests that agree at each agree over all, and the slots of
-- each, put end to end, are all slots.
use Prim.Native.Nat.{ℕ, zero, suc, ◌+◌, ◌≤◌, ◌<◌}
use mathlib.Core.Path.{◌≡◌, refl, sym, ap, ap₂, ◌∙◌}
use mathlib.Core.Bool.{Bool, ◌&&◌, and_assoc}
use mathlib.Core.List.{List, [], ◌∷◌, ◌++◌, map, flatten, foldl}
use native.Mathlib.Omega.{arith}
use Rattle.lists.specs.Lists.{every, total, count_from, All}
use Rattle.table_rules.specs.Geometry.{buckets_of}
use Rattle.table_rules.proofs.ByNumber.{all_count, count_all, map_count}
use Rattle.image_rules.specs.Read.{order_in, built_in, slots_before, slots_in, row_in, bucket_in}
use Rattle.image_rules.proofs.Blocks.{runs}

-- what holds of every bucket of an order, as a list and bucket by bucket
module _ (P : ℕ → Type 0) (order : ℕ) where
  pub all_buckets : All P (buckets_of order) → (k : ℕ) → k ≤ order → P k
  unfolding buckets_of
  all_buckets h k l = count_all P 0 (suc order) h k (omega arith) (omega arith)

  pub buckets_all : ((k : ℕ) → k ≤ order → P k) → All P (buckets_of order)
  unfolding buckets_of
  buckets_all h = all_count P 0 (suc order) (λ k l m. h k (omega arith))

every_count : (f g : ℕ → Bool) (a n : ℕ) → ((k : ℕ) → k < a + n → f k ≡ g k) → every f (count_from a n) ≡ every g (count_from a n)
unfolding every count_from
every_count f g a zero h = refl
every_count f g a (suc n) h = ap₂ ◌&&◌ (h a (omega arith)) (every_count f g (suc a) n (λ k l. h k (omega arith)))

pub test_buckets : (f g : ℕ → Bool) (order : ℕ) → ((k : ℕ) → k ≤ order → f k ≡ g k) → every f (buckets_of order) ≡ every g (buckets_of order)
unfolding buckets_of
test_buckets f g order h = every_count f g 0 (suc order) (λ k l. h k (omega arith))

pub map_buckets : {A : Type 0} (f g : ℕ → A) (order : ℕ) → ((k : ℕ) → k ≤ order → f k ≡ g k) → map f (buckets_of order) ≡ map g (buckets_of order)
unfolding buckets_of
map_buckets f g order h = map_count f g 0 (suc order) (λ k l m. h k (omega arith))

fold_count : {A : Type 0} (f g : A → ℕ → A) (a n : ℕ) → ((k : ℕ) → k < a + n → (x : A) → f x k ≡ g x k) → (x : A) → foldl f x (count_from a n) ≡ foldl g x (count_from a n)
unfolding count_from
fold_count f g a zero h x = refl
fold_count f g a (suc n) h x = ap (λ (y : _). foldl f y (count_from (suc a) n)) (h a (omega arith) x) ∙ fold_count f g (suc a) n (λ k l. h k (omega arith)) (g x a)

pub fold_buckets : {A : Type 0} (f g : A → ℕ → A) (order : ℕ) → ((k : ℕ) → k ≤ order → (x : A) → f x k ≡ g x k) → (x : A)
    → foldl f x (buckets_of order) ≡ foldl g x (buckets_of order)
unfolding buckets_of
fold_buckets f g order h x = fold_count f g 0 (suc order) (λ k l. h k (omega arith)) x

-- a test of every element of lists put end to end is the test of each list
every_append : {A : Type 0} (test : A → Bool) (xs ys : List A) → every test (xs ++ ys) ≡ (every test xs && every test ys)
unfolding every
every_append test [] ys = refl
every_append test (x ∷ xs) ys = ap (λ (b : Bool). test x && b) (every_append test xs ys) ∙ sym (and_assoc (test x) (every test xs) (every test ys))

pub every_flatten : {A : Type 0} (test : A → Bool) (f : ℕ → List A) (ks : List ℕ) → every test (flatten (map f ks)) ≡ every (λ k. every test (f k)) ks
unfolding every flatten
every_flatten test f [] = refl
every_flatten test f (k ∷ ks) = every_append test (f k) (flatten (map f ks)) ∙ ap (λ (b : Bool). every test (f k) && b) (every_flatten test f ks)

-- the rows of all buckets are the image's rows one after the other
pub rows_in_buckets : (image : List ℕ) → flatten (map (bucket_in image) (buckets_of (order_in image))) ≡ map (row_in image) (count_from 0 (slots_in image))
unfolding bucket_in slots_in slots_before buckets_of total count_from
rows_in_buckets image = runs (row_in image) (built_in image) 0 (suc (order_in image))
