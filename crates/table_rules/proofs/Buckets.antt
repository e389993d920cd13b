-- Which numbers are orders; and the buckets of a table one after the other: those from k on, up to the order, for a loop that goes through them.
use Prim.Native.Nat.{ℕ, zero, suc, ◌+◌, ◌-◌, ◌≤◌, ◌<◌}
use native.Mathlib.Omega.{arith}
use native.Mathlib.Nat.{lt_of_not-le}
use native.Mathlib.Decide.{dec_le}
use native.Mathlib.Numerals.{add-one}
use mathlib.Core.Path.{◌≡◌, sym, ◌∙◌, ap}
use mathlib.Core.List.{List, [], ◌∷◌}
use borrow.Author.Tests.{le-leb, lt-leb, leb-true}
use mathlib.Core.Bool.{Bool, true, false, ◌&&◌}
use lib.Dec.{leb}
use Rattle.lists.specs.Lists.{count_from, every}
use Rattle.lists.proofs.Tests.{and_first, and_second}
use Rattle.table_rules.specs.Geometry.{least_order, most_order, valid_order, buckets_of}

pub order_valid : (n : ℕ) → n ≤ most_order → valid_order n ≡ true
unfolding valid_order
order_valid n h = rw (le-leb least_order n (omega arith)) (le-leb n most_order h)

pub order_above : (n : ℕ) → most_order < n → valid_order n ≡ false
unfolding valid_order
order_above n h = rw (le-leb least_order n (omega arith)) (lt-leb n most_order h)

-- an order is at most 12
pub order_most : (n : ℕ) → valid_order n ≡ true → n ≤ most_order
unfolding valid_order
order_most n e = leb-true n most_order (and_second (leb least_order n) (leb n most_order) e)

unfoldable pub buckets_from : ℕ → ℕ → List ℕ
buckets_from order k = count_from k (order + 1 - k)

pub buckets_all : (order : ℕ) → buckets_from order 0 ≡ buckets_of order
unfolding buckets_from buckets_of
buckets_all order = let e : order + 1 - 0 ≡ suc order = omega arith in ap (count_from 0) e

pub buckets_next : (order k : ℕ) → k ≤ order → buckets_from order k ≡ k ∷ buckets_from order (k + 1)
unfolding buckets_from count_from
buckets_next order k h =
    let e : order + 1 - k ≡ suc (order + 1 - (k + 1)) = omega arith in
    ap (count_from k) e ∙ ap (λ (j : ℕ). k ∷ count_from j (order + 1 - (k + 1))) (sym (add-one k))

pub buckets_end : (order k : ℕ) → order < k → buckets_from order k ≡ []
unfolding buckets_from count_from
buckets_end order k h = let e : order + 1 - k ≡ 0 = omega arith in ap (count_from k) e

-- a test that all buckets pass is passed by each
every_counted : (test : ℕ → Bool) (first n k : ℕ) → first ≤ k → k < first + n → every test (count_from first n) ≡ true → test k ≡ true
unfolding count_from every
every_counted test first zero k low high e = absurd (omega arith)
every_counted test first (suc n) k low high e =
    elim (dec_le k first) [
      | yes d ↦
          (let same : first ≡ k = omega arith in
          ap test (sym same) ∙ and_first (test first) (every test (count_from (suc first) n)) e)
      | no d ↦
          every_counted test (suc first) n k (lt_of_not-le d) (omega arith) (and_second (test first) (every test (count_from (suc first) n)) e)
    ]

pub every_bucket : (test : ℕ → Bool) (order k : ℕ) → k ≤ order → every test (buckets_of order) ≡ true → test k ≡ true
unfolding buckets_of
every_bucket test order k h e = every_counted test 0 (suc order) k (omega arith) (omega arith) e

-- a loop that tests the buckets one after the other: what is left decides
module _ (test : ℕ → Bool) (order k : ℕ) where
  pub bucket_fails : k ≤ order → {all : Bool} → every test (buckets_from order k) ≡ all → test k ≡ false → false ≡ all
  unfolding every
  bucket_fails h e f =
      ap (λ (b : Bool). b && every test (buckets_from order (k + 1))) (sym f) ∙ ap (every test) (sym (buckets_next order k h)) ∙ e

  pub bucket_passes : k ≤ order → {all : Bool} → every test (buckets_from order k) ≡ all → test k ≡ true → every test (buckets_from order (k + 1)) ≡ all
  unfolding every
  bucket_passes h e f =
      ap (λ (b : Bool). b && every test (buckets_from order (k + 1))) (sym f) ∙ ap (every test) (sym (buckets_next order k h)) ∙ e

  pub buckets_pass : order < k → {all : Bool} → every test (buckets_from order k) ≡ all → true ≡ all
  unfolding every
  buckets_pass h e = ap (every test) (sym (buckets_end order k h)) ∙ e
