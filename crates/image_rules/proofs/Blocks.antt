-- Lists put end to end: what stands before and after one of them, and how a run of places picks a part of a list.
-- Each goes by induction on what stands before the place.
use Prim.Native.Nat.{ℕ, zero, suc, ◌+◌, ◌*◌, ◌<◌}
use mathlib.Core.Path.{◌≡◌, refl, sym, ap, ap₂, ◌∙◌}
use mathlib.Core.List.{List, [], ◌∷◌, ◌++◌, map, map-append, append_assoc, flatten}
use native.Mathlib.Nat.{zero-add, suc-add, mul-suc, le_of_suc-le-suc, not-suc-le-zero}
use native.Mathlib.Omega.{arith}
use lib.ListN.{length, get_or, take, drop, length-append}
use lib.Seq.{get_or_at, drop-drop, take-add}
use Rattle.lists.specs.Lists.{total, count_from, All}
use Rattle.lists.proofs.Lists.{all_append}
use Rattle.table_rules.proofs.ByNumber as by_number
pub use Rattle.table_rules.proofs.ByNumber.{map_count}
use Rattle.lists.proofs.Totals.{total_more}

-- what holds of every element of some lists holds of every element of them put end to end, and of the one at a place
module _ {A : Type 0} (P : A → Type 0) where
  pub all_flatten : (s : ℕ → List A) (a n : ℕ) → ((k : ℕ) → k < a + n → All P (s k)) → All P (flatten (map s (count_from a n)))
  unfolding flatten count_from
  all_flatten s a zero h = tt
  all_flatten s a (suc n) h =
      all_append P (s a) (flatten (map s (count_from (suc a) n))) (h a (omega arith)) (all_flatten s (suc a) n (λ k l. h k (omega arith)))

  pub all_at : (xs : List A) (i : ℕ) (d : A) → All P xs → i < length xs → P (get_or xs i d)
  all_at [] i d h l = absurd (not-suc-le-zero l)
  all_at (x ∷ xs) zero d h l = h.0
  all_at (x ∷ xs) (suc i) d h l = all_at xs i d h.1 (le_of_suc-le-suc l)

-- numbers that are below a bound at every place
pub all_below : (m : ℕ) (xs : List ℕ) → ((i : ℕ) → get_or xs i 0 < m) → All (λ x. x < m) xs
all_below m [] h = tt
all_below m (x ∷ xs) h = (h 0, all_below m xs (λ i. h (suc i)))

module _ {A : Type 0} (f : A → List ℕ) (w : ℕ) where
  -- the block of element i, with what stands before and after it
  pub record Block (xs : List A) (i : ℕ) (x : A) : Type 0 where
    pub front : List ℕ
    pub back : List ℕ
    pub split : flatten (map f xs) ≡ front ++ (f x ++ back)
    pub long : length front ≡ w * i

  pub block_at : (xs : List A) (i : ℕ) (d : A) → All (λ x. length (f x) ≡ w) xs → i < length xs → Block xs i (get_or xs i d)
  unfolding flatten
  block_at [] i d h l = absurd (not-suc-le-zero l)
  block_at (x ∷ xs) zero d h l = record { front = []; back = flatten (map f xs); split = refl; long = omega arith }
  block_at (x ∷ xs) (suc i) d h l =
      let b = block_at xs i d h.1 (le_of_suc-le-suc l) in
      record {
        front = f x ++ b.front;
        back = b.back;
        split = ap (λ (r : List ℕ). f x ++ r) b.split ∙ sym (append_assoc (f x) b.front (f (get_or xs i d) ++ b.back));
        long = length-append (f x) b.front ∙ omega (arith, h.0, b.long, mul-suc w i);
      }

  pub length_blocks : (xs : List A) → All (λ x. length (f x) ≡ w) xs → length (flatten (map f xs)) ≡ w * length xs
  unfolding flatten
  length_blocks [] h = omega arith
  length_blocks (x ∷ xs) h =
      length-append (f x) (flatten (map f xs)) ∙ omega (arith, h.0, length_blocks xs h.1, mul-suc w (length xs))

pub length_count : (a n : ℕ) → length (count_from a n) ≡ n
unfolding count_from
length_count a zero = refl
length_count a (suc n) = ap suc (length_count (suc a) n)

pub get_or_count : (a n i d : ℕ) → i < n → get_or (count_from a n) i d ≡ a + i
unfolding count_from
get_or_count a zero i d h = absurd (not-suc-le-zero h)
get_or_count a (suc n) zero d h = omega arith
get_or_count a (suc n) (suc i) d h = get_or_count (suc a) n i d (le_of_suc-le-suc h) ∙ omega arith

module _ {A : Type 0} (s : ℕ → List A) where
  -- the list of number a + k, with what stands before and after it, among the lists of n numbers from a on put end to end
  pub record Part (a k n : ℕ) : Type 0 where
    pub front : List A
    pub back : List A
    pub split : flatten (map s (count_from a n)) ≡ front ++ (s (a + k) ++ back)
    pub long : length front ≡ total (map (λ j. length (s j)) (count_from a k))

  pub part_at : (a k n : ℕ) → k < n → Part a k n
  unfolding flatten count_from total
  part_at a k zero h = absurd (not-suc-le-zero h)
  part_at a zero (suc n) h =
      let e : a + 0 ≡ a = omega arith in
      record { front = []; back = flatten (map s (count_from (suc a) n)); split = rw e; long = refl }
  part_at a (suc k) (suc n) h =
      let p = part_at (suc a) k n (le_of_suc-le-suc h) in
      let e : a + suc k ≡ suc a + k = omega arith in
      record {
        front = s a ++ p.front;
        back = p.back;
        split = rw e (ap (λ (r : List A). s a ++ r) p.split ∙ sym (append_assoc (s a) p.front (s (suc a + k) ++ p.back)));
        long = length-append (s a) p.front ∙ ap (λ (r : ℕ). length (s a) + r) p.long;
      }

  pub length_flatten : (a n : ℕ) → length (flatten (map s (count_from a n))) ≡ total (map (λ j. length (s j)) (count_from a n))
  length_flatten a n = by_number.length_flatten s (count_from a n)

-- the elements of a list at n places from a on, where a part of that length stands there
pub picked : {A : Type 0} (front part back : List A) (a : ℕ) (d : A) → length front ≡ a
    → map (λ i. get_or (front ++ (part ++ back)) i d) (count_from a (length part)) ≡ part
unfolding count_from
picked front [] back a d e = refl
picked front (x ∷ part) back a d e =
    let regroup : front ++ (x ∷ (part ++ back)) ≡ (front ++ (x ∷ [])) ++ (part ++ back) = sym (append_assoc front (x ∷ []) (part ++ back)) in
    ap₂ ◌∷◌ (get_or_at front x (part ++ back) d a e)
    (ap (λ (xs : List _). map (λ i. get_or xs i d) (count_from (suc a) (length part))) regroup
    ∙ picked (front ++ (x ∷ [])) part back (suc a) d (length-append front (x ∷ []) ∙ omega (arith, e)))

-- n pieces of w elements from number a on, piece k standing at w · k past a place, put end to end are the elements there
pub pieces : {A : Type 0} (xs : List A) (w at a n : ℕ)
    → flatten (map (λ k. take w (drop (at + w * k) xs)) (count_from a n)) ≡ take (w * n) (drop (at + w * a) xs)
unfolding flatten count_from
pieces xs w at a zero = let e : w * 0 ≡ 0 = omega arith in rw e
pieces xs w at a (suc n) =
    let size : w * suc n ≡ w + w * n = omega (arith, mul-suc w n) in
    let place : at + w * suc a ≡ at + w * a + w = omega (arith, mul-suc w a) in
    let here = drop (at + w * a) xs in
    ap (λ (r : List _). take w here ++ r)
    (pieces xs w at (suc a) n ∙ ap (λ (i : ℕ). take (w * n) (drop i xs)) place ∙ ap (take (w * n)) (sym (drop-drop w (at + w * a) xs)))
    ∙ sym (take-add w (w * n) here)
    ∙ ap (λ (i : ℕ). take i here) (sym size)

pub count_append : (a m n : ℕ) → count_from a (m + n) ≡ count_from a m ++ count_from (a + m) n
unfolding count_from
count_append a zero n = let e : a + 0 ≡ a = omega arith in rw (e, zero-add n)
count_append a (suc m) n =
    let e : a + suc m ≡ suc a + m = omega arith in
    rw (e, suc-add m n) (ap (λ (r : List ℕ). a ∷ r) (count_append (suc a) m n))

-- the elements of runs of numbers that adjoin are those of one run: run k has `size k` numbers and begins where those before it end
pub runs : {A : Type 0} (f : ℕ → A) (size : ℕ → ℕ) (a n : ℕ)
    → flatten (map (λ k. map f (count_from (total (map size (count_from 0 k))) (size k))) (count_from a n))
    ≡ map f (count_from (total (map size (count_from 0 a))) (total (map size (count_from a n))))
unfolding flatten count_from total
runs f size a zero = refl
runs f size a (suc n) =
    let start = total (map size (count_from 0 a)) in
    let rest = total (map size (count_from (suc a) n)) in
    let next : total (map size (count_from 0 (suc a))) ≡ start + size a = total_more size a in
    ap (λ (r : List _). map f (count_from start (size a)) ++ r) (runs f size (suc a) n ∙ ap (λ (i : ℕ). map f (count_from i rest)) next)
    ∙ sym (map-append f (count_from start (size a)) (count_from (start + size a) rest))
    ∙ ap (map f) (sym (count_append start (size a) rest))
