-- The places of live slots: a row more is one place more or none, a bucket more brings its places. They ascend, so that
-- equal tags by place stand as they were gathered, and the rows at the places by tag are the live items by tag.
use Prim.Native.Nat.{ℕ, zero, suc, ◌+◌, ◌-◌, ◌≤◌}
use native.Mathlib.Omega.{arith}
use native.Mathlib.Decide.{dec_le}
use native.Mathlib.Nat.{lt_of_not-le}
use native.Mathlib.Numerals.{add-one}
use mathlib.Core.Path.{◌≡◌, refl, sym, ap, ap₂, ◌∙◌}
use mathlib.Core.Bool.{Bool, true, false}
use mathlib.Core.List.{List, [], ◌∷◌, ◌++◌, append-nil}
use lib.ListN.{length, length-append}
use Rattle.table_rules.specs.Geometry.{first_slot}
use Rattle.lists.specs.Lists.{count_from, select}
use Rattle.metric_rules.specs.Row.{is_live}
use Rattle.search_rules.proofs.Selecting.{select_append, select_none, select_yes, select_no}
use Rattle.table_rules.specs.Table.{Table, row_at, order_of, built_of}
use Rattle.lots_gather.specs.Places.{live_places, places_in, places_below, all_places}

count_then : (first n m : ℕ) → count_from first (n + m) ≡ count_from first n ++ count_from (first + n) m
unfolding count_from
count_then first zero m = let e : first ≡ first + 0 = omega arith in let z : 0 + m ≡ m = omega arith in ap (count_from first) z ∙ ap (λ (i : ℕ). count_from i m) e
count_then first (suc n) m =
    let e : suc first + n ≡ first + suc n = omega arith in
    let s : suc n + m ≡ suc (n + m) = omega arith in
    ap (count_from first) s ∙ ap (λ (l : List ℕ). first ∷ l) (count_then (suc first) n m ∙ ap (λ (i : ℕ). count_from (suc first) n ++ count_from i m) e)

module _ (t : Table) (first : ℕ) where
  abbrev live : ℕ → Bool
  live p = is_live (row_at t p)

  pub places_none : {n : ℕ} → n ≡ 0 → live_places t first n ≡ []
  unfolding live_places count_from
  places_none e = ap (live_places t first) e ∙ select_none live [] tt

  places_then : (n m : ℕ) → live_places t first (n + m) ≡ live_places t first n ++ live_places t (first + n) m
  unfolding live_places
  places_then n m = ap (select live) (count_then first n m) ∙ select_append live (count_from first n) (count_from (first + n) m)

  pub places_more : (n : ℕ) → is_live (row_at t (first + n)) ≡ true → live_places t first (n + 1) ≡ live_places t first n ++ ((first + n) ∷ [])
  unfolding live_places count_from
  places_more n h = places_then n 1 ∙ ap (λ (l : List ℕ). live_places t first n ++ l) (select_yes live (first + n) [] h ∙ ap (λ (l : List ℕ). (first + n) ∷ l) (select_none live [] tt))

  pub places_over : (n : ℕ) → is_live (row_at t (first + n)) ≡ false → live_places t first (n + 1) ≡ live_places t first n
  unfolding live_places count_from
  places_over n h =
      places_then n 1
      ∙ ap (λ (l : List ℕ). live_places t first n ++ l) (select_no live (first + n) [] h ∙ select_none live [] tt)
      ∙ append-nil (live_places t first n)

  pub places_within : (n m : ℕ) → n ≤ m → length (live_places t first n) ≤ length (live_places t first m)
  places_within n m h =
      let e : n + (m - n) ≡ m = omega arith in
      omega (arith, ap length (sym (places_then n (m - n)) ∙ ap (live_places t first) e), length-append (live_places t first n) (live_places t (first + n) (m - n)))

module _ (t : Table) where
  pub below_none : places_below t 0 ≡ []
  unfolding places_below
  below_none = refl

  -- bucket k more, whose slots begin at `first` and end before `end`
  pub below_next : (k first end : ℕ) → first ≡ first_slot (order_of t) k → end ≡ first + built_of t k → places_below t (k + 1) ≡ places_below t k ++ live_places t first (end - first)
  unfolding places_below places_in
  below_next k first end e f =
      let size : built_of t k ≡ end - first = omega (arith, f) in
      ap (places_below t) (add-one k) ∙ ap₂ (λ (i n : ℕ). places_below t k ++ live_places t i n) (sym e) size

  below_more : (i n : ℕ) → i ≤ n → length (places_below t i) ≤ length (places_below t n)
  unfolding places_below
  below_more i zero h = let z : i ≡ 0 = omega arith in omega (arith, ap (λ (j : ℕ). length (places_below t j)) z)
  below_more i (suc n) h = go (dec_le i n) (below_more i n)
    where
      go : Dec (i ≤ n) → (i ≤ n → length (places_below t i) ≤ length (places_below t n)) → length (places_below t i) ≤ length (places_below t (suc n))
      go (yes g) fewer = omega (arith, fewer g, length-append (places_below t n) (places_in t n))
      go (no g) fewer = let e : i ≡ suc n = omega (arith, lt_of_not-le g) in omega (arith, ap (λ (j : ℕ). length (places_below t j)) e)

  pub below_within : (i : ℕ) → i ≤ suc (order_of t) → length (places_below t i) ≤ length (all_places t)
  unfolding all_places
  below_within i h = below_more i (suc (order_of t)) h

  pub below_all : (i : ℕ) → i ≡ suc (order_of t) → places_below t i ≡ all_places t
  unfolding all_places
  below_all i e = ap (places_below t) e
