-- No number twice (`distinct`): no element equals one after it, so it is the same for a permuted list and for a part of one.
-- By the list.
use Prim.Native.Nat.{ℕ}
use mathlib.Core.Path.{◌≡◌, refl, sym}
use mathlib.Core.Bool.{Bool, true, not}
use mathlib.Core.List.{List, [], ◌∷◌, ◌++◌, map, Permᴰ}
use lib.Dec.{eqb}
use borrow.Author.Tests.{eqb-false, ne_eqb, not-true}
use Rattle.lists.specs.Lists.{every, distinct}
use Rattle.lists.proofs.Lists.{Pairs, all_weaken, pairs_left, pairs_right, pairs_perm, pairs_of_map}
use Rattle.lists.proofs.Tests.{and_first, and_second, and_pass, every_all, all_every}

abbrev pub Differ : ℕ → ℕ → Type 0
Differ m n = m ≡ n → ⊥

not_equal : (m n : ℕ) → not (eqb m n) ≡ true → m ≡ n → ⊥
not_equal m n h = eqb-false m n (not-true (eqb m n) h)

equal_not : (m n : ℕ) → (m ≡ n → ⊥) → not (eqb m n) ≡ true
equal_not m n h = rw (ne_eqb m n h)

pub distinct_pairs : (ns : List ℕ) → distinct ns ≡ true → Pairs Differ ns
unfolding distinct
distinct_pairs [] h = tt
distinct_pairs (n ∷ ns) h =
    let others : Bool = every (λ m. not (eqb m n)) ns in (
      all_weaken (λ m a e. not_equal m n a (sym e)) ns (every_all (λ m. not (eqb m n)) ns (and_first others (distinct ns) h)),
      distinct_pairs ns (and_second others (distinct ns) h),
    )

pub pairs_distinct : (ns : List ℕ) → Pairs Differ ns → distinct ns ≡ true
unfolding distinct
pairs_distinct [] h = refl
pairs_distinct (n ∷ ns) h =
    and_pass (every (λ m. not (eqb m n)) ns) (distinct ns)
    (all_every (λ m. not (eqb m n)) ns (all_weaken (λ m a. equal_not m n (λ e. a (sym e))) ns h.0))
    (pairs_distinct ns h.1)

pub distinct_perm : {ns ms : List ℕ} → Permᴰ ns ms → distinct ns ≡ true → distinct ms ≡ true
distinct_perm {ns} {ms} p h = pairs_distinct ms (pairs_perm Differ (λ m n a e. a (sym e)) p (distinct_pairs ns h))

pub distinct_left : (ns ms : List ℕ) → distinct (ns ++ ms) ≡ true → distinct ns ≡ true
distinct_left ns ms h = pairs_distinct ns (pairs_left Differ ns ms (distinct_pairs (ns ++ ms) h))

pub distinct_right : (ns ms : List ℕ) → distinct (ns ++ ms) ≡ true → distinct ms ≡ true
distinct_right ns ms h = pairs_distinct ms (pairs_right Differ ns ms (distinct_pairs (ns ++ ms) h))

-- of the numbers that a function gives
pub distinct_of : {A : Type 0} (f : A → ℕ) (xs : List A) → distinct (map f xs) ≡ true → Pairs (λ x y. f x ≡ f y → ⊥) xs
distinct_of f xs h = pairs_of_map f Differ xs (distinct_pairs (map f xs) h)
