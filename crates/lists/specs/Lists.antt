-- Plain operations on lists that the rules are written with. Nothing here is particular to the index.
use Rattle.std.specs.Prelude.{ℕ, zero, suc, ◌+◌, Bool, true, false, not, ◌&&◌, ◌||◌, List, [], ◌∷◌, eqb}

-- the n numbers from `first` on, in order
unfoldable pub count_from : ℕ → ℕ → List ℕ
count_from first zero = []
count_from first (suc n) = first ∷ count_from (suc first) n

unfoldable pub total : List ℕ → ℕ
total [] = 0
total (n ∷ ns) = n + total ns

module _ {A : Type 0} where
  -- the last element, or z where there is none
  unfoldable pub last : A → List A → A
  last z [] = z
  last z (x ∷ xs) = last x xs

  -- the elements that pass a test, in their order
  unfoldable pub select : (A → Bool) → List A → List A
  select test [] = []
  select test (x ∷ xs) = elim (test x) [ true ↦ x ∷ select test xs | false ↦ select test xs ]

  -- every element passes
  unfoldable pub every : (A → Bool) → List A → Bool
  every test [] = true
  every test (x ∷ xs) = test x && every test xs

  -- some element passes
  unfoldable pub any : (A → Bool) → List A → Bool
  any test [] = false
  any test (x ∷ xs) = test x || any test xs

  -- the two lists are alike, element by element
  unfoldable pub alike : (A → A → Bool) → List A → List A → Bool
  alike same [] [] = true
  alike same [] (y ∷ ys) = false
  alike same (x ∷ xs) [] = false
  alike same (x ∷ xs) (y ∷ ys) = same x y && alike same xs ys

-- every element has a property
abbrev pub All : {A : Type 0} → (A → Type 0) → List A → Type 0
All P [] = Unit {0}
All P (x ∷ xs) = P x × All P xs

-- no number occurs twice
unfoldable pub distinct : List ℕ → Bool
unfolding every
distinct [] = true
distinct (n ∷ ns) = every (λ m. not (eqb m n)) ns && distinct ns

-- two lists of numbers are the same
unfoldable pub same_numbers : List ℕ → List ℕ → Bool
unfolding alike
same_numbers = alike eqb
