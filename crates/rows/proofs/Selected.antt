-- Of slots the live ones are selected: those of a front are the first of them, and one more slot adds itself or nothing.
use Prim.Native.Nat.{ℕ, ◌+◌, ◌≤◌, ◌<◌}
use native.Mathlib.Omega.{arith}
use native.Mathlib.Numerals.{add-one}
use mathlib.Core.Path.{◌≡◌, sym, ◌∙◌, ap}
use mathlib.Core.Bool.{Bool, true, false}
use mathlib.Core.List.{List, [], ◌∷◌, ◌++◌, append-nil}
use lib.ListN.{length, take, drop, get_or, length-append, take-append-drop}
use lib.Seq.{take-suc}
use Rattle.lists.specs.Lists.{select}
use Rattle.search_rules.proofs.Selecting.{select_append}

module _ {A : Type 0} (test : A → Bool) where
  pub select_one : (x : A) → test x ≡ true → select test (x ∷ []) ≡ x ∷ []
  unfolding select
  select_one x h = rw (h, select)

  pub select_other : (x : A) → test x ≡ false → select test (x ∷ []) ≡ []
  unfolding select
  select_other x h = rw (h, select)

  pub selected_next : (xs : List A) (i : ℕ) (d : A) → i < length xs → test (get_or xs i d) ≡ true → select test (take (i + 1) xs) ≡ select test (take i xs) ++ (get_or xs i d ∷ [])
  selected_next xs i d h t =
      ap (λ (n : ℕ). select test (take n xs)) (add-one i)
      ∙ ap (select test) (take-suc xs i d h)
      ∙ select_append test (take i xs) (get_or xs i d ∷ [])
      ∙ ap (λ (s : List A). select test (take i xs) ++ s) (select_one (get_or xs i d) t)

  pub passed_over : (xs : List A) (i : ℕ) (d : A) → i < length xs → test (get_or xs i d) ≡ false → select test (take (i + 1) xs) ≡ select test (take i xs)
  passed_over xs i d h t =
      ap (λ (n : ℕ). select test (take n xs)) (add-one i)
      ∙ ap (select test) (take-suc xs i d h)
      ∙ select_append test (take i xs) (get_or xs i d ∷ [])
      ∙ ap (λ (s : List A). select test (take i xs) ++ s) (select_other (get_or xs i d) t)
      ∙ append-nil (select test (take i xs))

  pub selected_within : (i : ℕ) (xs : List A) → length (select test (take i xs)) ≤ length (select test xs)
  selected_within i xs =
      let e : select test xs ≡ select test (take i xs) ++ select test (drop i xs) =
      ap (select test) (sym (take-append-drop i xs)) ∙ select_append test (take i xs) (drop i xs) in
      omega (arith, ap length e, length-append (select test (take i xs)) (select test (drop i xs)))
