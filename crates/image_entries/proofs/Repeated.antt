-- Ascending words: of the words with one tag each but the first stands behind another, so the least place of one that does is the least of a word with
-- whose tag there is a smaller word.
use Prim.Native.Nat.{ℕ, ◌/◌, ◌%◌, ◌≤◌, ◌<◌}
use native.Mathlib.Omega.{arith}
use mathlib.Core.Path.{◌≡◌, refl, ap, ap₂}
use mathlib.Core.Bool.{Bool, true, false}
use mathlib.Core.List.{List, [], ◌∷◌, map}
use lib.Dec.{ltb, eqb}
use lib.ListN.{length, get_or, take, drop}
use borrow.Author.Tests.{ltb-true, ltb-false, eqb-true, eq-eqb, ne_eqb, lt-ltb, le-ltb}
use Rattle.lists.specs.Lists.{All}
use Rattle.lists.proofs.Lists.{Pairs, all_weaken, all_both}
use Rattle.search_rules.specs.Range.{Entry}
use Rattle.image_entries.specs.Entries.{places, first_word}
use Rattle.image_entries.specs.Duplicates.{less_repeated, least_repeated}

-- the step, test by test
module _ (least a b : ℕ) where
  step : Bool → Bool → ℕ
  step same lower = elim same [ false ↦ least | true ↦ elim lower [ true ↦ b % places | false ↦ least ] ]

  pub less_other : (a / places ≡ b / places → ⊥) → less_repeated least a b ≡ least
  unfolding less_repeated step
  less_other f = ap (λ (s : Bool). step s (ltb (b % places) least)) (ne_eqb (a / places) (b / places) f)

  pub less_lower : a / places ≡ b / places → b % places < least → less_repeated least a b ≡ b % places
  unfolding less_repeated step
  less_lower e h = ap₂ step (eq-eqb (a / places) (b / places) e) (lt-ltb (b % places) least h)

  pub less_kept : a / places ≡ b / places → least ≤ b % places → less_repeated least a b ≡ least
  unfolding less_repeated step
  less_kept e h = ap₂ step (eq-eqb (a / places) (b / places) e) (le-ltb (b % places) least h)

less_most : (least a b : ℕ) → less_repeated least a b ≤ least
unfolding less_repeated
less_most least a b = go (eqb (a / places) (b / places)) (ltb (b % places) least) refl
  where
    go : (s t : Bool) → ltb (b % places) least ≡ t → elim s [ false ↦ least | true ↦ elim t [ true ↦ b % places | false ↦ least ] ] ≤ least
    go false t e = omega arith
    go true true e = omega (arith, ltb-true (b % places) least e)
    go true false e = omega arith

less_second : (least a b : ℕ) → a / places ≡ b / places → less_repeated least a b ≤ b % places
less_second least a b q = go (ltb (b % places) least) refl
  where
    go : (t : Bool) → ltb (b % places) least ≡ t → less_repeated least a b ≤ b % places
    go true e = omega (arith, less_lower least a b q (ltb-true (b % places) least e))
    go false e = omega (arith, less_kept least a b q (ltb-false (b % places) least e), ltb-false (b % places) least e)

less_is : (least a b r : ℕ) → (a / places ≡ b / places → b % places ≡ r → ⊥) → less_repeated least a b ≡ r → least ≡ r
unfolding less_repeated
less_is least a b r none = go (eqb (a / places) (b / places)) refl (ltb (b % places) least)
  where
    go : (s : Bool) → eqb (a / places) (b / places) ≡ s → (t : Bool) → ◌≡◌ {A = ℕ} (elim s [ false ↦ least | true ↦ elim t [ true ↦ b % places | false ↦ least ] ]) r → least ≡ r
    go false f t h = h
    go true f true h = absurd (none (eqb-true (a / places) (b / places) f) h)
    go true f false h = h

pub least_most : (least : ℕ) (ws : List ℕ) → least_repeated least ws ≤ least
unfolding least_repeated
least_most least [] = omega arith
least_most least (a ∷ []) = omega arith
least_most least (a ∷ b ∷ ws) = omega (arith, least_most (less_repeated least a b) (b ∷ ws), less_most least a b)

-- a word with a smaller one of its tag has no lower place
module _ (r : ℕ) where
  abbrev NotBelow : ℕ → ℕ → Type 0
  NotBelow u v = u < v → u / places ≡ v / places → r ≤ v % places

pub least_below : (least : ℕ) (ws : List ℕ) → Pairs ◌<◌ ws → All (λ u. All (NotBelow (least_repeated least ws) u) ws) ws
unfolding least_repeated places
least_below least [] p = tt
least_below least (a ∷ []) p = (((λ h q. absurd (omega arith)), tt), tt)
least_below least (a ∷ b ∷ ws) p =
    let next : ℕ = less_repeated least a b in
    let r : ℕ = least_repeated next (b ∷ ws) in
    let rest : All (λ u. All (NotBelow r u) (b ∷ ws)) (b ∷ ws) = least_below next (b ∷ ws) p.1 in
    let first : NotBelow r a b = λ h q. omega (arith, least_most next (b ∷ ws), less_second least a b q) in
    let behind : All (NotBelow r a) ws =
    all_both (λ v h f k q. f h (omega (arith, p.0.0))) ws p.1.0 rest.0.1 in
    (((λ h q. absurd (omega arith)), (first, behind)), all_both (λ u h f. ((λ k q. absurd (omega arith)), f)) (b ∷ ws) p.0 rest)

-- and where none is at a place, that place is not told
pub least_is :
    (least r : ℕ) (ws : List ℕ) → Pairs ◌<◌ ws → All (λ u. All (λ v. u < v → u / places ≡ v / places → v % places ≡ r → ⊥) ws) ws
    → least_repeated least ws ≡ r → least ≡ r
unfolding least_repeated
least_is least r [] p h e = e
least_is least r (a ∷ []) p h e = e
least_is least r (a ∷ b ∷ ws) p h e =
    less_is least a b r (h.0.1.0 p.0.0) (least_is (less_repeated least a b) r (b ∷ ws) p.1 (all_weaken (λ u f. f.1) (b ∷ ws) h.1) e)

-- a scan of the entries by pairs: what is left decides, with the least place so far
pub scan_pair : (least less n : ℕ) (rest pair after : List Entry) → n ≡ 2 → n ≤ length rest → pair ≡ take n rest → after ≡ drop 1 rest
    → less ≡ less_repeated least (get_or (get_or pair 0 []) 0 0) (get_or (get_or pair 1 []) 0 0)
    → least_repeated less (map first_word after) ≡ least_repeated least (map first_word rest)
unfolding least_repeated first_word
scan_pair least less n [] pair after e h p q f = absurd (omega arith)
scan_pair least less n (a ∷ []) pair after e h p q f = absurd (omega arith)
scan_pair least less n (a ∷ b ∷ es) pair after e h p q f = rw (f, p, q, e) refl

pub scan_end : (least n : ℕ) (rest : List Entry) → n ≡ 2 → length rest < n → least_repeated least (map first_word rest) ≡ least
unfolding least_repeated
scan_end least n [] e h = refl
scan_end least n (a ∷ []) e h = refl
scan_end least n (a ∷ b ∷ es) e h = absurd (omega arith)
