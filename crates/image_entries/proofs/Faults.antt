-- The first fault of some slots: of a run and the one behind it the first's, or where it has none the second's; and of two tests of the same slots the
-- earlier. And as a loop finds it, run after run.
use Prim.Native.Nat.{ℕ, zero, suc, ◌+◌, ◌≤◌, ◌<◌}
use native.Mathlib.Omega.{arith}
use native.Mathlib.Numerals.{add-one}
use mathlib.Core.Path.{◌≡◌, refl, sym, ◌∙◌, ap}
use mathlib.Core.Bool.{Bool, true, false}
use mathlib.Core.List.{List, [], ◌∷◌, ◌++◌, map, flatten}
use lib.Dec.{ltb}
use lib.ListN.{length, get_or, drop, drop_of_length-le}
use lib.Seq.{drop-cons}
use borrow.Author.Tests.{le-ltb, lt-ltb}
use Rattle.lists.specs.Lists.{count_from}
use Rattle.std.specs.Prelude.{Err}
use Rattle.refusals.proofs.Refused.{some_number}
use Rattle.table_rules.specs.Refusals.{or_else}
use Rattle.image_rules.specs.declared.Loaded.{Loaded}
use Rattle.image_rules.specs.Trees.{first_refused}
use Rattle.image_entries.specs.Faults.{loaded_of, no_fault, or_fault, first_of, earlier}
use Rattle.image_entries.specs.declared.Fault.{Fault}

-- a fault that was found has a number
pub fault_refused : (fault : Fault) → (loaded_of {A = Unit {0}} (Err fault)).refusal ≡ 0 → ⊥
fault_refused fault e = let some = some_number fault.refusal in absurd (omega arith)

-- which of two runs counts
pub first_none : (a b : Loaded) → a.refusal ≡ 0 → or_fault a b ≡ b
unfolding or_fault
first_none a b e = ap (λ (n : ℕ). elim n as (λ _. Loaded) [ zero ↦ b | suc m ↦ a ]) e

pub first_some : (a b : Loaded) → (a.refusal ≡ 0 → ⊥) → or_fault a b ≡ a
unfolding or_fault
first_some a b some = go a.refusal refl
  where
    go : (n : ℕ) → a.refusal ≡ n → ◌≡◌ {A = Loaded} (elim n [ zero ↦ b | suc m ↦ a ]) a
    go zero e = absurd (some e)
    go (suc n) e = refl

pub first_append : (at : ℕ) (ms ns : List ℕ) → first_refused at (ms ++ ns) ≡ or_fault (first_refused at ms) (first_refused (at + length ms) ns)
unfolding first_refused or_fault
first_append at [] ns = let e : at ≡ at + 0 = omega arith in ap (λ (k : ℕ). first_refused k ns) e
first_append at (zero ∷ ms) ns =
    let e : suc at + length ms ≡ at + suc (length ms) = omega arith in
    first_append (suc at) ms ns ∙ ap (λ (k : ℕ). or_fault (first_refused (suc at) ms) (first_refused k ns)) e
first_append at (suc m ∷ ms) ns = refl

-- two tests of the same slots, the first before the second in each slot
unfoldable pub both : List ℕ → List ℕ → List ℕ
both [] ns = []
both (m ∷ ms) [] = []
both (m ∷ ms) (n ∷ ns) = or_else m n ∷ both ms ns

-- the slot that is refused is one of them
slot_from : (at : ℕ) (ns : List ℕ) → ((first_refused at ns).refusal ≡ 0 → ⊥) → at ≤ (first_refused at ns).slot
unfolding first_refused
slot_from at [] some = absurd (some refl)
slot_from at (zero ∷ ns) some = omega (arith, slot_from (suc at) ns some)
slot_from at (suc n ∷ ns) some = omega arith

pub earlier_none : (a b : Loaded) → a.refusal ≡ 0 → earlier a b ≡ b
unfolding earlier
earlier_none a b e =
    ap (λ (m : ℕ). elim m as (λ _. Loaded) [ zero ↦ b | suc i ↦ elim b.refusal [ zero ↦ a | suc j ↦ elim (ltb b.slot a.slot) [ true ↦ b | false ↦ a ] ] ]) e

pub earlier_first : (a b : Loaded) → (a.refusal ≡ 0 → ⊥) → ((b.refusal ≡ 0 → ⊥) → a.slot ≤ b.slot) → earlier a b ≡ a
unfolding earlier
earlier_first a b some h = go a.refusal refl b.refusal refl
  where
    go : (m : ℕ) → a.refusal ≡ m → (n : ℕ) → b.refusal ≡ n
        → ◌≡◌ {A = Loaded} (elim m [ zero ↦ b | suc i ↦ elim n [ zero ↦ a | suc j ↦ elim (ltb b.slot a.slot) [ true ↦ b | false ↦ a ] ] ]) a
    go zero e n f = absurd (some e)
    go (suc m) e zero f = refl
    go (suc m) e (suc n) f = ap (λ (t : Bool). elim t as (λ _. Loaded) [ true ↦ b | false ↦ a ]) (le-ltb b.slot a.slot (h (λ z. omega (arith, f, z))))

pub earlier_second : (a b : Loaded) → (b.refusal ≡ 0 → ⊥) → ((a.refusal ≡ 0 → ⊥) → b.slot < a.slot) → earlier a b ≡ b
unfolding earlier
earlier_second a b some h = go a.refusal refl b.refusal refl
  where
    go : (m : ℕ) → a.refusal ≡ m → (n : ℕ) → b.refusal ≡ n
        → ◌≡◌ {A = Loaded} (elim m [ zero ↦ b | suc i ↦ elim n [ zero ↦ a | suc j ↦ elim (ltb b.slot a.slot) [ true ↦ b | false ↦ a ] ] ]) b
    go zero e n f = refl
    go (suc m) e zero f = absurd (some f)
    go (suc m) e (suc n) f = ap (λ (t : Bool). elim t as (λ _. Loaded) [ true ↦ b | false ↦ a ]) (lt-ltb b.slot a.slot (h (λ z. omega (arith, e, z))))

pub first_both : (at : ℕ) (ms ns : List ℕ) → length ms ≡ length ns → first_refused at (both ms ns) ≡ earlier (first_refused at ms) (first_refused at ns)
unfolding first_refused both earlier
first_both at [] [] l = refl
first_both at [] (n ∷ ns) l = absurd (omega arith)
first_both at (m ∷ ms) [] l = absurd (omega arith)
first_both at (zero ∷ ms) (zero ∷ ns) l = first_both (suc at) ms ns (omega arith)
first_both at (zero ∷ ms) (suc n ∷ ns) l =
    sym (earlier_second (first_refused (suc at) ms) (record { refusal = suc n; slot = at }) (λ z. omega arith) (λ some. omega (arith, slot_from (suc at) ms some)))
first_both at (suc m ∷ ms) (n ∷ ns) l =
    sym (earlier_first (record { refusal = suc m; slot = at }) (first_refused at (n ∷ ns)) (λ z. omega arith) (slot_from at (n ∷ ns)))

-- runs one behind the other, run k beginning at a number of its own
pub first_runs : (start : ℕ → ℕ) (f : ℕ → List ℕ) → ((k : ℕ) → start (suc k) ≡ start k + length (f k)) → (a n : ℕ)
    → first_refused (start a) (flatten (map f (count_from a n))) ≡ first_of (map (λ k. first_refused (start k) (f k)) (count_from a n))
unfolding count_from flatten first_of first_refused no_fault
first_runs start f next a zero = refl
first_runs start f next a (suc n) =
    first_append (start a) (f a) (flatten (map f (count_from (suc a) n)))
    ∙ ap (λ (k : ℕ). or_fault (first_refused (start a) (f a)) (first_refused k (flatten (map f (count_from (suc a) n))))) (sym (next a))
    ∙ ap (or_fault (first_refused (start a) (f a))) (first_runs start f next (suc a) n)

-- the elements from i on decide
module _ {A : Type 0} (f : A → Loaded) (other : A) (xs : List A) (i : ℕ) (more : i < length xs) where
  faults_at : first_of (map f (drop i xs)) ≡ or_fault (f (get_or xs i other)) (first_of (map f (drop (suc i) xs)))
  unfolding first_of
  faults_at = ap (λ (ys : List A). first_of (map f ys)) (drop-cons xs i other more)

  pub fault_found : {all : Loaded} → first_of (map f (drop i xs)) ≡ all → ((f (get_or xs i other)).refusal ≡ 0 → ⊥) → f (get_or xs i other) ≡ all
  fault_found e some = sym (first_some (f (get_or xs i other)) (first_of (map f (drop (suc i) xs))) some) ∙ sym faults_at ∙ e

  pub fault_passed : {all : Loaded} → first_of (map f (drop i xs)) ≡ all → (f (get_or xs i other)).refusal ≡ 0 → first_of (map f (drop (i + 1) xs)) ≡ all
  fault_passed e none =
      ap (λ (n : ℕ). first_of (map f (drop n xs))) (add-one i) ∙ sym (first_none (f (get_or xs i other)) (first_of (map f (drop (suc i) xs))) none) ∙ sym faults_at ∙ e

pub fault_none : {A : Type 0} (f : A → Loaded) (xs : List A) (i : ℕ) → length xs ≤ i → {all : Loaded} → first_of (map f (drop i xs)) ≡ all → no_fault ≡ all
unfolding first_of
fault_none f xs i h e = ap (λ (ys : List _). first_of (map f ys)) (sym (drop_of_length-le xs {i = i} h)) ∙ e
