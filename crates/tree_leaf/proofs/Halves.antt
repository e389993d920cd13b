-- The halves below the first of a few slots as code cuts them: they are the definitions' halves, and of one to three slots each is one slot at most.
use Prim.Native.Nat.{ℕ, suc, ◌+◌, ◌-◌, ◌/◌, ◌<◌}
use mathlib.Core.Path.{◌≡◌, ap, ap₂, ◌∙◌}
use mathlib.Core.List.{List, [], ◌∷◌}
use lib.ListN.{length, take, drop, get_or, length-take, length-drop}
use native.Mathlib.Omega.{arith}
use Rattle.metric_rules.specs.Row.{Row}
use Rattle.tree_rules.specs.Layout.{left_size}
use Rattle.tree_rules.proofs.Parts.{part_rest}

abbrev pub left_part_lem : List Row → List Row
left_part_lem slots = take (length slots / 2 + 1 - 1) (drop 1 slots)

abbrev pub right_part_lem : List Row → List Row
right_part_lem slots = take (length slots - (length slots / 2 + 1)) (drop (length slots / 2 + 1) slots)

pub left_part : (s : Row) (rest : List Row) → left_part_lem (s ∷ rest) ≡ take (left_size (suc (length rest))) rest
unfolding left_size
left_part s rest = let e : suc (length rest) / 2 + 1 - 1 ≡ suc (length rest) / 2 = omega arith in ap (λ (n : ℕ). take n rest) e

pub right_part : (s : Row) (rest : List Row) → right_part_lem (s ∷ rest) ≡ drop (left_size (suc (length rest))) rest
unfolding left_size
right_part s rest =
    let e : suc (length rest) / 2 + 1 ≡ suc (suc (length rest) / 2) = omega arith in
    part_rest (suc (length rest) / 2 + 1) (s ∷ rest) ∙ ap (λ (n : ℕ). drop n (s ∷ rest)) e

-- their sizes
pub left_part_size : (slots : List Row) → 0 < length slots → length (left_part_lem slots) ≡ length slots / 2
left_part_size slots h = simp (length-take, length-drop) (omega (arith, h))

pub right_part_size : (slots : List Row) → length (right_part_lem slots) ≡ length slots - (length slots / 2 + 1)
right_part_size slots = simp (length-take, length-drop) (omega arith)

-- the one slot of a half
pub left_one : (slots : List Row) → 1 < length slots → length slots < 4 → left_part_lem slots ≡ get_or slots 1 [] ∷ []
left_one [] some few = absurd (omega arith)
left_one (a ∷ []) some few = absurd (omega arith)
left_one (a ∷ b ∷ rest) some few =
    let e : length (a ∷ b ∷ rest) / 2 + 1 - 1 ≡ 1 = omega arith in
    ap (λ (n : ℕ). take n (b ∷ rest)) e

pub right_one : (slots : List Row) → 2 < length slots → length slots < 4 → right_part_lem slots ≡ get_or slots 2 [] ∷ []
right_one [] some few = absurd (omega arith)
right_one (a ∷ []) some few = absurd (omega arith)
right_one (a ∷ b ∷ []) some few = absurd (omega arith)
right_one (a ∷ b ∷ c ∷ rest) some few =
    let e : length (a ∷ b ∷ c ∷ rest) - (length (a ∷ b ∷ c ∷ rest) / 2 + 1) ≡ 1 = omega arith in
    let h : length (a ∷ b ∷ c ∷ rest) / 2 + 1 ≡ 2 = omega arith in
    ap₂ (λ (n i : ℕ). take n (drop i (a ∷ b ∷ c ∷ rest))) e h
