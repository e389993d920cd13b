-- The first fault of a part: at its first slot where another item is laid there or the threshold differs, else the left half's, else the right half's.
use Prim.Native.Nat.{ℕ, zero, suc, ◌+◌}
use native.Mathlib.Omega.{arith}
use native.Mathlib.Numerals.{add-one}
use mathlib.Core.Path.{◌≡◌, refl, sym, ◌∙◌, ap, ap₂}
use mathlib.Core.Bool.{Bool}
use mathlib.Core.List.{List, [], ◌∷◌, ◌++◌, map, map-append}
use lib.Dec.{eqb}
use lib.ListN.{length, length-map}
use Rattle.lists.specs.Lists.{count_from, same_numbers}
use Rattle.metric_rules.specs.declared.Profile.{Profile}
use Rattle.metric_rules.specs.Row.{Row, row_width, threshold_of}
use Rattle.tree_rules.specs.Layout.{placed}
use Rattle.tree_rules.proofs.Layouts.{layout_of_length}
use Rattle.tree_rules.proofs.Placed.{threshold_placed, placed_again}
use Rattle.search_rules.specs.Range.{Entry}
use Rattle.table_rules.specs.Refusals.{unless}
use Rattle.image_rules.specs.Trees.{misplaced_item, bad_threshold, same_item, place_refusal, first_refused}
use Rattle.image_rules.proofs.Blocks.{length_count, count_append}
use Rattle.image_entries.specs.Faults.{no_fault, or_fault, place_refusals}
use Rattle.image_entries.specs.Entries.{ranked_in, laid_out, partFault}
use Rattle.image_entries.proofs.Faults.{first_append}
use Rattle.image_entries.proofs.Ranking.{laid_out_lem}

-- slots beside what is laid there, in two runs
place_append : (xs zs ys ws : List Row) → length xs ≡ length zs → place_refusals (xs ++ ys) (zs ++ ws) ≡ place_refusals xs zs ++ place_refusals ys ws
unfolding place_refusals
place_append [] [] ys ws l = refl
place_append [] (z ∷ zs) ys ws l = absurd (omega arith)
place_append (x ∷ xs) [] ys ws l = absurd (omega arith)
place_append (x ∷ xs) (z ∷ zs) ys ws l = ap (λ (ns : List ℕ). place_refusal x z ∷ ns) (place_append xs zs ys ws (omega arith))

place_length : (xs zs : List Row) → length xs ≡ length zs → length (place_refusals xs zs) ≡ length zs
unfolding place_refusals
place_length xs [] l = refl
place_length [] (z ∷ zs) l = absurd (omega arith)
place_length (x ∷ xs) (z ∷ zs) l = ap suc (place_length xs zs (omega arith))

refused_here : (at n : ℕ) (ns : List ℕ) → (n ≡ 0 → ⊥) → first_refused at (n ∷ ns) ≡ record { refusal = n; slot = at }
unfolding first_refused
refused_here at zero ns some = absurd (some refl)
refused_here at (suc n) ns some = refl

passed_here : (at n : ℕ) (ns : List ℕ) → n ≡ 0 → first_refused at (n ∷ ns) ≡ first_refused (suc at) ns
unfolding first_refused
passed_here at n ns e = ap (λ (m : ℕ). first_refused at (m ∷ ns)) e

module _ (slot : ℕ → Row) (dist : Profile → Profile → ℕ) (first : ℕ) where
  -- the slots of a part, and what their layout is beside them
  slots_from : ℕ → ℕ → List Row
  slots_from at n = map slot (count_from at n)

  slots_length : (at n : ℕ) → length (slots_from at n) ≡ n
  unfolding slots_from
  slots_length at n = length-map (count_from at n) slot ∙ length_count at n

  laid_length : (es : List Entry) → length (laid_out slot dist es) ≡ length es
  laid_length es = ap length (laid_out_lem slot dist es) ∙ layout_of_length dist (map (ranked_in slot) es) ∙ length-map es (ranked_in slot)

  refusals : ℕ → List Entry → List ℕ
  refusals at es = place_refusals (laid_out slot dist es) (slots_from at (length es))

  refusals_length : (at : ℕ) (es : List Entry) → length (refusals at es) ≡ length es
  unfolding refusals
  refusals_length at es = place_length (laid_out slot dist es) (slots_from at (length es)) (laid_length es ∙ sym (slots_length at (length es))) ∙ slots_length at (length es)

  fault_is : (at : ℕ) (es : List Entry) → partFault slot dist first at es ≡ first_refused (first + at) (refusals at es)
  unfolding partFault refusals slots_from
  fault_is at es = refl

  slots_parts : (at a b : ℕ) → slots_from at (suc (a + b)) ≡ slot at ∷ slots_from (at + 1) a ++ slots_from (at + 1 + a) b
  unfolding slots_from count_from
  slots_parts at a b =
      ap (λ (rs : List Row). slot at ∷ rs)
      (ap (map slot) (ap (λ (k : ℕ). count_from k (a + b)) (sym (add-one at)) ∙ count_append (at + 1) a b)
      ∙ map-append slot (count_from (at + 1) a) (count_from (at + 1 + a) b))

  pub fault_none : (at : ℕ) (es : List Entry) → length es ≡ 0 → partFault slot dist first at es ≡ no_fault
  unfolding partFault count_from place_refusals first_refused no_fault
  fault_none at es e = ap (λ (n : ℕ). first_refused (first + at) (place_refusals (laid_out slot dist es) (map slot (count_from at n)))) e

  -- a part whose entries hold its layout: a first row over two halves
  module _ (at : ℕ) (es left right : List Entry) (row : Row) (is : laid_out slot dist es ≡ row ∷ laid_out slot dist left ++ laid_out slot dist right)
      (sizes : length es ≡ suc (length left + length right)) where
    node_is : partFault slot dist first at es ≡ first_refused (first + at) (place_refusal row (slot at) ∷ refusals (at + 1) left ++ refusals (at + 1 + length left) right)
    unfolding refusals place_refusals
    node_is =
        fault_is at es
        ∙ ap₂ (λ (xs ys : List Row). first_refused (first + at) (place_refusals xs ys)) is (ap (slots_from at) sizes ∙ slots_parts at (length left) (length right))
        ∙ ap (λ (ns : List ℕ). first_refused (first + at) (place_refusal row (slot at) ∷ ns))
        (place_append (laid_out slot dist left) (slots_from (at + 1) (length left)) (laid_out slot dist right) (slots_from (at + 1 + length left) (length right))
        (laid_length left ∙ sym (slots_length (at + 1) (length left))))

    pub fault-here : (place_refusal row (slot at) ≡ 0 → ⊥) → partFault slot dist first at es ≡ record { refusal = place_refusal row (slot at); slot = first + at }
    fault-here some = node_is ∙ refused_here (first + at) (place_refusal row (slot at)) _ some

    pub fault-halves : place_refusal row (slot at) ≡ 0
        → partFault slot dist first at es ≡ or_fault (partFault slot dist first (at + 1) left) (partFault slot dist first (at + 1 + length left) right)
    fault-halves none =
        let next : suc (first + at) ≡ first + (at + 1) = omega arith in
        let behind : first + (at + 1) + length (refusals (at + 1) left) ≡ first + (at + 1 + length left) = omega (arith, refusals_length (at + 1) left) in
        node_is
        ∙ passed_here (first + at) (place_refusal row (slot at)) _ none
        ∙ ap (λ (k : ℕ). first_refused k (refusals (at + 1) left ++ refusals (at + 1 + length left) right)) next
        ∙ first_append (first + (at + 1)) (refusals (at + 1) left) (refusals (at + 1 + length left) right)
        ∙ ap (λ (k : ℕ). or_fault (first_refused (first + (at + 1)) (refusals (at + 1) left)) (first_refused k (refusals (at + 1 + length left) right))) behind
        ∙ ap₂ or_fault (sym (fault_is (at + 1) left)) (sym (fault_is (at + 1 + length left) right))

-- a slot beside a row at a threshold, by their items and thresholds
module _ (m : ℕ) (laid row : Row) (whole : length laid ≡ row_width) where
  by_tests : place_refusal (placed m laid) row ≡ unless (same_item laid row) misplaced_item (unless (eqb m (threshold_of row)) bad_threshold 0)
  unfolding place_refusal same_item
  by_tests =
      ap₂ (λ (item : Row) (t : ℕ). unless (same_numbers item (placed 0 row)) misplaced_item (unless (eqb t (threshold_of row)) bad_threshold 0))
      (placed_again laid 0 m) (threshold_placed m laid whole)

  pub by_outcomes : (a b : Bool) → same_item laid row ≡ a → eqb m (threshold_of row) ≡ b → place_refusal (placed m laid) row ≡ unless a misplaced_item (unless b bad_threshold 0)
  by_outcomes a b e f = by_tests ∙ ap₂ (λ (x y : Bool). unless x misplaced_item (unless y bad_threshold 0)) e f
