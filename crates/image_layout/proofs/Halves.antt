-- A part that is arranged, and its halves as they are lent: its first fault is at its first slot, or that of the left half, or that of the right.
use Prim.Native.Nat.{ℕ, zero, suc, ◌+◌, ◌-◌, ◌/◌, ◌≤◌, ◌<◌}
use native.Mathlib.Omega.{arith}
use mathlib.Core.Path.{◌≡◌, refl, sym, ◌∙◌, ap, ap₂, subst}
use mathlib.Core.List.{List, [], ◌∷◌, ◌++◌}
use lib.ListN.{length, take, drop, get_or, length-take, length-drop}
use lib.Seq.{drop-cons}
use Rattle.lists.specs.Lists.{All}
use Rattle.lists.proofs.Lists.{all_drop}
use Rattle.metric_rules.specs.declared.Profile.{Profile}
use Rattle.metric_rules.specs.Row.{Row}
use Rattle.tree_rules.specs.Layout.{left_size, placed}
use Rattle.tree_rules.proofs.Parts.{left_part_lem, left_part, leftBack, left-back-length, right_part_lem, right_part, right-part-length}
use Rattle.search_rules.specs.Range.{Entry}
use Rattle.image_rules.specs.declared.Loaded.{Loaded}
use Rattle.image_rules.specs.Trees.{place_refusal, first_refused}
use Rattle.image_entries.specs.Faults.{or_fault}
use Rattle.image_entries.specs.Entries.{entry_place, last_of, IsEntry, first_laid, laid_out, laid_from, partFault}
use Rattle.image_entries.proofs.Faults.{first_none, first_some}
use Rattle.image_layout.proofs.Faults.{fault-here, fault-halves}

-- a part that is not empty, before and after it was arranged
pub record Prepared (slot : ℕ → Row) (dist : Profile → Profile → ℕ) (n : ℕ) (es after : List Entry) (place : ℕ) : Type 0 where
  pub some : 1 ≤ length es
  pub kept : length after ≡ length es
  pub laid : laid_from slot dist after ≡ laid_out slot dist es
  pub sound : All (IsEntry slot n) after
  pub fits : place + length es ≤ n

module _ {slot : ℕ → Row} {dist : Profile → Profile → ℕ} {n : ℕ} {es after : List Entry} {place : ℕ} (p : Prepared slot dist n es after place) where
  pub more : length es / 2 < length after
  more = omega (arith, p.some, p.kept)

  left : List Entry
  left = take (length es / 2) (drop 1 after)

  right : List Entry
  right = drop (length es / 2) (drop 1 after)

  left_length : length left ≡ length es / 2
  unfolding left
  left_length = omega (arith, length-take (length es / 2) (drop 1 after), length-drop 1 after, p.some, p.kept)

  right_length : length right ≡ length es - 1 - length es / 2
  unfolding right
  right_length = omega (arith, length-drop (length es / 2) (drop 1 after), length-drop 1 after, p.kept)

  node_is : laid_out slot dist es ≡ first_laid slot after ∷ laid_out slot dist left ++ laid_out slot dist right
  unfolding laid_from left_size first_laid left right
  node_is =
      let half : suc (length (drop 1 after)) / 2 ≡ length es / 2 = omega (arith, length-drop 1 after, p.some, p.kept) in
      sym p.laid
      ∙ ap (laid_from slot dist) (drop-cons after 0 [] (omega (arith, p.some, p.kept)))
      ∙ ap (λ (l : ℕ). placed (last_of (take l (drop 1 after))) (slot (entry_place (get_or after 0 []))) ∷ laid_out slot dist (take l (drop 1 after)) ++ laid_out slot dist (drop l (drop 1 after))) half
      ∙ ap (λ (k : ℕ). placed (last_of (take (k / 2) (drop 1 after))) (slot (entry_place (get_or after 0 []))) ∷ laid_out slot dist (take (length es / 2) (drop 1 after)) ++ laid_out slot dist (drop (length es / 2) (drop 1 after))) (sym p.kept)

  sizes : length es ≡ suc (length left + length right)
  sizes = omega (arith, left_length, right_length, p.some)

  -- the test of the first slot
  module _ (first : ℕ) (number : ℕ) (tested : number ≡ place_refusal (first_laid slot after) (slot place)) where
    pub fault-first : (number ≡ 0 → ⊥) → record { refusal = number; slot = first + place } ≡ partFault slot dist first place es
    fault-first some =
        ap (λ (k : ℕ). record { refusal = k; slot = first + place }) tested
        ∙ sym (fault-here slot dist first place es left right (first_laid slot after) node_is sizes (λ z. some (tested ∙ z)))

    -- what it answers
    pub first_stops : (l : Loaded) → l ≡ first_refused (first + place) (number ∷ []) → (l.refusal ≡ 0 → ⊥) → l ≡ partFault slot dist first place es
    unfolding first_refused
    first_stops l e some = go number refl
      where
        go : (n : ℕ) → number ≡ n → l ≡ partFault slot dist first place es
        go zero is = absurd (some (ap (λ (f : Loaded). f.refusal) (e ∙ ap (λ (n : ℕ). first_refused (first + place) (n ∷ [])) is)))
        go (suc n) is =
            e
            ∙ ap (λ (k : ℕ). first_refused (first + place) (k ∷ [])) is
            ∙ ap (λ (k : ℕ). record { refusal = k; slot = first + place }) (sym is)
            ∙ fault-first (λ z. omega (arith, z, is))

    pub first_goes : (l : Loaded) → l ≡ first_refused (first + place) (number ∷ []) → l.refusal ≡ 0 → number ≡ 0
    unfolding first_refused
    first_goes l e none = go number refl
      where
        go : (n : ℕ) → number ≡ n → number ≡ 0
        go zero is = is
        go (suc n) is =
            let z : ◌≡◌ {A = ℕ} (suc n) 0 =
            ap (λ (f : Loaded). f.refusal) (sym (e ∙ ap (λ (n : ℕ). first_refused (first + place) (n ∷ [])) is)) ∙ none in
            absurd (omega arith)

    halves : number ≡ 0 → (l : Loaded) → l ≡ partFault slot dist first (place + 1) (left_part_lem (length es / 2) after more)
        → partFault slot dist first place es ≡ or_fault l (partFault slot dist first (place + 1 + length left) right)
    unfolding left
    halves none l e =
        fault-halves slot dist first place es left right (first_laid slot after) node_is sizes (sym tested ∙ none)
        ∙ ap (λ (f : Loaded). or_fault f (partFault slot dist first (place + 1 + length left) right)) (sym (e ∙ ap (partFault slot dist first (place + 1)) (left_part (length es / 2) after more)))

    pub fault-in-left : number ≡ 0 → (l : Loaded) → l ≡ partFault slot dist first (place + 1) (left_part_lem (length es / 2) after more) → (l.refusal ≡ 0 → ⊥)
        → l ≡ partFault slot dist first place es
    fault-in-left none l e some = sym (halves none l e ∙ first_some l _ some)

    pub fault-in-right :
        number ≡ 0 → (l : Loaded) → l ≡ partFault slot dist first (place + 1) (left_part_lem (length es / 2) after more) → l.refusal ≡ 0
        → (back : List Entry) (same : length back ≡ length (left_part_lem (length es / 2) after more)) (r : Loaded)
        → r ≡ partFault slot dist first (place + (1 + length es / 2)) (right_part_lem (length es / 2) after more back same)
        → r ≡ partFault slot dist first place es
    unfolding right
    fault-in-right none l e passed back same r f =
        let from : place + (1 + length es / 2) ≡ place + 1 + length left = omega (arith, left_length) in
        f
        ∙ ap₂ (partFault slot dist first) from (right_part (length es / 2) after more back same)
        ∙ sym (halves none l e ∙ first_none l _ passed)

  module _ (back : List Entry) (same : length back ≡ length (left_part_lem (length es / 2) after more)) where
    pub back_length : length (leftBack (length es / 2) after more back same) ≡ length es
    back_length = left-back-length (length es / 2) after more back same ∙ p.kept

    pub right-sound : All (IsEntry slot n) (right_part_lem (length es / 2) after more back same)
    right-sound =
        subst (All (IsEntry slot n)) (sym (right_part (length es / 2) after more back same))
        (all_drop (IsEntry slot n) (length es / 2) (drop 1 after) (all_drop (IsEntry slot n) 1 after p.sound))

    pub right-lent-length : length (right_part_lem (length es / 2) after more back same) ≡ length es - 1 - length es / 2
    right-lent-length = right-part-length (length es / 2) after more back same ∙ ap (λ (k : ℕ). k - 1 - length es / 2) p.kept
