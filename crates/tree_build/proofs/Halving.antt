-- The halves that a build of a part lends, once its rows are arranged: the halves' rows are whole and ranked apart, and the first slot over the
-- halves' layouts is the layout of the part.
use Prim.Native.Nat.{ℕ, suc, ◌+◌, ◌-◌, ◌/◌, ◌^◌, ◌≤◌, ◌<◌}
use native.Mathlib.Omega.{arith}
use mathlib.Core.Path.{◌≡◌, refl, sym, ◌∙◌, ap, ap₂, subst}
use mathlib.Core.Bool.{Bool, true, false}
use mathlib.Core.List.{List, [], ◌∷◌, ◌++◌, map}
use lib.Dec.{leb}
use lib.ListN.{length, length-map, length-set, length-drop, get_or, set, take, drop, replicate, replicate-append-replicate}
use lib.Seq.{drop-cons}
use borrow.Author.Tests.{leb-true, leb-false}
use Rattle.lists.proofs.Lists.{Pairs, all_take, all_drop, pairs_take, pairs_drop}
use Rattle.metric_rules.specs.declared.Profile.{Profile}
use Rattle.metric_rules.specs.Row.{Row, row_width, zero_row}
use Rattle.tree_rules.specs.Layout.{left_size, cost, placed, layout_within}
use Rattle.tree_rows.specs.Working.{ranked_of, RanksApart, arranged, last_measured}
use Rattle.tree_rules.specs.Guided.{Whole}
use Rattle.tree_rules.proofs.Cost.{cost_few, cost_halves}
use Rattle.tree_rules.proofs.Layouts.{layout_of}
use Rattle.tree_rules.proofs.Parts.{left_part_lem, left_part, left_part_length, leftBack, left-back-length, right_part_lem, right_part, right-part-length, rightBack}
use Rattle.tree_rules.proofs.Parts.{right-back, right-back-length, take_set_first, drop_set_first}
use Rattle.tree_arrange.proofs.Arranging.{Apart, pairs_ranks, arranged_length, arranged_apart, arranged_whole, laid_from, layout_arranged}

-- what a build of a part asks of its rows, and a smaller measure
abbrev pub Asks : ℕ → List Row → List Row → Type 0
Asks t dst src = (length src < t) × ((length dst ≡ length src) × (length src ≤ 2 ^ 32) × Whole src × RanksApart src)

-- the distances of a part are those from its first slot and those of its halves
pub part_cost : (n : ℕ) → 1 ≤ n → n - 1 + cost (n / 2) + cost (n - 1 - n / 2) ≡ cost n
unfolding left_size
part_cost n h = go (leb n 1) refl
  where
    go : (p : Bool) → leb n 1 ≡ p → n - 1 + cost (n / 2) + cost (n - 1 - n / 2) ≡ cost n
    go true e =
        let o : n ≤ 1 = leb-true n 1 e in
        omega (arith, cost_few n o, cost_few (n / 2) (omega arith), cost_few (n - 1 - n / 2) (omega arith))
    go false e = sym (cost_halves n (leb-false n 1 e))

-- the layout of working rows, as a build's contract states it
pub layout_within_lem : (dist : Profile → Profile → ℕ) (rows : List Row) → layout_within dist (length rows) (map ranked_of rows) ≡ layout_of dist (map ranked_of rows)
unfolding layout_of
layout_within_lem dist rows = ap (λ (n : ℕ). layout_within dist n (map ranked_of rows)) (sym (length-map rows ranked_of))

-- what a build of a part promises: of the rows `src` the slots `slots` were made at `count` distances, and `gone` is left of them
pub record Built (dist : Profile → Profile → ℕ) (dst src slots gone : List Row) (count : ℕ) : Type 0 where
  pub slots_kept : length slots ≡ length dst
  pub rows_kept : length gone ≡ length src
  pub laid : slots ≡ layout_within dist (length src) (map ranked_of src)
  pub cleared : gone ≡ replicate (length src) zero_row
  pub counted : count ≡ cost (length src)

-- a part whose rows `src` are arranged as `near`, with the first slot that is written over its target and the row over its source
pub record Arranged (dist : Profile → Profile → ℕ) (src near dst : List Row) (slot zero : Row) : Type 0 where
  pub full : 1 ≤ length src
  pub few : length src ≤ 2 ^ 32
  pub whole : Whole src
  pub apart : RanksApart src
  pub is : near ≡ arranged dist src
  pub room : length dst ≡ length src
  pub first : slot ≡ placed (last_measured (take (length src / 2) (drop 1 near))) (get_or near 0 [])
  pub zeroed : zero ≡ zero_row

module _ {dist : Profile → Profile → ℕ} {src near dst : List Row} {slot zero : Row} (part : Arranged dist src near dst slot zero) where
  abbrev pub half : ℕ
  half = length src / 2

  abbrev pub target : List Row
  target = set dst 0 slot

  abbrev pub source : List Row
  source = set near 0 zero

  near_length : length near ≡ length src
  near_length = ap length part.is ∙ arranged_length dist src

  near_whole : Whole near
  near_whole = subst Whole (sym part.is) (arranged_whole dist src part.whole)

  near_apart : Pairs Apart near
  near_apart = subst (Pairs Apart) (sym part.is) (arranged_apart dist src part.apart)

  pub target_set : length target ≡ length src
  target_set = length-set dst 0 slot ∙ part.room

  pub source_set : length source ≡ length src
  source_set = length-set near 0 zero ∙ near_length

  pub source_more : half < length source
  source_more = omega (arith, source_set, part.full)

  pub target_more : half < length target
  target_more = omega (arith, target_set, part.full)

  abbrev pub left_target : List Row
  left_target = left_part_lem half target target_more

  abbrev pub left_source_lem : List Row
  left_source_lem = left_part_lem half source source_more

  left_is : left_source_lem ≡ take half (drop 1 near)
  left_is = left_part half source source_more ∙ ap (take half) (drop_set_first zero near)

  left_source : length left_source_lem ≡ half
  left_source = left_part_length half source source_more

  pub left_asks : (t : ℕ) → length src ≡ t → Asks t left_target left_source_lem
  left_asks t e = (
    omega (arith, left_source, part.full),
    (
      left_part_length half target target_more ∙ sym left_source,
      omega (arith, left_source, part.few),
      subst Whole (sym left_is) (all_take (λ r. length r ≡ row_width) half (drop 1 near) (all_drop (λ r. length r ≡ row_width) 1 near near_whole)),
      subst RanksApart (sym left_is) (pairs_ranks (take half (drop 1 near)) (pairs_take Apart half (drop 1 near) (pairs_drop Apart 1 near near_apart))),
    ),
  )

  -- the left half came back as `left` slots, and its source as `spent` rows
  module _ {left spent : List Row} {leftCount : ℕ} (nearer : Built dist left_target left_source_lem left spent leftCount) where
    abbrev pub leftSlots : List Row
    leftSlots = leftBack half target target_more left nearer.slots_kept

    abbrev pub leftRows : List Row
    leftRows = leftBack half source source_more spent nearer.rows_kept

    abbrev pub rightTarget : List Row
    rightTarget = right_part_lem half target target_more left nearer.slots_kept

    abbrev pub rightSource : List Row
    rightSource = right_part_lem half source source_more spent nearer.rows_kept

    right_is : rightSource ≡ drop half (drop 1 near)
    right_is = right_part half source source_more spent nearer.rows_kept ∙ ap (drop half) (drop_set_first zero near)

    right-source : length rightSource ≡ length src - 1 - half
    right-source = right-part-length half source source_more spent nearer.rows_kept ∙ ap (λ (n : ℕ). n - 1 - half) source_set

    right-target : length rightTarget ≡ length src - 1 - half
    right-target = right-part-length half target target_more left nearer.slots_kept ∙ ap (λ (n : ℕ). n - 1 - half) target_set

    pub right-asks : (t : ℕ) → length src ≡ t → Asks t rightTarget rightSource
    right-asks t e = (
      omega (arith, right-source, part.full),
      (
        right-target ∙ sym right-source,
        omega (arith, right-source, part.few),
        subst Whole (sym right_is) (all_drop (λ r. length r ≡ row_width) half (drop 1 near) (all_drop (λ r. length r ≡ row_width) 1 near near_whole)),
        subst RanksApart (sym right_is) (pairs_ranks (drop half (drop 1 near)) (pairs_drop Apart half (drop 1 near) (pairs_drop Apart 1 near near_apart))),
      ),
    )

    pub target-length : length leftSlots ≡ length src
    target-length = left-back-length half target target_more left nearer.slots_kept ∙ target_set

    pub source-length : length leftRows ≡ length src
    source-length = left-back-length half source source_more spent nearer.rows_kept ∙ source_set

    -- and the right half as `right` slots and `gone` rows
    module _ {right gone : List Row} {rightCount : ℕ} (farther : Built dist rightTarget rightSource right gone rightCount) where
      abbrev pub slots : List Row
      slots = rightBack half target target_more left nearer.slots_kept right

      abbrev pub rows : List Row
      rows = rightBack half source source_more spent nearer.rows_kept gone

      pub slots_length : length slots ≡ length src
      slots_length = right-back-length half target target_more left nearer.slots_kept right farther.slots_kept ∙ target_set

      pub rows-length : length rows ≡ length src
      rows-length = right-back-length half source source_more spent nearer.rows_kept gone farther.rows_kept ∙ source_set

      -- the part's distances
      pub part_count : (count : ℕ) → count ≡ length src - 1 → count + leftCount + rightCount ≡ cost (length src)
      part_count count p =
          ap₂ (λ (a b : ℕ). count + a + b) (nearer.counted ∙ ap cost left_source) (farther.counted ∙ ap cost right-source)
          ∙ ap (λ (a : ℕ). a + cost half + cost (length src - 1 - half)) p
          ∙ part_cost (length src) part.full

      near-split : near ≡ get_or near 0 [] ∷ drop 1 near
      near-split = drop-cons near 0 [] (omega (arith, near_length, part.full))

      half-left : half ≡ left_size (suc (length (drop 1 near)))
      unfolding left_size
      half-left = omega (arith, length-drop 1 near, near_length, part.full)

      laid_from_lem : laid_from dist near ≡ slot ∷ layout_of dist (map ranked_of (take half (drop 1 near))) ++ layout_of dist (map ranked_of (drop half (drop 1 near)))
      unfolding laid_from
      laid_from_lem =
          ap (laid_from dist) near-split
          ∙ ap (λ (l : ℕ). placed (last_measured (take l (drop 1 near))) (get_or near 0 [])
          ∷ layout_of dist (map ranked_of (take l (drop 1 near))) ++ layout_of dist (map ranked_of (drop l (drop 1 near)))) (sym half-left)
          ∙ ap (λ (r : Row). r ∷ layout_of dist (map ranked_of (take half (drop 1 near))) ++ layout_of dist (map ranked_of (drop half (drop 1 near))))
          (sym part.first)

      left-slots : left ≡ layout_of dist (map ranked_of (take half (drop 1 near)))
      left-slots = nearer.laid ∙ layout_within_lem dist left_source_lem ∙ ap (λ (rs : List Row). layout_of dist (map ranked_of rs)) left_is

      right-slots : right ≡ layout_of dist (map ranked_of (drop half (drop 1 near)))
      right-slots = farther.laid ∙ layout_within_lem dist rightSource ∙ ap (λ (rs : List Row). layout_of dist (map ranked_of rs)) right_is

      -- the part's slots
      pub part-laid : slots ≡ layout_within dist (length src) (map ranked_of src)
      part-laid =
          right-back half target target_more left nearer.slots_kept right
          ∙ ap (λ (f : List Row). f ++ (left ++ right)) (take_set_first slot dst (omega (arith, part.room, part.full)))
          ∙ ap₂ (λ (a b : List Row). slot ∷ (a ++ b)) left-slots right-slots
          ∙ sym laid_from_lem
          ∙ ap (laid_from dist) part.is
          ∙ sym (layout_arranged dist src part.whole)
          ∙ sym (layout_within_lem dist src)

      -- and its source, all zero
      pub part-cleared : rows ≡ replicate (length src) zero_row
      part-cleared =
          let n : suc (length left_source_lem + length rightSource) ≡ length src = omega (arith, left_source, right-source, part.full) in
          right-back half source source_more spent nearer.rows_kept gone
          ∙ ap₂ (λ (f g : List Row). f ++ g) (take_set_first zero near (omega (arith, near_length, part.full)))
          (ap₂ ◌++◌ nearer.cleared farther.cleared ∙ replicate-append-replicate (length left_source_lem) (length rightSource) zero_row)
          ∙ ap (λ (z : Row). z ∷ replicate (length left_source_lem + length rightSource) zero_row) part.zeroed
          ∙ ap (λ (k : ℕ). replicate k zero_row) n
