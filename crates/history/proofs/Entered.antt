-- One tree's search, whatever its slots hold: what every slot's entry has that may be reported, each hit of range and
-- each entry that nearest keeps has; and where neither a distance nor a threshold is above the radius both halves are
-- entered at every slot, so that range meets as many as may be reported.
use Prim.Native.Nat.{ℕ, zero, suc, ◌+◌, ◌≤◌}
use native.Mathlib.Omega.{arith}
use mathlib.Core.Path.{◌≡◌, refl, ◌∙◌, ap}
use mathlib.Core.Bool.{Bool, true, false, ◌&&◌}
use mathlib.Core.List.Permᴰ
use mathlib.Core.List.{List, [], ◌∷◌, ◌++◌}
use lib.Dec.{leb}
use lib.ListN.{length, take, drop, length-take, length-drop, length-append, take-append-drop}
use borrow.Author.Tests.{le-leb}
use Rattle.lists.specs.Lists.{select, All}
use Rattle.lists.proofs.Lists.{all_append, all_take, all_drop, all_perm, perm_length}
use Rattle.metric_rules.specs.declared.Profile.{Profile}
use Rattle.metric_rules.specs.Row.{Row, threshold_of}
use Rattle.tree_rules.specs.Layout.{left_size}
use Rattle.tree_rules.proofs.Sorting.{sort_perm}
use Rattle.search_rules.specs.Range.{Entry, Met, entry_key, ordered, to_query, entry_of, isHit, visited, enters_left, enters_right, rangeWithin, rangeTree}
use Rattle.search_rules.specs.Nearest.{keep, Tally, opens, taken, enter_half, enter_halves, nearest_within, nearest_tree}
use Rattle.search_rules.proofs.Selecting.{select_append}
use Rattle.search_rules.proofs.RangeLaws.{if_entered, range_step_lem}
use Rattle.history.proofs.RefinesLists.{select_perm}

-- entries in order, and the first k of them
pub all_ordered : (P : Entry → Type 0) (es : List Entry) → All P es → All P (ordered es)
unfolding ordered
all_ordered P es h = all_perm P (Permᴰ.symm (sort_perm entry_key es)) h

all_kept : (P : Entry → Type 0) (k : ℕ) (es : List Entry) → All P es → All P (keep k es)
unfolding keep
all_kept P k es h = all_take P k (ordered es) (all_ordered P es h)

module _ (P : Entry → Type 0) (dist : Profile → Profile → ℕ) (query : Profile) (reports : Row → Bool) where
  -- range
  module _ (radius : ℕ) where
    abbrev pub HitHas : Row → Type 0
    HitHas s = isHit dist query reports radius s ≡ true → P (entry_of dist query s)

    alone-has : (s : Row) → HitHas s → All P (visited dist query reports radius s).hits
    unfolding visited
    alone-has s h = go (isHit dist query reports radius s) refl
      where
        go : (b : Bool) → isHit dist query reports radius s ≡ b → All P (elim b [ true ↦ entry_of dist query s ∷ [] | false ↦ [] ])
        go true e = (h e, tt)
        go false e = tt

    entered-has : (b : Bool) (met : Met) → All P met.hits → All P (if_entered b met).hits
    unfolding if_entered
    entered-has true met h = h
    entered-has false met h = tt

    range-within-has : (n : ℕ) (slots : List Row) → All HitHas slots → All P (rangeWithin dist query reports radius n slots).hits
    unfolding rangeWithin range_step_lem
    range-within-has zero slots h = tt
    range-within-has (suc n) [] h = tt
    range-within-has (suc n) (s ∷ rest) h =
        let l = left_size (suc (length rest)) in
        let met : List Row → Met = rangeWithin dist query reports radius n in
        let left = if_entered (enters_left (to_query dist query s) (threshold_of s) radius) (met (take l rest)) in
        let right = if_entered (enters_right (to_query dist query s) (threshold_of s) radius) (met (drop l rest)) in
        all_append P (visited dist query reports radius s).hits (left.hits ++ right.hits) (alone-has s h.0)
        (all_append P left.hits right.hits
        (entered-has (enters_left (to_query dist query s) (threshold_of s) radius) (met (take l rest))
        (range-within-has n (take l rest) (all_take HitHas l rest h.1)))
        (entered-has (enters_right (to_query dist query s) (threshold_of s) radius) (met (drop l rest))
        (range-within-has n (drop l rest) (all_drop HitHas l rest h.1))))

    pub range-has : (slots : List Row) → All HitHas slots → All P (rangeTree dist query reports radius slots).hits
    unfolding rangeTree
    range-has slots h = range-within-has (length slots) slots h

  -- nearest
  module _ (k : ℕ) where
    abbrev pub SlotHas : Row → Type 0
    SlotHas s = reports s ≡ true → P (entry_of dist query s)

    taken_has : (t : Tally) (s : Row) → SlotHas s → All P t.kept → All P (taken dist query reports k t s).kept
    unfolding taken
    taken_has t s h here = go (reports s) refl
      where
        go : (b : Bool) → reports s ≡ b → All P (elim b [ true ↦ keep k (entry_of dist query s ∷ t.kept) | false ↦ t.kept ])
        go true e = all_kept P k (entry_of dist query s ∷ t.kept) (h e, here)
        go false e = here

    half_has : (enters : ℕ → Bool) (search : Tally → Tally) → ((u : Tally) → All P u.kept → All P (search u).kept) → (t : Tally)
        → All P t.kept → All P (enter_half dist query reports k enters search t).kept
    unfolding enter_half
    half_has enters search searched t here = go (opens k enters t.kept)
      where
        go : (b : Bool) → All P (elim b as (λ _. Tally) [ true ↦ search t | false ↦ t ]).kept
        go true = searched t here
        go false = here

    halves_have : (d m : ℕ) (left right : Tally → Tally) → ((u : Tally) → All P u.kept → All P (left u).kept)
        → ((u : Tally) → All P u.kept → All P (right u).kept) → (t : Tally)
        → All P t.kept → All P (enter_halves dist query reports k d m left right t).kept
    unfolding enter_halves
    halves_have d m left right lefts rights t here = go (leb d m)
      where
        go :
            (b : Bool)
            → All P (elim b as (λ _. Tally) [
              | true ↦ enter_half dist query reports k (enters_right d m) right (enter_half dist query reports k (enters_left d m) left t)
              | false ↦ enter_half dist query reports k (enters_left d m) left (enter_half dist query reports k (enters_right d m) right t)
            ]).kept
        go true =
            half_has (enters_right d m) right rights (enter_half dist query reports k (enters_left d m) left t)
            (half_has (enters_left d m) left lefts t here)
        go false =
            half_has (enters_left d m) left lefts (enter_half dist query reports k (enters_right d m) right t)
            (half_has (enters_right d m) right rights t here)

    nearest-within-has : (n : ℕ) (slots : List Row) (t : Tally) → All SlotHas slots → All P t.kept
        → All P (nearest_within dist query reports k n t slots).kept
    unfolding nearest_within
    nearest-within-has zero slots t h here = here
    nearest-within-has (suc n) [] t h here = here
    nearest-within-has (suc n) (s ∷ rest) t h here =
        let l = left_size (suc (length rest)) in
        halves_have (to_query dist query s) (threshold_of s)
        (λ u. nearest_within dist query reports k n u (take l rest))
        (λ u. nearest_within dist query reports k n u (drop l rest))
        (λ u. nearest-within-has n (take l rest) u (all_take SlotHas l rest h.1))
        (λ u. nearest-within-has n (drop l rest) u (all_drop SlotHas l rest h.1))
        (taken dist query reports k t s) (taken_has t s h.0 here)

    pub nearest_has : (t : Tally) (slots : List Row) → All SlotHas slots → All P t.kept → All P (nearest_tree dist query reports k t slots).kept
    unfolding nearest_tree
    nearest_has t slots h here = nearest-within-has (length slots) slots t h here

-- range, where every half is entered
module _ (dist : Profile → Profile → ℕ) (query : Profile) (reports : Row → Bool) (radius : ℕ) where
  -- neither the distance nor the threshold is above the radius
  abbrev pub Low : Row → Type 0
  Low s = (to_query dist query s ≤ radius) × (threshold_of s ≤ radius)

  alone_number : (s : Row) → Low s → length (visited dist query reports radius s).hits ≡ length (select reports (s ∷ []))
  unfolding visited isHit select
  alone_number s low = go (reports s) (leb (to_query dist query s) radius) (le-leb (to_query dist query s) radius low.0)
    where
      go : (a b : Bool) → b ≡ true
          → length {A = Entry} (elim (a && b) [ true ↦ entry_of dist query s ∷ [] | false ↦ [] ])
          ≡ length {A = Row} (elim a [ true ↦ s ∷ [] | false ↦ [] ])
      go true true e = refl
      go true false e = ap (λ (b : Bool). length {A = Entry} (elim b [ true ↦ entry_of dist query s ∷ [] | false ↦ [] ])) e
      go false b e = refl

  entered : (b : Bool) (met : Met) → b ≡ true → (if_entered b met).hits ≡ met.hits
  unfolding if_entered
  entered b met e = ap (λ (c : Bool). (if_entered c met).hits) e

  number_within : (n : ℕ) (slots : List Row) → length slots ≤ n → All Low slots
      → length (rangeWithin dist query reports radius n slots).hits ≡ length (select reports slots)
  unfolding rangeWithin range_step_lem enters_left enters_right select
  number_within zero [] few low = refl
  number_within zero (s ∷ rest) few low = absurd (omega (arith, few))
  number_within (suc n) [] few low = refl
  number_within (suc n) (s ∷ rest) few low =
      let l = left_size (suc (length rest)) in
      let met : List Row → Met = rangeWithin dist query reports radius n in
      let d = to_query dist query s in
      let m = threshold_of s in
      let left = if_entered (enters_left d m radius) (met (take l rest)) in
      let right = if_entered (enters_right d m radius) (met (drop l rest)) in
      let d-low : d ≤ radius = low.0.0 in
      let m-low : m ≤ radius = low.0.1 in
      omega (
        arith,
        length-append (visited dist query reports radius s).hits (left.hits ++ right.hits),
        length-append left.hits right.hits,
        alone_number s low.0,
        ap length (entered (enters_left d m radius) (met (take l rest)) (le-leb d (m + radius) (omega (arith, d-low)))),
        ap length (entered (enters_right d m radius) (met (drop l rest)) (le-leb m (d + radius) (omega (arith, m-low)))),
        number_within n (take l rest) (omega (arith, few, length-take l rest)) (all_take Low l rest low.1),
        number_within n (drop l rest) (omega (arith, few, length-drop l rest)) (all_drop Low l rest low.1),
        ap (λ (rs : List Row). length (select reports rs)) (take-append-drop l rest),
        ap length (select_append reports (take l rest) (drop l rest)),
        length-append (select reports (take l rest)) (select reports (drop l rest)),
        ap length (select_append reports (s ∷ []) rest),
        length-append (select reports (s ∷ [])) (select reports rest),
      )

  pub range_number : (slots : List Row) → All Low slots → length (rangeTree dist query reports radius slots).hits ≡ length (select reports slots)
  unfolding rangeTree
  range_number slots low = number_within (length slots) slots (omega arith) low

-- of entries of one kind a search gives no more than slots that may be reported have one of that kind
module _ (kind : Entry → Bool) where
  -- how many entries are of the kind
  abbrev pub alike : List Entry → ℕ
  alike es = length (select kind es)

  alike_append : (xs ys : List Entry) → alike (xs ++ ys) ≡ alike xs + alike ys
  alike_append xs ys = ap length (select_append kind xs ys) ∙ length-append (select kind xs) (select kind ys)

  pub alike_ordered : (es : List Entry) → alike (ordered es) ≡ alike es
  unfolding ordered
  alike_ordered es = perm_length (select_perm kind (sort_perm entry_key es))

  alike_kept : (k : ℕ) (es : List Entry) → alike (keep k es) ≤ alike es
  unfolding keep
  alike_kept k es =
      omega (
        arith,
        alike_ordered es,
        ap alike (take-append-drop k (ordered es)),
        alike_append (take k (ordered es)) (drop k (ordered es)),
      )

  module _ (dist : Profile → Profile → ℕ) (query : Profile) (reports : Row → Bool) where
    abbrev pub OfKind : Row → Bool
    OfKind s = reports s && kind (entry_of dist query s)

    -- how many slots are
    abbrev pub slotsAlike : List Row → ℕ
    slotsAlike slots = length (select OfKind slots)

    slots-append : (xs ys : List Row) → slotsAlike (xs ++ ys) ≡ slotsAlike xs + slotsAlike ys
    slots-append xs ys = ap length (select_append OfKind xs ys) ∙ length-append (select OfKind xs) (select OfKind ys)

    slots_parts : (s : Row) (l : ℕ) (rest : List Row) → slotsAlike (s ∷ rest) ≡ slotsAlike (s ∷ []) + (slotsAlike (take l rest) + slotsAlike (drop l rest))
    slots_parts s l rest =
        omega (
          arith,
          slots-append (s ∷ []) rest,
          ap slotsAlike (take-append-drop l rest),
          slots-append (take l rest) (drop l rest),
        )

    -- range
    module _ (radius : ℕ) where
      alone-few : (s : Row) → alike (visited dist query reports radius s).hits ≤ slotsAlike (s ∷ [])
      unfolding visited isHit select
      alone-few s = go (reports s) (leb (to_query dist query s) radius)
        where
          own : (c : Bool)
              → length {A = Entry} (elim c [ true ↦ entry_of dist query s ∷ [] | false ↦ [] ])
              ≤ length {A = Row} (elim c [ true ↦ s ∷ [] | false ↦ [] ])
          own true = omega arith
          own false = omega arith

          go : (a b : Bool)
              → length (select kind (elim (a && b) [ true ↦ entry_of dist query s ∷ [] | false ↦ [] ]))
              ≤ length {A = Row} (elim (a && kind (entry_of dist query s)) [ true ↦ s ∷ [] | false ↦ [] ])
          go true true = own (kind (entry_of dist query s))
          go true false = omega arith
          go false b = omega arith

      entered-few : (b : Bool) (met : Met) → alike (if_entered b met).hits ≤ alike met.hits
      unfolding if_entered select
      entered-few true met = omega arith
      entered-few false met = omega arith

      few-within : (n : ℕ) (slots : List Row) → alike (rangeWithin dist query reports radius n slots).hits ≤ slotsAlike slots
      unfolding rangeWithin range_step_lem select
      few-within zero slots = omega arith
      few-within (suc n) [] = omega arith
      few-within (suc n) (s ∷ rest) =
          let l = left_size (suc (length rest)) in
          let met : List Row → Met = rangeWithin dist query reports radius n in
          let d = to_query dist query s in
          let m = threshold_of s in
          let left = if_entered (enters_left d m radius) (met (take l rest)) in
          let right = if_entered (enters_right d m radius) (met (drop l rest)) in
          omega (
            arith,
            alike_append (visited dist query reports radius s).hits (left.hits ++ right.hits),
            alike_append left.hits right.hits,
            alone-few s,
            entered-few (enters_left d m radius) (met (take l rest)),
            entered-few (enters_right d m radius) (met (drop l rest)),
            few-within n (take l rest),
            few-within n (drop l rest),
            slots_parts s l rest,
          )

      pub range_few : (slots : List Row) → alike (rangeTree dist query reports radius slots).hits ≤ slotsAlike slots
      unfolding rangeTree
      range_few slots = few-within (length slots) slots

    -- nearest
    module _ (k : ℕ) where
      taken-few : (t : Tally) (s : Row) → alike (taken dist query reports k t s).kept ≤ alike t.kept + slotsAlike (s ∷ [])
      unfolding taken select
      taken-few t s = go (reports s)
        where
          own : (c : Bool) → length {A = Entry} (elim c [ true ↦ entry_of dist query s ∷ select kind t.kept | false ↦ select kind t.kept ])
              ≤ length (select kind t.kept) + length {A = Row} (elim c [ true ↦ s ∷ [] | false ↦ [] ])
          own true = omega arith
          own false = omega arith

          go : (a : Bool)
              → length (select kind (elim a [ true ↦ keep k (entry_of dist query s ∷ t.kept) | false ↦ t.kept ]))
              ≤ length (select kind t.kept) + length {A = Row} (elim (a && kind (entry_of dist query s)) [ true ↦ s ∷ [] | false ↦ [] ])
          go true = omega (arith, alike_kept k (entry_of dist query s ∷ t.kept), own (kind (entry_of dist query s)))
          go false = omega arith

      half-few : (enters : ℕ → Bool) (search : Tally → Tally) (n : ℕ) → ((u : Tally) → alike (search u).kept ≤ alike u.kept + n) → (t : Tally)
          → alike (enter_half dist query reports k enters search t).kept ≤ alike t.kept + n
      unfolding enter_half
      half-few enters search n searched t = go (opens k enters t.kept)
        where
          go : (b : Bool) → alike (elim b as (λ _. Tally) [ true ↦ search t | false ↦ t ]).kept ≤ alike t.kept + n
          go true = searched t
          go false = omega arith

      halves-few : (d m : ℕ) (left right : Tally → Tally) (x y : ℕ) → ((u : Tally) → alike (left u).kept ≤ alike u.kept + x)
          → ((u : Tally) → alike (right u).kept ≤ alike u.kept + y) → (t : Tally)
          → alike (enter_halves dist query reports k d m left right t).kept ≤ alike t.kept + (x + y)
      unfolding enter_halves
      halves-few d m left right x y lefts rights t = go (leb d m)
        where
          lefted : Tally → Tally
          lefted u = enter_half dist query reports k (enters_left d m) left u

          righted : Tally → Tally
          righted u = enter_half dist query reports k (enters_right d m) right u

          go : (b : Bool)
              → alike (elim b as (λ _. Tally) [ true ↦ righted (lefted t) | false ↦ lefted (righted t) ]).kept ≤ alike t.kept + (x + y)
          go true = omega (arith, half-few (enters_right d m) right y rights (lefted t), half-few (enters_left d m) left x lefts t)
          go false = omega (arith, half-few (enters_left d m) left x lefts (righted t), half-few (enters_right d m) right y rights t)

      nearest-few-within : (n : ℕ) (slots : List Row) (t : Tally)
          → alike (nearest_within dist query reports k n t slots).kept ≤ alike t.kept + slotsAlike slots
      unfolding nearest_within
      nearest-few-within zero slots t = omega arith
      nearest-few-within (suc n) [] t = omega arith
      nearest-few-within (suc n) (s ∷ rest) t =
          let l = left_size (suc (length rest)) in
          omega (
            arith,
            taken-few t s,
            slots_parts s l rest,
            halves-few (to_query dist query s) (threshold_of s)
                (λ u. nearest_within dist query reports k n u (take l rest))
                (λ u. nearest_within dist query reports k n u (drop l rest))
                (slotsAlike (take l rest)) (slotsAlike (drop l rest))
                (λ u. nearest-few-within n (take l rest) u)
                (λ u. nearest-few-within n (drop l rest) u)
                (taken dist query reports k t s),
          )

      pub nearest_few : (t : Tally) (slots : List Row) → alike (nearest_tree dist query reports k t slots).kept ≤ alike t.kept + slotsAlike slots
      unfolding nearest_tree
      nearest_few t slots = nearest-few-within (length slots) slots t
