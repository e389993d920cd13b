-- Slots none of which is within the radius give range no hit. And none being within the worst distance kept, with k kept: a visit keeps what is kept,
-- and counts as many slots as range meets with that distance as its radius. By the depth: nothing is taken in, so the bound of every test is the same.
use Prim.Native.Nat.{ℕ, zero, suc, ◌+◌, ◌≤◌, ◌<◌}
use mathlib.Core.Path.{◌≡◌, refl, sym, ap, ap₂, ◌∙◌}
use mathlib.Core.Bool.{Bool, true, false, ◌&&◌, ◌||◌, and-false, false≢true}
use mathlib.Core.List.{List, [], ◌∷◌, ◌++◌}
use lib.ListN.{length, take, drop}
use lib.Dec.{leb, ltb}
use borrow.Author.Tests.{lt-leb, le-ltb}
use native.Mathlib.Omega.{arith}
use Rattle.lists.specs.Lists.{All}
use Rattle.lists.proofs.Lists.{all_take, all_drop}
use Rattle.metric_rules.specs.declared.Profile.{Profile}
use Rattle.metric_rules.specs.Row.{Row, threshold_of}
use Rattle.tree_rules.specs.Layout.{left_size}
use Rattle.search_rules.specs.Range.{Entry, Met, to_query, entry_of, isHit, visited, enters_left, enters_right, rangeWithin, rangeTree}
use Rattle.search_rules.specs.Nearest.{keep, Tally, worst, opens, taken, enter_half, enter_halves, nearest_within, nearest_tree}
use Rattle.search_rules.proofs.RangeLaws.{if_entered, range_step_lem}
use Rattle.search_rules.proofs.NearestLaws.{nearest_step_lem}

half_no_hit : (b : Bool) (met : Met) → met.hits ≡ [] → (if_entered b met).hits ≡ []
unfolding if_entered
half_no_hit true met e = e
half_no_hit false met e = refl

module _ (dist : Profile → Profile → ℕ) (query : Profile) (reports : Row → Bool) (radius : ℕ) where
  alone_no_hit : (s : Row) → radius < to_query dist query s → (visited dist query reports radius s).hits ≡ []
  unfolding visited isHit
  alone_no_hit s far =
      ap (λ (b : Bool). elim b as (λ _. List Entry) [ true ↦ entry_of dist query s ∷ [] | false ↦ [] ])
      (ap (λ (b : Bool). reports s && b) (lt-leb (to_query dist query s) radius far) ∙ and-false (reports s))

  within_no_hit : (depth : ℕ) (slots : List Row) → All (λ s. radius < to_query dist query s) slots → (rangeWithin dist query reports radius depth slots).hits ≡ []
  unfolding rangeWithin range_step_lem
  within_no_hit zero slots far = refl
  within_no_hit (suc depth) [] far = refl
  within_no_hit (suc depth) (s ∷ rest) far =
      let l = left_size (suc (length rest)) in
      ap₂ ◌++◌ (alone_no_hit s far.0)
      (ap₂ ◌++◌
      (half_no_hit (enters_left (to_query dist query s) (threshold_of s) radius) (rangeWithin dist query reports radius depth (take l rest)) (within_no_hit depth (take l rest) (all_take (λ s. radius < to_query dist query s) l rest far.1)))
      (half_no_hit (enters_right (to_query dist query s) (threshold_of s) radius) (rangeWithin dist query reports radius depth (drop l rest)) (within_no_hit depth (drop l rest) (all_drop (λ s. radius < to_query dist query s) l rest far.1))))

  -- with no slot within the radius there is no hit
  pub range_beyond : (slots : List Row) → All (λ s. radius < to_query dist query s) slots → (rangeTree dist query reports radius slots).hits ≡ []
  unfolding rangeTree
  range_beyond slots far = within_no_hit (length slots) slots far

module _ (dist : Profile → Profile → ℕ) (query : Profile) (reports : Row → Bool) (k : ℕ) (kept : List Entry) (full : k ≤ length kept)
    (drops : (s : Row) → worst kept < to_query dist query s → keep k (entry_of dist query s ∷ kept) ≡ kept) where
  abbrev counted : ℕ → Tally
  counted n = record { kept = kept; count = n }

  same : {a b : ℕ} → a ≡ b → counted a ≡ counted b
  same e = ap counted e

  taken_beyond : (n : ℕ) (s : Row) → worst kept < to_query dist query s → taken dist query reports k (counted n) s ≡ counted (suc n)
  unfolding taken
  taken_beyond n s far = go (reports s)
    where
      go : (b : Bool) → record { kept = elim b [ true ↦ keep k (entry_of dist query s ∷ kept) | false ↦ kept ]; count = suc n } ≡ counted (suc n)
      go true = λ i. record { kept = drops s far i; count = suc n }
      go false = refl

  half_beyond : (enters : ℕ → Bool) (search : Tally → Tally) (met : Met) → ((n : ℕ) → search (counted n) ≡ counted (n + met.count)) → (n : ℕ)
      → enter_half dist query reports k enters search (counted n) ≡ counted (n + (if_entered (enters (worst kept)) met).count)
  unfolding enter_half opens if_entered
  half_beyond enters search met searched n = go (ltb (length kept) k) (le-ltb (length kept) k full) (enters (worst kept))
    where
      go : (a : Bool) → a ≡ false → (b : Bool) → elim (a || b) [ true ↦ search (counted n) | false ↦ counted n ] ≡ counted (n + (if_entered b met).count)
      go true e b = absurd (false≢true (sym e))
      go false e true = searched n
      go false e false = same (omega arith)

  halves_beyond : (d m : ℕ) (left right : Tally → Tally) (a b : Met) → ((n : ℕ) → left (counted n) ≡ counted (n + a.count)) → ((n : ℕ) → right (counted n) ≡ counted (n + b.count)) → (n : ℕ)
      → enter_halves dist query reports k d m left right (counted n) ≡ counted (n + ((if_entered (enters_left d m (worst kept)) a).count + (if_entered (enters_right d m (worst kept)) b).count))
  unfolding enter_halves
  halves_beyond d m left right a b lefts rights n = go (leb d m)
    where
      x : ℕ
      x = (if_entered (enters_left d m (worst kept)) a).count

      y : ℕ
      y = (if_entered (enters_right d m (worst kept)) b).count

      goL : Tally → Tally
      goL = enter_half dist query reports k (enters_left d m) left

      goR : Tally → Tally
      goR = enter_half dist query reports k (enters_right d m) right

      go : (c : Bool) → elim c [ true ↦ goR (goL (counted n)) | false ↦ goL (goR (counted n)) ] ≡ counted (n + (x + y))
      go true = ap goR (half_beyond (enters_left d m) left a lefts n) ∙ half_beyond (enters_right d m) right b rights (n + x) ∙ same (omega arith)
      go false = ap goL (half_beyond (enters_right d m) right b rights n) ∙ half_beyond (enters_left d m) left a lefts (n + y) ∙ same (omega arith)

  within_beyond : (depth : ℕ) (slots : List Row) → All (λ s. worst kept < to_query dist query s) slots → (n : ℕ)
      → nearest_within dist query reports k depth (counted n) slots ≡ counted (n + (rangeWithin dist query reports (worst kept) depth slots).count)
  unfolding nearest_within nearest_step_lem rangeWithin range_step_lem
  within_beyond zero slots far n = same (omega arith)
  within_beyond (suc depth) [] far n = same (omega arith)
  within_beyond (suc depth) (s ∷ rest) far n =
      let l = left_size (suc (length rest)) in
      let d = to_query dist query s in
      let m = threshold_of s in
      let left : Tally → Tally = (λ u. nearest_within dist query reports k depth u (take l rest)) in
      let right : Tally → Tally = (λ u. nearest_within dist query reports k depth u (drop l rest)) in
      let a = rangeWithin dist query reports (worst kept) depth (take l rest) in
      let b = rangeWithin dist query reports (worst kept) depth (drop l rest) in
      ap (enter_halves dist query reports k d m left right) (taken_beyond n s far.0)
      ∙ halves_beyond d m left right a b
      (within_beyond depth (take l rest) (all_take (λ s. worst kept < to_query dist query s) l rest far.1))
      (within_beyond depth (drop l rest) (all_drop (λ s. worst kept < to_query dist query s) l rest far.1))
      (suc n)
      ∙ same (omega arith)

  -- with no slot within the bound a visit keeps what is kept, and counts what range counts at that bound
  pub nearest_beyond : (slots : List Row) → All (λ s. worst kept < to_query dist query s) slots → (n : ℕ)
      → nearest_tree dist query reports k (record { kept = kept; count = n }) slots ≡ record { kept = kept; count = n + (rangeTree dist query reports (worst kept) slots).count }
  unfolding nearest_tree rangeTree
  nearest_beyond slots far n = within_beyond (length slots) slots far n
