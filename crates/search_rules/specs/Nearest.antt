-- RULES 11, nearest: the visit of one tree's slots with the k best so far passed through every step.
use Prim.Native.Nat.{ℕ, zero, suc}
use Rattle.std.specs.Prelude.{Bool, ◌||◌, length, take, drop, leb, ltb}
use Rattle.std.proofs.Math.Bool.{true, false}
use mathlib.Core.List.{List, [], ◌∷◌, map}
use Rattle.lists.specs.Lists.{last}
use Rattle.metric_rules.specs.declared.Profile.{Profile}
use Rattle.metric_rules.specs.Row.{Row, threshold_of}
use Rattle.tree_rules.specs.Layout.{left_size}
use Rattle.search_rules.specs.Range.{Entry, entry_distance, ordered, to_query, entry_of, enters_left, enters_right}

-- RULES 11.9: the first k of some entries by distance, then tag
unfoldable pub keep : ℕ → List Entry → List Entry
unfolding ordered
keep k es = take k (ordered es)

-- RULES 11.8, what a nearest search carries: the entries kept, in their order, and the number of slots visited
pub record Tally : Type 0 where
  pub kept : List Entry
  pub count : ℕ

-- RULES 11.7: the distance of the worst entry kept, the last in their order
unfoldable pub worst : List Entry → ℕ
unfolding last entry_distance
worst kept = last 0 (map entry_distance kept)

-- RULES 11.7: with fewer than k items found both tests pass; after that r is the worst distance kept. `enters` is a
-- side's test
unfoldable pub opens : ℕ → (ℕ → Bool) → List Entry → Bool
unfolding worst
opens k enters kept = ltb (length kept) k || enters (worst kept)

-- `reports` tells which slots' items may be reported (RULES 11.2)
module _ (dist : Profile → Profile → ℕ) (query : Profile) (reports : Row → Bool) (k : ℕ) where
  -- RULES 11.2: the slot's own item is taken in where it may be reported, and its distance is counted, dead or not
  unfoldable pub taken : Tally → Row → Tally
  unfolding keep entry_of
  taken t row =
      record { kept = elim (reports row) [ true ↦ keep k (entry_of dist query row ∷ t.kept) | false ↦ t.kept ]; count = suc t.count }

  -- RULES 11.8, a half whose turn has come: its test is made on what is kept by then
  unfoldable pub enter_half : (ℕ → Bool) → (Tally → Tally) → Tally → Tally
  unfolding opens
  enter_half enters search t = elim (opens k enters t.kept) [ true ↦ search t | false ↦ t ]

  -- RULES 11.8: the half on the query's side goes first: left if d ≤ m
  unfoldable pub enter_halves : ℕ → ℕ → (Tally → Tally) → (Tally → Tally) → Tally → Tally
  unfolding enter_half enters_left enters_right
  enter_halves d m left right t =
      elim (leb d m) [
        | true ↦ enter_half (enters_right d m) right (enter_half (enters_left d m) left t)
        | false ↦ enter_half (enters_left d m) left (enter_half (enters_right d m) right t)
      ]

  -- RULES 11.4, 11.8: the first slot, taken in before its halves are tested, and then its halves. The first argument
  -- bounds the depth, and the number of slots is enough
  unfoldable pub nearest_within : ℕ → Tally → List Row → Tally
  unfolding taken enter_halves to_query threshold_of left_size
  nearest_within zero t slots = t
  nearest_within (suc depth) t [] = t
  nearest_within (suc depth) t (s ∷ rest) =
      let l = left_size (suc (length rest)) in
      enter_halves (to_query dist query s) (threshold_of s)
      (λ u. nearest_within depth u (take l rest))
      (λ u. nearest_within depth u (drop l rest))
      (taken t s)

  -- RULES 11.4: nearest over one tree's slots, whatever they hold, from what is kept and counted before
  unfoldable pub nearest_tree : Tally → List Row → Tally
  unfolding nearest_within
  nearest_tree t slots = nearest_within (length slots) t slots
