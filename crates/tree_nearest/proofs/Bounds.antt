-- The bound tells how many entries are kept, and the entries kept tell the bound: each is worked out from the other.
-- The bound is at 2^32 or above just while fewer than k are kept, as no distance is so far.
use Prim.Native.Nat.{ℕ, suc, ◌+◌, ◌-◌, ◌≤◌, ◌<◌, ◌^◌}
use mathlib.Core.Path.{◌≡◌, sym, ap, ap₂, ◌∙◌}
use mathlib.Core.Bool.{Bool, true, false, ◌||◌, or-true}
use mathlib.Core.List.{List, [], ◌++◌, map}
use lib.ListN.{length, get_or, length-take, take-append-drop, drop}
use lib.Seq.{take_all}
use lib.Dec.{leb, ltb}
use borrow.Author.Tests.{lt-ltb, le-ltb, le-leb, lt-leb}
use native.Mathlib.Decide.{dec_le}
use native.Mathlib.Omega.{arith}
use Rattle.lists.specs.Lists.{last, All}
use Rattle.lists.proofs.Lists.{all_map, last_all, last_taken}
use Rattle.search_rules.specs.Range.{Entry, entry_distance, enters_left}
use Rattle.search_rules.specs.Nearest.{worst, opens}
use Rattle.tree_nearest.specs.Nearby.{bound_of, kept_under, kept_of, Held, in_front}

-- these entries' distances fit 32 bits
abbrev pub Near : List Entry → Type 0
Near es = All (λ e. entry_distance e < 2 ^ 32) es

-- the worst distance kept is the last entry's
pub worst_last : (es : List Entry) → 0 < length es → worst es ≡ entry_distance (get_or es (length es - 1) [])
unfolding worst
worst_last es h =
    ap (λ (l : List Entry). last 0 (map entry_distance l)) (sym (take_all (suc (length es - 1)) es (omega arith)))
    ∙ last_taken entry_distance 0 es [] (length es - 1) (omega arith)

worst_near : (es : List Entry) → Near es → worst es < 2 ^ 32
unfolding worst
worst_near es n = last_all (λ d. d < 2 ^ 32) 0 (map entry_distance es) (omega arith) (all_map entry_distance (λ d. d < 2 ^ 32) es n)

module _ (k : ℕ) where
  pub bound_below : (es : List Entry) → length es < k → bound_of k es ≡ 2 ^ 32 + length es
  unfolding bound_of
  bound_below es h = ap (λ (b : Bool). elim b [ true ↦ 2 ^ 32 + length es | false ↦ worst es ]) (lt-ltb (length es) k h)

  pub bound_full : (es : List Entry) → k ≤ length es → bound_of k es ≡ worst es
  unfolding bound_of
  bound_full es h = ap (λ (b : Bool). elim b [ true ↦ 2 ^ 32 + length es | false ↦ worst es ]) (le-ltb (length es) k h)

  pub under_worst : (bound : ℕ) → bound < 2 ^ 32 → kept_under k bound ≡ k
  unfolding kept_under
  under_worst bound h = ap (λ (b : Bool). elim b [ true ↦ k | false ↦ bound - 2 ^ 32 ]) (lt-ltb bound (2 ^ 32) h)

  pub under_unbounded : (bound : ℕ) → 2 ^ 32 ≤ bound → kept_under k bound ≡ bound - 2 ^ 32
  unfolding kept_under
  under_unbounded bound h = ap (λ (b : Bool). elim b [ true ↦ k | false ↦ bound - 2 ^ 32 ]) (le-ltb bound (2 ^ 32) h)

  -- the entries' own bound tells their number
  pub under_bound : (es : List Entry) → length es ≤ k → Near es → kept_under k (bound_of k es) ≡ length es
  under_bound es few n = go (dec_le k (length es))
    where
      go : Dec (k ≤ length es) → kept_under k (bound_of k es) ≡ length es
      go (yes full) = under_worst (bound_of k es) (omega (arith, bound_full es full, worst_near es n)) ∙ omega arith
      go (no below) = under_unbounded (bound_of k es) (omega (arith, bound_below es (omega arith))) ∙ omega (arith, bound_below es (omega arith))

  -- a test on a and b is one on the excess of a over b, which is within the bound or beyond it
  module _ (a b : ℕ) where
    pub opens-always : a ≤ b → (es : List Entry) → opens k (enters_left a b) es ≡ true
    unfolding opens enters_left
    opens-always h es = ap (λ (p : Bool). ltb (length es) k || p) (le-leb a (b + worst es) (omega arith)) ∙ or-true (ltb (length es) k)

    module _ (few : a < 2 ^ 32) (es : List Entry) (bound : ℕ) (e : bound ≡ bound_of k es) where
      pub opens_within : a - b ≤ bound → opens k (enters_left a b) es ≡ true
      unfolding opens enters_left
      opens_within h = go (dec_le k (length es))
        where
          go : Dec (k ≤ length es) → ltb (length es) k || leb a (b + worst es) ≡ true
          go (yes full) = ap (λ (p : Bool). ltb (length es) k || p) (le-leb a (b + worst es) (omega (arith, e, bound_full es full))) ∙ or-true (ltb (length es) k)
          go (no below) = ap (λ (p : Bool). p || leb a (b + worst es)) (lt-ltb (length es) k (omega arith))

      pub shut-beyond : bound < a - b → opens k (enters_left a b) es ≡ false
      unfolding opens enters_left
      shut-beyond h = go (dec_le k (length es))
        where
          go : Dec (k ≤ length es) → ltb (length es) k || leb a (b + worst es) ≡ false
          go (yes full) = ap₂ ◌||◌ (le-ltb (length es) k full) (lt-leb a (b + worst es) (omega (arith, e, bound_full es full)))
          go (no below) = absurd (omega (arith, e, bound_below es (omega arith)))

-- the front of the area holds as many entries as the bound tells
module _ {k : ℕ} {area : List Entry} {bound : ℕ} (h : Held k area bound) where
  pub held_size : length (kept_of k area bound) ≡ kept_under k bound
  held_size = go (dec_le (2 ^ 32) bound) (dec_le k (length (kept_of k area bound)))
    where
      go : Dec (2 ^ 32 ≤ bound) → Dec (k ≤ length (kept_of k area bound)) → length (kept_of k area bound) ≡ kept_under k bound
      go (yes free) (yes full) = absurd (omega (arith, h.bound_is, bound_full k (kept_of k area bound) full, worst_near (kept_of k area bound) h.near))
      go (yes free) (no below) = omega (arith, h.bound_is, bound_below k (kept_of k area bound) (omega arith), under_unbounded k bound free)
      go (no worst') (yes full) = omega (arith, length-take (kept_under k bound) area, under_worst k bound (omega arith))
      go (no worst') (no below) = absurd (omega (arith, h.bound_is, bound_below k (kept_of k area bound) (omega arith)))

  -- while the bound is at 2^32 or above, fewer than k are kept
  pub held_below : 2 ^ 32 ≤ bound → kept_under k bound < k
  held_below free = go (dec_le k (length (kept_of k area bound)))
    where
      go : Dec (k ≤ length (kept_of k area bound)) → kept_under k bound < k
      go (yes full) = absurd (omega (arith, h.bound_is, bound_full k (kept_of k area bound) full, worst_near (kept_of k area bound) h.near))
      go (no below) = omega (arith, held_size)

  pub held_few : length (kept_of k area bound) ≤ k
  held_few = go (dec_le (2 ^ 32) bound)
    where
      go : Dec (2 ^ 32 ≤ bound) → length (kept_of k area bound) ≤ k
      go (yes free) = omega (arith, held_size, held_below free)
      go (no worst') = omega (arith, held_size, under_worst k bound (omega arith))

  -- below that, k are kept and it is the last one's distance
  pub held_worst : bound < 2 ^ 32 → worst (kept_of k area bound) ≡ bound
  held_worst w = sym (bound_full k (kept_of k area bound) (omega (arith, held_size, under_worst k bound w))) ∙ sym h.bound_is

  -- the bound fits 64 bits with room to count on
  pub held_bound : bound < 2 ^ 32 + k
  held_bound = go (dec_le (2 ^ 32) bound)
    where
      go : Dec (2 ^ 32 ≤ bound) → bound < 2 ^ 32 + k
      go (yes free) = omega (arith, held_below free, under_unbounded k bound free)
      go (no worst') = omega arith

  pub held_inside : kept_under k bound ≤ length area
  held_inside = omega (arith, held_size, length-take (kept_under k bound) area)

  -- they stand in front already
  pub held_front : in_front (kept_of k area bound) area ≡ area
  held_front = ap (λ (n : ℕ). kept_of k area bound ++ drop n area) held_size ∙ take-append-drop (kept_under k bound) area
