-- RULES 11.3 to 11.8, 11.14 in plain numbers: the slots that range, a batch and nearest visit, with every comparison
-- written out and by none of the definitions that the searches are made of.
use Rattle.std.specs.Prelude.{ℕ, suc, ◌+◌, ◌-◌, ◌/◌, ◌≤◌, ◌<◌, ◌≡◌, ◌⊎◌, Bool, true, false, ◌&&◌, List, [], ◌∷◌, ◌++◌, map, length, take, drop, leb, ltb, eqb}
use Rattle.lists.specs.Lists.{All, select}
use Rattle.metric_rules.specs.declared.Profile.{Profile}
use Rattle.metric_rules.specs.Row.{Row, profile_of, threshold_of, mark_of, day_of}
use Rattle.lots_rules.specs.Claims.{OneOf}

-- numbers in rising order, none twice and none below `least`
abbrev pub RisingFrom : ℕ → List ℕ → Type 0
RisingFrom least [] = Unit {0}
RisingFrom least (n ∷ ns) = (least ≤ n) × RisingFrom (suc n) ns

-- the numbers of which P holds, each once
pub record Lists (P : ℕ → Type 0) (ns : List ℕ) : Type 0 where
  pub rising : RisingFrom 0 ns
  pub only : All P ns
  pub every : (n : ℕ) → P n → OneOf n ns

-- how many slots the left half has that stands behind the first slot, where `others` are behind it
abbrev pub left_half : ℕ → ℕ
left_half others = suc others / 2

-- slot i of one tree's slots is visited: it is the first; or it is in the left half and d ≤ m + r, or in the right half
-- and m ≤ d + r, and it is visited among the slots of that half. Here d is the distance of the first slot's profile to
-- the query, m its threshold and r the radius
pub data Visited (dist : Profile → Profile → ℕ) (query : Profile) (r : ℕ) : List Row → ℕ → Type 0 where
  first : (s : Row) (rest : List Row) → Visited dist query r (s ∷ rest) 0
  left :
      (s : Row) (rest : List Row) (i : ℕ) → i < left_half (length rest)
      → dist (profile_of s) query ≤ threshold_of s + r
      → Visited dist query r (take (left_half (length rest)) rest) i → Visited dist query r (s ∷ rest) (suc i)
  right :
      (s : Row) (rest : List Row) (i : ℕ) → left_half (length rest) ≤ i
      → threshold_of s ≤ dist (profile_of s) query + r
      → Visited dist query r (drop (left_half (length rest)) rest) (i - left_half (length rest))
      → Visited dist query r (s ∷ rest) (suc i)

-- RULES 11.12, 11.14: one of some queries visits slot i by itself. A query is a row, its profile at the places of a
-- slot's profile and its radius at that of a slot's threshold
abbrev pub VisitedByOne : (Profile → Profile → ℕ) → List Row → List Row → ℕ → Type 0
VisitedByOne dist [] slots i = ⊥
VisitedByOne dist (query ∷ queries) slots i =
    Visited dist (profile_of query) (threshold_of query) slots i ⊎ VisitedByOne dist queries slots i

-- RULES 11.2, which rows a search may report: mark 0, and a day not before the first
abbrev pub is_weighed : ℕ → Row → Bool
is_weighed firstDay row = eqb (mark_of row) 0 && leb firstDay (day_of row)

-- nearest for k items, of the rows that `reports` says may be reported
module _ (dist : Profile → Profile → ℕ) (query : Profile) (reports : Row → Bool) (k : ℕ) where
  -- d, the distance of a row's profile to the query
  abbrev pub away : Row → ℕ
  away row = dist (profile_of row) query

  -- the rows found so far, with one more where it may be reported
  abbrev pub found : Row → List Row → List Row
  found s rows = elim (reports s) [ true ↦ s ∷ rows | false ↦ rows ]

  -- how many of them are at a distance x with a + x < b
  abbrev pub within : ℕ → ℕ → List Row → ℕ
  within a b rows = length (select (λ row. ltb (a + away row) b) rows)

  -- RULES 11.7, 11.8: a search that has found some rows comes to a tree's half, visits the slots at these places, in
  -- this order, and has then found more. Nothing in the half is nearer than b - a. So it is passed over exactly if k
  -- rows found by then are nearer than that: if a + r < b, r being the distance of the k-th nearest of them. Where it
  -- is entered, its first slot is visited and then its own halves, the one on the query's side first, left if d ≤ m,
  -- each tested when its turn comes: for the left one b - a is d - m, for the right one m - d
  pub data Nears : ℕ → ℕ → List Row → List Row → List ℕ → List Row → Type 0 where
    passed : (a b : ℕ) (rows slots : List Row) → k ≤ within a b rows → Nears a b rows slots [] rows
    empty : (a b : ℕ) (rows : List Row) → Nears a b rows [] [] rows
    leftFirst :
        (a b l : ℕ) (rows : List Row) (s : Row) (rest between after : List Row) (left right : List ℕ)
        → within a b rows < k → away s ≤ threshold_of s → l ≡ left_half (length rest)
        → Nears (threshold_of s) (away s) (found s rows) (take l rest) left between
        → Nears (away s) (threshold_of s) between (drop l rest) right after
        → Nears a b rows (s ∷ rest) (0 ∷ map suc left ++ map (λ i. suc (l + i)) right) after
    rightFirst :
        (a b l : ℕ) (rows : List Row) (s : Row) (rest between after : List Row) (left right : List ℕ)
        → within a b rows < k → threshold_of s < away s → l ≡ left_half (length rest)
        → Nears (away s) (threshold_of s) (found s rows) (drop l rest) right between
        → Nears (threshold_of s) (away s) between (take l rest) left after
        → Nears a b rows (s ∷ rest) (0 ∷ map (λ i. suc (l + i)) right ++ map suc left) after

  -- RULES 11.1, 11.8: over the trees of buckets n - 1 down to 0, what is found going from one to the next; the last
  -- number is that of the slots visited. No distance is below 0 - 0, so no tree is passed over as a whole
  pub data NearsDown (slots : ℕ → List Row) : ℕ → List Row → ℕ → Type 0 where
    bottom : (rows : List Row) → NearsDown slots 0 rows 0
    next :
        (n : ℕ) (rows after : List Row) (places : List ℕ) (count : ℕ)
        → Nears 0 0 rows (slots n) places after → NearsDown slots n after count
        → NearsDown slots (suc n) rows (length places + count)
