-- What a nearest search hands on from step to step (RULES 11.8: "The running count and the kept bound pass through
-- every step"): two numbers, while the entries kept stand in order at the front of the area.
use Rattle.std.specs.Prelude.{ℕ, suc, ◌+◌, ◌-◌, ◌≤◌, ◌<◌, ◌^◌, min, ◌≡◌, Bool, true, false, List, ◌∷◌, ◌++◌, length, take, drop, ltb}
use Rattle.lists.specs.Lists.{All, select}
use Rattle.metric_rules.specs.declared.Profile.{Profile}
use Rattle.metric_rules.specs.Row.{Row, tag_of}
use Rattle.tree_rules.specs.Layout.{left_size}
use Rattle.search_rules.specs.Range.{Entry, entry, entry_distance, ordered}
use Rattle.search_rules.specs.Nearest.{Tally, keep, worst, enter_halves, nearest_tree}
use Rattle.search_asked.specs.Asked.{distance_asked, query_asked, reports_asked, k_asked}
use Rattle.tree_nearest.specs.declared.Nearby.{Nearby}

-- the bound with these entries kept: while they are fewer than k, 2^32, which no distance reaches, and their number;
-- then the worst distance kept
unfoldable pub bound_of : ℕ → List Entry → ℕ
unfolding worst
bound_of k kept = elim (ltb (length kept) k) [ true ↦ 2 ^ 32 + length kept | false ↦ worst kept ]

-- how many are kept where this is the bound
unfoldable pub kept_under : ℕ → ℕ → ℕ
kept_under k bound = elim (ltb bound (2 ^ 32)) [ true ↦ k | false ↦ bound - 2 ^ 32 ]

-- the entries kept: those at the front of the area
abbrev pub kept_of : ℕ → List Entry → ℕ → List Entry
kept_of k area bound = take (kept_under k bound) area

-- they stand in order, each at a distance of 32 bits, and the bound is theirs
pub record Held (k : ℕ) (area : List Entry) (bound : ℕ) : Type 0 where
  pub some : 0 < k
  pub bound_is : bound ≡ bound_of k (kept_of k area bound)
  pub in_order : ordered (kept_of k area bound) ≡ kept_of k area bound
  pub near : All (λ e. entry_distance e < 2 ^ 32) (kept_of k area bound)

-- these entries at the front of an area
abbrev pub in_front : List Entry → List Entry → List Entry
in_front es area = es ++ drop (length es) area

-- the tally that an area and the numbers stand for, and the numbers of a tally
abbrev pub tally_of : ℕ → List Entry → Nearby → Tally
tally_of k area n = record { kept = kept_of k area n.bound; count = n.count }

abbrev pub nearby_of : ℕ → Tally → Nearby
nearby_of k t = record { count = t.count; bound = bound_of k t.kept }

-- what a step leaves, t being the tally that its definition gives: the numbers and the area are those of t
abbrev pub Leaves : ℕ → Tally → List Entry → List Entry → Nearby → Type 0
Leaves k t area after r = (r ≡ nearby_of k t) × (after ≡ in_front t.kept area)

-- how many of these slots may be reported
abbrev pub reported_in : (Row → Bool) → List Row → ℕ
reported_in reports slots = length (select reports slots)

-- what a step over so many slots can start from, so many of them to be reported: the area has room for what will be
-- kept
pub record Ready (k reported slots : ℕ) (area : List Entry) (n : Nearby) : Type 0 where
  pub held : Held k area n.bound
  pub room : min k (length (kept_of k area n.bound) + reported) ≤ length area
  pub counts : n.count + slots < 2 ^ 32

-- a slot's own item, at distance d from the query, is taken in
unfoldable pub taken_at : (Row → Bool) → ℕ → Tally → Row → ℕ → Tally
unfolding keep entry tag_of
taken_at reports k t row d = record { kept = elim (reports row) [ true ↦ keep k (entry (tag_of row) d ∷ t.kept) | false ↦ t.kept ]; count = suc t.count }

-- the halves below a slot at distance d from the query and of threshold m
unfoldable pub near_in_halves : (Profile → Profile → ℕ) → Profile → (Row → Bool) → ℕ → ℕ → ℕ → List Row → Tally → Tally
unfolding enter_halves nearest_tree left_size
near_in_halves dist query reports k d m rest t =
    let l = left_size (suc (length rest)) in
    enter_halves dist query reports k d m (λ u. nearest_tree dist query reports k u (take l rest)) (λ u. nearest_tree dist query reports k u (drop l rest)) t

-- by what is asked: what a search of these slots can start from, and nearest over them from what an area and the
-- numbers stand for
abbrev pub ReadyAsked : List Row → List Row → List Entry → Nearby → Type 0
ReadyAsked asked slots area n = Ready (k_asked asked) (reported_in (reports_asked asked) slots) (length slots) area n

abbrev pub nearest_asked : List Row → List Row → List Entry → Nearby → Tally
nearest_asked asked slots area n = nearest_tree (distance_asked asked) (query_asked asked) (reports_asked asked) (k_asked asked) (tally_of (k_asked asked) area n) slots
