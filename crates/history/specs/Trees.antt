-- W1: "Tree, search and cost facts are shown for any unsigned 32-bit distance that is zero on equal profiles, symmetric
-- and obeys the triangle rule". These are the facts, of one tree.
use Rattle.std.specs.Prelude.{ℕ, zero, suc, ◌+◌, ◌/◌, ◌≡◌, Bool, true, List, [], ◌∷◌, ◌++◌, map, length, take, drop}
use Rattle.lists.specs.Lists.{last, select, distinct}
use Rattle.metric_rules.specs.declared.Profile.{Profile}
use Rattle.metric_rules.specs.Row.{Row, tag_of, profile_of}
use Rattle.tree_rules.specs.Sorting.{sort_by}
use Rattle.tree_rules.specs.Layout.{cost, Ranked, ranked_from, tag_key, placed, layout, is_layout}
use Rattle.tree_rules.specs.Guided.{Whole}
use Rattle.search_rules.specs.Range.{ordered, entry_of, isHit, rangeTree}
use Rattle.search_rules.specs.Nearest.{nearest_tree}

-- rows in their slots, with the number of distances that were worked out on the way
pub record Laid : Type 0 where
  pub rows : List Row
  pub count : ℕ

-- a ranked row with its distance from the first slot
pub record Away : Type 0 where
  pub item : Ranked
  pub away : ℕ

pub record Measured : Type 0 where
  pub items : List Away
  pub count : ℕ

-- RULES 6.2: by distance, then tag, then rank, of what was measured
abbrev pub away_key : Away → List ℕ
away_key x = x.away ∷ tag_key x.item

module _ (dist : Profile → Profile → ℕ) where
  -- every distance of a build is worked out here, and counted
  unfoldable pub measured : Ranked → List Ranked → Measured
  measured v [] = record { items = []; count = 0 }
  measured v (x ∷ xs) =
      let further = measured v xs in
      record {
        items = record { item = x; away = dist (profile_of v.row) (profile_of x.row) } ∷ further.items;
        count = suc further.count;
      }

  -- RULES 6.1 to 6.4 for rows of which the first has the smallest tag: the rest are measured once and sorted by what
  -- was measured; the last distance of the left half is the threshold
  unfoldable pub counted_node : (List Ranked → Laid) → List Ranked → Laid
  counted_node below [] = record { rows = []; count = 0 }
  counted_node below (v ∷ rest) =
      let asked = measured v rest in
      let near = sort_by away_key asked.items in
      let l = suc (length near) / 2 in
      let left = below (map (λ x. x.item) (take l near)) in
      let right = below (map (λ x. x.item) (drop l near)) in
      record {
        rows = placed (last 0 (map (λ x. x.away) (take l near))) v.row ∷ left.rows ++ right.rows;
        count = asked.count + left.count + right.count;
      }

  unfoldable pub counted_within : ℕ → List Ranked → Laid
  counted_within zero xs = record { rows = []; count = 0 }
  counted_within (suc depth) xs = counted_node (λ ys. counted_within depth ys) (sort_by tag_key xs)

  -- a layout that counts as it goes
  unfoldable pub counted_layout : List Row → Laid
  counted_layout rows = counted_within (length rows) (ranked_from 0 rows)

  pub record TreeFacts : Type 0 where
    -- the layout of rows without a tag twice is one by the test
    pub laid : (rows : List Row) → Whole rows → distinct (map tag_of rows) ≡ true
        → is_layout dist (layout dist rows) ≡ true
    -- a layout that counts as it goes is the layout, and its count is c(n)
    pub costs : (rows : List Row)
        → ((counted_layout rows).rows ≡ layout dist rows) × ((counted_layout rows).count ≡ cost (length rows))
    -- over slots that are a layout, marks aside, range meets what a scan of them meets, whatever may be reported
    pub range : (slots : List Row) → Whole slots → is_layout dist slots ≡ true
        → (query : Profile) (reports : Row → Bool) (radius : ℕ)
        → (rangeTree dist query reports radius slots).hits
        ≡ map (entry_of dist query) (select (isHit dist query reports radius) slots)
    -- and nearest keeps the first k of a scan, by distance, then tag
    pub nearest : (slots : List Row) → Whole slots → is_layout dist slots ≡ true
        → (query : Profile) (reports : Row → Bool) (k : ℕ)
        → (nearest_tree dist query reports k (record { kept = []; count = 0 }) slots).kept
        ≡ take k (ordered (map (entry_of dist query) (select reports slots)))
