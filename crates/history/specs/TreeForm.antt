-- RULES 6.1 to 6.6 in plain numbers: which slots are a tree, by none of the definitions that the layout is made of. A
-- slot's rank is the place of its row among the rows that were gathered.
use Rattle.std.specs.Prelude.{ℕ, suc, ◌+◌, ◌/◌, ◌≤◌, ◌<◌, ◌≡◌, ◌⊎◌, length, get_or}
use mathlib.Core.List.{List, [], ◌∷◌, ◌++◌, map, Permᴰ}
use Rattle.lists.specs.Lists.{count_from, All}
use Rattle.metric_rules.specs.declared.Profile.{Profile}
use Rattle.metric_rules.specs.Row.{Row, tag_of, profile_of, threshold_of, mark_of}
use Rattle.tree_rules.specs.Layout.{Ranked, layout}
use Rattle.history.specs.Model.{item_of}

-- RULES 6.1, 6.5: a smaller tag goes first, and of equal tags the one that was gathered first
abbrev pub Earlier : Ranked → Ranked → Type 0
Earlier x y = (tag_of x.row < tag_of y.row) ⊎ ((tag_of x.row ≡ tag_of y.row) × (x.rank ≤ y.rank))

module _ (dist : Profile → Profile → ℕ) where
  -- the distance of a slot's profile from that of a tree's first slot
  abbrev pub away : Ranked → Ranked → ℕ
  away v x = dist (profile_of v.row) (profile_of x.row)

  -- RULES 6.2, 6.5: x is nearer to the first slot than y, or as near and earlier
  abbrev pub Nearer : Ranked → Ranked → Ranked → Type 0
  Nearer v x y = (away v x < away v y) ⊎ ((away v x ≡ away v y) × Earlier x y)

  -- no slots, or a first slot and the slots of two halves, which are trees
  pub data IsTree : List Ranked → Type 0 where
    none : IsTree []
    node :
        (v : Ranked) (left right : List Ranked)
        -- RULES 6.2: the left half has floor(n/2) of the n slots
        → length left ≡ suc (length left + length right) / 2
        -- RULES 6.1: the first slot is the earliest
        → All (Earlier v) (left ++ right)
        -- RULES 6.2: each of the left half is nearer to it than each of the right half
        → All (λ x. All (Nearer v x) right) left
        -- RULES 6.3: its threshold is the largest distance of the left half from it: none there is above it, and no
        -- lower number will do; so 0 where that half is empty
        → All (λ x. away v x ≤ threshold_of v.row) left
        → ((bound : ℕ) → All (λ x. away v x ≤ bound) left → threshold_of v.row ≤ bound)
        → IsTree left → IsTree right → IsTree (v ∷ left ++ right)

  -- RULES 6.4 to 6.6, the slots that some rows fill: a tree, in which every row stands once, as the item that it is and
  -- with mark 0
  pub record LaidOut (rows : List Row) : Type 0 where
    pub slots : List Ranked
    pub laid : layout dist rows ≡ map (λ x. x.row) slots
    pub tree : IsTree slots
    pub once : Permᴰ (map (λ x. x.rank) slots) (count_from 0 (length rows))
    pub items : All (λ x. item_of x.row ≡ item_of (get_or rows x.rank [])) slots
    pub marks : All (λ x. mark_of x.row ≡ 0) slots
