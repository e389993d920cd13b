-- What a build holds is what it gathered, tag, profile and day: a build writes threshold and mark and no other word, and a layout is a permutation of its rows.
use Prim.Native.Nat.{ℕ}
use mathlib.Core.Path.{◌≡◌, sym, ◌∙◌, subst}
use mathlib.Core.List.Permᴰ
use mathlib.Core.List.{List, map, Permᴰ}
use Rattle.lists.specs.Lists.{All}
use Rattle.lists.proofs.Lists.{all_map, all_of_map, all_perm}
use Rattle.metric_rules.specs.declared.Profile.{Profile}
use Rattle.metric_rules.specs.Row.{Row, IsProfile, day_of, new_row, with_threshold}
use Rattle.metric_rules.proofs.Codec.{tag_of_row, profile-of-row, day_of_row, day_with_threshold, day_with_mark}
use Rattle.tree_rules.specs.Layout.{layout, placed}
use Rattle.tree_rules.proofs.Placed.{tag_placed, profile_placed}
use Rattle.tree_rules.proofs.Layouts.{layout_permutes}
use Rattle.table_rules.proofs.Puts.{held_slots}
use Rattle.table_rules.proofs.Passing.{read_passed}
use Rattle.table_rules.proofs.Fill.{passed_roomy}
use Rattle.table_rules.proofs.Live.{rebuilt_holds}
use Rattle.history.specs.Model.{Item, item_of}
use Rattle.history.specs.Demands.{BuildsKeepItems}

module _ (m : ℕ) (row : Row) where
  day_placed : day_of (placed m row) ≡ day_of row
  unfolding placed
  day_placed = day_with_mark (with_threshold m row) 0 ∙ day_with_threshold row m

  pub item_placed : item_of (placed m row) ≡ item_of row
  unfolding item_of
  item_placed = λ i. record { tag = tag_placed m row i; profile = profile_placed m row i; day = day_placed i }

-- the item of the row that an add stores
pub new_item : (tag : ℕ) (p : Profile) (day : ℕ) → IsProfile p → item_of (new_row tag p day) ≡ record { tag = tag; profile = p; day = day }
unfolding item_of
new_item tag p day is =
    λ i. record { tag = tag_of_row tag p 0 0 day i; profile = profile-of-row tag p 0 0 day is i; day = day_of_row tag p 0 0 day i }

module _ (dist : Profile → Profile → ℕ) (rows : List Row) where
  pub tree_items : Permᴰ (map item_of (layout dist rows)) (map item_of rows)
  tree_items = layout_permutes dist item_of item_placed rows

  -- what holds of the items gathered holds of those that the tree has
  pub tree_all : (P : Item → Type 0) → All (λ r. P (item_of r)) rows → All (λ r. P (item_of r)) (layout dist rows)
  tree_all P h = all_of_map item_of P (layout dist rows) (all_perm P (Permᴰ.symm tree_items) (all_map item_of P rows h))

-- the law, over any table that passes the tests of its sizes
pub builds_keep_items : BuildsKeepItems
builds_keep_items t passes ks k rows in_order fits =
    subst (λ (slots : List Row). Permᴰ (map item_of slots) (map item_of rows))
    (sym (held_slots (rebuilt_holds t (passed_roomy (read_passed t passes)) ks in_order.1 k in_order.0 rows fits)))
    (tree_items _ rows)
