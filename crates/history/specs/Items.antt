-- RULES 8.3, 9.2 to 9.4 by rows and words alone: which items an accepted add or removal leaves in the slots of mark 0,
-- whatever it builds or empties. Of any table whose rows are 13 words of 32 bits, foreign ones too.
use Rattle.std.specs.Prelude.{ℕ, suc, ◌^◌, ◌<◌, ◌≡◌, eqb}
use mathlib.Core.List.{List, ◌∷◌, map, flatten, Permᴰ}
use Rattle.lists.specs.Lists.{select, count_from}
use Rattle.metric_rules.specs.declared.Profile.{Profile}
use Rattle.metric_rules.specs.Row.{Row, IsProfile}
use Rattle.table_rules.specs.Table.{Table}
use Rattle.table_rules.specs.Add.{add_reply, table_after_add}
use Rattle.table_rules.specs.Remove.{remove_reply, table_after_remove}
use Rattle.history.specs.Places.{nth_row, word_in, wide_in, order_word, built_size, slot_row, profile_in}
use Rattle.history.specs.Model.{Item}
use Rattle.history.specs.Slots.{FirstAt}

-- RULES 4.2: the item at place i of bucket b: its tag, its profile and its day as they stand
abbrev pub item_at : Table → ℕ → ℕ → Item
item_at t b i =
    let r = slot_row t b i in
    record { tag = wide_in (nth_row t r) 0; profile = profile_in t r; day = word_in t r 12 }

-- RULES 5.5: the items at the built places of mark 0, by bucket, then place
abbrev pub live_at_places : Table → List Item
live_at_places t =
    flatten
    (map (λ b. map (item_at t b) (select (λ i. eqb (word_in t (slot_row t b i) 11) 0) (count_from 0 (built_size t b))))
    (count_from 0 (suc (order_word t))))

-- RULES 9.1, 9.2: those of t are the item of the first slot with the tag and those of u
pub record WithoutFirst (t u : Table) (tag : ℕ) : Type 0 where
  pub bucket : ℕ
  pub slot : ℕ
  pub first : FirstAt t tag bucket slot
  pub others : Permᴰ (live_at_places t) (item_at t bucket slot ∷ live_at_places u)

-- what an accepted add and an accepted removal leave
pub record Stay (t : Table) (work : List Row) : Type 0 where
  pub adds : (tag : ℕ) (p : Profile) (day : ℕ) → IsProfile p → day < 2 ^ 16 → (add_reply t work tag p day).refusal ≡ 0
      → Permᴰ (live_at_places (table_after_add t work tag p day))
      (record { tag = tag; profile = p; day = day } ∷ live_at_places t)
  pub removes : (tag : ℕ) → (remove_reply t work tag).refusal ≡ 0 → WithoutFirst t (table_after_remove t work tag) tag
