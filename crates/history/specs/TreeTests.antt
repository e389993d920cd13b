-- RULES 12.8, the trees of an image, slot by slot: what each slot is refused by, in words read at places of the model's
-- own. What the method puts where is told by `layout` (RULES 6), and by no definition of the tests of a load.
use Rattle.std.specs.Prelude.{ℕ, ◌+◌, ◌*◌, Bool, ◌&&◌, ◌||◌, eqb, get_or}
use mathlib.Core.List.{List, [], ◌∷◌, ◌++◌, map, flatten}
use Rattle.lists.specs.Lists.{every, any, count_from}
use Rattle.metric_rules.specs.Row.{Row}
use Rattle.metric_rules.specs.Distance.{distance}
use Rattle.tree_rules.specs.Layout.{layout}
use Rattle.table_rules.specs.Refusals.{unless, when}
use Rattle.image_rules.specs.Trees.{duplicate_tag, misplaced_item, bad_threshold}
use Rattle.history.specs.Places.{number_from}
use Rattle.history.specs.LoadTests.{order_byte, form_bytes, built_at, slots_up_to, tags_from, record_from, slots_at}
use Rattle.history.specs.LoadTests.{tag_in, mark_in, day_read, space_read}

-- RULES 4.2, the words of slot i's row: two of its tag, ten of its record, and its day
unfoldable pub slot_words : List ℕ → ℕ → Row
slot_words bytes i =
    map (λ j. number_from bytes (tags_from bytes + 8 * i + 4 * j) 4) (count_from 0 2)
    ++ map (λ j. number_from bytes (record_from bytes i + 4 * j) 4) (count_from 0 10)
    ++ (day_read (form_bytes bytes) bytes (record_from bytes i) ∷ [])

-- the items of bucket k's slots as the method lays them out, by the image's metric and weights
unfoldable pub laid_out : List ℕ → ℕ → List Row
laid_out bytes k = layout (distance (space_read bytes)) (map (slot_words bytes) (slots_at bytes k))

-- 36, slot s of bucket k, which is slot i of the image: an earlier slot of its bucket has its tag; or it has mark 0,
-- and so has an earlier slot, of whatever bucket, with its tag
unfoldable pub tag_taken : List ℕ → ℕ → ℕ → Bool
tag_taken bytes k s =
    let i = slots_up_to bytes k + s in
    any (λ j. eqb (tag_in bytes j) (tag_in bytes i)) (count_from (slots_up_to bytes k) s)
    || (eqb (mark_in bytes i) 0
    && any (λ j. eqb (mark_in bytes j) 0 && eqb (tag_in bytes j) (tag_in bytes i)) (count_from 0 i))

-- 36; 37 unless it is the item that the layout puts there, tag, measures, code and day; 38 unless it has the threshold,
-- word 10, that the layout puts there
unfoldable pub slot_refusal_of : List ℕ → ℕ → ℕ → ℕ
slot_refusal_of bytes k s =
    let words = slot_words bytes (slots_up_to bytes k + s) in
    let laid = get_or (laid_out bytes k) s [] in
    when (tag_taken bytes k s) duplicate_tag
    (unless (every (λ w. eqb (get_or laid w 0) (get_or words w 0)) (count_from 0 10 ++ (12 ∷ []))) misplaced_item
    (unless (eqb (get_or laid 10 0) (get_or words 10 0)) bad_threshold
    0))

-- of all slots, in their order
unfoldable pub slot_refusals_of : List ℕ → List ℕ
slot_refusals_of bytes =
    flatten
    (map (λ k. map (slot_refusal_of bytes k) (count_from 0 (built_at bytes k))) (count_from 0 (order_byte bytes + 1)))
