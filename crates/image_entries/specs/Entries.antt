-- Slots as entries: the first word of an entry is tag · 2^13 + place, the place being the slot's number, in its bucket
-- or among all, and the second a distance. Sorted as entries are, they stand by distance, tag and place. A row is read
-- by the place when it is asked for.
use Rattle.std.specs.Prelude.{ℕ, suc, ◌+◌, ◌*◌, ◌/◌, ◌%◌, ◌^◌, ◌<◌, ◌≡◌, Bool, List, [], ◌∷◌, ◌++◌, map, length, take, drop, get_or}
use Rattle.lists.specs.Lists.{count_from, last, select}
use Rattle.metric_rules.specs.declared.Profile.{Profile}
use Rattle.metric_rules.specs.Row.{Row, tag_of, profile_of}
use Rattle.tree_rules.specs.Layout.{left_size, Ranked, placed, layout_within}
use Rattle.search_rules.specs.Range.{Entry, Pair, entry, entry_distance}
use Rattle.image_rules.specs.declared.Loaded.{Loaded}
use Rattle.image_rules.specs.Trees.{first_refused}
use Rattle.image_entries.specs.Faults.{place_refusals}

-- more than an image has slots
unfoldable pub places : ℕ
places = 8192

unfoldable pub first_word : Entry → ℕ
first_word e = get_or e 0 0

unfoldable pub entry_tag : Entry → ℕ
entry_tag e = get_or e 0 0 / places

unfoldable pub entry_place : Entry → ℕ
entry_place e = get_or e 0 0 % places

-- the entry of a tag and a place, no distance known
unfoldable pub tag_entry : ℕ → ℕ → Entry
tag_entry tag place = entry (tag * places + place) 0

-- an entry without a distance
abbrev pub Fresh : Entry → Type 0
Fresh e = Pair e × (entry_distance e ≡ 0)

-- the distance of the last of some entries, or 0 where there is none
unfoldable pub last_of : List Entry → ℕ
last_of es = last 0 (map entry_distance es)

module _ (slot : ℕ → Row) where
  -- an entry of one of n slots
  pub record IsEntry (n : ℕ) (e : Entry) : Type 0 where
    pub pair : Pair e
    pub tagged : entry_tag e ≡ tag_of (slot (entry_place e))
    pub within : entry_place e < n

  -- the tags of the first n slots are numbers that leave room for a place
  abbrev pub TagsFit : ℕ → Type 0
  TagsFit n = (i : ℕ) → i < n → tag_of (slot i) < 2 ^ 50

  -- the entries of the first n slots, and of those among them that count
  unfoldable pub slot_entries : ℕ → List Entry
  slot_entries n = map (λ i. tag_entry (tag_of (slot i)) i) (count_from 0 n)

  unfoldable pub counted_entries : (Row → Bool) → ℕ → List Entry
  counted_entries counts n = map (λ i. tag_entry (tag_of (slot i)) i) (select (λ i. counts (slot i)) (count_from 0 n))

  -- the slot that an entry stands for, its place being its rank
  unfoldable pub ranked_in : Entry → Ranked
  ranked_in e = record { row = slot (entry_place e); rank = entry_place e }

  -- the row that entries put first whose first is the first slot's, the others being in order of their distance from it
  unfoldable pub first_laid : List Entry → Row
  first_laid es = placed (last_of (take (left_size (length es)) (drop 1 es))) (slot (entry_place (get_or es 0 [])))

  module _ (dist : Profile → Profile → ℕ) where
    -- an entry with the distance of its slot from v
    unfoldable pub measuredIn : Row → Entry → Entry
    measuredIn v e = entry (get_or e 0 0) (dist (profile_of v) (profile_of (slot (entry_place e))))

    -- the layout of the slots of some entries
    unfoldable pub laid_out : List Entry → List Row
    laid_out es = layout_within dist (length es) (map ranked_in es)

    -- the layout that such entries hold
    unfoldable pub laid_from : List Entry → List Row
    laid_from [] = []
    laid_from (v ∷ near) =
        let l = left_size (suc (length near)) in
        placed (last_of (take l near)) (slot (entry_place v)) ∷ laid_out (take l near) ++ laid_out (drop l near)

    -- the slots from a place on, one for each entry, beside the layout of the entries' slots: the first that 37 or 38
    -- refuses, slot 0 having number `first` among all
    unfoldable pub partFault : ℕ → ℕ → List Entry → Loaded
    partFault first place es = first_refused (first + place) (place_refusals (laid_out es) (map slot (count_from place (length es))))
