-- RULES 11.2, 11.5, 11.9, 11.10 by rows and words alone: what stands behind the entries of an answer, and how many
-- there are. Of any table, foreign ones too.
use Rattle.std.specs.Prelude.{ℕ, suc, ◌^◌, ◌≤◌, ◌<◌, min, ◌≡◌, Bool, ◌&&◌, [], ◌∷◌, map, leb, eqb, length, get_or}
use Rattle.lists.specs.Lists.{select, total, count_from, All}
use Rattle.metric_rules.specs.declared.Profile.{Profile}
use Rattle.metric_rules.specs.Distance.{distance}
use Rattle.search_rules.specs.Range.{Entry}
use Rattle.table_rules.specs.Table.{Table, table_space}
use Rattle.table_rules.specs.Checks.{read_refusal}
use Rattle.table_rules.specs.Search.{range_answer, nearest_answer}
use Rattle.history.specs.Places.{nth_row, word_in, wide_in, order_word, built_size, slot_row, profile_in}

-- RULES 11.2: at place i of bucket b a slot is built, its mark is 0, and its day is not before the first day
pub record DatedAt (t : Table) (firstDay b i : ℕ) : Type 0 where
  pub in_order : b ≤ order_word t
  pub within : i < built_size t b
  pub mark : word_in t (slot_row t b i) 11 ≡ 0
  pub day : firstDay ≤ word_in t (slot_row t b i) 12

abbrev pub is_dated : Table → ℕ → ℕ → ℕ → Bool
is_dated t firstDay b i = eqb (word_in t (slot_row t b i) 11) 0 && leb firstDay (word_in t (slot_row t b i) 12)

-- RULES 11.10: its entry, its tag and the distance of its profile to the query
abbrev pub entry_at : Table → Profile → ℕ → ℕ → Entry
entry_at t query b i =
    let r = slot_row t b i in
    wide_in (nth_row t r) 0 ∷ distance (table_space t) (profile_in t r) query ∷ []

-- an entry is that of such a slot
pub record EntryThere (t : Table) (query : Profile) (firstDay : ℕ) (e : Entry) : Type 0 where
  pub bucket : ℕ
  pub slot : ℕ
  pub dated : DatedAt t firstDay bucket slot
  pub entry : e ≡ entry_at t query bucket slot

-- how many places of a table pass a test, of those below the built size of each bucket 0 to T
abbrev pub places_with : Table → (ℕ → ℕ → Bool) → ℕ
places_with t test =
    total (map (λ b. length (select (test b) (count_from 0 (built_size t b)))) (count_from 0 (suc (order_word t))))

-- RULES 4.1: every word of a table is one of 32 bits
abbrev pub Words : Table → Type 0
Words t = (r w : ℕ) → word_in t r w < 2 ^ 32

pub record AreThere (t : Table) (query : Profile) (firstDay : ℕ) : Type 0 where
  -- RULES 11.5, 11.9: every entry is there, and range's are within the radius
  pub ranges : (radius : ℕ)
      → All (λ e. EntryThere t query firstDay e × (get_or e 1 0 ≤ radius)) (range_answer t query radius firstDay).entries
  pub nearests : (k : ℕ) → All (EntryThere t query firstDay) (nearest_answer t query k firstDay).entries
  -- by the largest radius range has as many entries as there are such slots, and nearest has k of them or all
  pub whole : read_refusal t ≡ 0 → Words t
      → length (range_answer t query 4_294_967_295 firstDay).entries ≡ places_with t (is_dated t firstDay)
  pub enough : read_refusal t ≡ 0
      → (k : ℕ) → length (nearest_answer t query k firstDay).entries ≡ min k (places_with t (is_dated t firstDay))
  -- and no slot stands behind two entries: of any kind of entries there are no more than such slots with one of that
  -- kind
  pub once : read_refusal t ≡ 0 → (kind : Entry → Bool)
      → let slots = places_with t (λ b i. is_dated t firstDay b i && kind (entry_at t query b i)) in
      ((radius : ℕ) → length (select kind (range_answer t query radius firstDay).entries) ≤ slots)
      × ((k : ℕ) → length (select kind (nearest_answer t query k firstDay).entries) ≤ slots)
