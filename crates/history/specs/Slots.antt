-- RULES 9.1, 10.2 and 20.1 by rows and words alone: at which slot a tag is found, and what look up, remove and dues
-- make of that slot. Of any table, foreign ones too.
use Rattle.std.specs.Prelude.{ℕ, ◌+◌, ◌-◌, ◌*◌, ◌^◌, ◌≤◌, ◌<◌, ◌≡◌, ◌⊎◌, List, ◌∷◌, pos, length, get_or, set, replicate}
use Rattle.std.specs.Int.{w32}
use Rattle.std.proofs.Common.{to_z}
use Rattle.metric_rules.specs.declared.Profile.{Profile}
use Rattle.metric_rules.specs.Row.{Row}
use Rattle.table_rules.specs.declared.LookedUp.{LookedUp}
use Rattle.table_rules.specs.Table.{Table}
use Rattle.table_rules.specs.LookUp.{look_up_reply}
use Rattle.table_rules.specs.Refusals.{not_live}
use Rattle.table_rules.specs.Add.{add_reply}
use Rattle.table_rules.specs.Remove.{after_deletion, remove_reply, table_after_remove}
use Rattle.dues_rules.specs.Listed.{dues_reply, dues_after}
use Rattle.history.specs.Figures.{cents_aKilo, in_cents}
use Rattle.history.specs.Places.{nth_row, word_in, wide_in, order_word, built_size, live_size, slot_row, profile_in}

-- RULES 4.2, 5.5: at place i of bucket b a slot is built, its mark is 0, and its tag's words, the low one first, are
-- those of the tag
pub record TagAt (t : Table) (tag b i : ℕ) : Type 0 where
  pub in_order : b ≤ order_word t
  pub within : i < built_size t b
  pub mark : word_in t (slot_row t b i) 11 ≡ 0
  pub tagged : wide_in (nth_row t (slot_row t b i)) 0 ≡ tag

-- RULES 9.1: and every such slot is in a higher bucket, or in that bucket at this place or a higher one
pub record FirstAt (t : Table) (tag b i : ℕ) : Type 0 where
  pub here : TagAt t tag b i
  pub first : (c j : ℕ) → TagAt t tag c j → (b < c) ⊎ ((b ≡ c) × (i ≤ j))

-- RULES 10.2: a look up replies the bucket of the first slot, and its profile and day as they stand
pub record RepliesFirst (t : Table) (tag : ℕ) (r : LookedUp) : Type 0 where
  pub slot : ℕ
  pub first : FirstAt t tag r.bucket slot
  pub profile : r.profile ≡ profile_in t (slot_row t r.bucket slot)
  pub day : r.day ≡ word_in t (slot_row t r.bucket slot) 12

-- RULES 4.4, 9.2, the slot at place i of bucket b struck: its mark is 1, the bucket's live size is one less, its sizes
-- row written whole, and every other row is as it was
pub record Struck (t u : Table) (b i : ℕ) : Type 0 where
  pub long : length u ≡ length t
  pub slot : nth_row u (slot_row t b i) ≡ set (nth_row t (slot_row t b i)) 11 1
  pub sizes : nth_row u (1 + b) ≡ built_size t b ∷ (live_size t b - 1) ∷ replicate 11 0
  pub others : (r : ℕ) → (r ≡ slot_row t b i → ⊥) → (r ≡ 1 + b → ⊥) → nth_row u r ≡ nth_row t r

-- RULES 9.2 to 9.4: a removal strikes the first slot. Where more than a quarter of its bucket's room stays live, that
-- is all; else the steps after a deletion begin at the table struck
pub record StrikesFirst (t : Table) (tag : ℕ) (u : Table) : Type 0 where
  pub bucket : ℕ
  pub slot : ℕ
  pub struck : Table
  pub first : FirstAt t tag bucket slot
  pub strikes : Struck t struck bucket slot
  pub ends : 2 ^ bucket < 4 * (live_size t bucket - 1) → u ≡ struck
  pub goes_on : u ≡ (after_deletion struck bucket).table

-- RULES 20.1: what a tag pays is by the first slot's first measure
pub record PaysFirst (t : Table) (tag paid : ℕ) : Type 0 where
  pub bucket : ℕ
  pub slot : ℕ
  pub weight : ℕ
  pub first : FirstAt t tag bucket slot
  pub weighs : to_z w32 (word_in t (slot_row t bucket slot) 2) ≡ pos weight
  pub pays : paid ≡ in_cents (weight * cents_aKilo weight)

-- no slot has the tag and mark 0
abbrev pub NoneAt : Table → ℕ → Type 0
NoneAt t tag = (b i : ℕ) → TagAt t tag b i → ⊥

pub record Finds (t : Table) (tag : ℕ) : Type 0 where
  -- where the calls are accepted; of dues at every place of the list at which the tag stands
  pub look_ups : (look_up_reply t tag).refusal ≡ 0 → RepliesFirst t tag (look_up_reply t tag)
  pub removes : (work : List Row) → (remove_reply t work tag).refusal ≡ 0
      → StrikesFirst t tag (table_after_remove t work tag)
  pub dues : (tags area : List ℕ) (j : ℕ) → j < length tags → get_or tags j 0 ≡ tag → (dues_reply t tags area).refusal ≡ 0
      → PaysFirst t tag (get_or (dues_after t tags area) j 0)
  -- where they are refused by 21 no slot has it, and neither where an add of it is accepted
  pub not_found : (look_up_reply t tag).refusal ≡ not_live → NoneAt t tag
  pub not_removed : (work : List Row) → (remove_reply t work tag).refusal ≡ not_live → NoneAt t tag
  pub new : (work : List Row) (p : Profile) (day : ℕ) → (add_reply t work tag p day).refusal ≡ 0 → NoneAt t tag
