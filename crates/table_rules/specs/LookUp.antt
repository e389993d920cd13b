-- RULES 9.1, the finding of a live item by its tag, and RULES 10, look up: its refusals and its reply.
use Rattle.std.specs.Prelude.{ℕ, zero, suc, Bool, true, false, ◌&&◌, List, [], ◌∷◌, pos, eqb}
use Rattle.std.proofs.Math.Option.{Option, none, some}
use Rattle.metric_rules.specs.declared.Profile.{Profile}
use Rattle.metric_rules.specs.Row.{Row, tag_of, profile_of, day_of, is_live}
use Rattle.metric_rules.specs.Validity.{valid_tag}
use Rattle.table_rules.specs.declared.LookedUp.{LookedUp}
use Rattle.table_rules.specs.Refusals.{bad_tag, not_live, unless, or_else}
use Rattle.table_rules.specs.Geometry.{buckets_of}
use Rattle.table_rules.specs.Table.{Table, order_of, slots_of}
use Rattle.table_rules.specs.Checks.{read_refusal}

-- where an item stands: its bucket, the slot in it, and the row there
pub record Place : Type 0 where
  pub bucket : ℕ
  pub slot : ℕ
  pub row : Row

-- RULES 9.1: the first live slot with the tag among the slots of bucket k from slot i on
unfoldable pub place_from : ℕ → ℕ → ℕ → List Row → Option Place
place_from tag k i [] = none
place_from tag k i (r ∷ rs) =
    elim (is_live r && eqb (tag_of r) tag) [ true ↦ some (record { bucket = k; slot = i; row = r }) | false ↦ place_from tag k (suc i) rs ]

-- the first of the buckets listed that has one
unfoldable pub place_in : Table → ℕ → List ℕ → Option Place
place_in t tag [] = none
place_in t tag (k ∷ ks) = elim (place_from tag k 0 (slots_of t k)) [ some place ↦ some place | none ↦ place_in t tag ks ]

-- RULES 9.1, the live item with a tag: lowest bucket first, then lowest slot
unfoldable pub find : Table → ℕ → Option Place
find t tag = place_in t tag (buckets_of (order_of t))

unfoldable pub is_live_tag : Table → ℕ → Bool
is_live_tag t tag = elim (find t tag) [ some place ↦ true | none ↦ false ]

-- of a tag that has to be live, in look up and remove: 1, 21
abbrev pub live_tag_refusal : Table → ℕ → ℕ
live_tag_refusal t tag =
    unless (valid_tag tag) bad_tag
    (unless (is_live_tag t tag) not_live
    0)

-- 23 and 24, then the tag's
unfoldable pub look_up_refusal : Table → ℕ → ℕ
look_up_refusal t tag =
    or_else (read_refusal t)
    (live_tag_refusal t tag)

-- RULES 14.2: a refusal has zeros in every other field
unfoldable pub no_profile : Profile
no_profile = record { measures = pos 0 ∷ pos 0 ∷ pos 0 ∷ pos 0 ∷ []; code = 0 ∷ 0 ∷ [] }

unfoldable pub not_found : ℕ → LookedUp
not_found n = record { refusal = n; bucket = 0; profile = no_profile; day = 0 }

-- RULES 10.2: the bucket, the profile and the day
unfoldable pub look_up_reply : Table → ℕ → LookedUp
look_up_reply t tag =
    elim (look_up_refusal t tag) [
      | suc n ↦ not_found (suc n)
      | zero ↦
          elim (find t tag) [
            | some place ↦ record { refusal = 0; bucket = place.bucket; profile = profile_of place.row; day = day_of place.row }
            | none ↦ not_found not_live
          ]
    ]
