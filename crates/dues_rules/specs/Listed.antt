-- RULES 20.4 to 20.6, the dues of a list of tags: the refusals, the reply, and the dues area after the call.
use Rattle.std.specs.Prelude.{ℕ, zero, suc, Bool, true, false, ◌&&◌, List, map, ◌++◌, ℤ, pos, negsuc, length, drop, leb}
use Rattle.std.proofs.Math.Option.{Option, none, some}
use Rattle.lists.specs.Lists.{every, total}
use Rattle.metric_rules.specs.Row.{measure, profile_of}
use Rattle.table_rules.specs.Refusals.{no_room, not_live, unless, or_else}
use Rattle.table_rules.specs.Table.{Table}
use Rattle.table_rules.specs.Checks.{read_refusal}
use Rattle.table_rules.specs.LookUp.{find}
use Rattle.dues_rules.specs.declared.Dues.{Dues}
use Rattle.dues_rules.specs.Board.{board, dues_by}

-- RULES 14.1: a weight below 0, or more tags than a list may have
abbrev pub no_dues : ℕ
no_dues = 39

-- RULES 20.6: the most tags of a list
abbrev pub most_listed : ℕ
most_listed = 4096

-- RULES 20.1, 20.4: what a listed tag's live item weighs, its first measure; none where no item is live by that tag
unfoldable pub weight_at : Table → ℕ → Option ℤ
weight_at t tag = elim (find t tag) [ some place ↦ some (measure (profile_of place.row) 0) | none ↦ none ]

-- of a weight found: that there is one, that it is not below 0, and what it pays
unfoldable pub is_found : Option ℤ → Bool
is_found (some weight) = true
is_found none = false

unfoldable pub is_weight : Option ℤ → Bool
is_weight (some (pos weight)) = true
is_weight (some (negsuc weight)) = false
is_weight none = false

unfoldable pub pays : Option ℤ → ℕ
pays (some (pos weight)) = dues_by board weight
pays (some (negsuc weight)) = 0
pays none = 0

-- RULES 20.6, of the weights found for a list, in an area of so many numbers: 21, 39, 6, each over the whole list
-- before the next
unfoldable pub weights_refusal : List (Option ℤ) → ℕ → ℕ
weights_refusal weights area =
    unless (every is_found weights) not_live
    (unless (leb (length weights) most_listed && every is_weight weights) no_dues
    (unless (leb (length weights) area) no_room
    0))

-- the weights found for a list of tags, and what each pays: a tag that is listed twice pays twice
abbrev pub weights_at : Table → List ℕ → List (Option ℤ)
weights_at t tags = map (weight_at t) tags

abbrev pub dues_of : List (Option ℤ) → List ℕ
dues_of weights = map pays weights

-- RULES 20.5: the total is the sum of what was rounded
unfoldable pub total_of : List (Option ℤ) → ℕ
total_of weights = total (dues_of weights)

-- RULES 20.5, 20.6: the reply and the dues area by the refusal, of the weights found for a list. The dues stand in the
-- order of the list, and what is past them is kept; a refusal replies zeros and leaves the area as it was
unfoldable pub weights_reply : ℕ → List (Option ℤ) → Dues
weights_reply zero weights = record { refusal = 0; total = total_of weights }
weights_reply (suc n) weights = record { refusal = suc n; total = 0 }

unfoldable pub area_after : ℕ → List (Option ℤ) → List ℕ → List ℕ
area_after zero weights area = dues_of weights ++ drop (length weights) area
area_after (suc n) weights area = area

-- RULES 14.4: 23 and 24, then the list's
unfoldable pub dues_refusal : Table → List ℕ → List ℕ → ℕ
dues_refusal t tags area =
    or_else (read_refusal t)
    (weights_refusal (weights_at t tags) (length area))

unfoldable pub dues_reply : Table → List ℕ → List ℕ → Dues
dues_reply t tags area = weights_reply (dues_refusal t tags area) (weights_at t tags)

unfoldable pub dues_after : Table → List ℕ → List ℕ → List ℕ
dues_after t tags area = area_after (dues_refusal t tags area) (weights_at t tags) area
