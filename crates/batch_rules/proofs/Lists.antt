-- The lists in the parts of an area: where every part holds its list, the area is as long as it was, and each part starts with its list.
-- By the answers, one part after the other.
use Prim.Native.Nat.{ℕ, ◌-◌, ◌*◌, ◌≤◌}
use mathlib.Core.Path.{◌≡◌, ap, ◌∙◌}
use mathlib.Core.List.{List, [], ◌∷◌, ◌++◌, append_assoc}
use lib.ListN.{length, take, drop, replicate, length-append, length-replicate}
use lib.Seq.{take-append_seam, drop_at}
use native.Mathlib.Nat.{suc-mul}
use native.Mathlib.Omega.{arith}
use Rattle.lists.specs.Lists.{All}
use Rattle.search_rules.specs.Range.{Entry}
use Rattle.table_rules.specs.Search.{Answer, zero_entry}
use Rattle.batch_rules.specs.Batch.{part_with, parts_with, result_after_parts}

module _ (size : ℕ) where
  pub part_length : (a : Answer) → length a.entries ≤ size → length (part_with size a) ≡ size
  unfolding part_with
  part_length a h = omega (arith, length-append a.entries (replicate (size - length a.entries) zero_entry), length-replicate (size - length a.entries) zero_entry)

  pub parts_length : (answers : List Answer) → All (λ a. length a.entries ≤ size) answers → length (parts_with size answers) ≡ length answers * size
  unfolding parts_with
  parts_length [] fit = omega arith
  parts_length (a ∷ answers) fit =
      omega (arith, length-append (part_with size a) (parts_with size answers), part_length a fit.0, parts_length answers fit.1, suc-mul (length answers) size)

  -- the area after an accepted call is as long as it was
  pub result_length : (area : List Entry) (answers : List Answer) → All (λ a. length a.entries ≤ size) answers → length answers * size ≤ length area → length (result_after_parts 0 area size answers) ≡ length area
  unfolding result_after_parts
  result_length area answers fit room =
      omega (arith, length-append (parts_with size answers) (replicate (length area - length answers * size) zero_entry), parts_length answers fit, length-replicate (length area - length answers * size) zero_entry)

  -- a part starts with its list, and the next part follows
  pub part_first : (a : Answer) (behind : List Entry) → take (length a.entries) (part_with size a ++ behind) ≡ a.entries
  unfolding part_with
  part_first a behind =
      ap (take (length a.entries)) (append_assoc a.entries (replicate (size - length a.entries) zero_entry) behind)
      ∙ take-append_seam a.entries (replicate (size - length a.entries) zero_entry ++ behind)

  pub part_behind : (a : Answer) (behind : List Entry) → length a.entries ≤ size → drop size (part_with size a ++ behind) ≡ behind
  part_behind a behind h = drop_at (part_with size a) behind size (part_length a h)
