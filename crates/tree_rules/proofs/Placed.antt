-- A slot as a build leaves it, `placed m row`: which fields it keeps, and that only the last threshold written counts.
-- Its two words stand apart from each other and from the tag and the profile.
use Prim.Native.Nat.{ℕ}
use native.Mathlib.Omega.{arith}
use mathlib.Core.Path.{◌≡◌, ◌∙◌, ap}
use lib.ListN.{length, set}
use lib.Seq.{set-set, set_comm, set-get_or}
use Rattle.metric_rules.specs.Row.{Row, row_width, threshold_at, mark_at, tag_of, profile_of, threshold_of, with_threshold, with_mark}
use Rattle.metric_rules.proofs.Codec.{threshold_with_threshold, tag_with_threshold, profile_with_threshold, threshold_with_mark, tag_with_mark}
use Rattle.metric_rules.proofs.Codec.{profile_with_mark}
use Rattle.tree_rules.specs.Layout.{placed}

module _ (m : ℕ) (row : Row) where
  pub tag_placed : tag_of (placed m row) ≡ tag_of row
  unfolding placed
  tag_placed = tag_with_mark (with_threshold m row) 0 ∙ tag_with_threshold row m

  pub profile_placed : profile_of (placed m row) ≡ profile_of row
  unfolding placed
  profile_placed = profile_with_mark (with_threshold m row) 0 ∙ profile_with_threshold row m

  pub threshold_placed : length row ≡ row_width → threshold_of (placed m row) ≡ m
  unfolding placed
  threshold_placed e = threshold_with_mark (with_threshold m row) 0 ∙ threshold_with_threshold row m e

  -- a threshold and a mark written before do not count
  pub placed_with_threshold : (n : ℕ) → placed m (with_threshold n row) ≡ placed m row
  unfolding placed with_threshold
  placed_with_threshold n = ap (with_mark 0) (set-set row threshold_at n m)

  pub placed_with_mark : (n : ℕ) → placed m (with_mark n row) ≡ placed m row
  unfolding placed with_threshold with_mark threshold_at mark_at
  placed_with_mark n = ap (λ (r : Row). set r mark_at 0) (set_comm row mark_at threshold_at n m (omega arith)) ∙ set-set (set row threshold_at m) mark_at n 0

module _ (row : Row) where
  pub placed_again : (m n : ℕ) → placed m (placed n row) ≡ placed m row
  unfolding placed
  placed_again m n = placed_with_mark m (with_threshold n row) 0 ∙ placed_with_threshold m row n

  -- a row at its own threshold is kept but for its mark
  pub placed_own : placed (threshold_of row) row ≡ with_mark 0 row
  unfolding placed with_threshold threshold_of
  placed_own = ap (with_mark 0) (set-get_or row threshold_at 0)
