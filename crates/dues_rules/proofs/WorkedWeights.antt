-- Worked by hand: what a weight pays about half a cent, at the ends of each band and beside them, and at the largest.
use Prim.Native.Nat.{ℕ, ◌-◌, ◌^◌}
use mathlib.Core.Path.{◌≡◌, refl}
use mathlib.Core.List.{List, [], ◌∷◌, map}
use Rattle.dues_rules.specs.Board.{board, within, rate_by, dues_at, dues_by}

-- 0.00, 0.24 and 0.25 kg; 399.99, 400.00 and 400.01 kg; 599.99, 600.00 and 600.01 kg; the largest measure of 32 bits
weights : List ℕ
weights = 0 ∷ 24 ∷ 25 ∷ 39_999 ∷ 40_000 ∷ 40_001 ∷ 59_999 ∷ 60_000 ∷ 60_001 ∷ (2 ^ 31 - 1) ∷ []

-- RULES 20.2, 20.3
paid : map (dues_by board) weights ≡ 0 ∷ 0 ∷ 1 ∷ 800 ∷ 1_200 ∷ 1_200 ∷ 1_800 ∷ 2_400 ∷ 2_400 ∷ 85_899_346 ∷ []
unfolding weights board within rate_by dues_at dues_by
paid = refl
