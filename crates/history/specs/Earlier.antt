-- What two requests started from, kept to say what they changed: the removal before W9, which changed nothing of it,
-- and the board before W13.
use Rattle.std.specs.Prelude.{ℕ, ◌-◌, ◌*◌, true, false, List, [], ◌∷◌, ltb, eqb}
use Rattle.std.proofs.Math.Option.{none, some}
use Rattle.table_rules.specs.Geometry.{room}
use Rattle.table_rules.specs.Table.{Table, live_of, in_use, emptied}
use Rattle.table_rules.specs.Rebuild.{Rebuilt}
use Rattle.table_rules.specs.LookUp.{find}
use Rattle.table_rules.specs.Remove.{marked, united}
use Rattle.dues_rules.specs.Board.{Band, band}

-- bucket k has 2^(k-2) live, k ≥ 2: with k - 1 in use the two unite, in k if k - 1 had more than 2^(k-2) live, else in
-- k - 1; else with k - 2 in use those two, in k - 1; else bucket k alone, in k - 2
unfoldable pub earlier_rebuilt : Table → ℕ → Rebuilt
earlier_rebuilt t k =
    elim (in_use t (k - 1)) [
      | true ↦ united t (k ∷ (k - 1) ∷ []) (elim (ltb (room (k - 2)) (live_of t (k - 1))) [ true ↦ k | false ↦ k - 1 ])
      | false ↦ elim (in_use t (k - 2)) [
        | true ↦ united t (k ∷ (k - 2) ∷ []) (k - 1)
        | false ↦ united t (k ∷ []) (k - 2)
      ]
    ]

-- after the marking: no live item empties the bucket, enough of them is the end
unfoldable pub earlier_after_mark : Table → ℕ → Rebuilt
earlier_after_mark t k =
    elim (eqb (live_of t k) 0) [
      | true ↦ record { table = emptied (k ∷ []) t; distances = 0 }
      | false ↦ elim (ltb (room k) (4 * live_of t k)) [
        | true ↦ record { table = t; distances = 0 }
        | false ↦ earlier_rebuilt t k
      ]
    ]

-- the live item with the tag is marked dead, and its bucket settled
unfoldable pub earlier_removed : Table → ℕ → Rebuilt
earlier_removed t tag =
    elim (find t tag) [
      | some place ↦ earlier_after_mark (marked t place) place.bucket
      | none ↦ record { table = t; distances = 0 }
    ]

-- the board with the lighter bands first, so that a weight in two bands pays by the lighter
unfoldable pub earlier_board : List Band
earlier_board =
    band 0 (some 40_000) 2
    ∷ band 40_000 (some 60_000) 3
    ∷ band 60_000 none 4
    ∷ []
