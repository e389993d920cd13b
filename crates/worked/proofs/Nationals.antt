-- RULES 2.2's edge: national 274,877,906,943 is accepted and 274,877,906,944 refused, by add, look up, remove and load, at countries 1, 36 and 999; a lent
-- table that has the second one live answers searches with it. Each is a run that antt computes.
use Prim.Native.Nat.{ℕ, ◌+◌, ◌*◌}
use mathlib.Core.Path.{◌≡◌, refl}
use mathlib.Core.List.{List, [], ◌∷◌, map}
use lib.ListN.{set}
use Rattle.metric_rules.specs.Row.{row_of}
use Rattle.metric_rules.specs.Validity.{nationals}
use Rattle.table_rules.specs.Geometry.{first_slot}
use Rattle.table_rules.specs.Table.{Table}
use Rattle.image_rules.specs.Write.{image_of}
use Rattle.worked.proofs.Running.{fresh, load, add, remove, look_up, range, nearest, by, tag, valued, scratch, replies, after}

countries : List ℕ
countries = 1 ∷ 36 ∷ 999 ∷ []

last : ℕ → ℕ
unfolding nationals
last country = country * nationals + 274_877_906_943

past : ℕ → ℕ
unfolding nationals
past country = country * nationals + 274_877_906_944

-- a table of order 0 with this tag live, whoever made it; its image is sound but for the tag
holding : ℕ → Table
unfolding after scratch tag valued row_of first_slot
holding t = set (after scratch (fresh 0 (by 0) ∷ add (tag 1) (valued 1) 1 ∷ [])) (first_slot 0 0) (row_of t (valued 1) 0 0 1)

-- a tag added to an empty table, looked up and removed; and loaded
asked : ℕ → List (List ℕ)
unfolding replies after scratch valued image_of holding
asked t =
    replies (after scratch (fresh 0 (by 0) ∷ [])) (add t (valued 1) 1 ∷ look_up t ∷ remove t ∷ load (image_of (holding t)) ∷ [])

accepted : map (λ c. asked (last c)) countries ≡ map (λ c. (0 ∷ 0 ∷ 0 ∷ []) ∷ (0 ∷ 0 ∷ 1 ∷ []) ∷ (0 ∷ 0 ∷ []) ∷ (0 ∷ 0 ∷ []) ∷ []) countries
unfolding countries asked last
accepted = refl

refused : map (λ c. asked (past c)) countries ≡ map (λ c. (1 ∷ 0 ∷ 0 ∷ []) ∷ (1 ∷ 0 ∷ 0 ∷ []) ∷ (1 ∷ 0 ∷ []) ∷ (8 ∷ 0 ∷ []) ∷ []) countries
unfolding countries asked past
refused = refl

-- searches do not ask, and the calls that take a tag say 1
foreign :
    replies (holding (past 36)) (range (valued 1) 0 0 ∷ nearest (valued 1) 1 0 ∷ remove (past 36) ∷ look_up (past 36) ∷ [])
    ≡ (0 ∷ 1 ∷ 1 ∷ past 36 ∷ 0 ∷ []) ∷ (0 ∷ 1 ∷ 1 ∷ past 36 ∷ 0 ∷ []) ∷ (1 ∷ 0 ∷ []) ∷ (1 ∷ 0 ∷ 0 ∷ []) ∷ []
unfolding replies holding valued past
foreign = refl
