-- RULES 18.8: the definitions, computed by antt, print the example's output for its input.
use Prim.Native.Nat.{ℕ}
use mathlib.Core.Path.{◌≡◌, refl}
use mathlib.Core.List.{List, [], ◌∷◌}
use lib.ListN.{replicate}
use Rattle.metric_rules.specs.Row.{row_width}
use Rattle.yard_rules.specs.Conversation.{Areas}
use Rattle.yard_rules.proofs.Computing.{computed}

-- areas for order 2 that hold other content before
unfoldable pub scratch : Areas
scratch = record { table = replicate 11 (replicate row_width 6); work = replicate 4 (replicate row_width 7); result = replicate 4 (8 ∷ 8 ∷ []) }

input : List ℕ
input =
    -- 2 0
    50 ∷ 32 ∷ 48 ∷ 10 ∷
    -- A 036000000000001 0.10 0.00 0.00 0.00 -
    65 ∷ 32 ∷ 48 ∷ 51 ∷ 54 ∷ 48 ∷ 48 ∷ 48 ∷ 48 ∷ 48 ∷ 48 ∷ 48 ∷ 48 ∷ 48 ∷ 48 ∷ 48 ∷ 49 ∷ 32 ∷ 48 ∷ 46 ∷ 49 ∷ 48 ∷ 32 ∷ 48 ∷ 46 ∷ 48 ∷ 48 ∷ 32 ∷ 48 ∷ 46 ∷ 48 ∷ 48 ∷ 32 ∷ 48 ∷ 46 ∷ 48 ∷ 48 ∷ 32 ∷ 45 ∷ 10 ∷
    -- A 036000000000002 -0.03 0.00 0.00 0.00 -
    65 ∷ 32 ∷ 48 ∷ 51 ∷ 54 ∷ 48 ∷ 48 ∷ 48 ∷ 48 ∷ 48 ∷ 48 ∷ 48 ∷ 48 ∷ 48 ∷ 48 ∷ 48 ∷ 50 ∷ 32 ∷ 45 ∷ 48 ∷ 46 ∷ 48 ∷ 51 ∷ 32 ∷ 48 ∷ 46 ∷ 48 ∷ 48 ∷ 32 ∷ 48 ∷ 46 ∷ 48 ∷ 48 ∷ 32 ∷ 48 ∷ 46 ∷ 48 ∷ 48 ∷ 32 ∷ 45 ∷ 10 ∷
    -- W 13 0.00 0.00 0.00 0.00 -
    87 ∷ 32 ∷ 49 ∷ 51 ∷ 32 ∷ 48 ∷ 46 ∷ 48 ∷ 48 ∷ 32 ∷ 48 ∷ 46 ∷ 48 ∷ 48 ∷ 32 ∷ 48 ∷ 46 ∷ 48 ∷ 48 ∷ 32 ∷ 48 ∷ 46 ∷ 48 ∷ 48 ∷ 32 ∷ 45 ∷ 10 ∷
    -- R 036000000000003
    82 ∷ 32 ∷ 48 ∷ 51 ∷ 54 ∷ 48 ∷ 48 ∷ 48 ∷ 48 ∷ 48 ∷ 48 ∷ 48 ∷ 48 ∷ 48 ∷ 48 ∷ 48 ∷ 51 ∷ 10 ∷
    []

output : List ℕ
output =
    -- A 0 0 0
    65 ∷ 32 ∷ 48 ∷ 32 ∷ 48 ∷ 32 ∷ 48 ∷ 10 ∷
    -- A 0 1 1
    65 ∷ 32 ∷ 48 ∷ 32 ∷ 49 ∷ 32 ∷ 49 ∷ 10 ∷
    -- W 0 2 2
    87 ∷ 32 ∷ 48 ∷ 32 ∷ 50 ∷ 32 ∷ 50 ∷ 10 ∷
    -- 036000000000002 3
    48 ∷ 51 ∷ 54 ∷ 48 ∷ 48 ∷ 48 ∷ 48 ∷ 48 ∷ 48 ∷ 48 ∷ 48 ∷ 48 ∷ 48 ∷ 48 ∷ 50 ∷ 32 ∷ 51 ∷ 10 ∷
    -- 036000000000001 10
    48 ∷ 51 ∷ 54 ∷ 48 ∷ 48 ∷ 48 ∷ 48 ∷ 48 ∷ 48 ∷ 48 ∷ 48 ∷ 48 ∷ 48 ∷ 48 ∷ 49 ∷ 32 ∷ 49 ∷ 48 ∷ 10 ∷
    -- R 21
    82 ∷ 32 ∷ 50 ∷ 49 ∷ 10 ∷
    []

whole_example : computed scratch input ≡ output
unfolding computed scratch input output
whole_example = refl
