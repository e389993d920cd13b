-- Figures of the model's own (RULES 2.2, 2.4, 20.2 to 20.4, 21.5): which tags and measures are valid, what a weight
-- pays and what is asked of it, and the largest of some sizes. No definition of a call is cited.
use Rattle.std.specs.Prelude.{ℕ, ◌+◌, ◌*◌, ◌/◌, ◌%◌, max, Bool, true, false, ◌&&◌, List, [], ◌∷◌, ℤ, pos, negsuc, leb, ltb}
use Rattle.std.proofs.Math.Option.{Option, none, some}
use Rattle.lists.specs.Lists.{every}
use Rattle.metric_rules.specs.declared.Profile.{Profile}

-- RULES 2.1, 2.2: a tag is country × 10^12 + national, the country 1 to 999, the national at most 274,877,906,943
unfoldable pub tag_sound : ℕ → Bool
tag_sound tag =
    leb 1 (tag / 1_000_000_000_000)
    && leb (tag / 1_000_000_000_000) 999
    && leb (tag % 1_000_000_000_000) 274_877_906_943

-- RULES 2.4: each measure is from -1,000,000 to 1,000,000; `negsuc n` is -(n + 1)
unfoldable pub measure_within : ℤ → Bool
measure_within (pos n) = leb n 1_000_000
measure_within (negsuc n) = ltb n 1_000_000

unfoldable pub measures_within : Profile → Bool
measures_within p = every measure_within p.measures

-- RULES 20.2, cents a kilo by the weight in hundredths of a kilo: 2 below 400.00 kg, 3 below 600.00 kg, 4 from there on
unfoldable pub cents_aKilo : ℕ → ℕ
cents_aKilo weight =
    elim (ltb weight 40_000) [
      | true ↦ 2
      | false ↦ elim (ltb weight 60_000) [ true ↦ 3 | false ↦ 4 ]
    ]

-- RULES 20.3: hundredths of a cent in cents: the whole cents, and one more where 50 or more hundredths are left over
unfoldable pub in_cents : ℕ → ℕ
in_cents hundredths = hundredths / 100 + elim (leb 50 (hundredths % 100)) [ true ↦ 1 | false ↦ 0 ]

-- RULES 20.4, of what a listed tag's item weighs: there is no such item; it weighs below 0; and what it pays
unfoldable pub is_missing : Option ℤ → Bool
is_missing none = true
is_missing (some weight) = false

unfoldable pub is_below_zero : Option ℤ → Bool
is_below_zero none = false
is_below_zero (some (pos weight)) = false
is_below_zero (some (negsuc weight)) = true

unfoldable pub pays_for : Option ℤ → ℕ
pays_for none = 0
pays_for (some (pos weight)) = in_cents (weight * cents_aKilo weight)
pays_for (some (negsuc weight)) = 0

-- RULES 21.5: the largest of some sizes, 0 where there is none
unfoldable pub greatest : List ℕ → ℕ
greatest [] = 0
greatest (n ∷ ns) = max n (greatest ns)
