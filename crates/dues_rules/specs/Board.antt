-- RULES 20.1 to 20.3: the board at the gate, and what a weight pays by it. Weights are in hundredths of a kilo, rates
-- in cents a kilo.
use Rattle.std.specs.Prelude.{ℕ, ◌+◌, ◌*◌, ◌/◌, Bool, true, false, ◌&&◌, List, [], ◌∷◌, leb}
use Rattle.std.proofs.Math.Option.{Option, none, some}

-- RULES 20.2, a band of the board: the least and the most weight within it, or no most, and its rate
pub record Band : Type 0 where
  pub least : ℕ
  pub most : Option ℕ
  pub rate : ℕ

abbrev pub band : ℕ → Option ℕ → ℕ → Band
band least most rate = record { least = least; most = most; rate = rate }

-- RULES 20.2: the board. Where two bands meet the weight is within both, and the one that stands first applies
unfoldable pub board : List Band
board =
    band 60_000 none 4
    ∷ band 40_000 (some 60_000) 3
    ∷ band 0 (some 40_000) 2
    ∷ []

unfoldable pub within : Band → ℕ → Bool
within b weight = leb b.least weight && elim b.most [ some most ↦ leb weight most | none ↦ true ]

-- RULES 20.2: the rate of the first band that a weight is within. Every weight is within one of the board's
unfoldable pub rate_by : List Band → ℕ → ℕ
rate_by [] weight = 0
rate_by (b ∷ bs) weight = elim (within b weight) [ true ↦ b.rate | false ↦ rate_by bs weight ]

-- RULES 20.3: one rate on the whole weight, to the nearest cent, half up
unfoldable pub dues_at : ℕ → ℕ → ℕ
dues_at rate weight = (weight * rate + 50) / 100

unfoldable pub dues_by : List Band → ℕ → ℕ
dues_by bands weight = dues_at (rate_by bands weight) weight
