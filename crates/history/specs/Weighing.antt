-- RULES 3 in plain arithmetic: what two profiles are apart by each metric, from their numbers, and by none of the
-- definitions that the distances are made of.
use Rattle.std.specs.Prelude.{ℕ, suc, ◌+◌, ◌*◌, ◌^◌, ◌<◌, min, max, ◌≡◌, ◌⊎◌, [], ◌∷◌, ℤ, pos, ◌+ℤ◌, get_or, set}
use Rattle.metric_rules.specs.declared.Profile.{Profile}
use Rattle.metric_rules.specs.declared.Space.{Space}
use Rattle.metric_rules.specs.Distance.{distance}
use Rattle.history.specs.Counter.{bit}

-- one of two numbers is e more than the other
abbrev pub Apart : ℤ → ℤ → ℕ → Type 0
Apart a b e = (a ≡ b +ℤ pos e) ⊎ (b ≡ a +ℤ pos e)

-- RULES 3.2, 3.7: a figure above 4,294,967,295 is taken as that
abbrev pub cut : ℕ → ℕ
cut n = min n 4_294_967_295

-- a profile and a table's metric and weights, by their numbers
abbrev pub profile : ℤ → ℤ → ℤ → ℤ → ℕ → ℕ → Profile
profile a b c d first second = record { measures = a ∷ b ∷ c ∷ d ∷ []; code = first ∷ second ∷ [] }

abbrev pub space : ℕ → ℕ → ℕ → ℕ → ℕ → Space
space metric u v w x = record { metric = metric; weights = record { each = u ∷ v ∷ w ∷ x ∷ [] } }

-- RULES 3.2, 3.4, 3.7, weights u, v, w, x and measures that are e, f, g, h apart: by metric 0 it is the four
-- products, each cut, added up and cut; by metric 2 it is the largest of the four
abbrev pub Weighs : ℕ → ℕ → ℕ → ℕ → Profile → Profile → ℕ → ℕ → ℕ → ℕ → Type 0
Weighs u v w x p q e f g h =
    (distance (space 0 u v w x) p q ≡ cut (cut (u * e) + cut (v * f) + cut (w * g) + cut (x * h)))
    × (distance (space 2 u v w x) p q ≡ max (max (cut (u * e)) (cut (v * f))) (max (cut (w * g)) (cut (x * h))))

-- a profile with another measure i, and measure i weighed alone by its weight
abbrev pub remeasured : Profile → ℕ → ℤ → Profile
remeasured p i b = record { measures = set p.measures i b; code = p.code }

abbrev pub WeighsAlone : ℕ → ℕ → ℕ → ℕ → Profile → ℕ → Type 0
WeighsAlone u v w x p i =
    (b : ℤ) (e : ℕ) → Apart (get_or p.measures i (pos 0)) b e
    → (distance (space 0 u v w x) p (remeasured p i b) ≡ cut (get_or (u ∷ v ∷ w ∷ x ∷ []) i 0 * e))
    × (distance (space 2 u v w x) p (remeasured p i b) ≡ cut (get_or (u ∷ v ∷ w ∷ x ∷ []) i 0 * e))

-- m is n with bit j, which is 0 in the one and 1 in the other, flipped
abbrev pub Flipped : ℕ → ℕ → ℕ → Type 0
Flipped j n m = ((bit j n ≡ 0) × (m ≡ n + 2 ^ j)) ⊎ ((bit j m ≡ 0) × (n ≡ m + 2 ^ j))

-- RULES 3.3, between codes of two words of 64 bits: 0 where they are the same; one more where a bit of either word
-- that was the same in both is flipped in one of them; so 1 where they are the same but for one bit
pub record CountsBits (between : ℕ → ℕ → ℕ → ℕ → ℕ) : Type 0 where
  pub none : (a a' : ℕ) → between a a' a a' ≡ 0
  pub first :
      (j a a' b b' c : ℕ) → j < 64 → bit j a ≡ bit j b → Flipped j b c
      → between a a' c b' ≡ suc (between a a' b b')
  pub second :
      (j a a' b b' c : ℕ) → j < 64 → bit j a' ≡ bit j b' → Flipped j b' c
      → between a a' b c ≡ suc (between a a' b b')
  pub first_alone : (j a a' c : ℕ) → j < 64 → Flipped j a c → between a a' c a' ≡ 1
  pub second_alone : (j a a' c : ℕ) → j < 64 → Flipped j a' c → between a a' a c ≡ 1
