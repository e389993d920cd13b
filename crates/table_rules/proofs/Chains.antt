-- Refusals as chains of tests: the first that stops is the refusal, and where the refusal is 0 every test passes. By the test's cases.
use Prim.Native.Nat.{ℕ, zero, suc, ◌<◌}
use native.Mathlib.Omega.{arith}
use mathlib.Core.Path.{◌≡◌, refl}
use mathlib.Core.Bool.{Bool, true, false}
use Rattle.table_rules.specs.Refusals.{unless, when, or_else}

pub stops_first : (n rest : ℕ) → (n ≡ 0 → ⊥) → or_else n rest ≡ n
stops_first zero rest some = absurd (some refl)
stops_first (suc n) rest some = refl

pub or_zero : (n rest : ℕ) → or_else n rest ≡ 0 → (n ≡ 0) × (rest ≡ 0)
or_zero zero rest e = (refl, e)
or_zero (suc n) rest e = absurd (omega arith)

pub unless_zero : (b : Bool) (n rest : ℕ) → 0 < n → unless b n rest ≡ 0 → (b ≡ true) × (rest ≡ 0)
unless_zero true n rest some e = (refl, e)
unless_zero false n rest some e = absurd (omega arith)

pub when_zero : (b : Bool) (n rest : ℕ) → 0 < n → when b n rest ≡ 0 → (b ≡ false) × (rest ≡ 0)
when_zero true n rest some e = absurd (omega arith)
when_zero false n rest some e = (refl, e)

-- a number that no test of the chain has is not its refusal
pub or_not : (n rest m : ℕ) → (n ≡ m → ⊥) → (rest ≡ m → ⊥) → or_else n rest ≡ m → ⊥
or_not zero rest m first after e = after e
or_not (suc n) rest m first after e = first e

pub unless_not : (b : Bool) (n rest m : ℕ) → (b ≡ false → n ≡ m → ⊥) → (rest ≡ m → ⊥) → unless b n rest ≡ m → ⊥
unless_not true n rest m here after e = after e
unless_not false n rest m here after e = here refl e
