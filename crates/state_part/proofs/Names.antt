-- Which numbers are names: whoever asks for a name goes by these.
use Rattle.std.proofs.Common.{◌≡◌, ℕ, ◌≤◌, ◌<◌, Bool, true, false, ◌⊎◌, refl, sym, ap, ◌∙◌, inl, inr, arith}
use Rattle.table_rules.specs.Refusals.{unless}
use Rattle.state_rules.specs.Parts.{bad_name, valid_name}
use Rattle.state_rules.proofs.Parts.{name_valid, name_below, name_above}
use Rattle.state_part.specs.Numbers.{number_refusal}

passed_when : (b : Bool) → 0 ≡ unless b bad_name 0 → b ≡ true
passed_when true e = refl
passed_when false e = absurd (omega arith)

refused_when : (b : Bool) {m : ℕ} → 0 < m → m ≡ unless b bad_name 0 → b ≡ false
refused_when false h e = refl
refused_when true h e = absurd (omega arith)

-- a number that is not refused is a name, and one that is refused is none
pub is_name : (n : ℕ) → 0 ≡ number_refusal n → valid_name n ≡ true
is_name n e = passed_when (valid_name n) e

pub no_name : (n : ℕ) {m : ℕ} → 0 < m → m ≡ number_refusal n → valid_name n ≡ false
no_name n h e = refused_when (valid_name n) h e

-- a number from 1 to 8 is a name, and any other is refused
pub name_is : (n : ℕ) → 1 ≤ n → n ≤ 8 → valid_name n ≡ true
name_is n l h = name_valid n l h

pub name_passes : (n : ℕ) → 1 ≤ n → n ≤ 8 → 0 ≡ number_refusal n
name_passes n l h = sym (ap (λ (b : Bool). unless b bad_name 0) (name_valid n l h))

pub name_refused : (n : ℕ) → (n < 1) ⊎ (8 < n) → bad_name ≡ number_refusal n
name_refused n (inl h) = sym (ap (λ (b : Bool). unless b bad_name 0) (name_below n h))
name_refused n (inr h) = sym (ap (λ (b : Bool). unless b bad_name 0) (name_above n h))
