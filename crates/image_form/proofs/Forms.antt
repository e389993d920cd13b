-- Which numbers are forms, and bounds of the lengths, so that sums of them fit: whoever asks for a form or adds up its
-- lengths goes by these.
use Prim.Native.Nat.{ℕ, zero, suc, ◌+◌, ◌*◌, ◌≤◌, ◌<◌}
use native.Mathlib.Omega.{arith}
use native.Mathlib.Nat.{add-mul, mul-le-mul_right, lt_of_not-le}
use native.Mathlib.Decide.{dec_le}
use mathlib.Core.Path.{◌≡◌, refl, sym, ap}
use mathlib.Core.Bool.{Bool, true, false}
use borrow.Author.Tests.{le-leb, lt-leb}
use Rattle.lists.specs.Lists.{total}
use Rattle.table_rules.specs.Refusals.{bad_image, unless}
use Rattle.image_rules.specs.Bytes.{last_form, valid_form, start_fields, weight_fields, header_fields, day_fields, record_fields, header_bytes, tag_bytes, record_bytes}
use Rattle.image_rules.specs.Bytes.{sizes_end, image_length}
use Rattle.image_form.specs.Numbers.{form_refusal}

passed_when : (b : Bool) → 0 ≡ unless b bad_image 0 → b ≡ true
passed_when true e = refl
passed_when false e = absurd (omega arith)

refused_when : (b : Bool) {m : ℕ} → 0 < m → m ≡ unless b bad_image 0 → b ≡ false
refused_when false h e = refl
refused_when true h e = absurd (omega arith)

-- a number that is not refused is a form, and one that is refused is none
pub is_form : (n : ℕ) → 0 ≡ form_refusal n → valid_form n ≡ true
is_form n e = passed_when (valid_form n) e

pub no_form : (n : ℕ) {m : ℕ} → 0 < m → m ≡ form_refusal n → valid_form n ≡ false
no_form n h e = refused_when (valid_form n) h e

-- a number up to the last form is one, and a number above it is refused
pub form_passes : (n : ℕ) → n ≤ 2 → 0 ≡ form_refusal n
unfolding valid_form last_form
form_passes n h = sym (ap (λ (b : Bool). unless b bad_image 0) (le-leb n 2 h))

pub form_refused : (n : ℕ) → 2 < n → bad_image ≡ form_refusal n
unfolding valid_form last_form
form_refused n h = sym (ap (λ (b : Bool). unless b bad_image 0) (lt-leb n 2 h))

-- the header of form 0, and of any later one
pub header_first : (form : ℕ) → form ≡ 0 → header_bytes form ≡ 4
unfolding header_bytes header_fields start_fields weight_fields total
header_first form e = ap header_bytes e

pub header_later : (form : ℕ) → (form ≡ 0 → ⊥) → header_bytes form ≡ 8
unfolding header_bytes header_fields start_fields weight_fields total
header_later zero later = absurd (later refl)
header_later (suc form) later = refl

-- a record of a form before the days, and of one with them
pub record_before : (form : ℕ) → form < 2 → record_bytes form ≡ 40
unfolding record_bytes record_fields day_fields total
record_before zero h = refl
record_before (suc zero) h = refl
record_before (suc (suc form)) h = absurd (omega arith)

pub record_since : (form : ℕ) → 2 ≤ form → record_bytes form ≡ 42
unfolding record_bytes record_fields day_fields total
record_since zero h = absurd (omega arith)
record_since (suc zero) h = absurd (omega arith)
record_since (suc (suc form)) h = refl

-- a header and a record are short
pub header_most : (form : ℕ) → header_bytes form ≤ 64
unfolding header_bytes header_fields start_fields weight_fields total
header_most zero = omega arith
header_most (suc form) = omega arith

record_most : (form : ℕ) → record_bytes form ≤ 64
record_most form = elim (dec_le 2 form) [ yes h ↦ omega (arith, record_since form h) | no h ↦ omega (arith, record_before form (lt_of_not-le h)) ]

pub records_most : (form n : ℕ) → record_bytes form * n ≤ 64 * n
records_most form n = mul-le-mul_right n (record_most form)

-- an image ends behind the records of its slots, which stand behind their tags
pub length_by_parts : (form order n : ℕ) → image_length form order n ≡ sizes_end form order + tag_bytes * n + record_bytes form * n
unfolding image_length
length_by_parts form order n = omega (arith, add-mul tag_bytes (record_bytes form) n)
