-- What an order's answer says of the number asked for, and the room of a bucket as a shift: whoever goes by an order's
-- answer goes by these.
use Prim.Native.Nat.{ℕ, ◌*◌, ◌%◌, ◌^◌, ◌≤◌, ◌<◌}
use native.Mathlib.Omega.{arith}
use native.Mathlib.Nat.{one-mul}
use mathlib.Core.Path.{◌≡◌, refl, sym, ◌∙◌, ap}
use mathlib.Core.Bool.{Bool, true, false}
use lib.Dec.{lit<}
use lib.Pow.{shl_exact, pow-lt}
use Rattle.table_rules.specs.Refusals.{bad_order, unless}
use Rattle.table_rules.specs.Geometry.{valid_order, room}
use Rattle.table_rules.proofs.Buckets.{order_valid, order_above, order_most}
use Rattle.table_order.specs.Numbers.{order_refusal}

passed_when : (b : Bool) → 0 ≡ unless b bad_order 0 → b ≡ true
passed_when true e = refl
passed_when false e = absurd (omega arith)

refused_when : (b : Bool) {m : ℕ} → 0 < m → m ≡ unless b bad_order 0 → b ≡ false
refused_when false h e = refl
refused_when true h e = absurd (omega arith)

-- a number that is not refused is an order, and one that is refused is none
pub is_order : (n : ℕ) → 0 ≡ order_refusal n → n ≤ 12
is_order n e = order_most n (passed_when (valid_order n) e)

pub no_order : (n : ℕ) {m : ℕ} → 0 < m → m ≡ order_refusal n → valid_order n ≡ false
no_order n h e = refused_when (valid_order n) h e

-- a number up to the largest order is one, and a number above it is refused
pub order_passes : (n : ℕ) → n ≤ 12 → 0 ≡ order_refusal n
order_passes n h = sym (ap (λ (b : Bool). unless b bad_order 0) (order_valid n h))

pub order_refused : (n : ℕ) → 12 < n → bad_order ≡ order_refusal n
order_refused n h = sym (ap (λ (b : Bool). unless b bad_order 0) (order_above n h))

-- a bucket's room is 1 shifted by its number, and fits 32 bits
pub room_shift : (k : ℕ) → k < 32 → (1 * 2 ^ k) % 2 ^ 64 ≡ room k
unfolding room
room_shift k h = shl_exact {a = 1} 1 k 64 (lit< tt) (omega arith) ∙ one-mul (2 ^ k)

pub room_fits : (k : ℕ) → k < 32 → room k < 2 ^ 32
unfolding room
room_fits k h = pow-lt {i = k} {j = 32} h
