-- Which numbers are names, and where their parts lie: one behind the other, all of them inside the area. By the laws of products.
use Prim.Native.Nat.{ℕ, suc, ◌+◌, ◌-◌, ◌*◌, ◌≤◌, ◌<◌}
use mathlib.Core.Path.{◌≡◌, sym, ap, ap₂, ◌∙◌}
use mathlib.Core.Bool.{Bool, true, false, ◌&&◌}
use mathlib.Core.List.{List}
use native.Mathlib.Nat.{suc-mul, mul-le-mul_right}
use native.Mathlib.Omega.{arith}
use lib.Dec.{leb}
use lib.ListN.{length, drop, length-take, length-drop}
use borrow.Author.Tests.{leb-true, le-leb, lt-leb}
use Rattle.lists.proofs.Tests.{and_first, and_second, and_pass}
use Rattle.state_rules.specs.Parts.{least_name, most_name, valid_name, part_bytes, part_start, part_of}

pub name_range : (name : ℕ) → valid_name name ≡ true → (least_name ≤ name) × (name ≤ most_name)
unfolding valid_name
name_range name e = (leb-true 1 name (and_first (leb 1 name) (leb name 8) e), leb-true name 8 (and_second (leb 1 name) (leb name 8) e))

pub name_valid : (name : ℕ) → least_name ≤ name → name ≤ most_name → valid_name name ≡ true
unfolding valid_name
name_valid name l m = and_pass (leb 1 name) (leb name 8) (le-leb 1 name l) (le-leb name 8 m)

pub name_below : (name : ℕ) → name < least_name → valid_name name ≡ false
unfolding valid_name
name_below name h = ap (λ (b : Bool). b && leb name 8) (lt-leb 1 name h)

pub name_above : (name : ℕ) → most_name < name → valid_name name ≡ false
unfolding valid_name
name_above name h = ap₂ ◌&&◌ (le-leb 1 name (omega arith)) (lt-leb name 8 h)

module _ (bytes : ℕ) where
  -- a part ends where the part of the name after begins
  part_next : (name : ℕ) → least_name ≤ name → part_start bytes name + part_bytes bytes ≡ name * part_bytes bytes
  unfolding part_start
  part_next name h =
      let same : suc (name - 1) ≡ name = omega arith in
      sym (suc-mul (name - 1) (part_bytes bytes)) ∙ ap (λ (n : ℕ). n * part_bytes bytes) same

  pub parts_apart : (name other : ℕ) → least_name ≤ name → name < other → part_start bytes name + part_bytes bytes ≤ part_start bytes other
  unfolding part_start
  parts_apart name other h l =
      let within : name * part_bytes bytes ≤ (other - 1) * part_bytes bytes = mul-le-mul_right (part_bytes bytes) (omega arith) in
      omega (arith, part_next name h, within)

  pub part_within : (name : ℕ) → valid_name name ≡ true → part_start bytes name + part_bytes bytes ≤ most_name * part_bytes bytes
  part_within name e =
      let r = name_range name e in
      let within : name * part_bytes bytes ≤ 8 * part_bytes bytes = mul-le-mul_right (part_bytes bytes) r.1 in
      omega (arith, part_next name r.0, within)

  pub parts_inside : most_name * part_bytes bytes ≤ bytes
  unfolding part_bytes
  parts_inside = omega arith

pub part_length : (states : List ℕ) (name : ℕ) → valid_name name ≡ true → length (part_of states name) ≡ part_bytes (length states)
unfolding part_of
part_length states name e =
    let n = length states in
    omega (arith, part_within n name e, parts_inside n, length-take (part_bytes n) (drop (part_start n name) states), length-drop (part_start n name) states)
