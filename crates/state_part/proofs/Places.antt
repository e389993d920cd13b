-- The bytes from where a name's part begins to where it ends are the part.
use Prim.Native.Nat.{ℕ, ◌+◌, ◌-◌}
use mathlib.Core.Path.{◌≡◌, ap₂}
use mathlib.Core.List.{List}
use native.Mathlib.Omega.{arith}
use lib.ListN.{length, take, drop}
use Rattle.state_rules.specs.Parts.{part_bytes, part_start, part_of}

module _ (states : List ℕ) (name : ℕ) {start end : ℕ} (starts : start ≡ part_start (length states) name) (ends : end ≡ part_start (length states) name + part_bytes (length states)) where
  part_size_lem : end - start ≡ part_bytes (length states)
  part_size_lem = omega arith

  pub part_here : take (end - start) (drop start states) ≡ part_of states name
  unfolding part_of
  part_here = ap₂ (λ (k a : ℕ). take k (drop a states)) part_size_lem starts
