-- What a reply of the writer says: its refusal is the definition's, and by it the image's area is as it was, or begins with the image.
use Prim.Native.Nat.{ℕ, zero, suc, ◌≤◌}
use mathlib.Core.Path.{◌≡◌, refl, ap}
use mathlib.Core.List.{List, ◌++◌}
use native.Mathlib.Omega.{arith}
use lib.Dec.{leb}
use lib.ListN.{length, drop}
use borrow.Author.Tests.{leb-true}
use Rattle.table_rules.specs.Refusals.{no_room}
use Rattle.table_rules.specs.Table.{Table}
use Rattle.table_rules.specs.Checks.{read_refusal}
use Rattle.table_rules.proofs.Chains.{or_zero, unless_zero}
use Rattle.image_rules.specs.declared.Written.{Written}
use Rattle.image_rules.specs.Write.{image_of, write_refusal, write_reply, image_after_write}

module _ (t : Table) (area : List ℕ) where
  reply_by : (n : ℕ) → write_refusal t area ≡ n → write_reply t area ≡ elim n [ zero ↦ record { refusal = 0; length = length (image_of t) } | suc m ↦ record { refusal = suc m; length = 0 } ]
  unfolding write_reply
  reply_by n e = ap (λ (k : ℕ). elim k as (λ _. Written) [ zero ↦ record { refusal = 0; length = length (image_of t) } | suc m ↦ record { refusal = suc m; length = 0 } ]) e

  pub reply_refusal : (write_reply t area).refusal ≡ write_refusal t area
  reply_refusal = go (write_refusal t area) refl
    where
      go : (n : ℕ) → write_refusal t area ≡ n → (write_reply t area).refusal ≡ n
      go zero e = ap (λ (r : Written). r.refusal) (reply_by zero e)
      go (suc n) e = ap (λ (r : Written). r.refusal) (reply_by (suc n) e)

  pub reply_length : write_refusal t area ≡ 0 → (write_reply t area).length ≡ length (image_of t)
  reply_length e = ap (λ (r : Written). r.length) (reply_by zero e)

  pub area_refused : (n : ℕ) → write_refusal t area ≡ suc n → image_after_write t area ≡ area
  unfolding image_after_write
  area_refused n e = ap (λ (k : ℕ). elim k as (λ _. List ℕ) [ zero ↦ image_of t ++ drop (length (image_of t)) area | suc m ↦ area ]) e

  pub area_accepted : write_refusal t area ≡ 0 → image_after_write t area ≡ image_of t ++ drop (length (image_of t)) area
  unfolding image_after_write
  area_accepted e = ap (λ (k : ℕ). elim k as (λ _. List ℕ) [ zero ↦ image_of t ++ drop (length (image_of t)) area | suc m ↦ area ]) e

  pub image_room : write_refusal t area ≡ 0 → length (image_of t) ≤ length area
  unfolding write_refusal
  image_room e =
      let a = or_zero (read_refusal t) _ e in
      leb-true (length (image_of t)) (length area) (unless_zero (leb (length (image_of t)) (length area)) no_room 0 (omega arith) a.1).0
