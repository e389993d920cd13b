-- What stops a write, and the reply and the area of one, by the refusal.
use Prim.Native.Nat.{ℕ, zero, suc, ◌≤◌, ◌<◌}
use mathlib.Core.Path.{◌≡◌, refl, sym, ap, ◌∙◌}
use mathlib.Core.List.{List, ◌++◌}
use native.Mathlib.Nat.{zero-add}
use native.Mathlib.Omega.{arith}
use lib.ListN.{length, drop}
use lib.Seq.{sets, sets-eq}
use borrow.Author.Tests.{le-leb, lt-leb}
use Rattle.table_rules.specs.Refusals.{no_room}
use Rattle.table_rules.specs.Table.{Table}
use Rattle.table_rules.specs.Checks.{read_refusal}
use Rattle.image_rules.specs.Write.{image_of, write_refusal, write_reply, image_after_write}

module _ (t : Table) (area : List ℕ) where
  pub too_short : 0 ≡ read_refusal t → length area < length (image_of t) → no_room ≡ write_refusal t area
  unfolding write_refusal
  too_short e h = rw (sym e, write_refusal, lt-leb (length (image_of t)) (length area) h) refl

  pub goes : 0 ≡ read_refusal t → length (image_of t) ≤ length area → 0 ≡ write_refusal t area
  unfolding write_refusal
  goes e h = rw (sym e, write_refusal, le-leb (length (image_of t)) (length area) h) refl

  -- a refused write keeps the area and replies with its number
  pub kept : (n : ℕ) → n ≡ write_refusal t area → 0 < n → area ≡ image_after_write t area
  unfolding image_after_write
  kept zero e some = absurd (omega arith)
  kept (suc n) e some = rw (sym e, image_after_write) refl

  pub refused : (n : ℕ) → n ≡ write_refusal t area → 0 < n → record { refusal = n; length = 0 } ≡ write_reply t area
  unfolding write_reply
  refused zero e some = absurd (omega arith)
  refused (suc n) e some = rw (sym e, write_reply) refl

  -- an accepted one puts the image at the front, and replies with its length
  pub put : 0 ≡ write_refusal t area → length (image_of t) ≤ length area → (after : List ℕ) → after ≡ sets area 0 (image_of t) → after ≡ image_after_write t area
  unfolding image_after_write
  put e h after is = rw (sym e, image_after_write) (is ∙ sets-eq (image_of t) area 0 (omega arith) ∙ ap (λ (k : ℕ). image_of t ++ drop k area) (zero-add (length (image_of t))))

  pub accepted : 0 ≡ write_refusal t area → (n : ℕ) → n ≡ length (image_of t) → record { refusal = 0; length = n } ≡ write_reply t area
  unfolding write_reply
  accepted e n long = rw (sym e, write_reply, long) refl
