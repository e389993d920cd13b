-- Writing a sound table as a call: lent any areas that are long enough, it replies 0 and the image's length, and the bytes up to that length are
-- the image of the table. The call sees the table's own rows, and the image is of these alone.
use Prim.Native.Nat.{ℕ, ◌≤◌}
use mathlib.Core.Path.{◌≡◌, sym, ap, ◌∙◌, subst}
use mathlib.Core.Bool.{Bool}
use mathlib.Core.List.{List}
use native.Mathlib.Omega.{arith}
use lib.Dec.{leb}
use lib.ListN.{length, take, drop}
use lib.Seq.{take-append_seam}
use borrow.Author.Tests.{le-leb}
use Rattle.table_rules.specs.Refusals.{no_room, unless, or_else}
use Rattle.table_rules.specs.Geometry.{table_rows}
use Rattle.table_rules.specs.Table.{Table, order_of}
use Rattle.table_rules.proofs.Views.{same_order, same_space, kept_built, kept_live, kept_slots, own_header, own_kept}
use Rattle.image_rules.specs.Write.{image_of, write_refusal, write_reply, image_after_write}
use Rattle.image_rules.proofs.ReadBack.{reads_back, form_back}
use Rattle.image_rules.proofs.Lengths.{image_below}
use Rattle.image_rules.proofs.GivesBack.{gives_written}
use Rattle.history.specs.Trace.{overlaid}
use Rattle.history.specs.Images.{writing, image_written}
use Rattle.history.proofs.Invariant.{Invariant}
use Rattle.history.proofs.InvariantForms.{invariant_roomy}
use Rattle.history.proofs.ImagesFit.{invariant_fits, invariant_accepted}
use Rattle.history.proofs.RefinesRefusals.{invariant_reads}
use Rattle.history.proofs.RefinesOwn.{invariant_own}
use Rattle.history.proofs.RefinesStep.{overlaid_length, overlaid_own}

-- the call on a sound table itself
module _ {t : Table} (invariant : Invariant t) (area : List ℕ) (long : length (image_of t) ≤ length area) where
  write_accepted : write_refusal t area ≡ 0
  unfolding write_refusal
  write_accepted =
      ap (λ (n : ℕ). or_else n (unless (leb (length (image_of t)) (length area)) no_room 0)) (invariant_reads t invariant)
      ∙ ap (λ (b : Bool). unless b no_room 0) (le-leb (length (image_of t)) (length area) long)

  pub invariant_reply : write_reply t area ≡ record { refusal = 0; length = length (image_of t) }
  unfolding write_reply
  invariant_reply = rw (write_accepted, write_reply)

  pub invariant_bytes : take (length (image_of t)) (image_after_write t area) ≡ image_of t
  unfolding image_after_write
  invariant_bytes = rw (write_accepted, image_after_write) (take-append_seam (image_of t) (drop (length (image_of t)) area))

-- the image is of a table's own rows alone
pub image_own : {t : Table} → Invariant t → (u : Table) → take (table_rows (order_of t)) u ≡ take (table_rows (order_of t)) t → image_of u ≡ image_of t
image_own {t} invariant u own =
    let reads = reads_back t (invariant_fits invariant) in
    let order : order_of u ≡ order_of t = same_order (own_header t u own) in
    let at : (k : ℕ) → k ≤ order_of u → k ≤ order_of t = λ k h. omega (arith, order) in
    let ok = invariant_accepted invariant (table_rows (order_of t)) (omega arith) in
    gives_written u (image_of t) (record { bytes = image_below t; long = ok.long }) (form_back t (invariant_fits invariant))
    (record {
      order = reads.order ∙ sym order;
      space = reads.space ∙ sym (same_space (own_header t u own));
      built = λ k h. reads.built k (at k h) ∙ sym (kept_built (own_kept t u own k (at k h)));
      live = λ k h. reads.live k (at k h) ∙ sym (kept_live (own_kept t u own k (at k h)));
      slots = λ k h. reads.slots k (at k h) ∙ sym (kept_slots (own_kept t u own k (at k h)) ((invariant_roomy invariant).within k (at k h)));
    })

-- the table as a call sees it, lent any area that is long enough
module _ {t : Table} (invariant : Invariant t) (area : Table) (rows : table_rows (order_of t) ≤ length area) where
  abbrev seen : Table
  seen = overlaid t area

  seen_own : take (table_rows (order_of t)) seen ≡ take (table_rows (order_of t)) t
  seen_own = overlaid_own t area invariant.long rows

  pub seen_invariant : Invariant seen
  seen_invariant = invariant_own invariant seen seen_own (omega (arith, overlaid_length t area))

  pub seen_image : image_of seen ≡ image_of t
  seen_image = image_own invariant seen seen_own

  -- the call as it is lent an area for the image too
  module _ (image : List ℕ) (long : length (image_of t) ≤ length image) where
    seen-long : length (image_of seen) ≤ length image
    seen-long = rw seen_image long

    pub writing-reply : writing t area image ≡ record { refusal = 0; length = length (image_of t) }
    unfolding writing
    writing-reply = invariant_reply seen_invariant image seen-long ∙ ap (λ (bytes : List ℕ). record { refusal = 0; length = length bytes }) seen_image

    pub writing-bytes : image_written (length (image_of t)) t area image ≡ image_of t
    unfolding image_written
    writing-bytes =
        subst (λ (bytes : List ℕ). take (length bytes) (image_after_write seen image) ≡ bytes) seen_image
        (invariant_bytes seen_invariant image seen-long)
