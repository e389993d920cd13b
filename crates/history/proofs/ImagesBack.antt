-- Demand 2 on images, for sound tables. The image of one is accepted and loads as its rows: header, sizes and slots determine every row of a sound
-- table, and these are read back as they were written. An accepted image is given back, since it is the bytes of its fields.
use Prim.Native.Nat.{ℕ, ◌+◌, ◌≤◌, ◌<◌}
use mathlib.Core.Path.{◌≡◌, sym, ap, ap₂, ◌∙◌, subst}
use mathlib.Core.List.{[], List}
use native.Mathlib.Nat.{lt_of_not-le}
use native.Mathlib.Omega.{arith}
use native.Mathlib.Decide.{dec_le}
use lib.ListN.{length, get_or, take}
use lib.Seq.{length-take-le, get_or-take, ext_get_or}
use Rattle.metric_rules.specs.Row.{Row}
use Rattle.table_rules.specs.Geometry.{room, header_row, sizes_row, first_slot, table_rows}
use Rattle.table_rules.specs.Table.{Table, row_at, order_of, built_of, slots_of, pair_row, header_of}
use Rattle.image_rules.specs.Write.{image_of}
use Rattle.image_rules.specs.declared.Loaded.{Loaded}
use Rattle.image_rules.specs.Load.{load_reply, load_refusal, table_after_load}
use Rattle.image_rules.proofs.ReadBack.{ReadsBack, reads_back}
use Rattle.image_rules.proofs.Accepting.{accepts}
use Rattle.image_rules.proofs.Lengths.{length_image_built, image_below}
use Rattle.image_rules.proofs.LoadedTable.{load_reads, accepted_image}
use Rattle.history.specs.Images.{image_size, image_written, LoadsBack}
use Rattle.history.specs.Demands.{AcceptedGivesBack}
use Rattle.history.proofs.Invariant.{Invariant}
use Rattle.table_rules.proofs.Geometry.{row_by_row}
use Rattle.table_rules.proofs.Live.{slots_length}
use Rattle.history.proofs.InvariantForms.{invariant_roomy}
use Rattle.history.proofs.ImagesFit.{invariant_fits, invariant_accepted}
use Rattle.history.proofs.ImagesLoaded.{slot_row, load_invariant}
use Rattle.history.proofs.ImagesWritten.{writing-reply, writing-bytes}

-- two sound tables that one image is read back as have the same rows
module _ {t u : Table} {image : List ℕ} (invariant : Invariant t) (invariant' : Invariant u) (reads : ReadsBack t image) (reads' : ReadsBack u image) where
  order : order_of u ≡ order_of t
  order = sym reads'.order ∙ reads.order

  here : (k : ℕ) → k ≤ order_of t → k ≤ order_of u
  here k h = omega (arith, order)

  built : (k : ℕ) → k ≤ order_of t → built_of u k ≡ built_of t k
  built k h = sym (reads'.built k (here k h)) ∙ reads.built k h

  slots : (k : ℕ) → k ≤ order_of t → slots_of u k ≡ slots_of t k
  slots k h = sym (reads'.slots k (here k h)) ∙ reads.slots k h

  header_same : row_at u header_row ≡ row_at t header_row
  header_same = invariant'.header ∙ ap₂ header_of order (sym reads'.space ∙ reads.space) ∙ sym invariant.header

  sizes_same : (k : ℕ) → k ≤ order_of t → row_at u (sizes_row k) ≡ row_at t (sizes_row k)
  sizes_same k h =
      invariant'.size_rows k (here k h) ∙ ap₂ pair_row (built k h) (sym (reads'.live k (here k h)) ∙ reads.live k h) ∙ sym (invariant.size_rows k h)

  slot_same : (k i : ℕ) → k ≤ order_of t → i < room k → row_at u (first_slot (order_of t) k + i) ≡ row_at t (first_slot (order_of t) k + i)
  slot_same k i h l =
      let place : row_at u (first_slot (order_of t) k + i) ≡ row_at u (first_slot (order_of u) k + i) =
      ap (λ (n : ℕ). row_at u (first_slot n k + i)) (sym order) in
      place
      ∙ elim (dec_le (built_of t k) i) [
        | yes d ↦ invariant'.zeros k i (here k h) (omega (arith, built k h)) l ∙ sym (invariant.zeros k i h d l)
        | no d ↦
            slot_row u k i (omega (arith, built k h, lt_of_not-le d))
            ∙ ap (λ (rows : List Row). get_or rows i []) (slots k h)
            ∙ sym (slot_row t k i (lt_of_not-le d))
      ]

  pub same_rows : take (table_rows (order_of t)) u ≡ take (table_rows (order_of t)) t
  unfolding row_at
  same_rows =
      let n = table_rows (order_of t) in
      let long : length (take n t) ≡ n = length-take-le n t invariant.long in
      let long' : length (take n u) ≡ n = length-take-le n u (subst (λ (o : ℕ). table_rows o ≤ length u) order invariant'.long) in
      let row = row_by_row (λ r. row_at u r ≡ row_at t r) (order_of t) header_same sizes_same slot_same in
      ext_get_or [] (take n u) (take n t) (long' ∙ sym long)
      (λ i l. let h : i < n = omega arith in get_or-take n u i [] h ∙ row i h ∙ sym (get_or-take n t i [] h))

-- the image of a sound table is accepted into any area that is long enough, and loads as the table's rows
module _ {t : Table} (invariant : Invariant t) (area : Table) (roomy : table_rows (order_of t) ≤ length area) where
  pub image_replied : load_reply (length area) (image_of t) ≡ record { refusal = 0; slot = 0 }
  image_replied = accepts (length area) (image_of t) (invariant_accepted invariant (length area) roomy)

  pub image_accepted : load_refusal (length area) (image_of t) ≡ 0
  unfolding load_refusal
  image_accepted = ap (λ (r : Loaded). r.refusal) image_replied

  pub image_rows : take (table_rows (order_of t)) (table_after_load (image_of t) area) ≡ take (table_rows (order_of t)) t
  image_rows =
      same_rows invariant (load_invariant (image_of t) area (image_below t) image_accepted) (reads_back t (invariant_fits invariant))
      (load_reads (image_of t) area image_accepted)

pub image_size_lem : {t : Table} → Invariant t → length (image_of t) ≡ image_size t
unfolding image_size
image_size_lem {t} invariant = length_image_built t (slots_length (invariant_roomy invariant))

-- written and loaded as calls
module _ {t : Table} (invariant : Invariant t) (area other : Table) (image : List ℕ) (rows : table_rows (order_of t) ≤ length area) (long : image_size t ≤ length image) (roomy : table_rows (order_of t) ≤ length other) where
  fits : length (image_of t) ≤ length image
  fits = omega (arith, image_size_lem invariant)

  bytes_written_lem : image_written (image_size t) t area image ≡ image_of t
  bytes_written_lem = ap (λ (n : ℕ). image_written n t area image) (sym (image_size_lem invariant)) ∙ writing-bytes invariant area rows image fits

  pub loads_back : LoadsBack t area other image
  loads_back =
      record {
        replied = writing-reply invariant area rows image fits ∙ ap (λ (n : ℕ). record { refusal = 0; length = n }) (image_size_lem invariant);
        accepted = ap (load_reply (length other)) bytes_written_lem ∙ image_replied invariant other roomy;
        rows = ap (λ (bytes : List ℕ). take (table_rows (order_of t)) (table_after_load bytes other)) bytes_written_lem ∙ image_rows invariant other roomy;
      }

-- an accepted image is given back by writing the loaded table as a call
pub accepted_gives_back : AcceptedGivesBack
unfolding load_refusal
accepted_gives_back bytes other area image below form h rows long =
    let t = table_after_load bytes other in
    let invariant : Invariant t = load_invariant bytes other below h in
    let same : image_of t ≡ bytes = accepted_image bytes other below form h in
    let fits : table_rows (order_of t) ≤ length area = rw (← (load_reads bytes other h).order) rows in
    let room : length (image_of t) ≤ length image = rw same long in
    record {
      replied = writing-reply invariant area fits image room ∙ ap (λ (bs : List ℕ). record { refusal = 0; length = length bs }) same;
      given = subst (λ (bs : List ℕ). image_written (length bs) t area image ≡ bs) same (writing-bytes invariant area fits image room);
    }
