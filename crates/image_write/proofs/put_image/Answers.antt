-- `image_write::put_image` meets its contract: each part begins where the one before it ends.
use Prim.Native.Nat.{ℕ, ◌+◌, ◌*◌}
use mathlib.Core.Path.{◌≡◌, refl, sym, ap, ap₂, ◌∙◌}
use mathlib.Core.List.{List}
use native.Mathlib.Omega.{arith}
use lib.ListN.{length}
use lib.Seq.{sets}
use Rattle.lists.specs.Lists.{total}
use Rattle.table_rules.specs.Geometry.{header_row}
use Rattle.table_rules.specs.Table.{row_at, order_of, table_space, built_of, live_of}
use Rattle.table_rules.proofs.Passing.{framed_rows}
use Rattle.image_rules.specs.Bytes.{written_form, tag_fields, header_bytes, tag_bytes, sizes_end}
use Rattle.image_rules.specs.Write.{sizes_of, tags_of, records_of, all_slots}
use Rattle.image_rules.proofs.Bounds.{slots_most}
use Rattle.image_put.proofs.Stores.{length_tags}
use Rattle.image_write.proofs.Parts.{header_part, sizes_part, length_parts, parts_put}
use Rattle.image_write.proofs.put_image.Goals as goal
use Rattle.image_write.proofs.put_image.Goals.{After-tags_end}

pub bounds-table-0 : goal.bounds-table-0
bounds-table-0 c = framed_rows c.args.table.passed.framed

pub put_header-requires : goal.put_header-requires
unfolding sizes_end
put_header-requires c = omega (arith, c.requires, length_parts c.args.table.rows.now)

pub put_sizes-requires : goal.put_sizes-requires
put_sizes-requires c =
    let t = c.args.table.rows.now in
    let same : sizes_end written_form c.args.table.order.t ≡ sizes_end written_form (order_of t) = ap (sizes_end written_form) c.args.table.ordered in
    omega (arith, c.requires, length_parts t, c.put_header.auto.image)

-- the slots are few
pub tags_end-requires : goal.tags_end-requires
tags_end-requires c = omega (arith, c.slots_in_all-slots.ensures, slots_most c.args.table.passed)

-- where the tags begin, and where the records do
module _ (c : After-tags_end) where
  tags_begin : c.sizes_end.result ≡ sizes_end written_form (order_of c.args.table.rows.now)
  tags_begin = c.sizes_end.ensures ∙ ap₂ sizes_end c.written-form.ensures c.args.table.ordered

  records_begin : c.tags_end.result ≡ sizes_end written_form (order_of c.args.table.rows.now) + length (tags_of (all_slots c.args.table.rows.now))
  unfolding tag_bytes tag_fields total
  records_begin =
      c.tags_end.ensures
      ∙ ap₂ ◌+◌ (ap₂ sizes_end c.written-form.ensures c.args.table.ordered)
      (ap (λ (n : ℕ). 8 * n) c.slots_in_all-slots.ensures ∙ sym (length_tags (all_slots c.args.table.rows.now)))

pub put_all_slots-requires-clause-apart : goal.put_all_slots-requires-clause-apart
put_all_slots-requires-clause-apart c =
    let at = (goal.at.put_all_slots-requires-clause-apart c).After-tags_end in
    omega (arith, tags_begin at, records_begin at)

pub put_all_slots-requires-clause-room : goal.put_all_slots-requires-clause-room
put_all_slots-requires-clause-room c =
    let at = (goal.at.put_all_slots-requires-clause-room c).After-tags_end in
    omega (arith, records_begin at, c.requires, length_parts c.args.table.rows.now, c.put_sizes.auto.image, c.put_header.auto.image)

pub returns : goal.returns
unfolding header_part sizes_part order_of table_space row_at header_row
returns c =
    let at = (goal.at.returns c).After-tags_end in
    let t = c.args.table.rows.now in
    c.put_all_slots.ensures
    ∙ ap (λ (l : List ℕ). sets (sets l c.sizes_end.result (tags_of (all_slots t))) c.tags_end.result (records_of written_form (all_slots t)))
    (c.put_sizes.ensures
    ∙ ap₂ (λ (l : List ℕ) (order : ℕ). sets l (header_bytes written_form) (sizes_of order (built_of t) (live_of t))) c.put_header.ensures c.args.table.ordered)
    ∙ parts_put t c.args.image.now (header_bytes written_form) c.sizes_end.result c.tags_end.result refl (tags_begin at) (records_begin at)
