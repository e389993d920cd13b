-- `image_form::Form::image_length` meets its contract: behind the tags, a record for each slot.
use Prim.Native.Nat.{ℕ, ◌+◌, ◌*◌}
use mathlib.Core.Path.{◌≡◌, sym, ap, ap₂, ◌∙◌}
use native.Mathlib.Omega.{arith}
use Rattle.lists.specs.Lists.{total}
use Rattle.image_rules.specs.Bytes.{tag_fields, tag_bytes, record_bytes, size_bytes, pair_bytes, sizes_end}
use Rattle.image_form.proofs.Forms.{header_most, records_most, length_by_parts}
use Rattle.image_form.proofs.Form.image_length.Goals as goal

-- the records' bytes
records : (c : goal.After-record_bytes) → c.record_bytes.result * c.args.slots ≡ record_bytes c.args.self.number * c.args.slots
records c = ap (λ (w : ℕ). w * c.args.slots) c.record_bytes.ensures

pub overflow_mul-result : goal.overflow_mul-result
overflow_mul-result c =
    let s = c.before.before in
    omega (arith, records c, records_most s.args.self.number s.args.slots, s.requires)

pub overflow_add-result : goal.overflow_add-result
unfolding sizes_end pair_bytes size_bytes tag_bytes tag_fields total
overflow_add-result c =
    let s = c.before.before in
    omega (arith, records c, records_most s.args.self.number s.args.slots, header_most s.args.self.number, c.tags_end.ensures, s.requires)

pub returns : goal.returns
returns c =
    let a = c.args in
    ap₂ ◌+◌ c.tags_end.ensures (records c) ∙ sym (length_by_parts a.self.number a.t a.slots)
