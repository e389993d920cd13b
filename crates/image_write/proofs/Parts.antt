-- Where each part of an image begins, and that the parts put one after the other are the image.
use Prim.Native.Nat.{ℕ, ◌+◌}
use mathlib.Core.Path.{◌≡◌, refl, ap, ◌∙◌}
use mathlib.Core.List.{List, ◌∷◌, ◌++◌}
use native.Mathlib.Omega.{arith}
use lib.ListN.{length, length-append}
use lib.Seq.{sets}
use Rattle.lists.specs.Lists.{total}
use Rattle.table_rules.specs.Table.{Table, order_of, table_space, built_of, live_of}
use Rattle.image_rules.specs.Bytes.{written_form, start_fields, weight_fields, header_fields, header_bytes, sizes_end}
use Rattle.image_rules.specs.Write.{header_bytes_of, sizes_of, tags_of, records_of, all_slots, image_as, image_of}
use Rattle.image_rules.proofs.Bytes.{length_fields}
use Rattle.image_rules.proofs.Lengths.{length_sizes}
use Rattle.tree_rules.proofs.Stores.{sets_more}

-- the header that is written is of eight bytes
pub eight : header_bytes written_form ≡ 8
unfolding header_bytes header_fields start_fields weight_fields written_form total
eight = refl

-- the four parts of an image
module _ (t : Table) where
  unfoldable pub header_part : List ℕ
  header_part = header_bytes_of written_form (order_of t) (table_space t)

  unfoldable pub sizes_part : List ℕ
  sizes_part = sizes_of (order_of t) (built_of t) (live_of t)

  pub length_header : length header_part ≡ header_bytes written_form
  unfolding header_part header_bytes_of header_bytes
  length_header = length_fields (header_fields written_form) (order_of t ∷ (table_space t).metric ∷ written_form ∷ (table_space t).weights.each)

  pub length_front : length header_part + length sizes_part ≡ sizes_end written_form (order_of t)
  unfolding sizes_part sizes_end
  length_front = omega (arith, length_header, length_sizes (order_of t) (built_of t) (live_of t))

  pub length_parts : length (image_of t) ≡ sizes_end written_form (order_of t) + length (tags_of (all_slots t)) + length (records_of written_form (all_slots t))
  unfolding image_of image_as header_part sizes_part
  length_parts = simp length-append (omega (arith, length_front))

  -- put one after the other, each where the one before it ends, they are the image put whole
  pub parts_put : (l : List ℕ) (a b c : ℕ) → a ≡ header_bytes written_form → b ≡ sizes_end written_form (order_of t) → c ≡ sizes_end written_form (order_of t) + length (tags_of (all_slots t))
      → sets (sets (sets (sets l 0 header_part) a sizes_part) b (tags_of (all_slots t))) c (records_of written_form (all_slots t)) ≡ sets l 0 (image_of t)
  unfolding image_of image_as header_part sizes_part
  parts_put l a b c ea eb ec =
      let tags = tags_of (all_slots t) in
      let records = records_of written_form (all_slots t) in
      ap (λ (r : List ℕ). sets (sets r b tags) c records) (sets_more l 0 a header_part sizes_part (omega (arith, length_header)))
      ∙ ap (λ (r : List ℕ). sets r c records)
      (sets_more l 0 b (header_part ++ sizes_part) tags (omega (arith, length-append header_part sizes_part, length_front)))
      ∙ sets_more l 0 c (header_part ++ sizes_part ++ tags) records
      (omega (arith, length-append (header_part ++ sizes_part) tags, length-append header_part sizes_part, length_front))
