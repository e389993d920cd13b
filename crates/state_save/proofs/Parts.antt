-- A part once the writer gave back what lies behind its length, and once the length stands before that.
use Prim.Native.Nat.{ℕ, zero, suc, ◌+◌, ◌-◌, ◌≤◌, min}
use mathlib.Core.Path.{◌≡◌, refl, sym, ap, ap₂, ◌∙◌}
use mathlib.Core.List.{List, ◌++◌, append_assoc}
use native.Mathlib.Nat.{lt_of_not-le}
use native.Mathlib.Omega.{arith}
use native.Mathlib.Decide.{dec_le}
use lib.ListN.{length, take, drop, length-append, length-drop, take-append-drop, drop_of_length-le}
use lib.Seq.{sets, sets-eq, drop_at, drop-drop, length-take-le}
use borrow.Rule.Slice.PartMut.{put_mid}
use Rattle.table_rules.specs.Table.{Table}
use Rattle.tree_rules.proofs.Parts.{part_rest, put_rest}
use Rattle.image_rules.specs.declared.Written.{Written}
use Rattle.image_rules.specs.Bytes.{bytes_of}
use Rattle.image_rules.specs.Write.{image_of, write_refusal, write_reply, image_after_write}
use Rattle.image_rules.proofs.Bytes.{length_bytes_lem}
use Rattle.image_rules.proofs.Bounds.{image_some}
use Rattle.state_rules.specs.Parts.{length_bytes, snapshot_of, behind_length}
use Rattle.state_rules.proofs.Saved.{snapshot_length}
use Rattle.state_save.specs.Part.{part_after_save}
use Rattle.state_save.proofs.Replies.{reply_refusal, reply_length, area_refused, area_accepted, image_room}

-- what lies behind the length, also in a part that is too short for one
behind : (part : List ℕ) (start : ℕ) → start ≡ min length_bytes (length part) → drop start part ≡ behind_length part
unfolding behind_length
behind part start starts =
    elim (dec_le 4 (length part)) [
      | yes d ↦ (let four : start ≡ 4 = omega arith in ap (λ (n : ℕ). drop n part) four)
      | no d ↦
          drop_of_length-le part {i = start} (omega (arith, lt_of_not-le d)) ∙ sym (drop_of_length-le part {i = 4} (omega (arith, lt_of_not-le d)))
    ]

module _ (t : Table) (part : List ℕ) where
  pub after_by : (n : ℕ) → write_refusal t (behind_length part) ≡ n
      → part_after_save t part ≡ elim n [ zero ↦ snapshot_of (image_of t) ++ drop (length (snapshot_of (image_of t))) part | suc m ↦ part ]
  unfolding part_after_save
  after_by n e = ap (λ (k : ℕ). elim k as (λ _. List ℕ) [ zero ↦ snapshot_of (image_of t) ++ drop (length (snapshot_of (image_of t))) part | suc m ↦ part ]) e

-- the writer's reply and what it gave back, lent what lies behind the length
module _ (t : Table) (part : List ℕ) (start : ℕ) (starts : start ≡ min length_bytes (length part)) (reply : Written) (replied : reply ≡ write_reply t (take (length part - start) (drop start part))) (last : List ℕ) (left : last ≡ image_after_write t (take (length part - start) (drop start part))) where
  abbrev back : List ℕ
  back = put_mid start (length part - start) part last

  area : take (length part - start) (drop start part) ≡ behind_length part
  area = part_rest start part ∙ behind part start starts

  pub part_reply : reply ≡ write_reply t (behind_length part)
  part_reply = replied ∙ ap (write_reply t) area

  refusal : reply.refusal ≡ write_refusal t (behind_length part)
  refusal = ap (λ (r : Written). r.refusal) part_reply ∙ reply_refusal t (behind_length part)

  given_back : back ≡ take start part ++ image_after_write t (behind_length part)
  given_back = put_rest start part last ∙ ap (λ (l : List ℕ). take start part ++ l) (left ∙ ap (image_after_write t) area)

  pub part_refused : (reply.refusal ≡ 0 → ⊥) → back ≡ part_after_save t part
  part_refused some = go (write_refusal t (behind_length part)) refl
    where
      go : (n : ℕ) → write_refusal t (behind_length part) ≡ n → back ≡ part_after_save t part
      go zero e = absurd (some (refusal ∙ e))
      go (suc n) e =
          given_back
          ∙ ap (λ (l : List ℕ). take start part ++ l) (area_refused t (behind_length part) n e ∙ sym (behind part start starts))
          ∙ take-append-drop start part
          ∙ sym (after_by t part (suc n) e)

  -- accepted, with the length put before the image
  module _ (none : reply.refusal ≡ 0) where
    accepted : write_refusal t (behind_length part) ≡ 0
    accepted = sym refusal ∙ none

    room : length_bytes + length (image_of t) ≤ length part
    unfolding behind_length
    room = omega (arith, image_room t (behind_length part) accepted, image_some t, length-drop 4 part)

    four : start ≡ length_bytes
    four = omega (arith, room)

    image-back : back ≡ take length_bytes part ++ (image_of t ++ drop (length (image_of t)) (behind_length part))
    image-back = given_back ∙ ap₂ (λ (n : ℕ) (l : List ℕ). take n part ++ l) four (area_accepted t (behind_length part) accepted)

    front_length : length (take length_bytes part) ≡ length_bytes
    front_length = length-take-le 4 part (omega (arith, room))

    pub length-fits : length_bytes ≤ length back
    length-fits = omega (arith, ap length image-back, length-append (take 4 part) (image_of t ++ drop (length (image_of t)) (behind_length part)), front_length)

    pub part_saved : (after : List ℕ) → after ≡ sets back 0 (bytes_of length_bytes reply.length) → after ≡ part_after_save t part
    unfolding snapshot_of behind_length
    part_saved after put =
        let image = image_of t in
        let bytes = bytes_of 4 (length image) in
        let rest = drop (length image) (drop 4 part) in
        let long : 0 + length bytes ≡ 4 = omega (arith, length_bytes_lem 4 (length image)) in
        let says : reply.length ≡ length image = ap (λ (r : Written). r.length) part_reply ∙ reply_length t (behind_length part) accepted in
        put
        ∙ ap (λ (n : ℕ). sets back 0 (bytes_of 4 n)) says
        ∙ sets-eq bytes back 0 (omega (arith, long, length-fits))
        ∙ ap₂ (λ (n : ℕ) (l : List ℕ). bytes ++ drop n l) long image-back
        ∙ ap (λ (l : List ℕ). bytes ++ l) (drop_at (take 4 part) (image ++ rest) 4 front_length)
        ∙ sym (append_assoc bytes image rest)
        ∙ ap (λ (l : List ℕ). (bytes ++ image) ++ l) (drop-drop (length image) 4 part ∙ ap (λ (n : ℕ). drop n part) (sym (snapshot_length image)))
        ∙ sym (after_by t part 0 accepted)
