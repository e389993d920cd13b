-- What the calls that write a table are refused by. The tests of a lent table say 0, 23 or 24, and what is tested
-- behind them says neither of these two in a look up or a write; a write reads of its area but the length, so a save is
-- a write into any area as long as its part's rest.
use Prim.Native.Nat.{ℕ, zero, suc, ◌+◌, ◌-◌, ◌*◌, ◌/◌, ◌<◌}
use mathlib.Core.Path.{◌≡◌, refl, sym, ap, ◌∙◌}
use mathlib.Core.Bool.{Bool, true, false, ◌&&◌}
use mathlib.Core.Logic.{◌⊎◌, inl, inr, ⊎_elim}
use mathlib.Core.List.{List, [], ◌∷◌, map}
use mathlib.Core.Option.{Option, none, some}
use native.Mathlib.Omega.{arith}
use native.Mathlib.Nat.{lt_of_not-le}
use native.Mathlib.Decide.{dec_le}
use lib.Dec.{leb}
use lib.ListN.{length, length-drop}
use borrow.Author.Tests.{le-leb, lt-leb}
use Rattle.lists.specs.Lists.{total}
use Rattle.metric_rules.specs.Distance.{valid_metric}
use Rattle.metric_rules.specs.Validity.{valid_tag}
use Rattle.table_rules.specs.Refusals.{bad_tag, no_room, not_live, short_area, bad_table, unless, or_else}
use Rattle.table_rules.specs.Geometry.{valid_order, buckets_of, table_rows}
use Rattle.table_rules.specs.Table.{Table, order_of, table_space, built_of}
use Rattle.table_rules.specs.Checks.{frame_refusal, header_passes, read_refusal}
use Rattle.table_rules.specs.LookUp.{Place, find, is_live_tag, live_tag_refusal, look_up_refusal, not_found, look_up_reply}
use Rattle.table_rules.proofs.Chains.{stops_first, or_not, unless_not}
use Rattle.table_rules.proofs.Passing.{read_passed}
use Rattle.table_rules.proofs.Live.{slots_length}
use Rattle.table_rules.proofs.Fill.{passed_roomy}
use Rattle.image_rules.specs.declared.Written.{Written}
use Rattle.image_rules.specs.Bytes.{written_form, start_fields, weight_fields, header_fields, tag_fields, day_fields, record_fields, header_bytes, tag_bytes}
use Rattle.image_rules.specs.Bytes.{record_bytes, size_bytes, pair_bytes, sizes_end, image_length}
use Rattle.image_rules.specs.Write.{image_of, write_refusal, write_reply}
use Rattle.image_rules.proofs.Lengths.{length_image_built}
use Rattle.state_rules.specs.Parts.{bad_name, valid_name, part_bytes, part_of, behind_length}
use Rattle.state_rules.specs.Save.{save_refusal, save_reply}
use Rattle.state_rules.proofs.Parts.{name_valid, name_below, name_above, part_length}
use Rattle.history.specs.Demands.{WritesRefuse}
use Rattle.history.proofs.RefusedKeeps.{found_by}

-- the tests of a lent table say 0, 23 or 24
Tested : ℕ → Type 0
Tested n = (n ≡ 0) ⊎ ((n ≡ short_area) ⊎ (n ≡ bad_table))

framed_by : (a b : Bool) → Tested (unless a bad_table (unless b short_area 0))
unfolding Tested
framed_by false b = inr (inr refl)
framed_by true false = inr (inl refl)
framed_by true true = inl refl

frame_tested : (t : Table) → Tested (frame_refusal t)
unfolding frame_refusal Tested
frame_tested [] = inr (inl refl)
frame_tested (r ∷ rs) =
    framed_by (valid_order (order_of (r ∷ rs)) && valid_metric (table_space (r ∷ rs))) (leb (table_rows (order_of (r ∷ rs))) (length (r ∷ rs)))

read_by : (n : ℕ) (b : Bool) → Tested n → Tested (or_else n (unless b bad_table 0))
unfolding Tested
read_by zero true tested = inl refl
read_by zero false tested = inr (inr refl)
read_by (suc n) b tested = tested

read_tested : (t : Table) → (read_refusal t ≡ 0) ⊎ ((read_refusal t ≡ short_area) ⊎ (read_refusal t ≡ bad_table))
unfolding read_refusal Tested
read_tested t = read_by (frame_refusal t) (header_passes t) (frame_tested t)

-- a number that nothing says behind the first test is its own
or_first : (m rest n : ℕ) → (rest ≡ n → ⊥) → or_else m rest ≡ n → m ≡ n
or_first zero rest n other e = absurd (other e)
or_first (suc m) rest n other e = e

-- the number in a reply, of a write, a save and a look up
write_number : (n length : ℕ)
    → (elim n as (λ _. Written) [ zero ↦ record { refusal = 0; length = length } | suc m ↦ record { refusal = suc m; length = 0 } ]).refusal ≡ n
write_number zero length = refl
write_number (suc n) length = refl

written_by : (t : Table) (bytes : List ℕ) → (write_reply t bytes).refusal ≡ write_refusal t bytes
unfolding write_reply
written_by t bytes = write_number (write_refusal t bytes) (length (image_of t))

saved_by : (t : Table) (states : List ℕ) (name : ℕ) → (save_reply t states name).refusal ≡ save_refusal t states name
unfolding save_reply
saved_by t states name = write_number (save_refusal t states name) (length (image_of t))

-- of these two numbers
module _ (n : ℕ) (above : 22 < n) where
  found_number : (m : ℕ) (o : Option Place) → ((found_by m o).refusal ≡ n → m ≡ n) × (m ≡ n → (found_by m o).refusal ≡ n)
  unfolding found_by not_found
  found_number (suc m) o = ((λ e. e), λ e. e)
  found_number zero (some place) = ((λ e. e), λ e. e)
  found_number zero none = ((λ e. absurd (omega arith)), λ e. absurd (omega arith))

  module _ (t : Table) where
    behind-look-up : (tag : ℕ) → live_tag_refusal t tag ≡ n → ⊥
    behind-look-up tag =
        unless_not (valid_tag tag) bad_tag _ n (λ f e. omega arith) (unless_not (is_live_tag t tag) not_live 0 n (λ f e. omega arith) (λ e. omega arith))

    behind-write : (bytes : List ℕ) → unless (leb (length (image_of t)) (length bytes)) no_room 0 ≡ n → ⊥
    behind-write bytes = unless_not (leb (length (image_of t)) (length bytes)) no_room 0 n (λ f e. omega arith) (λ e. omega arith)

    looked_up : (tag : ℕ) → ((look_up_reply t tag).refusal ≡ n → read_refusal t ≡ n) × (read_refusal t ≡ n → (look_up_reply t tag).refusal ≡ n)
    unfolding look_up_reply look_up_refusal found_by
    looked_up tag =
        let by = found_number (look_up_refusal t tag) (find t tag) in (
          (λ e. or_first (read_refusal t) (live_tag_refusal t tag) n (behind-look-up tag) (by.0 e)),
          λ e. by.1 (stops_first (read_refusal t) (live_tag_refusal t tag) (λ z. omega (arith, e, z)) ∙ e),
        )

    wrote_by : (bytes : List ℕ) → ((write_reply t bytes).refusal ≡ n → read_refusal t ≡ n) × (read_refusal t ≡ n → (write_reply t bytes).refusal ≡ n)
    unfolding write_refusal
    wrote_by bytes = (
      (λ e. or_first (read_refusal t) _ n (behind-write bytes) (sym (written_by t bytes) ∙ e)),
      λ e. written_by t bytes ∙ stops_first (read_refusal t) _ (λ z. omega (arith, e, z)) ∙ e,
    )

-- where neither is said, the length decides
form_length : (order n : ℕ) → image_length written_form order n ≡ 8 + 4 * (order + 1) + 50 * n
unfolding image_length sizes_end header_bytes header_fields start_fields weight_fields written_form total pair_bytes size_bytes tag_bytes record_bytes tag_fields
    record_fields day_fields
form_length order n = omega arith

image_number : (t : Table) → read_refusal t ≡ 0 → length (image_of t) ≡ 8 + 4 * (order_of t + 1) + 50 * total (map (built_of t) (buckets_of (order_of t)))
image_number t e =
    length_image_built t (λ k h. slots_length (passed_roomy (read_passed t e)) k h)
    ∙ form_length (order_of t) (total (map (built_of t) (buckets_of (order_of t))))

by_length : (t : Table) (bytes : List ℕ) (b : Bool) → read_refusal t ≡ 0 → leb (length (image_of t)) (length bytes) ≡ b
    → (write_reply t bytes).refusal ≡ unless b no_room 0
unfolding write_refusal
by_length t bytes b e f =
    written_by t bytes ∙ ap (λ (n : ℕ). or_else n (unless (leb (length (image_of t)) (length bytes)) no_room 0)) e ∙ ap (λ (x : Bool). unless x no_room 0) f

-- a save
same_length : (t : Table) (a b : List ℕ) → length a ≡ length b → write_refusal t a ≡ write_refusal t b
unfolding write_refusal
same_length t a b e = ap (λ (n : ℕ). or_else (read_refusal t) (unless (leb (length (image_of t)) n) no_room 0)) e

save_by : (t : Table) (states : List ℕ) (name : ℕ) (b : Bool) → valid_name name ≡ b
    → (save_reply t states name).refusal ≡ unless b bad_name (write_refusal t (behind_length (part_of states name)))
unfolding save_refusal
save_by t states name b e = saved_by t states name ∙ ap (λ (x : Bool). unless x bad_name (write_refusal t (behind_length (part_of states name)))) e

rest_length : (states : List ℕ) (name : ℕ) → valid_name name ≡ true → length (behind_length (part_of states name)) ≡ length states / 8 - 4
unfolding behind_length part_bytes
rest_length states name e = omega (arith, part_length states name e, length-drop 4 (part_of states name))

write_not_34 : (t : Table) (bytes : List ℕ) → write_refusal t bytes ≡ bad_name → ⊥
unfolding write_refusal
write_not_34 t bytes =
    or_not (read_refusal t) _ bad_name (λ e. ⊎_elim (λ z. omega arith) (⊎_elim (λ z. omega arith) (λ z. omega arith)) (read_tested t))
    (unless_not (leb (length (image_of t)) (length bytes)) no_room 0 bad_name (λ f e. omega arith) (λ e. omega arith))

outside : (t : Table) (states : List ℕ) (name : ℕ) → (save_reply t states name).refusal ≡ bad_name → (name < 1) ⊎ (8 < name)
outside t states name e =
    elim (dec_le 1 name) [
      | no low ↦ inl (lt_of_not-le low)
      | yes least ↦
          elim (dec_le name 8) [
            | no high ↦ inr (lt_of_not-le high)
            | yes most ↦
                absurd (write_not_34 t (behind_length (part_of states name)) (sym (save_by t states name true (name_valid name least most)) ∙ e))
          ]
    ]

pub writes_refuse : WritesRefuse
writes_refuse t =
    record {
      tested = λ bytes tag n which.
          let above : 22 < n = ⊎_elim (λ e. omega arith) (λ e. omega arith) which in (
            (λ e. (wrote_by n above t bytes).1 ((looked_up n above t tag).0 e)),
            λ e. (looked_up n above t tag).1 ((wrote_by n above t bytes).0 e),
          );
      fitting = λ bytes long sound.
          let none : read_refusal t ≡ 0 =
          elim (read_tested t) [
            | inl e ↦ e
            | inr (inl e) ↦ absurd (long ((wrote_by short_area (omega arith) t bytes).1 e))
            | inr (inr e) ↦ absurd (sound ((wrote_by bad_table (omega arith) t bytes).1 e))
          ] in (
            image_number t none,
            (λ h. by_length t bytes false none (lt-leb (length (image_of t)) (length bytes) h)),
            λ h. by_length t bytes true none (le-leb (length (image_of t)) (length bytes) h),
          );
      unnamed = λ states name. (
        (λ h. save_by t states name false (⊎_elim (name_below name) (name_above name) h)),
        outside t states name,
      );
      named = λ states name least most bytes e.
          let valid = name_valid name least most in
          save_by t states name true valid
          ∙ same_length t (behind_length (part_of states name)) bytes (rest_length states name valid ∙ sym e)
          ∙ sym (written_by t bytes);
    }
