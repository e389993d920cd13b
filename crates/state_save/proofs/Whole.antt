-- The states once a part of theirs is given back, saved or as it was: the snapshot at the part's start and every other byte as before.
use Prim.Native.Nat.{ℕ, zero, suc, ◌+◌, ◌-◌, ◌≤◌}
use mathlib.Core.Path.{◌≡◌, refl, sym, ap, ◌∙◌}
use mathlib.Core.Bool.{Bool, true, false}
use mathlib.Core.List.{List, ◌++◌, append_assoc}
use native.Mathlib.Omega.{arith}
use lib.ListN.{length, take, drop, take-append-drop}
use lib.Seq.{paste, take_all, drop-drop, drop-append-le}
use borrow.Rule.Slice.PartMut.{put_mid, put_same}
use Rattle.table_rules.specs.Refusals.{unless}
use Rattle.table_rules.specs.Table.{Table}
use Rattle.image_rules.specs.declared.Written.{Written}
use Rattle.image_rules.specs.Write.{image_of, write_refusal, write_reply}
use Rattle.state_rules.specs.Parts.{bad_name, valid_name, part_bytes, part_start, part_of, snapshot_of, behind_length}
use Rattle.state_rules.specs.Save.{save_refusal, save_reply, states_after_save}
use Rattle.state_rules.proofs.Parts.{part_length}
use Rattle.state_rules.proofs.Saved.{save_accepted}
use Rattle.state_part.proofs.Places.{part_here}
use Rattle.state_save.specs.Part.{part_after_save}
use Rattle.state_save.proofs.Parts.{after_by}

module _ (t : Table) (states : List ℕ) (name : ℕ) where
  abbrev area : List ℕ
  area = behind_length (part_of states name)

  refusal_by : (b : Bool) → valid_name name ≡ b → save_refusal t states name ≡ unless b bad_name (write_refusal t area)
  unfolding save_refusal
  refusal_by b e = ap (λ (c : Bool). unless c bad_name (write_refusal t area)) e

  reply_by : (n : ℕ) → save_refusal t states name ≡ n → save_reply t states name ≡ elim n [ zero ↦ record { refusal = 0; length = length (image_of t) } | suc m ↦ record { refusal = suc m; length = 0 } ]
  unfolding save_reply
  reply_by n e = ap (λ (k : ℕ). elim k as (λ _. Written) [ zero ↦ record { refusal = 0; length = length (image_of t) } | suc m ↦ record { refusal = suc m; length = 0 } ]) e

  states_by : (n : ℕ) → save_refusal t states name ≡ n
      → states_after_save t states name ≡ elim n [ zero ↦ paste states (part_start (length states) name) (snapshot_of (image_of t)) (length (snapshot_of (image_of t))) | suc m ↦ states ]
  unfolding states_after_save
  states_by n e =
      ap (λ (k : ℕ). elim k as (λ _. List ℕ) [ zero ↦ paste states (part_start (length states) name) (snapshot_of (image_of t)) (length (snapshot_of (image_of t))) | suc m ↦ states ]) e

  pub unnamed : valid_name name ≡ false → (record { refusal = bad_name; length = 0 } ≡ save_reply t states name) × (states ≡ states_after_save t states name)
  unnamed e = let known = refusal_by false e in (sym (reply_by bad_name known), sym (states_by bad_name known))

  module _ (valid : valid_name name ≡ true) where
    -- behind the name it is the writer's
    pub named-reply : save_reply t states name ≡ write_reply t area
    unfolding write_reply
    named-reply = reply_by (write_refusal t area) (refusal_by true valid)

    module _ {start end : ℕ} (starts : start ≡ part_start (length states) name) (ends : end ≡ part_start (length states) name + part_bytes (length states)) where
      abbrev part : List ℕ
      part = take (end - start) (drop start states)

      here : part ≡ part_of states name
      here = part_here states name starts ends

      -- the snapshot, the rest of the part and what lies behind the part
      joined : (snapshot : List ℕ) → length snapshot ≤ length part
          → put_mid start (end - start) states (snapshot ++ drop (length snapshot) part) ≡ paste states start snapshot (length snapshot)
      joined snapshot fits =
          let k = length snapshot in
          let behind = drop (end - start) (drop start states) in
          ap (λ (l : List ℕ). take start states ++ l)
          (append_assoc snapshot (drop k part) behind
          ∙ ap (λ (l : List ℕ). snapshot ++ l)
          (sym (drop-append-le k part behind fits) ∙ ap (drop k) (take-append-drop (end - start) (drop start states)) ∙ drop-drop k start states))
          ∙ sym (append_assoc (take start states) snapshot (drop (start + k) states))
          ∙ ap (λ (l : List ℕ). take start states ++ l ++ drop (start + k) states) (sym (take_all k snapshot (omega arith)))

      pub states-saved : (last : List ℕ) → last ≡ part_after_save t part → put_mid start (end - start) states last ≡ states_after_save t states name
      states-saved last left = go (write_refusal t area) refl
        where
          go : (n : ℕ) → write_refusal t area ≡ n → put_mid start (end - start) states last ≡ states_after_save t states name
          go zero e =
              let known : save_refusal t states name ≡ 0 = refusal_by true valid ∙ e in
              let snapshot = snapshot_of (image_of t) in
              let fits : length snapshot ≤ length part =
              omega (arith, (save_accepted t states name known).room, part_length states name valid, ap length here) in
              ap (put_mid start (end - start) states) (left ∙ after_by t part 0 (ap (λ (p : List ℕ). write_refusal t (behind_length p)) here ∙ e))
              ∙ joined snapshot fits
              ∙ ap (λ (a : ℕ). paste states a snapshot (length snapshot)) starts
              ∙ sym (states_by 0 known)
          go (suc n) e =
              ap (put_mid start (end - start) states) (left ∙ after_by t part (suc n) (ap (λ (p : List ℕ). write_refusal t (behind_length p)) here ∙ e))
              ∙ put_same start (end - start) states
              ∙ sym (states_by (suc n) (refusal_by true valid ∙ e))
