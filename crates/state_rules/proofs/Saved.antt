-- What a save leaves, for every table, area and name. The name's part is the snapshot and its own rest, and the area before and behind the snapshot is as
-- it was; so other parts are, which lie before or behind it, and so are the bytes left over.
use Prim.Native.Nat.{ℕ, zero, suc, ◌+◌, ◌-◌, ◌*◌, ◌^◌, ◌≤◌, ◌<◌}
use mathlib.Core.Path.{◌≡◌, refl, sym, ap, ap₂, ◌∙◌, subst}
use mathlib.Core.Bool.{true}
use mathlib.Core.List.{List, [], ◌++◌, append_assoc}
use native.Mathlib.Nat.{lt_of_not-le}
use native.Mathlib.Omega.{arith}
use native.Mathlib.Decide.{dec_le}
use lib.Dec.{leb}
use lib.ListN.{length, take, drop, length-append, length-drop, take-append-drop}
use lib.Seq.{paste, length-take-le, take-add, take_at, drop_at, drop-drop}
use borrow.Author.Tests.{leb-true, le-leb}
use Rattle.table_rules.specs.Refusals.{no_room}
use Rattle.table_rules.specs.Table.{Table}
use Rattle.table_rules.specs.Checks.{read_refusal}
use Rattle.table_rules.proofs.Chains.{or_zero, unless_zero}
use Rattle.table_rules.proofs.Windows.{window, take_window, window-before, window-after, drop-after, window-paste, before-paste, after-paste, paste-length}
use Rattle.image_rules.specs.Bytes.{bytes_of}
use Rattle.image_rules.specs.Write.{image_of, write_refusal}
use Rattle.image_rules.proofs.Bytes.{length_bytes_lem, number_at_lem}
use Rattle.image_rules.proofs.Bounds.{image_some}
use Rattle.state_rules.specs.Parts.{bad_name, length_bytes, most_name, valid_name, part_bytes, part_start, part_of, left_over, snapshot_of, behind_length}
use Rattle.state_rules.specs.Parts.{saved_length, saved_image}
use Rattle.state_rules.specs.Save.{save_refusal, states_after_save}
use Rattle.state_rules.proofs.Parts.{name_range, parts_apart, part_within, parts_inside, part_length}

pub snapshot_length : (image : List ℕ) → length (snapshot_of image) ≡ length_bytes + length image
unfolding snapshot_of
snapshot_length image = omega (arith, length-append (bytes_of 4 (length image)) image, length_bytes_lem 4 (length image))

-- a save is accepted exactly if the name is one, the table passes, and the part has room for the snapshot
pub record Accepted (t : Table) (states : List ℕ) (name : ℕ) : Type 0 where
  pub named : valid_name name ≡ true
  pub passed : read_refusal t ≡ 0
  pub room : length (snapshot_of (image_of t)) ≤ part_bytes (length states)

module _ (t : Table) (states : List ℕ) (name : ℕ) where
  room_behind : valid_name name ≡ true → length (behind_length (part_of states name)) ≡ part_bytes (length states) - 4
  unfolding behind_length
  room_behind e = omega (arith, part_length states name e, length-drop 4 (part_of states name))

  pub save_accepts : Accepted t states name → save_refusal t states name ≡ 0
  unfolding save_refusal write_refusal
  save_accepts ok =
      let area = behind_length (part_of states name) in
      let fits : length (image_of t) ≤ length area = omega (arith, room_behind ok.named, ok.room, snapshot_length (image_of t)) in
      rw (ok.named, save_refusal) (rw (ok.passed, write_refusal, le-leb (length (image_of t)) (length area) fits) refl)

  pub save_accepted : save_refusal t states name ≡ 0 → Accepted t states name
  unfolding save_refusal write_refusal
  save_accepted e =
      let area = behind_length (part_of states name) in
      let a = unless_zero (valid_name name) bad_name (write_refusal t area) (omega arith) e in
      let b = or_zero (read_refusal t) _ a.1 in
      let c = unless_zero (leb (length (image_of t)) (length area)) no_room 0 (omega arith) b.1 in
      record {
        named = a.0;
        passed = b.0;
        room = omega (arith, leb-true (length (image_of t)) (length area) c.0, room_behind a.0, snapshot_length (image_of t), image_some t);
      }

-- the states with the snapshot in them, where the save is accepted
module _ {t : Table} {states : List ℕ} {name : ℕ} (ok : Accepted t states name) where
  abbrev snapshot : List ℕ
  snapshot = snapshot_of (image_of t)

  abbrev start : ℕ
  start = part_start (length states) name

  abbrev bytes : ℕ
  bytes = part_bytes (length states)

  abbrev saved : List ℕ
  saved = paste states start snapshot (length snapshot)

  inside : start + length snapshot ≤ length states
  inside = omega (arith, ok.room, part_within (length states) name ok.named, parts_inside (length states))

  same_length : length saved ≡ length states
  same_length = paste-length states snapshot start (length snapshot) inside refl

  behind_same : drop (start + length snapshot) saved ≡ drop (start + length snapshot) states
  behind_same = after-paste states snapshot start (length snapshot) inside refl

  -- a part of theirs is a window at the place that it had
  part_saved : (other : ℕ) → part_of saved other ≡ window (part_start (length states) other) bytes saved
  unfolding part_of window
  part_saved other = ap (λ (n : ℕ). take (part_bytes n) (drop (part_start n other) saved)) same_length

  other_part : (other : ℕ) → valid_name other ≡ true → (other ≡ name → ⊥) → part_of saved other ≡ part_of states other
  unfolding part_of window
  other_part other valid differs =
      let n = length states in
      part_saved other
      ∙ elim (dec_le other name) [
        | yes d ↦
            window-before start saved states (before-paste states snapshot start (length snapshot) inside refl) (part_start n other) bytes
            (parts_apart n other name (name_range other valid).0 (omega arith))
        | no d ↦
            window-after (start + length snapshot) saved states behind_same (part_start n other) bytes
            (omega (arith, ok.room, parts_apart n name other (name_range name ok.named).0 (lt_of_not-le d)))
      ]

  left_over_lem : left_over saved ≡ left_over states
  unfolding left_over
  left_over_lem =
      ap (λ (n : ℕ). drop (most_name * part_bytes n) saved) same_length
      ∙ drop-after (start + length snapshot) saved states behind_same (most_name * bytes) (omega (arith, ok.room, part_within (length states) name ok.named))

  -- the name's own part: its front is the snapshot, and the rest of it lies behind
  own_front : take (length snapshot) (part_of saved name) ≡ snapshot
  unfolding window
  own_front =
      ap (take (length snapshot)) (part_saved name)
      ∙ take_window start bytes (length snapshot) saved ok.room
      ∙ window-paste states snapshot start (length snapshot) inside refl

  rest_of : (u : List ℕ) → length u ≡ length states → drop (length snapshot) (window start bytes u) ≡ take (bytes - length snapshot) (drop (start + length snapshot) u)
  unfolding window
  rest_of u same =
      let k = length snapshot in
      let part = drop start u in
      let whole : k + (bytes - k) ≡ bytes = omega (arith, ok.room) in
      let front : length (take k part) ≡ k = length-take-le k part (omega (arith, length-drop start u, inside)) in
      ap (λ (n : ℕ). drop k (take n part)) (sym whole)
      ∙ ap (drop k) (take-add k (bytes - k) part)
      ∙ drop_at (take k part) (take (bytes - k) (drop k part)) k front
      ∙ ap (take (bytes - k)) (drop-drop k start u)

  own_rest : drop (length snapshot) (part_of saved name) ≡ drop (length snapshot) (part_of states name)
  unfolding part_of window
  own_rest =
      ap (drop (length snapshot)) (part_saved name)
      ∙ rest_of saved same_length
      ∙ ap (take (bytes - length snapshot)) behind_same
      ∙ sym (rest_of states refl)

  own_part : part_of saved name ≡ snapshot ++ drop (length snapshot) (part_of states name)
  own_part = sym (take-append-drop (length snapshot) (part_of saved name)) ∙ ap₂ ◌++◌ own_front own_rest

module _ (t : Table) (states : List ℕ) (name : ℕ) where
  -- what holds of the states as they were, and of them with the snapshot in them, holds of them after the call
  by_outcome : (P : List ℕ → Type 0) → P states → ((ok : Accepted t states name) → P (saved ok)) → P (states_after_save t states name)
  unfolding states_after_save
  by_outcome P refused accepted = go (save_refusal t states name) refl
    where
      go : (n : ℕ) → save_refusal t states name ≡ n
          → P (elim n as (λ _. List ℕ) [ zero ↦ paste states (part_start (length states) name) (snapshot_of (image_of t)) (length (snapshot_of (image_of t))) | suc m ↦ states ])
      go zero e = accepted (save_accepted t states name e)
      go (suc n) e = refused

  pub save_length : length (states_after_save t states name) ≡ length states
  save_length = by_outcome (λ u. length u ≡ length states) refl same_length

  -- accepted or refused, a save leaves every other name's part, the rest of its own and the bytes left over as they were
  pub others_kept : (other : ℕ) → valid_name other ≡ true → (other ≡ name → ⊥) → part_of (states_after_save t states name) other ≡ part_of states other
  others_kept other valid differs = by_outcome (λ u. part_of u other ≡ part_of states other) refl (λ ok. other_part ok other valid differs)

  pub rest_kept :
      drop (length_bytes + length (image_of t)) (part_of (states_after_save t states name) name) ≡ drop (length_bytes + length (image_of t)) (part_of states name)
  rest_kept =
      by_outcome (λ u. drop (length_bytes + length (image_of t)) (part_of u name) ≡ drop (length_bytes + length (image_of t)) (part_of states name)) refl
      (λ ok. subst (λ (n : ℕ). drop n (part_of (saved ok) name) ≡ drop n (part_of states name)) (snapshot_length (image_of t)) (own_rest ok))

  pub left_over_kept : left_over (states_after_save t states name) ≡ left_over states
  left_over_kept = by_outcome (λ u. left_over u ≡ left_over states) refl left_over_lem

  -- accepted, it leaves the snapshot in the name's part, which reads back
  module _ (accepted : save_refusal t states name ≡ 0) where
    pub saved-states : states_after_save t states name ≡ paste states (part_start (length states) name) (snapshot_of (image_of t)) (length (snapshot_of (image_of t)))
    unfolding states_after_save
    saved-states = ap (λ (n : ℕ). elim n as (λ _. List ℕ) [ zero ↦ saved (save_accepted t states name accepted) | suc m ↦ states ]) accepted

    pub saved-part : part_of (states_after_save t states name) name ≡ snapshot_of (image_of t) ++ drop (length (snapshot_of (image_of t))) (part_of states name)
    saved-part = ap (λ (u : List ℕ). part_of u name) saved-states ∙ own_part (save_accepted t states name accepted)

-- a snapshot whose length fits reads back, whatever stands behind it
module _ (image rest : List ℕ) (fits : length image < 256 ^ length_bytes) where
  pub reads_length : saved_length (snapshot_of image ++ rest) ≡ length image
  unfolding saved_length snapshot_of
  reads_length = rw (append_assoc (bytes_of 4 (length image)) image rest) (number_at_lem [] 4 (length image) (image ++ rest) 0 refl fits)

  pub reads_behind : behind_length (snapshot_of image ++ rest) ≡ image ++ rest
  unfolding behind_length snapshot_of
  reads_behind =
      rw (append_assoc (bytes_of 4 (length image)) image rest) (drop_at (bytes_of 4 (length image)) (image ++ rest) 4 (length_bytes_lem 4 (length image)))

  pub reads_image : saved_image (snapshot_of image ++ rest) ≡ image
  unfolding saved_image
  reads_image = ap₂ take reads_length reads_behind ∙ take_at image rest (length image) refl
