-- What a restore does. Behind the name and the part it is a load of the image in the part, whatever else the area
-- holds; and in a part that a save left, also if all around it was written since, it is a load of the image that was
-- saved.
use Prim.Native.Nat.{ℕ, zero, suc, ◌+◌, ◌^◌, ◌≤◌, ◌<◌}
use mathlib.Core.Path.{◌≡◌, refl, sym, ap, ◌∙◌}
use mathlib.Core.Bool.{Bool, true, false, not}
use mathlib.Core.List.{List, ◌++◌}
use native.Mathlib.Omega.{arith}
use lib.Dec.{leb}
use lib.ListN.{length, drop, length-append}
use borrow.Author.Tests.{le-leb, ne_eqb}
use Rattle.lists.specs.Lists.{All}
use Rattle.lists.proofs.Lists.{all_take, all_drop}
use Rattle.lists.proofs.Tests.{and_pass}
use Rattle.table_rules.specs.Refusals.{unless}
use Rattle.table_rules.specs.Table.{Table}
use Rattle.table_rules.proofs.Chains.{unless_zero}
use Rattle.table_rules.proofs.Passing.{read_passed}
use Rattle.image_rules.specs.Write.{image_of}
use Rattle.image_rules.specs.declared.Loaded.{Loaded}
use Rattle.image_rules.specs.Load.{or_loaded, load_reply, load_refusal, loaded_table, table_after_load}
use Rattle.image_rules.proofs.Bounds.{image_fits, image_some}
use Rattle.state_rules.specs.Parts.{bad_name, length_bytes, valid_name, part_bytes, part_start, part_of, snapshot_of, behind_length, saved_length, saved_image}
use Rattle.state_rules.specs.Save.{save_refusal, states_after_save}
use Rattle.state_rules.specs.Restore.{holds_snapshot, part_refusal, name_refusal, restore_reply, restore_refusal, table_after_restore}
use Rattle.state_rules.proofs.Saved.{save_accepted, saved-part, snapshot_length, reads_length, reads_behind, reads_image}

-- a refused load leaves its table
load_left : (image : List ℕ) (t : Table) (n : ℕ) → load_refusal (length t) image ≡ suc n → table_after_load image t ≡ t
unfolding table_after_load
load_left image t n e = ap (λ (m : ℕ). elim m as (λ _. Table) [ zero ↦ loaded_table image t | suc k ↦ t ]) e

-- a reply that the name or the part refuses, and one that a load gives
refused_first : (n : ℕ) (reply : Loaded) → (or_loaded n reply).refusal ≡ 0 → (n ≡ 0) × (reply.refusal ≡ 0)
refused_first zero reply e = (refl, e)
refused_first (suc n) reply e = absurd (omega arith)

module _ (states : List ℕ) (name : ℕ) where
  -- the reply by the refusal of the name and its part
  reply_by : (rows n : ℕ) → name_refusal states name ≡ n → restore_reply rows states name ≡ or_loaded n (load_reply rows (saved_image (part_of states name)))
  unfolding restore_reply
  reply_by rows n e = ap (λ (m : ℕ). or_loaded m (load_reply rows (saved_image (part_of states name)))) e

  after_by : (t : Table) (n : ℕ) → restore_refusal (length t) states name ≡ n
      → table_after_restore states name t ≡ elim n [ zero ↦ table_after_load (saved_image (part_of states name)) t | suc m ↦ t ]
  unfolding table_after_restore
  after_by t n e = ap (λ (k : ℕ). elim k as (λ _. Table) [ zero ↦ table_after_load (saved_image (part_of states name)) t | suc m ↦ t ]) e

  -- refused by its name or its part, it has no slot and leaves the table
  refused_here : (t : Table) (n : ℕ) → name_refusal states name ≡ suc n
      → (record { refusal = suc n; slot = 0 } ≡ restore_reply (length t) states name) × (t ≡ table_after_restore states name t)
  unfolding restore_refusal
  refused_here t n e =
      let known = reply_by (length t) (suc n) e in
      (sym known, sym (after_by t (suc n) (ap (λ (r : Loaded). r.refusal) known)))

  pub no_name : (t : Table) → valid_name name ≡ false → (record { refusal = bad_name; slot = 0 } ≡ restore_reply (length t) states name) × (t ≡ table_after_restore states name t)
  unfolding name_refusal
  no_name t e = refused_here t 33 (ap (λ (b : Bool). unless b bad_name (part_refusal (part_of states name))) e)

  pub no_image : (t : Table) (n : ℕ) → valid_name name ≡ true → n ≡ part_refusal (part_of states name) → (n ≡ 0 → ⊥)
      → (record { refusal = n; slot = 0 } ≡ restore_reply (length t) states name) × (t ≡ table_after_restore states name t)
  unfolding name_refusal
  no_image t zero e f some = absurd (some refl)
  no_image t (suc n) e f some = refused_here t n (ap (λ (b : Bool). unless b bad_name (part_refusal (part_of states name))) e ∙ sym f)

  pub loads : (t : Table) → valid_name name ≡ true → part_refusal (part_of states name) ≡ 0
      → (restore_reply (length t) states name ≡ load_reply (length t) (saved_image (part_of states name)))
      × (table_after_restore states name t ≡ table_after_load (saved_image (part_of states name)) t)
  unfolding name_refusal restore_refusal load_refusal
  loads t e f =
      let known = reply_by (length t) 0 (ap (λ (b : Bool). unless b bad_name (part_refusal (part_of states name))) e ∙ f) in
      (known, go (load_refusal (length t) (saved_image (part_of states name))) refl (ap (λ (r : Loaded). r.refusal) known))
    where
      go : (n : ℕ) → load_refusal (length t) (saved_image (part_of states name)) ≡ n → restore_refusal (length t) states name ≡ load_refusal (length t) (saved_image (part_of states name))
          → table_after_restore states name t ≡ table_after_load (saved_image (part_of states name)) t
      go zero l r = after_by t 0 (r ∙ l)
      go (suc n) l r = after_by t (suc n) (r ∙ l) ∙ sym (load_left (saved_image (part_of states name)) t n l)

  -- so an accepted restore is an accepted load, and a refused one leaves its table
  pub restored : (t : Table) → restore_refusal (length t) states name ≡ 0
      → (load_refusal (length t) (saved_image (part_of states name)) ≡ 0) × (table_after_restore states name t ≡ table_after_load (saved_image (part_of states name)) t)
  unfolding restore_refusal restore_reply name_refusal load_refusal
  restored t e =
      let a = refused_first (name_refusal states name) (load_reply (length t) (saved_image (part_of states name))) e in
      let b = unless_zero (valid_name name) bad_name _ (omega arith) a.0 in
      (a.1, (loads t b.0 b.1).1)

  pub restore_left : (t : Table) (n : ℕ) → restore_refusal (length t) states name ≡ suc n → table_after_restore states name t ≡ t
  restore_left t n e = after_by t (suc n) e

  -- what holds of all bytes of the states holds of the image's
  pub image_all : (P : ℕ → Type 0) → All P states → All P (saved_image (part_of states name))
  unfolding saved_image behind_length part_of
  image_all P h =
      let part = part_of states name in
      let start = part_start (length states) name in
      let held : All P part = all_take P (part_bytes (length states)) (drop start states) (all_drop P start states h) in
      all_take P (saved_length part) (behind_length part) (all_drop P length_bytes part held)

-- a part that holds a snapshot of an image whose length fits is refused by neither number of its own
snapshot_passes : (image rest : List ℕ) → 0 < length image → length image < 256 ^ length_bytes → part_refusal (snapshot_of image ++ rest) ≡ 0
unfolding part_refusal holds_snapshot
snapshot_passes image rest some fits =
    let part = snapshot_of image ++ rest in
    let four : 4 ≤ length part = omega (arith, length-append (snapshot_of image) rest, snapshot_length image) in
    let says = reads_length image rest fits in
    let behind : length (behind_length part) ≡ length image + length rest = ap length (reads_behind image rest fits) ∙ length-append image rest in
    let held : holds_snapshot part ≡ true =
    and_pass (leb 4 (length part)) _ (le-leb 4 (length part) four) (ap not (ne_eqb (saved_length part) 0 (λ e. omega arith))) in
    let within : leb (saved_length part) (length (behind_length part)) ≡ true = le-leb (saved_length part) (length (behind_length part)) (omega arith) in
    rw (held, part_refusal, within) refl

-- where a save was accepted and the name's part is as it left it, whatever else was written since
module _ (t : Table) (states : List ℕ) (name : ℕ) (accepted : save_refusal t states name ≡ 0) (since : List ℕ) (same : part_of since name ≡ part_of (states_after_save t states name) name) where
  abbrev rest : List ℕ
  rest = drop (length (snapshot_of (image_of t))) (part_of states name)

  fits : length (image_of t) < 256 ^ length_bytes
  fits = omega (arith, image_fits (read_passed t (save_accepted t states name accepted).passed))

  part_is : part_of since name ≡ snapshot_of (image_of t) ++ rest
  part_is = same ∙ saved-part t states name accepted

  pub saved_image_lem : saved_image (part_of since name) ≡ image_of t
  saved_image_lem = ap saved_image part_is ∙ reads_image (image_of t) rest fits

  pub saved_loads : (other : Table)
      → (restore_reply (length other) since name ≡ load_reply (length other) (image_of t)) × (table_after_restore since name other ≡ table_after_load (image_of t) other)
  saved_loads other =
      let ok = save_accepted t states name accepted in
      let l = loads since name other ok.named (ap part_refusal part_is ∙ snapshot_passes (image_of t) rest (image_some t) fits) in
      (l.0 ∙ ap (load_reply (length other)) saved_image_lem, l.1 ∙ ap (λ (image : List ℕ). table_after_load image other) saved_image_lem)
