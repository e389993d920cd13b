-- Demand 2 on named states, for sound tables. A save of one is accepted, since its snapshot fits the part; a restore from that part is a load of its image,
-- which is refused by 23 alone and gives the rows of the table. And of any states: a restore by the figures of its part.
use Prim.Native.Nat.{ℕ, zero, suc, ◌+◌, ◌-◌, ◌*◌, ◌/◌, ◌≤◌, ◌<◌}
use mathlib.Core.Path.{◌≡◌, refl, sym, ap, ap₂, ◌∙◌}
use mathlib.Core.Bool.{Bool, true, false, ◌||◌, false≢true}
use mathlib.Core.Logic.{◌⊎◌, inl, inr}
use mathlib.Core.List.{List}
use native.Mathlib.Nat.{lt_of_not-le}
use native.Mathlib.Omega.{arith}
use native.Mathlib.Decide.{dec_le}
use lib.Dec.{leb, ltb, eqb}
use lib.ListN.{length, take, drop}
use borrow.Author.Tests.{lt-ltb, le-ltb, eq-eqb, ne_eqb}
use Rattle.table_rules.specs.Refusals.{short_area, unless, when}
use Rattle.table_rules.specs.Geometry.{table_rows}
use Rattle.table_rules.specs.Table.{Table, order_of}
use Rattle.table_rules.proofs.Chains.{unless_zero}
use Rattle.image_rules.specs.declared.Written.{Written}
use Rattle.image_rules.specs.declared.Loaded.{Loaded}
use Rattle.image_rules.specs.Write.{image_of}
use Rattle.image_rules.specs.Load.{or_loaded, load_reply, table_after_load}
use Rattle.image_rules.proofs.ReadBack.{reads_back}
use Rattle.image_rules.proofs.Accepting.{refused_short}
use Rattle.state_rules.specs.Parts.{valid_name, part_bytes, part_start, part_of, left_over, saved_image}
use Rattle.state_rules.specs.Save.{save_refusal, save_reply, states_after_save}
use Rattle.state_rules.specs.Restore.{name_refusal, restore_reply, restore_refusal, table_after_restore}
use Rattle.state_rules.proofs.Parts.{name_valid}
use Rattle.state_rules.proofs.Saved.{snapshot_length, save_accepts, save_length, others_kept, rest_kept, left_over_kept}
use Rattle.state_rules.proofs.Restored.{restore_left, loads, saved_loads}
use Rattle.history.specs.Trace.{overlaid}
use Rattle.history.specs.Images.{image_size, saving, states_saved, bytes_of_name, RestoresBack, RefusesRestore}
use Rattle.history.specs.LoadTests.{part_from, length_in, image_in, restore_refusal_of}
use Rattle.history.specs.Demands.{SaveKeeps, RestoreLoads}
use Rattle.history.proofs.Invariant.{Invariant}
use Rattle.history.proofs.LoadTests.{restore_refusal_lem, restored_image}
use Rattle.history.proofs.RefinesRefusals.{invariant_reads}
use Rattle.history.proofs.ImagesFit.{invariant_fits, invariant_accepted}
use Rattle.history.proofs.ImagesWritten.{seen_invariant, seen_image}
use Rattle.history.proofs.ImagesBack.{image_rows, image_size_lem}

-- the image of a sound table is refused by 23 alone
image_refused : {t : Table} → Invariant t → (rows : ℕ)
    → load_reply rows (image_of t) ≡ record { refusal = unless (leb (table_rows (order_of t)) rows) short_area 0; slot = 0 }
image_refused {t} invariant rows =
    refused_short rows (image_of t) (table_rows (order_of t)) (invariant_accepted invariant (table_rows (order_of t)) (omega arith))
    ∙ ap (λ (order : ℕ). record { refusal = unless (leb (table_rows order) rows) short_area 0; slot = 0 }) (reads_back t (invariant_fits invariant)).order

-- saved and restored as calls
module _
    {t : Table} (invariant : Invariant t) (area : Table) (states : List ℕ) (name : ℕ) (least : 1 ≤ name) (most : name ≤ 8)
    (rows : table_rows (order_of t) ≤ length area) (long : 4 + image_size t ≤ length states / 8)
  where
    abbrev seen : Table
    seen = overlaid t area

    same-image : image_of seen ≡ image_of t
    same-image = seen_image invariant area rows

    accepted : save_refusal seen states name ≡ 0
    unfolding part_bytes
    accepted =
        save_accepts seen states name
        (record {
          named = name_valid name least most;
          passed = invariant_reads seen (seen_invariant invariant area rows);
          room = omega (arith, snapshot_length (image_of seen), ap length same-image, image_size_lem invariant);
        })

    replied : saving name t area states ≡ record { refusal = 0; length = image_size t }
    unfolding saving save_reply
    replied =
        ap (λ (n : ℕ).
        elim n as (λ _. Written) [ zero ↦ record { refusal = 0; length = length (image_of seen) } | suc m ↦ record { refusal = suc m; length = 0 } ]) accepted
        ∙ ap (λ (n : ℕ). record { refusal = 0; length = n }) (ap length same-image ∙ image_size_lem invariant)

    -- whatever was written elsewhere since
    module _ (since : List ℕ) (other : Table) (same : bytes_of_name since name ≡ bytes_of_name (states_saved name t area states) name) where
      as_load :
          (restore_reply (length other) since name ≡ load_reply (length other) (image_of seen))
          × (table_after_restore since name other ≡ table_after_load (image_of seen) other)
      unfolding states_saved bytes_of_name part_from part_of part_bytes part_start
      as_load = saved_loads seen states name accepted since same other

      refused-by-room : restore_reply (length other) since name ≡ record { refusal = unless (leb (table_rows (order_of t)) (length other)) short_area 0; slot = 0 }
      refused-by-room = as_load.0 ∙ ap (load_reply (length other)) same-image ∙ image_refused invariant (length other)

      rows_back : table_rows (order_of t) ≤ length other → take (table_rows (order_of t)) (table_after_restore since name other) ≡ take (table_rows (order_of t)) t
      rows_back roomy =
          ap (take (table_rows (order_of t))) (as_load.1 ∙ ap (λ (image : List ℕ). table_after_load image other) same-image) ∙ image_rows invariant other roomy

    pub restores-back : RestoresBack t area states name
    restores-back = record { replied = replied; refused = refused-by-room; rows = rows_back }

-- a save of any table, as a call
pub save_keeps : SaveKeeps
unfolding bytes_of_name part_from part_of part_bytes part_start left_over
save_keeps t states name =
    record {
      long = save_length t states name;
      others = λ other least most differs. others_kept t states name other (name_valid other least most) differs;
      rest = rest_kept t states name;
      unused =
          ap (λ (n : ℕ). drop (8 * (n / 8)) (states_after_save t states name)) (sym (save_length t states name)) ∙ left_over_kept t states name;
    }

-- a test of a chain that stops it, and one that lets it go on
stopped : (met : Bool) (number rest : ℕ) → met ≡ true → when met number rest ≡ number
stopped true number rest e = refl
stopped false number rest e = absurd (false≢true e)

goes_on : (met : Bool) (number rest : ℕ) → met ≡ false → when met number rest ≡ rest
goes_on false number rest e = refl
goes_on true number rest e = absurd (false≢true (sym e))

-- a restore from any states, by its refusals in figures
module _ (states : List ℕ) (name : ℕ) where
  abbrev size : ℕ
  size = length states / 8

  refuses : (other : Table) (n : ℕ) → restore_refusal_of states name ≡ suc n → RefusesRestore states name other (suc n)
  unfolding restore_reply restore_refusal
  refuses other n e =
      let image = load_reply (length other) (saved_image (part_of states name)) in
      let known : restore_reply (length other) states name ≡ record { refusal = suc n; slot = 0 } =
      ap (λ (m : ℕ). or_loaded m image) (restore_refusal_lem states name ∙ e) in
      record { replied = known; left = restore_left states name other n (ap (λ (r : Loaded). r.refusal) known) }

  unnamed : (name < 1) ⊎ (8 < name) → restore_refusal_of states name ≡ 34
  unfolding restore_refusal_of
  unnamed outside = stopped (ltb name 1 || ltb 8 name) 34 _ (any-outside outside)
    where
      any-outside : (name < 1) ⊎ (8 < name) → (ltb name 1 || ltb 8 name) ≡ true
      any-outside (inl low) = ap (λ (b : Bool). b || ltb 8 name) (lt-ltb name 1 low)
      any-outside (inr high) = ap (λ (b : Bool). b || ltb 8 name) (le-ltb name 1 (omega arith)) ∙ lt-ltb 8 name high

  module _ (least : 1 ≤ name) (most : name ≤ 8) where
    named : restore_refusal_of states name
        ≡ when (ltb size 4) 35 (when (eqb (length_in states name) 0) 35 (when (ltb (size - 4) (length_in states name)) 7 0))
    unfolding restore_refusal_of
    named = goes_on (ltb name 1 || ltb 8 name) 34 _ (ap₂ ◌||◌ (le-ltb name 1 least) (le-ltb 8 name most))

    part-short : size < 4 → restore_refusal_of states name ≡ 35
    part-short few = named ∙ stopped (ltb size 4) 35 _ (lt-ltb size 4 few)

    -- one with a length is refused by that alone
    part-long : 4 ≤ size → restore_refusal_of states name ≡ when (eqb (length_in states name) 0) 35 (when (ltb (size - 4) (length_in states name)) 7 0)
    part-long four = named ∙ goes_on (ltb size 4) 35 _ (le-ltb size 4 four)

    part_none : length_in states name ≡ 0 → restore_refusal_of states name ≡ 35
    part_none e =
        elim (dec_le 4 size) [
          | yes four ↦ part-long four ∙ stopped (eqb (length_in states name) 0) 35 _ (eq-eqb (length_in states name) 0 e)
          | no few ↦ part-short (lt_of_not-le few)
        ]

    part-holds : 4 ≤ size → 0 < length_in states name → restore_refusal_of states name ≡ when (ltb (size - 4) (length_in states name)) 7 0
    part-holds four some = part-long four ∙ goes_on (eqb (length_in states name) 0) 35 _ (ne_eqb (length_in states name) 0 (λ z. omega arith))

    part-past : 4 ≤ size → size < 4 + length_in states name → restore_refusal_of states name ≡ 7
    part-past four less =
        part-holds four (omega arith) ∙ stopped (ltb (size - 4) (length_in states name)) 7 0 (lt-ltb (size - 4) (length_in states name) (omega arith))

    part-passes : 0 < length_in states name → 4 + length_in states name ≤ size → restore_refusal_of states name ≡ 0
    part-passes some fits =
        part-holds (omega arith) some ∙ goes_on (ltb (size - 4) (length_in states name)) 7 0 (le-ltb (size - 4) (length_in states name) (omega arith))

    as-load-of : (other : Table) → restore_refusal_of states name ≡ 0
        → (restore_reply (length other) states name ≡ load_reply (length other) (image_in states name))
        × (table_after_restore states name other ≡ table_after_load (image_in states name) other)
    unfolding name_refusal
    as-load-of other e =
        let valid = name_valid name least most in
        let passed : name_refusal states name ≡ 0 = restore_refusal_lem states name ∙ e in
        let l = loads states name other valid (unless_zero (valid_name name) 34 _ (omega arith) passed).1 in
        let image = restored_image states name e in
        (l.0 ∙ ap (load_reply (length other)) image, l.1 ∙ ap (λ (bytes : List ℕ). table_after_load bytes other) image)

-- a restore of any states, as a call
pub restore_loads : RestoreLoads
restore_loads states name other =
    record {
      unnamed = λ outside. refuses states name other 33 (unnamed states name outside);
      short = λ least most few. refuses states name other 34 (part-short states name least most few);
      none = λ least most e. refuses states name other 34 (part_none states name least most e);
      past = λ least most four less. refuses states name other 6 (part-past states name least most four less);
      loads = λ least most some fits. as-load-of states name least most other (part-passes states name least most some fits);
    }
