-- Where a tag is found no slot with it stands before: among a bucket's slots the ones passed over have it not, and
-- neither have the buckets passed over. What the calls make of that place is then read off its row, which is a row of
-- the table.
use Prim.Native.Nat.{ℕ, zero, suc, ◌+◌, ◌-◌, ◌*◌, ◌^◌, ◌≤◌, ◌<◌}
use native.Mathlib.Omega.{arith}
use native.Mathlib.Decide.{ℕ_discrete, dec_le}
use native.Mathlib.Nat.{lt_of_not-le}
use mathlib.Core.Path.{◌≡◌, refl, sym, ◌∙◌, ap, subst}
use mathlib.Core.Bool.{Bool, true, false, ◌&&◌, false≢true}
use mathlib.Core.Logic.{◌⊎◌, inl, inr}
use mathlib.Core.List.{List, [], ◌∷◌, ◌++◌, map}
use mathlib.Core.Option.{Option, none, some, none-ne-some, some-injective}
use lib.Dec.{eqb, leb}
use lib.Pow.{pow_pos}
use lib.IntN.{ℤ, pos, negsuc}
use mir.Syntax.{w32}
use mir.Val.{to_z}
use lib.ListN.{length, get_or, set, drop, replicate, length-set}
use lib.Seq.{get_or-take, get_or-drop, get_or-set_same, get_or-set_other}
use borrow.Author.Tests.{eq-eqb, eqb-true}
use Rattle.lists.specs.Lists.{count_from, every, All}
use Rattle.lists.proofs.Tests.{and_pass, and_second, every_all}
use Rattle.metric_rules.specs.Row.{Row, word, wide, row_width, zero_row, tag_at, measures_at, code_at, mark_at, day_at}
use Rattle.metric_rules.specs.Row.{tag_of, profile_of, mark_of, day_of, is_live, with_mark, measure}
use Rattle.metric_rules.specs.Validity.{valid_tag, valid_measures, valid_day}
use Rattle.metric_rules.specs.Distance.{valid_metric}
use Rattle.metric_rules.specs.declared.Profile.{Profile}
use Rattle.table_rules.specs.declared.LookedUp.{LookedUp}
use Rattle.table_rules.specs.Refusals.{bad_tag, bad_measure, bad_day, already_live, not_live, short_area, bad_table, unless, or_else}
use Rattle.table_rules.specs.Geometry.{valid_order, room, buckets_of, header_row, sizes_row, first_slot, table_rows, work_rows}
use Rattle.table_rules.specs.Table.{Table, row_at, order_of, table_space, built_of, live_of, slots_of, pair_row, put_sizes}
use Rattle.table_rules.specs.Passed.{Passed}
use Rattle.table_rules.specs.Checks.{frame_refusal, header_passes, marks_pass, read_refusal, change_refusal}
use Rattle.table_rules.specs.declared.Added.{Added}
use Rattle.table_rules.specs.Add.{add_refusal, add_target, added, add_reply}
use Rattle.table_rules.specs.declared.Removed.{Removed}
use Rattle.table_rules.specs.Rebuild.{Rebuilt}
use Rattle.table_rules.specs.Remove.{remove_refusal, marked, after_deletion, removed, remove_reply, table_after_remove}
use Rattle.dues_rules.specs.Listed.{most_listed, no_dues, weight_at, is_found, is_weight, pays}
use Rattle.dues_rules.specs.Listed.{weights_refusal, weights_reply, area_after, dues_refusal, dues_reply, dues_after}
use Rattle.table_rules.specs.LookUp.{Place, place_from, place_in, find, is_live_tag, live_tag_refusal, look_up_refusal, not_found, look_up_reply}
use Rattle.table_rules.proofs.Live.{slots_length, is_live_lem}
use Rattle.table_rules.proofs.Finding.{Found, found}
use Rattle.table_rules.proofs.Passing.{read_passed, change_passed, bucket_within, built_inside}
use Rattle.table_rules.proofs.Fill.{passed_roomy}
use Rattle.table_rules.proofs.Chains.{or_zero, unless_zero, when_zero, or_not, unless_not}
use Rattle.table_rules.proofs.Changes.{marked_live}
use Rattle.table_rules.proofs.Deletion.{Deletion, deletion}
use Rattle.table_rules.proofs.Deletion.Deletion.{empties, ends, rebuilds}
use Rattle.history.specs.Figures.{cents_aKilo, in_cents}
use Rattle.history.specs.Places.{word_in, built_size, live_size, slot_row, profile_in}
use Rattle.history.specs.Slots.{TagAt, FirstAt, RepliesFirst, Struck, StrikesFirst, PaysFirst, NoneAt}
use Rattle.history.specs.Demands.{FindsFirst}
use Rattle.history.proofs.Figured.{board_figured}

-- a slot that has the tag: its row is live, and its tag is that
abbrev Has : ℕ → Row → Type 0
Has tag row = (is_live row ≡ true) × (tag_of row ≡ tag)

has_both : (tag : ℕ) (row : Row) → Has tag row → (is_live row && eqb (tag_of row) tag) ≡ true
has_both tag row h = and_pass (is_live row) (eqb (tag_of row) tag) h.0 (eq-eqb (tag_of row) tag h.1)

-- among the slots from slot i on: the place is in that bucket, and before it no slot has the tag
bucket_from : (tag k i : ℕ) (slots : List Row) (place : Place) → place_from tag k i slots ≡ some place → place.bucket ≡ k
unfolding place_from
bucket_from tag k i [] place e = absurd (none-ne-some place e)
bucket_from tag k i (r ∷ rs) place e = go (is_live r && eqb (tag_of r) tag) (bucket_from tag k (suc i) rs place) e
  where
    go :
        (b : Bool) → (place_from tag k (suc i) rs ≡ some place → place.bucket ≡ k)
        → elim b [ true ↦ some (record { bucket = k; slot = i; row = r }) | false ↦ place_from tag k (suc i) rs ] ≡ some place
        → place.bucket ≡ k
    go true rest e = ap (λ (p : Place). p.bucket) (sym (some-injective (record { bucket = k; slot = i; row = r }) place e))
    go false rest e = rest e

before_from :
    (tag k i : ℕ) (slots : List Row) (place : Place) → place_from tag k i slots ≡ some place
    → (j : ℕ) → i + j < place.slot → Has tag (get_or slots j []) → ⊥
unfolding place_from
before_from tag k i [] place e j low has = none-ne-some place e
before_from tag k i (r ∷ rs) place e j low has =
    go (is_live r && eqb (tag_of r) tag) refl (before_from tag k (suc i) rs place) e j low has
  where
    go :
        (b : Bool) → (is_live r && eqb (tag_of r) tag) ≡ b
        → (place_from tag k (suc i) rs ≡ some place → (n : ℕ) → suc i + n < place.slot → Has tag (get_or rs n []) → ⊥)
        → elim b [ true ↦ some (record { bucket = k; slot = i; row = r }) | false ↦ place_from tag k (suc i) rs ] ≡ some place
        → (n : ℕ) → i + n < place.slot → Has tag (get_or (r ∷ rs) n []) → ⊥
    go true h rest e n low has =
        let at : place.slot ≡ i = ap (λ (p : Place). p.slot) (sym (some-injective (record { bucket = k; slot = i; row = r }) place e)) in
        absurd (omega (arith, at, low))
    go false h rest e zero low has = false≢true (sym h ∙ has_both tag r has)
    go false h rest e (suc n) low has = rest e n (omega (arith, low)) has

-- none where none is found
none_from : (tag k i : ℕ) (slots : List Row) → place_from tag k i slots ≡ none → (j : ℕ) → j < length slots → Has tag (get_or slots j []) → ⊥
unfolding place_from
none_from tag k i [] e j low has = absurd (omega (arith, low))
none_from tag k i (r ∷ rs) e j low has = go (is_live r && eqb (tag_of r) tag) refl (none_from tag k (suc i) rs) e j low has
  where
    go :
        (b : Bool) → (is_live r && eqb (tag_of r) tag) ≡ b
        → (place_from tag k (suc i) rs ≡ none → (n : ℕ) → n < length rs → Has tag (get_or rs n []) → ⊥)
        → ◌≡◌ {A = Option Place} (elim b [ true ↦ some (record { bucket = k; slot = i; row = r }) | false ↦ place_from tag k (suc i) rs ]) none
        → (n : ℕ) → n < length (r ∷ rs) → Has tag (get_or (r ∷ rs) n []) → ⊥
    go true h rest e n low has = none-ne-some (record { bucket = k; slot = i; row = r }) (sym e)
    go false h rest e zero low has = false≢true (sym h ∙ has_both tag r has)
    go false h rest e (suc n) low has = rest e n (omega (arith, low)) has

module _ (t : Table) (tag : ℕ) where
  -- among the buckets from a on
  Before : Place → ℕ → ℕ → Type 0
  Before place c j = (place.bucket < c) ⊎ ((place.bucket ≡ c) × (place.slot ≤ j))

  before_in :
      (a n : ℕ) (place : Place) → place_in t tag (count_from a n) ≡ some place
      → (c j : ℕ) → a ≤ c → c < a + n → j < length (slots_of t c) → Has tag (get_or (slots_of t c) j []) → Before place c j
  unfolding place_in count_from Before
  before_in a zero place e c j low high in-it has = absurd (omega (arith, low, high))
  before_in a (suc n) place e c j low high in-it has =
      go (place_from tag a 0 (slots_of t a)) refl (before_in (suc a) n place) e
    where
      go :
          (o : Option Place) → place_from tag a 0 (slots_of t a) ≡ o
          → (place_in t tag (count_from (suc a) n) ≡ some place
          → (d i : ℕ) → suc a ≤ d → d < suc a + n → i < length (slots_of t d) → Has tag (get_or (slots_of t d) i []) → Before place d i)
          → elim o [ some p ↦ some p | none ↦ place_in t tag (count_from (suc a) n) ] ≡ some place → Before place c j
      go (some p) f rest e =
          let at : place.bucket ≡ a = bucket_from tag a 0 (slots_of t a) place (f ∙ e) in
          elim (ℕ_discrete c a) [
            | yes same ↦
                elim (dec_le place.slot j) [
                  | yes l ↦ inr (at ∙ sym same, l)
                  | no d ↦
                      (let lower : j < place.slot = lt_of_not-le d in
                      let there : Has tag (get_or (slots_of t a) j []) = subst (λ (k : ℕ). Has tag (get_or (slots_of t k) j [])) same has in
                      absurd (before_from tag a 0 (slots_of t a) place (f ∙ e) j (omega (arith, lower)) there))
                ]
            | no ne ↦ inl (omega (arith, at, ne, low))
          ]
      go none f rest e =
          elim (ℕ_discrete c a) [
            | yes same ↦
                (let there : Has tag (get_or (slots_of t a) j []) = subst (λ (k : ℕ). Has tag (get_or (slots_of t k) j [])) same has in
                absurd (none_from tag a 0 (slots_of t a) f j (subst (λ (k : ℕ). j < length (slots_of t k)) same in-it) there))
            | no ne ↦ rest e c j (omega (arith, ne, low)) (omega (arith, high)) in-it has
          ]

  none_in :
      (a n : ℕ) → place_in t tag (count_from a n) ≡ none
      → (c j : ℕ) → a ≤ c → c < a + n → j < length (slots_of t c) → Has tag (get_or (slots_of t c) j []) → ⊥
  unfolding place_in count_from
  none_in a zero e c j low high in-it has = absurd (omega (arith, low, high))
  none_in a (suc n) e c j low high in-it has = go (place_from tag a 0 (slots_of t a)) refl (none_in (suc a) n) e
    where
      go :
          (o : Option Place) → place_from tag a 0 (slots_of t a) ≡ o
          → (place_in t tag (count_from (suc a) n) ≡ none
          → (d i : ℕ) → suc a ≤ d → d < suc a + n → i < length (slots_of t d) → Has tag (get_or (slots_of t d) i []) → ⊥)
          → ◌≡◌ {A = Option Place} (elim o [ some p ↦ some p | none ↦ place_in t tag (count_from (suc a) n) ]) none → ⊥
      go (some p) f rest e = none-ne-some p (sym e)
      go none f rest e =
          elim (ℕ_discrete c a) [
            | yes same ↦
                (let there : Has tag (get_or (slots_of t a) j []) = subst (λ (k : ℕ). Has tag (get_or (slots_of t k) j [])) same has in
                none_from tag a 0 (slots_of t a) f j (subst (λ (k : ℕ). j < length (slots_of t k)) same in-it) there)
            | no ne ↦ rest e c j (omega (arith, ne, low)) (omega (arith, high)) in-it has
          ]

-- a built slot's row is a row of the table
pub slot_row_lem : (t : Table) (b i : ℕ) → i < built_of t b → get_or (slots_of t b) i [] ≡ row_at t (first_slot (order_of t) b + i)
unfolding slots_of row_at
slot_row_lem t b i low = get_or-take (built_of t b) _ i [] low ∙ get_or-drop (first_slot (order_of t) b) t i []

-- the claim's words are the views
module _ (t : Table) (tag b i : ℕ) where
  to_has : TagAt t tag b i → Has tag (row_at t (first_slot (order_of t) b + i))
  unfolding row_at first_slot order_of header_row room word mark_of mark_at tag_of tag_at wide
  to_has at = (is_live_lem _ at.mark, at.tagged)

  from_has : b ≤ order_of t → i < built_of t b → Has tag (row_at t (first_slot (order_of t) b + i)) → TagAt t tag b i
  unfolding row_at first_slot order_of built_of header_row sizes_row room word is_live mark_of mark_at tag_of tag_at wide
  from_has in_order within has = record { in_order = in_order; within = within; mark = eqb-true _ 0 has.0; tagged = has.1 }

  at_in_order : TagAt t tag b i → b ≤ order_of t
  unfolding order_of row_at header_row word
  at_in_order at = at.in_order

  at_within : TagAt t tag b i → i < built_of t b
  unfolding built_of row_at sizes_row word
  at_within at = at.within

-- the place that is found is the first
module _ {t : Table} (passed : Passed t) (tag : ℕ) (place : Place) (e : find t tag ≡ some place) where
  at : Found t tag place
  at = found t tag place e

  built_at_lem : place.slot < built_of t place.bucket
  built_at_lem = omega (arith, at.within, slots_length (passed_roomy passed) place.bucket at.in_order)

  pub place_row : place.row ≡ row_at t (first_slot (order_of t) place.bucket + place.slot)
  place_row = sym at.row ∙ slot_row_lem t place.bucket place.slot built_at_lem

  pub first_at : FirstAt t tag place.bucket place.slot
  unfolding find buckets_of Before
  first_at =
      record {
        here =
            from_has t tag place.bucket place.slot at.in_order built_at_lem
            (subst (Has tag) place_row (at.live, at.tagged));
        first = λ c j there.
            let in_order = at_in_order t tag c j there in
            let built = at_within t tag c j there in
            before_in t tag 0 (suc (order_of t)) place e c j (omega arith) (omega (arith, in_order))
            (omega (arith, built, slots_length (passed_roomy passed) c in_order))
            (subst (Has tag) (sym (slot_row_lem t c j built)) (to_has t tag c j there));
      }

-- its profile and its day are those words
module _ (t : Table) (b i : ℕ) (row : Row) (e : row ≡ row_at t (first_slot (order_of t) b + i)) where
  profile_in_lem : profile_of row ≡ profile_in t (slot_row t b i)
  unfolding row_at first_slot order_of header_row room word profile_of measures_at code_at wide
  profile_in_lem = ap profile_of e

  day_in_lem : day_of row ≡ word_in t (slot_row t b i) 12
  unfolding row_at first_slot order_of header_row room word day_of day_at
  day_in_lem = ap day_of e

  first_measure : measure (profile_of row) 0 ≡ to_z w32 (word_in t (slot_row t b i) 2)
  unfolding row_at first_slot order_of header_row room word profile_of measures_at code_at wide measure
  first_measure = ap (λ (r : Row). measure (profile_of r) 0) e

-- the slot found lies in the table
inside : {t : Table} (passed : Passed t) (tag : ℕ) (place : Place) → find t tag ≡ some place → slot_row t place.bucket place.slot < length t
unfolding row_at first_slot order_of header_row room word
inside {t} passed tag place e =
    let there : Found t tag place = found t tag place e in
    omega (
      arith,
      there.within,
      slots_length (passed_roomy passed) place.bucket there.in_order,
      built_inside passed place.bucket there.in_order,
    )

-- after it is struck, where more than a quarter of the room is live nothing more is done
deletion_ends : {t : Table} (passed : Passed t) (tag : ℕ) (place : Place) → find t tag ≡ some place
    → 2 ^ place.bucket < 4 * (live_size t place.bucket - 1) → {r : Rebuilt} → Deletion (marked t place) place.bucket r → r.table ≡ marked t place
unfolding live_of row_at sizes_row word room
deletion_ends {t} passed tag place e more d =
    let there : Found t tag place = found t tag place e in
    let within : place.slot < room place.bucket =
    omega (
      arith,
      there.within,
      slots_length (passed_roomy passed) place.bucket there.in_order,
      (bucket_within passed place.bucket there.in_order).1,
    ) in
    go (marked_live t place there.in_order passed.framed.long within) d
  where
    go : live_of (marked t place) place.bucket ≡ live_of t place.bucket - 1 → {r : Rebuilt} → Deletion (marked t place) place.bucket r
        → r.table ≡ marked t place
    go live (empties z) = absurd (omega (arith, z, live, more))
    go live (ends positive enough) = refl
    go live (rebuilds positive few step) = absurd (omega (arith, few, live, more))

-- a tag that has to be live is found, where its tests pass
pub missing : (t : Table) (tag : ℕ) → live_tag_refusal t tag ≡ 0 → find t tag ≡ none → ⊥
unfolding is_live_tag
missing t tag tests f =
    let valid = unless_zero (valid_tag tag) bad_tag _ (omega arith) tests in
    let live = unless_zero (is_live_tag t tag) not_live 0 (omega arith) valid.1 in
    false≢true (ap (λ (o : Option Place). elim o as (λ _. Bool) [ some place ↦ true | none ↦ false ]) (sym f) ∙ live.0)

-- a look up that is accepted
look_up_first : (t : Table) (tag : ℕ) → (look_up_reply t tag).refusal ≡ 0 → RepliesFirst t tag (look_up_reply t tag)
unfolding look_up_reply look_up_refusal not_found
look_up_first t tag h = go (look_up_refusal t tag) (find t tag) refl refl h
  where
    reply : ℕ → Option Place → LookedUp
    reply n o =
        elim n [
          | suc k ↦ not_found (suc k)
          | zero ↦ elim o [
            | some place ↦ record { refusal = 0; bucket = place.bucket; profile = profile_of place.row; day = day_of place.row }
            | none ↦ not_found not_live
          ]
        ]

    go : (n : ℕ) (o : Option Place) → look_up_refusal t tag ≡ n → find t tag ≡ o → (reply n o).refusal ≡ 0 → RepliesFirst t tag (reply n o)
    go (suc n) o e f h = absurd (omega (arith, h))
    go zero none e f h = absurd (omega (arith, h))
    go zero (some place) e f h =
        let passed = read_passed t (or_zero (read_refusal t) _ e).0 in
        record {
          slot = place.slot;
          first = first_at passed tag place f;
          profile = profile_in_lem t place.bucket place.slot place.row (place_row passed tag place f);
          day = day_in_lem t place.bucket place.slot place.row (place_row passed tag place f);
        }

-- a removal that is accepted
pub struck : {t : Table} (passed : Passed t) (tag : ℕ) (place : Place) → find t tag ≡ some place → Struck t (marked t place) place.bucket place.slot
unfolding marked put_sizes pair_row zero_row row_width with_mark mark_at built_of live_of order_of row_at first_slot sizes_row header_row room word
struck {t} passed tag place e =
    let b = place.bucket in
    let r = slot_row t b place.slot in
    let found_at : Found t tag place = found t tag place e in
    let dead : Row = set place.row 11 1 in
    let sizes : Row = built_size t b ∷ (live_size t b - 1) ∷ replicate 11 0 in
    let long : table_rows (order_of t) ≤ length t = passed.framed.long in
    let ends : slot_row t b place.slot < length t = inside passed tag place e in
    let apart : (r ≡ 1 + b → ⊥) = λ q. absurd (omega (arith, q, found_at.in_order, pow_pos b)) in
    record {
      long = length-set (set t r dead) (1 + b) sizes ∙ length-set t r dead;
      slot =
          get_or-set_other (set t r dead) (1 + b) r sizes [] apart
          ∙ get_or-set_same t r dead [] ends
          ∙ ap (λ (row : Row). set row 11 1) (place_row passed tag place e);
      sizes = get_or-set_same (set t r dead) (1 + b) sizes [] (omega (arith, length-set t r dead, ends, found_at.in_order));
      others = λ q ne nf. get_or-set_other (set t r dead) (1 + b) q sizes [] nf ∙ get_or-set_other t r q dead [] ne;
    }

remove_first : (t : Table) (work : List Row) (tag : ℕ) → (remove_reply t work tag).refusal ≡ 0 → StrikesFirst t tag (table_after_remove t work tag)
unfolding remove_reply table_after_remove remove_refusal removed is_live_tag
remove_first t work tag h = go (remove_refusal t work tag) (find t tag) refl refl h
  where
    reply : ℕ → Removed
    reply n = elim n [ zero ↦ record { refusal = 0; distances = (removed t tag).distances } | suc k ↦ record { refusal = suc k; distances = 0 } ]

    left : ℕ → Option Place → Table
    left n o =
        elim n [
          | zero ↦
              (elim o as (λ _. Rebuilt) [
                | some place ↦ after_deletion (marked t place) place.bucket
                | none ↦ record { table = t; distances = 0 }
              ]).table
          | suc k ↦ t
        ]

    go : (n : ℕ) (o : Option Place) → remove_refusal t work tag ≡ n → find t tag ≡ o → (reply n).refusal ≡ 0 → StrikesFirst t tag (left n o)
    go (suc n) o e f h = absurd (omega (arith, h))
    go zero none e f h =
        absurd (missing t tag (or_zero (change_refusal (length work) t) _ e).1 f)
    go zero (some place) e f h =
        let passed : Passed t = (change_passed (length work) t (or_zero (change_refusal (length work) t) _ e).0).0 in
        record {
          bucket = place.bucket;
          slot = place.slot;
          struck = marked t place;
          first = first_at passed tag place f;
          strikes = struck passed tag place f;
          ends = λ more. deletion_ends passed tag place f more (deletion (marked t place) place.bucket);
          goes_on = refl;
        }

-- dues that are accepted
weighed : (z : ℤ) → is_weight (some z) ≡ true → (weight : ℕ) × (z ≡ pos weight)
unfolding is_weight
weighed (pos weight) e = (weight, refl)
weighed (negsuc weight) e = absurd (false≢true e)

none_weighs : is_weight none ≡ true → ⊥
unfolding is_weight
none_weighs e = false≢true e

pos_pays : (weight : ℕ) → pays (some (pos weight)) ≡ in_cents (weight * cents_aKilo weight)
unfolding pays
pos_pays weight = board_figured weight

-- the weight found for a tag that is neither missing nor below 0, and what it pays
weight_first : {t : Table} → Passed t → (tag : ℕ) → is_weight (weight_at t tag) ≡ true → PaysFirst t tag (pays (weight_at t tag))
unfolding weight_at
weight_first {t} passed tag h = go (find t tag) refl h
  where
    weight : Option Place → Option ℤ
    weight o = elim o [ some place ↦ some (measure (profile_of place.row) 0) | none ↦ none ]

    go : (o : Option Place) → find t tag ≡ o → is_weight (weight o) ≡ true → PaysFirst t tag (pays (weight o))
    go none f h = absurd (none_weighs h)
    go (some place) f h =
        let w = weighed (measure (profile_of place.row) 0) h in
        record {
          bucket = place.bucket;
          slot = place.slot;
          weight = w.0;
          first = first_at passed tag place f;
          weighs = sym (first_measure t place.bucket place.slot place.row (place_row passed tag place f)) ∙ w.1;
          pays = ap (λ (z : ℤ). pays (some z)) w.1 ∙ pos_pays w.0;
        }

-- of a list each tag's stands at its place
pays_at : (t : Table) (tags rest : List ℕ) (j : ℕ) → j < length tags → get_or (map pays (map (weight_at t) tags) ++ rest) j 0 ≡ pays (weight_at t (get_or tags j 0))
pays_at t [] rest j low = absurd (omega (arith, low))
pays_at t (tag ∷ tags) rest zero low = refl
pays_at t (tag ∷ tags) rest (suc j) low = pays_at t tags rest j (omega (arith, low))

weighs_at : (t : Table) (tags : List ℕ) (j : ℕ) → j < length tags → All (λ o. is_weight o ≡ true) (map (weight_at t) tags)
    → is_weight (weight_at t (get_or tags j 0)) ≡ true
weighs_at t [] j low h = absurd (omega (arith, low))
weighs_at t (tag ∷ tags) zero low h = h.0
weighs_at t (tag ∷ tags) (suc j) low h = weighs_at t tags j (omega (arith, low)) h.1

dues_first : (t : Table) (tag : ℕ) (tags area : List ℕ) (j : ℕ) → j < length tags → get_or tags j 0 ≡ tag → (dues_reply t tags area).refusal ≡ 0
    → PaysFirst t tag (get_or (dues_after t tags area) j 0)
unfolding dues_reply dues_after dues_refusal weights_reply area_after weights_refusal
dues_first t tag tags area j low here h = go (dues_refusal t tags area) refl h
  where
    go : (n : ℕ) → dues_refusal t tags area ≡ n → (weights_reply n (map (weight_at t) tags)).refusal ≡ 0
        → PaysFirst t tag (get_or (area_after n (map (weight_at t) tags) area) j 0)
    go (suc n) e h = absurd (omega (arith, h))
    go zero e h =
        let weights : List (Option ℤ) = map (weight_at t) tags in
        let tests = or_zero (read_refusal t) _ e in
        let all_found = unless_zero (every is_found weights) not_live _ (omega arith) tests.1 in
        let all-weigh = unless_zero (leb (length weights) most_listed && every is_weight weights) no_dues _ (omega arith) all_found.1 in
        let each : All (λ o. is_weight o ≡ true) weights =
        every_all is_weight weights (and_second (leb (length weights) most_listed) (every is_weight weights) all-weigh.0) in
        let own : PaysFirst t (get_or tags j 0) (pays (weight_at t (get_or tags j 0))) =
        weight_first (read_passed t tests.0) (get_or tags j 0) (weighs_at t tags j low each) in
        subst (λ (n : ℕ). PaysFirst t n (get_or (map pays weights ++ drop (length weights) area) j 0)) here
        (subst (PaysFirst t (get_or tags j 0)) (sym (pays_at t tags (drop (length weights) area) j low)) own)

-- a tag that is not found: no slot has it
none_at : {t : Table} → Passed t → (tag : ℕ) → is_live_tag t tag ≡ false → NoneAt t tag
unfolding is_live_tag find buckets_of
none_at {t} passed tag h b i there = go (find t tag) refl h
  where
    go : (o : Option Place) → find t tag ≡ o → elim o [ some p ↦ true | none ↦ false ] ≡ false → ⊥
    go (some p) e h = false≢true (sym h)
    go none e h =
        let in_order = at_in_order t tag b i there in
        let built = at_within t tag b i there in
        none_in t tag 0 (suc (order_of t)) e b i (omega arith) (omega (arith, in_order))
        (omega (arith, built, slots_length (passed_roomy passed) b in_order))
        (subst (Has tag) (sym (slot_row_lem t b i built)) (to_has t tag b i there))

-- 21 is no refusal of a lent table
frame_not : (t : Table) → frame_refusal t ≡ not_live → ⊥
unfolding frame_refusal
frame_not [] e = absurd (omega (arith, e))
frame_not (r ∷ rs) e =
    let t : Table = r ∷ rs in
    unless_not (valid_order (order_of t) && valid_metric (table_space t)) bad_table _ not_live (λ b q. absurd (omega (arith, q)))
    (unless_not (leb (table_rows (order_of t)) (length t)) short_area 0 not_live (λ b q. absurd (omega (arith, q))) (λ q. absurd (omega (arith, q)))) e

read_not : (t : Table) → read_refusal t ≡ not_live → ⊥
unfolding read_refusal
read_not t e =
    or_not (frame_refusal t) _ not_live (frame_not t)
    (unless_not (header_passes t) bad_table 0 not_live (λ b q. absurd (omega (arith, q))) (λ q. absurd (omega (arith, q)))) e

change_not : (rows : ℕ) (t : Table) → change_refusal rows t ≡ not_live → ⊥
unfolding change_refusal
change_not rows t e =
    or_not (frame_refusal t) _ not_live (frame_not t)
    (unless_not (leb (work_rows (order_of t)) rows) short_area _ not_live (λ b q. absurd (omega (arith, q)))
    (unless_not (header_passes t) bad_table _ not_live (λ b q. absurd (omega (arith, q)))
    (unless_not (marks_pass t) bad_table 0 not_live (λ b q. absurd (omega (arith, q))) (λ q. absurd (omega (arith, q)))))) e

-- so where the refusal is 21 the table's tests pass, and no live item has the tag
tag_missing : (n : ℕ) (valid live : Bool) → (n ≡ not_live → ⊥) → or_else n (unless valid bad_tag (unless live not_live 0)) ≡ not_live → (n ≡ 0) × (live ≡ false)
tag_missing (suc n) valid live other e = absurd (other e)
tag_missing zero true true other e = absurd (omega (arith, e))
tag_missing zero true false other e = (refl, refl)
tag_missing zero false live other e = absurd (omega (arith, e))

look_up_none : (t : Table) (tag : ℕ) → (look_up_reply t tag).refusal ≡ not_live → NoneAt t tag
unfolding look_up_reply look_up_refusal not_found
look_up_none t tag h =
    let m = tag_missing (read_refusal t) (valid_tag tag) (is_live_tag t tag) (read_not t) (refusal (look_up_refusal t tag) (find t tag) refl refl h) in
    none_at (read_passed t m.0) tag m.1
  where
    reply : ℕ → Option Place → LookedUp
    reply n o =
        elim n [
          | suc k ↦ not_found (suc k)
          | zero ↦ elim o [
            | some place ↦ record { refusal = 0; bucket = place.bucket; profile = profile_of place.row; day = day_of place.row }
            | none ↦ not_found not_live
          ]
        ]

    refusal : (n : ℕ) (o : Option Place) → look_up_refusal t tag ≡ n → find t tag ≡ o → (reply n o).refusal ≡ not_live → look_up_refusal t tag ≡ not_live
    refusal (suc n) o e f h = e ∙ h
    refusal zero (some place) e f h = absurd (omega (arith, h))
    refusal zero none e f h = absurd (missing t tag (or_zero (read_refusal t) _ e).1 f)

remove_none : (t : Table) (work : List Row) (tag : ℕ) → (remove_reply t work tag).refusal ≡ not_live → NoneAt t tag
unfolding remove_reply remove_refusal
remove_none t work tag h =
    let m =
    tag_missing (change_refusal (length work) t) (valid_tag tag) (is_live_tag t tag) (change_not (length work) t)
    (refusal (remove_refusal t work tag) refl h) in
    none_at (change_passed (length work) t m.0).0 tag m.1
  where
    reply : ℕ → Removed
    reply n = elim n [ zero ↦ record { refusal = 0; distances = (removed t tag).distances } | suc k ↦ record { refusal = suc k; distances = 0 } ]

    refusal : (n : ℕ) → remove_refusal t work tag ≡ n → (reply n).refusal ≡ not_live → remove_refusal t work tag ≡ not_live
    refusal (suc n) e h = e ∙ h
    refusal zero e h = absurd (omega (arith, h))

add_none : (t : Table) (tag : ℕ) (work : List Row) (p : Profile) (day : ℕ) → (add_reply t work tag p day).refusal ≡ 0 → NoneAt t tag
unfolding add_reply add_refusal
add_none t tag work p day h =
    let first = or_zero (change_refusal (length work) t) _ (refusal (add_refusal t work tag p day) refl h) in
    let named = unless_zero (valid_tag tag) bad_tag _ (omega arith) first.1 in
    let measured = unless_zero (valid_measures p) bad_measure _ (omega arith) named.1 in
    let dated = unless_zero (valid_day day) bad_day _ (omega arith) measured.1 in
    let new = when_zero (is_live_tag t tag) already_live _ (omega arith) dated.1 in
    none_at (change_passed (length work) t first.0).0 tag new.0
  where
    reply : ℕ → Added
    reply n =
        elim n [
          | zero ↦ record { refusal = 0; bucket = add_target t tag p day; distances = (added t tag p day).distances }
          | suc k ↦ record { refusal = suc k; bucket = 0; distances = 0 }
        ]

    refusal : (n : ℕ) → add_refusal t work tag p day ≡ n → (reply n).refusal ≡ 0 → add_refusal t work tag p day ≡ 0
    refusal zero e h = e
    refusal (suc n) e h = absurd (omega (arith, h))

pub finds_first : FindsFirst
finds_first t tag =
    record {
      look_ups = look_up_first t tag;
      removes = λ work. remove_first t work tag;
      dues = dues_first t tag;
      not_found = look_up_none t tag;
      not_removed = λ work. remove_none t work tag;
      new = add_none t tag;
    }
