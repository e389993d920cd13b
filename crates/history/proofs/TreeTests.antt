-- The trees of an image, by the definition and by the model's own words: the rows that are read are the same, so are the slots before each one, and so is what
-- each of its three tests says. What a load and a restore show follows.
use Prim.Native.Nat.{ℕ, zero, suc, ◌+◌, ◌-◌, ◌*◌, ◌/◌, ◌^◌, ◌≤◌, ◌<◌}
use native.Mathlib.Omega.{arith}
use mathlib.Core.Path.{◌≡◌, refl, sym, ◌∙◌, ap, ap₂, subst}
use mathlib.Core.Bool.{Bool, true, false, not, ◌&&◌, ◌||◌}
use mathlib.Core.List.Permᴰ
use mathlib.Core.List.{List, [], ◌∷◌, ◌++◌, map, flatten, append_assoc, append-nil, map-append}
use lib.Dec.{ltb, eqb}
use lib.ListN.{length, get_or, take, set, replicate, length-map, length-set}
use Rattle.lists.specs.Lists.{every, any, select, total, count_from, same_numbers, alike, All}
use Rattle.lists.proofs.Lists.{all_always, all_map, all_of_map, all_perm, map_alike}
use Rattle.lists.proofs.Tests.{every_map}
use Rattle.metric_rules.specs.Row.{Row, word, threshold_at, mark_at, tag_of, threshold_of, is_live, with_threshold, with_mark}
use Rattle.metric_rules.specs.declared.Space.{Space}
use Rattle.metric_rules.specs.Distance.{distance}
use Rattle.tree_rules.specs.Layout.{placed, layout}
use Rattle.tree_rules.proofs.Layouts.{layout_length, layout_permutes}
use Rattle.table_rules.specs.Refusals.{unless, when}
use Rattle.table_rules.specs.Geometry.{buckets_of}
use Rattle.image_rules.specs.Bytes.{tag_fields, day_fields, record_fields}
use Rattle.image_rules.specs.Read as reader
use Rattle.image_rules.specs.Read.{fields_at, day_as, order_in, form_in, space_in, built_in, slots_before, row_in, bucket_in}
use Rattle.image_rules.specs.Trees.{duplicate_tag, misplaced_item, none_has, tag_is_new, same_item, place_refusal, slot_refusal, refusals_from, bucket_refusals}
use Rattle.image_rules.specs.Trees.{slot_refusals, first_refused, trees_reply}
use Rattle.image_rules.specs.declared.Loaded.{Loaded}
use Rattle.image_rules.specs.Load.{fields_refusal, or_loaded, trees_in, load_reply}
use Rattle.image_rules.proofs.Blocks.{map_count, all_at, count_append, length_count, length_flatten, runs}
use Rattle.state_rules.specs.Parts.{part_of, saved_image}
use Rattle.state_rules.specs.Restore.{name_refusal, restore_reply}
use Rattle.history.specs.Places.{number_from}
use Rattle.history.specs.LoadTests.{order_byte, metric_byte, form_bytes, pairs_from, record_size, length_in, weight_too_large, all_sizes_sound, day_missing}
use Rattle.history.specs.LoadTests.{all_fields_sound, built_at, slots_up_to, slots_in_all, load_refusal_of, tags_from, record_from, slots_at, tag_in, mark_in, day_read}
use Rattle.history.specs.LoadTests.{space_read, image_in, restore_refusal_of}
use Rattle.history.specs.TreeTests.{slot_words, laid_out, tag_taken, slot_refusal_of, slot_refusals_of}
use Rattle.history.specs.Trace.{Shown, shows}
use Rattle.history.specs.Trace.Payload.{a_slot}
use Rattle.history.specs.Model.{or_shown, first_shown, trees_shown, load_shown}
use Rattle.history.proofs.LoadTests.{not_any, every_not_any, stops_alike, passes_alike, number_from_lem, tag_place, record_place, tag_from, record_from_lem}
use Rattle.history.proofs.LoadTests.{form_read, next_read, built_read, before_read, tag_read, live_mark, load_refusal_lem, restore_refusal_lem, restored_image}
use Rattle.history.proofs.LoadItems.{space_read_lem}

-- a list as its elements by number, and some of the first of such a list
spread : {A : Type 0} (d : A) (f : ℕ → A) (xs : List A) (a : ℕ) → ((j : ℕ) → j < length xs → get_or xs j d ≡ f (a + j)) → xs ≡ map f (count_from a (length xs))
unfolding count_from
spread d f [] a h = refl
spread d f (x ∷ xs) a h =
    let here : a + 0 ≡ a = omega arith in
    ap₂ ◌∷◌ (h 0 (omega arith) ∙ ap f here)
    (spread d f xs (suc a) (λ j l. let next : a + suc j ≡ suc a + j = omega arith in h (suc j) (omega arith) ∙ ap f next))

take_count : {A : Type 0} (f : ℕ → A) (a n s : ℕ) → s ≤ n → take s (map f (count_from a n)) ≡ map f (count_from a s)
unfolding count_from
take_count f a n zero h = refl
take_count f a zero (suc s) h = absurd (omega (arith, h))
take_count f a (suc n) (suc s) h = ap (λ (xs : List _). f a ∷ xs) (take_count f (suc a) n s (omega (arith, h)))

get_or_count : {A : Type 0} (f : ℕ → A) (d : A) (a n s : ℕ) → s < n → get_or (map f (count_from a n)) s d ≡ f (a + s)
unfolding count_from
get_or_count f d a zero s h = absurd (omega (arith, h))
get_or_count f d a (suc n) zero h = let e : a ≡ a + 0 = omega arith in ap f e
get_or_count f d a (suc n) (suc s) h = let e : suc a + s ≡ a + suc s = omega arith in get_or_count f d (suc a) n s (omega (arith, h)) ∙ ap f e

-- 37: rows of thirteen words are one item where all words but threshold and mark are the same
thirteen : (row : List ℕ) → length row ≡ 13 → row ≡ map (λ w. get_or row w 0) (count_from 0 13)
thirteen row e =
    spread 0 (λ w. get_or row w 0) row 0 (λ j l. let at : j ≡ 0 + j = omega arith in ap (λ (w : ℕ). get_or row w 0) at)
    ∙ ap (λ (n : ℕ). map (λ w. get_or row w 0) (count_from 0 n)) e

same_words : (a b : List ℕ) → length a ≡ 13 → length b ≡ 13 → same_item a b ≡ every (λ w. eqb (get_or a w 0) (get_or b w 0)) (count_from 0 10 ++ (12 ∷ []))
unfolding same_item same_numbers alike placed with_threshold with_mark threshold_at mark_at count_from every
same_words a b e f = ap₂ same_item (thirteen a e) (thirteen b f)

-- the refusals of a bucket's slots, each by its number
refusals_by : (before earlier laid rows : List Row) (f : ℕ → ℕ) (a : ℕ) → length laid ≡ length rows
    → ((s : ℕ) → s < length rows → slot_refusal before (earlier ++ take s rows) (get_or laid s []) (get_or rows s []) ≡ f (a + s))
    → refusals_from before earlier laid rows ≡ map f (count_from a (length rows))
unfolding refusals_from count_from
refusals_by before earlier laid [] f a e h = refl
refusals_by before earlier [] (row ∷ rows) f a e h = absurd (omega (arith, e))
refusals_by before earlier (l ∷ laid) (row ∷ rows) f a e h =
    let here : a + 0 ≡ a = omega arith in
    ap₂ ◌∷◌
    (ap (λ (es : List Row). slot_refusal before es l row) (sym (append-nil earlier)) ∙ h 0 (omega arith) ∙ ap f here)
    (refusals_by before (earlier ++ (row ∷ [])) laid rows f (suc a) (omega (arith, e))
    (λ s g. let next : a + suc s ≡ suc a + s = omega arith in
    ap (λ (es : List Row). slot_refusal before es (get_or laid s []) (get_or rows s [])) (append_assoc earlier (row ∷ []) (take s rows))
    ∙ h (suc s) (omega (arith, g)) ∙ ap f next))

-- none of those selected is met
none_selected : {A : Type 0} (chosen met : A → Bool) (xs : List A) → every (λ x. not (met x)) (select chosen xs) ≡ not (any (λ x. chosen x && met x) xs)
unfolding every any select
none_selected chosen met [] = refl
none_selected {A} chosen met (x ∷ xs) = go (chosen x) (none_selected chosen met xs)
  where
    go : (b : Bool) → every (λ y. not (met y)) (select chosen xs) ≡ not (any (λ y. chosen y && met y) xs)
        → every (λ y. not (met y)) (elim b as (λ _. List A) [ true ↦ x ∷ select chosen xs | false ↦ select chosen xs ])
        ≡ not ((b && met x) || any (λ y. chosen y && met y) xs)
    go true e = ap (λ (b : Bool). not (met x) && b) e ∙ not_any (met x) (any (λ y. chosen y && met y) xs)
    go false e = e

any_map : {A B : Type 0} (f : A → B) (test : B → Bool) (before : A → Bool) → ((x : A) → test (f x) ≡ before x) → (xs : List A)
    → any test (map f xs) ≡ any before xs
unfolding any
any_map f test before h [] = refl
any_map f test before h (x ∷ xs) = ap₂ ◌||◌ (h x) (any_map f test before h xs)

new_or_taken : (own live other : Bool) → (not own && (not live || not other)) ≡ not (own || (live && other))
new_or_taken true live other = refl
new_or_taken false true other = refl
new_or_taken false false other = refl

module _ (image : List ℕ) where
  -- fields of four bytes, one after the other
  fours : (n j at place : ℕ) (rest : List ℕ) → at ≡ place + 4 * j
      → fields_at image (replicate n 4 ++ rest) at ≡ map (λ i. number_from image (place + 4 * i) 4) (count_from j n) ++ fields_at image rest (at + 4 * n)
  unfolding fields_at count_from
  fours zero j at place rest e = let same : at ≡ at + 4 * 0 = omega arith in ap (fields_at image rest) same
  fours (suc n) j at place rest e =
      let next : at + 4 + 4 * n ≡ at + 4 * suc n = omega arith in
      ap₂ ◌∷◌ (number_from_lem image 4 at (place + 4 * j) e)
      (fours n (suc j) (at + 4) place rest (omega (arith, e))
      ∙ ap (λ (p : ℕ). map (λ i. number_from image (place + 4 * i) 4) (count_from (suc j) n) ++ fields_at image rest p) next)

  day_word : (form at place : ℕ) → at ≡ place + 40 → fields_at image (day_fields form) at ++ day_as form ≡ day_read form image place ∷ []
  unfolding fields_at day_fields day_as day_read
  day_word zero at place e = refl
  day_word (suc zero) at place e = refl
  day_word (suc (suc form)) at place e = ap (λ (n : ℕ). n ∷ []) (number_from_lem image 2 at (place + 40) e)

  row_read : (i : ℕ) → row_in image i ≡ slot_words image i
  unfolding row_in slot_words tag_fields record_fields fields_at
  row_read i =
      let tags = tags_from image + 8 * i in
      let place = record_from image i in
      let tag-words : List ℕ = map (λ j. number_from image (tags + 4 * j) 4) (count_from 0 2) in
      let words : List ℕ = map (λ j. number_from image (place + 4 * j) 4) (count_from 0 10) in
      let first : fields_at image (4 ∷ 4 ∷ []) (tag_place image i) ≡ tag-words ++ [] = fours 2 0 (tag_place image i) tags [] (omega (arith, tag_from image i)) in
      let behind : fields_at image (record_fields (form_in image)) (record_place image i) ≡ words ++ fields_at image (day_fields (form_in image))
      (record_place image i + 4 * 10) =
      fours 10 0 (record_place image i) place (day_fields (form_in image)) (omega (arith, record_from_lem image i)) in
      let day =
      day_word (form_in image) (record_place image i + 4 * 10) place (omega (arith, record_from_lem image i))
      ∙ ap (λ (form : ℕ). day_read form image place ∷ []) (form_read image) in
      ap₂ (λ (xs ys : List ℕ). xs ++ ys ++ day_as (form_in image)) (first ∙ append-nil tag-words) behind
      ∙ ap (λ (xs : List ℕ). xs ++ day_as (form_in image))
      (sym (append_assoc tag-words words (fields_at image (day_fields (form_in image)) (record_place image i + 4 * 10))))
      ∙ append_assoc (tag-words ++ words) (fields_at image (day_fields (form_in image)) (record_place image i + 4 * 10)) (day_as (form_in image))
      ∙ ap (λ (xs : List ℕ). tag-words ++ words ++ xs) day

  words_long : (i : ℕ) → length (slot_words image i) ≡ 13
  unfolding slot_words count_from
  words_long i = refl

  module _ (k : ℕ) where
    abbrev from : ℕ
    from = slots_up_to image k

    abbrev size : ℕ
    size = built_at image k

    bucket-is : bucket_in image k ≡ map (row_in image) (count_from from size)
    unfolding bucket_in
    bucket-is = ap₂ (λ (a n : ℕ). map (row_in image) (count_from a n)) (before_read image k) (built_read image k)

    bucket-read : bucket_in image k ≡ map (slot_words image) (slots_at image k)
    unfolding slots_at
    bucket-read = bucket-is ∙ map_alike row_read (count_from from size)

    bucket-long : length (bucket_in image k) ≡ size
    bucket-long = ap length bucket-is ∙ length-map (count_from from size) (row_in image) ∙ length_count from size

    before-is : flatten (map (bucket_in image) (count_from 0 k)) ≡ map (row_in image) (count_from 0 from)
    unfolding bucket_in slots_before count_from total
    before-is = runs (row_in image) (built_in image) 0 k ∙ ap (λ (n : ℕ). map (row_in image) (count_from 0 n)) (before_read image k)

    -- what the layout puts there, which has thirteen words too
    laid-is : layout (distance (space_in image)) (bucket_in image k) ≡ laid_out image k
    unfolding laid_out
    laid-is = ap₂ (λ (space : Space) (rows : List Row). layout (distance space) rows) (space_read_lem image) bucket-read

    placed-long : (m : ℕ) (row : Row) → length (placed m row) ≡ length row
    unfolding placed with_threshold with_mark
    placed-long m row = length-set (set row threshold_at m) mark_at 0 ∙ length-set row threshold_at m

    laid_length : length (laid_out image k) ≡ size
    laid_length = ap length (sym laid-is) ∙ layout_length (distance (space_in image)) (bucket_in image k) ∙ bucket-long

    laid-long : All (λ row. length row ≡ 13) (laid_out image k)
    unfolding laid_out
    laid-long =
        let slots = map (slot_words image) (slots_at image k) in
        all_of_map length (λ n. n ≡ 13) (layout (distance (space_read image)) slots)
        (all_perm (λ n. n ≡ 13) (Permᴰ.symm (layout_permutes (distance (space_read image)) length placed-long slots))
        (all_map length (λ n. n ≡ 13) slots (all_map (slot_words image) (λ row. length row ≡ 13) (slots_at image k) (all_always words_long (slots_at image k)))))

    module _ (s : ℕ) (within : s < size) where
      abbrev slot : ℕ
      slot = from + s

      earlier-is : take s (bucket_in image k) ≡ map (row_in image) (count_from from s)
      earlier-is = ap (take s) bucket-is ∙ take_count (row_in image) from size s (omega (arith, within))

      row_is : get_or (bucket_in image k) s [] ≡ row_in image slot
      row_is = ap (λ (rows : List Row). get_or rows s []) bucket-is ∙ get_or_count (row_in image) [] from size s within

      all_before : flatten (map (bucket_in image) (count_from 0 k)) ++ take s (bucket_in image k) ≡ map (row_in image) (count_from 0 slot)
      all_before =
          let none : 0 + from ≡ from = omega arith in
          ap₂ ◌++◌ before-is (earlier-is ∙ ap (λ (n : ℕ). map (row_in image) (count_from n s)) (sym none))
          ∙ sym (map-append (row_in image) (count_from 0 from) (count_from (0 + from) s))
          ∙ ap (map (row_in image)) (sym (count_append 0 from s))

      -- 36
      met : (j : ℕ) → eqb (tag_of (row_in image j)) (tag_of (row_in image slot)) ≡ eqb (tag_in image j) (tag_in image slot)
      met j = ap₂ eqb (tag_read image j) (tag_read image slot)

      own-met : none_has (tag_of (row_in image slot)) (take s (bucket_in image k)) ≡ not (any (λ j. eqb (tag_in image j) (tag_in image slot)) (count_from from s))
      unfolding none_has
      own-met =
          ap (every (λ row. not (eqb (tag_of row) (tag_of (row_in image slot))))) earlier-is
          ∙ every_map (row_in image) (λ row. not (eqb (tag_of row) (tag_of (row_in image slot)))) (λ j. not (eqb (tag_in image j) (tag_in image slot)))
          (λ j. ap not (met j)) (count_from from s)
          ∙ every_not_any (λ j. not (eqb (tag_in image j) (tag_in image slot))) (λ j. eqb (tag_in image j) (tag_in image slot)) (λ j. refl) (count_from from s)

      live-met : none_has (tag_of (row_in image slot)) (select is_live (flatten (map (bucket_in image) (count_from 0 k)) ++ take s (bucket_in image k)))
          ≡ not (any (λ j. eqb (mark_in image j) 0 && eqb (tag_in image j) (tag_in image slot)) (count_from 0 slot))
      unfolding none_has
      live-met =
          ap (λ (rows : List Row). every (λ row. not (eqb (tag_of row) (tag_of (row_in image slot)))) (select is_live rows)) all_before
          ∙ none_selected is_live (λ row. eqb (tag_of row) (tag_of (row_in image slot))) (map (row_in image) (count_from 0 slot))
          ∙ ap not (any_map (row_in image) (λ row. is_live row && eqb (tag_of row) (tag_of (row_in image slot)))
          (λ j. eqb (mark_in image j) 0 && eqb (tag_in image j) (tag_in image slot))
          (λ j. ap₂ ◌&&◌ (live_mark image j) (met j)) (count_from 0 slot))

      new_is : tag_is_new (flatten (map (bucket_in image) (count_from 0 k))) (take s (bucket_in image k)) (row_in image slot) ≡ not (tag_taken image k s)
      unfolding tag_is_new tag_taken
      new_is =
          ap₂ ◌&&◌ own-met (ap₂ ◌||◌ (ap not (live_mark image slot)) live-met)
          ∙ new_or_taken (any (λ j. eqb (tag_in image j) (tag_in image slot)) (count_from from s)) (eqb (mark_in image slot) 0) _

      -- all three
      slot-refused :
          slot_refusal (flatten (map (bucket_in image) (count_from 0 k))) (take s (bucket_in image k))
          (get_or (layout (distance (space_in image)) (bucket_in image k)) s []) (get_or (bucket_in image k) s [])
          ≡ slot_refusal_of image k s
      unfolding slot_refusal place_refusal slot_refusal_of threshold_of word threshold_at
      slot-refused =
          let laid = get_or (laid_out image k) s [] in
          let words = slot_words image slot in
          let long : length laid ≡ 13 = all_at (λ row. length row ≡ 13) (laid_out image k) s [] laid-long (omega (arith, laid_length, within)) in
          ap₂ (slot_refusal (flatten (map (bucket_in image) (count_from 0 k))) (take s (bucket_in image k)))
          (ap (λ (rows : List Row). get_or rows s []) laid-is) row_is
          ∙ stops_alike (tag_taken image k s) duplicate_tag new_is
          (ap (place_refusal laid) (row_read slot)
          ∙ passes_alike (every (λ w. eqb (get_or laid w 0) (get_or words w 0)) (count_from 0 10 ++ (12 ∷ []))) misplaced_item
          (same_words laid words long (words_long slot)) refl)

    bucket-refused : bucket_refusals (space_in image) (flatten (map (bucket_in image) (count_from 0 k))) (bucket_in image k)
        ≡ map (slot_refusal_of image k) (count_from 0 size)
    unfolding bucket_refusals
    bucket-refused =
        refusals_by (flatten (map (bucket_in image) (count_from 0 k))) [] (layout (distance (space_in image)) (bucket_in image k)) (bucket_in image k)
        (slot_refusal_of image k) 0
        (layout_length (distance (space_in image)) (bucket_in image k))
        (λ s h. let at : s ≡ 0 + s = omega arith in slot-refused s (omega (arith, h, bucket-long)) ∙ ap (slot_refusal_of image k) at)
        ∙ ap (λ (n : ℕ). map (slot_refusal_of image k) (count_from 0 n)) bucket-long

  pub slots_refused : slot_refusals (space_in image) (order_in image) (bucket_in image) ≡ slot_refusals_of image
  unfolding slot_refusals slot_refusals_of buckets_of
  slots_refused =
      ap flatten
      (map_count (λ k. bucket_refusals (space_in image) (flatten (map (bucket_in image) (count_from 0 k))) (bucket_in image k))
      (λ k. map (slot_refusal_of image k) (count_from 0 (built_at image k)))
      0 (suc (order_in image)) (λ k l h. bucket-refused k)
      ∙ ap (λ (n : ℕ). map (λ k. map (slot_refusal_of image k) (count_from 0 (built_at image k))) (count_from 0 n)) (next_read image))

-- the first that is refused
abbrev shown_by : Loaded → Shown
shown_by reply = shows reply.refusal (a_slot reply.slot)

first_shown_lem : (at : ℕ) (ns : List ℕ) → shown_by (first_refused at ns) ≡ first_shown at ns
unfolding first_refused first_shown
first_shown_lem at [] = refl
first_shown_lem at (zero ∷ ns) = first_shown_lem (suc at) ns
first_shown_lem at (suc n ∷ ns) = refl

trees_shown_lem : (image : List ℕ) → shown_by (trees_in image) ≡ trees_shown image
unfolding trees_in trees_reply trees_shown
trees_shown_lem image = ap (λ (ns : List ℕ). shown_by (first_refused 0 ns)) (slots_refused image) ∙ first_shown_lem 0 (slot_refusals_of image)

-- what is shown of a reply
by_slot : (n : ℕ) (reply : Loaded)
    → shows (or_loaded n reply).refusal (a_slot (or_loaded n reply).slot) ≡ or_shown n (shows reply.refusal (a_slot reply.slot))
by_slot zero reply = refl
by_slot (suc n) reply = refl

pub load_shown_lem : (rows : ℕ) (image : List ℕ) → shown_by (load_reply rows image) ≡ load_shown rows image
unfolding load_reply load_shown
load_shown_lem rows image =
    by_slot (fields_refusal rows image) (trees_in image) ∙ ap₂ or_shown (load_refusal_lem image rows) (trees_shown_lem image)

pub restore_shown : (rows : ℕ) (states : List ℕ) (name : ℕ)
    → shown_by (restore_reply rows states name) ≡ or_shown (restore_refusal_of states name) (load_shown rows (image_in states name))
unfolding restore_reply
restore_shown rows states name =
    by_slot (name_refusal states name) (load_reply rows (saved_image (part_of states name)))
    ∙ ap₂ or_shown (restore_refusal_lem states name) (load_shown_lem rows (saved_image (part_of states name)))
    ∙ go (restore_refusal_of states name) (restored_image states name)
  where
    go : (n : ℕ) → (n ≡ 0 → saved_image (part_of states name) ≡ image_in states name)
        → or_shown n (load_shown rows (saved_image (part_of states name))) ≡ or_shown n (load_shown rows (image_in states name))
    go zero h = ap (load_shown rows) (h refl)
    go (suc n) h = refl

-- a tree's refusal has a slot that the image has, and no other refusal of a load is 36, 37 or 38
first_within : (at : ℕ) (ns : List ℕ) → ((first_refused at ns).refusal ≡ 0 → ⊥) → (first_refused at ns).slot < at + length ns
unfolding first_refused
first_within at [] refused = absurd (refused refl)
first_within at (zero ∷ ns) refused = omega (arith, first_within (suc at) ns refused)
first_within at (suc n ∷ ns) refused = omega arith

refusals_many : (image : List ℕ) → length (slot_refusals_of image) ≡ slots_in_all image
unfolding slot_refusals_of slots_in_all slots_up_to
refusals_many image =
    length_flatten (λ k. map (slot_refusal_of image k) (count_from 0 (built_at image k))) 0 (order_byte image + 1)
    ∙ ap total
    (map_alike (λ k. length-map (count_from 0 (built_at image k)) (slot_refusal_of image k) ∙ length_count 0 (built_at image k)) (count_from 0 (order_byte image + 1)))

trees_within : (image : List ℕ) → ((trees_in image).refusal ≡ 0 → ⊥) → (trees_in image).slot < slots_in_all image
unfolding trees_in trees_reply
trees_within image refused =
    let ns = slot_refusals (space_in image) (order_in image) (bucket_in image) in
    omega (arith, first_within 0 ns refused, ap length (slots_refused image), refusals_many image)

when_below : (b : Bool) (n rest m : ℕ) → n < m → rest < m → when b n rest < m
when_below true n rest m h g = h
when_below false n rest m h g = g

unless_below : (b : Bool) (n rest m : ℕ) → n < m → rest < m → unless b n rest < m
unless_below true n rest m h g = g
unless_below false n rest m h g = h

load_below : (rows : ℕ) (image : List ℕ) → load_refusal_of rows image < 36
unfolding load_refusal_of
load_below rows image =
    when_below (ltb (length image) 4) 7 _ 36 (omega arith)
    (when_below (ltb 12 (order_byte image)) 3 _ 36 (omega arith)
    (when_below (ltb 2 (metric_byte image)) 4 _ 36 (omega arith)
    (when_below (ltb 2 (form_bytes image)) 8 _ 36 (omega arith)
    (when_below (ltb (length image) (pairs_from (form_bytes image))) 7 _ 36 (omega arith)
    (when_below (weight_too_large image) 32 _ 36 (omega arith)
    (when_below (ltb (length image) (tags_from image)) 7 _ 36 (omega arith)
    (unless_below (all_sizes_sound image) 24 _ 36 (omega arith)
    (unless_below (eqb (length image) (tags_from image + (8 + record_size (form_bytes image)) * slots_in_all image)) 7 _ 36 (omega arith)
    (when_below (ltb rows (order_byte image + 1 + 2 ^ (order_byte image + 1))) 23 _ 36 (omega arith)
    (when_below (day_missing image) 33 _ 36 (omega arith)
    (unless_below (all_fields_sound image) 8 0 36 (omega arith)
    (omega arith))))))))))))

restore_below : (states : List ℕ) (name : ℕ) → restore_refusal_of states name < 36
unfolding restore_refusal_of
restore_below states name =
    when_below (ltb name 1 || ltb 8 name) 34 _ 36 (omega arith)
    (when_below (ltb (length states / 8) 4) 35 _ 36 (omega arith)
    (when_below (eqb (length_in states name) 0) 35 _ 36 (omega arith)
    (when_below (ltb (length states / 8 - 4) (length_in states name)) 7 0 36 (omega arith)
    (omega arith))))

-- behind a refusal below 36
slot_behind : (n : ℕ) (reply : Loaded) (most : ℕ) → n < 36 → (36 ≤ reply.refusal → reply.slot < most) → 36 ≤ (or_loaded n reply).refusal
    → (or_loaded n reply).slot < most
slot_behind zero reply most h behind told = behind told
slot_behind (suc n) reply most h behind told = absurd (omega (arith, h, told))

pub load_within : (rows : ℕ) (image : List ℕ) → 36 ≤ (load_reply rows image).refusal → (load_reply rows image).slot < slots_in_all image
unfolding load_reply
load_within rows image =
    slot_behind (fields_refusal rows image) (trees_in image) (slots_in_all image) (omega (arith, load_refusal_lem image rows, load_below rows image))
    (λ told. trees_within image (λ z. omega (arith, told, z)))

pub restore_within : (rows : ℕ) (states : List ℕ) (name : ℕ) → 36 ≤ (restore_reply rows states name).refusal
    → (restore_reply rows states name).slot < slots_in_all (image_in states name)
unfolding restore_reply
restore_within rows states name told = go (name_refusal states name) refl told
  where
    image : List ℕ
    image = saved_image (part_of states name)

    go : (n : ℕ) → name_refusal states name ≡ n → 36 ≤ (or_loaded n (load_reply rows image)).refusal
        → (or_loaded n (load_reply rows image)).slot < slots_in_all (image_in states name)
    go zero e h =
        subst (λ (bytes : List ℕ). (load_reply rows image).slot < slots_in_all bytes) (restored_image states name (sym (restore_refusal_lem states name) ∙ e))
        (load_within rows image h)
    go (suc n) e h = absurd (omega (arith, h, e, restore_refusal_lem states name, restore_below states name))
