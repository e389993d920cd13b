-- Blocks of equal length stored one by one, each behind those before, are the run of all.
use Prim.Native.Nat.{ℕ, suc, ◌+◌, ◌*◌, ◌≤◌, ◌<◌}
use mathlib.Core.Path.{◌≡◌, refl, sym, ap, ap₂, ◌∙◌}
use mathlib.Core.List.{List, [], ◌∷◌, ◌++◌, map, map-append, append-nil, flatten}
use native.Mathlib.Numerals.{add-one}
use native.Mathlib.Omega.{arith}
use lib.ListN.{length, get_or, take, drop, replicate, length-take, length-drop, take-append-drop}
use lib.Seq.{sets, take-suc, take_all}
use Rattle.lists.specs.Lists.{total, All}
use Rattle.lists.proofs.Lists.{all_always, all_take}
use Rattle.metric_rules.specs.Row.{Row, IsRow, row_width, day_of}
use Rattle.tree_rules.proofs.Stores.{sets_more}
use Rattle.image_rules.specs.Bytes.{written_form, bytes_of, tag_fields, day_fields, record_fields, bytes_of_fields, record_bytes, tag_words}
use Rattle.image_rules.specs.Write.{tags_of, records_of}
use Rattle.image_rules.proofs.Blocks.{length_blocks}
use Rattle.image_rules.proofs.Bytes.{length_fields, fields_append}
use Rattle.image_rules.proofs.ReadBack.{day_last}
use Rattle.image_rules.proofs.Lengths.{length_parts}
use Rattle.image_rules.proofs.Counting.{flatten_append}

module _ {A : Type 0} (f : A → List ℕ) (w : ℕ) where
  -- a turn of the loop that stores the blocks: block i comes after i of them
  blocks_more : (l before : List ℕ) (at place i : ℕ) (xs : List A) (d : A) → All (λ x. length (f x) ≡ w) xs → i < length xs → place ≡ at + w * i
      → before ≡ sets l at (flatten (map f (take i xs)))
      → sets before place (f (get_or xs i d)) ≡ sets l at (flatten (map f (take (suc i) xs)))
  unfolding flatten
  blocks_more l before at place i xs d h low e was =
      let done = flatten (map f (take i xs)) in
      let long : length done ≡ w * length (take i xs) = length_blocks f w (take i xs) (all_take (λ x. length (f x) ≡ w) i xs h) in
      let count : length (take i xs) ≡ i = omega (arith, length-take i xs) in
      let next : flatten (map f (take (suc i) xs)) ≡ done ++ f (get_or xs i d) =
      ap (λ (ys : List A). flatten (map f ys)) (take-suc xs i d low)
      ∙ ap flatten (map-append f (take i xs) (get_or xs i d ∷ []))
      ∙ flatten_append (map f (take i xs)) (f (get_or xs i d) ∷ [])
      ∙ ap (λ (r : List ℕ). done ++ r) (append-nil (f (get_or xs i d))) in
      ap (λ (r : List ℕ). sets r place (f (get_or xs i d))) was
      ∙ sets_more l at place done (f (get_or xs i d)) (e ∙ ap (λ (n : ℕ). at + n) (ap (λ (n : ℕ). w * n) (sym count) ∙ sym long))
      ∙ ap (sets l at) (sym next)

-- the loop that stores the blocks from a place on: the first i of them are stored
module _ {A : Type 0} (f : A → List ℕ) (at : ℕ) (xs : List A) where
  pub record Stored (first image : List ℕ) (i : ℕ) : Type 0 where
    pub within : i ≤ length xs
    pub same : length image ≡ length first
    pub area : image ≡ sets first at (flatten (map f (take i xs)))

  pub none_stored : (first : List ℕ) → Stored first first 0
  unfolding flatten
  none_stored first = record { within = omega arith; same = refl; area = refl }

module _ {A : Type 0} {f : A → List ℕ} {at : ℕ} {xs : List A} {first image : List ℕ} {i : ℕ} (s : Stored f at xs first image i) where
  pub all_stored : length xs ≤ i → image ≡ sets first at (flatten (map f xs))
  all_stored h = s.area ∙ ap (λ (ys : List A). sets first at (flatten (map f ys))) (take_all i xs h)

  pub more_stored : {w : ℕ} → ((x : A) → length (f x) ≡ w) → i < length xs → (d : A) {next : List ℕ} → length next ≡ length image
      → next ≡ sets image (at + w * i) (f (get_or xs i d))
      → Stored f at xs first next (i + 1)
  more_stored {w} wide low d same put =
      rw (add-one i)
      (record {
        within = omega arith;
        same = same ∙ s.same;
        area = put ∙ blocks_more f w first image at (at + w * i) i xs d (all_always {P = λ x. length (f x) ≡ w} wide xs) low refl s.area;
      })

-- what a row's tag and its record are stored as
abbrev pub tag_block : Row → List ℕ
tag_block row = bytes_of_fields tag_fields (take tag_words row)

abbrev pub record_block : Row → List ℕ
record_block row = bytes_of_fields (record_fields written_form) (drop tag_words row)

pub length_tag : (row : Row) → length (tag_block row) ≡ 8
unfolding tag_fields total
length_tag row = length_fields tag_fields (take tag_words row)

pub length_record : (row : Row) → length (record_block row) ≡ record_bytes written_form
unfolding record_bytes
length_record row = length_fields (record_fields written_form) (drop tag_words row)

pub length_tags : (rows : List Row) → length (tags_of rows) ≡ 8 * length rows
unfolding tags_of tag_fields total
length_tags = length_parts tag_fields (take tag_words)

pub length_records : (rows : List Row) → length (records_of written_form rows) ≡ record_bytes written_form * length rows
unfolding records_of record_bytes
length_records = length_parts (record_fields written_form) (drop tag_words)

-- fields of four bytes each hold words
pub word_bytes : (ws ns : List ℕ) → length ns ≡ length ws → All (λ w. w ≡ 4) ws → bytes_of_fields ws ns ≡ flatten (map (bytes_of 4) ns)
unfolding bytes_of_fields flatten
word_bytes [] [] e h = refl
word_bytes [] (n ∷ ns) e h = absurd (omega arith)
word_bytes (w ∷ ws) [] e h = absurd (omega arith)
word_bytes (w ∷ ws) (n ∷ ns) e h = rw h.0 (ap (λ (r : List ℕ). bytes_of 4 n ++ r) (word_bytes ws ns (omega arith) h.1))

-- and behind the words of a record stands its day
pub record_words : (row : Row) → IsRow row → record_block row ≡ flatten (map (bytes_of 4) (take 10 (drop 2 row))) ++ bytes_of 2 (day_of row)
unfolding written_form record_fields day_fields tag_words tag_fields row_width bytes_of_fields
record_words row ok =
    let words = take 10 (drop 2 row) in
    let long : length words ≡ 10 = omega (arith, length-take 10 (drop 2 row), length-drop 2 row, ok.width) in
    ap (bytes_of_fields (record_fields written_form)) (sym (take-append-drop 10 (drop 2 row)) ∙ ap (λ (r : List ℕ). words ++ r) (day_last row ok))
    ∙ fields_append (replicate 10 4) (day_fields written_form) words (day_of row ∷ []) long
    ∙ ap₂ ◌++◌ (word_bytes (replicate 10 4) words long (refl, (refl, (refl, (refl, (refl, (refl, (refl, (refl, (refl, (refl, tt))))))))))) (append-nil (bytes_of 2 (day_of row)))
