-- What the buckets have, put one after the other, is what all of them have: their sizes, and their tags and records at once.
use Prim.Native.Nat.{ℕ, zero, suc, ◌+◌, ◌*◌, ◌≤◌, ◌<◌}
use mathlib.Core.Path.{◌≡◌, refl, sym, ap, ap₂, ◌∙◌}
use mathlib.Core.List.{List, [], ◌∷◌, ◌++◌, map, map-append, flatten}
use native.Mathlib.Nat.{lt_of_not-le, mul-suc}
use native.Mathlib.Numerals.{add-one}
use native.Mathlib.Omega.{arith}
use native.Mathlib.Decide.{dec_le}
use lib.ListN.{length, length-append}
use lib.Seq.{sets}
use Rattle.lists.specs.Lists.{count_from}
use Rattle.metric_rules.specs.Row.{Row}
use Rattle.table_rules.specs.Geometry.{buckets_of}
use Rattle.table_rules.specs.Table.{Table, order_of, slots_of}
use Rattle.image_rules.specs.Bytes.{written_form, record_bytes}
use Rattle.image_rules.specs.Write.{tags_of, records_of, all_slots}
use Rattle.image_rules.proofs.Counting.{flatten_append, flatten_more}
use Rattle.tree_rules.proofs.Stores.{sets_more, sets_apart}
use Rattle.image_put.proofs.Stores.{tag_block, record_block, length_tags, length_records}

module _ (f : ℕ → List ℕ) where
  -- what the first n buckets have
  unfoldable pub run : ℕ → List ℕ
  run n = flatten (map f (count_from 0 n))

  pub run_next : (k : ℕ) → run (suc k) ≡ run k ++ f k
  unfolding run
  run_next k = flatten_more f k

  length_run : (k : ℕ) → length (run (suc k)) ≡ length (run k) + length (f k)
  length_run k = ap length (run_next k) ∙ length-append (run k) (f k)

  run_within : (k n : ℕ) → k ≤ n → length (run k) ≤ length (run n)
  run_within k zero h = let e : k ≡ zero = omega arith in rw e (omega arith)
  run_within k (suc n) h =
      elim (dec_le k n) [
        | yes d ↦ omega (arith, run_within k n d, length_run n)
        | no d ↦ (let e : k ≡ suc n = omega (arith, lt_of_not-le d) in rw e (omega arith))
      ]

  pub length_even : (w : ℕ) → ((k : ℕ) → length (f k) ≡ w) → (n : ℕ) → length (run n) ≡ w * n
  unfolding run count_from flatten
  length_even w h zero = omega arith
  length_even w h (suc n) = omega (arith, length_run n, h n, length_even w h n, mul-suc w n)

  -- a turn of the loop that stores them
  pub run_more : (l before : List ℕ) (at place k : ℕ) → place ≡ at + length (run k) → before ≡ sets l at (run k)
      → sets before place (f k) ≡ sets l at (run (suc k))
  run_more l before at place k e was =
      ap (λ (r : List ℕ). sets r place (f k)) was ∙ sets_more l at place (run k) (f k) e ∙ ap (sets l at) (sym (run_next k))

-- blocks of the elements of all lists, and of the elements list by list
pub blocks_by_list : {A : Type 0} (b : A → List ℕ) (s : ℕ → List A) (ks : List ℕ)
    → flatten (map b (flatten (map s ks))) ≡ flatten (map (λ k. flatten (map b (s k))) ks)
unfolding flatten
blocks_by_list b s [] = refl
blocks_by_list b s (k ∷ ks) =
    ap flatten (map-append b (s k) (flatten (map s ks)))
    ∙ flatten_append (map b (s k)) (map b (flatten (map s ks)))
    ∙ ap (λ (r : List ℕ). flatten (map b (s k)) ++ r) (blocks_by_list b s ks)

-- two runs, each made longer at its end, while the first stays before the second
both_more : (l : List ℕ) (a b : ℕ) (xs ys x y : List ℕ) {image : List ℕ} {i j : ℕ} → image ≡ sets (sets l a xs) b ys
    → i ≡ a + length xs → i + length x ≤ b → j ≡ b + length ys
    → sets (sets image i x) j y ≡ sets (sets l a (xs ++ x)) b (ys ++ y)
both_more l a b xs ys x y {image} {i} {j} was first apart second =
    ap (λ (m : List ℕ). sets (sets m i x) j y) was
    ∙ ap (λ (m : List ℕ). sets m j y) (sets_apart (sets l a xs) i b x ys apart ∙ ap (λ (m : List ℕ). sets m b ys) (sets_more l a i xs x first))
    ∙ sets_more (sets l a (xs ++ x)) b j ys y second

-- the tags and the records of a bucket, and those of all slots bucket by bucket
module _ (t : Table) where
  unfoldable pub tags_at : ℕ → List ℕ
  tags_at k = tags_of (slots_of t k)

  unfoldable pub records_at : ℕ → List ℕ
  records_at k = records_of written_form (slots_of t k)

  all_tags : run tags_at (suc (order_of t)) ≡ tags_of (all_slots t)
  unfolding tags_at tags_of all_slots buckets_of run
  all_tags = sym (blocks_by_list tag_block (slots_of t) (count_from 0 (suc (order_of t))))

  all_records : run records_at (suc (order_of t)) ≡ records_of written_form (all_slots t)
  unfolding records_at records_of all_slots buckets_of run
  all_records = sym (blocks_by_list record_block (slots_of t) (count_from 0 (suc (order_of t))))

  -- the loop that stores them from two places on: those of the first k buckets are stored, and the places in hand are behind them
  pub record Stored (tags records : ℕ) (first image : List ℕ) (tag bytes k : ℕ) : Type 0 where
    pub within : k ≤ suc (order_of t)
    pub same : length image ≡ length first
    pub tagPlace : tag ≡ tags + length (run tags_at k)
    pub recordPlace : bytes ≡ records + length (run records_at k)
    pub area : image ≡ sets (sets first tags (run tags_at k)) records (run records_at k)

  pub none_stored : (tags records : ℕ) (first : List ℕ) → Stored tags records first first tags records 0
  unfolding run count_from flatten
  none_stored tags records first = record { within = omega arith; same = refl; tagPlace = omega arith; recordPlace = omega arith; area = refl }

module _ {t : Table} {tags records : ℕ} {first image : List ℕ} {tag bytes k : ℕ} (s : Stored t tags records first image tag bytes k) where
  pub all_stored : order_of t < k → image ≡ sets (sets first tags (tags_of (all_slots t))) records (records_of written_form (all_slots t))
  all_stored h =
      let done : k ≡ suc (order_of t) = omega (arith, s.within) in
      s.area
      ∙ ap (λ (n : ℕ). sets (sets first tags (run (tags_at t) n)) records (run (records_at t) n)) done
      ∙ ap₂ (λ (ts bs : List ℕ). sets (sets first tags ts) records bs) (all_tags t) (all_records t)

  -- a turn: the slots of bucket k are in hand
  module _ (h : k ≤ order_of t) {rows : List Row} (e : rows ≡ slots_of t k) (apart : tags + length (tags_of (all_slots t)) ≤ records) where
    tags-within : tag + length (tags_at t k) ≤ records
    tags-within = omega (arith, s.tagPlace, length_run (tags_at t) k, run_within (tags_at t) (suc k) (suc (order_of t)) (omega arith), ap length (all_tags t))

    pub slots_fit : records + length (records_of written_form (all_slots t)) ≤ length first
        → (tag + length (tags_of rows) ≤ bytes) × (bytes + length (records_of written_form rows) ≤ length image)
    unfolding tags_at records_at
    slots_fit fits =
        rw e (
          omega (arith, tags-within, s.recordPlace),
          omega (arith, s.same, s.recordPlace, length_run (records_at t) k, run_within (records_at t) (suc k) (suc (order_of t)) (omega arith), ap length (all_records t)),
        )

    pub more_stored : {width : ℕ} {next : List ℕ} → width ≡ record_bytes written_form → length next ≡ length image → next ≡ sets (sets image tag (tags_of rows)) bytes (records_of written_form rows)
        → Stored t tags records first next (tag + 8 * length rows) (bytes + width * length rows) (k + 1)
    unfolding tags_at records_at
    more_stored {width} {next} wide same put =
        let tagged = run_next (tags_at t) k in
        let recorded = run_next (records_at t) k in
        rw (add-one k)
        (record {
          within = omega arith;
          same = same ∙ s.same;
          tagPlace = omega (arith, s.tagPlace, length_run (tags_at t) k, length_tags rows, ap (λ (rs : List Row). length (tags_of rs)) e);
          recordPlace = rw wide (omega (arith, s.recordPlace, length_run (records_at t) k, length_records rows, ap (λ (rs : List Row). length (records_of written_form rs)) e));
          area =
              put
              ∙ ap (λ (rs : List Row). sets (sets image tag (tags_of rs)) bytes (records_of written_form rs)) e
              ∙ both_more first tags records (run (tags_at t) k) (run (records_at t) k) (tags_at t k) (records_at t k) s.area s.tagPlace tags-within s.recordPlace
              ∙ sym (ap₂ (λ (ts bs : List ℕ). sets (sets first tags ts) records bs) tagged recorded);
        })
