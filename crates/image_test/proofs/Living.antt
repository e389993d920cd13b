-- The live ones of some slots, entered one after the other: the entries in front are those of the live slots passed, and never more than there are.
use Prim.Native.Nat.{ℕ, ◌+◌, ◌-◌, ◌≤◌, ◌<◌}
use native.Mathlib.Omega.{arith}
use native.Mathlib.Numerals.{add-one}
use mathlib.Core.Path.{◌≡◌, refl, sym, ◌∙◌, ap, ap₂}
use mathlib.Core.Bool.{Bool, true, false}
use mathlib.Core.List.{List, [], ◌∷◌, ◌++◌, map, map-append, append-nil}
use lib.ListN.{length, length-map, length-append, set, take}
use lib.Seq.{take-suc-set}
use Rattle.lists.specs.Lists.{count_from, select, All}
use Rattle.lists.proofs.Lists.{all_map, all_always}
use Rattle.metric_rules.specs.Row.{Row, tag_of, is_live}
use Rattle.search_rules.specs.Range.{Entry, entry, entry_distance}
use Rattle.search_rules.proofs.Selecting.{select_append}
use Rattle.image_rules.proofs.Blocks.{count_append}
use Rattle.table_rules.proofs.Down.{count_last}
use Rattle.image_entries.specs.Entries.{tag_entry, Fresh, counted_entries}

module _ (slot : ℕ → Row) where
  -- the numbers of the live ones of the first i slots
  lived_to : ℕ → List ℕ
  lived_to i = select (λ j. is_live (slot j)) (count_from 0 i)

  next : (i : ℕ) → lived_to (i + 1) ≡ lived_to i ++ select (λ j. is_live (slot j)) (i ∷ [])
  unfolding lived_to
  next i =
      ap (select (λ j. is_live (slot j))) (ap (count_from 0) (add-one i) ∙ count_last 0 i i (omega arith))
      ∙ select_append (λ j. is_live (slot j)) (count_from 0 i) (i ∷ [])

  one : (i : ℕ) (b : Bool) → is_live (slot i) ≡ b → select (λ j. is_live (slot j)) (i ∷ []) ≡ elim b [ true ↦ i ∷ [] | false ↦ [] ]
  unfolding select
  one i b e = ap (λ (t : Bool). elim t [ true ↦ i ∷ [] | false ↦ [] ]) e

  next_live : (i : ℕ) → is_live (slot i) ≡ true → lived_to (i + 1) ≡ lived_to i ++ (i ∷ [])
  next_live i e = next i ∙ ap (λ (r : List ℕ). lived_to i ++ r) (one i true e)

  next_dead : (i : ℕ) → is_live (slot i) ≡ false → lived_to (i + 1) ≡ lived_to i
  next_dead i e = next i ∙ ap (λ (r : List ℕ). lived_to i ++ r) (one i false e) ∙ append-nil (lived_to i)

  lived_few : (i m : ℕ) → length (lived_to i) ≤ length (lived_to (i + m))
  unfolding lived_to
  lived_few i m =
      omega (
        arith,
        ap (λ (js : List ℕ). length (select (λ j. is_live (slot j)) js)) (count_append 0 i m),
        ap length (select_append (λ j. is_live (slot j)) (count_from 0 i) (count_from (0 + i) m)),
        length-append (select (λ j. is_live (slot j)) (count_from 0 i)) (select (λ j. is_live (slot j)) (count_from (0 + i) m)),
      )

  entered_length : (n : ℕ) → length (counted_entries slot is_live n) ≡ length (lived_to n)
  unfolding counted_entries lived_to
  entered_length n = length-map (select (λ j. is_live (slot j)) (count_from 0 n)) (λ i. tag_entry (tag_of (slot i)) i)

  -- what stands in front while slots are passed
  pub record Entered (es : List Entry) (count i : ℕ) : Type 0 where
    pub counted : count ≡ length (counted_entries slot is_live i)
    pub front : take count es ≡ counted_entries slot is_live i

  -- a live slot finds room
  pub live_room : (es : List Entry) (count i n : ℕ) → Entered es count i → i < n → is_live (slot i) ≡ true → count < length (counted_entries slot is_live n)
  live_room es count i n s h e =
      let m : ℕ = n - (i + 1) in
      let there : i + 1 + m ≡ n = omega arith in
      omega (
        arith,
        s.counted,
        entered_length i,
        ap length (next_live i e),
        length-append (lived_to i) (i ∷ []),
        lived_few (i + 1) m,
        ap (λ (k : ℕ). length (lived_to k)) there,
        entered_length n,
      )

  pub entered_none : (es : List Entry) → Entered es 0 0
  unfolding counted_entries count_from select
  entered_none es = record { counted = refl; front = refl }

  entries_next : (i : ℕ) → is_live (slot i) ≡ true → counted_entries slot is_live (i + 1) ≡ counted_entries slot is_live i ++ (tag_entry (tag_of (slot i)) i ∷ [])
  unfolding counted_entries lived_to
  entries_next i e = ap (map (λ j. tag_entry (tag_of (slot j)) j)) (next_live i e) ∙ map-append (λ j. tag_entry (tag_of (slot j)) j) (lived_to i) (i ∷ [])

  entries_same : (i : ℕ) → is_live (slot i) ≡ false → counted_entries slot is_live (i + 1) ≡ counted_entries slot is_live i
  unfolding counted_entries lived_to
  entries_same i e = ap (map (λ j. tag_entry (tag_of (slot j)) j)) (next_dead i e)

  pub entered_live :
      (es : List Entry) (count i : ℕ) (x : Entry) → Entered es count i → is_live (slot i) ≡ true → count < length es → x ≡ tag_entry (tag_of (slot i)) i
      → Entered (set es count x) (count + 1) (i + 1)
  entered_live es count i x s e room q =
      record {
        counted = omega (arith, s.counted, ap length (entries_next i e), length-append (counted_entries slot is_live i) (tag_entry (tag_of (slot i)) i ∷ []));
        front =
            ap (λ (k : ℕ). take k (set es count x)) (add-one count)
            ∙ take-suc-set es count x room
            ∙ ap₂ (λ (l : List Entry) (y : Entry). l ++ (y ∷ [])) s.front q
            ∙ sym (entries_next i e);
      }

  pub entered_dead : (es : List Entry) (count i : ℕ) → Entered es count i → is_live (slot i) ≡ false → Entered es count (i + 1)
  entered_dead es count i s e = record { counted = s.counted ∙ ap length (sym (entries_same i e)); front = s.front ∙ sym (entries_same i e) }

  -- the entries of live slots have no distance
  pub live_fresh : (n : ℕ) → All Fresh (counted_entries slot is_live n)
  unfolding counted_entries tag_entry entry entry_distance
  live_fresh n =
      all_map (λ i. tag_entry (tag_of (slot i)) i) Fresh (select (λ j. is_live (slot j)) (count_from 0 n)) (all_always (λ i. (refl, refl)) (select (λ j. is_live (slot j)) (count_from 0 n)))
