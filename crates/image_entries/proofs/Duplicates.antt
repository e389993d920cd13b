-- The first slot whose tag an earlier one has, among those that count: what stands side by side in the entries' order shows it. The words of the entries
-- ascend and tell the slots apart, so each tag's slots stand there by their places.
use Prim.Native.Nat.{ℕ, zero, suc, ◌+◌, ◌*◌, ◌/◌, ◌%◌, ◌≤◌, ◌<◌}
use native.Mathlib.Omega.{arith}
use native.Mathlib.Decide.{dec_le}
use native.Mathlib.Nat.{lt_of_not-le}
use mathlib.Core.Path.{◌≡◌, refl, sym, ◌∙◌, ap, subst}
use mathlib.Core.Logic.{⊎_elim}
use mathlib.Core.Bool.{Bool, true, false, not, ◌||◌}
use mathlib.Core.List.Permᴰ
use mathlib.Core.List.{List, [], ◌∷◌, map, map-map, Permᴰ}
use lib.Dec.{eqb}
use lib.ListN.{get_or}
use borrow.Author.Tests.{leb-true, eqb-true, eqb-false}
use Rattle.lists.specs.Lists.{count_from, select, All}
use Rattle.lists.proofs.Lists.{Pairs, all_always, all_weaken, all_both, all_map, all_of_map, all_perm, pairs_map, pairs_perm, perm_map}
use Rattle.lists.proofs.Distinct.{Differ}
use Rattle.metric_rules.specs.Row.{Row, tag_of}
use Rattle.tree_rules.specs.Sorting.{sort_by}
use Rattle.tree_rules.proofs.Sorting.{NotAfter, apart_less, key_le_cases, key_le_last, sort_perm, sort_sorted}
use Rattle.search_rules.specs.Range.{Entry, entry, entry_distance, entry_key, ordered}
use Rattle.table_rules.specs.Refusals.{unless}
use Rattle.table_rules.proofs.ByNumber.{all_count, count_all, count_apart}
use Rattle.image_rules.specs.declared.Loaded.{Loaded}
use Rattle.image_rules.specs.Trees.{duplicate_tag, none_has, first_refused}
use Rattle.image_rules.proofs.TreesPass.{Apart, refused_none, none_apart, apart_none, all_selected, selected_all}
use Rattle.image_rules.proofs.Counting.{map_count_more}
use Rattle.image_entries.specs.Faults.{no_fault, tag_refusal, tag_refusals}
use Rattle.image_entries.specs.Entries.{places, first_word, tag_entry, counted_entries}
use Rattle.image_entries.specs.Duplicates.{least_repeated, duplicate_at, duplicate_fault}
use Rattle.image_entries.proofs.Repeated.{least_most, least_below, least_is}
use Rattle.image_entries.proofs.Ranking.{ordered_perm}

-- relations of the pairs of a list: of those whose elements are all P, of the selected, and both of two
pairs_with : {A : Type 0} {P : A → Type 0} {R S : A → A → Type 0} → ((x y : A) → P x → P y → R x y → S x y) → (xs : List A) → All P xs → Pairs R xs → Pairs S xs
pairs_with f [] h p = tt
pairs_with f (x ∷ xs) h p = (all_both (λ y k r. f x y h.0 k r) xs h.1 p.0, pairs_with f xs h.1 p.1)

pairs_select : {A : Type 0} (R : A → A → Type 0) (test : A → Bool) (xs : List A) → Pairs R xs → Pairs R (select test xs)
unfolding select
pairs_select R test [] p = tt
pairs_select R test (x ∷ xs) p = go (test x) (selected_all test (R x) xs (all_weaken (λ y r t. r) xs p.0)) (pairs_select R test xs p.1)
  where
    go : (b : Bool) → All (R x) (select test xs) → Pairs R (select test xs) → Pairs R (elim b [ true ↦ x ∷ select test xs | false ↦ select test xs ])
    go true a r = (a, r)
    go false a r = r

pairs_less : (ws : List ℕ) → Pairs ◌≤◌ ws → Pairs Differ ws → Pairs ◌<◌ ws
pairs_less [] p q = tt
pairs_less (w ∷ ws) p q = (all_both (λ v h f. apart_less w v h f) ws p.0 q.0, pairs_less ws p.1 q.1)

-- entries without a distance, in order, stand by their first words
word_ascends : (e f : Entry) → entry_distance e ≡ 0 → entry_distance f ≡ 0 → NotAfter entry_key e f → first_word e ≤ first_word f
unfolding entry_key first_word
word_ascends e f p q h =
    let a : ℕ = get_or e 0 0 in
    let b : ℕ = get_or f 0 0 in
    ⊎_elim (λ l. absurd (omega arith))
    (λ l. leb-true a b (sym (key_le_last a b) ∙ l.1))
    (key_le_cases (entry_distance e) (entry_distance f) (a ∷ []) (b ∷ []) h)

words_sorted : (es : List Entry) → All (λ e. entry_distance e ≡ 0) es → Pairs ◌≤◌ (map first_word (ordered es))
unfolding ordered
words_sorted es h =
    pairs_map first_word ◌≤◌ (sort_by entry_key es)
    (pairs_with word_ascends (sort_by entry_key es) (all_perm (λ e. entry_distance e ≡ 0) (Permᴰ.symm (sort_perm entry_key es)) h) (sort_sorted entry_key es))

-- the first of numbered slots that is refused
module _ (f : ℕ → ℕ) (first : ℕ) where
  pub first_found : (a n r m : ℕ) → a ≤ r → r < a + n → ((j : ℕ) → j < r → f j ≡ 0) → f r ≡ suc m
      → first_refused (first + a) (map f (count_from a n)) ≡ record { refusal = suc m; slot = first + r }
  unfolding count_from first_refused
  first_found a zero r m low high before here = absurd (omega arith)
  first_found a (suc n) r m low high before here =
      elim (dec_le (suc a) r) [
        | yes d ↦
            (let e : suc (first + a) ≡ first + suc a = omega arith in
            ap (λ (k : ℕ). first_refused (first + a) (k ∷ map f (count_from (suc a) n))) (before a d)
            ∙ ap (λ (k : ℕ). first_refused k (map f (count_from (suc a) n))) e
            ∙ first_found (suc a) n r m d (omega arith) before here)
        | no d ↦
            (let e : a ≡ r = omega (arith, lt_of_not-le d) in
            ap (λ (k : ℕ). first_refused (first + a) (k ∷ map f (count_from (suc a) n))) (ap f e ∙ here)
            ∙ ap (λ (k : ℕ). record { refusal = suc m; slot = first + k }) e)
      ]

  pub first_nowhere : (n : ℕ) → ((j : ℕ) → j < n → f j ≡ 0) → first_refused first (map f (count_from 0 n)) ≡ no_fault
  unfolding no_fault
  first_nowhere n none = refused_none first (map f (count_from 0 n)) (all_map f (λ m. m ≡ 0) (count_from 0 n) (all_count (λ j. f j ≡ 0) 0 n (λ j l h. none j (omega arith))))

module _ (slot : ℕ → Row) (counts : Row → Bool) where
  -- slot j's refusal among the slots that count
  refusal_at : ℕ → ℕ
  refusal_at j = tag_refusal counts (map slot (count_from 0 j)) (slot j)

  by_number : (a n : ℕ) → tag_refusals counts (map slot (count_from 0 a)) (map slot (count_from a n)) ≡ map refusal_at (count_from a n)
  unfolding tag_refusals count_from refusal_at
  by_number a zero = refl
  by_number a (suc n) =
      ap (λ (ns : List ℕ). refusal_at a ∷ ns)
      (ap (λ (rows : List Row). tag_refusals counts rows (map slot (count_from (suc a) n))) (sym (map_count_more slot a)) ∙ by_number (suc a) n)

  -- the slots that count, by their numbers, and their words
  picked : ℕ → List ℕ
  picked n = select (λ i. counts (slot i)) (count_from 0 n)

  word : ℕ → ℕ
  word i = tag_of (slot i) * places + i

  word_tag : (i : ℕ) → i < places → word i / places ≡ tag_of (slot i)
  unfolding word places
  word_tag i h = omega arith

  word_place : (i : ℕ) → i < places → word i % places ≡ i
  unfolding word places
  word_place i h = omega arith

  -- two of one tag stand by their numbers
  word_less : (i j : ℕ) → tag_of (slot i) ≡ tag_of (slot j) → i < j → word i < word j
  unfolding word
  word_less i j e h = omega (arith, ap (λ (t : ℕ). t * places) e)

  less_word : (i j : ℕ) → tag_of (slot i) ≡ tag_of (slot j) → word i < word j → i < j
  unfolding word
  less_word i j e h = omega (arith, ap (λ (t : ℕ). t * places) e)

  module _ (n : ℕ) (few : n ≤ places) where
    all-picked : (P : ℕ → Type 0) → ((i : ℕ) → i < n → counts (slot i) ≡ true → P i) → All P (picked n)
    unfolding picked
    all-picked P h = selected_all (λ i. counts (slot i)) P (count_from 0 n) (all_count (λ i. counts (slot i) ≡ true → P i) 0 n (λ i l m. h i (omega arith)))

    picked_all : (P : ℕ → Type 0) → All P (picked n) → (i : ℕ) → i < n → counts (slot i) ≡ true → P i
    unfolding picked
    picked_all P h i l = count_all (λ i. counts (slot i) ≡ true → P i) 0 n (all_selected (λ i. counts (slot i)) P (count_from 0 n) h) i (omega arith) (omega arith)

    -- the words in the entries' order
    words : List ℕ
    words = map first_word (ordered (counted_entries slot counts n))

    words_are : map first_word (counted_entries slot counts n) ≡ map word (picked n)
    unfolding counted_entries picked word first_word tag_entry entry
    words_are = map-map first_word (λ i. tag_entry (tag_of (slot i)) i) (select (λ i. counts (slot i)) (count_from 0 n))

    words-perm : Permᴰ words (map word (picked n))
    unfolding words
    words-perm = subst (Permᴰ (map first_word (ordered (counted_entries slot counts n)))) words_are (perm_map first_word (ordered_perm (counted_entries slot counts n)))

    -- what holds of every two numbers holds of every two words, and the other way round
    module _ (R : ℕ → ℕ → Type 0) where
      to-words : ((i j : ℕ) → i < n → counts (slot i) ≡ true → j < n → counts (slot j) ≡ true → R (word i) (word j)) → All (λ u. All (R u) words) words
      to-words h =
          all_perm (λ u. All (R u) words) (Permᴰ.symm words-perm)
          (all_map word (λ u. All (R u) words) (picked n)
          (all-picked (λ i. All (R (word i)) words)
          (λ i l m. all_perm (R (word i)) (Permᴰ.symm words-perm) (all_map word (R (word i)) (picked n) (all-picked (λ j. R (word i) (word j)) (λ j k o. h i j l m k o))))))

      from-words : All (λ u. All (R u) words) words → (i j : ℕ) → i < n → counts (slot i) ≡ true → j < n → counts (slot j) ≡ true → R (word i) (word j)
      from-words h i j l m k o =
          let here : All (R (word i)) words = picked_all (λ i. All (R (word i)) words) (all_of_map word (λ u. All (R u) words) (picked n) (all_perm (λ u. All (R u) words) words-perm h)) i l m in
          picked_all (λ j. R (word i) (word j)) (all_of_map word (R (word i)) (picked n) (all_perm (R (word i)) words-perm here)) j k o

    words_apart : Pairs Differ words
    unfolding picked
    words_apart =
        pairs_perm Differ (λ u v f e. f (sym e)) (Permᴰ.symm words-perm)
        (pairs_map word Differ (picked n)
        (pairs_with {P = λ i. i < n} {R = λ i j. i ≡ j → ⊥}
        (λ i j l m f e. f (sym (word_place i (omega arith)) ∙ ap (λ (w : ℕ). w % places) e ∙ word_place j (omega arith))) (picked n)
        (all-picked (λ i. i < n) (λ i l m. l)) picked_apart))
      where
        picked_apart : Pairs (λ i j. i ≡ j → ⊥) (picked n)
        picked_apart = pairs_select (λ i j. i ≡ j → ⊥) (λ i. counts (slot i)) (count_from 0 n) (count_apart 0 n)

    words-ascend : Pairs ◌<◌ words
    unfolding words entry_distance tag_entry entry counted_entries picked
    words-ascend =
        pairs_less words
        (words_sorted (counted_entries slot counts n) no_distance)
        words_apart
      where
        no_distance : All (λ e. entry_distance e ≡ 0) (counted_entries slot counts n)
        no_distance = all_map (λ i. tag_entry (tag_of (slot i)) i) (λ e. entry_distance e ≡ 0) (picked n) (all_always (λ i. refl) (picked n))

    -- the least place of a word behind one of its tag: no slot before it has a tag that was met, and its own was
    least : ℕ
    least = least_repeated places words

    before-least : (j : ℕ) → j < n → j < least → refusal_at j ≡ 0
    unfolding refusal_at tag_refusal least
    before-least j l h = go (counts (slot j)) refl
      where
        met : counts (slot j) ≡ true → (i : ℕ) → i < j → counts (slot i) ≡ true → tag_of (slot i) ≡ tag_of (slot j) → ⊥
        met c i k o e =
            omega (
              arith,
              from-words (λ u v. u < v → u / places ≡ v / places → least_repeated places words ≤ v % places) (least_below places words words-ascend)
                  i j (omega arith) o l c (word_less i j e k) (word_tag i (omega arith) ∙ e ∙ sym (word_tag j (omega arith))),
              word_place j (omega arith),
            )

        go : (b : Bool) → counts (slot j) ≡ b → unless (not b || none_has (tag_of (slot j)) (select counts (map slot (count_from 0 j)))) duplicate_tag 0 ≡ 0
        go false e = refl
        go true e =
            ap (λ (t : Bool). unless t duplicate_tag 0)
            (apart_none (slot j) (select counts (map slot (count_from 0 j)))
            (selected_all counts (λ x. Apart x (slot j)) (map slot (count_from 0 j))
            (all_map slot (λ x. counts x ≡ true → Apart x (slot j)) (count_from 0 j)
            (all_count (λ i. counts (slot i) ≡ true → Apart (slot i) (slot j)) 0 j (λ i m k. met e i (omega arith))))))

    module _ (some : least < places) where
      told : All (λ u. All (λ v. u < v → u / places ≡ v / places → v % places ≡ least → ⊥) words) words → ⊥
      unfolding least
      told h = omega (arith, least_is places (least_repeated places words) words words-ascend h refl)

      least-within : least < n
      least-within =
          elim (dec_le n least) [
            | yes d ↦ absurd (told (to-words (λ u v. u < v → u / places ≡ v / places → v % places ≡ least → ⊥) (λ i j l m k o h q e. omega (arith, word_place j (omega arith)))))
            | no d ↦ lt_of_not-le d
          ]

      least-refused : refusal_at least ≡ duplicate_tag
      unfolding refusal_at tag_refusal
      least-refused = go (not (counts (slot least)) || none_has (tag_of (slot least)) (select counts (map slot (count_from 0 least)))) refl
        where
          apart : (not (counts (slot least)) || none_has (tag_of (slot least)) (select counts (map slot (count_from 0 least)))) ≡ true → counts (slot least) ≡ true
              → (i : ℕ) → i < least → counts (slot i) ≡ true → Apart (slot i) (slot least)
          apart t c i l m =
              count_all (λ i. counts (slot i) ≡ true → Apart (slot i) (slot least)) 0 least
              (all_of_map slot (λ x. counts x ≡ true → Apart x (slot least)) (count_from 0 least)
              (all_selected counts (λ x. Apart x (slot least)) (map slot (count_from 0 least))
              (none_apart (slot least) (select counts (map slot (count_from 0 least)))
              (sym (ap (λ (b : Bool). not b || none_has (tag_of (slot least)) (select counts (map slot (count_from 0 least)))) c) ∙ t)))) i (omega arith) (omega arith) m

          go : (b : Bool) → (not (counts (slot least)) || none_has (tag_of (slot least)) (select counts (map slot (count_from 0 least)))) ≡ b → unless b duplicate_tag 0 ≡ duplicate_tag
          go false e = refl
          go true e =
              absurd (told (to-words (λ u v. u < v → u / places ≡ v / places → v % places ≡ least → ⊥)
              (λ i j l m k o h q p.
              let is : j ≡ least = sym (word_place j (omega arith)) ∙ p in
              let tags : tag_of (slot i) ≡ tag_of (slot j) = sym (word_tag i (omega arith)) ∙ q ∙ word_tag j (omega arith) in
              apart e (ap (λ (x : ℕ). counts (slot x)) (sym is) ∙ o) i (omega (arith, less_word i j tags h, is)) m (tags ∙ ap (λ (x : ℕ). tag_of (slot x)) is))))

    pub duplicates-found : (first : ℕ) → duplicate_fault first (ordered (counted_entries slot counts n)) ≡ first_refused first (tag_refusals counts [] (map slot (count_from 0 n)))
    unfolding duplicate_fault duplicate_at least words count_from
    duplicates-found first = go (eqb least places) refl ∙ sym (ap (first_refused first) (by_number 0 n))
      where
        go : (b : Bool) → eqb least places ≡ b
            → ◌≡◌ {A = Loaded} (elim b [ true ↦ no_fault | false ↦ record { refusal = duplicate_tag; slot = first + least } ]) (first_refused first (map refusal_at (count_from 0 n)))
        go true e = sym (first_nowhere refusal_at first n (λ j l. before-least j l (omega (arith, eqb-true least places e))))
        go false e =
            let some : least < places = omega (arith, least_most places words, eqb-false least places e) in
            let start : first + 0 ≡ first = omega arith in
            sym (ap (λ (k : ℕ). first_refused k (map refusal_at (count_from 0 n))) (sym start)
            ∙ first_found refusal_at first 0 n least 35 (omega arith) (omega (arith, least-within some)) (λ j h. before-least j (omega (arith, least-within some)) h) (least-refused some))
