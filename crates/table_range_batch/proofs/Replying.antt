-- What a batch replies and leaves, test by test: a refusal its number, zeros and the area as it was; else each query's list in its part, or 6.
use Prim.Native.Nat.{ℕ, zero, suc, ◌+◌, ◌-◌, ◌*◌, ◌^◌, ◌≤◌, ◌<◌}
use native.Mathlib.Omega.{arith}
use native.Mathlib.Nat.{mul-div-le, mul-le-mul_right}
use mathlib.Core.Path.{◌≡◌, refl, sym, ap, ap₂, subst, ◌∙◌}
use mathlib.Core.Bool.{Bool, true, false}
use mathlib.Core.List.{List, [], ◌++◌, map}
use lib.ListN.{length, take, drop, get_or, replicate, length-map, take-append-drop}
use lib.Seq.{sets, take_at}
use lib.Dec.{leb}
use borrow.Author.Tests.{leb-true, ne_eqb}
use Rattle.lists.specs.Lists.{All, every}
use Rattle.lists.proofs.Tests.{every_map, and_first, and_second}
use Rattle.metric_rules.specs.Row.{Row, profile_of, IsProfile}
use Rattle.tree_rules.proofs.Parts.{get_or_mapped}
use Rattle.tree_rules.proofs.Stores.{sets_front}
use Rattle.search_rules.specs.Range.{Entry, Pair, ordered}
use Rattle.tree_range_batch.specs.Together.{part_at, Collects}
use Rattle.table_rules.specs.Refusals.{bad_measure, no_room, unless, or_else}
use Rattle.table_rules.specs.Geometry.{header_row}
use Rattle.table_rules.specs.Table.{Table, row_at, order_of}
use Rattle.table_rules.specs.Checks.{read_refusal}
use Rattle.table_rules.specs.Search.{Answer, zero_entry}
use Rattle.table_rules.proofs.Chains.{or_zero, unless_zero, or_not}
use Rattle.table_rules.proofs.Replies.{not_short}
use Rattle.batch_rules.specs.declared.Ranges.{Ranges}
use Rattle.batch_rules.specs.Batch.{bad_batch, most_queries, valid_number, single_answer, single_answers, part_size, queries_refusal, parts_refusal, batch_refusal}
use Rattle.batch_rules.specs.Batch.{found_by, ranges_reply, result_after_parts, part_with, parts_with, batch_count, range_batch_reply, result_after_batch}
use Rattle.table_range_batch.specs.Asking.{asking_refusal}
use Rattle.table_range_batch.specs.Below.{batch_of, hits_below, count_below, hits_in, Ordered, InParts}
use Rattle.table_range_batch.proofs.Ordering.{part_size_lem, parts_joined}
use Rattle.table_range_batch.proofs.Answering.{hits_pairs, entries_are, entries_many, found_are, count_is}

-- the refusals of the queries are 40 and 2
queries_not_six : (queries : List Row) → queries_refusal queries ≡ no_room → ⊥
unfolding queries_refusal
queries_not_six queries = go (valid_number (length queries)) (every _ queries)
  where
    go : (a b : Bool) → unless a bad_batch (unless b bad_measure 0) ≡ no_room → ⊥
    go true true e = omega (arith, e)
    go true false e = omega (arith, e)
    go false b e = omega (arith, e)

-- where they do not stop the call, there are 1 to 16 queries
pub queries_number : (t : Table) (queries : List Row) → 0 ≡ asking_refusal t queries → (1 ≤ length queries) × (length queries ≤ 16)
unfolding queries_refusal valid_number most_queries
queries_number t queries asked =
    let n = length queries in
    let valid = (unless_zero (valid_number n) bad_batch _ (omega arith) (or_zero (read_refusal t) _ (sym asked)).1).0 in
    (leb-true 1 n (and_first (leb 1 n) (leb n 16) valid), leb-true n 16 (and_second (leb 1 n) (leb n 16) valid))

-- a refusal returns its number and zeros, and leaves the area as it was unless a part was too short
refused_reply : (n : ℕ) → (n ≡ 0 → ⊥) → (answers : List Answer) (count : ℕ) → ranges_reply n answers count ≡ record { refusal = n; distances = 0; found = replicate 16 0 }
unfolding ranges_reply most_queries
refused_reply zero some answers count = absurd (some refl)
refused_reply (suc n) some answers count = refl

refused_area : (n : ℕ) → (n ≡ 0 → ⊥) → (n ≡ no_room → ⊥) → (area : List Entry) (size : ℕ) (answers : List Answer) → result_after_parts n area size answers ≡ area
unfolding result_after_parts
refused_area zero some other area size answers = absurd (some refl)
refused_area (suc n) some other area size answers = ap (λ (b : Bool). elim b [ true ↦ replicate (length area) zero_entry | false ↦ area ]) (ne_eqb (suc n) no_room other)

pub zero_at : (n j : ℕ) → ◌≡◌ {A = ℕ} (get_or (replicate n 0) j 0) 0
zero_at zero j = refl
zero_at (suc n) zero = refl
zero_at (suc n) (suc j) = zero_at n j

module _ (t : Table) (area : List Entry) (queries : List Row) where
  abbrev Replies : ℕ → Type 0
  Replies n = (record { refusal = n; distances = 0; found = replicate 16 0 } ≡ range_batch_reply t area queries) × (area ≡ result_after_batch t area queries)

  -- a refusal that is not 6
  refused_by : (n : ℕ) → batch_refusal t area queries ≡ n → (n ≡ 0 → ⊥) → (n ≡ no_room → ⊥) → Replies n
  unfolding range_batch_reply result_after_batch
  refused_by n e some other = (
    sym (ap (λ (i : ℕ). ranges_reply i (single_answers t queries) (batch_count t queries)) e ∙ refused_reply n some (single_answers t queries) (batch_count t queries)),
    sym (ap (λ (i : ℕ). result_after_parts i area (part_size area queries) (single_answers t queries)) e ∙ refused_area n some other area (part_size area queries) (single_answers t queries)),
  )

  -- what stops the batch before its buckets are met is its refusal, and it is not 6
  stopped_by : (frame asks rest n : ℕ) → 0 < n → n ≡ or_else frame asks → or_else frame (or_else asks rest) ≡ n
  stopped_by zero zero rest n some e = absurd (omega arith)
  stopped_by zero (suc asks) rest n some e = sym e
  stopped_by (suc frame) asks rest n some e = sym e

  pub refused_asking : (n : ℕ) → n ≡ asking_refusal t queries → 0 < n → Replies n
  unfolding batch_refusal
  refused_asking n e some =
      refused_by n (stopped_by (read_refusal t) (queries_refusal queries) _ n some e)
      (λ z. omega arith)
      (λ six. or_not (read_refusal t) _ no_room (not_short t) (queries_not_six queries) (sym e ∙ six))

  -- past that, what the parts hold decides
  module _ (asked : 0 ≡ asking_refusal t queries) where
    passes : read_refusal t ≡ 0
    passes = (or_zero (read_refusal t) _ (sym asked)).0

    queried : queries_refusal queries ≡ 0
    queried = (or_zero (read_refusal t) _ (sym asked)).1

    answers : List Answer
    answers = single_answers t queries

    size : ℕ
    size = part_size area queries

    answers-many : length answers ≡ length queries
    unfolding answers single_answers
    answers-many = length-map queries (single_answer t)

    refusal_is : (b : Bool) → every (λ a. leb (length a.entries) size) answers ≡ b → batch_refusal t area queries ≡ unless b no_room 0
    unfolding batch_refusal parts_refusal answers size
    refusal_is b e =
        ap₂ (λ (r q : ℕ). or_else r (or_else q (parts_refusal (part_size area queries) (single_answers t queries)))) passes queried
        ∙ ap (λ (c : Bool). elim c as (λ _. ℕ) [ true ↦ 0 | false ↦ no_room ]) e

    -- the parts lie in the area
    pub parts-fit : length queries * part_size area queries ≤ length area
    unfolding part_size
    parts-fit = mul-div-le (length area) (length queries)

    inside : (j : ℕ) → j < length queries → suc j * size ≤ length area
    unfolding size
    inside j h = omega (arith, parts-fit, mul-le-mul_right {m = suc j} {n = length queries} (part_size area queries) h)

    module _ (profiles : All (λ query. IsProfile (profile_of query)) queries) (all : ℕ) (first : all + 1 ≡ 2 ^ length queries)
        (found : List ℕ) (mid : List Entry) (count : ℕ)
        (collects : Collects (part_size area queries) (hits_below (batch_of (row_at t header_row) queries) all t (suc (order_of t))) (replicate 16 0) area found mid)
        (counts : count ≡ count_below (batch_of (row_at t header_row) queries) all t (suc (order_of t))) where
      few : length queries ≤ 16
      few = (queries_number t queries asked).1

      hits : ℕ → List Entry
      hits j = hits_below (batch_of (row_at t header_row) queries) all t (suc (order_of t)) j

      each : (j : ℕ) → get_or found j 0 ≡ length (hits j)
      unfolding hits
      each j = omega (arith, collects.numbers j, zero_at 16 j)

      found_is : found ≡ found_by answers
      unfolding answers hits
      found_is = found_are t queries few profiles all first found collects.same each

      -- a query's hits lie at the front of its part, where it holds them
      lies : (j : ℕ) → j < length queries → get_or found j 0 ≤ part_size area queries → hits_in (part_size area queries) found mid j ≡ hits j
      unfolding hits size
      lies j h held =
          ap (take (get_or found j 0)) (collects.parts j ∙ ap (λ (k : ℕ). sets (part_at (part_size area queries) j area) k (hits j)) (zero_at 16 j))
          ∙ sets_front (hits j) (part_at (part_size area queries) j area) (get_or found j 0) (each j) (omega (arith, held, part_size_lem (part_size area queries) j area (inside j h)))

      pub pairs : (j : ℕ) → j < length queries → get_or found j 0 ≤ part_size area queries → All Pair (hits_in (part_size area queries) found mid j)
      unfolding hits
      pairs j h held = subst (All Pair) (sym (lies j h held)) (hits_pairs t queries few profiles all first j h)

      -- what the code tests is what the definition does
      tested : every (λ n. leb n size) (take (length queries) found) ≡ every (λ a. leb (length a.entries) size) answers
      unfolding found_by
      tested =
          let numbers = map (λ a. length a.entries) answers in
          ap (λ (xs : List ℕ). every (λ n. leb n size) (take (length queries) xs)) found_is
          ∙ ap (every (λ n. leb n size)) (take_at numbers _ (length queries) (length-map answers (λ a. length a.entries) ∙ answers-many))
          ∙ every_map (λ a. length a.entries) (λ n. leb n size) (λ a. leb (length a.entries) size) (λ a. refl) answers

      part_is : (j : ℕ) → j < length queries → (last : List Entry) → Ordered size found mid last j → part_at size j last ≡ part_with size (get_or answers j (single_answer t []))
      unfolding part_with answers single_answers size hits
      part_is j h last o =
          let a = single_answer t (get_or queries j []) in
          let many : size - get_or found j 0 ≡ size - length a.entries = ap (λ (n : ℕ). size - n) (each j ∙ sym (entries_many t queries few profiles all first j h)) in
          o.1
          ∙ ap₂ (λ (xs : List Entry) (n : ℕ). ordered xs ++ replicate n zero_entry) (lies j h o.0) many
          ∙ ap (λ (xs : List Entry). xs ++ replicate (size - length a.entries) zero_entry) (sym (entries_are t queries few profiles all first j h))
          ∙ ap (part_with size) (sym (get_or_mapped (single_answer t) queries j [] (single_answer t []) h))

      module _ (same : length mid ≡ length area) (r : Ranges) (last : List Entry)
          (held : every (λ n. leb n (part_size area queries)) (take (length queries) found) ≡ true → r ≡ record { refusal = 0; distances = count; found = found })
          (parts : every (λ n. leb n (part_size area queries)) (take (length queries) found) ≡ true → InParts (length queries) (part_size area queries) found mid last)
          (short : every (λ n. leb n (part_size area queries)) (take (length queries) found) ≡ false → (r ≡ record { refusal = no_room; distances = 0; found = replicate 16 0 }) × (last ≡ replicate (length mid) zero_entry)) where
        fits : every (λ a. leb (length a.entries) size) answers ≡ true → (r ≡ range_batch_reply t area queries) × (last ≡ result_after_batch t area queries)
        unfolding range_batch_reply result_after_batch ranges_reply result_after_parts size answers
        fits e =
            let none = refusal_is true e in
            let yes' = tested ∙ e in
            let in' = parts yes' in
            let n = length queries in
            let p = part_size area queries in
            let joined : take (length answers * p) last ≡ parts_with p answers =
            parts_joined p answers last (omega (arith, parts-fit, in'.same, same, ap (λ (k : ℕ). k * p) answers-many)) (single_answer t [])
            (λ j h. part_is j (omega (arith, h, answers-many)) last (in'.parts j (omega (arith, h, answers-many)))) in (
              held yes'
                  ∙ (λ i. record { refusal = 0; distances = (counts ∙ count_is t queries few profiles all first) i; found = found_is i })
                  ∙ sym (ap (λ (k : ℕ). ranges_reply k answers (batch_count t queries)) none),
              sym (take-append-drop (length answers * p) last)
                  ∙ ap₂ ◌++◌ joined (ap (λ (k : ℕ). drop (k * p) last) answers-many ∙ in'.rest ∙ (λ i. replicate (same i - sym answers-many i * p) zero_entry))
                  ∙ sym (ap (λ (k : ℕ). result_after_parts k area p answers) none),
            )

        over : every (λ a. leb (length a.entries) size) answers ≡ false → (r ≡ range_batch_reply t area queries) × (last ≡ result_after_batch t area queries)
        unfolding range_batch_reply result_after_batch ranges_reply result_after_parts most_queries size answers
        over e =
            let six = refusal_is false e in
            let c = short (tested ∙ e) in (
              c.0 ∙ sym (ap (λ (k : ℕ). ranges_reply k answers (batch_count t queries)) six),
              c.1 ∙ ap (λ (k : ℕ). replicate k zero_entry) same ∙ sym (ap (λ (k : ℕ). result_after_parts k area (part_size area queries) answers) six),
            )

        pub answered : (r ≡ range_batch_reply t area queries) × (last ≡ result_after_batch t area queries)
        answered = go (every (λ a. leb (length a.entries) size) answers) refl
          where
            go : (b : Bool) → every (λ a. leb (length a.entries) size) answers ≡ b → (r ≡ range_batch_reply t area queries) × (last ≡ result_after_batch t area queries)
            go true e = fits e
            go false e = over e
