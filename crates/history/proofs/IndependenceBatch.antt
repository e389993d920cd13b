-- Batches of two tables of which each query's single search has the same entries: the lists of all queries are the
-- same, so the numbers found are, and each part of a result area begins with its query's list. Up to the fit of the
-- parts the batches are refused alike, and parts that hold the lists fit alike.
use Prim.Native.Nat.{ℕ, zero, suc, ◌+◌, ◌-◌, ◌*◌, ◌≤◌, ◌<◌}
use native.Mathlib.Omega.{arith}
use native.Mathlib.Nat.{suc-mul}
use mathlib.Core.Path.{◌≡◌, refl, sym, ◌∙◌, ap, ap₂, subst}
use mathlib.Core.Bool.{Bool, true, false}
use mathlib.Core.List.{List, [], ◌∷◌, ◌++◌, map, map-map, append_assoc}
use lib.Dec.{leb}
use lib.ListN.{length, take, drop, get_or, replicate, length-append, length-replicate, length-map, get_or-append, get_or-map}
use lib.Seq.{take-append_seam, drop-append-add}
use borrow.Author.Tests.{le-leb, leb-true}
use Rattle.lists.specs.Lists.{every, All}
use Rattle.lists.proofs.Lists.{all_weaken, all_append_left, all_of_map, map_alike}
use Rattle.lists.proofs.Tests.{every_all, all_every, every_map}
use Rattle.metric_rules.specs.declared.Profile.{Profile}
use Rattle.metric_rules.specs.Row.{Row, profile_of, threshold_of}
use Rattle.search_rules.specs.Range.{Entry}
use Rattle.table_rules.specs.Refusals.{no_room, unless, or_else}
use Rattle.table_rules.specs.Table.{Table}
use Rattle.table_rules.specs.Checks.{read_refusal}
use Rattle.table_rules.specs.Search.{Answer, range_answer, zero_entry}
use Rattle.batch_rules.specs.Batch.{most_queries, first_day_of, single_answer, single_answers, part_size, queries_refusal, parts_refusal, batch_refusal, found_by}
use Rattle.batch_rules.specs.Batch.{ranges_reply, part_with, parts_with, result_after_parts, range_batch_reply, result_after_batch, batch_count}
use Rattle.history.specs.Agreement.{BatchesAgree, PartsHold}

-- the lists of some answers
abbrev lists : List Answer → List (List Entry)
lists answers = map (λ a. a.entries) answers

-- a part of an area has room for its list, and so many entries
part_length : (size : ℕ) (a : Answer) → length a.entries ≤ size → length (part_with size a) ≡ size
unfolding part_with
part_length size a h = omega (arith, h, length-append a.entries (replicate (size - length a.entries) zero_entry), length-replicate (size - length a.entries) zero_entry)

-- so part i begins with list i
part_at : (size : ℕ) (answers : List Answer) (rest : List Entry) (i : ℕ) → i < length answers → All (λ a. length a.entries ≤ size) answers
    → take (length (get_or (lists answers) i [])) (drop (i * size) (parts_with size answers ++ rest)) ≡ get_or (lists answers) i []
unfolding parts_with part_with
part_at size [] rest i l h = absurd (omega arith)
part_at size (a ∷ answers) rest zero l h =
    let es : List Entry = a.entries in
    let zeros : List Entry = replicate (size - length es) zero_entry in
    let start : 0 * size ≡ 0 = omega arith in
    let whole : parts_with size (a ∷ answers) ++ rest ≡ es ++ (zeros ++ (parts_with size answers ++ rest)) = simp append_assoc in
    ap₂ (λ (n : ℕ) (l : List Entry). take (length es) (drop n l)) start whole ∙ take-append_seam es (zeros ++ (parts_with size answers ++ rest))
part_at size (a ∷ answers) rest (suc i) l h =
    let part : List Entry = part_with size a in
    let n : ℕ = length (get_or (lists answers) i []) in
    let start : suc i * size ≡ length part + i * size = omega (arith, suc-mul i size, part_length size a h.0) in
    ap₂ (λ (m : ℕ) (l : List Entry). take n (drop m l)) start (append_assoc part (parts_with size answers) rest)
    ∙ ap (take n) (drop-append-add part (parts_with size answers ++ rest) (i * size))
    ∙ part_at size answers rest i (omega arith) h.1

-- what is asked before the fit of the parts, and the fit
abbrev asked : ℕ → List (List Entry) → ℕ → ℕ
asked before ls size = or_else before (unless (every (λ es. leb (length es) size) ls) no_room 0)

asked_alike : (before : ℕ) (ls : List (List Entry)) (size other : ℕ) → (asked before ls size ≡ no_room → ⊥) → (asked before ls size ≡ 0 → All (λ es. length es ≤ other) ls)
    → asked before ls size ≡ asked before ls other
asked_alike (suc n) ls size other here there = refl
asked_alike zero ls size other here there = go (every (λ es. leb (length es) size) ls) here there
  where
    go : (b : Bool) → (unless b no_room 0 ≡ no_room → ⊥) → (unless b no_room 0 ≡ 0 → All (λ es. length es ≤ other) ls)
        → unless b no_room 0 ≡ unless (every (λ es. leb (length es) other) ls) no_room 0
    go true here there =
        sym (ap (λ (b : Bool). unless b no_room 0) (all_every (λ es. leb (length es) other) ls (all_weaken (λ es h. le-leb (length es) other h) ls (there refl))))
    go false here there = absurd (here refl)

-- the numbers found are the lengths of the lists, and zeros
found_lists : (answers : List Answer) → found_by answers ≡ map length (lists answers) ++ replicate (most_queries - length (lists answers)) 0
unfolding found_by
found_lists answers =
    ap₂ (λ (ns : List ℕ) (n : ℕ). ns ++ replicate (most_queries - n) 0) (sym (map-map length (λ a. a.entries) answers)) (sym (length-map answers (λ a. a.entries)))

length_at : (ls : List (List Entry)) (rest : List ℕ) (i : ℕ) → i < length ls → get_or (map length ls ++ rest) i 0 ≡ length (get_or ls i [])
length_at ls rest i h = get_or-append (map length ls) rest 0 i (simp length-map h) ∙ get_or-map length ls i []

none_at : (n i : ℕ) → ◌≡◌ {A = ℕ} (get_or (replicate n 0) i 0) 0
none_at zero i = refl
none_at (suc n) zero = refl
none_at (suc n) (suc i) = none_at n i

-- query i's entries, in a part that has room for them
entries_at : (size : ℕ) (answers : List Answer) (rest : List Entry) (i : ℕ) → i < length answers → All (λ es. length es ≤ size) (lists answers)
    → take (get_or (found_by answers) i 0) (drop (i * size) (parts_with size answers ++ rest)) ≡ get_or (lists answers) i []
entries_at size answers rest i l h =
    let found : get_or (found_by answers) i 0 ≡ length (get_or (lists answers) i []) =
    ap (λ (ns : List ℕ). get_or ns i 0) (found_lists answers) ∙ length_at (lists answers) _ i (simp length-map l)
    in
    ap (λ (n : ℕ). take n (drop (i * size) (parts_with size answers ++ rest))) found
    ∙ part_at size answers rest i l (all_of_map (λ a. a.entries) (λ es. length es ≤ size) answers h)

module _ (queries : List Row) (a b : List Answer) (number : length a ≡ length queries) (same : lists a ≡ lists b) (size size' : ℕ) (area area' : List Entry) (c d : ℕ) where
  agree : (n k : ℕ) → n ≡ k → (n ≡ 0 → All (λ es. length es ≤ size) (lists a)) → (k ≡ 0 → All (λ es. length es ≤ size') (lists b))
      → BatchesAgree queries size (ranges_reply n a c) (result_after_parts n area size a) size' (ranges_reply k b d) (result_after_parts k area' size' b)
  unfolding ranges_reply result_after_parts
  agree zero zero e here there =
      record {
        refusal = refl;
        found = found_lists a ∙ ap (λ (ls : List (List Entry)). map length ls ++ replicate (most_queries - length ls) 0) same ∙ sym (found_lists b);
        entries = λ i l.
            entries_at size a (replicate (length area - length a * size) zero_entry) i (omega (arith, l, number)) (here refl)
            ∙ ap (λ (ls : List (List Entry)). get_or ls i []) same
            ∙ sym (entries_at size' b (replicate (length area' - length b * size') zero_entry) i (omega (arith, l, number, sym (length-map a (λ x. x.entries)) ∙ ap length same ∙ length-map b (λ x. x.entries))) (there refl));
      }
  agree zero (suc k) e here there = absurd (omega (arith, e))
  agree (suc n) zero e here there = absurd (omega (arith, e))
  agree (suc n) (suc k) e here there =
      record {
        refusal = e;
        found = refl;
        entries = λ i l. ap (λ (m : ℕ). take m (drop (i * size) (result_after_parts (suc n) area size a))) (none_at most_queries i) ∙ sym (ap (λ (m : ℕ). take m (drop (i * size') (result_after_parts (suc k) area' size' b))) (none_at most_queries i));
      }

-- a batch of a table that is read, by what its queries' single searches list
module _ (t : Table) (reads : read_refusal t ≡ 0) (queries : List Row) (area : List Entry) where
  refused : batch_refusal t area queries ≡ asked (queries_refusal queries) (lists (single_answers t queries)) (part_size area queries)
  unfolding batch_refusal parts_refusal
  refused =
      let size : ℕ = part_size area queries in
      ap (λ (n : ℕ). or_else n (or_else (queries_refusal queries) (parts_refusal size (single_answers t queries)))) reads
      ∙ ap (λ (b : Bool). or_else (queries_refusal queries) (unless b no_room 0))
      (sym (every_map (λ a. a.entries) (λ es. leb (length es) size) (λ a. leb (length a.entries) size) (λ a. refl) (single_answers t queries)))

  fit : batch_refusal t area queries ≡ 0 → All (λ es. length es ≤ part_size area queries) (lists (single_answers t queries))
  fit e = go (queries_refusal queries) (every (λ es. leb (length es) (part_size area queries)) (lists (single_answers t queries))) refl (sym refused ∙ e)
    where
      go : (before : ℕ) (b : Bool) → every (λ es. leb (length es) (part_size area queries)) (lists (single_answers t queries)) ≡ b → or_else before (unless b no_room 0) ≡ 0
          → All (λ es. length es ≤ part_size area queries) (lists (single_answers t queries))
      go zero true f e =
          all_weaken (λ es h. leb-true (length es) (part_size area queries) h) (lists (single_answers t queries))
          (every_all (λ es. leb (length es) (part_size area queries)) (lists (single_answers t queries)) f)
      go zero false f e = absurd (omega (arith, e))
      go (suc n) b f e = absurd (omega (arith, e))

-- what a batch whose parts hold its reply shows
reply_number : (n : ℕ) (answers : List Answer) (count : ℕ) → (ranges_reply n answers count).refusal ≡ n
unfolding ranges_reply
reply_number zero answers count = refl
reply_number (suc n) answers count = refl

held_lists : (n : ℕ) (answers : List Answer) (count size' : ℕ) → PartsHold (ranges_reply n answers count) size' → n ≡ 0 → All (λ es. length es ≤ size') (lists answers)
unfolding ranges_reply
held_lists zero answers count size' h e =
    all_of_map length (λ n. n ≤ size') (lists answers)
    (all_append_left (λ n. n ≤ size') (map length (lists answers)) _ (subst (All (λ n. n ≤ size')) (found_lists answers) h.there))
held_lists (suc n) answers count size' h e = absurd (omega (arith, e))

pub batches_agree : (t u : Table) → read_refusal t ≡ 0 → read_refusal u ≡ 0 → ((q : Profile) (r firstDay : ℕ) → (range_answer t q r firstDay).entries ≡ (range_answer u q r firstDay).entries)
    → (queries : List Row) (area area' : List Entry) → PartsHold (range_batch_reply t area queries) (part_size area' queries)
    → BatchesAgree queries (part_size area queries) (range_batch_reply t area queries) (result_after_batch t area queries) (part_size area' queries)
    (range_batch_reply u area' queries) (result_after_batch u area' queries)
unfolding range_batch_reply result_after_batch single_answers single_answer
batches_agree t u reads reads' alike queries area area' hold =
    let a : List Answer = single_answers t queries in
    let b : List Answer = single_answers u queries in
    let same : lists a ≡ lists b =
    map-map (λ x. x.entries) (single_answer t) queries
    ∙ map_alike (λ query. alike (profile_of query) (threshold_of query) (first_day_of query)) queries
    ∙ sym (map-map (λ x. x.entries) (single_answer u) queries)
    in
    agree queries a b (length-map queries (single_answer t)) same (part_size area queries) (part_size area' queries) area area' (batch_count t queries) (batch_count u queries)
    (batch_refusal t area queries) (batch_refusal u area' queries)
    (refused t reads queries area
    ∙ asked_alike (queries_refusal queries) (lists a) (part_size area queries) (part_size area' queries)
    (λ g. hold.here (reply_number (batch_refusal t area queries) a (batch_count t queries) ∙ refused t reads queries area ∙ g))
    (λ g. held_lists (batch_refusal t area queries) a (batch_count t queries) (part_size area' queries) hold (refused t reads queries area ∙ g))
    ∙ ap (λ (ls : List (List Entry)). asked (queries_refusal queries) ls (part_size area' queries)) same
    ∙ sym (refused u reads' queries area'))
    (fit t reads queries area) (fit u reads' queries area')
