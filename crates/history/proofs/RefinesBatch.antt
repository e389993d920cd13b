-- What a batch shows: where it is accepted each part holds its list, so what stands in the parts is the single calls' lists one after the other; where
-- it is refused nothing was found, and so nothing is listed.
use Prim.Native.Nat.{ℕ, zero, suc, ◌-◌, ◌*◌, ◌/◌, ◌≤◌}
use mathlib.Core.Path.{◌≡◌, refl, sym, ◌∙◌, ap, ap₂}
use mathlib.Core.List.{List, [], ◌∷◌, ◌++◌, map, map-map, flatten, append_assoc}
use lib.ListN.{length, take, drop, replicate, length-map}
use lib.Dec.{leb}
use native.Mathlib.Nat.{mul-div-le}
use native.Mathlib.Omega.{arith}
use borrow.Author.Tests.{leb-true}
use Rattle.lists.specs.Lists.{All, every}
use Rattle.lists.proofs.Lists.{all_weaken}
use Rattle.lists.proofs.Tests.{every_all}
use Rattle.metric_rules.specs.Row.{Row}
use Rattle.search_rules.specs.Range.{Entry}
use Rattle.table_rules.specs.Refusals.{no_room}
use Rattle.table_rules.specs.Table.{Table}
use Rattle.table_rules.specs.Checks.{read_refusal}
use Rattle.table_rules.specs.Search.{Answer, zero_entry}
use Rattle.table_rules.proofs.Chains.{or_zero, unless_zero}
use Rattle.batch_rules.specs.Batch.{most_queries, single_answer, single_answers, part_size, part_with, parts_with, queries_refusal, parts_refusal, batch_refusal}
use Rattle.batch_rules.specs.Batch.{found_by, ranges_reply, result_after_parts, batch_count}
use Rattle.batch_rules.proofs.Lists.{result_length, part_first, part_behind}
use Rattle.history.specs.Trace.{shows, zeroed, listed_in}
use Rattle.history.specs.Trace.Payload.{some_lists}
use Rattle.history.specs.Model.{found_each, shows_unless}

-- nothing is listed where nothing was found
listed_none : (n size : ℕ) (area : List Entry) → listed_in size (replicate n 0) area ≡ []
unfolding listed_in
listed_none zero size area = refl
listed_none (suc n) size area = listed_none n size (drop size area)

-- and else the lists, one after the other
listed_all : (size : ℕ) (answers : List Answer) → All (λ a. length a.entries ≤ size) answers → (n : ℕ) (behind : List Entry)
    → listed_in size (map (λ a. length a.entries) answers ++ replicate n 0) (parts_with size answers ++ behind) ≡ flatten (map (λ a. a.entries) answers)
unfolding listed_in parts_with flatten
listed_all size [] fit n behind = listed_none n size behind
listed_all size (a ∷ answers) fit n behind =
    let rest = parts_with size answers ++ behind in
    let area = append_assoc (part_with size a) (parts_with size answers) behind in
    ap (λ (xs : List Entry). take (length a.entries) xs ++ listed_in size (map (λ b. length b.entries) answers ++ replicate n 0) (drop size xs)) area
    ∙ ap₂ ◌++◌ (part_first size a rest)
    (ap (listed_in size (map (λ b. length b.entries) answers ++ replicate n 0)) (part_behind size a rest fit.0)
    ∙ listed_all size answers fit.1 n behind)

all_listed : (size : ℕ) (answers : List Answer) → All (λ a. length a.entries ≤ size) answers → (area : List Entry)
    → listed_in size (found_by answers) (result_after_parts 0 area size answers) ≡ flatten (map (λ a. a.entries) answers)
unfolding found_by result_after_parts
all_listed size answers fit area = listed_all size answers fit (most_queries - length answers) (replicate (length area - length answers * size) zero_entry)

found_each_lem : (answers : List Answer) → found_each (map (λ a. a.entries) answers) ≡ some_lists (found_by answers) (flatten (map (λ a. a.entries) answers))
unfolding found_each found_by most_queries
found_each_lem answers =
    ap₂ (λ (numbers : List ℕ) (n : ℕ). some_lists (numbers ++ replicate (most_queries - n) 0) (flatten (map (λ a. a.entries) answers)))
    (map-map length (λ a. a.entries) answers) (length-map answers (λ a. a.entries))

-- an accepted call's lists fit their parts
accepted_fits : (t : Table) (area : List Entry) (queries : List Row) → batch_refusal t area queries ≡ 0
    → All (λ a. length a.entries ≤ part_size area queries) (single_answers t queries)
unfolding batch_refusal parts_refusal
accepted_fits t area queries e =
    let parts = (or_zero (queries_refusal queries) _ (or_zero (read_refusal t) _ e).1).1 in
    let fits = (unless_zero (every (λ a. leb (length a.entries) (part_size area queries)) (single_answers t queries)) no_room 0 (omega arith) parts).0 in
    all_weaken (λ a h. leb-true (length a.entries) (part_size area queries) h) (single_answers t queries)
    (every_all (λ a. leb (length a.entries) (part_size area queries)) (single_answers t queries) fits)

answers_room : (t : Table) (area : List Entry) (queries : List Row) → length (single_answers t queries) * part_size area queries ≤ length area
unfolding single_answers part_size
answers_room t area queries =
    omega (arith, mul-div-le (length area) (length queries), ap (λ (n : ℕ). n * (length area / length queries)) (length-map queries (single_answer t)))

pub batch_shows : (t : Table) (area : List Entry) (queries : List Row) (n : ℕ) → batch_refusal t area queries ≡ n → (lists : List (List Entry))
    → (n ≡ 0 → map (λ a. a.entries) (single_answers t queries) ≡ lists)
    → let reply = ranges_reply n (single_answers t queries) (batch_count t queries) in
    let after = result_after_parts n area (part_size area queries) (single_answers t queries) in
    shows reply.refusal (some_lists reply.found (listed_in (part_size after queries) reply.found after)) ≡ shows_unless n (found_each lists)
unfolding ranges_reply shows_unless zeroed found_each part_size
batch_shows t area queries (suc n) e lists alike =
    ap (λ (es : List Entry). shows (suc n) (some_lists (replicate most_queries 0) es)) (listed_none most_queries _ _)
batch_shows t area queries zero e lists alike =
    let answers = single_answers t queries in
    let size = part_size area queries in
    let fit = accepted_fits t area queries e in
    let same = result_length size area answers fit (answers_room t area queries) in
    ap (λ (n : ℕ). shows 0 (some_lists (found_by answers) (listed_in (n / length queries) (found_by answers) (result_after_parts 0 area size answers)))) same
    ∙ ap (λ (es : List Entry). shows 0 (some_lists (found_by answers) es)) (all_listed size answers fit area)
    ∙ ap (shows 0) (sym (found_each_lem answers) ∙ ap found_each (alike refl))
