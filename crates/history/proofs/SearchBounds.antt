-- What a search can count: in each bucket at most its slots, which are at most its built size. Where sizes pass, these are
-- at most the rooms, 2^(T+1) - 1 in all, and in a bucket in use below four times its live size.
use Prim.Native.Nat.{ℕ, zero, suc, ◌+◌, ◌*◌, ◌^◌, ◌≤◌, ◌<◌}
use native.Mathlib.Omega.{arith}
use mathlib.Core.Path.{◌≡◌, refl, ap}
use mathlib.Core.Bool.{Bool}
use mathlib.Core.Logic.{◌⊎◌, inl, inr}
use mathlib.Core.List.{List, [], ◌∷◌, map, foldl}
use lib.ListN.{length, drop, length-take}
use Rattle.lists.specs.Lists.{total, select, count_from}
use Rattle.metric_rules.specs.declared.Profile.{Profile}
use Rattle.metric_rules.specs.Row.{Row, word, query_row, may_report}
use Rattle.metric_rules.specs.Distance.{distance}
use Rattle.search_rules.specs.Range.{Entry}
use Rattle.search_rules.specs.Reached.{reached_within, reached}
use Rattle.search_rules.specs.Nearest.{Tally, nearest_tree}
use Rattle.search_rules.proofs.Selecting.{select_few}
use Rattle.search_rules.proofs.NearestLaws.{nearest_counted}
use Rattle.table_rules.specs.Geometry.{room, buckets_of, sizes_row, header_row, first_slot}
use Rattle.table_rules.specs.Table.{Table, row_at, order_of, table_space, built_of, live_of, slots_of}
use Rattle.table_rules.specs.Checks.{read_refusal}
use Rattle.table_rules.specs.Passed.{Passed}
use Rattle.table_rules.specs.Search.{Answer, buckets_down, range_answer, nearest_tally, nearest_answer}
use Rattle.table_rules.specs.Search.{range_refusal, nearest_refusal, search_reply, range_reply, nearest_reply}
use Rattle.table_rules.proofs.Chains.{or_zero}
use Rattle.table_rules.proofs.Passing.{read_passed}
use Rattle.table_rules.proofs.Sizes.{Used, size_cases, sizes_at, room_zero, room_next, room_positive}
use Rattle.table_rules.proofs.Visits.{range_visits}
use Rattle.table_rules.proofs.Down
use Rattle.batch_rules.specs.Batch.{reached_by_some, batch_count, batch_refusal, single_answers, ranges_reply, range_batch_reply}
use Rattle.image_rules.proofs.Blocks.{length_count}
use Rattle.history.specs.Places.{order_word}
use Rattle.history.specs.Bounds.{SlotsBound, Searches}
use Rattle.history.specs.Demands.{SearchesBounded}
use Rattle.history.proofs.Amortized.{below, below_none, below_next}

-- a sum over the buckets from the top down, each at most another number
down_most : (f g : ℕ → ℕ) → ((k : ℕ) → f k ≤ g k) → (n : ℕ) → total (map f (Down.below n)) ≤ below g n
unfolding total
down_most f g le zero = rw Down.below_none (omega arith)
down_most f g le (suc n) = rw (Down.below_next n) (omega (arith, le n, down_most f g le n, below_next g n))

module _ (t : Table) where
  slots_built : (k : ℕ) → length (slots_of t k) ≤ built_of t k
  unfolding slots_of
  slots_built k = omega (arith, length-take (built_of t k) (drop (first_slot (order_of t) k) t))

  chosen_built : (test : ℕ → Bool) (k : ℕ) → length (select test (count_from 0 (length (slots_of t k)))) ≤ built_of t k
  chosen_built test k =
      omega (arith, select_few test (count_from 0 (length (slots_of t k))), length_count 0 (length (slots_of t k)), slots_built k)

  in_all : (f : ℕ → ℕ) → ((k : ℕ) → f k ≤ built_of t k) → total (map f (buckets_down t)) ≤ below (built_of t) (suc (order_of t))
  unfolding buckets_down buckets_of Down.below
  in_all f le = down_most f (built_of t) le (suc (order_of t))

  range_most : (query : Profile) (radius firstDay : ℕ)
      → (range_answer t query radius firstDay).count ≤ below (built_of t) (suc (order_of t))
  unfolding reached
  range_most query radius firstDay =
      let dist = distance (table_space t) in
      omega (
        arith,
        range_visits t query radius firstDay,
        in_all (λ k. length (reached dist query radius (slots_of t k)))
            (λ k. chosen_built (reached_within dist query radius (length (slots_of t k)) (slots_of t k)) k),
      )

  batch_most : (queries : List Row) → batch_count t queries ≤ below (built_of t) (suc (order_of t))
  unfolding batch_count reached_by_some
  batch_most queries =
      in_all (λ k. length (reached_by_some (distance (table_space t)) queries (slots_of t k))) (λ k. chosen_built _ k)

  module _ (query : Profile) (k firstDay : ℕ) where
    abbrev step : Tally → ℕ → Tally
    step tally b =
        nearest_tree (distance (table_space t)) query (may_report (query_row query k firstDay)) k tally (slots_of t b)

    steps-most : (bs : List ℕ) (u : Tally) → length u.kept ≤ k
        → (foldl step u bs).count ≤ u.count + total (map (λ b. length (slots_of t b)) bs)
    unfolding total
    steps-most [] u few = omega arith
    steps-most (b ∷ bs) u few =
        let counted = nearest_counted (distance (table_space t)) query (may_report (query_row query k firstDay)) k u (slots_of t b) few in
        omega (arith, counted.most, steps-most bs (step u b) (omega (arith, counted.size)))

    nearest-most : (nearest_answer t query k firstDay).count ≤ below (built_of t) (suc (order_of t))
    unfolding nearest_answer nearest_tally
    nearest-most =
        omega (
          arith,
          steps-most (buckets_down t) (record { kept = []; count = 0 }) (omega arith),
          in_all (λ b. length (slots_of t b)) slots_built,
        )

-- sizes that pass, bucket by bucket
rooms_sum : (n : ℕ) → below room n + 1 ≡ room n
rooms_sum zero = omega (arith, below_none room, room_zero)
rooms_sum (suc n) = omega (arith, below_next room n, room_next n, rooms_sum n)

record Sums (built live : ℕ → ℕ) (n : ℕ) : Type 0 where
  rooms : below built n ≤ below room n
  four : below built n ≤ 4 * below live n
  fewer : 0 < below live n → below built n < 4 * below live n

sums : (built live : ℕ → ℕ) (n : ℕ) → ((k : ℕ) → k < n → ((built k ≡ 0) × (live k ≡ 0)) ⊎ Used k (built k) (live k))
    → Sums built live n
sums built live zero each =
    let b = below_none built in
    let l = below_none live in
    record { rooms = omega (arith, b); four = omega (arith, b); fewer = λ some. absurd (omega (arith, l)) }
sums built live (suc n) each = go (sums built live n (λ k h. each k (omega arith))) (each n (omega arith))
  where
    go : Sums built live n → ((built n ≡ 0) × (live n ≡ 0)) ⊎ Used n (built n) (live n) → Sums built live (suc n)
    go rest (inl z) =
        let b = below_next built n in
        let l = below_next live n in
        record {
          rooms = omega (arith, b, z.0, rest.rooms, below_next room n);
          four = omega (arith, b, l, z.0, rest.four);
          fewer = λ some. omega (arith, b, l, z.0, z.1, rest.fewer (omega (arith, l, z.1)));
        }
    go rest (inr u) =
        let b = below_next built n in
        let l = below_next live n in
        record {
          rooms = omega (arith, b, u.built_room, rest.rooms, below_next room n);
          four = omega (arith, b, l, u.built_room, u.quarter, rest.four);
          fewer = λ some. omega (arith, b, l, u.built_room, u.quarter, rest.four);
        }

module _ (t : Table) where
  top_room : 2 ^ (order_word t + 1) ≡ room (suc (order_of t))
  unfolding order_of row_at word header_row room
  top_room = let e : order_word t + 1 ≡ suc (order_word t) = omega arith in ap (λ (n : ℕ). 2 ^ n) e

  bounded : read_refusal t ≡ 0 → (n : ℕ) → n ≤ below (built_of t) (suc (order_of t)) → SlotsBound t n
  unfolding below built_of live_of order_of row_at word sizes_row header_row
  bounded accepted n most =
      let passed : Passed t = read_passed t accepted in
      let all : Sums (built_of t) (live_of t) (suc (order_of t)) =
      sums (built_of t) (live_of t) (suc (order_of t))
      (λ k h. size_cases k (built_of t k) (live_of t k) (sizes_at (order_of t) (built_of t) (live_of t) passed.sizes k (omega arith))) in
      record {
        built = most;
        slots = omega (arith, most, all.rooms, rooms_sum (suc (order_of t)), top_room);
        live = λ some. omega (arith, most, all.fewer some);
        none = λ z. omega (arith, most, all.four, z);
      }

  nothing_counted : SlotsBound t 0
  nothing_counted =
      record {
        built = omega arith;
        slots = omega (arith, room_positive (suc (order_of t)), top_room);
        live = λ some. omega (arith, some);
        none = λ z. refl;
      }

  reply_bound : (n : ℕ) (a : Answer) → (n ≡ 0 → SlotsBound t a.count) → SlotsBound t (search_reply n a).distances
  unfolding search_reply
  reply_bound zero a h = h refl
  reply_bound (suc n) a h = nothing_counted

  batch_bound : (n : ℕ) (answers : List Answer) (count : ℕ) → (n ≡ 0 → SlotsBound t count)
      → SlotsBound t (ranges_reply n answers count).distances
  unfolding ranges_reply
  batch_bound zero answers count h = h refl
  batch_bound (suc n) answers count h = nothing_counted

  searches : (area : List Entry) → Searches t area
  unfolding range_reply nearest_reply range_batch_reply range_refusal nearest_refusal batch_refusal
  searches area =
      record {
        ranges = λ query radius firstDay.
            reply_bound (range_refusal t area query radius firstDay) (range_answer t query radius firstDay)
            (λ e. bounded (or_zero (read_refusal t) _ e).0 _ (range_most t query radius firstDay));
        nearests = λ query k firstDay.
            reply_bound (nearest_refusal t area query k firstDay) (nearest_answer t query k firstDay)
            (λ e. bounded (or_zero (read_refusal t) _ e).0 _ (nearest-most t query k firstDay));
        batches = λ queries.
            batch_bound (batch_refusal t area queries) (single_answers t queries) (batch_count t queries)
            (λ e. bounded (or_zero (read_refusal t) _ e).0 _ (batch_most t queries));
      }

pub searches_bounded : SearchesBounded
searches_bounded = searches
