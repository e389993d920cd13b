-- The slots that a range search counts are those visited in plain numbers (`Visited`): where the test of a slot passes
-- it is visited, by the depth, and a visited slot passes, by how it is visited. So are those of a batch, query by query.
use Prim.Native.Nat.{ℕ, zero, suc, ◌+◌, ◌-◌, ◌≤◌, ◌<◌}
use mathlib.Core.Path.{◌≡◌, refl, sym, ap, ◌∙◌}
use mathlib.Core.Logic.{inl, inr}
use mathlib.Core.Bool.{Bool, true, false, ◌&&◌, ◌||◌, false≢true}
use mathlib.Core.List.{List, [], ◌∷◌, map}
use native.Mathlib.Omega.{arith}
use lib.ListN.{length, take, drop, length-take, length-drop}
use lib.Dec.{leb, ltb}
use borrow.Author.Tests.{ltb-true, ltb-false, leb-true, lt-ltb, le-ltb, le-leb}
use Rattle.lists.specs.Lists.{count_from, select, any, total, All}
use Rattle.lists.proofs.Lists.{all_weaken}
use Rattle.lists.proofs.Tests.{and_first, and_second, and_pass}
use Rattle.metric_rules.specs.declared.Profile.{Profile}
use Rattle.metric_rules.specs.Row.{Row, profile_of, threshold_of}
use Rattle.metric_rules.specs.Distance.{distance}
use Rattle.search_rules.specs.Reached.{reached_within, reached}
use Rattle.table_rules.specs.Table.{Table, table_space, slots_of}
use Rattle.table_rules.specs.Search.{buckets_down, range_answer}
use Rattle.table_rules.proofs.Visits.{range_visits}
use Rattle.batch_rules.specs.Batch.{first_day_of, single_answer, reached_by_some, batch_count}
use Rattle.batch_rules.proofs.Counts.{batch_count_sum, batch_count_one}
use Rattle.lots_rules.specs.Claims.{OneOf}
use Rattle.history.specs.Visits.{RisingFrom, Lists, left_half, Visited, VisitedByOne}
use Rattle.history.specs.Visits.Visited.{first, left, right}
use Rattle.history.specs.Demands.{CountsTogether}

-- the numbers from a on that pass a test: they rise, each passes, and each that passes is among them
module _ (test : ℕ → Bool) where
  abbrev chosen : Bool → ℕ → ℕ → List ℕ
  chosen b a n = elim b [ true ↦ a ∷ select test (count_from (suc a) n) | false ↦ select test (count_from (suc a) n) ]

  chosen_rise : (least a n : ℕ) → least ≤ a → RisingFrom least (select test (count_from a n))
  unfolding select count_from
  chosen_rise least a zero h = tt
  chosen_rise least a (suc n) h =
      by (test a) (chosen_rise (suc a) (suc a) n (omega arith)) (chosen_rise least (suc a) n (omega arith))
    where
      by :
          (b : Bool) → RisingFrom (suc a) (select test (count_from (suc a) n))
          → RisingFrom least (select test (count_from (suc a) n)) → RisingFrom least (chosen b a n)
      by true k g = (h, k)
      by false k g = g

  chosen_pass : (a n : ℕ) → All (λ i. test i ≡ true) (select test (count_from a n))
  unfolding select count_from
  chosen_pass a zero = tt
  chosen_pass a (suc n) = by (test a) refl (chosen_pass (suc a) n)
    where
      by :
          (b : Bool) → test a ≡ b → All (λ i. test i ≡ true) (select test (count_from (suc a) n))
          → All (λ i. test i ≡ true) (chosen b a n)
      by true e h = (e, h)
      by false e h = h

  chosen_all : (a n i : ℕ) → a ≤ i → i < a + n → test i ≡ true → OneOf i (select test (count_from a n))
  unfolding select count_from
  chosen_all a zero i h k e = absurd (omega arith)
  chosen_all a (suc n) i h k e = by (ltb a i) refl (test a) refl (λ g. chosen_all (suc a) n i g (omega arith) e)
    where
      by :
          (t : Bool) → ltb a i ≡ t → (b : Bool) → test a ≡ b
          → (a < i → OneOf i (select test (count_from (suc a) n))) → OneOf i (chosen b a n)
      by true f true g later = inr (later (ltb-true a i f))
      by true f false g later = later (ltb-true a i f)
      by false f true g later = inl (omega (arith, ltb-false a i f))
      by false f false g later =
          let same : i ≡ a = omega (arith, ltb-false a i f) in
          absurd (false≢true (sym g ∙ ap test (sym same) ∙ e))

-- so they are all numbers of which P holds, where the test says just that
chosen_lists :
    {P : ℕ → Type 0} (test : ℕ → Bool) (n : ℕ) → ((i : ℕ) → test i ≡ true → P i) → ((i : ℕ) → P i → test i ≡ true)
    → ((i : ℕ) → P i → i < n) → Lists P (select test (count_from 0 n))
chosen_lists test n holds passes within =
    record {
      rising = chosen_rise test 0 0 n (omega arith);
      only = all_weaken holds (select test (count_from 0 n)) (chosen_pass test 0 n);
      every = λ i v. chosen_all test 0 n i (omega arith) (omega (arith, within i v)) (passes i v);
    }

-- a test that passes more
chosen_more : (p q : ℕ → Bool) → ((i : ℕ) → p i ≡ true → q i ≡ true) → (ns : List ℕ) → length (select p ns) ≤ length (select q ns)
unfolding select
chosen_more p q more [] = omega arith
chosen_more p q more (n ∷ ns) = by (p n) refl (q n) refl (chosen_more p q more ns)
  where
    by :
        (a : Bool) → p n ≡ a → (b : Bool) → q n ≡ b → length (select p ns) ≤ length (select q ns)
        → length {A = ℕ} (elim a [ true ↦ n ∷ select p ns | false ↦ select p ns ])
        ≤ length {A = ℕ} (elim b [ true ↦ n ∷ select q ns | false ↦ select q ns ])
    by true e true f h = omega (arith, h)
    by true e false f h = absurd (false≢true (sym f ∙ more n e))
    by false e true f h = omega (arith, h)
    by false e false f h = h

or_first : (a b : Bool) → a ≡ true → (a || b) ≡ true
or_first a b e = ap (λ (x : Bool). x || b) e

or_later : (a b : Bool) → b ≡ true → (a || b) ≡ true
or_later true b e = refl
or_later false b e = e

module _ (dist : Profile → Profile → ℕ) (query : Profile) (r : ℕ) where
  -- a slot behind the first, by whether it is in the left half
  abbrev behind : ℕ → Row → List Row → ℕ → Bool → Bool
  behind n s rest i inLeft =
      let l = left_half (length rest) in
      elim inLeft [
        | true ↦ leb (dist (profile_of s) query) (threshold_of s + r) && reached_within dist query r n (take l rest) i
        | false ↦
            leb (threshold_of s) (dist (profile_of s) query + r) && reached_within dist query r n (drop l rest) (i - l)
      ]

  reached_visited :
      (n : ℕ) (slots : List Row) (i : ℕ) → reached_within dist query r n slots i ≡ true → Visited dist query r slots i
  unfolding reached_within
  reached_visited zero slots i e = absurd (false≢true e)
  reached_visited (suc n) [] i e = absurd (false≢true e)
  reached_visited (suc n) (s ∷ rest) zero e = first s rest
  reached_visited (suc n) (s ∷ rest) (suc i) e =
      let l = left_half (length rest) in
      by (ltb i l) refl e (reached_visited n (take l rest) i) (reached_visited n (drop l rest) (i - l))
    where
      by :
          (t : Bool) → ltb i (left_half (length rest)) ≡ t → behind n s rest i t ≡ true
          → (reached_within dist query r n (take (left_half (length rest)) rest) i ≡ true
          → Visited dist query r (take (left_half (length rest)) rest) i)
          → (reached_within dist query r n (drop (left_half (length rest)) rest) (i - left_half (length rest)) ≡ true
          → Visited dist query r (drop (left_half (length rest)) rest) (i - left_half (length rest)))
          → Visited dist query r (s ∷ rest) (suc i)
      by true f g inner outer =
          let a = leb (dist (profile_of s) query) (threshold_of s + r) in
          let b = reached_within dist query r n (take (left_half (length rest)) rest) i in
          left s rest i (ltb-true i (left_half (length rest)) f)
          (omega (arith, leb-true (dist (profile_of s) query) (threshold_of s + r) (and_first a b g)))
          (inner (and_second a b g))
      by false f g inner outer =
          let a = leb (threshold_of s) (dist (profile_of s) query + r) in
          let b = reached_within dist query r n (drop (left_half (length rest)) rest) (i - left_half (length rest)) in
          right s rest i (ltb-false i (left_half (length rest)) f)
          (omega (arith, leb-true (threshold_of s) (dist (profile_of s) query + r) (and_first a b g)))
          (outer (and_second a b g))

  visited_within : {slots : List Row} {i : ℕ} → Visited dist query r slots i → i < length slots
  visited_within (first s rest) = omega arith
  visited_within (left s rest i h d v) = omega arith
  visited_within (right s rest i h d v) =
      let inner : i - left_half (length rest) < length rest - left_half (length rest) =
      simp length-drop at (visited_within v) in
      omega arith

  visited_reached :
      (n : ℕ) {slots : List Row} {i : ℕ} → Visited dist query r slots i → length slots ≤ n
      → reached_within dist query r n slots i ≡ true
  unfolding reached_within
  visited_reached zero (first s rest) h = absurd (omega arith)
  visited_reached zero (left s rest i k d v) h = absurd (omega arith)
  visited_reached zero (right s rest i k d v) h = absurd (omega arith)
  visited_reached (suc n) (first s rest) h = refl
  visited_reached (suc n) (left s rest i k d v) h =
      ap (behind n s rest i) (lt-ltb i (left_half (length rest)) k)
      ∙ and_pass _ _ (le-leb (dist (profile_of s) query) (threshold_of s + r) (omega (arith, d)))
      (visited_reached n v (simp length-take (omega arith)))
  visited_reached (suc n) (right s rest i k d v) h =
      ap (behind n s rest i) (le-ltb i (left_half (length rest)) k)
      ∙ and_pass _ _ (le-leb (threshold_of s) (dist (profile_of s) query + r) (omega (arith, d)))
      (visited_reached n v (simp length-drop (omega arith)))

  reached_lists : (slots : List Row) → Lists (Visited dist query r slots) (reached dist query r slots)
  unfolding reached
  reached_lists slots =
      chosen_lists (reached_within dist query r (length slots) slots) (length slots)
      (reached_visited (length slots) slots) (λ i v. visited_reached (length slots) v (omega arith)) (λ i v. visited_within v)

pub range_lists : (t : Table) (query : Profile) (radius firstDay : ℕ)
    → (visited : ℕ → List ℕ)
    × ((b : ℕ) → Lists (Visited (distance (table_space t)) query radius (slots_of t b)) (visited b))
    × ((range_answer t query radius firstDay).count ≡ total (map (λ b. length (visited b)) (buckets_down t)))
range_lists t query radius firstDay = (
  (λ b. reached (distance (table_space t)) query radius (slots_of t b)),
  (λ b. reached_lists (distance (table_space t)) query radius (slots_of t b)),
  range_visits t query radius firstDay,
)

-- several queries
module _ (dist : Profile → Profile → ℕ) (slots : List Row) where
  abbrev reaches : ℕ → Row → Bool
  reaches i query = reached_within dist (profile_of query) (threshold_of query) (length slots) slots i

  some_visited : (queries : List Row) (i : ℕ) → any (reaches i) queries ≡ true → VisitedByOne dist queries slots i
  unfolding any
  some_visited [] i e = absurd (false≢true e)
  some_visited (query ∷ queries) i e = by (reaches i query) refl e (some_visited queries i)
    where
      by :
          (b : Bool) → reaches i query ≡ b → (b || any (reaches i) queries) ≡ true
          → (any (reaches i) queries ≡ true → VisitedByOne dist queries slots i) → VisitedByOne dist (query ∷ queries) slots i
      by true f g later = inl (reached_visited dist (profile_of query) (threshold_of query) (length slots) slots i f)
      by false f g later = inr (later g)

  visited_some : (queries : List Row) (i : ℕ) → VisitedByOne dist queries slots i → any (reaches i) queries ≡ true
  unfolding any
  visited_some [] i v = absurd v
  visited_some (query ∷ queries) i (inl v) =
      or_first _ _ (visited_reached dist (profile_of query) (threshold_of query) (length slots) v (omega arith))
  visited_some (query ∷ queries) i (inr v) = or_later (reaches i query) _ (visited_some queries i v)

  some_within : (queries : List Row) (i : ℕ) → VisitedByOne dist queries slots i → i < length slots
  some_within [] i v = absurd v
  some_within (query ∷ queries) i (inl v) = visited_within dist (profile_of query) (threshold_of query) v
  some_within (query ∷ queries) i (inr v) = some_within queries i v

  together_lists : (queries : List Row) → Lists (VisitedByOne dist queries slots) (reached_by_some dist queries slots)
  unfolding reached_by_some
  together_lists queries =
      chosen_lists (λ i. any (reaches i) queries) (length slots) (some_visited queries) (visited_some queries) (some_within queries)

  -- each query's own slots are among them
  each_reaches : (queries : List Row) → All (λ query. (i : ℕ) → reaches i query ≡ true → any (reaches i) queries ≡ true) queries
  unfolding any
  each_reaches [] = tt
  each_reaches (query ∷ queries) = (
    (λ i e. or_first _ _ e),
    all_weaken (λ other h i e. or_later (reaches i query) _ (h i e)) queries (each_reaches queries),
  )

  each_fewer : (queries : List Row)
      → All (λ query. length (reached dist (profile_of query) (threshold_of query) slots) ≤ length (reached_by_some dist queries slots)) queries
  unfolding reached reached_by_some
  each_fewer queries =
      all_weaken (λ query h. chosen_more (λ i. reaches i query) (λ i. any (reaches i) queries) h (count_from 0 (length slots))) queries
      (each_reaches queries)

-- a sum of numbers that are each at most another
total_more : (f g : ℕ → ℕ) → ((b : ℕ) → f b ≤ g b) → (bs : List ℕ) → total (map f bs) ≤ total (map g bs)
unfolding total
total_more f g le [] = omega arith
total_more f g le (b ∷ bs) = omega (arith, le b, total_more f g le bs)

-- what holds of each of some queries at every number holds of each at all of them
all_numbers : (P : Row → ℕ → Type 0) (queries : List Row) → ((b : ℕ) → All (λ query. P query b) queries)
    → All (λ query. (b : ℕ) → P query b) queries
all_numbers P [] h = tt
all_numbers P (query ∷ queries) h = ((λ b. (h b).0), all_numbers P queries (λ b. (h b).1))

pub counts_together : CountsTogether
unfolding batch_count single_answer
counts_together t =
    let dist = distance (table_space t) in (
      (λ queries. (
        (λ b. reached_by_some dist queries (slots_of t b)),
        (λ b. together_lists dist (slots_of t b) queries),
        refl,
      )),
      (λ queries.
          all_weaken
          (λ query le.
          omega (
            arith,
            range_visits t (profile_of query) (threshold_of query) (first_day_of query),
            total_more (λ b. length (reached dist (profile_of query) (threshold_of query) (slots_of t b)))
                (λ b. length (reached_by_some dist queries (slots_of t b))) le (buckets_down t),
          ))
          queries
          (all_numbers
          (λ query b.
          length (reached dist (profile_of query) (threshold_of query) (slots_of t b)) ≤ length (reached_by_some dist queries (slots_of t b)))
          queries (λ b. each_fewer dist (slots_of t b) queries))),
      batch_count_sum t,
      batch_count_one t,
    )
