-- The buckets' searches from the top down: what the buckets above have kept and the searches still to come make up the table's search at any time.
-- Each bucket has at most 4,096 slots, so the numbers fit; what they may report is what the area has room for.
use Prim.Native.Nat.{ℕ, zero, suc, ◌+◌, ◌*◌, ◌≤◌, ◌<◌, ◌^◌, min}
use native.Mathlib.Omega.{arith}
use mathlib.Core.Path.{◌≡◌, sym, ap, ap₂, subst, ◌∙◌}
use mathlib.Core.Bool.{Bool}
use mathlib.Core.List.{List, [], map, foldl}
use lib.ListN.{length, take}
use Rattle.lists.specs.Lists.{total}
use Rattle.metric_rules.specs.declared.Profile.{Profile}
use Rattle.metric_rules.specs.Row.{Row, IsProfile, query_row, may_report}
use Rattle.metric_rules.specs.Distance.{distance}
use Rattle.metric_rules.proofs.Codec.{profile-of-row, threshold_of_row}
use Rattle.tree_rules.specs.Sorting.{sort_by}
use Rattle.search_rules.specs.Range.{Entry, ordered}
use Rattle.search_rules.specs.Nearest.{Tally, nearest_tree}
use Rattle.search_asked.specs.Asked.{asked_of, distance_asked, query_asked, reports_asked, k_asked}
use Rattle.tree_nearest.specs.declared.Nearby.{Nearby}
use Rattle.tree_nearest.specs.Nearby.{bound_of, kept_under, tally_of, Leaves, reported_in, Ready, nearest_asked}
use Rattle.tree_nearest.proofs.Bounds.{Near, bound_below, under_unbounded}
use Rattle.tree_nearest.proofs.Steps.{Fit, Sound, short, sound-tree, leaves_as, leaves_same, ready_less, ready_fit, ready_few, ready-after, tally-after}
use Rattle.tree_nearest.proofs.Steps.{leaves-then}
use Rattle.table_rules.specs.Geometry.{room, buckets_of, header_row}
use Rattle.table_rules.specs.Table.{Table, row_at, order_of, table_space, slots_of}
use Rattle.table_rules.specs.Search.{buckets_down, nearest_tally}
use Rattle.table_rules.specs.Passed.{Passed}
use Rattle.table_rules.proofs.Down.{below, below_next, below_none, few_slots}
use Rattle.table_nearest.specs.Tallies.{none_kept, most_slots, reported_below, bucket_tally, tally_below}

-- by what this table and this query ask, all buckets give what the definition of nearest says
pub tally_all : (t : Table) (query : Profile) (k firstDay : ℕ) → IsProfile query → tally_below (asked_of (row_at t header_row) query k firstDay) t (suc (order_of t)) none_kept ≡ nearest_tally t query k firstDay
unfolding tally_below bucket_tally nearest_tally buckets_down buckets_of table_space
tally_all t query k firstDay is =
    ap₂ (λ (q : Profile) (n : ℕ). foldl (λ tally b. nearest_tree (distance (table_space t)) q (may_report (query_row query k firstDay)) n tally (slots_of t b)) none_kept (buckets_down t))
    (profile-of-row 0 query k 0 firstDay is) (threshold_of_row 0 query k 0 firstDay)

module _ (reports : Row → Bool) (t : Table) where
  -- one bucket more has its own slots to report
  pub reported_next : (n : ℕ) → reported_below reports t (suc n) ≡ reported_in reports (slots_of t n) + reported_below reports t n
  unfolding reported_below below total
  reported_next n = ap (λ (bs : List ℕ). total (map (λ b. reported_in reports (slots_of t b)) bs)) (below_next n)

  pub reported_none : reported_below reports t 0 ≡ 0
  unfolding reported_below below total
  reported_none = ap (λ (bs : List ℕ). total (map (λ b. reported_in reports (slots_of t b)) bs)) below_none

-- a search can start with nothing kept
none_ready : (k reported n : ℕ) (area : List Entry) → 0 < k → min k reported ≤ length area → n < 2 ^ 32 → Ready k reported n area (record { count = 0; bound = 2 ^ 32 })
unfolding ordered sort_by
none_ready k reported n area some fits h =
    let none : take (kept_under k (2 ^ 32)) area ≡ [] = ap (λ (i : ℕ). take i area) (under_unbounded k (2 ^ 32) (omega arith)) in
    record {
      held =
          record {
            some = some;
            bound_is = sym (bound_below k [] some) ∙ ap (bound_of k) (sym none);
            in_order = ap ordered none ∙ sym none;
            near = subst Near (sym none) tt;
          };
      room = omega (arith, ap length none);
      counts = omega (arith, h);
    }

module _ (asked : List Row) (t : Table) where
  tally_next : (n : ℕ) (u : Tally) → tally_below asked t (suc n) u ≡ tally_below asked t n (bucket_tally asked t n u)
  unfolding tally_below below
  tally_next n u = ap (foldl (λ v b. bucket_tally asked t b v) u) (below_next n)

  tally_none : (u : Tally) → tally_below asked t 0 u ≡ u
  unfolding tally_below below
  tally_none u = ap (foldl (λ v b. bucket_tally asked t b v) u) below_none

  bucket_sound_lem : (b : ℕ) (u : Tally) → Fit u.kept → length u.kept ≤ k_asked asked
      → Sound (distance_asked asked) (query_asked asked) (reports_asked asked) (k_asked asked) (reported_in (reports_asked asked) (slots_of t b)) (length (slots_of t b)) u (bucket_tally asked t b u)
  unfolding bucket_tally
  bucket_sound_lem b u fit few = sound-tree (distance_asked asked) (query_asked asked) (reports_asked asked) (k_asked asked) (short asked) (slots_of t b) u fit few

  -- what n buckets make of a tally: in order, at most k, no fewer than before, and at most every slot is visited
  pub record Grown (n : ℕ) (u r : Tally) : Type 0 where
    pub fit : Fit r.kept
    pub few : length r.kept ≤ k_asked asked
    pub grows : length u.kept ≤ length r.kept
    pub most : r.count ≤ u.count + most_slots * n

  pub grown_below : Passed t → (n : ℕ) → n ≤ suc (order_of t) → (u : Tally) → Fit u.kept → length u.kept ≤ k_asked asked → Grown n u (tally_below asked t n u)
  unfolding room
  grown_below p zero h u fit few = subst (Grown 0 u) (sym (tally_none u)) (record { fit = fit; few = few; grows = omega arith; most = omega arith })
  grown_below p (suc n) h u fit few =
      let s = bucket_sound_lem n u fit few in
      let size = s.counted.size in
      let r = grown_below p n (omega arith) (bucket_tally asked t n u) s.fit (omega arith) in
      subst (Grown (suc n) u) (sym (tally_next n u))
      (record { fit = r.fit; few = r.few; grows = omega (arith, r.grows); most = omega (arith, r.most, s.counted.most, few_slots p n (omega arith)) })

  -- with n buckets to come: they can start, and what they leave is left by the whole search
  pub record Awaits (n : ℕ) (whole : Tally) (start area : List Entry) (near : Nearby) : Type 0 where
    pub least : n ≤ suc (order_of t)
    pub ready : Ready (k_asked asked) (reported_below (reports_asked asked) t n) (most_slots * n) area near
    pub leaves : (last : List Entry) (r : Nearby) → Leaves (k_asked asked) (tally_below asked t n (tally_of (k_asked asked) area near)) area last r → Leaves (k_asked asked) whole start last r

  -- none is to come
  pub awaits_end : {n : ℕ} {whole : Tally} {start area : List Entry} {near : Nearby} → n ≡ 0 → Awaits n whole start area near → Leaves (k_asked asked) whole start area near
  awaits_end {n} {whole} {start} {area} {near} e a =
      let u = tally_of (k_asked asked) area near in
      let none : tally_below asked t n u ≡ u = ap (λ (i : ℕ). tally_below asked t i u) e ∙ tally_none u in
      a.leaves area near (leaves_as (k_asked asked) area area near (sym none) (leaves_same a.ready))

  -- all are to come
  pub awaits_all : Passed t → 0 < k_asked asked → (n m : ℕ) → n ≡ m → n ≤ suc (order_of t) → (area : List Entry) → min (k_asked asked) (reported_below (reports_asked asked) t m) ≤ length area
      → Awaits n (tally_below asked t m none_kept) area area (record { count = 0; bound = 2 ^ 32 })
  unfolding room
  awaits_all p some n m e h area fits =
      let same : tally_of (k_asked asked) area (record { count = 0; bound = 2 ^ 32 }) ≡ none_kept = ap (λ (i : ℕ). record { kept = take i area; count = 0 }) (under_unbounded (k_asked asked) (2 ^ 32) (omega arith)) in
      record {
        least = h;
        ready = none_ready (k_asked asked) (reported_below (reports_asked asked) t n) (most_slots * n) area some (omega (arith, ap (reported_below (reports_asked asked) t) e)) (omega (arith, p.framed.order));
        leaves = λ last r. leaves_as (k_asked asked) area last r (ap₂ (λ (i : ℕ) (u : Tally). tally_below asked t i u) e same);
      }

  module _ (p : Passed t) {m n : ℕ} {whole : Tally} {start area : List Entry} {near : Nearby} (e : m ≡ suc n) (a : Awaits m whole start area near) where
    in_table : n ≤ order_of t
    in_table = omega (arith, e, a.least)

    both-ready : Ready (k_asked asked) (reported_in (reports_asked asked) (slots_of t n) + reported_below (reports_asked asked) t n) (length (slots_of t n) + most_slots * n) area near
    unfolding room
    both-ready = ready_less (omega (arith, ap (reported_below (reports_asked asked) t) e, reported_next (reports_asked asked) t n)) (omega (arith, e, few_slots p n in_table)) a.ready

    -- bucket n can start
    pub bucket-ready : {slots : List Row} → slots ≡ slots_of t n → Ready (k_asked asked) (reported_in (reports_asked asked) slots) (length slots) area near
    bucket-ready is = subst (λ (xs : List Row). Ready (k_asked asked) (reported_in (reports_asked asked) xs) (length xs) area near) (sym is) (ready_less (omega arith) (omega arith) both-ready)

    -- and what it left is where the others start
    module _ {slots : List Row} (is : slots ≡ slots_of t n) (mid : List Entry) (r : Nearby) (l : Leaves (k_asked asked) (nearest_asked asked slots area near) area mid r) where
      once : Leaves (k_asked asked) (nearest_asked asked (slots_of t n) area near) area mid r
      once = subst (λ (xs : List Row). Leaves (k_asked asked) (nearest_asked asked xs area near) area mid r) is l

      sound : Sound (distance_asked asked) (query_asked asked) (reports_asked asked) (k_asked asked) (reported_in (reports_asked asked) (slots_of t n)) (length (slots_of t n)) (tally_of (k_asked asked) area near) (nearest_asked asked (slots_of t n) area near)
      unfolding bucket_tally
      sound = bucket_sound_lem n (tally_of (k_asked asked) area near) (ready_fit a.ready) (ready_few a.ready)

      pub awaits_next : Awaits n whole start mid r
      unfolding bucket_tally
      awaits_next =
          let u = tally_of (k_asked asked) area near in
          let rest : tally_below asked t n (bucket_tally asked t n u) ≡ tally_below asked t m u = sym (ap (λ (i : ℕ). tally_below asked t i u) e ∙ tally_next n u) in
          let grown = grown_below p n (omega (arith, in_table)) (bucket_tally asked t n u) sound.fit (omega (arith, sound.counted.size)) in
          record {
            least = omega (arith, in_table);
            ready = ready-after (distance_asked asked) (query_asked asked) (reports_asked asked) (reported_in (reports_asked asked) (slots_of t n)) (reported_below (reports_asked asked) t n) (length (slots_of t n)) (most_slots * n) both-ready sound once;
            leaves = λ last z q.
                a.leaves last z
                (leaves_as (k_asked asked) area last z rest
                (leaves-then (distance_asked asked) (query_asked asked) (reports_asked asked) (reported_in (reports_asked asked) (slots_of t n)) (reported_below (reports_asked asked) t n) (length (slots_of t n)) (most_slots * n) both-ready sound once
                (tally_below asked t n (bucket_tally asked t n u)) last z grown.grows
                (leaves_as (k_asked asked) mid last z (ap (tally_below asked t n) (tally-after (distance_asked asked) (query_asked asked) (reports_asked asked) (reported_in (reports_asked asked) (slots_of t n)) (reported_below (reports_asked asked) t n) (length (slots_of t n)) (most_slots * n) both-ready sound once)) q)));
          }
