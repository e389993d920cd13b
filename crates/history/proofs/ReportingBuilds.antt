-- What a call built, by the sizes before and after it: a rebuild that leaves more live items in its bucket than were there has built them, no other bucket
-- shows a build, each being kept or emptied, and so c(n) of all buckets is c(n) of that one.
use Prim.Native.Nat.{ℕ, suc, ◌≤◌, ◌<◌}
use native.Mathlib.Omega.{arith}
use mathlib.Core.Path.{◌≡◌, refl, sym, ◌∙◌, ap}
use mathlib.Core.Bool.{Bool, true, false, not, ◌&&◌}
use mathlib.Core.Logic.{◌⊎◌, inl, inr}
use mathlib.Core.List.{List, [], ◌∷◌}
use lib.Dec.{eqb}
use lib.ListN.{length}
use borrow.Author.Tests.{eq-eqb, ne_eqb}
use Rattle.lists.specs.Lists.{All}
use Rattle.lists.proofs.Lists.{all_weaken}
use Rattle.lists.proofs.Tests.{and_pass}
use Rattle.metric_rules.specs.Row.{Row}
use Rattle.tree_rules.specs.Layout.{cost}
use Rattle.table_rules.specs.Geometry.{room, buckets_of, table_rows}
use Rattle.table_rules.specs.Table.{Table, order_of, built_of, live_of}
use Rattle.table_rules.specs.Rebuild.{Rebuilt, rebuilt}
use Rattle.table_rules.proofs.Views.{Kept, kept_twice, Only, same_order, kept_built, kept_live, kept_slots}
use Rattle.table_rules.proofs.Puts.{Holds, held_built, held_live, apart_or}
use Rattle.table_rules.proofs.Live.{Roomy}
use Rattle.history.specs.Reports.{sizes_kept, built_in, build_cost, BucketKept, BucketBuilt, OnlyBuilds}
use Rattle.history.proofs.Amortized.{below, below_zero, below_changed, Moved}
use Rattle.history.proofs.AmortizedMoved.{moved_only, moved_empties, built_moved, live_moved}

-- of two tests the second fails
pub second_fails : (a : Bool) {b : Bool} → b ≡ false → (a && b) ≡ false
second_fails true e = e
second_fails false e = refl

-- what was built in a bucket, by its sizes before and after: all that is live, if it is more than before; nothing where a slot is dead, where the sizes are
-- as they were and where the bucket is empty
module _ (t u : Table) (k : ℕ) where
  grown : live_of t k < live_of u k → sizes_kept t u k ≡ false
  unfolding sizes_kept
  grown h = second_fails (eqb (built_of u k) (built_of t k)) (ne_eqb (live_of u k) (live_of t k) (λ e. absurd (omega (arith, e, h))))

  by : Bool → ℕ
  by built = elim built [ true ↦ built_of u k | false ↦ 0 ]

  built_by : (b : Bool) → (not (sizes_kept t u k) && eqb (built_of u k) (live_of u k)) ≡ b → built_in t u k ≡ by b
  unfolding built_in by
  built_by b e = ap by e

  more_built : (n : ℕ) → built_of u k ≡ n → live_of u k ≡ n → live_of t k < n → built_in t u k ≡ n
  unfolding by
  more_built n b l more =
      let all : eqb (built_of u k) (live_of u k) ≡ true = eq-eqb (built_of u k) (live_of u k) (b ∙ sym l) in
      built_by true (and_pass (not (sizes_kept t u k)) (eqb (built_of u k) (live_of u k)) (ap not (grown (omega (arith, l, more)))) all) ∙ b

  pub dead_not_built : live_of u k < built_of u k → built_in t u k ≡ 0
  unfolding by
  dead_not_built h = built_by false (second_fails (not (sizes_kept t u k)) (ne_eqb (built_of u k) (live_of u k) (λ e. absurd (omega (arith, e, h)))))

  pub kept_not_built : BucketKept t u k → built_in t u k ≡ 0
  unfolding by
  kept_not_built kept = built_by false (ap (λ (same : Bool). not same && eqb (built_of u k) (live_of u k)) kept.sizes)

  none_built : built_of u k ≡ 0 → built_in t u k ≡ 0
  unfolding by
  none_built e = built_by _ refl ∙ go (not (sizes_kept t u k) && eqb (built_of u k) (live_of u k))
    where
      go : (b : Bool) → by b ≡ 0
      go true = e
      go false = refl

-- a bucket that a change kept
pub kept_bucket : {t u : Table} {k : ℕ} → Kept t u k → built_of t k ≤ room k → BucketKept t u k
unfolding sizes_kept
kept_bucket {t} {u} {k} kept within =
    record {
      sizes =
          and_pass (eqb (built_of u k) (built_of t k)) (eqb (live_of u k) (live_of t k)) (eq-eqb (built_of u k) (built_of t k) (kept_built kept))
          (eq-eqb (live_of u k) (live_of t k) (kept_live kept));
      slots = kept_slots kept within;
    }

same_bucket : (t : Table) (k : ℕ) → BucketKept t t k
unfolding sizes_kept
same_bucket t k =
    record {
      sizes = and_pass (eqb (built_of t k) (built_of t k)) (eqb (live_of t k) (live_of t k)) (eq-eqb (built_of t k) (built_of t k) refl) (eq-eqb (live_of t k) (live_of t k) refl);
      slots = refl;
    }

-- c(n) where one bucket at most was built, and the others were kept or emptied
module _ (t u : Table) where
  abbrev pub Idle : ℕ → Type 0
  Idle k = BucketKept t u k ⊎ Holds u k [] 0

  idle_not_built : (k : ℕ) → Idle k → built_in t u k ≡ 0
  idle_not_built k (inl kept) = kept_not_built t u k kept
  idle_not_built k (inr held) = none_built t u k (held_built held)

  idle_builds : (k : ℕ) → Idle k → BucketKept t u k ⊎ BucketBuilt t u k
  idle_builds k (inl kept) = inl kept
  idle_builds k (inr held) =
      inr (record { live = held_live held ∙ sym (held_built held); counted = none_built t u k (held_built held) ∙ sym (held_built held) })

  costs : ℕ → ℕ
  costs k = cost (built_in t u k)

  no_cost : (k : ℕ) → built_in t u k ≡ 0 → costs k ≡ 0
  unfolding costs cost
  no_cost k e = ap cost e

  pub no_build : ((k : ℕ) → k ≤ order_of t → built_in t u k ≡ 0) → 0 ≡ build_cost t u
  unfolding build_cost buckets_of below costs
  no_build nowhere = sym (below_zero costs (suc (order_of t)) (λ k l. no_cost k (nowhere k (omega arith))))

  one_build : (g n : ℕ) → g ≤ order_of t → built_in t u g ≡ n → ((k : ℕ) → k ≤ order_of t → (k ≡ g → ⊥) → built_in t u k ≡ 0) → cost n ≡ build_cost t u
  unfolding build_cost buckets_of below costs
  one_build g n reached here nowhere =
      let changed = below_changed (λ k. 0) costs g (suc (order_of t)) (omega arith) (λ k l ne. no_cost k (nowhere k (omega arith) ne)) in
      omega (arith, changed, below_zero (λ k. 0) (suc (order_of t)) (λ k l. refl), ap cost here)

-- a step reports c(n) of what it built, and every bucket was kept, or built or emptied
pub record Reported (t : Table) (r : Rebuilt) : Type 0 where
  pub report : r.distances ≡ build_cost t r.table
  pub builds : OnlyBuilds t r.table

pub idle_reports : (t u : Table) → ((k : ℕ) → k ≤ order_of t → Idle t u k) → Reported t (record { table = u; distances = 0 })
idle_reports t u idle =
    record { report = no_build t u (λ k h. idle_not_built t u k (idle k h)); builds = λ k h. idle_builds t u k (idle k h) }

-- nothing changed
pub kept_reports : (t : Table) → Reported t (record { table = t; distances = 0 })
kept_reports t = idle_reports t t (λ k h. inl (same_bucket t k))

-- a rebuild of the table v, which is t but for the buckets listed
pub rebuild_reports :
    {t v : Table} (ks : List ℕ) → Only (λ j. All (λ i. j ≡ i → ⊥) ks) t v → Roomy t → All (λ k. k ≤ order_of t) ks → (g : ℕ)
    → g ≤ order_of t → (rows : List Row) → live_of t g < length rows → Reported t (rebuilt v ks g rows)
unfolding rebuilt
rebuild_reports {t} {v} ks only roomy in_order g reached rows more =
    let order : order_of v ≡ order_of t = same_order only.header in
    let long' : table_rows (order_of v) ≤ length v = rw order (omega (arith, roomy.long, only.long)) in
    let inOrder' : All (λ k. k ≤ order_of v) ks = all_weaken (λ k h. rw order h) ks in_order in
    let u : Table = (rebuilt v ks g rows).table in
    let built : Moved (order_of v) ks g (length rows) (built_of v) (built_of u) = built_moved v long' ks inOrder' g (rw order reached) rows in
    let live : Moved (order_of v) ks g (length rows) (live_of v) (live_of u) = live_moved v long' ks inOrder' g (rw order reached) rows in
    let here : built_in t u g ≡ length rows = more_built t u g (length rows) built.here live.here more in
    let idle : (j : ℕ) → j ≤ order_of t → (j ≡ g → ⊥) → Idle t u j =
    λ j h ne. elim (apart_or (λ i. (i ≡ g → ⊥) → Holds u i [] 0) j ks (moved_empties v long' ks inOrder' g (rw order reached) rows)) [
      | inl a ↦ inl (kept_bucket (kept_twice (only.others j h a) ((moved_only v long' ks inOrder' g (rw order reached) rows).others j (rw order h) (ne, a))) (roomy.within j h))
      | inr gone ↦ inr (gone ne)
    ] in
    record {
      report = one_build t u g (length rows) reached here (λ j h ne. idle_not_built t u j (idle j h ne));
      builds = λ j h. elim (apart_or (λ i. BucketBuilt t u i) j (g ∷ []) (record { live = live.here ∙ sym built.here; counted = here ∙ sym built.here }, tt)) [
        | inl a ↦ idle_builds t u j (idle j h a.0)
        | inr b ↦ inr b
      ];
    }
