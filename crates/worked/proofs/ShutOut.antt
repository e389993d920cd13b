-- Two slips of RULES C that `EveryReport` shuts out, by the sizes that they would leave: a build that takes a dead slot over, and a removal that drops a slot
-- in place of marking one.
use Prim.Native.Nat.{ℕ, ◌≤◌}
use native.Mathlib.Omega.{arith}
use native.Mathlib.Decide.{ℕ_discrete}
use borrow.Author.Tests.{eqb-true}
use mathlib.Core.Path.{◌≡◌, ap}
use mathlib.Core.Logic.{◌⊎◌, inl, inr}
use lib.Dec.{eqb}
use Rattle.lists.proofs.Tests.{and_first}
use Rattle.table_rules.specs.Table.{Table, order_of, built_of, live_of}
use Rattle.history.specs.Reports.{sizes_kept, BucketKept, OnlyBuilds, OneMarked}

module _ (t u : Table) (in_order : 3 ≤ order_of t) where
  kept_built_size : BucketKept t u 3 → built_of u 3 ≡ built_of t 3
  unfolding sizes_kept
  kept_built_size kept = eqb-true (built_of u 3) (built_of t 3) (and_first (eqb (built_of u 3) (built_of t 3)) _ kept.sizes)

  neither : (built_of u 3 ≡ built_of t 3 → ⊥) → (live_of u 3 ≡ built_of u 3 → ⊥) → OnlyBuilds t u → ⊥
  neither other dead builds = elim (builds 3 in_order) [ inl kept ↦ other (kept_built_size kept) | inr afresh ↦ dead afresh.live ]

  -- order 3: after adds of 1 to 4, a removal of 4 and adds of 5 to 7, an add that gathers the dead slot too would leave bucket 3, empty before, with 8 built
  -- and 7 live
  pub taken_over : built_of t 3 ≡ 0 → built_of u 3 ≡ 8 → live_of u 3 ≡ 7 → OnlyBuilds t u → ⊥
  taken_over before built live = neither (λ e. omega (arith, e, before, built)) (λ e. omega (arith, e, built, live))

  -- bucket 3 with 8 built and 7 live: a removal that drops a slot would leave 7 built and 6 live
  pub dropped : (tag : ℕ) → built_of t 3 ≡ 8 → built_of u 3 ≡ 7 → live_of u 3 ≡ 6 → OnlyBuilds t u ⊎ OneMarked t u tag → ⊥
  dropped tag before built live (inl builds) = neither (λ e. omega (arith, e, before, built)) (λ e. omega (arith, e, built, live)) builds
  dropped tag before built live (inr marks) =
      elim (ℕ_discrete 3 marks.bucket) [
        | yes e ↦ omega (arith, ap (built_of u) e, marks.built, ap (built_of t) e, before, built)
        | no ne ↦ omega (arith, kept_built_size (marks.others 3 in_order ne), before, built)
      ]
