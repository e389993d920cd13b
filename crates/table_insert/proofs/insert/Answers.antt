-- `table_insert::insert` meets its contract: each step's promise is handed to the laws of an accepted add.
use native.Mathlib.Omega.{arith}
use Prim.Native.Nat.{ℕ}
use Rattle.std.proofs.Common.{rules}
use mathlib.Core.Path.{◌≡◌, refl, ◌∙◌, ap, ap₂}
use mathlib.Core.List.{List}
use lib.ListN.{length, set, length-set}
use lib.Seq.{sets, length-sets}
use Rattle.lists.specs.Lists.{count_from}
use Rattle.metric_rules.specs.Row.{Row}
use Rattle.metric_rules.specs.declared.Profile.{Profile}
use Rattle.table_rules.specs.Add.{add_refusal}
use Rattle.table_rules.specs.Geometry.{work_rows}
use Rattle.table_rules.specs.Rebuild.{live_items}
use Rattle.table_rules.proofs.Adding.{lowest_within}
use Rattle.table_insert.proofs.PutIn.{Accepted, changes, built_fits, few, some_gathered, cost-counted, number-gathered, target_found, target_fits}
use Rattle.table_insert.proofs.PutIn.{work_cleared, table-built}
use Rattle.table_rebuild.proofs.Filling.{most_room}
use Rattle.table_insert.proofs.insert.Goals as goal

ok : {t w : List Row} {tag day : ℕ} {profile : Profile} → add_refusal t w tag profile day ≡ 0 → Accepted t w tag profile day
ok none = record { none = none }

pub bounds-work-0 : goal.bounds-work-0
bounds-work-0 c = omega (arith, (few (ok c.requires.1)).0, some_gathered (ok c.requires.1), (changes (ok c.requires.1)).roomy)

pub invariant_of-buckets : goal.invariant_of-buckets
invariant_of-buckets c = record { of_order = (built_fits (ok c.requires.1) c.args.order.t c.requires.0).lent }

pub gather_below-requires : goal.gather_below-requires
gather_below-requires c =
    let s = c in
    let w : List Row = s.args.work.now in
    let l = c.lowest_empty-k in (
      built_fits (ok c.requires.1) s.args.order.t s.requires.0,
      omega (arith, l.ensures, lowest_within s.args.table.now, s.requires.0),
      omega (arith, number-gathered (ok c.requires.1) l.ensures refl, (few (ok c.requires.1)).0, (changes (ok c.requires.1)).roomy, length-set w 0 c.new_row.result),
    )

pub empty_below-requires : goal.empty_below-requires
empty_below-requires c = omega (arith, c.lowest_empty-k.ensures, lowest_within c.args.table.now, c.requires.0)

pub add_bucket-target-requires : goal.add_bucket-target-requires
add_bucket-target-requires c =
    let s = c in
    let l = c.lowest_empty-k in
    let g = c.gather_below in (
      omega (arith, l.ensures, lowest_within s.args.table.now, (changes (ok c.requires.1)).passed.framed.order),
      omega (arith, g.ensures.n),
      omega (arith, number-gathered (ok c.requires.1) l.ensures g.ensures.n, (few (ok c.requires.1)).1, most_room),
    )

pub build_bucket-distances-requires : goal.build_bucket-distances-requires
build_bucket-distances-requires c =
    let s = c in
    let l = c.lowest_empty-k in
    let g = c.gather_below in
    let e = c.empty_below in
    let fits = target_fits (ok c.requires.1) l.ensures g.ensures.n c.add_bucket-target.ensures in (
      omega (arith, fits.0, s.requires.0, e.ensures.same_order),
      omega (arith, fits.1, g.ensures.n),
      omega (arith, ap length g.ensures.work, length-sets (set s.args.work.now 0 c.new_row.result) 1 (live_items s.args.table.now (count_from 0 l.result)), length-set s.args.work.now 0 c.new_row.result, (changes (ok c.requires.1)).roomy, ap work_rows (e.ensures.same_order ∙ s.requires.0)),
    )

pub returns : goal.returns
returns c =
    let s = c in
    let lowest = c.lowest_empty-k in
    let l = lowest.ensures in
    let g = c.gather_below.ensures in
    let b = c.build_bucket-distances.ensures in
    let to = c.add_bucket-target.ensures in
    let w : List Row = s.args.work.now in
    let stored = g.work ∙ ap (λ (r : Row). sets (set w 0 r) 1 (live_items s.args.table.now (count_from 0 lowest.result))) c.new_row.ensures in
    let built = table-built (ok c.requires.1) l g.n stored to c.empty_below.ensures.rows b.rows in
    let cleared = b.work ∙ work_cleared (ok c.requires.1) l g.n stored c.empty_below.new.buckets.order.t (c.empty_below.ensures.same_order ∙ s.requires.0) in
    record {
      reply = ap₂ (λ (k d : ℕ). record { refusal = 0; bucket = k; distances = d }) (target_found (ok c.requires.1) l g.n to) (cost-counted (ok c.requires.1) l g.n b.counted);
      table = search (rules, built);
      work = search (rules, cleared);
    }
