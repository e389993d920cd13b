use Prim.Native.Nat.{ℕ, suc, ◌+◌, ◌*◌, ◌≤◌}
use mathlib.Core.List.{List}
use Rattle.metric_rules.specs.Row.{Row}
use Rattle.tree_range.specs.declared.Found.{Found}
use Rattle.search_rules.specs.Range.{Entry}
use Rattle.tree_range.specs.Collected.{found_after, collected}
use Rattle.table_rules.specs.Table.{Table}
use Rattle.table_range.specs.Below.{met_below, none_found}
use Rattle.table_range.proofs.Adding.{Adds}
use Rattle.table_range.proofs.range_buckets.Given as goal

-- all that a table of order t meets
abbrev pub Whole : List Row → Table → ℕ → List Entry → ℕ → Found → List Entry → Type 0
Whole asked table t area₀ k = Adds asked table k (found_after none_found (met_below asked table (suc t))) (collected area₀ none_found (met_below asked table (suc t)))

abbrev pub invariant-loop-k : goal.invariant-loop-k
invariant-loop-k l =
    let t = l.fn.table in
    record {
      whole : Whole l.asked t.rows.now t.order.t l.initial.area l.k l.found l.area;
      few_hits : l.found.hits + 4096 * l.k ≤ 4096 * 13;
      few_visits : l.found.count + 4096 * l.k ≤ 4096 * 13;
    }
