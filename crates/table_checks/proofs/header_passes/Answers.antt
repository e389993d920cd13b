-- `table_checks::header_passes` meets its contract: the weights, read where `table_space` has them, and then the sizes.
use Prim.Native.Nat.{ℕ}
use mathlib.Core.Path.{◌≡◌, sym, ◌∙◌, ap, ap₂}
use mathlib.Core.Bool.{Bool, ◌&&◌}
use Rattle.metric_rules.specs.Distance.{valid_weights, space_of}
use Rattle.table_rules.specs.Geometry.{header_row}
use Rattle.table_rules.specs.Table.{row_at, order_of, table_space, built_of, live_of}
use Rattle.table_rules.specs.Checks.{sizes_pass}
use Rattle.table_checks.proofs.header_passes.Goals as goal
use Rattle.table_checks.proofs.header_passes.Lts as lts
use Rattle.table_checks.proofs.header_passes.Reads as reads
use Rattle.table_checks.proofs.header_passes.Tie as tie

abbrev After-valid_weights : Type 0
After-valid_weights = lts.After-valid_weights tie.the-claims reads.Pre reads.Post

weights_tested :
    (c : After-valid_weights) → valid_weights (table_space c.args.table.now).weights ≡ c.valid_weights.result
unfolding table_space space_of row_at header_row
weights_tested c = ap valid_weights (sym c.weights_of.ensures) ∙ sym c.valid_weights.ensures

pub returns-then-not-valid_weights : goal.returns-then-not-valid_weights
returns-then-not-valid_weights c =
    let t = c.args.table.now in
    ap (λ (b : Bool). b && sizes_pass (order_of t) (built_of t) (live_of t))
    (sym (weights_tested c.before ∙ c.if-not-valid_weights.true))

pub returns : goal.returns
returns c =
    let w = c.before.before in
    let s = w.before.before.before in
    let t = s.args.table.now in
    c.sizes_pass.ensures
    ∙ ap₂ ◌&&◌
    (sym (weights_tested w ∙ c.if-not-valid_weights.false))
    (ap (λ (o : ℕ). sizes_pass o (built_of t) (live_of t)) s.requires.0)
