-- `tree_build::build` meets its contract: rows with their places as ranks are whole and ranked apart, and have the layout of the rows.
use native.Mathlib.Omega.{arith}
use mathlib.Core.Path.{◌≡◌, sym, ◌∙◌, ap, subst}
use mathlib.Core.List.{List, map}
use Prim.Native.Nat.{ℕ}
use lib.ListN.{length, replicate}
use Rattle.metric_rules.specs.Row.{Row, zero_row}
use Rattle.metric_rules.specs.Distance.{distance, space_of}
use Rattle.tree_rules.specs.Layout.{cost, layout_within}
use Rattle.tree_rows.specs.Working.{ranked_of, ranks_written, RanksApart}
use Rattle.tree_rules.specs.Guided.{Whole}
use Rattle.tree_build.proofs.Halving.{layout_within_lem}
use Rattle.tree_arrange.proofs.Arranging.{ranks_written_whole, ranks_written_apart, layout_ranks}
use Rattle.tree_build.proofs.build.Goals as goal

pub build_part-requires : goal.build_part-requires
build_part-requires c =
    let s = c in
    let w = c.write_ranks in
    let rows : List Row = s.args.src.now in
    let n : length w.new.rows ≡ length rows = w.auto.rows in (
      s.requires.0 ∙ sym n,
      omega (arith, n, s.requires.1),
      subst Whole (sym w.ensures.0) (ranks_written_whole 0 rows w.ensures.1),
      subst RanksApart (sym w.ensures.0) (ranks_written_apart 0 rows w.ensures.1),
    )

pub returns : goal.returns
returns c =
    let s = c in
    let w = c.write_ranks in
    let b = c.build_part in
    let rows : List Row = s.args.src.now in
    let dist = distance (space_of s.args.header.now) in
    let n : length w.new.rows ≡ length rows = w.auto.rows in record {
      laid = b.ensures.laid
          ∙ ap (λ (r : List Row). layout_within dist (length r) (map ranked_of r)) w.ensures.0
          ∙ layout_within_lem dist (ranks_written 0 rows)
          ∙ layout_ranks dist rows w.ensures.1;
      cleared = b.ensures.cleared ∙ ap (λ (k : ℕ). replicate k zero_row) n;
      counted = b.ensures.counted ∙ ap cost n;
      whole = w.ensures.1;
    }
