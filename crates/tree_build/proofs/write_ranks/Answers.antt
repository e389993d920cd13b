-- `tree_build::write_ranks` meets its contract. The loop's invariant: the first i rows carry their ranks, and have all their words.
use native.Mathlib.Omega.{arith}
use native.Mathlib.Nat.{zero-add}
use mathlib.Core.Path.{◌≡◌, refl, sym, ◌∙◌, ap, subst}
use mathlib.Core.List.{List, []}
use Prim.Native.Nat.{ℕ, ◌+◌, ◌<◌}
use lib.Seq.{take_all}
use lib.ListN.{length, get_or, set}
use Rattle.metric_rules.specs.Row.{Row, with_mark}
use Rattle.tree_rows.specs.Working.{ranks_written}
use Rattle.tree_rules.specs.Guided.{Whole}
use Rattle.tree_rules.proofs.Parts.{written_to, written_at, written_step, written_all}
use Rattle.tree_arrange.proofs.Arranging.{whole_next, ranks_length, ranks_at}
use Rattle.tree_build.proofs.write_ranks.Goals as goal

-- row i is written with rank i
rank_step :
    (old rows : List Row) (i : ℕ) → i < length old → rows ≡ written_to old (ranks_written 0 old) i
    → set rows i (with_mark i (get_or rows i [])) ≡ written_to old (ranks_written 0 old) (i + 1)
rank_step old rows i h e =
    written_step old (ranks_written 0 old) (ranks_length 0 old) [] rows (with_mark i (get_or rows i [])) i h e
    (ap (λ (r : List Row). with_mark i (get_or r i [])) e
    ∙ ap (with_mark i) (written_at old (ranks_written 0 old) (ranks_length 0 old) [] i h)
    ∙ ap (λ (n : ℕ). with_mark n (get_or old i [])) (sym (zero-add i))
    ∙ sym (ranks_at 0 old i h))

pub loop-i-init : goal.loop-i-init
loop-i-init c = (refl, tt)

pub loop-i-preserved : goal.loop-i-preserved
loop-i-preserved c =
    let l = c.loop-i in
    let v = l.invariant in
    let old : List Row = c.args.rows.now in
    let h : l.i < length old = omega arith in
    let e : get_or l.rows l.i [] ≡ get_or old l.i [] =
    ap (λ (r : List Row). get_or r l.i []) v.0 ∙ written_at old (ranks_written 0 old) (ranks_length 0 old) [] l.i h in (
      ap (set l.rows l.i) c.with_rank.ensures.0 ∙ rank_step old l.rows l.i h v.0,
      whole_next old l.i h v.1 (ap length (sym e) ∙ c.with_rank.ensures.1),
    )

pub returns : goal.returns
returns c =
    let old : List Row = c.args.rows.now in
    let l = c.loop-i in (
      l.invariant.0 ∙ written_all old (ranks_written 0 old) (ranks_length 0 old) [] l.i (omega arith),
      subst Whole (take_all l.i old (omega arith)) l.invariant.1,
    )
