-- `tree_arrange::first_at` meets its contract. The loop's invariant is `Least`: of the rows passed none comes before the one kept.
use native.Mathlib.Omega.{arith}
use native.Mathlib.Numerals.{add-one}
use mathlib.Core.Path.{◌≡◌, sym, ◌∙◌, ap, subst}
use mathlib.Core.Bool.{true, false}
use mathlib.Core.List.{List, [], ◌∷◌}
use Prim.Native.Nat.{ℕ, ◌+◌, ◌<◌}
use lib.Seq.{take-suc, take_all}
use lib.ListN.{length, take, get_or}
use Rattle.lists.specs.Lists.{All}
use Rattle.lists.proofs.Lists.{all_append, all_weaken}
use Rattle.lists.proofs.Tests.{all_every}
use Rattle.metric_rules.specs.Row.{Row}
use Rattle.tree_rules.specs.Sorting.{key_le}
use Rattle.tree_rows.specs.Working.{first_key}
use Rattle.tree_rules.proofs.Sorting.{key_le_refl, key_le_trans, key_le_flip}
use Rattle.tree_arrange.proofs.first_at.Invariants.{Least}
use Rattle.tree_arrange.proofs.first_at.Goals as goal
use Rattle.tree_arrange.proofs.first_at.Goals.{then-not-tag_le, else-not-tag_le}

least_with : (rows : List Row) (at i : ℕ) → i < length rows → Least rows at i → key_le (first_key (get_or rows at [])) (first_key (get_or rows i [])) ≡ true → Least rows at (i + 1)
least_with rows at i h a k =
    subst (All (λ x. key_le (first_key (get_or rows at [])) (first_key x) ≡ true)) (sym (ap (λ (n : ℕ). take n rows) (add-one i) ∙ take-suc rows i [] h))
    (all_append (λ x. key_le (first_key (get_or rows at [])) (first_key x) ≡ true) (take i rows) (get_or rows i [] ∷ []) a (k, tt))

least_moved : (rows : List Row) (at i : ℕ) → i < length rows → Least rows at i → key_le (first_key (get_or rows at [])) (first_key (get_or rows i [])) ≡ false → Least rows i (i + 1)
least_moved rows at i h a k =
    least_with rows i i h
    (all_weaken (λ x. key_le_trans (first_key (get_or rows i [])) (first_key (get_or rows at [])) (first_key x)
    (key_le_flip (first_key (get_or rows at [])) (first_key (get_or rows i [])) k)) (take i rows) a)
    (key_le_refl (first_key (get_or rows i [])))

pub loop-i-init : goal.loop-i-init
loop-i-init c = (c.requires, tt)

pub loop-i-preserved : goal.loop-i-preserved
loop-i-preserved c =
    let rows : List Row = c.args.rows.now in
    let l = c.loop-i in
    let h : l.i < length rows = omega arith in
    elim c.if-not-tag_le.branch [
      | then-not-tag_le w ↦ (
        omega (arith, w.at-is),
        subst (λ (n : ℕ). Least rows n (l.i + 1)) (sym w.at-is)
            (least_moved rows l.at l.i h l.invariant.1 (sym c.tag_le.ensures ∙ w.if-not-tag_le.true)),
      )
      | else-not-tag_le w ↦ (
        omega (arith, w.at-is),
        subst (λ (n : ℕ). Least rows n (l.i + 1)) (sym w.at-is)
            (least_with rows l.at l.i h l.invariant.1 (sym c.tag_le.ensures ∙ w.if-not-tag_le.false)),
      )
    ]

pub returns : goal.returns
returns c =
    let rows : List Row = c.args.rows.now in
    let l = c.loop-i in (
      omega arith,
      all_every (λ x. key_le (first_key (get_or rows l.at [])) (first_key x)) rows
          (subst (All (λ x. key_le (first_key (get_or rows l.at [])) (first_key x) ≡ true)) (take_all l.i rows (omega arith)) l.invariant.1),
    )
