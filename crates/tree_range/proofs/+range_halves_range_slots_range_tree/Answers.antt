-- A slot's visit and its halves' add up to the tree's, and the two halves' turns to the halves', and no slots give
-- nothing. Seven slots or fewer are the leaf's.
use mathlib.Core.Path.{◌≡◌, refl, sym, ap, ◌∙◌}
use mathlib.Core.List.{List, []}
use borrow.Author.Tests.{tests, le-leb, lt-leb}
use borrow.Author.Rules.{rules}
use lib.Dec.{leb}
use Rattle.tree_rules.proofs.Parts.{left_size_lem, part_rest}
use Rattle.metric_rules.specs.Row.{Row}
use Rattle.tree_rules.specs.Layout.{left_size}
use Rattle.search_rules.specs.Range.{Entry, Met, nothing, enters_left, enters_right, to_query}
use Rattle.search_rules.proofs.RangeLaws.{if_entered, range_count_le, range_hits_le}
use Rattle.tree_range.specs.declared.Found.{Found}
use Rattle.search_asked.specs.Asked.{distance_asked, query_asked, reports_asked, radius_asked}
use Rattle.tree_range.specs.Collected.{Room, found_after, met_in_halves, range_asked}
use Rattle.tree_range.proofs.Collecting.{tree_empty, entered, skipped, half_found, alone_found, two_steps, tree_visit}
use Rattle.tree_range.proofs.Leaves.{Leaves, leaves_as, leaves_nothing}
use Prim.Native.Nat.{ℕ, suc, ◌+◌, ◌-◌, ◌/◌, ◌≤◌, ◌<◌}
use native.Mathlib.Omega.{arith}
use lib.ListN.{length, take, drop, get_or, length-take, length-drop}
use lib.Seq.{length-take-le}
use Rattle.tree_range.proofs.+range_halves_range_slots_range_tree.Goals as goal
use Rattle.tree_range.proofs.+range_halves_range_slots_range_tree.Goals.{range_halves-then-d-m, range_halves-else-d-m}

-- what the left half gives, and what the right half gives
abbrev left_met : List Row → ℕ → ℕ → List Row → Met
left_met asked d m rest = if_entered (enters_left d m (radius_asked asked)) (range_asked asked (take (left_size (suc (length rest))) rest))

abbrev right_met : List Row → ℕ → ℕ → List Row → Met
right_met asked d m rest = if_entered (enters_right d m (radius_asked asked)) (range_asked asked (drop (left_size (suc (length rest))) rest))

-- r is the radius as the code has it
module _ (asked : List Row) (r d m : ℕ) (rest : List Row) (q : r ≡ radius_asked asked) where
  left_entered : d ≤ m + r → range_asked asked (take (length rest - length rest / 2) rest) ≡ left_met asked d m rest
  unfolding enters_left
  left_entered h =
      ap (λ (l : ℕ). range_asked asked (take l rest)) (left_size_lem (length rest))
      ∙ sym (entered (leb d (m + radius_asked asked)) _ (le-leb d (m + radius_asked asked) (omega (arith, h, q))))

  left_skipped : m + r < d → nothing ≡ left_met asked d m rest
  unfolding enters_left
  left_skipped h = sym (skipped (leb d (m + radius_asked asked)) _ (lt-leb d (m + radius_asked asked) (omega (arith, h, q))))

  right_entered : m ≤ d + r → range_asked asked (take (length rest - (length rest - length rest / 2)) (drop (length rest - length rest / 2) rest)) ≡ right_met asked d m rest
  unfolding enters_right
  right_entered h =
      ap (range_asked asked) (part_rest (length rest - length rest / 2) rest ∙ ap (λ (l : ℕ). drop l rest) (left_size_lem (length rest)))
      ∙ sym (entered (leb m (d + radius_asked asked)) _ (le-leb m (d + radius_asked asked) (omega (arith, h, q))))

  right_skipped : d + r < m → nothing ≡ right_met asked d m rest
  unfolding enters_right
  right_skipped h = sym (skipped (leb m (d + radius_asked asked)) _ (lt-leb m (d + radius_asked asked) (omega (arith, h, q))))

-- the numbers that the left half's turn leaves have room for the right half
left_leaves : (asked : List Row) (d m : ℕ) (rest : List Row) (f met : Found) → met ≡ found_after f (left_met asked d m rest) → Room f (length rest)
    → Room met (length (take (length rest - (length rest - length rest / 2)) (drop (length rest - length rest / 2) rest)))
left_leaves asked d m rest f met e room =
    let left = take (left_size (suc (length rest))) rest in
    let size : length left ≡ length rest - length rest / 2 = ap (λ (l : ℕ). length (take l rest)) (sym (left_size_lem (length rest))) ∙ length-take-le (length rest - length rest / 2) rest (omega arith) in
    let few =
    half_found f (enters_left d m (radius_asked asked)) (range_asked asked left) (length left) (length rest / 2) (range_hits_le (distance_asked asked) (query_asked asked) (reports_asked asked) (radius_asked asked) left) (range_count_le (distance_asked asked) (query_asked asked) (reports_asked asked) (radius_asked asked) left) (omega (arith, room.0)) (omega (arith, room.1))
    in
    let far : length (take (length rest - (length rest - length rest / 2)) (drop (length rest - length rest / 2) rest)) ≡ length rest / 2 = simp (length-take, length-drop) (omega arith) in
    (omega (arith, few.0, ap (λ (g : Found). g.hits) e), omega (arith, few.1, ap (λ (g : Found). g.count) e))

-- both halves' turns
halves_visit : (asked : List Row) (d m : ℕ) (rest : List Row) (f : Found) (area : List Entry) (met : Found) (next : List Entry) (r : Found) (last : List Entry)
    → Leaves f area (left_met asked d m rest) met next → Leaves met next (right_met asked d m rest) r last
    → Leaves f area (met_in_halves (distance_asked asked) (query_asked asked) (reports_asked asked) (radius_asked asked) d m rest) r last
unfolding met_in_halves if_entered
halves_visit asked d m rest f area met next r last left right =
    two_steps f area (left_met asked d m rest) (right_met asked d m rest) met next left.0 left.1 r last right.0 right.1

pub range_halves-range_tree-met-requires-then-m-d : goal.range_halves-range_tree-met-requires-then-m-d
range_halves-range_tree-met-requires-then-m-d t c =
    let a = c.args in
    let left : Leaves a.found a.area.now (left_met a.asked.now a.d a.m a.rest.now) c.if-d-m.met c.if-d-m.area =
    (elim c.if-d-m.branch [
      | range_halves-then-d-m w ↦ leaves_as a.found a.area.now (left_entered a.asked.now c.threshold_of-radius.result a.d a.m a.rest.now c.threshold_of-radius.ensures w.if-d-m.true) (w.met-is ∙ w.range_tree-met.ensures.reply, w.area-is ∙ w.range_tree-met.ensures.area)
      | range_halves-else-d-m w ↦ leaves_as a.found a.area.now (left_skipped a.asked.now c.threshold_of-radius.result a.d a.m a.rest.now c.threshold_of-radius.ensures w.if-d-m.false) (leaves_nothing a.found a.area.now w.met-is w.area-is)
    ])
    in
    (simp (length-take, length-drop) (omega (arith, c.decreases)), left_leaves a.asked.now a.d a.m a.rest.now a.found c.if-d-m.met left.0 c.requires)

pub range_halves-returns-then-m-d : goal.range_halves-returns-then-m-d
range_halves-returns-then-m-d t c =
    let a = c.args in
    let all =
    halves_visit a.asked.now a.d a.m a.rest.now a.found a.area.now c.if-d-m.met c.if-d-m.area _ _
    (elim c.if-d-m.branch [
      | range_halves-then-d-m w ↦ leaves_as a.found a.area.now (left_entered a.asked.now c.threshold_of-radius.result a.d a.m a.rest.now c.threshold_of-radius.ensures w.if-d-m.true) (w.met-is ∙ w.range_tree-met.ensures.reply, w.area-is ∙ w.range_tree-met.ensures.area)
      | range_halves-else-d-m w ↦ leaves_as a.found a.area.now (left_skipped a.asked.now c.threshold_of-radius.result a.d a.m a.rest.now c.threshold_of-radius.ensures w.if-d-m.false) (leaves_nothing a.found a.area.now w.met-is w.area-is)
    ])
    (leaves_as c.if-d-m.met c.if-d-m.area (right_entered a.asked.now c.threshold_of-radius.result a.d a.m a.rest.now c.threshold_of-radius.ensures c.if-m-d.true) (c.range_tree-met-then-m-d.ensures.reply, c.range_tree-met-then-m-d.ensures.area))
    in record { reply = all.0; area = all.1 }

pub range_halves-returns-else-m-d : goal.range_halves-returns-else-m-d
range_halves-returns-else-m-d t c =
    let a = c.args in
    let all =
    halves_visit a.asked.now a.d a.m a.rest.now a.found a.area.now c.if-d-m.met c.if-d-m.area _ _
    (elim c.if-d-m.branch [
      | range_halves-then-d-m w ↦ leaves_as a.found a.area.now (left_entered a.asked.now c.threshold_of-radius.result a.d a.m a.rest.now c.threshold_of-radius.ensures w.if-d-m.true) (w.met-is ∙ w.range_tree-met.ensures.reply, w.area-is ∙ w.range_tree-met.ensures.area)
      | range_halves-else-d-m w ↦ leaves_as a.found a.area.now (left_skipped a.asked.now c.threshold_of-radius.result a.d a.m a.rest.now c.threshold_of-radius.ensures w.if-d-m.false) (leaves_nothing a.found a.area.now w.met-is w.area-is)
    ])
    (leaves_as c.if-d-m.met c.if-d-m.area (right_skipped a.asked.now c.threshold_of-radius.result a.d a.m a.rest.now c.threshold_of-radius.ensures c.if-m-d.false) (leaves_nothing c.if-d-m.met c.if-d-m.area refl refl))
    in record { reply = all.0; area = all.1 }

pub range_slots-range_halves-requires : goal.range_slots-range_halves-requires
range_slots-range_halves-requires t c =
    let a = c.args in
    let n = length a.slots.now in
    let few = alone_found (reports_asked a.asked.now) a.found (get_or a.slots.now 0 []) c.distance_between-d.result (radius_asked a.asked.now) n c.requires.0 c.requires.1.0 c.requires.1.1 in
    let size : length (take (n - 1) (drop 1 a.slots.now)) ≡ n - 1 = simp (length-take, length-drop) (omega arith) in (
      omega (arith, c.decreases, size, c.requires.0),
      (omega (arith, size, few.0, ap (λ (g : Found). g.hits) c.meet-met.ensures.reply), omega (arith, size, few.1, ap (λ (g : Found). g.count) c.meet-met.ensures.reply)),
    )

pub range_slots-returns : goal.range_slots-returns
unfolding to_query
range_slots-returns t c =
    let a = c.args in
    let all =
    tree_visit (distance_asked a.asked.now) (query_asked a.asked.now) (reports_asked a.asked.now) (radius_asked a.asked.now) a.slots.now a.found a.area.now c.requires.0
    c.distance_between-d.result c.threshold_of.result c.distance_between-d.ensures c.threshold_of.ensures
    c.meet-met.result c.meet-met.new.area c.meet-met.ensures.reply c.meet-met.ensures.area
    c.range_halves.result c.range_halves.new.area c.range_halves.ensures.reply c.range_halves.ensures.area
    in record { reply = all.0; area = all.1 }

pub range_tree-returns-then-is_empty : goal.range_tree-returns-then-is_empty
range_tree-returns-then-is_empty t c =
    let a = c.args in
    let none : length a.slots.now ≡ 0 = search (rules, tests) in
    let all =
    leaves_as a.found a.area.now (sym (tree_empty (distance_asked a.asked.now) (query_asked a.asked.now) (reports_asked a.asked.now) (radius_asked a.asked.now) a.slots.now none)) (leaves_nothing a.found a.area.now refl refl)
    in record { reply = all.0; area = all.1 }
