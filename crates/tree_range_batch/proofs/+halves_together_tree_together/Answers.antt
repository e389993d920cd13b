-- A slot's comparisons and its halves' visits add up to the tree's, the two halves' turns to the halves', and a half that is skipped gives nothing.
use Prim.Native.Nat.{ℕ, suc, ◌+◌, ◌-◌, ◌/◌, ◌<◌}
use mathlib.Core.Path.{◌≡◌, refl, sym, ap, ◌∙◌}
use mathlib.Core.Logic.{◌⊎◌, inl, inr, ⊎_elim}
use mathlib.Core.List.{List, []}
use mathlib.Core.Bool.{Bool, true, false, not, ◌&&◌}
use native.Mathlib.Omega.{arith}
use lib.ListN.{length, take, drop, get_or, length-take, length-drop}
use lib.Dec.{ltb, eqb}
use borrow.Author.Tests.{ltb-true, ltb-false, eqb-true, eqb-false, not-true, not-false}
use Rattle.lists.proofs.Tests.{and_first, and_second}
use Rattle.metric_rules.specs.Row.{Row}
use Rattle.tree_rules.specs.Layout.{left_size}
use Rattle.tree_rules.proofs.Parts.{left_size_lem, part_rest}
use Rattle.tree_range_batch.specs.declared.Hits.{Hits}
use Rattle.tree_range_batch.specs.Together.{is_on, Rooms, Fewer}
use Rattle.tree_range_batch.proofs.Sets.{single_alone}
use Rattle.tree_range_batch.proofs.Parts.{part_after}
use Rattle.tree_range_batch.proofs.Steps.{Visited, visited_skipped, visited_rooms, visited_few, alone_fewer, both_halves, tree_visit, tree_alone}
use Rattle.tree_range_batch.proofs.Steps.{tree_none}
use Rattle.tree_range_batch.proofs.+halves_together_tree_together.Goals as goal
use Rattle.tree_range_batch.proofs.+halves_together_tree_together.Goals.{halves_together-then-l-left, halves_together-else-l-left}

-- a half is skipped if it has no slots or no query enters it
skips : (some : Bool) (set : ℕ) → some && not (eqb set 0) ≡ false → (some ≡ false) ⊎ (set ≡ 0)
skips true set e = inr (eqb-true set 0 (not-false (eqb set 0) e))
skips false set e = inl refl

some_behind : (n : ℕ) → ltb (n - n / 2) n ≡ true → 0 < n / 2
some_behind n e = omega (arith, ltb-true (n - n / 2) n e)

enters : (some : Bool) (set : ℕ) → some && not (eqb set 0) ≡ true → set ≡ 0 → ⊥
enters some set e = eqb-false set 0 (not-true (eqb set 0) (and_second some (not (eqb set 0)) e))

-- the halves as code cuts them
left_whole : (rest : List Row) → take (length rest - length rest / 2) rest ≡ take (left_size (suc (length rest))) rest
left_whole rest = ap (λ (l : ℕ). take l rest) (left_size_lem (length rest))

right_whole : (rest : List Row) → take (length rest - (length rest - length rest / 2)) (drop (length rest - length rest / 2) rest) ≡ drop (left_size (suc (length rest))) rest
right_whole rest = part_rest (length rest - length rest / 2) rest ∙ ap (λ (l : ℕ). drop l rest) (left_size_lem (length rest))

left_skips : (rest : List Row) (set : ℕ) → ltb 0 (length rest - length rest / 2) && not (eqb set 0) ≡ false → (length (take (length rest - length rest / 2) rest) ≡ 0) ⊎ (set ≡ 0)
left_skips rest set h =
    ⊎_elim
    (λ (e : ltb 0 (length rest - length rest / 2) ≡ false). let none = ltb-false 0 (length rest - length rest / 2) e in inl (simp length-take (omega (arith, none))))
    inr (skips (ltb 0 (length rest - length rest / 2)) set h)

right_skips : (rest : List Row) (set : ℕ) → ltb (length rest - length rest / 2) (length rest) && not (eqb set 0) ≡ false → (length (drop (left_size (suc (length rest))) rest) ≡ 0) ⊎ (set ≡ 0)
right_skips rest set h =
    ⊎_elim
    (λ (e : ltb (length rest - length rest / 2) (length rest) ≡ false).
    inl (omega (arith, length-drop (left_size (suc (length rest))) rest, left_size_lem (length rest), ltb-false (length rest - length rest / 2) (length rest) e)))
    inr (skips (ltb (length rest - length rest / 2) (length rest)) set h)

-- a half's visit as it stands where the branches join
visit_at : (batch : List Row) (on : ℕ) {slots same : List Row} → slots ≡ same → (count : ℕ) (before : Hits)
    → {r m : ℕ} {x y : Hits} → m ≡ r → y ≡ x → Visited batch on slots count before r x → Visited batch on same count before m y
visit_at batch on e count before p q v = coe 0 1 (i. Visited batch on (e i) count before (sym p i) (sym q i)) v

pub halves_together-tree_together-met-requires-then-l-rest : goal.halves_together-tree_together-met-requires-then-l-rest
halves_together-tree_together-met-requires-then-l-rest t c =
    let a = c.args in
    let l = (length a.rest.now - length a.rest.now / 2) in
    let left : Visited a.batch.now a.ways.left (take (left_size (suc (length a.rest.now))) a.rest.now) a.count a.hits.now c.if-l-left.met c.if-l-left.hits =
    elim c.if-l-left.branch [
      | halves_together-then-l-left w ↦
          visit_at a.batch.now a.ways.left (left_whole a.rest.now) a.count a.hits.now w.met-is w.hits-is
          (record { counts = w.tree_together-met.ensures.reply; hits = w.tree_together-met.ensures.hits })
      | halves_together-else-l-left w ↦
          visit_at a.batch.now a.ways.left (left_whole a.rest.now) a.count a.hits.now w.met-is w.hits-is
          (visited_skipped a.batch.now a.ways.left (take (length a.rest.now - length a.rest.now / 2) a.rest.now) (left_skips a.rest.now a.ways.left w.if-l-left.false) a.count a.hits.now)
    ]
    in
    let size : length (take (length a.rest.now - l) (drop l a.rest.now)) ≡ length a.rest.now / 2 = simp (length-take, length-drop) (omega arith) in
    let parts : length a.rest.now ≡ length (take (left_size (suc (length a.rest.now))) a.rest.now) + length (take (length a.rest.now - l) (drop l a.rest.now)) =
    omega (arith, size, ap length (left_whole a.rest.now), length-take l a.rest.now) in (
      omega (arith, c.decreases, size, some_behind (length a.rest.now) (and_first _ _ c.if-l-rest.true)),
      (
        c.requires.1,
        enters (ltb l (length a.rest.now)) a.ways.right c.if-l-rest.true,
        visited_rooms a.batch.now left a.ways.right (length a.rest.now) _ parts c.requires.3,
        visited_few a.batch.now left (length a.rest.now) _ parts c.requires.4,
        c.requires.5,
      ),
    )

pub halves_together-returns-then-l-rest : goal.halves_together-returns-then-l-rest
halves_together-returns-then-l-rest t c =
    let a = c.args in
    let left : Visited a.batch.now a.ways.left (take (left_size (suc (length a.rest.now))) a.rest.now) a.count a.hits.now c.if-l-left.met c.if-l-left.hits =
    elim c.if-l-left.branch [
      | halves_together-then-l-left w ↦
          visit_at a.batch.now a.ways.left (left_whole a.rest.now) a.count a.hits.now w.met-is w.hits-is
          (record { counts = w.tree_together-met.ensures.reply; hits = w.tree_together-met.ensures.hits })
      | halves_together-else-l-left w ↦
          visit_at a.batch.now a.ways.left (left_whole a.rest.now) a.count a.hits.now w.met-is w.hits-is
          (visited_skipped a.batch.now a.ways.left (take (length a.rest.now - length a.rest.now / 2) a.rest.now) (left_skips a.rest.now a.ways.left w.if-l-left.false) a.count a.hits.now)
    ]
    in
    let call = c.tree_together-met-then-l-rest in
    let all =
    both_halves a.batch.now a.rest.now left
    (visit_at a.batch.now a.ways.right (right_whole a.rest.now) c.if-l-left.met c.if-l-left.hits {m = call.result} {y = call.new.hits} refl refl
    (record { counts = call.ensures.reply; hits = call.ensures.hits }))
    in record { reply = all.0; hits = all.1 }

pub halves_together-returns-else-l-rest : goal.halves_together-returns-else-l-rest
halves_together-returns-else-l-rest t c =
    let a = c.args in
    let left : Visited a.batch.now a.ways.left (take (left_size (suc (length a.rest.now))) a.rest.now) a.count a.hits.now c.if-l-left.met c.if-l-left.hits =
    elim c.if-l-left.branch [
      | halves_together-then-l-left w ↦
          visit_at a.batch.now a.ways.left (left_whole a.rest.now) a.count a.hits.now w.met-is w.hits-is
          (record { counts = w.tree_together-met.ensures.reply; hits = w.tree_together-met.ensures.hits })
      | halves_together-else-l-left w ↦
          visit_at a.batch.now a.ways.left (left_whole a.rest.now) a.count a.hits.now w.met-is w.hits-is
          (visited_skipped a.batch.now a.ways.left (take (length a.rest.now - length a.rest.now / 2) a.rest.now) (left_skips a.rest.now a.ways.left w.if-l-left.false) a.count a.hits.now)
    ]
    in
    let all =
    both_halves a.batch.now a.rest.now left
    (visited_skipped a.batch.now a.ways.right (drop (left_size (suc (length a.rest.now))) a.rest.now) (right_skips a.rest.now a.ways.right c.if-l-rest.false) c.if-l-left.met c.if-l-left.hits)
    in record { reply = all.0; hits = all.1 }

pub tree_together-returns-then-is_empty : goal.tree_together-returns-then-is_empty
tree_together-returns-then-is_empty t c =
    let a = c.args in
    let none = eqb-true (length a.slots.now) 0 (sym c.is_empty.ensures ∙ c.if-is_empty.true) in
    let all = tree_none a.batch.now a.on a.slots.now none a.count a.hits.now in
    record { reply = all.0; hits = all.1 }

-- one query is left, the lowest
pub tree_together-returns-then-behind-eq0 : goal.tree_together-returns-then-behind-eq0
tree_together-returns-then-behind-eq0 t c =
    let a = c.args in
    let low = c.lowest_of-first in
    let all =
    tree_alone a.batch.now a.on low.result a.slots.now c.requires.4 (single_alone a.on low.result c.behind.result c.requires.0 low.ensures c.behind.ensures c.if-behind-eq0.true) low.ensures.few
    a.count c.range_alone.ensures.reply c.range_alone.ensures.hits
    in record { reply = all.0; hits = all.1 }

pub tree_together-halves_together-requires : goal.tree_together-halves_together-requires
tree_together-halves_together-requires t c =
    let a = c.args in
    let n = length a.slots.now in
    let some : n ≡ 0 → ⊥ = eqb-false n 0 (sym c.is_empty.ensures ∙ c.if-is_empty.false) in
    let size : length (take (n - 1) (drop 1 a.slots.now)) ≡ n - 1 = simp (length-take, length-drop) (omega arith) in
    let call = c.compare_each-ways in
    let ways = call.ensures.ways in
    let fewer : Fewer (length (take (n - 1) (drop 1 a.slots.now))) call.new.hits.found.now =
    alone_fewer a.batch.now a.on (get_or a.slots.now 0 []) call.ensures.hits n _ (omega arith) c.requires.2.1 in
    let rooms : (set : ℕ) (goes : ℕ → Bool) → ((k : ℕ) → is_on set k ≡ (is_on a.on k && goes k)) → Rooms set (length (take (n - 1) (drop 1 a.slots.now))) call.new.hits =
    (λ set goes e. (λ k on. part_after call.ensures.hits k (c.requires.2.0 k (and_first (is_on a.on k) (goes k) (sym (e k) ∙ on))), fewer)) in (
      omega (arith, c.decreases),
      (
        call.ensures.sizes.0,
        call.ensures.sizes.1,
        rooms _ _ ways.0,
        rooms _ _ ways.1,
        omega (arith, c.requires.3),
        c.requires.4,
      ),
    )

pub tree_together-returns : goal.tree_together-returns
tree_together-returns t c =
    let a = c.args in
    let some : length a.slots.now ≡ 0 → ⊥ = eqb-false (length a.slots.now) 0 (sym c.is_empty.ensures ∙ c.if-is_empty.false) in
    let call = c.compare_each-ways in
    let halves = c.halves_together in
    let all =
    tree_visit a.batch.now a.on call.result.left call.result.right a.slots.now (omega arith) c.requires.4 c.requires.0 c.requires.1
    call.ensures.ways.0 call.ensures.ways.1 a.count call.ensures.hits
    halves.result halves.ensures.reply halves.ensures.hits
    in record { reply = all.0; hits = all.1 }
