-- `tree_build::build_part` meets its contract: the part is arranged, its first slot is placed, and the halves are parts again, with fewer rows.
-- The measure is the number of rows.
use mir.Syntax.{w64}
use mir.Val.{Fits}
use native.Mathlib.Omega.{arith}
use mathlib.Core.Path.{◌≡◌, refl, sym, ◌∙◌, ap}
use mathlib.Core.List.{List, [], ◌∷◌, map}
use lib.ListN.{length, get_or, replicate}
use Rattle.metric_rules.specs.declared.Profile.{Profile}
use Rattle.metric_rules.specs.Row.{Row, zero_row}
use Rattle.metric_rules.specs.Distance.{distance, space_of}
use Rattle.tree_rules.specs.Layout.{cost, placed, layout_within}
use Rattle.tree_rows.specs.Working.{ranked_of}
use Rattle.tree_rules.proofs.Cost.{cost_few, cost_bound}
use Rattle.tree_build.proofs.Halving.{Built, Arranged, left_target, left_source_lem, left_asks, rightTarget, rightSource, right-asks}
use Rattle.tree_build.proofs.Halving.{part_count, part-laid, part-cleared}
use Prim.Native.Nat.{ℕ, ◌+◌, ◌^◌, ◌≤◌, ◌*◌, ◌/◌}
use Rattle.tree_build.proofs.+build_part.Goals as goal
use Rattle.tree_build.proofs.+build_part.Goals.{After-place, After-build_part-left, After-build_part-right}

abbrev zeros : Row
zeros = 0 ∷ 0 ∷ 0 ∷ 0 ∷ 0 ∷ 0 ∷ 0 ∷ 0 ∷ 0 ∷ 0 ∷ 0 ∷ 0 ∷ 0 ∷ []

not_zero : (n : ℕ) → (n ≡ 0 → ⊥) → 1 ≤ n
not_zero n f = omega arith

-- the byte offset of the left half's end fits
end_far : (n : ℕ) → n ≤ 2 ^ 32 → Fits w64 ((1 + n / 2) * 52)
end_far n h = omega arith

counts_fit : (count left right n : ℕ) → count + left + right ≡ cost n → n ≤ 2 ^ 32 → Fits w64 (count + left) × Fits w64 (count + left + right)
counts_fit count left right n e h = (omega (arith, cost_bound 32 n h), omega (arith, cost_bound 32 n h))

-- of no rows nothing is built
none_built :
    (dist : Profile → Profile → ℕ) (dst src : List Row) → length dst ≡ length src → length src ≡ 0
    → (dst ≡ layout_within dist (length src) (map ranked_of src)) × ((src ≡ replicate (length src) zero_row) × (0 ≡ cost (length src)))
unfolding layout_within
none_built dist [] [] e h = (refl, (refl, sym (cost_few 0 (omega arith))))
none_built dist [] (r ∷ rs) e h = absurd (omega arith)
none_built dist (r ∷ rs) src e h = absurd (omega arith)

part_at : (t : ℕ) (c : After-place t)
    → Arranged (distance (space_of c.args.header.now)) c.args.src.now c.arrange-count.new.src c.arrange-count.new.dst c.place.result zeros
unfolding zero_row
part_at t c =
    record {
      full = not_zero (length c.args.src.now) c.if-n-eq0.false;
      few = c.requires.1;
      whole = c.requires.2;
      apart = c.requires.3;
      is = c.arrange-count.ensures.arranged;
      room = c.arrange-count.auto.dst ∙ c.requires.0;
      first = c.place.ensures ∙ ap (λ (n : ℕ). placed n (get_or c.arrange-count.new.src 0 [])) c.last_distance.ensures;
      zeroed = refl;
    }

left_at : (t : ℕ) (c : After-build_part-left t) →
    let b = c.build_part-left in
    let p = part_at t c.before.before.before in
    Built (distance (space_of c.args.header.now)) (left_target p) (left_source_lem p) b.new.dst b.new.src b.result
left_at t c =
    let b = c.build_part-left in
    record { slots_kept = b.auto.dst; rows_kept = b.auto.src; laid = b.ensures.laid; cleared = b.ensures.cleared; counted = b.ensures.counted }

right_at : (t : ℕ) (c : After-build_part-right t) →
    let d = c.build_part-right in
    let w = c.before.before.before.before.before in
    let p = part_at t w.before.before.before in
    let l = left_at t w in
    Built (distance (space_of c.args.header.now)) (rightTarget p l) (rightSource p l) d.new.dst d.new.src d.result
right_at t c =
    let d = c.build_part-right in
    record { slots_kept = d.auto.dst; rows_kept = d.auto.src; laid = d.ensures.laid; cleared = d.ensures.cleared; counted = d.ensures.counted }

pub returns-then-n-eq0-clause-laid : goal.returns-then-n-eq0-clause-laid
returns-then-n-eq0-clause-laid t c =
    (none_built (distance (space_of c.args.header.now)) c.args.dst.now c.args.src.now c.requires.0 c.if-n-eq0.true).0

pub returns-then-n-eq0-clause-counted : goal.returns-then-n-eq0-clause-counted
returns-then-n-eq0-clause-counted t c =
    (none_built (distance (space_of c.args.header.now)) c.args.dst.now c.args.src.now c.requires.0 c.if-n-eq0.true).1.1

pub build_part-left-requires : goal.build_part-left-requires
build_part-left-requires t c = left_asks (part_at t (goal.at.build_part-left-requires t c).After-place) t c.decreases

pub offset_bounds-dst-end : goal.offset_bounds-dst-end
offset_bounds-dst-end t c = end_far _ c.requires.1

pub offset_bounds-src-end : goal.offset_bounds-src-end
offset_bounds-src-end t c = end_far _ c.requires.1

pub build_part-right-requires : goal.build_part-right-requires
build_part-right-requires t c =
    let at = goal.at.build_part-right-requires t c in
    right-asks (part_at t at.After-place) (left_at t at.After-build_part-left) t c.decreases

counted_at :
    (t : ℕ) (c : After-build_part-right t)
    → c.arrange-count.result + c.build_part-left.result + c.build_part-right.result ≡ cost (length c.args.src.now)
counted_at t c =
    let w = c.before.before.before.before.before in
    part_count (part_at t w.before.before.before) (left_at t w) (right_at t c) c.arrange-count.result c.arrange-count.ensures.counted

pub overflow_add-result : goal.overflow_add-result
overflow_add-result t c = (counts_fit _ _ _ _ (counted_at t (goal.at.overflow_add-result t c).After-build_part-right) c.requires.1).0

pub overflow_add-result-2 : goal.overflow_add-result-2
overflow_add-result-2 t c = (counts_fit _ _ _ _ (counted_at t (goal.at.overflow_add-result-2 t c).After-build_part-right) c.requires.1).1

pub returns-clause-laid : goal.returns-clause-laid
returns-clause-laid t c =
    let at = goal.at.returns-clause-laid t c in
    part-laid (part_at t at.After-place) (left_at t at.After-build_part-left) (right_at t at.After-build_part-right)

pub returns-clause-cleared : goal.returns-clause-cleared
returns-clause-cleared t c =
    let at = goal.at.returns-clause-cleared t c in
    part-cleared (part_at t at.After-place) (left_at t at.After-build_part-left) (right_at t at.After-build_part-right)

pub returns-clause-counted : goal.returns-clause-counted
returns-clause-counted t c = counted_at t (goal.at.returns-clause-counted t c).After-build_part-right
