-- Each way through the code is one of the cases of keeping one more: after the last of k, so dropped; or put among the first `end`, which are all or all
-- but the last of k.
use Prim.Native.Nat.{ℕ, ◌+◌, ◌-◌, ◌≤◌, ◌<◌, ◌^◌, min}
use mathlib.Core.Path.{◌≡◌, sym, ap, subst, ◌∙◌}
use mathlib.Core.Bool.{Bool, true}
use mathlib.Core.List.{List, []}
use native.Mathlib.Omega.{arith}
use lib.ListN.{length, get_or}
use Rattle.tree_rules.specs.Sorting.{key_le}
use Rattle.search_rules.specs.Range.{Entry, entry_key}
use Rattle.tree_nearest.specs.Nearby.{kept_under, kept_of, Held}
use Rattle.tree_nearest.proofs.Bounds.{under_worst, held_inside, held_bound}
use Rattle.tree_nearest.proofs.TakingIn.{Puts, puts-more, puts-worst, put_front, put-below, put_full, dropped, dropped-bound, dropped-front}
use Rattle.tree_nearest.proofs.keep_entry.Goals as goal
use Rattle.tree_nearest.proofs.keep_entry.Goals.{Then-bound-lt-UNBOUNDED, Joined-bound-lt-UNBOUNDED, then-bound-lt-UNBOUNDED+else-not-entry_le, else-bound-lt-UNBOUNDED}

module _ {k : ℕ} {area : List Entry} {bound : ℕ} (h : Held k area bound) where
  -- with k kept there is a last one, and it stands in the area
  last_some : bound < 2 ^ 32 → (n : ℕ) → n ≡ kept_under k bound → 0 < n
  last_some below n e = omega (arith, e, under_worst k bound below, h.some)

  last_inside : bound < 2 ^ 32 → (n : ℕ) → n ≡ kept_under k bound → n - 1 < length area
  last_inside below n e = omega (arith, last_some below n e, e, held_inside h)

  -- where the entry is put: in the place of the last of k, or behind those that are fewer
  puts_in_full : (new : Entry) (n end : ℕ) → n ≡ kept_under k bound → end ≡ n - 1 → bound < 2 ^ 32
      → key_le (entry_key new) (entry_key (get_or area (kept_under k bound - 1) [])) ≡ true → Puts h new end
  puts_in_full new n end e f below le = subst (Puts h new) (sym (f ∙ ap (λ (i : ℕ). i - 1) e)) (puts-worst h new below le)

  puts_behind : (new : Entry) (n end : ℕ) → min k (length (kept_of k area bound) + 1) ≤ length area → n ≡ kept_under k bound → end ≡ n → 2 ^ 32 ≤ bound → Puts h new end
  puts_behind new n end room e f free = subst (Puts h new) (sym (f ∙ e)) (puts-more h new room free)

-- its order beside the last of k, as the definition has it
by_last : (k : ℕ) (area : List Entry) (bound n : ℕ) (new : Entry) (b : Bool) → n ≡ kept_under k bound → b ≡ key_le (entry_key new) (entry_key (get_or area (n - 1) []))
    → key_le (entry_key new) (entry_key (get_or area (kept_under k bound - 1) [])) ≡ b
by_last k area bound n new b e f = ap (λ (i : ℕ). key_le (entry_key new) (entry_key (get_or area (i - 1) []))) (sym e) ∙ sym f

pub returns-then-not-entry_le : goal.returns-then-not-entry_le
returns-then-not-entry_le c =
    let out =
    dropped c.requires.0 c.args.new c.if-bound-lt-UNBOUNDED.true
    (by_last c.args.k c.args.area.now c.args.bound c.kept_under-end.result c.args.new _ c.kept_under-end.ensures c.entry_le.ensures ∙ c.if-not-entry_le.true)
    in
    record { bound = dropped-bound c.requires.0 c.args.new out; area = dropped-front c.requires.0 c.args.new out }

-- where the entry is put, once the two ways have joined
puts : (c : Joined-bound-lt-UNBOUNDED) → Puts c.requires.0 c.args.new c.if-bound-lt-UNBOUNDED.end
puts c =
    elim c.if-bound-lt-UNBOUNDED.branch [
      | then-bound-lt-UNBOUNDED+else-not-entry_le w ↦
          puts_in_full c.requires.0 c.args.new c.kept_under-end.result _ c.kept_under-end.ensures w.end-is w.if-bound-lt-UNBOUNDED.true
          (by_last c.args.k c.args.area.now c.args.bound c.kept_under-end.result c.args.new _ c.kept_under-end.ensures w.entry_le.ensures ∙ w.if-not-entry_le.false)
      | else-bound-lt-UNBOUNDED w ↦ puts_behind c.requires.0 c.args.new c.kept_under-end.result _ c.requires.1 c.kept_under-end.ensures w.end-is w.if-bound-lt-UNBOUNDED.false
    ]

pub insert_entry-requires : goal.insert_entry-requires
insert_entry-requires c =
    let p = puts c.before in
    (p.inside, p.in-front)

pub overflow_add-result : goal.overflow_add-result
overflow_add-result c = omega (arith, held_bound c.requires.0, c.ranges.k)

pub returns-then-end-k : goal.returns-then-end-k
returns-then-end-k c =
    let p = puts c.before.before.before.before.before in
    record { bound = put-below c.requires.0 c.args.new p _ c.insert_entry.ensures (omega (arith, c.if-end-k.true)); area = put_front c.requires.0 c.args.new p _ c.insert_entry.ensures }

pub returns : goal.returns
returns c =
    let p = puts c.before.before.before.before.before.before in
    record { bound = put_full c.requires.0 c.args.new p _ c.insert_entry.ensures (omega (arith, c.if-end-k.false)); area = put_front c.requires.0 c.args.new p _ c.insert_entry.ensures }

-- below the bound there is a last one of k
last_kept : (c : Then-bound-lt-UNBOUNDED) → 0 < c.kept_under-end.result
last_kept c = last_some c.requires.0 c.if-bound-lt-UNBOUNDED.true c.kept_under-end.result c.kept_under-end.ensures

last_there : (c : Then-bound-lt-UNBOUNDED) → c.kept_under-end.result - 1 < length c.args.area.now
last_there c = last_inside c.requires.0 c.if-bound-lt-UNBOUNDED.true c.kept_under-end.result c.kept_under-end.ensures

pub overflow_sub-end : goal.overflow_sub-end
overflow_sub-end c = omega (arith, last_kept (goal.at.overflow_sub-end c).Then-bound-lt-UNBOUNDED)

pub offset_bounds-area-end : goal.offset_bounds-area-end
offset_bounds-area-end c = omega (arith, last_there (goal.at.offset_bounds-area-end c).Then-bound-lt-UNBOUNDED, c.well_formed)

pub slice_copy_out-entry_le : goal.slice_copy_out-entry_le
slice_copy_out-entry_le c = last_there (goal.at.slice_copy_out-entry_le c).Then-bound-lt-UNBOUNDED

pub overflow_sub-end-then-bound-lt-UNBOUNDED : goal.overflow_sub-end-then-bound-lt-UNBOUNDED
overflow_sub-end-then-bound-lt-UNBOUNDED c = omega (arith, last_kept (goal.at.overflow_sub-end-then-bound-lt-UNBOUNDED c).Then-bound-lt-UNBOUNDED)

pub overflow_add-end : goal.overflow_add-end
overflow_add-end c =
    let p = puts c.before.before.before.before.before in
    omega (arith, p.inside, c.well_formed)

pub offset_bounds-area-end-2 : goal.offset_bounds-area-end-2
offset_bounds-area-end-2 c =
    let p = puts c.before.before.before.before.before.before in
    omega (arith, p.inside, c.well_formed)

pub bounds-area-end : goal.bounds-area-end
bounds-area-end c =
    let p = puts c.before.before.before.before.before.before in
    omega (arith, p.inside, c.insert_entry.auto.area)
