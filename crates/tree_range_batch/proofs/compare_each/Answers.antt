-- `tree_range_batch::compare_each`: whenever the loop's test is reached, the queries before the next are decided, and their hits are put. Those that are
-- skipped are not in the set. The measure is the rest of the set.
use native.Mathlib.Omega.{arith}
use Prim.Native.Nat.{ℕ, ◌+◌, ◌/◌, ◌^◌, ◌<◌}
use native.Mathlib.Nat.{lt_of_not-le}
use native.Mathlib.Decide.{dec_le}
use lib.Pow.{pow_mono, shr_le}
use mathlib.Core.Path.{◌≡◌}
use Rattle.tree_range_batch.specs.Together.{goes_left_at, goes_right_at}
use Rattle.tree_range_batch.proofs.Sets.{put_fits, remaining_all, remaining_none, next_few, next-on, next-off}
use Rattle.tree_range_batch.proofs.Sets.{remaining-next}
use Rattle.tree_range_batch.proofs.Comparing.{compared_none, compared_skips, compared-next, compared-room, compared-all}
use Rattle.tree_range_batch.proofs.compare_each.Goals as goal

pub loop-rest-init : goal.loop-rest-init
loop-rest-init c = (remaining_all c.args.on c.requires.0, compared_none c.args.batch.now c.args.on c.args.row c.args.hits.now)

pub compare-ways-requires : goal.compare-ways-requires
compare-ways-requires c =
    let few = next_few c.loop-rest.invariant.0 c.lowest_of-skipped.ensures in
    compared-room _ _ _ _ c.loop-rest.invariant.1 c.requires.1 _ few (next-on c.loop-rest.invariant.0 c.lowest_of-skipped.ensures)

pub overflow_add-left : goal.overflow_add-left
overflow_add-left c =
    let skipped = (compared_skips _ _ _ _ c.lowest_of-skipped.result c.loop-rest.invariant.1 (next-off c.loop-rest.invariant.0 c.lowest_of-skipped.ensures)) in
    omega (arith, put_fits (c.loop-rest.next + c.lowest_of-skipped.result) c.loop-rest.left c.bit_of.result (goes_left_at c.args.batch.now c.args.row (c.loop-rest.next + c.lowest_of-skipped.result)) c.compare-ways.result.left (next_few c.loop-rest.invariant.0 c.lowest_of-skipped.ensures) skipped.lefts.below c.bit_of.ensures c.compare-ways.ensures.ways.0)

pub overflow_add-right : goal.overflow_add-right
overflow_add-right c =
    let skipped = (compared_skips _ _ _ _ c.lowest_of-skipped.result c.loop-rest.invariant.1 (next-off c.loop-rest.invariant.0 c.lowest_of-skipped.ensures)) in
    omega (arith, put_fits (c.loop-rest.next + c.lowest_of-skipped.result) c.loop-rest.right c.bit_of.result (goes_right_at c.args.batch.now c.args.row (c.loop-rest.next + c.lowest_of-skipped.result)) c.compare-ways.result.right (next_few c.loop-rest.invariant.0 c.lowest_of-skipped.ensures) skipped.rights.below c.bit_of.ensures c.compare-ways.ensures.ways.1)

-- what is behind the lowest of a set is smaller than the set
less_behind : (rest n behind : ℕ) → (rest ≡ 0 → ⊥) → behind ≡ rest / 2 ^ n / 2 → behind < rest
less_behind rest n behind some e =
    let less = shr_le rest n in
    elim (dec_le 1 rest) [ yes h ↦ omega (arith, h, less, e) | no h ↦ absurd (some (omega (arith, lt_of_not-le h))) ]

pub loop-rest-preserved : goal.loop-rest-preserved
loop-rest-preserved c =
    let call = c.compare-ways in (
      remaining-next c.loop-rest.invariant.0 c.lowest_of-skipped.ensures c.behind-rest.result c.behind-rest.ensures,
      compared-next _ _ _ _ (compared_skips _ _ _ _ c.lowest_of-skipped.result c.loop-rest.invariant.1 (next-off c.loop-rest.invariant.0 c.lowest_of-skipped.ensures)) (next-on c.loop-rest.invariant.0 c.lowest_of-skipped.ensures) c.bit_of.result c.bit_of.ensures call.result.left call.result.right call.ensures.ways.0 call.ensures.ways.1 call.ensures.hits,
    )

pub returns : goal.returns
returns c =
    let l = c.loop-rest in
    let done = compared-all _ _ _ _ l.invariant.1 (remaining_none l.invariant.0 (omega (arith, c.loop-rest-test.false))) in
    let most = pow_mono {i = l.next} {j = 16} l.invariant.0.few in
    record { ways = (done.0, done.1); sizes = (omega (arith, most, l.invariant.1.lefts.below), omega (arith, most, l.invariant.1.rights.below)); hits = done.2 }

pub bit_of-requires : goal.bit_of-requires
bit_of-requires c = (next_few c.loop-rest.invariant.0 c.lowest_of-skipped.ensures)
