-- `lots_gather::enter_buckets` meets its contract. The loop's invariant: the live items of the buckets below k stand at the
-- front as entries.
use native.Mathlib.Omega.{arith}
use mathlib.Core.Path.{◌≡◌, sym, ◌∙◌, ap}
use mathlib.Core.List.{List, ◌++◌, map, map-append}
use Prim.Native.Nat.{ℕ, ◌+◌, ◌-◌, ◌≤◌}
use lib.ListN.{length, length-append, length-map}
use lib.Seq.{sets}
use Rattle.search_rules.specs.Range.{Entry}
use Rattle.table_rules.specs.Geometry.{first_slot}
use Rattle.table_rules.specs.Table.{order_of}
use Rattle.table_rules.proofs.Passing.{built_inside}
use Rattle.tree_rules.proofs.Stores.{sets_more}
use Rattle.lots_gather.specs.Places.{live_places, places_below, place_entry}
use Rattle.lots_gather.proofs.Places.{below_none, below_next, below_within, below_all}
use Rattle.lots_gather.proofs.enter_buckets.Goals as goal
use Rattle.lots_gather.proofs.enter_buckets.Goals.{After-built}

pub loop-k-init : goal.loop-k-init
loop-k-init c =
    let t = c.args.table.rows.now in
    let none = below_none t in
    record { number = sym (ap length none); are = sym (ap (λ (l : List ℕ). sets c.args.entries.now 0 (map (place_entry t) l)) none) }

-- bucket k begins and ends inside the table, and its live items are those that come next
module _ (c : After-built) where
  starts : c.first_slot-first.result ≡ first_slot (order_of c.args.table.rows.now) c.loop-k.k
  starts = c.first_slot-first.ensures ∙ ap (λ (t : ℕ). first_slot t c.loop-k.k) c.args.table.ordered

  few : c.loop-k.k ≤ order_of c.args.table.rows.now
  few = omega (arith, c.args.table.ordered, c.buckets-k-end.ensures)

  inside : c.first_slot-first.result + c.built.result ≤ length c.args.table.rows.now
  inside = omega (arith, starts, c.built.ensures, built_inside c.args.table.passed c.loop-k.k few)

  more : places_below c.args.table.rows.now (c.loop-k.k + 1)
      ≡ places_below c.args.table.rows.now c.loop-k.k
      ++ live_places c.args.table.rows.now c.first_slot-first.result (c.first_slot-first.result + c.built.result - c.first_slot-first.result)
  more = below_next c.args.table.rows.now c.loop-k.k _ _ starts (ap (λ (n : ℕ). c.first_slot-first.result + n) c.built.ensures)

pub overflow_add-end : goal.overflow_add-end
overflow_add-end c = omega (arith, inside (goal.at.overflow_add-end c).After-built)

pub enter_live-found-requires : goal.enter_live-found-requires
enter_live-found-requires c =
    let at = (goal.at.enter_live-found-requires c).After-built in
    let l = c.loop-k in
    let t = c.args.table.rows.now in (
      omega arith,
      inside at,
      omega (
        arith,
        l.invariant.number,
        l.auto.entries,
        ap length (more at),
        length-append (places_below t l.k) (live_places t c.first_slot-first.result (c.first_slot-first.result + c.built.result - c.first_slot-first.result)),
        below_within t (l.k + 1) (omega (arith, few at)),
        c.requires,
      ),
    )

pub loop-k-preserved : goal.loop-k-preserved
loop-k-preserved c =
    let at = (goal.at.loop-k-preserved c).After-built in
    let l = c.loop-k in
    let a = c.args in
    let t = a.table.rows.now in
    let old = places_below t l.k in
    let new = live_places t c.first_slot-first.result (c.first_slot-first.result + c.built.result - c.first_slot-first.result) in
    let call = c.enter_live-found in
    record {
      number = call.ensures.0 ∙ ap (λ (n : ℕ). n + length new) l.invariant.number ∙ sym (length-append old new) ∙ ap length (sym (more at));
      are =
          call.ensures.1
          ∙ ap (λ (es : List Entry). sets es l.found (map (place_entry t) new)) l.invariant.are
          ∙ sets_more a.entries.now 0 l.found (map (place_entry t) old) (map (place_entry t) new) (omega (arith, l.invariant.number, length-map old (place_entry t)))
          ∙ ap (sets a.entries.now 0) (sym (ap (map (place_entry t)) (more at) ∙ map-append (place_entry t) old new));
    }

pub returns : goal.returns
returns c =
    let l = c.loop-k in
    let t = c.args.table.rows.now in
    let all = below_all t l.k (omega (arith, c.args.table.ordered, c.buckets-k-end.ensures)) in
    (l.invariant.number ∙ ap length all, l.invariant.are ∙ ap (λ (ps : List ℕ). sets c.args.entries.now 0 (map (place_entry t) ps)) all)
