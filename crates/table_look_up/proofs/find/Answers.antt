-- `table_look_up::find` meets its contract. The loop's invariant: what is found from bucket k on is what is found of all.
use native.Mathlib.Omega.{arith}
use Prim.Native.Nat.{ℕ, ◌≤◌}
use mathlib.Core.Path.{◌≡◌, sym, ◌∙◌, ap}
use mathlib.Core.List.{[]}
use mathlib.Core.Option.{none, some}
use lib.ListN.{get_or}
use Rattle.std.specs.Prelude.{Option, Some, None}
use Rattle.table_rules.specs.Geometry.{buckets_of}
use Rattle.table_rules.specs.Refusals.{not_live, unless}
use Rattle.table_rules.specs.Table.{Table, order_of, slots_of}
use Rattle.table_rules.specs.LookUp.{Place, place_in, find, is_live_tag}
use Rattle.table_rules.proofs.Buckets.{buckets_all}
use Rattle.table_rules.proofs.Finding.{found}
use Rattle.table_look_up.specs.declared.Spot.{Spot}
use Rattle.table_look_up.specs.Spots.{number_of, place_of}
use Rattle.table_look_up.proofs.Seeking.{place, slot_hit, slot_missed, bucket_hit, bucket_missed, buckets_ended}
use Rattle.table_look_up.proofs.find.Goals as goal
use Rattle.table_look_up.proofs.find.Goals.{In-Some}

all_found : (t : Table) (tag n : ℕ) → n ≡ order_of t → place_in t tag (buckets_of n) ≡ find t tag
unfolding find
all_found t tag n e = ap (λ (o : ℕ). place_in t tag (buckets_of o)) e

pub loop-k-init : goal.loop-k-init
loop-k-init c = let s = c.args.table in ap (place_in s.rows.now c.args.tag) (buckets_all s.order.t)

-- a tag is live where it is found
told : (t : Table) (tag : ℕ) (o : Option Spot) → place_of t o ≡ find t tag → number_of o ≡ unless (is_live_tag t tag) not_live 0
unfolding is_live_tag
told t tag (Some spot) e = grind (arith, e)
told t tag None e = grind (arith, e)

module _ (c : In-Some) where
  abbrev here : Place
  here = place c.loop-k.k c.in-Some.slot (get_or (slots_of c.args.table.rows.now c.loop-k.k) c.in-Some.slot [])

  in_order : c.loop-k.k ≤ c.args.table.order.t
  in_order = omega (arith, c.buckets-k-end.ensures)

  found_here : some here ≡ find c.args.table.rows.now c.args.tag
  found_here =
      let s = c.args.table in
      let t = s.rows.now in
      let l = c.loop-k in
      sym (bucket_hit t c.args.tag s.order.t l.k in_order here (slot_hit t c.args.tag l.k c.slots.ensures c.in-Some.ensures))
      ∙ l.invariant
      ∙ all_found t c.args.tag s.order.t s.ordered

pub returns-in-Some : goal.returns-in-Some
returns-in-Some c =
    let t = c.args.table.rows.now in
    record {
      place = found_here c;
      number = told t c.args.tag (Some (record { bucket = c.loop-k.k; slot = c.in-Some.slot })) (found_here c);
      inside = (in_order c, (found t c.args.tag (here c) (sym (found_here c))).within);
    }

pub loop-k-preserved : goal.loop-k-preserved
loop-k-preserved c =
    let s = c.args.table in
    let t = s.rows.now in
    let l = c.loop-k in
    bucket_missed t c.args.tag s.order.t l.k (omega (arith, c.buckets-k-end.ensures)) (slot_missed t c.args.tag l.k c.slots.ensures (sym c.in_default.is ∙ c.slot_with.ensures))
    ∙ l.invariant

pub returns : goal.returns
returns c =
    let s = c.args.table in
    let t = s.rows.now in
    let tag = c.args.tag in
    let l = c.loop-k in
    let e : none ≡ find t tag =
    sym (buckets_ended t tag s.order.t l.k (omega (arith, c.buckets-k-end.ensures))) ∙ l.invariant ∙ all_found t tag s.order.t s.ordered in
    record { place = e; number = told t tag None e; inside = tt }
