-- `table_after_deletion::after_deletion` meets its contract: each return is a step of the definition, by what the tests on the way to it said.
use native.Mathlib.Omega.{arith}
use Rattle.std.proofs.Common.{rules}
use Prim.Native.Nat.{ℕ, ◌*◌, ◌≤◌, ◌<◌}
use mathlib.Core.Path.{◌≡◌, refl, sym, ◌∙◌, ap}
use Rattle.table_rules.specs.Geometry.{room}
use Rattle.table_rules.specs.Table.{Table, live_of, emptied}
use Rattle.table_rules.specs.Rebuild.{Rebuilt}
use Rattle.table_rules.specs.Remove.{after_deletion}
use Rattle.table_rules.proofs.Deletion.{Rebuilds, Deletion, deletion_steps}
use Rattle.table_rules.proofs.Deletion.Rebuilds.{unites_in_k, unites_lower, unites_between, moves}
use Rattle.table_rules.proofs.Deletion.Deletion.{empties, ends, rebuilds}
use Rattle.table_rules.proofs.Removing.{Sparse, deep}
use Rattle.table_after_deletion.proofs.Fitting.{is_sparse, second_few, fits_in_k, fits_lower, alone_fits}
use Rattle.table_after_deletion.proofs.after_deletion.Goals as goal
use Rattle.table_after_deletion.proofs.after_deletion.Goals.{Else-live-eq0, Else-room-live}

-- what a step leaves and counts is what the definition does
as_defined :
    {t u : Table} {k n : ℕ} {r : Rebuilt} → Deletion t k r → u ≡ r.table → n ≡ r.distances
    → (u ≡ (after_deletion t k).table) × (n ≡ (after_deletion t k).distances)
as_defined {t} {k = k} step left counted =
    let e = deletion_steps t k step in
    (left ∙ ap (λ (r : Rebuilt). r.table) e, counted ∙ ap (λ (r : Rebuilt). r.distances) e)

-- line 10: a quarter of the room is live
some_left : (c : Else-live-eq0) → 0 < live_of c.args.table.now c.args.k
some_left c = omega (arith, c.live-live.ensures, c.if-live-eq0.false)

quarter : (c : Else-room-live) → 4 * live_of c.args.table.now c.args.k ≤ room c.args.k
quarter c = omega (arith, c.room.ensures, c.live-live.ensures, c.if-room-live.false)

sparse : (c : Else-room-live) → Sparse c.args.table.now c.args.k
sparse c = is_sparse c.requires.1 (omega (arith, c.live-live.ensures, c.if-live-eq0.false)) (quarter c)

rebuilt_here : (c : Else-room-live) {r : Rebuilt} → Rebuilds c.args.table.now c.args.k r → Deletion c.args.table.now c.args.k r
rebuilt_here c step = rebuilds (omega (arith, c.live-live.ensures, c.if-live-eq0.false)) (quarter c) step

pub invariant_of-buckets : goal.invariant_of-buckets
invariant_of-buckets c = record { of_order = c.requires.0.lent }

pub returns-then-live-eq0 : goal.returns-then-live-eq0
unfolding emptied
returns-then-live-eq0 c =
    let test = c in
    let d = as_defined (empties (sym test.live-live.ensures ∙ test.if-live-eq0.true)) c.empty.ensures.rows refl in
    record { table = let left = d.0 in search (rules, left); work = c.clear.ensures; counted = d.1 }

pub returns-then-room-live : goal.returns-then-room-live
returns-then-room-live c =
    let test = c in
    let d = as_defined (ends (some_left (goal.at.returns-then-room-live c).Else-live-eq0) (omega (arith, c.room.ensures, c.live-live.ensures, c.if-room-live.true))) refl refl in
    record { table = let left = d.0 in search (rules, left); work = c.clear-then-room-live.ensures; counted = d.1 }

pub overflow_sub-k : goal.overflow_sub-k
overflow_sub-k c = omega (arith, deep (sparse (goal.at.overflow_sub-k c).Else-room-live))

pub overflow_sub-k-then-in_use : goal.overflow_sub-k-then-in_use
overflow_sub-k-then-in_use c = deep (sparse (goal.at.overflow_sub-k-then-in_use c).Else-room-live)

pub overflow_sub-k-then-in_use-2 : goal.overflow_sub-k-then-in_use-2
overflow_sub-k-then-in_use-2 c = omega (arith, deep (sparse (goal.at.overflow_sub-k-then-in_use-2 c).Else-room-live))

pub unite-requires : goal.unite-requires
unite-requires c =
    let at = (goal.at.unite-requires c).Else-room-live in
    let s = c in
    (c.requires.0, omega (arith, c.requires.1.in_order, c.requires.0.lent.known), omega (arith, c.requires.1.in_order, c.requires.0.lent.known), omega (arith, c.requires.1.in_order, c.requires.0.lent.known), fits_in_k (sparse at) _ (omega (arith, deep (sparse at))), s.requires.2)

pub returns-then-room-live-2 : goal.returns-then-room-live-2
returns-then-room-live-2 c =
    let test = c in
    let u = c.unite.ensures in
    let d = as_defined (rebuilt_here (goal.at.returns-then-room-live-2 c).Else-room-live (unites_in_k (sym c.in_use.ensures ∙ c.if-in_use.true) (omega (arith, c.room-then-in_use.ensures, c.live.ensures, c.if-room-live-2.true)))) u.rows u.counted in
    record { table = let left = d.0 in search (rules, left); work = u.work; counted = d.1 }

pub overflow_sub-k-then-in_use-3 : goal.overflow_sub-k-then-in_use-3
overflow_sub-k-then-in_use-3 c = omega (arith, deep (sparse (goal.at.overflow_sub-k-then-in_use-3 c).Else-room-live))

pub overflow_sub-k-then-in_use-4 : goal.overflow_sub-k-then-in_use-4
overflow_sub-k-then-in_use-4 c = omega (arith, deep (sparse (goal.at.overflow_sub-k-then-in_use-4 c).Else-room-live))

pub unite-requires-then-in_use : goal.unite-requires-then-in_use
unite-requires-then-in_use c =
    let test = c in
    let at = (goal.at.unite-requires-then-in_use c).Else-room-live in
    let s = c in
    (c.requires.0, omega (arith, c.requires.1.in_order, c.requires.0.lent.known), omega (arith, c.requires.1.in_order, c.requires.0.lent.known), omega (arith, c.requires.1.in_order, c.requires.0.lent.known), fits_lower (sparse at) _ (omega (arith, deep (sparse at))) (omega (arith, c.room-then-in_use.ensures, c.live.ensures, c.if-room-live-2.false)), s.requires.2)

pub returns-then-in_use : goal.returns-then-in_use
returns-then-in_use c =
    let test = c in
    let u = c.unite-then-in_use.ensures in
    let d = as_defined (rebuilt_here (goal.at.returns-then-in_use c).Else-room-live (unites_lower (sym c.in_use.ensures ∙ c.if-in_use.true) (omega (arith, c.room-then-in_use.ensures, c.live.ensures, c.if-room-live-2.false)))) u.rows u.counted in
    record { table = let left = d.0 in search (rules, left); work = u.work; counted = d.1 }

pub overflow_sub-k-2 : goal.overflow_sub-k-2
overflow_sub-k-2 c = omega (arith, deep (sparse (goal.at.overflow_sub-k-2 c).Else-room-live))

pub overflow_sub-k-then-in_use-2-2 : goal.overflow_sub-k-then-in_use-2-2
overflow_sub-k-then-in_use-2-2 c = omega (arith, deep (sparse (goal.at.overflow_sub-k-then-in_use-2-2 c).Else-room-live))

pub overflow_sub-k-then-in_use-2-3 : goal.overflow_sub-k-then-in_use-2-3
overflow_sub-k-then-in_use-2-3 c = omega (arith, deep (sparse (goal.at.overflow_sub-k-then-in_use-2-3 c).Else-room-live))

pub unite-requires-then-in_use-2 : goal.unite-requires-then-in_use-2
unite-requires-then-in_use-2 c =
    let at = (goal.at.unite-requires-then-in_use-2 c).Else-room-live in
    let s = c in
    (c.requires.0, omega (arith, c.requires.1.in_order, c.requires.0.lent.known), omega (arith, c.requires.1.in_order, c.requires.0.lent.known), omega (arith, c.requires.1.in_order, c.requires.0.lent.known), fits_lower (sparse at) _ (omega (arith, deep (sparse at))) (second_few (sparse at)), s.requires.2)

pub returns-then-in_use-2 : goal.returns-then-in_use-2
returns-then-in_use-2 c =
    let test = c in
    let u = c.unite-then-in_use-2.ensures in
    let d = as_defined (rebuilt_here (goal.at.returns-then-in_use-2 c).Else-room-live (unites_between (sym c.in_use.ensures ∙ c.if-in_use.false) (sym c.in_use-2.ensures ∙ c.if-in_use-2.true))) u.rows u.counted in
    record { table = let left = d.0 in search (rules, left); work = u.work; counted = d.1 }

pub overflow_sub-k-3 : goal.overflow_sub-k-3
overflow_sub-k-3 c = omega (arith, deep (sparse (goal.at.overflow_sub-k-3 c).Else-room-live))

pub move_down-requires : goal.move_down-requires
move_down-requires c =
    let at = (goal.at.move_down-requires c).Else-room-live in
    let s = c in
    (c.requires.0, omega (arith, c.requires.1.in_order, c.requires.0.lent.known), omega (arith, c.requires.1.in_order, c.requires.0.lent.known), alone_fits (sparse at) _ (omega arith), s.requires.2)

pub returns : goal.returns
returns c =
    let test = c in
    let u = c.move_down.ensures in
    let d = as_defined (rebuilt_here (goal.at.returns c).Else-room-live (moves (sym c.in_use.ensures ∙ c.if-in_use.false) (sym c.in_use-2.ensures ∙ c.if-in_use-2.false))) u.rows u.counted in
    record { table = let left = d.0 in search (rules, left); work = u.work; counted = d.1 }
