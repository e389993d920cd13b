-- `lots_draft::Drafting::joins` meets its contract, test by test.
use native.Mathlib.Omega.{arith}
use mathlib.Core.Path.{◌≡◌, sym, ap, ◌∙◌}
use mathlib.Core.Bool.{Bool, false, ◌&&◌}
use Prim.Native.Nat.{ℕ, ◌<◌}
use borrow.Author.Tests.{eq-eqb, ne_eqb}
use lib.Dec.{leb}
use lib.ListN.{length, get_or}
use Rattle.metric_rules.specs.Row.{Row, profile_of}
use Rattle.metric_rules.specs.declared.Space.{Space}
use Rattle.metric_rules.specs.Distance.{distance, space_of}
use Rattle.search_rules.specs.Range.{Entry}
use Rattle.table_rules.specs.Table.{Table, row_at}
use Rattle.lots_rules.specs.Lots.{near}
use Rattle.lots_rules.specs.Drafting.{between_rows}
use Rattle.lots_draft.specs.Leading.{place_of, lot_of, undrafted, joins}
use Rattle.lots_draft.proofs.Drafting.joins.Goals as goal
use Rattle.lots_draft.proofs.Drafting.joins.Goals.{Else-e-ne0}

-- an entry with a lot joins none, and one without goes by its distance
module _ (t : Table) (space : Space) (radius : ℕ) (leader : Row) (e : Entry) where
  lot_kept : (lot_of e ≡ 0 → ⊥) → false ≡ joins t space radius leader e
  unfolding joins undrafted
  lot_kept h = sym (ap (λ (b : Bool). b && near (between_rows space) radius leader (row_at t (place_of e))) (ne_eqb (lot_of e) 0 h))

  by_distance : (d : ℕ) → lot_of e ≡ 0 → d ≡ distance space (profile_of leader) (profile_of (row_at t (place_of e))) → leb d radius ≡ joins t space radius leader e
  unfolding joins undrafted near between_rows
  by_distance d h q =
      ap (λ (n : ℕ). leb n radius) q
      ∙ sym (ap (λ (b : Bool). b && near (between_rows space) radius leader (row_at t (place_of e))) (eq-eqb (lot_of e) 0 h))

pub returns-then-e-ne0 : goal.returns-then-e-ne0
unfolding lot_of
returns-then-e-ne0 c =
    let a = c.args in
    lot_kept a.self.table.now (space_of a.self.header.now) a.self.radius a.leader a.e c.if-e-ne0.true

inside : (c : Else-e-ne0) → get_or c.args.e 0 0 < length c.args.self.table.now
unfolding place_of
inside c = c.requires

pub offset_bounds-self-at : goal.offset_bounds-self-at
offset_bounds-self-at c = omega (arith, inside c)

pub bounds-self-at : goal.bounds-self-at
bounds-self-at c = inside c

pub returns : goal.returns
unfolding lot_of place_of row_at
returns c =
    let s = c in
    let a = s.args in
    by_distance a.self.table.now (space_of a.self.header.now) a.self.radius a.leader a.e c.distance_between.result c.if-e-ne0.false c.distance_between.ensures
