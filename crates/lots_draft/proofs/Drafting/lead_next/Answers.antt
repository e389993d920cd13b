-- `lots_draft::Drafting::lead_next` meets its contract: an entry with a lot is passed over; one without leads, and those behind it follow.
use borrow.Author.Rules.{rules}
use borrow.Author.Tests.{eq-eqb, ne_eqb}
use borrow.Rule.Slice.PartMut.{put_mid}
use native.Mathlib.Omega.{arith}
use native.Mathlib.Numerals.{add-one}
use Prim.Native.Nat.{ℕ, suc, ◌+◌, ◌-◌, ◌<◌, max}
use mathlib.Core.Path.{◌≡◌, sym, ap, ap₂, subst, ◌∙◌}
use mathlib.Core.Bool.{Bool, true, false}
use mathlib.Core.List.{List, [], ◌∷◌, ◌++◌, map}
use lib.ListN.{length, take, drop, get_or, set, length-set, length-append, length-take, length-drop}
use Rattle.lists.specs.Lists.{select, All}
use Rattle.lists.proofs.Lists.{all_at, all_drop}
use Rattle.metric_rules.specs.Row.{Row}
use Rattle.metric_rules.specs.declared.Space.{Space}
use Rattle.metric_rules.specs.Distance.{space_of}
use Rattle.search_rules.specs.Range.{Entry, entry}
use Rattle.search_rules.proofs.Selecting.{select_few}
use Rattle.table_rules.specs.Geometry.{most_order}
use Rattle.table_rules.specs.Table.{Table, row_at}
use Rattle.table_rules.proofs.Fill.{room_most}
use Rattle.tree_rules.proofs.Parts.{part_rest, put_rest}
use Rattle.lots_draft.specs.declared.Draft.{Draft}
use Rattle.lots_draft.specs.Leading.{place_of, lot_of, Placed, undrafted, joins, followed, entries_led, draft_led}
use Rattle.lots_draft.proofs.Drafting.lead_next.Goals as goal
use Rattle.lots_draft.proofs.Drafting.lead_next.Goals.{Else-first-ne0}

module _ (t : Table) (space : Space) (radius : ℕ) (d : Draft) where
  kept : (es : List Entry) → 0 < length es → (lot_of (get_or es 0 []) ≡ 0 → ⊥) → (d ≡ draft_led t space radius d es) × (es ≡ entries_led t space radius d es)
  unfolding draft_led entries_led undrafted
  kept [] some h = absurd (omega arith)
  kept (e ∷ es) some h = (
    sym (ap (λ (b : Bool). elim b as (λ _. Draft) [ true ↦ record { lots = suc d.lots; largest = max d.largest (suc (length (select (joins t space radius (row_at t (place_of e))) es))) } | false ↦ d ]) (ne_eqb (lot_of e) 0 h)),
    sym (ap (λ (b : Bool). elim b [ true ↦ entry (place_of e) (suc d.lots) ∷ map (followed t space radius (row_at t (place_of e)) (suc d.lots)) es | false ↦ e ∷ es ]) (ne_eqb (lot_of e) 0 h)),
  )

  -- the leader of entries, and those behind it
  abbrev leader_of : List Entry → Row
  leader_of es = row_at t (place_of (get_or es 0 []))

  led :
      (es : List Entry) → 0 < length es → lot_of (get_or es 0 []) ≡ 0 → (others largest : ℕ) (last : List Entry)
      → others ≡ length (select (joins t space radius (leader_of es)) (drop 1 es)) → largest ≡ max d.largest (1 + others)
      → last ≡ map (followed t space radius (leader_of es) (d.lots + 1)) (drop 1 es)
      → (record { lots = d.lots + 1; largest = largest } ≡ draft_led t space radius d es)
      × (set (take 1 es ++ last) 0 (get_or (get_or es 0 []) 0 0 ∷ (d.lots + 1) ∷ []) ≡ entries_led t space radius d es)
  unfolding draft_led entries_led undrafted place_of entry
  led [] some h others largest last p q r = absurd (omega arith)
  led (e ∷ es) some h others largest last p q r =
      let one : d.lots + 1 ≡ suc d.lots = add-one d.lots in
      let size : largest ≡ max d.largest (suc (length (select (joins t space radius (row_at t (place_of e))) es))) = omega (arith, p, q) in (
        ap₂ (λ (n m : ℕ). record { lots = n; largest = m }) one size
            ∙ sym (ap (λ (b : Bool). elim b as (λ _. Draft) [ true ↦ record { lots = suc d.lots; largest = max d.largest (suc (length (select (joins t space radius (row_at t (place_of e))) es))) } | false ↦ d ]) (eq-eqb (lot_of e) 0 h)),
        ap (λ (l : List Entry). (get_or e 0 0 ∷ (d.lots + 1) ∷ []) ∷ l) r
            ∙ ap (λ (n : ℕ). (get_or e 0 0 ∷ n ∷ []) ∷ map (followed t space radius (row_at t (place_of e)) n) es) one
            ∙ sym (ap (λ (b : Bool). elim b [ true ↦ entry (place_of e) (suc d.lots) ∷ map (followed t space radius (row_at t (place_of e)) (suc d.lots)) es | false ↦ e ∷ es ]) (eq-eqb (lot_of e) 0 h)),
      )

pub returns-then-first-ne0 : goal.returns-then-first-ne0
unfolding lot_of
returns-then-first-ne0 c =
    let a = c.args in
    kept a.self.table.now (space_of a.self.header.now) a.self.radius a.drafted a.entries.now c.requires.0 c.if-first-ne0.true

inside : (c : Else-first-ne0) → get_or (get_or c.args.entries.now 0 []) 0 0 < length c.args.self.table.now
unfolding place_of
inside c = let s = c in all_at (Placed s.args.self.table.now) s.args.entries.now 0 s.requires.0 s.requires.1

pub offset_bounds-self-at : goal.offset_bounds-self-at
offset_bounds-self-at c = omega (arith, inside (goal.at.offset_bounds-self-at c).Else-first-ne0)

pub bounds-self-at : goal.bounds-self-at
bounds-self-at c = inside (goal.at.bounds-self-at c).Else-first-ne0

pub follow-others-requires : goal.follow-others-requires
follow-others-requires c =
    let s = c in
    subst (All (Placed s.args.self.table.now)) (sym (part_rest 1 s.args.entries.now)) (all_drop (Placed s.args.self.table.now) 1 s.args.entries.now s.requires.1)

-- those that follow are among the entries
few : (test : Entry → Bool) (es : List Entry) (n : ℕ) → 0 < length es → n ≡ length (select test (take (length es - 1) (drop 1 es))) → n < length es
few test es n some e = omega (arith, e, select_few test (take (length es - 1) (drop 1 es)), length-take (length es - 1) (drop 1 es))

pub overflow_add-others : goal.overflow_add-others
overflow_add-others c =
    let s = c in
    omega (arith, few _ s.args.entries.now c.follow-others.result s.requires.0 c.follow-others.ensures.0)

back_length : (es last : List Entry) (x : Entry) → 0 < length es → length last ≡ length (take (length es - 1) (drop 1 es)) → length (set (put_mid 1 (length es - 1) es last) 0 x) ≡ length es
back_length es last x some e =
    simp length-set (ap length (put_rest 1 es last) ∙ omega (arith, length-append (take 1 es) last, length-take 1 es, e, ap length (part_rest 1 es), length-drop 1 es))

pub shape_of-entries : goal.shape_of-entries
shape_of-entries c =
    let s = c in
    let call = c.follow-others in
    back_length s.args.entries.now call.new.entries _ s.requires.0 call.auto.entries

pub returns : goal.returns
unfolding lot_of place_of row_at
returns c =
    let s = c in
    let a = s.args in
    let es = a.entries.now in
    let call = c.follow-others in
    let space = space_of a.self.header.now in
    let leader = leader_of a.self.table.now space a.self.radius a.drafted es in
    let x = get_or (get_or es 0 []) 0 0 ∷ (a.drafted.lots + 1) ∷ [] in
    let all = led a.self.table.now space a.self.radius a.drafted es s.requires.0 c.if-first-ne0.false call.result c.max.result call.new.entries
    (call.ensures.0 ∙ ap (λ (l : List Entry). length (select (joins a.self.table.now space a.self.radius leader) l)) (part_rest 1 es))
    c.max.ensures
    (call.ensures.1 ∙ ap (map (followed a.self.table.now space a.self.radius leader (a.drafted.lots + 1))) (part_rest 1 es)) in
    (all.0, ap (λ (l : List Entry). set l 0 x) (put_rest 1 es call.new.entries) ∙ all.1)

pub overflow_add-lots : goal.overflow_add-lots
overflow_add-lots c = search (rules, room_most most_order (omega arith))
