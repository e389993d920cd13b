-- `lots_draft::Drafting::follow` meets its contract: the loop maps the entries in place and counts those that join among the first i.
use native.Mathlib.Omega.{arith}
use mathlib.Core.Path.{◌≡◌, sym, ap, subst, ◌∙◌}
use mathlib.Core.Bool.{Bool, true, false}
use mathlib.Core.List.{List, [], ◌∷◌, map}
use Prim.Native.Nat.{ℕ, ◌+◌, ◌≤◌, ◌<◌}
use lib.ListN.{length, take, get_or, set, length-append, length-take}
use lib.Seq.{take_all, set-get_or}
use Rattle.lists.specs.Lists.{select}
use Rattle.lists.proofs.Lists.{all_at}
use Rattle.metric_rules.specs.Row.{Row}
use Rattle.metric_rules.specs.declared.Space.{Space}
use Rattle.metric_rules.specs.Distance.{space_of}
use Rattle.search_rules.specs.Range.{Entry, entry}
use Rattle.search_rules.proofs.Selecting.{select_none, select_few}
use Rattle.rows.proofs.Selected.{selected_next, passed_over}
use Rattle.table_rules.specs.Table.{Table}
use Rattle.lots_draft.specs.Leading.{place_of, Placed, joins, followed}
use Rattle.lots_draft.proofs.Writing.{mapped_none, mapped_at, mapped_next, mapped-kept, mapped_all}
use Rattle.lots_draft.proofs.Drafting.follow.Invariants.{State}
use Rattle.lots_draft.proofs.Drafting.follow.Goals as goal
use Rattle.lots_draft.proofs.Drafting.follow.Goals.{In-loop-e, then-joins, else-joins}

module _ (t : Table) (space : Space) (radius : ℕ) (leader : Row) (lot : ℕ) (old : List Entry) where
  abbrev test : Entry → Bool
  test = joins t space radius leader

  abbrev after : Entry → Entry
  after = followed t space radius leader lot

  follows : (e : Entry) → test e ≡ true → after e ≡ get_or e 0 0 ∷ lot ∷ []
  unfolding followed entry place_of
  follows e h = ap (λ (b : Bool). elim b [ true ↦ entry (place_of e) lot | false ↦ e ]) h

  stays : (e : Entry) → test e ≡ false → after e ≡ e
  unfolding followed
  stays e h = ap (λ (b : Bool). elim b [ true ↦ entry (place_of e) lot | false ↦ e ]) h

  pub none_yet : State t space radius leader lot old old 0 0
  none_yet = record { mapped = mapped_none after old; counted = sym (ap length (select_none test [] tt)) }

  pub all_done : (es : List Entry) (size i : ℕ) → length old ≤ i → State t space radius leader lot old es size i → (size ≡ length (select test old)) × (es ≡ map after old)
  all_done es size i h s = (s.counted ∙ ap (λ (l : List Entry). length (select test l)) (take_all i old h), mapped_all after old i es h s.mapped)

  -- two variables that took on these values are in the state too
  pub as_state : (es es' : List Entry) (size size' i : ℕ) → es ≡ es' → size ≡ size' → State t space radius leader lot old es' size' i → State t space radius leader lot old es size i
  as_state es es' size size' i e f s = coe 0 1 (j. State t space radius leader lot old (sym e j) (sym f j) i) s

  module _ (es : List Entry) (size i : ℕ) (s : State t space radius leader lot old es size i) (h : i < length old) where
    here : get_or es i [] ≡ get_or old i []
    here = mapped_at after old i es s.mapped h

    pub few : size ≤ i
    few = omega (arith, s.counted, select_few test (take i old), length-take i old)

    pub joined : test (get_or es i []) ≡ true → State t space radius leader lot old (set es i (get_or (get_or es i []) 0 0 ∷ lot ∷ [])) (size + 1) (i + 1)
    joined e =
        let old-joins : test (get_or old i []) ≡ true = sym (ap test here) ∙ e in
        record {
          mapped = mapped_next after old i es s.mapped h (get_or (get_or es i []) 0 0 ∷ lot ∷ []) (ap (λ (x : Entry). get_or x 0 0 ∷ lot ∷ []) here ∙ sym (follows (get_or old i []) old-joins));
          counted = omega (arith, s.counted, ap length (selected_next test old i [] h old-joins), length-append (select test (take i old)) (get_or old i [] ∷ []));
        }

    pub left : test (get_or es i []) ≡ false → State t space radius leader lot old es size (i + 1)
    left e =
        let old-stays : test (get_or old i []) ≡ false = sym (ap test here) ∙ e in
        record {
          mapped = mapped-kept after old i es s.mapped h (stays (get_or old i []) old-stays);
          counted = s.counted ∙ ap length (sym (passed_over test old i [] h old-stays));
        }

inside : (c : In-loop-e) → c.loop-e.e-index < length c.args.entries.now
inside c = omega (arith, c.loop-e.invariant.mapped.size)

pub joins-requires : goal.joins-requires
joins-requires c =
    let l = c.loop-e in
    let s = c in
    let a = s.args in
    subst (Placed a.self.table.now) (sym (here a.self.table.now (space_of a.self.header.now) a.self.radius a.leader a.lot a.entries.now l.entries l.size l.e-index l.invariant (inside (goal.at.joins-requires c).In-loop-e)))
    (all_at (Placed a.self.table.now) a.entries.now l.e-index (inside (goal.at.joins-requires c).In-loop-e) s.requires)

pub overflow_add-size : goal.overflow_add-size
overflow_add-size c =
    let l = c.loop-e in
    omega (arith, few _ _ _ _ _ _ l.entries l.size l.e-index l.invariant (inside (goal.at.overflow_add-size c).In-loop-e), inside (goal.at.overflow_add-size c).In-loop-e)

pub loop-e-preserved : goal.loop-e-preserved
loop-e-preserved c =
    let l = c.loop-e in
    let a = c.args in
    let t = a.self.table.now in
    let space = space_of a.self.header.now in
    let old = a.entries.now in
    let h = inside (goal.at.loop-e-preserved c).In-loop-e in
    elim c.if-joins.branch [
      | then-joins w ↦
          as_state t space a.self.radius a.leader a.lot old c.if-joins.entries _ c.if-joins.size _ (l.e-index + 1) w.entries-is w.size-is
          (joined t space a.self.radius a.leader a.lot old l.entries l.size l.e-index l.invariant h (sym c.joins.ensures ∙ w.if-joins.true))
      | else-joins w ↦
          as_state t space a.self.radius a.leader a.lot old c.if-joins.entries _ c.if-joins.size _ (l.e-index + 1) (w.entries-is ∙ set-get_or l.entries l.e-index []) w.size-is
          (left t space a.self.radius a.leader a.lot old l.entries l.size l.e-index l.invariant h (sym c.joins.ensures ∙ w.if-joins.false))
    ]

pub returns : goal.returns
returns c =
    let l = c.loop-e in
    all_done _ _ _ _ _ _ l.entries l.size l.e-index (omega (arith, l.invariant.mapped.size)) l.invariant

pub loop-e-init : goal.loop-e-init
loop-e-init c = none_yet _ _ _ _ _ _
