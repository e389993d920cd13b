-- `lots_gather::enter_live` meets its contract. The loop's invariant: the live ones of the rows before `at` stand as entries behind the first n.
use native.Mathlib.Omega.{arith}
use mathlib.Core.Path.{◌≡◌, refl, sym, ◌∙◌, ap}
use mathlib.Core.Bool.{true, false}
use mathlib.Core.List.{List, [], ◌∷◌, ◌++◌, map, map-append}
use Prim.Native.Nat.{ℕ, ◌+◌, ◌-◌, ◌≤◌, ◌<◌}
use lib.ListN.{length, set, length-append, length-set, length-map}
use lib.Seq.{sets}
use Rattle.metric_rules.specs.Row.{is_live}
use Rattle.search_rules.specs.Range.{Entry, entry}
use Rattle.table_rules.specs.Table.{Table, row_at}
use Rattle.tree_rules.proofs.Stores.{sets_more}
use Rattle.lots_gather.specs.Places.{live_places, tag_at, place_entry}
use Rattle.lots_gather.proofs.Places.{places_none, places_more, places_over, places_within}
use Rattle.lots_gather.proofs.enter_live.Invariants.{State, entered}
use Rattle.lots_gather.proofs.enter_live.Goals as goal
use Rattle.lots_gather.proofs.enter_live.Goals.{Then-is_live, then-is_live, else-is_live}

module _ (t : Table) (first : ℕ) (entries₀ : List Entry) (n : ℕ) (entries : List Entry) (found at : ℕ) (s : State t first entries₀ n entries found at) (g : first ≤ at) where
  here : first + (at - first) ≡ at
  here = omega arith

  next : at + 1 - first ≡ at - first + 1
  next = omega arith

  more : is_live (row_at t at) ≡ true → live_places t first (at + 1 - first) ≡ live_places t first (at - first) ++ (at ∷ [])
  more e =
      ap (live_places t first) next
      ∙ places_more t first (at - first) (ap (λ (p : ℕ). is_live (row_at t p)) here ∙ e)
      ∙ ap (λ (p : ℕ). live_places t first (at - first) ++ (p ∷ [])) here

  over : is_live (row_at t at) ≡ false → live_places t first (at + 1 - first) ≡ live_places t first (at - first)
  over e = ap (live_places t first) next ∙ places_over t first (at - first) (ap (λ (p : ℕ). is_live (row_at t p)) here ∙ e)

  room_for_one : (end : ℕ) → at < end → n + length (live_places t first (end - first)) ≤ length entries₀ → is_live (row_at t at) ≡ true → found < length entries
  room_for_one end h fits e =
      omega (arith, s.number, s.same, ap length (more e), length-append (live_places t first (at - first)) (at ∷ []), places_within t first (at + 1 - first) (end - first) (omega arith))

  taken_in : is_live (row_at t at) ≡ true → State t first entries₀ n (set entries found (place_entry t at)) (found + 1) (at + 1)
  taken_in e =
      let old = live_places t first (at - first) in
      record {
        number = omega (arith, s.number, ap length (more e), length-append old (at ∷ []));
        same = simp length-set s.same;
        are =
            ap (λ (w : List Entry). set w found (place_entry t at)) s.are
            ∙ sets_more entries₀ n found (map (place_entry t) old) (place_entry t at ∷ []) (s.number ∙ ap (λ (m : ℕ). n + m) (sym (length-map old (place_entry t))))
            ∙ ap (sets entries₀ n) (sym (ap (map (place_entry t)) (more e) ∙ map-append (place_entry t) old (at ∷ [])));
      }

  left_out : is_live (row_at t at) ≡ false → State t first entries₀ n entries found (at + 1)
  left_out e =
      record {
        number = s.number ∙ ap (λ (l : List ℕ). n + length l) (sym (over e));
        same = s.same;
        are = s.are ∙ ap (λ (l : List ℕ). sets entries₀ n (map (place_entry t) l)) (sym (over e));
      }

-- two variables that took on these values are in the state too
as_state :
    (t : Table) (first : ℕ) (entries₀ : List Entry) (n : ℕ) (entries entries' : List Entry) (found found' at : ℕ) → entries ≡ entries' → found ≡ found'
    → State t first entries₀ n entries' found' at → State t first entries₀ n entries found at
as_state t first entries₀ n entries entries' found found' at e f s = record { number = f ∙ s.number; same = ap length e ∙ s.same; are = e ∙ s.are }

pub loop-at-init : goal.loop-at-init
loop-at-init c =
    let a = c.args in
    let none : live_places a.table.now a.first (a.first - a.first) ≡ [] = places_none a.table.now a.first (omega arith) in
    record { number = omega (arith, ap length none); same = refl; are = sym (ap (λ (l : List ℕ). sets a.entries.now a.n (map (place_entry a.table.now) l)) none) }

pub bounds-table-at : goal.bounds-table-at
bounds-table-at c = omega (arith, c.requires.1)

-- a live row has an entry to go to
room_here : (c : Then-is_live) → c.loop-at.found < length c.loop-at.entries
unfolding row_at
room_here c =
    let l = c.loop-at in
    let a = c.args in
    room_for_one a.table.now a.first a.entries.now a.n l.entries l.found l.at l.invariant l.auto.at a.end c.loop-at-test.true c.requires.2 (sym c.if-is_live.ensures)

pub offset_bounds-entries-found : goal.offset_bounds-entries-found
offset_bounds-entries-found c = omega (arith, room_here (goal.at.offset_bounds-entries-found c).Then-is_live)

pub bounds-entries-found : goal.bounds-entries-found
bounds-entries-found c = room_here (goal.at.bounds-entries-found c).Then-is_live

pub overflow_add-found : goal.overflow_add-found
overflow_add-found c = omega (arith, room_here (goal.at.overflow_add-found c).Then-is_live)

pub loop-at-preserved : goal.loop-at-preserved
unfolding row_at place_entry tag_at entry
loop-at-preserved c =
    let l = c.loop-at in
    let a = c.args in
    let t = a.table.now in
    elim c.if-is_live.branch [
      | then-is_live w ↦
          as_state t a.first a.entries.now a.n c.if-is_live.entries _ c.if-is_live.found _ (l.at + 1)
          (w.entries-is ∙ ap (λ (tag : ℕ). set l.entries l.found (l.at ∷ tag ∷ [])) w.tag_of.ensures) w.found-is
          (taken_in t a.first a.entries.now a.n l.entries l.found l.at l.invariant l.auto.at (sym c.is_live.ensures ∙ w.if-is_live.true))
      | else-is_live w ↦
          as_state t a.first a.entries.now a.n c.if-is_live.entries _ c.if-is_live.found _ (l.at + 1) w.entries-is w.found-is
          (left_out t a.first a.entries.now a.n l.entries l.found l.at l.invariant l.auto.at (sym c.is_live.ensures ∙ w.if-is_live.false))
    ]

pub returns : goal.returns
returns c =
    let l = c.loop-at in
    let a = c.args in
    let e : l.at ≡ a.end = omega arith in
    (l.invariant.number ∙ ap (λ (i : ℕ). a.n + length (live_places a.table.now a.first (i - a.first))) e, l.invariant.are ∙ ap (λ (i : ℕ). sets a.entries.now a.n (entered a.table.now a.first i)) e)
