-- A drafting under way: what has been looked at, and what those behind it come to, make up the whole.
use Prim.Native.Nat.{ℕ, suc, ◌+◌, ◌≤◌, ◌<◌, max}
use native.Mathlib.Omega.{arith}
use mathlib.Core.Path.{◌≡◌, refl, sym, ap, ap₂, subst, ◌∙◌}
use mathlib.Core.Bool.{true, false, not}
use mathlib.Core.List.Permᴰ
use mathlib.Core.List.{List, [], ◌∷◌, ◌++◌, map, map-append, append-nil, append_assoc, Permᴰ}
use borrow.Author.Tests.{eq-eqb}
use lib.ListN.{length, take, drop, get_or, length-take, length-append, length-map, take-append-drop, drop_of_length-le}
use lib.Seq.{drop-cons, take-append-add, drop-append-add, take_all}
use Rattle.lists.specs.Lists.{select, All}
use Rattle.lists.proofs.Lists.{all_always, all_map, all_of_map, perm_of_eq}
use Rattle.metric_rules.specs.declared.Space.{Space}
use Rattle.search_rules.specs.Range.{Entry, entry}
use Rattle.search_rules.proofs.Selecting.{select_none, select_all}
use Rattle.table_rules.specs.Table.{Table}
use Rattle.lots_rules.specs.Lots.{largest_of, lots, numbered}
use Rattle.lots_rules.proofs.Steps.{lots_none, lots_few, largest_few}
use Rattle.lots_draft.specs.declared.Draft.{Draft}
use Rattle.lots_draft.specs.Leading.{place_of, lot_of, Placed, undrafted, without_lot, between_places, place_lots, entries_led, draft_led}
use Rattle.lots_draft.proofs.LeadingNext.{drafted, pending, lots_left, outcome, led_next}

-- an entry without a lot
without_waits : (e : Entry) → undrafted (without_lot e) ≡ true
unfolding undrafted without_lot lot_of entry
without_waits e = eq-eqb 0 0 refl

without_place : (e : Entry) → place_of (without_lot e) ≡ place_of e
unfolding without_lot place_of entry
without_place e = refl

pub without_places : (es : List Entry) → map place_of (map without_lot es) ≡ map place_of es
without_places [] = refl
without_places (e ∷ es) = ap₂ (λ (p : ℕ) (ps : List ℕ). p ∷ ps) (without_place e) (without_places es)

pending_all : (es : List Entry) → pending (map without_lot es) ≡ map place_of es
unfolding pending
pending_all es = ap (map place_of) (select_all undrafted (map without_lot es) (all_map without_lot (λ e. undrafted e ≡ true) es (all_always without_waits es))) ∙ without_places es

drafted_none : (es : List Entry) → select drafted (map without_lot es) ≡ []
drafted_none es = select_none drafted (map without_lot es) (all_map without_lot (λ e. drafted e ≡ false) es (all_always (λ e. ap not (without_waits e)) es))

module _ (t : Table) (space : Space) (radius : ℕ) (ps : List ℕ) where
  abbrev whole : List (List ℕ)
  whole = place_lots t space radius ps

  pub record Awaits (front tail : List Entry) (d : Draft) : Type 0 where
    pub number : d.lots + length (lots_left t space radius tail) ≡ length whole
    pub largest : max d.largest (largest_of (map length (lots_left t space radius tail))) ≡ largest_of (map length whole)
    pub perm : Permᴰ (front ++ outcome t space radius d tail) (numbered (λ q. q) 1 whole)
    pub places : map place_of (front ++ tail) ≡ ps
    pub few : d.lots ≤ length front

  -- nothing has been looked at
  pub awaits_all : (es : List Entry) → map place_of es ≡ ps → Awaits [] (map without_lot es) (record { lots = 0; largest = 0 })
  unfolding lots_left outcome
  awaits_all es e =
      let left : lots_left t space radius (map without_lot es) ≡ whole = ap (place_lots t space radius) (pending_all es ∙ e) in
      record {
        number = omega (arith, ap length left);
        largest = omega (arith, ap (λ (ls : List (List ℕ)). largest_of (map length ls)) left);
        perm = perm_of_eq (ap₂ (λ (xs : List Entry) (ls : List (List ℕ)). xs ++ numbered (λ q. q) 1 ls) (drafted_none es) left);
        places = without_places es ∙ e;
        few = omega arith;
      }

  -- one more has
  pub awaits_next : (front : List Entry) (e : Entry) (es : List Entry) (d : Draft) → Awaits front (e ∷ es) d
      → Awaits (front ++ take 1 (entries_led t space radius d (e ∷ es))) (drop 1 (entries_led t space radius d (e ∷ es))) (draft_led t space radius d (e ∷ es))
  awaits_next front e es d a =
      let new = entries_led t space radius d (e ∷ es) in
      let next = draft_led t space radius d (e ∷ es) in
      let step = led_next t space radius d e es in
      let first : length (take 1 new) ≡ 1 = omega (arith, length-take 1 new, ap length step.places, length-map new place_of, length-map (e ∷ es) place_of) in
      record {
        number = step.number ∙ a.number;
        largest = step.largest ∙ a.largest;
        perm =
            Permᴰ.trans (perm_of_eq (append_assoc front (take 1 new) (outcome t space radius next (drop 1 new))))
            (Permᴰ.trans (Permᴰ.append_left front step.perm) a.perm);
        places =
            ap (map place_of) (append_assoc front (take 1 new) (drop 1 new) ∙ ap (λ (l : List Entry). front ++ l) (take-append-drop 1 new))
            ∙ map-append place_of front new
            ∙ ap (λ (qs : List ℕ). map place_of front ++ qs) step.places
            ∙ sym (map-append place_of front (e ∷ es))
            ∙ a.places;
        few = omega (arith, step.few, a.few, length-append front (take 1 new), first);
      }

  left_none : lots_left t space radius [] ≡ []
  unfolding lots_left place_lots pending
  left_none = ap (λ (es : List Entry). lots (between_places t space radius) radius (map place_of es)) (select_none undrafted [] tt) ∙ lots_none (between_places t space radius) radius

  -- all have
  pub awaits_none : (front : List Entry) (d : Draft) → Awaits front [] d
      → (d.lots ≡ length whole) × (d.largest ≡ largest_of (map length whole)) × Permᴰ front (numbered (λ q. q) 1 whole) × (map place_of front ≡ ps)
  unfolding lots_left outcome numbered largest_of
  awaits_none front d a =
      let none : lots_left t space radius [] ≡ [] = left_none in (
        omega (arith, a.number, ap length none),
        omega (arith, a.largest, ap (λ (ls : List (List ℕ)). largest_of (map length ls)) none),
        Permᴰ.trans
            (perm_of_eq (sym (append-nil front) ∙ ap (λ (l : List Entry). front ++ l) (sym (ap₂ (λ (xs : List Entry) (ls : List (List ℕ)). xs ++ numbered (λ q. q) (suc d.lots) ls) (select_none drafted [] tt) none))))
            a.perm,
        ap (map place_of) (sym (append-nil front)) ∙ a.places,
      )

  -- the same of a list of entries whose first i have been looked at
  abbrev pub AwaitsAt : List Entry → ℕ → Draft → Type 0
  AwaitsAt es i d = Awaits (take i es) (drop i es) d

  pub awaits_step :
      (es : List Entry) (i : ℕ) (d : Draft) → i < length es → AwaitsAt es i d
      → (next : Draft) (last : List Entry) → next ≡ draft_led t space radius d (drop i es) → last ≡ entries_led t space radius d (drop i es)
      → AwaitsAt (take i es ++ last) (i + 1) next
  awaits_step es i d h a next last p q =
      let front = take i es in
      let size : length front ≡ i = omega (arith, length-take i es) in
      let split : drop i es ≡ get_or es i [] ∷ drop (suc i) es = drop-cons es i [] h in
      let first : take (i + 1) (front ++ last) ≡ front ++ take 1 last = ap (λ (n : ℕ). take (n + 1) (front ++ last)) (sym size) ∙ take-append-add front last 1 in
      let rest : drop (i + 1) (front ++ last) ≡ drop 1 last = ap (λ (n : ℕ). drop (n + 1) (front ++ last)) (sym size) ∙ drop-append-add front last 1 in
      let new : last ≡ entries_led t space radius d (get_or es i [] ∷ drop (suc i) es) = q ∙ ap (entries_led t space radius d) split in
      let draft : next ≡ draft_led t space radius d (get_or es i [] ∷ drop (suc i) es) = p ∙ ap (draft_led t space radius d) split in
      coe 0 1 (j. Awaits (sym (first ∙ ap (λ (l : List Entry). front ++ take 1 l) new) j) (sym (rest ∙ ap (drop 1) new) j) (sym draft j))
      (awaits_next front (get_or es i []) (drop (suc i) es) d (subst (λ (l : List Entry). Awaits front l d) split a))

  pub awaits_start : (es : List Entry) (cleared : List Entry) → map place_of es ≡ ps → cleared ≡ map without_lot es → AwaitsAt cleared 0 (record { lots = 0; largest = 0 })
  awaits_start es cleared e q = subst (λ (l : List Entry). AwaitsAt l 0 (record { lots = 0; largest = 0 })) (sym q) (awaits_all es e)

  pub awaits_end : (es : List Entry) (i : ℕ) (d : Draft) → length es ≤ i → AwaitsAt es i d
      → (d.lots ≡ length whole) × (d.largest ≡ largest_of (map length whole)) × Permᴰ es (numbered (λ q. q) 1 whole) × (map place_of es ≡ ps)
  awaits_end es i d h a = awaits_none es d (coe 0 1 (j. Awaits (take_all i es h j) (drop_of_length-le es {i = i} h j) d) a)

  -- the numbers are no larger than that of the places
  pub awaits_few : (es : List Entry) (i : ℕ) (d : Draft) → AwaitsAt es i d → (d.lots ≤ length ps) × (d.largest ≤ length ps)
  unfolding place_lots
  awaits_few es i d a = (
    omega (arith, a.number, lots_few (between_places t space radius) radius ps),
    omega (arith, a.largest, largest_few (between_places t space radius) radius ps),
  )

  pub awaits_places : (es : List Entry) (i : ℕ) (d : Draft) → AwaitsAt es i d → map place_of es ≡ ps
  awaits_places es i d a = ap (map place_of) (sym (take-append-drop i es)) ∙ a.places

-- entries with the same places are inside the same table
pub placed_kept : (t : Table) (es fs : List Entry) → map place_of fs ≡ map place_of es → All (Placed t) es → All (Placed t) fs
placed_kept t es fs e h = all_of_map place_of (λ p. p < length t) fs (subst (All (λ p. p < length t)) (sym e) (all_map place_of (λ p. p < length t) es h))
