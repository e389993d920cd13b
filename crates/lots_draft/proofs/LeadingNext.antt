-- What a step leaves to be drafted. Of the entries behind a leader those that join it are the first lot of the places
-- without one, and the others are left; so what has a lot, with the lots that are left numbered behind it, stays the
-- same, permuted.
use Prim.Native.Nat.{ℕ, suc, ◌+◌, ◌≤◌, ◌<◌, max}
use native.Mathlib.Omega.{arith}
use mathlib.Core.Path.{◌≡◌, refl, sym, ap, ap₂, ◌∙◌}
use mathlib.Core.Bool.{Bool, true, false, not, ◌&&◌}
use mathlib.Core.List.Permᴰ
use mathlib.Core.List.{List, [], ◌∷◌, ◌++◌, map, append_assoc, Permᴰ}
use borrow.Author.Tests.{ne_eqb}
use lib.ListN.{length, take, drop}
use Rattle.lists.specs.Lists.{select}
use Rattle.lists.proofs.Lists.{perm_of_eq, perm_both}
use Rattle.metric_rules.specs.declared.Space.{Space}
use Rattle.search_rules.specs.Range.{Entry, entry}
use Rattle.search_rules.proofs.Selecting.{select_yes, select_no}
use Rattle.table_rules.specs.Table.{Table, row_at}
use Rattle.lots_rules.specs.Lots.{near, lots, largest_of, numbered}
use Rattle.lots_rules.proofs.Steps.{far, lots_first}
use Rattle.lots_draft.specs.declared.Draft.{Draft}
use Rattle.lots_draft.specs.Leading.{place_of, lot_of, undrafted, between_places, place_lots, joins, followed, entries_led, draft_led}

-- an entry with a lot, and the places of those without
abbrev pub drafted : Entry → Bool
drafted e = not (undrafted e)

unfoldable pub pending : List Entry → List ℕ
pending es = map place_of (select undrafted es)

pending_more : (e : Entry) (es : List Entry) → undrafted e ≡ true → pending (e ∷ es) ≡ place_of e ∷ pending es
unfolding pending
pending_more e es h = ap (map place_of) (select_yes undrafted e es h)

pending_over : (e : Entry) (es : List Entry) → undrafted e ≡ false → pending (e ∷ es) ≡ pending es
unfolding pending
pending_over e es h = ap (map place_of) (select_no undrafted e es h)

module _ (t : Table) (space : Space) (radius : ℕ) where
  abbrev close : ℕ → ℕ → Bool
  close = near (between_places t space radius) radius

  abbrev apart : ℕ → ℕ → Bool
  apart = far (between_places t space radius) radius

  -- those behind a leader at place p, whose lot's number is not 0
  module _ (p lot : ℕ) (numbers : 0 < lot) where
    abbrev test : Entry → Bool
    test = joins t space radius (row_at t p)

    abbrev after : Entry → Entry
    after = followed t space radius (row_at t p) lot

    abbrev in_lot : List ℕ → List Entry
    in_lot qs = map (λ q. entry q lot) qs

    pub record Follows (es : List Entry) : Type 0 where
      pub left : pending (map after es) ≡ select (apart p) (pending es)
      pub size : length (select test es) ≡ length (select (close p) (pending es))
      pub perm : Permᴰ (select drafted (map after es)) (in_lot (select (close p) (pending es)) ++ select drafted es)

    test_is : (e : Entry) → test e ≡ (undrafted e && close p (place_of e))
    unfolding joins near between_places
    test_is e = refl

    after-yes : (e : Entry) → test e ≡ true → after e ≡ entry (place_of e) lot
    unfolding followed
    after-yes e h = ap (λ (b : Bool). elim b [ true ↦ entry (place_of e) lot | false ↦ e ]) h

    after-no : (e : Entry) → test e ≡ false → after e ≡ e
    unfolding followed
    after-no e h = ap (λ (b : Bool). elim b [ true ↦ entry (place_of e) lot | false ↦ e ]) h

    in-lot : (q : ℕ) → undrafted (entry q lot) ≡ false
    unfolding undrafted lot_of entry
    in-lot q = ne_eqb lot 0 (λ z. omega (arith, z, numbers))

    module _ (e : Entry) (es : List Entry) (f : Follows es) where
      -- an entry with a lot stays
      with-lot : undrafted e ≡ false → Follows (e ∷ es)
      with-lot h =
          let no : test e ≡ false = test_is e ∙ ap (λ (b : Bool). b && close p (place_of e)) h in
          let head : map after (e ∷ es) ≡ e ∷ map after es = ap (λ (x : Entry). x ∷ map after es) (after-no e no) in
          let over = pending_over e es h in
          record {
            left = ap pending head ∙ pending_over e (map after es) h ∙ f.left ∙ ap (select (apart p)) (sym over);
            size = ap length (select_no test e es no) ∙ f.size ∙ ap (λ (qs : List ℕ). length (select (close p) qs)) (sym over);
            perm =
                Permᴰ.trans (perm_of_eq (ap (select drafted) head ∙ select_yes drafted e (map after es) (ap not h)))
                (Permᴰ.trans (Permᴰ.cons refl f.perm)
                (Permᴰ.trans (Permᴰ.symm (Permᴰ.middle e (in_lot (select (close p) (pending es))) (select drafted es)))
                (perm_of_eq (ap₂ (λ (qs : List ℕ) (l : List Entry). in_lot (select (close p) qs) ++ l) (sym over) (sym (select_yes drafted e es (ap not h)))))));
          }

      -- one within the radius joins
      joining : undrafted e ≡ true → close p (place_of e) ≡ true → Follows (e ∷ es)
      joining h g =
          let yes : test e ≡ true = test_is e ∙ ap₂ ◌&&◌ h g in
          let new = entry (place_of e) lot in
          let head : map after (e ∷ es) ≡ new ∷ map after es = ap (λ (x : Entry). x ∷ map after es) (after-yes e yes) in
          let more = pending_more e es h in
          let first : select (close p) (pending (e ∷ es)) ≡ place_of e ∷ select (close p) (pending es) = ap (select (close p)) more ∙ select_yes (close p) (place_of e) (pending es) g in
          record {
            left = ap pending head ∙ pending_over new (map after es) (in-lot (place_of e)) ∙ f.left
                ∙ sym (ap (select (apart p)) more ∙ select_no (apart p) (place_of e) (pending es) (ap not g));
            size = ap length (select_yes test e es yes) ∙ ap suc f.size ∙ ap length (sym first);
            perm =
                Permᴰ.trans (perm_of_eq (ap (select drafted) head ∙ select_yes drafted new (map after es) (ap not (in-lot (place_of e)))))
                (Permᴰ.trans (Permᴰ.cons refl f.perm)
                (perm_of_eq (ap₂ (λ (qs : List ℕ) (l : List Entry). in_lot qs ++ l) (sym first) (sym (select_no drafted e es (ap not h))))));
          }

      -- one beyond it is left
      waiting : undrafted e ≡ true → close p (place_of e) ≡ false → Follows (e ∷ es)
      waiting h g =
          let no : test e ≡ false = test_is e ∙ ap₂ ◌&&◌ h g in
          let head : map after (e ∷ es) ≡ e ∷ map after es = ap (λ (x : Entry). x ∷ map after es) (after-no e no) in
          let more = pending_more e es h in
          let none : select (close p) (pending (e ∷ es)) ≡ select (close p) (pending es) = ap (select (close p)) more ∙ select_no (close p) (place_of e) (pending es) g in
          record {
            left = ap pending head ∙ pending_more e (map after es) h ∙ ap (λ (qs : List ℕ). place_of e ∷ qs) f.left
                ∙ sym (ap (select (apart p)) more ∙ select_yes (apart p) (place_of e) (pending es) (ap not g));
            size = ap length (select_no test e es no) ∙ f.size ∙ ap length (sym none);
            perm =
                Permᴰ.trans (perm_of_eq (ap (select drafted) head ∙ select_no drafted e (map after es) (ap not h)))
                (Permᴰ.trans f.perm (perm_of_eq (ap₂ (λ (qs : List ℕ) (l : List Entry). in_lot qs ++ l) (sym none) (sym (select_no drafted e es (ap not h))))));
          }

      one_more : Follows (e ∷ es)
      one_more = go (undrafted e) refl (close p (place_of e)) refl
        where
          go : (a : Bool) → undrafted e ≡ a → (b : Bool) → close p (place_of e) ≡ b → Follows (e ∷ es)
          go false h b g = with-lot h
          go true h true g = joining h g
          go true h false g = waiting h g

    pub follows : (es : List Entry) → Follows es
    unfolding pending select
    follows [] = record { left = refl; size = refl; perm = Permᴰ.nil }
    follows (e ∷ es) = one_more e es (follows es)

  -- the lots of the places that wait for one, and what has a lot with these numbered behind it
  unfoldable pub lots_left : List Entry → List (List ℕ)
  lots_left es = place_lots t space radius (pending es)

  unfoldable pub outcome : Draft → List Entry → List Entry
  outcome d es = select drafted es ++ numbered (λ q. q) (suc d.lots) (lots_left es)

  pub record LedNext (d : Draft) (es : List Entry) (next : Draft) (new : List Entry) : Type 0 where
    pub number : next.lots + length (lots_left (drop 1 new)) ≡ d.lots + length (lots_left es)
    pub largest : max next.largest (largest_of (map length (lots_left (drop 1 new)))) ≡ max d.largest (largest_of (map length (lots_left es)))
    pub perm : Permᴰ (take 1 new ++ outcome next (drop 1 new)) (outcome d es)
    pub places : map place_of new ≡ map place_of es
    pub few : next.lots ≤ d.lots + 1

  abbrev led : Draft → Entry → List Entry → Draft
  led d e es = record { lots = suc d.lots; largest = max d.largest (suc (length (select (joins t space radius (row_at t (place_of e))) es))) }

  abbrev leads : Draft → Entry → List Entry → List Entry
  leads d e es = entry (place_of e) (suc d.lots) ∷ map (followed t space radius (row_at t (place_of e)) (suc d.lots)) es

  -- an entry with a lot changes nothing
  passes : (d : Draft) (e : Entry) (es : List Entry) → undrafted e ≡ false → LedNext d (e ∷ es) d (e ∷ es)
  unfolding lots_left outcome
  passes d e es h =
      let over = ap (place_lots t space radius) (sym (pending_over e es h)) in
      record {
        number = ap (λ (ls : List (List ℕ)). d.lots + length ls) over;
        largest = ap (λ (ls : List (List ℕ)). max d.largest (largest_of (map length ls))) over;
        perm = perm_of_eq (ap₂ (λ (xs : List Entry) (ls : List (List ℕ)). xs ++ numbered (λ q. q) (suc d.lots) ls) (sym (select_yes drafted e es (ap not h))) over);
        places = refl;
        few = omega arith;
      }

  followed_place : (p lot : ℕ) (e : Entry) → place_of (followed t space radius (row_at t p) lot e) ≡ place_of e
  unfolding followed place_of entry
  followed_place p lot e = go (joins t space radius (row_at t p) e)
    where
      go : (b : Bool) → place_of (elim b [ true ↦ entry (place_of e) lot | false ↦ e ]) ≡ place_of e
      go true = refl
      go false = refl

  followed_places : (p lot : ℕ) (es : List Entry) → map place_of (map (followed t space radius (row_at t p) lot) es) ≡ map place_of es
  followed_places p lot [] = refl
  followed_places p lot (e ∷ es) = ap₂ (λ (q : ℕ) (qs : List ℕ). q ∷ qs) (followed_place p lot e) (followed_places p lot es)

  -- one without leads the first of the lots that are left
  leading : (d : Draft) (e : Entry) (es : List Entry) → undrafted e ≡ true → LedNext d (e ∷ es) (led d e es) (leads d e es)
  unfolding lots_left outcome place_lots numbered largest_of place_of entry
  leading d e es h =
      let p = place_of e in
      let lot = suc d.lots in
      let f = follows p lot (omega arith) es in
      let joined = select (close p) (pending es) in
      let later : List (List ℕ) = lots (between_places t space radius) radius (select (apart p) (pending es)) in
      let first : lots_left (e ∷ es) ≡ (p ∷ joined) ∷ later = ap (place_lots t space radius) (pending_more e es h) ∙ lots_first (between_places t space radius) radius p (pending es) in
      let lead : List Entry = map (λ q. entry q lot) (p ∷ joined) in
      let has : List Entry = select drafted es in
      let behind : List Entry = numbered (λ q. q) (suc lot) later in
      let left : lots_left (map (followed t space radius (row_at t p) lot) es) ≡ later = ap (place_lots t space radius) f.left in
      record {
        number = omega (arith, ap length first, ap length left);
        largest = omega (arith, f.size, ap (λ (ls : List (List ℕ)). largest_of (map length ls)) first, ap (λ (ls : List (List ℕ)). largest_of (map length ls)) left);
        perm =
            Permᴰ.trans (Permᴰ.cons refl (perm_both f.perm (perm_of_eq (ap (numbered (λ q. q) (suc lot)) left))))
            (Permᴰ.trans (Permᴰ.append_right behind (Permᴰ.append_comm lead has))
            (perm_of_eq
            (append_assoc has lead behind
            ∙ ap₂ (λ (xs : List Entry) (ls : List (List ℕ)). xs ++ numbered (λ q. q) lot ls) (sym (select_no drafted e es (ap not h))) (sym first))));
        places = ap (λ (qs : List ℕ). p ∷ qs) (followed_places p lot es);
        few = omega arith;
      }

  pub led_next : (d : Draft) (e : Entry) (es : List Entry) → LedNext d (e ∷ es) (draft_led t space radius d (e ∷ es)) (entries_led t space radius d (e ∷ es))
  unfolding draft_led entries_led
  led_next d e es = go (undrafted e) refl
    where
      go : (b : Bool) → undrafted e ≡ b → LedNext d (e ∷ es) (elim b as (λ _. Draft) [ true ↦ led d e es | false ↦ d ]) (elim b [ true ↦ leads d e es | false ↦ e ∷ es ])
      go true h = leading d e es h
      go false h = passes d e es h
