-- One entry more among those kept: it goes behind those that are fewer than k, or among k where it is not after the last of them, which gives way.
-- The entries kept are in order, so keeping one more is putting it in its place.
use Prim.Native.Nat.{ℕ, suc, ◌+◌, ◌-◌, ◌≤◌, ◌<◌, ◌^◌, min}
use mathlib.Core.Path.{◌≡◌, refl, sym, ap, ap₂, subst, ◌∙◌}
use mathlib.Core.Bool.{Bool, true, false}
use mathlib.Core.List.{List, [], ◌∷◌, ◌++◌}
use lib.ListN.{length, take, drop, get_or, get_or-append, drop_of_length-le}
use lib.Seq.{length-take-le, get_or-take, take_all, take_at, take-suc}
use borrow.Author.Tests.{le-ltb}
use native.Mathlib.Omega.{arith}
use Rattle.lists.specs.Lists.{All}
use Rattle.lists.proofs.Lists.{perm_length}
use Rattle.metric_rules.specs.Row.{Row, tag_of}
use Rattle.tree_rules.specs.Sorting.{key_le, insert_by, sort_by}
use Rattle.tree_rules.proofs.Sorting.{NotAfter, key_le_differ, insert_perm, insert_append}
use Rattle.search_rules.specs.Range.{Entry, entry, entry_distance, entry_key, ordered}
use Rattle.search_rules.specs.Nearest.{keep, worst}
use Rattle.entries.proofs.Inserting.{sorted_of_ordered, front_ordered, insert_split, before_last}
use Rattle.tree_nearest.specs.declared.Nearby.{Nearby}
use Rattle.tree_nearest.specs.Nearby.{bound_of, kept_under, kept_of, Held, in_front, tally_of, nearby_of, taken_at}
use Rattle.tree_nearest.proofs.Bounds.{worst_last, bound_below, bound_full, under_worst, under_unbounded, held_size, held_worst, held_below, held_inside}
use Rattle.tree_nearest.proofs.Bounds.{held_front}

module _ {k : ℕ} {area : List Entry} {bound : ℕ} (h : Held k area bound) (new : Entry) where
  kept : List Entry
  kept = kept_of k area bound

  n : ℕ
  n = kept_under k bound

  inserted_size : length (insert_by entry_key new kept) ≡ suc n
  unfolding kept n
  inserted_size = perm_length (insert_perm entry_key new kept) ∙ ap suc (held_size h)

  -- of the entries in order and one more among them, k stay
  keep_in_order : keep k (new ∷ kept) ≡ take k (insert_by entry_key new kept)
  unfolding keep ordered sort_by kept
  keep_in_order = ap (λ (l : List Entry). take k (insert_by entry_key new l)) h.in_order

  -- the entry may be put among the first `end` entries, and then those before place end + 1 are kept
  pub record Puts (end : ℕ) : Type 0 where
    pub inside : end < length area
    pub in-front : ordered (take end area) ≡ take end area
    pub fewer : end < k
    pub then : keep k (new ∷ kept_of k area bound) ≡ insert_by entry_key new (take end area)
    pub next : end + 1 < k → bound + 1 ≡ 2 ^ 32 + (end + 1)

  module _ (room : min k (length (kept_of k area bound) + 1) ≤ length area) where
    pub puts-more : 2 ^ 32 ≤ bound → Puts (kept_under k bound)
    unfolding kept n
    puts-more free =
        record {
          inside = omega (arith, room, held_size h, held_below h free);
          in-front = h.in_order;
          fewer = held_below h free;
          then = keep_in_order ∙ take_all k (insert_by entry_key new kept) (omega (arith, inserted_size, held_below h free));
          next = λ _. omega (arith, under_unbounded k bound free);
        }

  module _ (full : bound < 2 ^ 32) where
    exact : n ≡ k
    unfolding n
    exact = under_worst k bound full

    pub puts-worst : key_le (entry_key new) (entry_key (get_or area (kept_under k bound - 1) [])) ≡ true → Puts (kept_under k bound - 1)
    unfolding kept n
    puts-worst le =
        let rest = take (n - 1) area in
        let last = get_or area (n - 1) [] in
        let one : suc (n - 1) ≡ n = omega (arith, exact, h.some) in
        let ends : take n area ≡ rest ++ (last ∷ []) = ap (λ (m : ℕ). take m area) (sym one) ∙ take-suc area (n - 1) [] (omega (arith, held_inside h)) in
        let split : insert_by entry_key new kept ≡ insert_by entry_key new rest ++ (last ∷ []) = ap (insert_by entry_key new) ends ∙ insert_append entry_key new rest (last ∷ []) (le, tt) in
        let size : length (insert_by entry_key new rest) ≡ n =
        perm_length (insert_perm entry_key new rest) ∙ ap suc (length-take-le (n - 1) area (omega (arith, held_inside h))) ∙ one
        in
        record {
          inside = omega (arith, one, held_inside h);
          in-front = front_ordered area (n - 1) n (omega arith) h.in_order;
          fewer = omega (arith, one, exact);
          then = keep_in_order ∙ ap (take k) split ∙ take_at (insert_by entry_key new rest) (last ∷ []) k (size ∙ exact);
          next = λ below. absurd (omega (arith, one, exact));
        }

    -- an entry that is after all k kept is dropped
    pub dropped : key_le (entry_key new) (entry_key (get_or area (kept_under k bound - 1) [])) ≡ false → keep k (new ∷ kept_of k area bound) ≡ kept_of k area bound
    unfolding kept n
    dropped out =
        let one : n ≡ suc (n - 1) = omega (arith, exact, h.some) in
        let all = before_last new kept (n - 1) n one (omega (arith, one, held_size h)) (sorted_of_ordered kept h.in_order)
        (ap (λ (e : Entry). key_le (entry_key new) (entry_key e)) (get_or-take n area (n - 1) [] (omega (arith, one))) ∙ out) in
        let none : drop n kept ≡ [] = drop_of_length-le kept {i = n} (omega (arith, held_size h)) in
        keep_in_order
        ∙ ap (take k) (insert_split new kept n all (subst (All (NotAfter entry_key new)) (sym none) tt))
        ∙ take_at (take n kept) (new ∷ drop n kept) k (length-take-le n kept (omega (arith, held_size h)) ∙ exact)
        ∙ take_all n kept (omega (arith, held_size h))

    -- and so is one that is farther than the bound
    pub dropped-far : bound < entry_distance new → keep k (new ∷ kept_of k area bound) ≡ kept_of k area bound
    unfolding kept n entry_key entry_distance
    dropped-far far =
        let last : ℕ = get_or (get_or area (n - 1) []) 1 0 in
        let at : worst kept ≡ last =
        worst_last kept (omega (arith, held_size h, exact, h.some))
        ∙ ap (λ (e : Entry). entry_distance e) (ap (λ (m : ℕ). get_or kept (m - 1) []) (held_size h) ∙ get_or-take n area (n - 1) [] (omega (arith, exact, h.some)))
        in
        let below : last < get_or new 1 0 = omega (arith, at, held_worst h full) in
        dropped (key_le_differ (get_or new 1 0) last (get_or new 0 0 ∷ []) (get_or (get_or area (n - 1) []) 0 0 ∷ []) (λ same. omega arith) ∙ le-ltb (get_or new 1 0) last (omega arith))

  -- what is left where it was put: the entries kept then, in front, and their bound
  module _ {end : ℕ} (p : Puts end) (after : List Entry) (e : after ≡ insert_by entry_key new (take end area) ++ drop (end + 1) area) where
    then-size : length (keep k (new ∷ kept_of k area bound)) ≡ end + 1
    then-size = ap length p.then ∙ perm_length (insert_perm entry_key new (take end area)) ∙ ap suc (length-take-le end area (omega (arith, p.inside))) ∙ omega arith

    pub put_front : after ≡ in_front (keep k (new ∷ kept_of k area bound)) area
    put_front = e ∙ ap₂ (λ (es : List Entry) (m : ℕ). es ++ drop m area) (sym p.then) (sym then-size)

    pub put-below : end + 1 < k → bound + 1 ≡ bound_of k (keep k (new ∷ kept_of k area bound))
    put-below below = p.next below ∙ omega (arith, then-size, bound_below k (keep k (new ∷ kept_of k area bound)) (omega (arith, then-size)))

    pub put_full : k ≤ end + 1 → get_or (get_or after end []) 1 0 ≡ bound_of k (keep k (new ∷ kept_of k area bound))
    unfolding entry_distance
    put_full full =
        let es = keep k (new ∷ kept_of k area bound) in
        let end_is : end ≡ length es - 1 = omega (arith, then-size) in
        ap (λ (l : List Entry). get_or (get_or l end []) 1 0) put_front
        ∙ ap (λ (x : Entry). get_or x 1 0) (get_or-append es (drop (length es) area) [] end (omega (arith, then-size)) ∙ ap (λ (m : ℕ). get_or es m []) end_is)
        ∙ sym (worst_last es (omega (arith, then-size)))
        ∙ sym (bound_full k es (omega (arith, then-size)))

  -- and where it was dropped
  module _ (e : keep k (new ∷ kept_of k area bound) ≡ kept_of k area bound) where
    pub dropped-bound : bound ≡ bound_of k (keep k (new ∷ kept_of k area bound))
    dropped-bound = h.bound_is ∙ ap (bound_of k) (sym e)

    pub dropped-front : area ≡ in_front (keep k (new ∷ kept_of k area bound)) area
    dropped-front = sym (held_front h) ∙ ap (λ (es : List Entry). in_front es area) (sym e)

-- a slot's own item at distance d: what is kept after it
module _ (reports : Row → Bool) {k : ℕ} {area : List Entry} {bound : ℕ} (h : Held k area bound) (count : ℕ) (row : Row) (d : ℕ) where
  -- these entries are then kept, and these numbers and this area are left
  abbrev pub Taken : ℕ → ℕ → List Entry → Type 0
  Taken c b after =
      (◌≡◌ {A = Nearby} (record { count = c; bound = b }) (nearby_of k (taken_at reports k (tally_of k area (record { count = count; bound = bound })) row d)))
      × (after ≡ in_front (taken_at reports k (tally_of k area (record { count = count; bound = bound })) row d).kept area)

  taken_as : {es : List Entry} → (taken_at reports k (tally_of k area (record { count = count; bound = bound })) row d).kept ≡ es → {c b : ℕ} {after : List Entry}
      → c ≡ suc count → b ≡ bound_of k es → after ≡ in_front es area → Taken c b after
  unfolding taken_at
  taken_as e p q r = (
    λ i. record { count = p i; bound = (q ∙ ap (bound_of k) (sym e)) i },
    r ∙ ap (λ (es : List Entry). in_front es area) (sym e),
  )

  kept_unreported : reports row ≡ false → (taken_at reports k (tally_of k area (record { count = count; bound = bound })) row d).kept ≡ kept_of k area bound
  unfolding taken_at
  kept_unreported e = ap (λ (b : Bool). elim b [ true ↦ keep k (entry (tag_of row) d ∷ kept_of k area bound) | false ↦ kept_of k area bound ]) e

  kept_reported : reports row ≡ true → (taken_at reports k (tally_of k area (record { count = count; bound = bound })) row d).kept ≡ keep k (entry (tag_of row) d ∷ kept_of k area bound)
  unfolding taken_at
  kept_reported e = ap (λ (b : Bool). elim b [ true ↦ keep k (entry (tag_of row) d ∷ kept_of k area bound) | false ↦ kept_of k area bound ]) e

  -- nothing changes but the count where the item may not be reported
  pub taken_unreported : reports row ≡ false → Taken (count + 1) bound area
  taken_unreported e = taken_as (kept_unreported e) (omega arith) h.bound_is (sym (held_front h))

  -- nor where it is farther than the bound, reported or not
  pub taken_far : bound < d → d < 2 ^ 32 → Taken (count + 1) bound area
  unfolding entry entry_distance
  taken_far far fits = go (reports row) refl
    where
      go : (b : Bool) → reports row ≡ b → Taken (count + 1) bound area
      go false e = taken_unreported e
      go true e = taken_as (kept_reported e ∙ dropped-far h (entry (tag_of row) d) (omega arith) far) (omega arith) h.bound_is (sym (held_front h))

  -- else it is kept in its order
  pub taken_reported : reports row ≡ true → (new : Entry) → new ≡ entry (tag_of row) d → (b : ℕ) (after : List Entry) → b ≡ bound_of k (keep k (new ∷ kept_of k area bound)) → after ≡ in_front (keep k (new ∷ kept_of k area bound)) area
      → Taken (count + 1) b after
  taken_reported e new is b after p q =
      let same = ap (λ (x : Entry). keep k (x ∷ kept_of k area bound)) is in
      taken_as (kept_reported e) (omega arith) (p ∙ ap (bound_of k) same) (q ∙ ap (λ (es : List Entry). in_front es area) same)
