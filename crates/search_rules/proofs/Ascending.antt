-- What the entries' key says in plain numbers: it is the distance and, last, the tag, so it tells entries apart; and an
-- entry whose key is not after another's has the smaller distance, or the same and no larger tag. So entries in the
-- order of their keys ascend by distance, then tag.
use Prim.Native.Nat.{ℕ, ◌≤◌}
use native.Mathlib.Omega.{arith}
use mathlib.Core.Path.{◌≡◌, refl, sym, ap, ap₂, ◌∙◌}
use mathlib.Core.Logic.{inl, inr, ⊎_elim}
use mathlib.Core.List.{List, [], ◌∷◌}
use lib.ListN.{get_or}
use borrow.Author.Tests.{leb-true}
use Rattle.lists.specs.Lists.{last}
use Rattle.lists.proofs.Lists.{pairs_take}
use Rattle.search_rules.specs.Range.{Entry, Pair, entry, entry_tag, entry_distance, entry_key, ordered, Precedes, Ascending}
use Rattle.search_rules.specs.Nearest.{keep}
use Rattle.tree_rules.proofs.Sorting.{NotAfter, Sorted, Determined, sort_sorted, key_le_cases, key_le_last}

pair_form : (e : Entry) → Pair e → e ≡ entry (entry_tag e) (entry_distance e)
unfolding entry entry_tag entry_distance
pair_form [] h = absurd (omega arith)
pair_form (a ∷ []) h = absurd (omega arith)
pair_form (a ∷ b ∷ []) h = refl
pair_form (a ∷ b ∷ c ∷ e) h = absurd (omega arith)

-- two entries with the same key are the same, so nothing shows in which order they were met
pub pairs_determined : (x y : Entry) → Pair x → Pair y → Determined entry_key x y
unfolding entry_key last
pairs_determined x y p q same =
    let distances : entry_distance x ≡ entry_distance y = ap (λ (key : List ℕ). get_or key 0 0) same in
    let tags : entry_tag x ≡ entry_tag y = ap (last 0) same in
    pair_form x p ∙ ap₂ entry tags distances ∙ sym (pair_form y q)

-- by distance, then tag
pub key_precedes : (x y : Entry) → NotAfter entry_key x y → Precedes x y
unfolding entry_key
key_precedes x y h =
    ⊎_elim (λ near. inl near)
    (λ tied. inr (tied.0, leb-true (entry_tag x) (entry_tag y) (sym (key_le_last (entry_tag x) (entry_tag y)) ∙ tied.1)))
    (key_le_cases (entry_distance x) (entry_distance y) (entry_tag x ∷ []) (entry_tag y ∷ []) h)

pub precedes_distance : (x y : Entry) → Precedes x y → entry_distance x ≤ entry_distance y
precedes_distance x y h = ⊎_elim (λ near. omega arith) (λ tied. omega arith) h

-- a list in the order of its keys
pub sorted_ascends : (es : List Entry) → Sorted entry_key es → Ascending es
sorted_ascends [] s = tt
sorted_ascends (x ∷ []) s = tt
sorted_ascends (x ∷ y ∷ es) s = (key_precedes x y s.0.0, sorted_ascends (y ∷ es) s.1)

pub ordered_ascends : (es : List Entry) → Ascending (ordered es)
unfolding ordered
ordered_ascends es = sorted_ascends (ordered es) (sort_sorted entry_key es)

-- and its first k
pub keep_ascends : (k : ℕ) (es : List Entry) → Ascending (keep k es)
unfolding keep ordered
keep_ascends k es = sorted_ascends (keep k es) (pairs_take (NotAfter entry_key) k (ordered es) (sort_sorted entry_key es))
