-- A part's entries while they are arranged: the entry with the least first word is found and brought to the front, and the others follow.
use Prim.Native.Nat.{ℕ, zero, suc, ◌+◌, ◌-◌, ◌≤◌, ◌<◌}
use native.Mathlib.Nat.{add_comm}
use native.Mathlib.Numerals.{add-one}
use native.Mathlib.Omega.{arith}
use mathlib.Core.Path.{◌≡◌, refl, sym, ◌∙◌, ap, ap₂, subst}
use mathlib.Core.List.Permᴰ
use mathlib.Core.List.{List, [], ◌∷◌, ◌++◌, map, Permᴰ}
use lib.ListN.{length, length-drop, get_or, take, drop}
use lib.Seq.{take-suc, get_or-take, get_or-drop}
use borrow.Rule.Slice.PartMut.{put_mid}
use Rattle.lists.specs.Lists.{All}
use Rattle.lists.proofs.Lists.{all_append, all_weaken, all_map, all_perm, last_taken}
use Rattle.metric_rules.specs.declared.Profile.{Profile}
use Rattle.metric_rules.specs.Row.{Row}
use Rattle.tree_rules.proofs.Parts.{part_rest, put_rest}
use Rattle.tree_rules.proofs.Brought.{brought, brought_perm, brought_first}
use Rattle.search_rules.specs.Range.{Entry, entry, entry_distance, ordered}
use Rattle.image_entries.specs.Entries.{entry_tag, entry_place, last_of, IsEntry, measuredIn, laid_out, laid_from}
use Rattle.image_entries.proofs.Ranking.{ordered_perm, layout-laid}

-- of the first i entries none has a smaller first word than the one at `at`
abbrev pub Least : List Entry → ℕ → ℕ → Type 0
Least es at i = All (λ e. get_or (get_or es at []) 0 0 ≤ get_or e 0 0) (take i es)

pub least_with : (es : List Entry) (at i : ℕ) → i < length es → Least es at i → get_or (get_or es at []) 0 0 ≤ get_or (get_or es i []) 0 0 → Least es at (i + 1)
least_with es at i h a k =
    subst (All (λ e. get_or (get_or es at []) 0 0 ≤ get_or e 0 0)) (sym (ap (λ (n : ℕ). take n es) (add-one i) ∙ take-suc es i [] h))
    (all_append (λ e. get_or (get_or es at []) 0 0 ≤ get_or e 0 0) (take i es) (get_or es i [] ∷ []) a (k, tt))

pub least_moved : (es : List Entry) (at i : ℕ) → i < length es → Least es at i → get_or (get_or es i []) 0 0 < get_or (get_or es at []) 0 0 → Least es i (i + 1)
least_moved es at i h a k = least_with es i i h (all_weaken (λ e q. omega arith) (take i es) a) (omega arith)

-- the distance of the last of l entries behind the first is that of entry l
pub last_entry : (es : List Entry) (l : ℕ) → l < length es → (l ≡ 0 → ⊥) → last_of (take l (drop 1 es)) ≡ entry_distance (get_or es l [])
unfolding last_of
last_entry es zero h n = absurd (n refl)
last_entry es (suc k) h n =
    last_taken entry_distance 0 (drop 1 es) [] k (omega (arith, length-drop 1 es))
    ∙ ap entry_distance (get_or-drop 1 es k [] ∙ ap (λ (i : ℕ). get_or es i []) (add_comm 1 k ∙ add-one k))

module _ (slot : ℕ → Row) (dist : Profile → Profile → ℕ) (n : ℕ) where
  -- an entry with a distance is one of the same slot
  pub measured_entry : (v : Row) (e : Entry) → IsEntry slot n e → IsEntry slot n (measuredIn slot dist v e)
  unfolding measuredIn entry entry_tag entry_place
  measured_entry v e s = record { pair = refl; tagged = s.tagged; within = s.within }

  module _ (es : List Entry) (at : ℕ) (within : at < length es) (least : All (λ e. get_or (get_or es at []) 0 0 ≤ get_or e 0 0) es) (sound : All (IsEntry slot n) es)
      (b : List Entry) (is : b ≡ brought [] es at) where
    first : Entry
    first = get_or es at []

    rest : List Entry
    rest = drop 1 (brought [] es at)

    permuted : Permᴰ (first ∷ rest) es
    unfolding first rest
    permuted = brought_perm [] es at within

    all_sound : All (IsEntry slot n) (first ∷ rest)
    all_sound = all_perm (IsEntry slot n) (Permᴰ.symm permuted) sound

    pub first-is : get_or b 0 [] ≡ get_or es at []
    first-is =
        ap (λ (l : List Entry). get_or l 0 []) is
        ∙ sym (get_or-take 1 (brought [] es at) 0 [] (omega arith))
        ∙ ap (λ (l : List Entry). get_or l 0 []) (brought_first [] es at within)

    pub first_within : entry_place (get_or b 0 []) < n
    unfolding first
    first_within = subst (λ (e : Entry). entry_place e < n) (sym first-is) all_sound.0.within

    rest-is : take (length b - 1) (drop 1 b) ≡ rest
    unfolding rest
    rest-is = part_rest 1 b ∙ ap (drop 1) is

    pub rest-sound : All (IsEntry slot n) (take (length b - 1) (drop 1 b))
    rest-sound = subst (All (IsEntry slot n)) (sym rest-is) all_sound.1

    module _ (last : List Entry) (v : Row) (from : v ≡ slot (entry_place (get_or b 0 []))) (sorted : last ≡ ordered (map (measuredIn slot dist v) (take (length b - 1) (drop 1 b)))) where
      last-is : last ≡ ordered (map (measuredIn slot dist (slot (entry_place first))) rest)
      unfolding first
      last-is =
          sorted
          ∙ ap₂ (λ (r : Row) (l : List Entry). ordered (map (measuredIn slot dist r) l)) (from ∙ ap (λ (e : Entry). slot (entry_place e)) first-is) rest-is

      whole_is : put_mid 1 (length b - 1) b last ≡ first ∷ ordered (map (measuredIn slot dist (slot (entry_place first))) rest)
      unfolding first
      whole_is = put_rest 1 b last ∙ ap₂ ◌++◌ (ap (take 1) is ∙ brought_first [] es at within) last-is

      -- the least first and the others in order: they hold the layout, and are entries of the same slots
      pub arranged-laid : laid_from slot dist (put_mid 1 (length b - 1) b last) ≡ laid_out slot dist es
      unfolding first
      arranged-laid =
          ap (laid_from slot dist) whole_is
          ∙ sym (layout-laid slot dist n first rest es permuted (all_perm (λ e. get_or first 0 0 ≤ get_or e 0 0) (Permᴰ.symm permuted) least).1 all_sound)

      pub arranged-sound : All (IsEntry slot n) (put_mid 1 (length b - 1) b last)
      arranged-sound =
          let far : List Entry = map (measuredIn slot dist (slot (entry_place first))) rest in
          subst (All (IsEntry slot n)) (sym whole_is) (
            all_sound.0,
            all_perm (IsEntry slot n) (Permᴰ.symm (ordered_perm far))
                (all_map (measuredIn slot dist (slot (entry_place first))) (IsEntry slot n) rest (all_weaken (measured_entry (slot (entry_place first))) rest all_sound.1)),
          )
