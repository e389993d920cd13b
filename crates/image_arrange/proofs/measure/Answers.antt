-- The first i entries have their distances, and the others stand as they did.
use native.Mathlib.Omega.{arith}
use mathlib.Core.Path.{◌≡◌, refl, sym, ◌∙◌, ap, subst}
use mathlib.Core.List.{List, [], ◌∷◌, map}
use Prim.Native.Nat.{ℕ, ◌%◌, ◌<◌}
use lib.ListN.{length, length-map, get_or}
use Rattle.lists.specs.Lists.{All}
use Rattle.lists.proofs.Lists.{all_at}
use Rattle.metric_rules.specs.Row.{Row, profile_of}
use Rattle.metric_rules.specs.Distance.{distance, space_of}
use Rattle.tree_rules.proofs.Parts.{written_to, written_at, written_step, written_all, get_or_mapped}
use Rattle.metric_rules.specs.declared.Profile.{Profile}
use Rattle.search_rules.specs.Range.{Entry, entry}
use Rattle.image_entries.specs.Entries.{places, entry_place, IsEntry, measuredIn}
use Rattle.image_read.specs.Slots.{slot_in}
use Rattle.image_arrange.proofs.measure.Goals as goal

module _ (slot : ℕ → Row) (dist : Profile → Profile → ℕ) (v : Row) (n : ℕ) (old es : List Entry) (i : ℕ) where
  -- what stands at i is still the old entry
  old_at : i < length old → es ≡ written_to old (map (measuredIn slot dist v) old) i → get_or es i [] ≡ get_or old i []
  old_at h e = ap (λ (l : List Entry). get_or l i []) e ∙ written_at old (map (measuredIn slot dist v) old) (length-map old (measuredIn slot dist v)) [] i h

  place_within : All (IsEntry slot n) old → i < length old → es ≡ written_to old (map (measuredIn slot dist v) old) i → get_or (get_or es i []) 0 0 % 8192 < n
  unfolding entry_place places
  place_within s h e = subst (λ (x : Entry). get_or x 0 0 % 8192 < n) (sym (old_at h e)) (all_at (IsEntry slot n) old i h s).within

  measured_at :
      (d : ℕ) → i < length old → es ≡ written_to old (map (measuredIn slot dist v) old) i
      → d ≡ dist (profile_of v) (profile_of (slot (get_or (get_or es i []) 0 0 % 8192)))
      → get_or (get_or es i []) 0 0 ∷ d ∷ [] ≡ get_or (map (measuredIn slot dist v) old) i []
  unfolding measuredIn entry entry_place places
  measured_at d h e q =
      ap (λ (k : ℕ). get_or (get_or es i []) 0 0 ∷ k ∷ []) q
      ∙ ap (measuredIn slot dist v) (old_at h e)
      ∙ sym (get_or_mapped (measuredIn slot dist v) old i [] [] h)

pub loop-entry-init : goal.loop-entry-init
loop-entry-init c = refl

pub slot-row-requires : goal.slot-row-requires
slot-row-requires c =
    let a = c.args in
    let l = c.loop-entry in
    place_within (slot_in a.slots) (distance (space_of a.header.now)) a.v a.slots.count a.entries.now l.entries l.entry-index c.requires (omega arith) l.invariant

pub loop-entry-preserved : goal.loop-entry-preserved
loop-entry-preserved c =
    let a = c.args in
    let l = c.loop-entry in
    let i = l.entry-index in
    let h : i < length a.entries.now = omega arith in
    let slot : ℕ → Row = slot_in a.slots in
    let dist : Profile → Profile → ℕ = distance (space_of a.header.now) in
    let x : Entry = get_or (get_or l.entries i []) 0 0 ∷ c.from.result ∷ [] in
    written_step a.entries.now (map (measuredIn slot dist a.v) a.entries.now) (length-map a.entries.now (measuredIn slot dist a.v)) []
    l.entries x i h l.invariant
    (measured_at slot dist a.v a.slots.count a.entries.now l.entries i c.from.result h l.invariant
    (c.from.ensures ∙ c.distance_between.ensures ∙ ap (λ (r : Row). dist (profile_of a.v) (profile_of r)) c.slot-row.ensures))

pub returns : goal.returns
returns c =
    let a = c.args in
    let l = c.loop-entry in
    let slot : ℕ → Row = slot_in a.slots in
    let dist : Profile → Profile → ℕ = distance (space_of a.header.now) in
    l.invariant ∙ written_all a.entries.now (map (measuredIn slot dist a.v) a.entries.now) (length-map a.entries.now (measuredIn slot dist a.v)) [] l.entry-index (omega arith)
