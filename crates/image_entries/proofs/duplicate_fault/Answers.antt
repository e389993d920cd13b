-- The entries are sorted, and the least place that is repeated among them is told.
use Rattle.std.proofs.Common.{◌≡◌, ℕ, ◌+◌, ◌<◌, Bool, true, false, List, map, sym, ap, ◌∙◌, arith}
use borrow.Author.Tests.{ne_eqb}
use Rattle.lists.specs.Lists.{All}
use Rattle.lists.proofs.Lists.{all_weaken}
use Rattle.search_rules.specs.Range.{Entry, Pair, ordered}
use Rattle.image_rules.specs.declared.Loaded.{Loaded}
use Rattle.image_rules.specs.Trees.{duplicate_tag}
use Rattle.image_entries.specs.Faults.{no_fault}
use Rattle.image_entries.specs.Entries.{places, first_word, Fresh}
use Rattle.image_entries.specs.Duplicates.{least_repeated, duplicate_at, duplicate_fault}
use Rattle.image_entries.proofs.duplicate_fault.Goals as goal

-- the entries after the sort
sorted : (es s : List Entry) → All Fresh es → (All Pair es → s ≡ ordered es) → s ≡ ordered es
sorted es s h f = f (all_weaken (λ e q. q.0) es h)

-- what the place that was found says
module _ (first : ℕ) (es s : List Entry) (is : s ≡ ordered es) where
  told : (place : ℕ) → place ≡ least_repeated places (map first_word s) → duplicate_at first place ≡ duplicate_fault first (ordered es)
  unfolding duplicate_fault
  told place found =
      ap (duplicate_at first) (found ∙ ap (λ (l : List Entry). least_repeated places (map first_word l)) is)

  none_told : places ≡ least_repeated places (map first_word s) → no_fault ≡ duplicate_fault first (ordered es)
  unfolding duplicate_at no_fault places
  none_told found = told places found

  one_told : (place : ℕ) → place < places → place ≡ least_repeated places (map first_word s)
      → record { refusal = duplicate_tag; slot = first + place } ≡ duplicate_fault first (ordered es)
  unfolding duplicate_at
  one_told place h found =
      ap (λ (b : Bool). elim b as (λ _. Loaded) [ true ↦ no_fault | false ↦ record { refusal = duplicate_tag; slot = first + place } ]) (sym (ne_eqb place places (λ e. omega arith))) ∙ told place found

pub returns-in-None : goal.returns-in-None
unfolding no_fault
returns-in-None c =
    let is_sorted = sorted c.args.entries.now c.sort_entries.new.entries c.requires.0 c.sort_entries.ensures in
    record { fault = none_told c.args.first _ _ is_sorted c.in-None.ensures.found; sorted = is_sorted }

pub returns-in-Some : goal.returns-in-Some
returns-in-Some c =
    let is_sorted = sorted c.args.entries.now c.sort_entries.new.entries c.requires.0 c.sort_entries.ensures in
    let found = c.in-Some.ensures in
    record { fault = one_told c.args.first _ _ is_sorted c.in-Some.place found.within found.found; sorted = is_sorted }
