-- Every accepted change keeps the match of table and model: after fresh, add and remove the table is sound again, and its live items are the model's, with
-- the new one or without the one removed; after load and restore by the laws of images.
use Prim.Native.Nat.{ℕ, zero, suc, ◌^◌, ◌<◌}
use mathlib.Core.Path.{◌≡◌, refl, sym, ◌∙◌, ap, subst}
use mathlib.Core.Bool.{Bool, true, false, not, false≢true}
use mathlib.Core.List.{List, ◌∷◌, map, Permᴰ}
use mathlib.Core.Option.{Option, none, some}
use native.Mathlib.Omega.{arith}
use lib.Dec.{leb, eqb}
use lib.ListN.{length}
use borrow.Author.Tests.{leb-false, eq-eqb, ne_eqb}
use Rattle.lists.specs.Lists.{select, distinct, All}
use Rattle.lists.proofs.Lists.{all_weaken, all_of_map, perm_map, perm_of_eq}
use Rattle.lists.proofs.Distinct.{distinct_perm, distinct_pairs}
use Rattle.metric_rules.specs.declared.Profile.{Profile}
use Rattle.metric_rules.specs.Row.{IsProfile}
use Rattle.metric_rules.specs.declared.Space.{Space}
use Rattle.search_rules.proofs.Selecting.{select_all, select_no}
use Rattle.table_rules.specs.Refusals.{bad_tag, bad_measure, bad_day, already_live, not_live, full, unless}
use Rattle.table_rules.specs.Geometry.{room}
use Rattle.table_rules.specs.Table.{Table}
use Rattle.table_rules.specs.LookUp.{Place, find, is_live_tag}
use Rattle.table_rules.specs.Fresh.{fresh_refusal, fresh_table, table_after_fresh}
use Rattle.table_rules.specs.Add.{added}
use Rattle.table_rules.specs.Remove.{removed}
use Rattle.table_rules.proofs.Chains.{unless_zero, when_zero}
use Rattle.table_rules.proofs.Views.{same_order, same_space}
use Rattle.table_rules.proofs.Changes.{fresh_order, fresh_space}
use Rattle.table_rules.proofs.Live.{all_live_lem}
use Rattle.image_rules.specs.declared.Loaded.{Loaded}
use Rattle.image_rules.specs.Load.{or_loaded, load_refusal, loaded_table, table_after_load}
use Rattle.image_rules.proofs.Accepting.{accepted}
use Rattle.image_rules.proofs.ReadTests.{reads_live}
use Rattle.image_rules.proofs.LoadedTable.{loaded, loaded_reads}
use Rattle.state_rules.specs.Parts.{part_of, saved_image}
use Rattle.state_rules.specs.Restore.{name_refusal, restore_reply, restore_refusal, table_after_restore}
use Rattle.state_rules.proofs.Restored.{restored, restore_left, image_all}
use Rattle.call_rules.specs.Calls.{Begin, begin_reply, table_begun}
use Rattle.call_rules.specs.Calls.Begin.{fresh, load, restore}
use Rattle.history.specs.Trace.{begin_shown}
use Rattle.history.specs.History.{IsBegin}
use Rattle.history.specs.Figures.{tag_sound, measures_within}
use Rattle.history.specs.LoadTests.{image_in}
use Rattle.history.specs.Model.{Item, item_of, Model, is_in, with, without, item_refusal, tag_refusal, image_model, model_begun}
use Rattle.history.specs.Represents.{items_in}
use Rattle.history.proofs.BuildsKeep.{item_placed, new_item}
use Rattle.history.proofs.InvariantFresh.{Freshable, freshable, invariant_fresh, fresh_live}
use Rattle.history.proofs.InvariantAdd.{Addable, invariant_added, added_only, added_live}
use Rattle.history.proofs.InvariantRemove.{invariant_removed, removed_only, removed-live, removed_tag}
use Rattle.history.proofs.RefinesLists.{select_perm}
use Rattle.history.proofs.RefinesRepresents.{tags_once}
use Rattle.history.proofs.ImagesLoaded.{loaded_invariant}
use Rattle.history.proofs.LoadTests.{tag_sound_lem, some_not_none, restore_refusal_lem, restored_image}
use Rattle.history.proofs.Figured.{measures_within_lem}
use Rattle.history.proofs.LoadItems.{read_model, image_model_lem}
use Rattle.history.proofs.RefinesItems.{Matches, live_total_lem}
use Rattle.history.proofs.RefinesRefusals.{live_alike}

items_live : (t : Table) → items_in t ≡ map item_of (all_live_lem t)
unfolding items_in all_live_lem
items_live t = refl

pub matches_fresh : (order : ℕ) (space : Space) (t : Table) → length space.weights.each ≡ 4 → fresh_refusal (length t) order space ≡ 0
    → Matches (fresh_table order space t) (model_begun (fresh order space))
unfolding model_begun
matches_fresh order space t four h =
    let ok : Freshable (length t) order space = freshable (length t) order space four h in
    record {
      invariant = invariant_fresh order space t ok;
      order = fresh_order order space t;
      space = fresh_space order space t ok.four;
      same = perm_of_eq (items_live (fresh_table order space t) ∙ ap (map item_of) (fresh_live order space t ok));
    }

-- a loaded table matches the model that is fed the image
pub read_matches : (image : List ℕ) (t : Table) → All (λ b. b < 2 ^ 8) image → load_refusal (length t) image ≡ 0
    → Matches (loaded_table image t) (read_model image)
unfolding items_in
read_matches image t bytes h =
    let ok = accepted (length t) image h in
    let here = loaded image t ok in
    record {
      invariant = loaded_invariant image t bytes ok;
      order = here.order;
      space = here.space;
      same = perm_of_eq (ap (map item_of) (sym (reads_live (loaded_table image t) (loaded_reads image t (loaded_table image t) here))));
    }

load_matches : (image : List ℕ) (t : Table) → All (λ b. b < 2 ^ 8) image → load_refusal (length t) image ≡ 0 → Matches (loaded_table image t) (image_model image)
load_matches image t bytes h = subst (Matches (loaded_table image t)) (image_model_lem image) (read_matches image t bytes h)

-- what the model asked of an accepted add
module _ {t : Table} {m : Model} (ok : Matches t m) where
  model_addable : (tag : ℕ) (p : Profile) (day : ℕ) → item_refusal m tag p day ≡ 0 → Addable t tag p day
  unfolding item_refusal room
  model_addable tag p day h =
      let named = unless_zero (tag_sound tag) bad_tag _ (omega arith) h in
      let measured = unless_zero (measures_within p) bad_measure _ (omega arith) named.1 in
      let weighed = when_zero (eqb day 0) bad_day _ (omega arith) measured.1 in
      let new = when_zero (is_in m tag) already_live _ (omega arith) weighed.1 in
      let roomy = when_zero (leb (2 ^ m.order) (length m.items)) full 0 (omega arith) new.1 in
      record {
        validated = tag_sound_lem tag ∙ named.0;
        measures = measures_within_lem p ∙ measured.0;
        weighed = some_not_none day ∙ ap not weighed.0;
        new = live_alike ok tag ∙ new.0;
        not_full = rw (ok.order, live_total_lem ok) (leb-false (2 ^ m.order) (length m.items) roomy.0);
      }

  pub matches_added : (tag : ℕ) (p : Profile) (day : ℕ) → tag < 2 ^ 64 → IsProfile p → day < 2 ^ 16 → item_refusal m tag p day ≡ 0
      → Matches (added t tag p day).table (with (record { tag = tag; profile = p; day = day }) m)
  unfolding with
  matches_added tag p day fits isProfile dayFits h =
      let asked : Addable t tag p day = model_addable tag p day h in
      let only = added_only ok.invariant tag p day fits isProfile dayFits asked in
      record {
        invariant = invariant_added ok.invariant tag p day fits isProfile dayFits asked;
        order = same_order only.header ∙ ok.order;
        space = same_space only.header ∙ ok.space;
        same =
            mathlib.Core.List.Permᴰ.trans (perm_of_eq (items_live (added t tag p day).table))
            (mathlib.Core.List.Permᴰ.trans (added_live ok.invariant tag p day fits isProfile dayFits asked item_of item_placed)
            (mathlib.Core.List.Permᴰ.cons (new_item tag p day isProfile) (mathlib.Core.List.Permᴰ.trans (perm_of_eq (sym (items_live t))) ok.same)));
      }

-- no tag twice: without those of the tag, the items are those that stay
struck : (tag : ℕ) (i : Item) (items stay : List Item) → i.tag ≡ tag → Permᴰ items (i ∷ stay) → distinct (map (λ j. j.tag) items) ≡ true
    → Permᴰ (select (λ j. not (eqb j.tag tag)) items) stay
struck tag i items stay e p once =
    let keeps : Item → Bool = λ j. not (eqb j.tag tag) in
    let gone : keeps i ≡ false = ap not (eq-eqb i.tag tag e) in
    let apart : All (λ n. i.tag ≡ n → ⊥) (map (λ j. j.tag) stay) =
    (distinct_pairs (map (λ j. j.tag) (i ∷ stay)) (distinct_perm (perm_map (λ j. j.tag) p) once)).0 in
    let kept : All (λ j. keeps j ≡ true) stay =
    all_weaken (λ j a. ap not (ne_eqb j.tag tag (λ q. a (e ∙ sym q)))) stay (all_of_map (λ j. j.tag) (λ n. i.tag ≡ n → ⊥) stay apart) in
    mathlib.Core.List.Permᴰ.trans (select_perm keeps p) (perm_of_eq (select_no keeps i stay gone ∙ select_all keeps stay kept))

-- what the model asked of an accepted removal: the table finds the tag
module _ {t : Table} {m : Model} (ok : Matches t m) where
  model_removable : (tag : ℕ) → tag_refusal m tag ≡ 0 → (place : Place) × (find t tag ≡ some place)
  unfolding tag_refusal is_live_tag
  model_removable tag h = go (tag_sound tag) (is_in m tag) (find t tag) refl (live_alike ok tag) h
    where
      go :
          (a there : Bool) (o : Option Place) → find t tag ≡ o → is_live_tag t tag ≡ there → unless a bad_tag (unless there not_live 0) ≡ 0
          → (place : Place) × (find t tag ≡ some place)
      go false there o e f h = absurd (omega arith)
      go true false o e f h = absurd (omega arith)
      go true true none e f h = absurd (false≢true (sym (ap (λ (p : Option Place). elim p as (λ _. Bool) [ some place ↦ true | none ↦ false ]) e) ∙ f))
      go true true (some place) e f h = (place, e)

  pub matches_removed : (tag : ℕ) → tag_refusal m tag ≡ 0 → Matches (removed t tag).table (without tag m)
  unfolding without item_of
  matches_removed tag h =
      let there = model_removable tag h in
      let place : Place = there.0 in
      let only = removed_only ok.invariant tag place there.1 in
      let u : Table = (removed t tag).table in
      let stay : Permᴰ m.items (item_of place.row ∷ map item_of (all_live_lem u)) =
      mathlib.Core.List.Permᴰ.trans (mathlib.Core.List.Permᴰ.symm ok.same)
      (mathlib.Core.List.Permᴰ.trans (perm_of_eq (items_live t)) (removed-live ok.invariant tag place there.1 item_of item_placed)) in
      record {
        invariant = invariant_removed ok.invariant tag place there.1;
        order = same_order only.header ∙ ok.order;
        space = same_space only.header ∙ ok.space;
        same =
            mathlib.Core.List.Permᴰ.trans (perm_of_eq (items_live u))
            (mathlib.Core.List.Permᴰ.symm
            (struck tag (item_of place.row) m.items (map item_of (all_live_lem u)) (removed_tag ok.invariant tag place there.1) stay (tags_once ok)));
      }

-- an accepted call that begins a table begins the model's, and a refused one leaves what lay there
pub fresh_matches : (order : ℕ) (space : Space) → length space.weights.each ≡ 4 → (t : Table) → fresh_refusal (length t) order space ≡ 0
    → Matches (table_after_fresh order space t) (model_begun (fresh order space))
unfolding table_after_fresh
fresh_matches order space four t e =
    subst (λ (n : ℕ). Matches (elim n as (λ _. Table) [ zero ↦ fresh_table order space t | suc j ↦ t ]) (model_begun (fresh order space))) (sym e)
    (matches_fresh order space t four e)

after_load_matches : (image : List ℕ) (t : Table) → All (λ b. b < 2 ^ 8) image → load_refusal (length t) image ≡ 0
    → Matches (table_after_load image t) (image_model image)
unfolding table_after_load
after_load_matches image t bytes e =
    subst (λ (n : ℕ). Matches (elim n as (λ _. Table) [ zero ↦ loaded_table image t | suc j ↦ t ]) (image_model image)) (sym e) (load_matches image t bytes e)

-- a restore that is not refused is not by its name or its part
named_first : (n : ℕ) (reply : Loaded) → (or_loaded n reply).refusal ≡ 0 → n ≡ 0
named_first zero reply e = refl
named_first (suc n) reply e = e

-- the image that an accepted restore loads, in the model's places
pub accepted_image : (states : List ℕ) (name : ℕ) (t : Table) → restore_refusal (length t) states name ≡ 0
    → saved_image (part_of states name) ≡ image_in states name
unfolding restore_refusal restore_reply
accepted_image states name t e = restored_image states name (sym (restore_refusal_lem states name) ∙ named_first (name_refusal states name) _ e)

pub begin_matches : (b : Begin) → IsBegin b → (t : Table) → (begin_shown b (begin_reply b (length t))).refusal ≡ 0 → Matches (table_begun b t) (model_begun b)
unfolding begin_shown model_begun load_refusal restore_refusal restore_reply
begin_matches (fresh order space) is t e = fresh_matches order space is.1.weights.four t e
begin_matches (load image) is t e = after_load_matches image t is e
begin_matches (restore states name) is t e =
    let image = saved_image (part_of states name) in
    let as_Load = restored states name t e in
    let same : image ≡ image_in states name = accepted_image states name t e in
    subst (λ (bytes : List ℕ). Matches (table_after_restore states name t) (image_model bytes)) same
    (subst (λ (u : Table). Matches u (image_model image)) (sym as_Load.1)
    (after_load_matches image t (image_all states name (λ b. b < 2 ^ 8) is.0) as_Load.0))

pub begin_refused : (b : Begin) (t : Table) (n : ℕ) → (begin_shown b (begin_reply b (length t))).refusal ≡ suc n → table_begun b t ≡ t
unfolding begin_shown table_after_fresh table_after_load load_refusal restore_refusal
begin_refused (fresh order space) t n e = ap (λ (k : ℕ). elim k as (λ _. Table) [ zero ↦ fresh_table order space t | suc j ↦ t ]) e
begin_refused (load image) t n e = ap (λ (k : ℕ). elim k as (λ _. Table) [ zero ↦ loaded_table image t | suc j ↦ t ]) e
begin_refused (restore states name) t n e = restore_left states name t n e
