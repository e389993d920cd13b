-- `lots_gather::enter_by_tag` meets its contract: the entries of all buckets, sorted where they lie, are those of the places by tag.
use native.Mathlib.Omega.{arith}
use Prim.Native.Nat.{ℕ, ◌≤◌}
use mathlib.Core.Path.{◌≡◌, refl, sym, ap, subst, ◌∙◌}
use mathlib.Core.List.{List, map}
use lib.ListN.{length, take, drop, length-map}
use lib.Seq.{length-take-le, take_at}
use Rattle.lists.specs.Lists.{All}
use Rattle.lists.proofs.Lists.{all_map, all_always}
use Rattle.search_rules.specs.Range.{Pair, ordered, entry}
use Rattle.tree_rules.proofs.Stores.{sets_front}
use Rattle.table_rules.specs.Table.{Table}
use Rattle.lots_gather.specs.Places.{all_places, place_entry}
use Rattle.lots_gather.proofs.Ordering.{entries_ordered, places_size}
use Rattle.lots_gather.proofs.enter_by_tag.Goals as goal

entries_pairs : (t : Table) (ps : List ℕ) → All Pair (map (place_entry t) ps)
unfolding place_entry entry
entries_pairs t ps = all_map (place_entry t) Pair ps (all_always (λ p. refl) ps)

pub returns : goal.returns
returns c =
    let s = c.args.table in
    let t = s.rows.now in
    let ps = all_places t in
    let enter = c.enter_buckets-n in
    let n = enter.result in
    let entered = enter.new.entries in
    let sort = c.sort_entries in
    let within : n ≤ length entered = omega (arith, enter.ensures.0, c.requires, enter.auto.entries) in
    let size : length sort.new.entries ≡ n = sort.auto.entries ∙ length-take-le n entered within in
    let front : take n entered ≡ map (place_entry t) ps =
    ap (take n) enter.ensures.1
    ∙ sets_front (map (place_entry t) ps) c.args.entries.now n (enter.ensures.0 ∙ sym (length-map ps (place_entry t))) (omega (arith, enter.ensures.0, c.requires))
    in (
      enter.ensures.0 ∙ sym (places_size s.passed),
      take_at sort.new.entries (drop n entered) n size
          ∙ sort.ensures (subst (All Pair) (sym front) (entries_pairs t ps))
          ∙ ap ordered front
          ∙ entries_ordered s.passed,
    )
