-- `tree_arrange::arrange` meets its contract: what stands behind the first row is measured from it, copied to the destination and sorted, and the
-- row brought to the front is the least.
use native.Mathlib.Omega.{arith}
use mathlib.Core.Path.{◌≡◌, sym, ◌∙◌, ap, ap₂}
use mathlib.Core.Bool.{true}
use mathlib.Core.List.{List, [], ◌∷◌, ◌++◌, map, Permᴰ}
use Prim.Native.Nat.{ℕ, ◌-◌, ◌≤◌, ◌<◌}
use lib.Seq.{get_or-take}
use lib.ListN.{length, take, drop, get_or, length-set, length-take, length-drop}
use borrow.Rule.Slice.PartMut.{put_mid}
use Rattle.std.proofs.lemmas.List.Edits.{swap_is}
use Rattle.lists.specs.Lists.{every}
use Rattle.lists.proofs.Lists.{all_perm}
use Rattle.lists.proofs.Tests.{every_all}
use Rattle.metric_rules.specs.Row.{Row}
use Rattle.metric_rules.specs.declared.Space.{Space}
use Rattle.metric_rules.specs.Distance.{distance, space_of}
use Rattle.tree_rules.specs.Sorting.{key_le, sort_by}
use Rattle.tree_rows.specs.Working.{work_key, first_key, RanksApart, measured_from, sorted_from, arranged}
use Rattle.tree_rules.proofs.Sorting.{NotAfter}
use Rattle.tree_rules.proofs.Parts.{part_rest, put_rest, part_behind, put_behind}
use Rattle.tree_rules.proofs.Brought.{brought, brought_perm, brought_first}
use Rattle.tree_arrange.proofs.Arranging.{arranged_by}
use Rattle.tree_arrange.proofs.arrange.Goals as goal

-- a slice whose rest was lent and given back as `new`: what is lent of it next is `new`
again : (whole new : List Row) → 1 ≤ length whole
    → take (length (put_mid 1 (length whole - 1) whole new) - 1) (drop 1 (put_mid 1 (length whole - 1) whole new)) ≡ new
again whole new h =
    ap (λ (w : List Row). take (length w - 1) (drop 1 w)) (put_rest 1 whole new)
    ∙ part_behind 1 (take 1 whole) new (omega (arith, length-take 1 whole))

-- and given back once more as `last`
twice : (whole new last : List Row) → 1 ≤ length whole
    → put_mid 1 (length (put_mid 1 (length whole - 1) whole new) - 1) (put_mid 1 (length whole - 1) whole new) last ≡ take 1 whole ++ last
twice whole new last h =
    ap (λ (w : List Row). put_mid 1 (length w - 1) w last) (put_rest 1 whole new)
    ∙ put_behind 1 (take 1 whole) new (omega (arith, length-take 1 whole)) last

module _ (space : Space) (src : List Row) (at : ℕ) (within : at < length src)
    (least : every (λ x. key_le (first_key (get_or src at [])) (first_key x)) src ≡ true) (apart : RanksApart src) where
  -- the least row in front, and the others sorted from it
  in_order :
      take 1 (brought [] src at) ++ sort_by work_key (map (measured_from (distance space) (get_or src at [])) (drop 1 (brought [] src at)))
      ≡ arranged (distance space) src
  unfolding sorted_from
  in_order =
      let v : Row = get_or src at [] in
      let p : Permᴰ (v ∷ drop 1 (brought [] src at)) src = brought_perm [] src at within in
      ap (λ (f : List Row). f ++ sort_by work_key (map (measured_from (distance space) v) (drop 1 (brought [] src at)))) (brought_first [] src at within)
      ∙ sym (arranged_by (distance space) v (drop 1 (brought [] src at)) src p
      (all_perm (NotAfter first_key v) (mathlib.Core.List.Permᴰ.symm p) (every_all (λ x. key_le (first_key v) (first_key x)) src least)).1 apart)

  finished :
      (first measured last : List Row) → first ≡ brought [] src at
      → measured ≡ map (measured_from (distance space) (get_or first 0 [])) (take (length first - 1) (drop 1 first))
      → last ≡ sort_by work_key (take (length (put_mid 1 (length first - 1) first measured) - 1) (drop 1 (put_mid 1 (length first - 1) first measured)))
      → put_mid 1 (length (put_mid 1 (length first - 1) first measured) - 1) (put_mid 1 (length first - 1) first measured) last ≡ arranged (distance space) src
  finished first measured last e m l =
      let n : length first ≡ length src = ap length e ∙ simp length-set in
      let v : get_or first 0 [] ≡ get_or src at [] =
      sym (get_or-take 1 first 0 [] (omega arith))
      ∙ ap (λ (f : List Row). get_or (take 1 f) 0 []) e
      ∙ ap (λ (f : List Row). get_or f 0 []) (brought_first [] src at within) in
      twice first measured last (omega arith)
      ∙ ap (λ (q : List Row). take 1 first ++ q)
      (l ∙ ap (sort_by work_key) (again first measured (omega arith) ∙ m ∙ ap₂ (λ (w : Row) (r : List Row). map (measured_from (distance space) w) r) v (part_rest 1 first)))
      ∙ ap (λ (f : List Row). take 1 f ++ sort_by work_key (map (measured_from (distance space) (get_or src at [])) (drop 1 f))) e
      ∙ in_order

pub sort-requires : goal.sort-requires
sort-requires c =
    let m = c.measure-count in
    let a = c.args in
    let b : List Row = c.swap.new.self in
    let k : length b ≡ length a.src.now = c.swap.ensures.len in
    let p = c.requires in
    again a.dst.now m.new.dst (omega (arith, p.0, p.1)) ∙ m.ensures.copied ∙ sym (again b m.new.src (omega (arith, k, p.1)))

pub returns : goal.returns
returns c =
    let m = c.measure-count in
    let b = c.swap in
    let f = c.first_at-at in
    let k : length b.new.self ≡ length c.args.src.now = b.ensures.len in
    record {
      arranged =
          finished (space_of c.args.header.now) c.args.src.now f.result f.ensures.0 f.ensures.1 c.requires.2 b.new.self m.new.src c.sort.new.rows
          (b.ensures.after ∙ sym (swap_is c.args.src.now 0 f.result [] (omega arith) f.ensures.0)) m.ensures.measured c.sort.ensures;
      counted = m.ensures.counted ∙ ap length (part_rest 1 b.new.self) ∙ length-drop 1 b.new.self ∙ ap (λ (n : ℕ). n - 1) k;
    }
