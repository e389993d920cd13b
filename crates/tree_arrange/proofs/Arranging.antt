-- Working rows and ranked rows: a part's rows as a build arranges them hold a node of their layout, whatever the order in which they stood,
-- since their ranks tell them apart and the words that a build writes do not count.
use Prim.Native.Nat.{ℕ, zero, suc, ◌+◌, ◌≤◌, ◌<◌}
use native.Mathlib.Nat.{add_comm}
use native.Mathlib.Numerals.{add-one}
use native.Mathlib.Omega.{arith}
use mathlib.Core.Path.{◌≡◌, refl, sym, ◌∙◌, ap, ap₂, subst}
use mathlib.Core.List.{List, [], ◌∷◌, ◌++◌, map, map-map, Permᴰ}
use lib.ListN.{length, length-map, length-drop, length-set, get_or, take, drop}
use lib.Seq.{take-suc, get_or-drop}
use Rattle.lists.specs.Lists.{last, All}
use Rattle.lists.proofs.Lists.{Pairs, all_append, all_always, all_weaken, all_perm, all_take, all_map, pairs_weaken, pairs_perm, pairs_map, perm_map, map_take}
use Rattle.lists.proofs.Lists.{map_drop, map_alike, map_where, last_taken}
use Rattle.metric_rules.specs.declared.Profile.{Profile}
use Rattle.metric_rules.specs.Row.{Row, row_width, threshold_at, mark_at, threshold_of, mark_of, with_threshold, with_mark}
use Rattle.metric_rules.proofs.Codec.{threshold_with_threshold, tag_with_threshold, mark_with_threshold, mark_with_mark}
use Rattle.tree_rules.specs.Sorting.{sort_by}
use Rattle.tree_rules.specs.Layout.{left_size, Ranked, ranked_from, tag_key, placed, from_pivot, near_key, last_distance, split, node, layout}
use Rattle.tree_rules.specs.Guided.{from_slot, Whole}
use Rattle.tree_rows.specs.Working.{work_key, first_key, ranked_of, ranks_written, RanksApart, measured_from, sorted_from, arranged, last_measured}
use Rattle.tree_rules.proofs.Sorting.{NotAfter, Determined, sort_cons, sort_perm, sort_length, sort_permuted, insert_first, sort_map}
use Rattle.tree_rules.proofs.Placed.{placed_with_threshold, placed_with_mark}
use Rattle.tree_rules.proofs.Layouts.{stripped, layout_of, layout_ranked, layout_node, layout_stripped}

abbrev pub Apart : Row → Row → Type 0
Apart r s = mark_of r ≡ mark_of s → ⊥

pub ranks_pairs : (rows : List Row) → RanksApart rows → Pairs Apart rows
ranks_pairs [] h = tt
ranks_pairs (r ∷ rs) h = (h.0, ranks_pairs rs h.1)

pub pairs_ranks : (rows : List Row) → Pairs Apart rows → RanksApart rows
pairs_ranks [] h = tt
pairs_ranks (r ∷ rs) h = (h.0, pairs_ranks rs h.1)

determined_first : (r s : Row) → Apart r s → Determined first_key r s
unfolding first_key
determined_first r s n e = absurd (n (ap (λ (k : List ℕ). get_or k 1 0) e))

determined_work : (r s : Row) → Apart r s → Determined work_key r s
unfolding work_key
determined_work r s n e = absurd (n (ap (λ (k : List ℕ). get_or k 2 0) e))

apart_flip : (r s : Row) → Apart r s → Apart s r
apart_flip r s n e = n (sym e)

module _ (dist : Profile → Profile → ℕ) where
  measured_mark : (v r : Row) → mark_of (measured_from dist v r) ≡ mark_of r
  unfolding measured_from
  measured_mark v r = mark_with_threshold r (from_slot dist v r)

  measured_apart : (v r s : Row) → Apart r s → Apart (measured_from dist v r) (measured_from dist v s)
  measured_apart v r s n e = n (sym (measured_mark v r) ∙ e ∙ measured_mark v s)

  -- the least row first and the others in any order: sorted from it, they are the rows arranged
  pub arranged_by :
      (v : Row) (rest rows : List Row) → Permᴰ (v ∷ rest) rows → All (NotAfter first_key v) rest → RanksApart rows
      → arranged dist rows ≡ sorted_from dist (v ∷ rest)
  unfolding arranged sorted_from
  arranged_by v rest rows p least apart =
      let other : Pairs Apart (v ∷ rest) = pairs_perm Apart apart_flip (mathlib.Core.List.Permᴰ.symm p) (ranks_pairs rows apart) in
      ap (sorted_from dist)
      (sym (sort_permuted first_key p (pairs_weaken determined_first (v ∷ rest) other))
      ∙ sort_cons first_key v rest
      ∙ insert_first first_key v (sort_by first_key rest) (all_perm (NotAfter first_key v) (mathlib.Core.List.Permᴰ.symm (sort_perm first_key rest)) least))
      ∙ ap (λ (rs : List Row). v ∷ rs)
      (sym
      (sort_permuted work_key (perm_map (measured_from dist v) (mathlib.Core.List.Permᴰ.symm (sort_perm first_key rest)))
      (pairs_map (measured_from dist v) (Determined work_key) rest
      (pairs_weaken (λ r s n. determined_work (measured_from dist v r) (measured_from dist v s) (measured_apart v r s n)) rest other.1))))

  sorted_from_length : (s : List Row) → length (sorted_from dist s) ≡ length s
  unfolding sorted_from
  sorted_from_length [] = refl
  sorted_from_length (v ∷ rest) = ap suc (sort_length work_key (map (measured_from dist v) rest) ∙ length-map rest (measured_from dist v))

  pub arranged_length : (rows : List Row) → length (arranged dist rows) ≡ length rows
  unfolding arranged
  arranged_length rows = sorted_from_length (sort_by first_key rows) ∙ sort_length first_key rows

  sorted_from_apart : (s : List Row) → Pairs Apart s → Pairs Apart (sorted_from dist s)
  unfolding sorted_from
  sorted_from_apart [] h = tt
  sorted_from_apart (v ∷ rest) h =
      let p : Permᴰ (map (measured_from dist v) rest) (sort_by work_key (map (measured_from dist v) rest)) =
      mathlib.Core.List.Permᴰ.symm (sort_perm work_key (map (measured_from dist v) rest)) in (
        all_perm (Apart v) p (all_map (measured_from dist v) (Apart v) rest (all_weaken (λ r n e. n (e ∙ measured_mark v r)) rest h.0)),
        pairs_perm Apart apart_flip p (pairs_map (measured_from dist v) Apart rest (pairs_weaken (measured_apart v) rest h.1)),
      )

  -- arranged rows keep their ranks
  pub arranged_apart : (rows : List Row) → RanksApart rows → Pairs Apart (arranged dist rows)
  unfolding arranged
  arranged_apart rows h =
      sorted_from_apart (sort_by first_key rows) (pairs_perm Apart apart_flip (mathlib.Core.List.Permᴰ.symm (sort_perm first_key rows)) (ranks_pairs rows h))

  measured_width : (v r : Row) → length r ≡ row_width → length (measured_from dist v r) ≡ row_width
  unfolding measured_from with_threshold
  measured_width v r w = length-set r threshold_at (from_slot dist v r) ∙ w

  sorted_from_whole : (s : List Row) → Whole s → Whole (sorted_from dist s)
  unfolding sorted_from
  sorted_from_whole [] w = tt
  sorted_from_whole (v ∷ rest) w = (
    w.0,
    all_perm (λ r. length r ≡ row_width) (mathlib.Core.List.Permᴰ.symm (sort_perm work_key (map (measured_from dist v) rest)))
        (all_map (measured_from dist v) (λ r. length r ≡ row_width) rest (all_weaken (measured_width v) rest w.1)),
  )

  -- and have all their words
  pub arranged_whole : (rows : List Row) → Whole rows → Whole (arranged dist rows)
  unfolding arranged
  arranged_whole rows w =
      sorted_from_whole (sort_by first_key rows) (all_perm (λ r. length r ≡ row_width) (mathlib.Core.List.Permᴰ.symm (sort_perm first_key rows)) w)

  -- the node that arranged rows hold
  unfoldable pub laid_from : List Row → List Row
  laid_from [] = []
  laid_from (v ∷ near) =
      let l = left_size (suc (length near)) in
      placed (last_measured (take l near)) v ∷ layout_of dist (map ranked_of (take l near)) ++ layout_of dist (map ranked_of (drop l near))

  module _ (v : Row) where
    -- a row's key while it is measured from v
    keyFrom : Row → List ℕ
    keyFrom r = near_key dist (ranked_of v) (ranked_of r)

    measured-key : (r : Row) → length r ≡ row_width → work_key (measured_from dist v r) ≡ keyFrom r
    unfolding work_key keyFrom measured_from near_key ranked_of from_slot
    measured-key r w =
        ap₂ (λ (m : ℕ) (k : List ℕ). m ∷ k) (threshold_with_threshold r (from_slot dist v r) w)
        (ap₂ (λ (t m : ℕ). t ∷ m ∷ []) (tag_with_threshold r (from_slot dist v r)) (mark_with_threshold r (from_slot dist v r)))

    stripped-measured : (r : Row) → stripped (ranked_of (measured_from dist v r)) ≡ stripped (ranked_of r)
    unfolding stripped ranked_of measured_from
    stripped-measured r =
        ap₂ (λ (a : Row) (n : ℕ). record { row = a; rank = n }) (placed_with_threshold 0 r (from_slot dist v r)) (mark_with_threshold r (from_slot dist v r))

    layout-measured : (rs : List Row) → layout_of dist (map ranked_of (map (measured_from dist v) rs)) ≡ layout_of dist (map ranked_of rs)
    layout-measured rs =
        layout_stripped dist (map ranked_of (map (measured_from dist v) rs)) (map ranked_of rs)
        (ap (map stripped) (map-map ranked_of (measured_from dist v) rs)
        ∙ map-map stripped (λ r. ranked_of (measured_from dist v r)) rs
        ∙ map_alike stripped-measured rs
        ∙ sym (map-map stripped ranked_of rs))

    written : (r : Row) → length r ≡ row_width → threshold_of (measured_from dist v r) ≡ from_pivot dist (ranked_of v) (ranked_of r)
    unfolding work_key keyFrom near_key
    written r w = ap (λ (k : List ℕ). get_or k 0 0) (measured-key r w)

    last-measured : (rs : List Row) → Whole rs → last_distance dist (ranked_of v) (map ranked_of rs) ≡ last_measured (map (measured_from dist v) rs)
    unfolding last_distance last_measured
    last-measured rs w =
        ap (last 0)
        (map-map (from_pivot dist (ranked_of v)) ranked_of rs
        ∙ sym (map-map threshold_of (measured_from dist v) rs
        ∙ map_where (λ r. threshold_of (measured_from dist v r)) (λ r. from_pivot dist (ranked_of v) (ranked_of r)) rs (all_weaken written rs w)))

    -- v over its rest in order, which is measured from v
    split-measured :
        (rs : List Row) → Whole rs
        → split dist (layout_of dist) (ranked_of v) (map ranked_of rs) ≡ laid_from (v ∷ map (measured_from dist v) rs)
    unfolding split laid_from ranked_of
    split-measured rs w =
        let l : ℕ = left_size (suc (length rs)) in
        let m : Row → Row = measured_from dist v in
        ap (λ (n : ℕ). placed (last_distance dist (ranked_of v) (take (left_size (suc n)) (map ranked_of rs))) v
        ∷ layout_of dist (take (left_size (suc n)) (map ranked_of rs)) ++ layout_of dist (drop (left_size (suc n)) (map ranked_of rs))) (length-map rs ranked_of)
        ∙ ap₂ (λ (a b : List Ranked). placed (last_distance dist (ranked_of v) a) v ∷ layout_of dist a ++ layout_of dist b)
        (map_take ranked_of l rs)
        (map_drop ranked_of l rs)
        ∙ ap (λ (d : ℕ). placed d v ∷ layout_of dist (map ranked_of (take l rs)) ++ layout_of dist (map ranked_of (drop l rs)))
        (last-measured (take l rs) (all_take (λ r. length r ≡ row_width) l rs w))
        ∙ ap₂ (λ (a b : List Row). placed (last_measured (map m (take l rs))) v ∷ a ++ b)
        (sym (layout-measured (take l rs)))
        (sym (layout-measured (drop l rs)))
        ∙ ap₂ (λ (a b : List Row). placed (last_measured a) v ∷ layout_of dist (map ranked_of a) ++ layout_of dist (map ranked_of b))
        (sym (map_take m l rs))
        (sym (map_drop m l rs))
        ∙ ap (λ (n : ℕ). placed (last_measured (take (left_size (suc n)) (map m rs))) v
        ∷ layout_of dist (map ranked_of (take (left_size (suc n)) (map m rs))) ++ layout_of dist (map ranked_of (drop (left_size (suc n)) (map m rs))))
        (sym (length-map rs m))

    first-laid :
        (rest : List Row) → Whole rest
        → split dist (layout_of dist) (ranked_of v) (sort_by (near_key dist (ranked_of v)) (map ranked_of rest)) ≡ laid_from (v ∷ sort_by work_key (map (measured_from dist v) rest))
    unfolding keyFrom
    first-laid rest w =
        ap (split dist (layout_of dist) (ranked_of v)) (sort_map ranked_of (near_key dist (ranked_of v)) keyFrom rest (all_always (λ r. refl) rest))
        ∙ split-measured (sort_by keyFrom rest) (all_perm (λ r. length r ≡ row_width) (mathlib.Core.List.Permᴰ.symm (sort_perm keyFrom rest)) w)
        ∙ ap (λ (rs : List Row). laid_from (v ∷ rs))
        (sym (sort_map (measured_from dist v) work_key keyFrom rest (all_weaken measured-key rest w)))

  node_laid : (s : List Row) → Whole s → node dist (layout_of dist) (map ranked_of s) ≡ laid_from (sorted_from dist s)
  unfolding node sorted_from laid_from
  node_laid [] w = refl
  node_laid (v ∷ rest) w = first-laid v rest w.1

  -- the layout of working rows is the node that they hold once they are arranged
  pub layout_arranged : (rows : List Row) → Whole rows → layout_of dist (map ranked_of rows) ≡ laid_from (arranged dist rows)
  unfolding arranged tag_key ranked_of first_key
  layout_arranged rows w =
      layout_node dist (map ranked_of rows)
      ∙ ap (node dist (layout_of dist)) (sort_map ranked_of tag_key first_key rows (all_always (λ r. refl) rows))
      ∙ node_laid (sort_by first_key rows) (all_perm (λ r. length r ≡ row_width) (mathlib.Core.List.Permᴰ.symm (sort_perm first_key rows)) w)

  ranks_stripped : (n : ℕ) (rows : List Row) → Whole rows → map stripped (map ranked_of (ranks_written n rows)) ≡ map stripped (ranked_from n rows)
  unfolding stripped ranked_of ranks_written ranked_from
  ranks_stripped n [] w = refl
  ranks_stripped n (r ∷ rs) w =
      ap₂ ◌∷◌
      (ap₂ (λ (a : Row) (k : ℕ). record { row = a; rank = k }) (placed_with_mark 0 r n) (mark_with_mark r n w.0))
      (ranks_stripped (suc n) rs w.1)

  -- rows with their ranks written have the layout of the rows
  pub layout_ranks : (rows : List Row) → Whole rows → layout_of dist (map ranked_of (ranks_written 0 rows)) ≡ layout dist rows
  layout_ranks rows w =
      layout_stripped dist (map ranked_of (ranks_written 0 rows)) (ranked_from 0 rows) (ranks_stripped 0 rows w) ∙ sym (layout_ranked dist rows)

ranks_from : (n m : ℕ) (rows : List Row) → n ≤ m → Whole rows → All (λ r. n ≤ mark_of r) (ranks_written m rows)
unfolding ranks_written
ranks_from n m [] h w = tt
ranks_from n m (r ∷ rs) h w = (omega (arith, mark_with_mark r m w.0), ranks_from n (suc m) rs (omega arith) w.1)

-- ranks as they are written differ
pub ranks_written_apart : (n : ℕ) (rows : List Row) → Whole rows → RanksApart (ranks_written n rows)
unfolding ranks_written
ranks_written_apart n [] w = tt
ranks_written_apart n (r ∷ rs) w = (
  all_weaken (λ s h e. omega (arith, mark_with_mark r n w.0)) (ranks_written (suc n) rs) (ranks_from (suc n) (suc n) rs (omega arith) w.1),
  ranks_written_apart (suc n) rs w.1,
)

pub ranks_length : (n : ℕ) (rows : List Row) → length (ranks_written n rows) ≡ length rows
unfolding ranks_written
ranks_length n [] = refl
ranks_length n (r ∷ rs) = ap suc (ranks_length (suc n) rs)

pub ranks_at : (n : ℕ) (rows : List Row) (i : ℕ) → i < length rows → get_or (ranks_written n rows) i [] ≡ with_mark (n + i) (get_or rows i [])
unfolding ranks_written
ranks_at n [] i h = absurd (omega arith)
ranks_at n (r ∷ rs) zero h =
    let e : n ≡ n + 0 = omega arith in
    ap (λ (k : ℕ). with_mark k r) e
ranks_at n (r ∷ rs) (suc i) h =
    let e : suc n + i ≡ n + suc i = omega arith in
    ranks_at (suc n) rs i (omega arith) ∙ ap (λ (k : ℕ). with_mark k (get_or rs i [])) e

-- the distance written in the last of some rows is that of row l, where they are the l rows behind the first
pub last_row : (rows : List Row) (l : ℕ) → l < length rows → (l ≡ 0 → ⊥) → last_measured (take l (drop 1 rows)) ≡ threshold_of (get_or rows l [])
unfolding last_measured
last_row rows zero h n = absurd (n refl)
last_row rows (suc k) h n =
    last_taken threshold_of 0 (drop 1 rows) [] k (omega (arith, length-drop 1 rows))
    ∙ ap threshold_of (get_or-drop 1 rows k [] ∙ ap (λ (i : ℕ). get_or rows i []) (add_comm 1 k ∙ add-one k))

pub ranks_written_whole : (n : ℕ) (rows : List Row) → Whole rows → Whole (ranks_written n rows)
unfolding ranks_written with_mark
ranks_written_whole n [] w = tt
ranks_written_whole n (r ∷ rs) w = (length-set r mark_at n ∙ w.0, ranks_written_whole (suc n) rs w.1)

-- rows known one after the other
pub whole_next : (rows : List Row) (i : ℕ) → i < length rows → Whole (take i rows) → length (get_or rows i []) ≡ row_width → Whole (take (i + 1) rows)
whole_next rows i h a w =
    subst Whole (sym (ap (λ (n : ℕ). take n rows) (add-one i) ∙ take-suc rows i [] h))
    (all_append (λ r. length r ≡ row_width) (take i rows) (get_or rows i [] ∷ []) a (w, tt))
