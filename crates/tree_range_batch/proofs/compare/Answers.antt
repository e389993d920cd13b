-- `tree_range_batch::compare`: the distance is the query's own, and the two tests are those of its single visit.
use Prim.Native.Nat.{ℕ, ◌+◌}
use native.Mathlib.Numerals.{add-one}
use mathlib.Core.Path.{◌≡◌, sym, ap, ◌∙◌}
use mathlib.Core.List.{[]}
use lib.ListN.{get_or}
use lib.Dec.{leb}
use Rattle.metric_rules.specs.Row.{profile_of, threshold_of, may_report}
use Rattle.metric_rules.specs.Distance.{distance, space_of}
use Rattle.search_rules.specs.Range.{to_query, enters_left, enters_right}
use Rattle.search_asked.specs.Asked.{distance_asked, query_asked, radius_asked}
use Rattle.tree_range.specs.Collected.{met_alone}
use Rattle.tree_range_batch.specs.Together.{bit_if, asked_at, goes_left_at, goes_right_at, only, hits_alone}
use Rattle.tree_range_batch.proofs.Parts.{collected_alike, only_hits}
use Rattle.tree_range_batch.proofs.compare.Goals as goal

pub returns : goal.returns
unfolding goes_left_at goes_right_at hits_alone enters_left enters_right to_query
returns c =
    let a = c.args in
    -- the distance is that of query j, whose row stands behind the header's
    let d : c.distance_between-d.result ≡ to_query (distance_asked (asked_at a.batch.now a.j)) (query_asked (asked_at a.batch.now a.j)) a.row =
    c.distance_between-d.ensures ∙ ap (λ (k : ℕ). distance (space_of (get_or a.batch.now 0 [])) (profile_of a.row) (profile_of (get_or a.batch.now k []))) (add-one a.j)
    in
    let m = c.threshold_of-m.ensures in
    let r : c.threshold_of-radius.result ≡ radius_asked (asked_at a.batch.now a.j) =
    c.threshold_of-radius.ensures ∙ ap (λ (k : ℕ). threshold_of (get_or a.batch.now k [])) (add-one a.j) in
    record {
      ways = (
        c.bit_if.ensures ∙ (λ i. bit_if (leb (d i) (m i + r i)) a.bit),
        c.bit_if-2.ensures ∙ (λ i. bit_if (leb (m i) (d i + r i)) a.bit),
      );
      hits = collected_alike (only a.j (hits_alone a.batch.now a.row a.j))
          (only_hits a.j _ _ (sym (λ i. (met_alone (may_report (get_or a.batch.now (add-one a.j i) [])) a.row (d i) (threshold_of (get_or a.batch.now (add-one a.j i) []))).hits)))
          c.meet_query.ensures;
    }
