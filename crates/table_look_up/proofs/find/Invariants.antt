use mathlib.Core.Path.{◌≡◌}
use Rattle.table_rules.specs.Geometry.{buckets_of}
use Rattle.table_rules.specs.LookUp.{place_in}
use Rattle.table_rules.proofs.Buckets.{buckets_from}
use Rattle.table_look_up.proofs.find.Given as goal

abbrev pub invariant-loop-k : goal.invariant-loop-k
invariant-loop-k l =
    let t = l.fn.table in
    place_in t.rows.now l.tag (buckets_from t.order.t l.k) ≡ place_in t.rows.now l.tag (buckets_of t.order.t)
