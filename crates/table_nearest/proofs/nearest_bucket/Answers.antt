-- No slots leave what stands there, and some are a tree's search.
use mathlib.Core.Path.{sym}
use Rattle.search_asked.specs.Asked.{distance_asked, query_asked, reports_asked, k_asked}
use Rattle.tree_nearest.specs.Nearby.{tally_of}
use Rattle.tree_nearest.proofs.Steps.{leaves_as, leaves_same, near_empty}
use Rattle.table_nearest.proofs.nearest_bucket.Goals as goal

pub returns-then-slots-eq0 : goal.returns-then-slots-eq0
returns-then-slots-eq0 c =
    let a = c.args in
    let k = k_asked a.asked.now in
    leaves_as k a.area.now a.area.now a.near
    (sym (near_empty (distance_asked a.asked.now) (query_asked a.asked.now) (reports_asked a.asked.now) k a.slots.now (tally_of k a.area.now a.near) c.if-slots-eq0.true))
    (leaves_same c.requires)
