-- `tree_range_batch::range_alone` meets its contract: the single search's hits go into the query's own part, and the others stay.
use Prim.Native.Nat.{suc, ◌+◌, ◌-◌, ◌*◌}
use native.Mathlib.Omega.{arith}
use mathlib.Core.Path.{◌≡◌, refl}
use borrow.Rule.Slice.PartMut.{same_len_mid}
use Rattle.tree_range_batch.proofs.Parts.{collects_single}
use Rattle.tree_range_batch.proofs.range_alone.Goals as goal

pub returns : goal.returns
returns c =
    let a = c.args in
    let call = c.range_tree-met in
    let to = a.hits.now in
    let next : a.j + 1 ≡ suc a.j = omega arith in
    let whole : a.j * to.part + to.part - a.j * to.part ≡ to.part = omega arith in
    let all =
    collects_single to.part a.j (a.j + 1) (a.j * to.part + to.part - a.j * to.part) a.batch.now a.slots.now to.found.now to.area.now next whole
    (omega (arith, c.requires.0.0, c.requires.0.2.sixteen)) c.requires.0.1 _ call.result call.new.area refl call.ensures.reply call.ensures.area
    in record { reply = all.0; hits = record { collects = all.1; part = refl; size = same_len_mid (a.j * to.part) (a.j * to.part + to.part - a.j * to.part) to.area.now call.new.area call.auto.area; names = (refl, refl) } }
