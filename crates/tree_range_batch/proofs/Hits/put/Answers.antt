-- `tree_range_batch::Hits::put`: the place of the hit lies in part j where the number found is below the part's size; else only the number grows.
use native.Mathlib.Omega.{arith}
use Prim.Native.Nat.{◌<◌}
use mathlib.Core.Path.{refl}
use lib.ListN.{length, length-set}
use Rattle.tree_range_batch.proofs.Parts.{put_inside, put_outside}
use Rattle.tree_range_batch.proofs.Hits.put.Goals as goal

pub returns-then-at-self : goal.returns-then-at-self
returns-then-at-self c =
    let a = c.args in
    let to = a.self.now in
    let counted : a.j < length to.found.now = omega (arith, c.requires.0, c.requires.2.sixteen) in
    record {
      collects = put_inside to.part a.j to.found.now to.area.now a.hit counted c.if-at-self.true;
      part = refl;
      size = length-set to.area.now _ _;
      names = (refl, refl);
    }

pub returns-else-at-self : goal.returns-else-at-self
returns-else-at-self c =
    let a = c.args in
    let to = a.self.now in
    let counted : a.j < length to.found.now = omega (arith, c.requires.0, c.requires.2.sixteen) in
    record {
      collects = put_outside to.part a.j to.found.now to.area.now a.hit counted c.if-at-self.false;
      part = refl;
      size = refl;
      names = (refl, refl);
    }
