-- `image_write::put_pair` meets its contract: the live size stands behind the built size.
use mathlib.Core.Path.{refl, ap, ◌∙◌}
use native.Mathlib.Omega.{arith}
use mathlib.Core.List.{List}
use Prim.Native.Nat.{ℕ, ◌+◌}
use lib.Seq.{sets}
use Rattle.image_rules.specs.Bytes.{bytes_of, size_bytes, pair_bytes}
use Rattle.tree_rules.proofs.Stores.{sets_more}
use Rattle.image_write.proofs.put_pair.Goals as goal

pub returns : goal.returns
unfolding size_bytes bytes_of
returns c =
    let a = c.args in
    c.put-2.ensures
    ∙ ap (λ (l : List ℕ). sets l (a.at + 2) (bytes_of 2 a.live)) c.put.ensures
    ∙ sets_more a.image.now a.at (a.at + 2) (bytes_of 2 a.built) (bytes_of 2 a.live) refl

pub put-requires : goal.put-requires
unfolding pair_bytes size_bytes
put-requires c = (omega arith, omega (arith, c.requires))

pub put-requires-2 : goal.put-requires-2
unfolding pair_bytes size_bytes
put-requires-2 c = (omega arith, omega (arith, c.requires, c.put.auto.image))
