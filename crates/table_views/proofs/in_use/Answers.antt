-- `table_views::in_use` meets its contract: a bucket is in use where its built size is not 0, as in the definition.
use Prim.Native.Nat.{ℕ}
use mathlib.Core.Path.{ap}
use mathlib.Core.Bool.{not}
use lib.Dec.{eqb}
use Rattle.table_rules.specs.Table.{in_use}
use Rattle.table_views.proofs.in_use.Goals as goal

pub returns : goal.returns
unfolding in_use
returns c = ap (λ (n : ℕ). not (eqb n 0)) c.built_of.ensures
