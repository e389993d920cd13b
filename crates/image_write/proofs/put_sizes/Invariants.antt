use Prim.Native.Nat.{ℕ}
use mathlib.Core.Path.{◌≡◌}
use mathlib.Core.List.{List, ◌++◌}
use lib.Seq.{sets}
use Rattle.table_rules.specs.Table.{Table, built_of, live_of}
use Rattle.image_rules.specs.Bytes.{written_form, bytes_of, header_bytes}
use Rattle.image_write.proofs.Runs.{run}
use Rattle.image_write.proofs.put_sizes.Given as goal

unfoldable pub pair : Table → ℕ → List ℕ
pair t k = bytes_of 2 (built_of t k) ++ bytes_of 2 (live_of t k)

abbrev pub invariant-loop-k : goal.invariant-loop-k
invariant-loop-k l = l.image ≡ sets l.initial.image (header_bytes written_form) (run (pair l.fn.table.rows.now) l.k)
