-- `table_range_batch::asked_row` is its definition, field by field; a row's profile is one by its type.
use Prim.Native.Nat.{◌%◌, ◌^◌}
use mathlib.Core.Path.{subst, ◌∙◌}
use Rattle.metric_rules.specs.Row.{IsProfile, row_of}
use Rattle.metric_rules.proofs.Values.{is_profile}
use Rattle.batch_rules.specs.Batch.{first_day_of}
use Rattle.table_range_batch.specs.Below.{asked_row}
use Rattle.table_range_batch.proofs.asked_row.Goals as goal

pub returns : goal.returns
unfolding asked_row first_day_of
returns c = (
  c.query_row.ensures ∙ (λ i. row_of 0 (c.profile_of.ensures i) (c.threshold_of.ensures i) 0 (c.day_of.ensures i % 2 ^ 16)),
  subst IsProfile c.profile_of.ensures (is_profile c.profile_of.result _ c.profile_of.type_inv),
)
