-- What a line leaves in the lent areas, in the stage and in the bytes to print.
use Rattle.std.specs.Prelude.{ℕ, zero, suc, ◌≡◌, List}
use Rattle.table_rules.specs.Table.{Table}
use Rattle.table_rules.specs.Fresh.{table_after_fresh}
use Rattle.yard_rules.specs.Conversation.{Areas, LineOutcome, header_refusal, yard_space}
use Rattle.yard_reply.specs.Put.{Puts}
use Rattle.yard_step.specs.declared.Stepped.{Stepped}

-- the table after a header's order and metric
unfoldable pub table_after_header : ℕ → ℕ → Table → Table
table_after_header order metric t = elim (header_refusal t order metric) [ zero ↦ table_after_fresh order (yard_space metric) t | suc n ↦ t ]

-- what is said stands in the areas, in the stage and in the bytes
pub record StepLeaves (outcome : LineOutcome) (areas : Areas) (out after : List ℕ) (r : Stepped) : Type 0 where
  pub areas_are : areas ≡ outcome.areas
  pub stage_is : r.stage ≡ outcome.stage
  pub text_is : Puts out after r.length outcome.text
