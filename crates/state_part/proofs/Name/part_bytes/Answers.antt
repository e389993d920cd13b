-- `state_part::Name::part_bytes` meets its contract.
use borrow.Author.Rules.{rules}
use Rattle.state_rules.specs.Parts.{part_bytes}
use Rattle.state_part.proofs.Name.part_bytes.Goals as goal

pub returns : goal.returns
unfolding part_bytes
returns c = search rules
