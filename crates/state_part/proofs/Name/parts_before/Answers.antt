-- `state_part::Name::parts_before` meets its contract: a name is at least 1.
use Rattle.std.proofs.Common.{arith}
use Rattle.state_rules.proofs.Parts.{name_range}
use Rattle.state_part.proofs.Name.parts_before.Goals as goal

pub overflow_sub-result : goal.overflow_sub-result
overflow_sub-result c = (name_range c.args.self.number c.args.self.valid).0

pub returns : goal.returns
returns c = omega arith
