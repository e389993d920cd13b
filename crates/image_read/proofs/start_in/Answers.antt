-- `image_read::start_in` meets its contract: the three fields of the start, one after the other.
use Rattle.std.proofs.Common.{refl, arith}
use Rattle.lists.specs.Lists.{total}
use Rattle.image_rules.specs.Bytes.{start_fields, start_bytes}
use Rattle.image_rules.specs.Read.{fields_at, start_numbers, order_in, space_in, form_in}
use Rattle.image_read.proofs.start_in.Goals as goal

pub two_from-order-requires : goal.two_from-order-requires
unfolding start_bytes start_fields total
two_from-order-requires c = (refl, refl, omega (arith, c.requires))

pub number_at-form-requires : goal.number_at-form-requires
unfolding start_bytes start_fields total
number_at-form-requires c = (refl, omega (arith, c.requires))

pub returns : goal.returns
unfolding order_in space_in form_in start_numbers start_fields fields_at
returns c =
    record { order = c.two_from-order.ensures.0; metric = c.two_from-order.ensures.1; form = c.number_at-form.ensures }
