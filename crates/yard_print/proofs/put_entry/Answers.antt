-- `yard_print::put_entry` meets its contract: its four runs adjoin.
use Rattle.std.proofs.Common.{◌≡◌, ◌≤◌, ◌+◌, ◌++◌, length, get_or, drop, ap, ◌∙◌, arith}
use lib.ListN.{set, length-set}
use lib.Seq.{sets, length-sets}
use Rattle.text_rules.specs.Text.{space, line_feed, digits, decimal}
use Rattle.yard_print.proofs.Runs.{front_digits, rest_put, entry_put, entry_long}
use Rattle.yard_print.proofs.put_entry.Goals as goal

pub returns : goal.returns
returns c =
    let a = c.args in
    let out = a.out.now in
    let tag = digits 15 (get_or a.entry 0 0) in
    let distance = decimal (get_or a.entry 1 0) in
    let d = c.put_decimal-end.ensures in
    let end = 16 + c.put_decimal-end.result in
    let now = c.put_digits.new.out ++ drop 15 out in
    let first : now ≡ sets out 0 tag = front_digits out 15 _ (omega arith) c.put_digits.ensures in
    let room : 16 + length distance ≤ length (set now 15 space) = omega (arith, d.1, d.2, length-set now 15 space, ap length first, length-sets out 0 tag) in (
      ap (λ l. set l end line_feed) (rest_put (set now 15 space) distance 16 room d.0)
          ∙ ap (λ l. set (sets (set l 15 space) 16 distance) end line_feed) first
          ∙ entry_put out 0 a.entry end (ap (λ n. 16 + n) d.1),
      omega (arith, d.1, entry_long a.entry),
      omega (arith, d.2),
    )
