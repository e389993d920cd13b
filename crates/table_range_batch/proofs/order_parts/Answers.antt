-- `table_range_batch::order_parts` meets its contract: at each turn the parts before j are in order. A part is refused where
-- its hits are more than it holds, as an area is.
use native.Mathlib.Omega.{arith}
use native.Mathlib.Nat.{mul-le-mul_right}
use Prim.Native.Nat.{ℕ, suc, ◌+◌, ◌-◌, ◌*◌, ◌≤◌, ◌<◌}
use mathlib.Core.Path.{◌≡◌, sym, ap, ap₂, subst, ◌∙◌}
use mathlib.Core.List.{List, ◌++◌}
use lib.ListN.{length, take, drop, get_or, replicate}
use Rattle.lists.specs.Lists.{All}
use Rattle.search_rules.specs.Range.{Entry, Pair, ordered}
use Rattle.tree_range_batch.specs.Together.{part_at}
use Rattle.table_rules.specs.Search.{zero_entry}
use Rattle.table_range_batch.proofs.Ordering.{part_lent, part_size_lem, ordered_short, ordered_next, ordered_all}
use Rattle.table_range_batch.proofs.order_parts.Goals as goal

-- part j lies in the area
inside : (j n part all now : ℕ) → j < n → n * part ≤ all → now ≡ all → suc j * part ≤ now
inside j n part all now less fits same = omega (arith, mul-le-mul_right {m = suc j} {n = n} part less)

pub returns-then-part-hits-clause-fits : goal.returns-then-part-hits-clause-fits
returns-then-part-hits-clause-fits c = ordered_short c.loop-j.invariant (omega arith) (omega (arith, c.requires.2.sixteen)) (omega arith)

pub loop-j-preserved : goal.loop-j-preserved
loop-j-preserved c =
    let l = c.loop-j in
    let a = c.args in
    let n = get_or a.found.now l.j 0 in
    let fits : n ≤ a.part = omega arith in
    let within = inside l.j a.n a.part (length a.area.now) (length l.area) (omega arith) c.requires.1 l.invariant.same in
    let lent = part_lent a.part l.j l.area within in
    let size : length (take (l.j * a.part + a.part - l.j * a.part) (drop (l.j * a.part) l.area)) ≡ a.part = ap length lent ∙ part_size_lem a.part l.j l.area within in
    let pairs : All Pair (take n (part_at a.part l.j l.area)) = subst (λ (xs : List Entry). All Pair (take n xs)) (sym (l.invariant.rest l.j (omega arith))) (c.requires.3 l.j (omega arith) fits) in
    let sorted = c.put_in_order.ensures (subst (λ (xs : List Entry). All Pair (take n xs)) (sym lent) pairs) in
    ordered_next l.invariant (omega arith) (omega (arith, c.requires.2.sixteen)) fits within c.put_in_order.new.area (c.put_in_order.auto.area ∙ size)
    (sorted ∙ ap₂ (λ (xs : List Entry) (m : ℕ). ordered (take n xs) ++ replicate (m - n) zero_entry) lent size)

pub returns-clause-fits : goal.returns-clause-fits
returns-clause-fits c = ordered_all c.loop-j.invariant (omega arith)
