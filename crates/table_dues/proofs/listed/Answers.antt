-- `table_dues::listed` meets its contract: a refused list leaves the area as it was, and any other's dues stand there as they were held.
use native.Mathlib.Omega.{arith}
use mathlib.Core.Path.{◌≡◌, refl, sym, ap, ◌∙◌}
use mathlib.Core.List.{List, ◌++◌}
use mathlib.Core.Option.{Option}
use lib.IntN.{ℤ}
use lib.ListN.{length, replicate, length-replicate, length-map, drop}
use lib.Seq.{sets}
use Prim.Native.Nat.{ℕ, zero, suc}
use Rattle.lists.specs.Lists.{total}
use Rattle.dues_rules.specs.declared.Dues.{Dues}
use Rattle.dues_rules.specs.Listed.{weight_at, weights_at, dues_of, total_of, weights_reply, area_after}
use Rattle.dues_rules.proofs.Replies as replies
use Rattle.refusals.proofs.Refused.{some_number}
use Rattle.table_dues.proofs.Holding.{held_front, written}
use Rattle.table_dues.proofs.listed.Goals as goal

-- a refusal has the reply of its number, and keeps the area
refused :
    (n m : ℕ) (weights : List (Option ℤ)) (area : List ℕ) → (n ≡ 0 → ⊥) → n ≡ m
    → (◌≡◌ {A = Dues} (record { refusal = n; total = 0 }) (weights_reply m weights)) × (area ≡ area_after m weights area)
unfolding weights_reply area_after
refused zero m weights area some e = absurd (some refl)
refused (suc n) m weights area some e = rw (sym e) (refl, refl)

-- no refusal has the sum and the dues
accepted :
    (m : ℕ) (weights : List (Option ℤ)) (area : List ℕ) → 0 ≡ m
    → (◌≡◌ {A = Dues} (record { refusal = 0; total = total_of weights }) (weights_reply m weights)) × (dues_of weights ++ drop (length weights) area ≡ area_after m weights area)
unfolding weights_reply area_after
accepted m weights area e = rw (sym e) (refl, refl)

pub returns-in-Err : goal.returns-in-Err
returns-in-Err c =
    let some = some_number c.in-Err.refusal in
    let left = refused c.from.result _ (weights_at c.args.table.rows.now c.args.tags.now) c.args.dues.now (λ z. absurd (omega (arith, c.from.ensures))) (c.from.ensures ∙ c.in-Err.ensures.refusal) in
    record { reply = left.0; area = left.1 }

pub returns-in-Ok : goal.returns-in-Ok
unfolding total_of
returns-in-Ok c =
    let tags = c.args.tags.now in
    let dues = c.args.dues.now in
    let weights = weights_at c.args.table.rows.now tags in
    let e = c.in-Ok.ensures in
    let each = replies.paid_each c.args.table.rows.now tags in
    let front = held_front _ _ each (replicate 4096 0) c.hold.new.held e.held (omega (arith, e.room, length-replicate {A = ℕ} 4096 0)) in
    let left = accepted _ weights dues e.refusal in
    let many = ap (λ (k : ℕ). dues_of weights ++ drop k dues) (sym (length-map tags (weight_at c.args.table.rows.now))) in
    record {
      reply = ap (λ (n : ℕ). record { refusal = 0; total = n }) (c.pay.ensures.sum ∙ ap total front) ∙ left.0;
      area = c.pay.ensures.area ∙ ap (sets dues 0) front ∙ written (dues_of weights) _ each dues (omega (arith, e.room)) ∙ many ∙ left.1;
    }
