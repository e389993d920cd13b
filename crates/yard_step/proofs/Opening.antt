-- The first line: an order above 8 is refused before the call, and else the call's refusal and table are the header's.
use Prim.Native.Nat.{ℕ, zero, suc, ◌≤◌, ◌<◌}
use mathlib.Core.Path.{◌≡◌, refl, ap, sym, subst, ◌∙◌}
use mathlib.Core.Bool.{Bool}
use mathlib.Core.List.{List, [], ◌∷◌}
use native.Mathlib.Omega.{arith}
use lib.ListN.{length}
use borrow.Author.Tests.{lt-leb, le-leb}
use Rattle.std.proofs.Common.{Some, None}
use Rattle.metric_rules.specs.Row.{Row}
use Rattle.search_rules.specs.Range.{Entry}
use Rattle.table_rules.specs.Refusals.{bad_order, unless}
use Rattle.table_rules.specs.Table.{Table}
use Rattle.table_rules.specs.Fresh.{fresh_refusal, fresh_table, table_after_fresh}
use Rattle.yard_rules.specs.declared.Stage.TheVariants as stage
use Rattle.yard_rules.specs.Line.{letter_f, question_mark}
use Rattle.yard_rules.specs.Reply.{reply_line}
use Rattle.yard_rules.specs.Conversation.{LineOutcome, most_yard_order, header_refusal, header_outcome, other_text, yard_space}
use Rattle.yard_reply.specs.Put.{Puts}
use Rattle.yard_command.specs.Lent.{lent}
use Rattle.yard_step.specs.StepLeaves.{table_after_header, StepLeaves}

fresh_kept : (order metric : ℕ) (t : Table) (k : ℕ) → fresh_refusal (length t) order (yard_space metric) ≡ suc k → table_after_fresh order (yard_space metric) t ≡ t
unfolding table_after_fresh
fresh_kept order metric t k e = ap (λ n. elim n [ zero ↦ fresh_table order (yard_space metric) t | suc n ↦ t ]) e

module _ (order metric : ℕ) (t : Table) where
  pub large_refusal : 8 < order → header_refusal t order metric ≡ bad_order
  unfolding header_refusal most_yard_order
  large_refusal h = ap (λ (b : Bool). unless b bad_order (fresh_refusal (length t) order (yard_space metric))) (lt-leb order 8 h)

  pub small_refusal : order ≤ 8 → header_refusal t order metric ≡ fresh_refusal (length t) order (yard_space metric)
  unfolding header_refusal most_yard_order
  small_refusal h = ap (λ (b : Bool). unless b bad_order (fresh_refusal (length t) order (yard_space metric))) (le-leb order 8 h)

  header_table : (n : ℕ) → header_refusal t order metric ≡ n → table_after_header order metric t ≡ elim n [ zero ↦ table_after_fresh order (yard_space metric) t | suc k ↦ t ]
  unfolding table_after_header
  header_table n e = ap (λ n. elim n [ zero ↦ table_after_fresh order (yard_space metric) t | suc k ↦ t ]) e

  pub large_table : 8 < order → table_after_header order metric t ≡ t
  large_table h = header_table 3 (large_refusal h)

  pub small_table : order ≤ 8 → table_after_header order metric t ≡ table_after_fresh order (yard_space metric) t
  small_table h = by (fresh_refusal (length t) order (yard_space metric)) refl
    where
      by : (n : ℕ) → fresh_refusal (length t) order (yard_space metric) ≡ n → table_after_header order metric t ≡ table_after_fresh order (yard_space metric) t
      by zero e = header_table 0 (small_refusal h ∙ e)
      by (suc k) e = header_table (suc k) (small_refusal h ∙ e) ∙ sym (fresh_kept order metric t k e)

module _ (order metric : ℕ) (t : Table) (work : List Row) (result : List Entry) (number : ℕ) (out : List ℕ) where
  header_outcome_at : (n : ℕ) → header_refusal t order metric ≡ n
      → header_outcome (lent t work result) number (Some (record { order = order; metric = metric }))
      ≡ elim n [
        | zero ↦ record { areas = lent (table_after_fresh order (yard_space metric) t) work result; stage = stage.Serving; text = [] }
        | suc k ↦ record { areas = lent t work result; stage = stage.Ended; text = reply_line letter_f (suc k ∷ []) }
      ]
  unfolding header_outcome lent
  header_outcome_at n e =
      ap
      (λ (n : ℕ). elim n [
        | zero ↦ record { areas = lent (table_after_fresh order (yard_space metric) t) work result; stage = stage.Serving; text = [] }
        | suc k ↦ record { areas = lent t work result; stage = stage.Ended; text = reply_line letter_f (suc k ∷ []) }
      ])
      e

  -- an accepted header
  pub header_outcome_served : (t' : Table) (n : ℕ) → n ≡ header_refusal t order metric → t' ≡ table_after_header order metric t → n ≡ 0
      → StepLeaves (header_outcome (lent t work result) number (Some (record { order = order; metric = metric }))) (lent t' work result) out out (record { stage = stage.Serving; length = 0 })
  header_outcome_served t' n e f z =
      let r : header_refusal t order metric ≡ 0 = sym e ∙ z in
      subst (λ (s : LineOutcome). StepLeaves s (lent t' work result) out out (record { stage = stage.Serving; length = 0 })) (sym (header_outcome_at 0 r))
      (record { areas_are = ap (λ (x : Table). lent x work result) (f ∙ header_table order metric t 0 r); stage_is = refl; text_is = (refl, refl, omega arith) })

  -- a refused one
  pub header_outcome_ended : (t' : Table) (after : List ℕ) (m n : ℕ) → n ≡ header_refusal t order metric → t' ≡ table_after_header order metric t → (n ≡ 0 → ⊥)
      → Puts out after m (reply_line letter_f (n ∷ []))
      → StepLeaves (header_outcome (lent t work result) number (Some (record { order = order; metric = metric }))) (lent t' work result) out after (record { stage = stage.Ended; length = m })
  header_outcome_ended t' after m zero e f z p = absurd (z refl)
  header_outcome_ended t' after m (suc k) e f z p =
      subst (λ (s : LineOutcome). StepLeaves s (lent t' work result) out after (record { stage = stage.Ended; length = m })) (sym (header_outcome_at (suc k) (sym e)))
      (record { areas_are = ap (λ (x : Table). lent x work result) (f ∙ header_table order metric t (suc k) (sym e)); stage_is = refl; text_is = p })

-- a first line of another form
pub other_ended : (t : Table) (work : List Row) (result : List Entry) (number : ℕ) (out after : List ℕ) (m : ℕ) → Puts out after m (reply_line question_mark (number ∷ []))
    → StepLeaves (header_outcome (lent t work result) number None) (lent t work result) out after (record { stage = stage.Ended; length = m })
unfolding header_outcome other_text
other_ended t work result number out after m p = record { areas_are = refl; stage_is = refl; text_is = p }
