-- One call of a list: lent an area of any length and content, the table between calls shows at it what the model shows.
-- An area that is long enough gives the call the table's own rows; of a shorter one the header is still the table's, if it has a row at all.
use Prim.Native.Nat.{ℕ, ◌≤◌, ◌<◌}
use mathlib.Core.Path.{◌≡◌, sym, ◌∙◌, ap, subst}
use mathlib.Core.Logic.{inl, inr}
use mathlib.Core.List.{[], ◌++◌, append-nil}
use lib.ListN.{length, take, drop, get_or, length-append, length-take, length-drop, take-append-drop, drop_of_length-le}
use lib.Seq.{take-take, take-append-le, length-take-le, get_or-take}
use native.Mathlib.Nat.{lt_of_not-le}
use native.Mathlib.Omega.{arith}
use native.Mathlib.Decide.{dec_le}
use Rattle.lists.proofs.Tests.{and_first}
use Rattle.metric_rules.specs.Distance.{valid_metric}
use Rattle.table_rules.specs.Geometry.{valid_order, table_rows, header_row}
use Rattle.table_rules.specs.Table.{Table, row_at, order_of}
use Rattle.table_rules.proofs.Views.{SameHeader, same_order, same_space}
use Rattle.history.specs.Trace.{Step, State, own_rows, overlaid, shown_at}
use Rattle.history.specs.Model.{Model, lengths_of, answer, answer_at}
use Rattle.history.specs.History.{IsCall}
use Rattle.history.specs.Demands.{AnyArea}
use Rattle.history.proofs.RefinesItems.{Matches}
use Rattle.history.proofs.RefinesRefusals.{Lendable}
use Rattle.history.proofs.RefinesShown.{shown_alike}
use Rattle.history.proofs.RefinesOwn.{matches_own}

-- an area that has the table's own rows is lent as it is
pub any_area : AnyArea
unfolding overlaid
any_area left area same =
    ap (λ (front : Table). front ++ drop (length (own_rows left)) area) (sym same) ∙ take-append-drop (length (own_rows left)) area

pub overlaid_length : (left area : Table) → length (overlaid left area) ≡ length area
unfolding overlaid
overlaid_length left area =
    let own = own_rows left in
    omega (arith, length-append (take (length area) own) (drop (length own) area), length-take (length area) own, length-drop (length own) area)

module _ (left area : Table) (long : table_rows (order_of left) ≤ length left) where
  own_length : length (own_rows left) ≡ table_rows (order_of left)
  unfolding own_rows
  own_length = length-take-le (table_rows (order_of left)) left long

  -- the table's own rows, in an area that is long enough
  pub overlaid_own : table_rows (order_of left) ≤ length area → take (table_rows (order_of left)) (overlaid left area) ≡ take (table_rows (order_of left)) left
  unfolding overlaid own_rows
  overlaid_own enough =
      let n = table_rows (order_of left) in
      take-append-le n (take (length area) (own_rows left)) (drop (length (own_rows left)) area) (omega (arith, length-take (length area) (own_rows left), own_length))
      ∙ take-take n (length area) (own_rows left) enough
      ∙ take-take n n left (omega arith)

  -- and in a shorter one as many as it reaches
  pub overlaid_short : length area < table_rows (order_of left) → overlaid left area ≡ take (length area) left
  unfolding overlaid own_rows
  overlaid_short few =
      ap (λ (rest : Table). take (length area) (own_rows left) ++ rest) (drop_of_length-le area {i = length (own_rows left)} (omega (arith, own_length)))
      ∙ append-nil (take (length area) (own_rows left))
      ∙ take-take (length area) (table_rows (order_of left)) left (omega arith)

  short_header : length area < table_rows (order_of left) → 0 < length area → SameHeader left (overlaid left area)
  unfolding row_at header_row
  short_header few some =
      record { row = ap (λ (t : Table). get_or t 0 []) (overlaid_short few) ∙ get_or-take (length area) left 0 [] some }

pub overlaid_lendable : {left : Table} {m : Model} → Matches left m → (area : Table) → Lendable (overlaid left area) m
overlaid_lendable {left} {m} ok area =
    let n = table_rows (order_of left) in
    let long : n ≤ length left = ok.invariant.long in
    let area-length = overlaid_length left area in
    elim (dec_le n (length area)) [
      | yes enough ↦ inl (matches_own ok (overlaid left area) (overlaid_own left area long enough) (omega arith))
      | no few ↦
          (let short = lt_of_not-le few in
          inr
          (record {
            short = subst (λ (order : ℕ). length (overlaid left area) < table_rows order) ok.order (omega arith);
            order = ap valid_order (sym ok.order) ∙ ok.invariant.order;
            header = λ some.
                let same = short_header left area long short (omega arith) in
                (same_order same ∙ ok.order, ap valid_metric (same_space same) ∙ and_first _ _ ok.invariant.space);
          }))
    ]

-- what a call shows
pub step_shown : (state : State) (m : Model) → Matches state.table m → (s : Step) → IsCall s.call → shown_at state s ≡ (answer_at m s).shows
unfolding shown_at answer_at
step_shown state m ok s is =
    shown_alike m (overlaid state.table s.table) (overlaid_lendable ok s.table) s.call is s.areas
    ∙ ap (λ (rows : ℕ). (answer m s.call rows (lengths_of s.call s.areas)).shows) (overlaid_length state.table s.table)
