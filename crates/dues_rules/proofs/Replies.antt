-- The reply and the dues area by the refusal.
use Prim.Native.Nat.{ℕ, zero, suc}
use mathlib.Core.Path.{◌≡◌, refl, sym, ap, ◌∙◌}
use mathlib.Core.List.{List, ◌++◌}
use mathlib.Core.Option.{Option}
use lib.IntN.{ℤ}
use lib.ListN.{length, take, drop, length-map}
use lib.Seq.{take_at}
use Rattle.lists.specs.Lists.{total}
use Rattle.table_rules.specs.Table.{Table}
use Rattle.dues_rules.specs.declared.Dues.{Dues}
use Rattle.dues_rules.specs.Listed.{weight_at, weights_at, pays, dues_of, total_of, weights_reply, area_after, dues_refusal, dues_reply, dues_after}

module _ (t : Table) (tags : List ℕ) where
  abbrev weights : List (Option ℤ)
  weights = weights_at t tags

  -- each listed tag pays
  pub paid_each : length (dues_of weights) ≡ length tags
  paid_each = length-map weights pays ∙ length-map tags (weight_at t)

  module _ (area : List ℕ) where
    abbrev Leaves : Dues → List ℕ → Type 0
    Leaves reply after = (reply ≡ dues_reply t tags area) × (after ≡ dues_after t tags area)

    by_refusal : (n : ℕ) → dues_refusal t tags area ≡ n → Leaves (weights_reply n weights) (area_after n weights area)
    unfolding dues_reply dues_after
    by_refusal n e = (ap (λ (k : ℕ). weights_reply k weights) (sym e), ap (λ (k : ℕ). area_after k weights area) (sym e))

    -- a refusal returns its number and a total of 0, and leaves the area as it was
    pub refused : (n : ℕ) → dues_refusal t tags area ≡ n → (n ≡ 0 → ⊥) → Leaves (record { refusal = n; total = 0 }) area
    unfolding weights_reply area_after
    refused zero e some = absurd (some refl)
    refused (suc n) e some = by_refusal (suc n) e

    pub accepted : dues_refusal t tags area ≡ 0 → Leaves (record { refusal = 0; total = total_of weights }) (dues_of weights ++ drop (length tags) area)
    unfolding weights_reply area_after
    accepted e =
        let left = by_refusal 0 e in
        (left.0, ap (λ (k : ℕ). dues_of weights ++ drop k area) (sym (length-map tags (weight_at t))) ∙ left.1)

    -- RULES 20.5: the total is the sum of the dues that the area has for the list
    pub total-of-area : (dues_reply t tags area).refusal ≡ 0 → (dues_reply t tags area).total ≡ total (take (length tags) (dues_after t tags area))
    unfolding total_of dues_reply weights_reply
    total-of-area e =
        let left = accepted (sym (reply_refusal (dues_refusal t tags area)) ∙ e) in
        sym (ap (λ (r : Dues). r.total) left.0)
        ∙ ap total (sym (take_at (dues_of weights) _ (length tags) paid_each))
        ∙ ap (λ (a : List ℕ). total (take (length tags) a)) left.1
      where
        reply_refusal : (n : ℕ) → (weights_reply n weights).refusal ≡ n
        reply_refusal zero = refl
        reply_refusal (suc n) = refl
