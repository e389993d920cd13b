-- W9 and W13 beside what they started from. The removal is the same by the outcomes of its tests. Of the weights, any but
-- the two edges is within one band alone, and these two pay by the heavier of their two bands.
use Prim.Native.Nat.{ℕ, zero, suc, ◌-◌, ◌*◌, ◌<◌}
use native.Mathlib.Nat.{lt_of_not-le}
use native.Mathlib.Omega.{arith}
use native.Mathlib.Decide.{dec_le}
use borrow.Author.Tests.{lt-leb}
use mathlib.Core.Path.{◌≡◌, refl, sym, ap, ◌∙◌}
use mathlib.Core.Bool.{Bool, true, false, ◌&&◌}
use mathlib.Core.List.{[], ◌∷◌}
use mathlib.Core.Option.{Option, none, some}
use lib.Dec.{leb, ltb, eqb}
use Rattle.table_rules.specs.declared.Removed.{Removed}
use Rattle.table_rules.specs.Geometry.{room}
use Rattle.table_rules.specs.Table.{Table, live_of, in_use, emptied}
use Rattle.table_rules.specs.Rebuild.{Rebuilt}
use Rattle.table_rules.specs.LookUp.{Place, find}
use Rattle.table_rules.specs.Remove.{marked, united, moved, after_deletion, removed}
use Rattle.table_rules.specs.Remove.{remove_refusal, remove_reply, table_after_remove}
use Rattle.dues_rules.specs.Board.{band, board, within, rate_by, dues_at, dues_by}
use Rattle.dues_rules.proofs.Rates.{first_applies, later_applies, between, from_on, light, middle, heavy}
use Rattle.history.specs.Earlier.{earlier_rebuilt, earlier_after_mark, earlier_removed, earlier_board}
use Rattle.history.specs.Demands.{RemovesAsBefore, TwoWeightsChanged}

-- what follows the marking, now and before, by the outcomes of the five tests
module _ (t : Table) (k : ℕ) where
  abbrev settled : Rebuilt → Bool → Bool → Rebuilt
  settled sparse empty enough =
      elim empty [
        | true ↦ record { table = emptied (k ∷ []) t; distances = 0 }
        | false ↦ elim enough [ true ↦ record { table = t; distances = 0 } | false ↦ sparse ]
      ]

  abbrev now : Bool → Bool → Bool → Rebuilt
  now next more second =
      elim next [
        | true ↦ elim more [ true ↦ united t (k ∷ (k - 1) ∷ []) k | false ↦ united t (k ∷ (k - 1) ∷ []) (k - 1) ]
        | false ↦ elim second [ true ↦ united t (k ∷ (k - 2) ∷ []) (k - 1) | false ↦ moved t k (k - 2) ]
      ]

  abbrev earlier : Bool → Bool → Bool → Rebuilt
  earlier next more second =
      elim next [
        | true ↦ united t (k ∷ (k - 1) ∷ []) (elim more [ true ↦ k | false ↦ k - 1 ])
        | false ↦ elim second [ true ↦ united t (k ∷ (k - 2) ∷ []) (k - 1) | false ↦ united t (k ∷ []) (k - 2) ]
      ]

  same_rebuild : (next more second : Bool) → now next more second ≡ earlier next more second
  unfolding moved
  same_rebuild true true second = refl
  same_rebuild true false second = refl
  same_rebuild false more true = refl
  same_rebuild false more false = refl

  same_after_mark : after_deletion t k ≡ earlier_after_mark t k
  unfolding after_deletion earlier_after_mark earlier_rebuilt
  same_after_mark =
      ap (λ (sparse : Rebuilt). settled sparse (eqb (live_of t k) 0) (ltb (room k) (4 * live_of t k)))
      (same_rebuild (in_use t (k - 1)) (ltb (room (k - 2)) (live_of t (k - 1))) (in_use t (k - 2)))

same_removal : (t : Table) (tag : ℕ) → removed t tag ≡ earlier_removed t tag
unfolding removed earlier_removed
same_removal t tag = go (find t tag)
  where
    after : (Table → ℕ → Rebuilt) → Option Place → Rebuilt
    after steps place =
        elim place [ some at ↦ steps (marked t at) at.bucket | none ↦ record { table = t; distances = 0 } ]

    go : (place : Option Place) → after after_deletion place ≡ after earlier_after_mark place
    go (some at) = same_after_mark (marked t at) at.bucket
    go none = refl

pub removes_as_before : RemovesAsBefore
unfolding remove_reply table_after_remove
removes_as_before t work tag accepted = go (remove_refusal t work tag) accepted
  where
    reply : ℕ → Removed
    reply n =
        elim n [
          | zero ↦ record { refusal = 0; distances = (removed t tag).distances }
          | suc n ↦ record { refusal = suc n; distances = 0 }
        ]

    left : ℕ → Table
    left n = elim n [ zero ↦ (removed t tag).table | suc n ↦ t ]

    go :
        (n : ℕ) → (reply n).refusal ≡ 0
        → ((reply n).distances ≡ (earlier_removed t tag).distances) × (left n ≡ (earlier_removed t tag).table)
    go zero e = (ap (λ (r : Rebuilt). r.distances) (same_removal t tag), ap (λ (r : Rebuilt). r.table) (same_removal t tag))
    go (suc n) e = absurd (omega (arith, e))

past : (least rate w most : ℕ) → most < w → within (band least (some most) rate) w ≡ false
unfolding within
past least rate w most m = ap (λ (b : Bool). leb least w && b) (lt-leb w most m) ∙ and_false (leb least w)
  where
    and_false : (a : Bool) → (a && false) ≡ false
    and_false true = refl
    and_false false = refl

module _ (w : ℕ) where
  earlier_light : w < 40_000 → rate_by earlier_board w ≡ 2
  unfolding earlier_board
  earlier_light h = first_applies _ _ w (between 0 2 w 40_000 (omega arith) (omega arith))

  earlier_middle : 40_000 < w → w < 60_000 → rate_by earlier_board w ≡ 3
  unfolding earlier_board
  earlier_middle l h =
      later_applies _ _ w (past 0 2 w 40_000 l) ∙ first_applies _ _ w (between 40_000 3 w 60_000 (omega arith) (omega arith))

  earlier_heavy : 60_000 < w → rate_by earlier_board w ≡ 4
  unfolding earlier_board
  earlier_heavy l =
      later_applies _ _ w (past 0 2 w 40_000 (omega arith))
      ∙ later_applies _ _ w (past 40_000 3 w 60_000 l)
      ∙ first_applies _ _ w (from_on 60_000 4 w (omega arith))

  same_rate : (w ≡ 40_000 → ⊥) → (w ≡ 60_000 → ⊥) → rate_by board w ≡ rate_by earlier_board w
  same_rate a b =
      elim (dec_le 40_000 w) [
        | no few ↦ light w (lt_of_not-le few) ∙ sym (earlier_light (lt_of_not-le few))
        | yes l ↦ elim (dec_le 60_000 w) [
          | no few ↦ middle w l (lt_of_not-le few) ∙ sym (earlier_middle (omega (arith, a)) (lt_of_not-le few))
          | yes h ↦ heavy w h ∙ sym (earlier_heavy (omega (arith, b)))
        ]
      ]

pub two_weights_changed : TwoWeightsChanged
unfolding earlier_board board within rate_by dues_at dues_by
two_weights_changed = ((λ w a b. ap (λ (rate : ℕ). dues_at rate w) (same_rate w a b)), refl, refl, refl, refl)
