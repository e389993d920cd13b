-- `tree_arrange::measure` meets its contract. The loop's invariant: the first i rows of both slices are the new ones, and i distances are worked out.
use native.Mathlib.Omega.{arith}
use mathlib.Core.Path.{◌≡◌, refl, sym, ◌∙◌, ap, ap₂}
use mathlib.Core.List.{List, []}
use Prim.Native.Nat.{ℕ, ◌+◌, ◌<◌}
use lib.ListN.{length, length-map, get_or, set}
use Rattle.metric_rules.specs.Row.{Row, profile_of}
use Rattle.metric_rules.specs.declared.Space.{Space}
use Rattle.metric_rules.specs.Distance.{distance, space_of}
use Rattle.tree_rules.specs.Guided.{from_slot}
use Rattle.tree_rows.specs.Working.{measured_from}
use Rattle.tree_rules.proofs.Parts.{written_to, written_at, written_step, written_all, get_or_mapped}
use Rattle.tree_arrange.proofs.measure.Invariants.{new}
use Rattle.tree_arrange.proofs.measure.Goals as goal

module _ (space : Space) (v : Row) (old : List Row) where
  new_length : length (new space v old) ≡ length old
  unfolding new
  new_length = length-map old (measured_from (distance space) v)

  -- row i as it is written is the (new space v old) one
  measured_row : (src : List Row) (i d : ℕ) → i < length old → src ≡ written_to old (new space v old) i → d ≡ distance space (profile_of v) (profile_of (get_or src i [])) → set (get_or src i []) 10 d ≡ get_or (new space v old) i []
  unfolding new measured_from from_slot
  measured_row src i d h e q =
      let x : get_or src i [] ≡ get_or old i [] = ap (λ (r : List Row). get_or r i []) e ∙ written_at old (new space v old) new_length [] i h in
      ap₂ (λ (r : Row) (n : ℕ). set r 10 n) x (q ∙ ap (λ (r : Row). distance space (profile_of v) (profile_of r)) x)
      ∙ sym (get_or_mapped (measured_from (distance space) v) old i [] [] h)

  measure_step : (whole rows : List Row) (i : ℕ) (x : Row) → length whole ≡ length old → i < length old → rows ≡ written_to whole (new space v old) i → x ≡ get_or (new space v old) i [] → set rows i x ≡ written_to whole (new space v old) (i + 1)
  measure_step whole rows i x n h e q = written_step whole (new space v old) (new_length ∙ sym n) [] rows x i (omega arith) e q

pub loop-i-init : goal.loop-i-init
loop-i-init c = (refl, refl, refl)

pub loop-i-preserved : goal.loop-i-preserved
loop-i-preserved c =
    let a = c.args in
    let l = c.loop-i in
    let h : l.i < length a.src.now = omega arith in
    let d = set (get_or l.src l.i []) 10 c.distance_between.result in
    let x = measured_row (space_of a.header.now) a.v a.src.now l.src l.i c.distance_between.result h l.invariant.1 c.distance_between.ensures in (
      omega arith,
      measure_step (space_of a.header.now) a.v a.src.now a.src.now l.src l.i d refl h l.invariant.1 x,
      measure_step (space_of a.header.now) a.v a.src.now a.dst.now l.dst l.i d c.requires h l.invariant.2 x,
    )

pub returns : goal.returns
unfolding new
returns c =
    let a = c.args in
    let l = c.loop-i in
    let rows = new (space_of a.header.now) a.v a.src.now in
    let long = new_length (space_of a.header.now) a.v a.src.now in
    let s : l.src ≡ rows = l.invariant.1 ∙ written_all a.src.now rows long [] l.i (omega arith) in
    let d : l.dst ≡ rows = l.invariant.2 ∙ written_all a.dst.now rows (long ∙ sym c.requires) [] l.i (omega arith) in
    record { measured = s; copied = d ∙ sym s; counted = omega arith }
