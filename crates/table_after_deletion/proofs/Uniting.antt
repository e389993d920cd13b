-- Buckets united in one, step by step: what stands in the work area are their live items in the order listed, and the steps in turn are the rebuild.
use Prim.Native.Nat.{ℕ, ◌+◌, ◌≤◌}
use native.Mathlib.Omega.{arith}
use native.Mathlib.Nat.{le_trans}
use mathlib.Core.Path.{◌≡◌, sym, ◌∙◌, ap, subst}
use mathlib.Core.List.{List, [], ◌∷◌, ◌++◌, flatten, append-nil}
use lib.ListN.{length, take, length-append}
use lib.Seq.{sets}
use Rattle.lists.specs.Lists.{All}
use Rattle.metric_rules.specs.Row.{Row, zero_row}
use Rattle.metric_rules.specs.Distance.{distance}
use Rattle.tree_rules.specs.Layout.{layout, cost}
use Rattle.table_rules.specs.Geometry.{room, table_rows, work_rows}
use Rattle.table_rules.specs.Table.{Table, order_of, table_space, live_slots, put_bucket, emptied, cleared}
use Rattle.table_rules.specs.Rebuild.{live_items, rebuilt}
use Rattle.table_rules.specs.Remove.{united}
use Rattle.table_rules.proofs.Fill.{rooms_grow}
use Rattle.tree_rules.proofs.Stores.{sets_more, sets_front}
use Rattle.table_buckets.specs.OfOrder.{BuiltFits}
use Rattle.table_rebuild.proofs.Filling.{cleared_stored, rebuilt_by}

-- the n rows that a work area begins with are the live items of the buckets listed
pub record Gathered (t : Table) (ks : List ℕ) (work : List Row) (n : ℕ) (used : List Row) : Type 0 where
  pub number : n ≡ length (live_items t ks)
  pub stored : used ≡ sets work 0 (live_items t ks)

pub items_one : (t : Table) (k : ℕ) → live_items t (k ∷ []) ≡ live_slots t k
unfolding live_items flatten
items_one t k = append-nil (live_slots t k)

pub items_two : (t : Table) (k j : ℕ) → live_items t (k ∷ j ∷ []) ≡ live_slots t k ++ live_slots t j
unfolding live_items flatten
items_two t k j = ap (λ (r : List Row). live_slots t k ++ r) (append-nil (live_slots t j))

pub one_gathered : (t : Table) (k : ℕ) (work : List Row) (n : ℕ) (used : List Row) → n ≡ 0 + length (live_slots t k) → used ≡ sets work 0 (live_slots t k) → Gathered t (k ∷ []) work n used
one_gathered t k work n used e f =
    record { number = omega (arith, e, ap length (items_one t k)); stored = f ∙ ap (sets work 0) (sym (items_one t k)) }

pub two_gathered :
    (t : Table) (k j : ℕ) (work : List Row) (first n : ℕ) (half used : List Row) → half ≡ sets work 0 (live_slots t k) → used ≡ sets half first (live_slots t j)
    → first ≡ 0 + length (live_slots t k) → n ≡ first + length (live_slots t j) → Gathered t (k ∷ j ∷ []) work n used
two_gathered t k j work first n half used f h e g =
    record {
      number = omega (arith, e, g, ap length (items_two t k j), length-append (live_slots t k) (live_slots t j));
      stored =
          h
          ∙ ap (λ (w : List Row). sets w first (live_slots t j)) f
          ∙ sets_more work 0 first (live_slots t k) (live_slots t j) e
          ∙ ap (sets work 0) (sym (items_two t k j));
    }

-- the buckets listed are the table's, and the one to be built has room for their live items, the work area likewise
pub record Fits (t : Table) (order : ℕ) (ks : List ℕ) (to : ℕ) (work : List Row) : Type 0 where
  pub built_fits : BuiltFits t order
  pub inside : All (λ k. k ≤ order_of t) ks
  pub reached : to ≤ order
  pub room_for : length (live_items t ks) ≤ room to
  pub roomy : work_rows order ≤ length work

module _ {t : Table} {order : ℕ} {ks : List ℕ} {to : ℕ} {work : List Row} (fits : Fits t order ks to work) where
  long : table_rows (order_of t) ≤ length t
  long = subst (λ (o : ℕ). table_rows o ≤ length t) (sym fits.built_fits.lent.known) fits.built_fits.lent.long

  pub few : length (live_items t ks) ≤ work_rows order
  unfolding work_rows
  few = le_trans fits.room_for (rooms_grow fits.reached)

  module _ {n : ℕ} {used : List Row} (gathered : Gathered t ks work n used) where
    pub rows_taken : take n used ≡ live_items t ks
    rows_taken =
        ap (take n) gathered.stored
        ∙ sets_front (live_items t ks) work n gathered.number (omega (arith, gathered.number, few, fits.roomy))

    pub work_cleared : cleared zero_row (work_rows order) used ≡ cleared zero_row (work_rows order) work
    work_cleared = cleared_stored (live_items t ks) work used (work_rows order) gathered.stored few fits.roomy

    pub table-united :
        {u last : Table} → u ≡ emptied ks t → last ≡ put_bucket to (layout (distance (table_space u)) (take n used)) n u → last ≡ (united t ks to).table
    unfolding united
    table-united {u} {last} f g =
        rebuilt_by t ks fits.inside long to n (live_items t ks) (take n used) u last f rows_taken gathered.number g

    pub cost-united : {count : ℕ} → count ≡ cost n → count ≡ (united t ks to).distances
    unfolding united rebuilt
    cost-united e = e ∙ ap cost gathered.number
