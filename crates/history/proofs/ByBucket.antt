-- The invariant bucket by bucket: what a bucket holds and that its slots are good, whatever its sizes. A change of some buckets keeps it if what those then
-- hold is good; with sizes that pass, few enough live items and no live tag twice it is `Invariant`.
use Prim.Native.Nat.{ℕ, ◌≤◌}
use mathlib.Core.Path.{◌≡◌, refl, sym, ◌∙◌, ap, ap₂, subst}
use mathlib.Core.Bool.{true}
use mathlib.Core.Logic.{◌⊎◌, inl, inr}
use mathlib.Core.List.{List, [], map}
use native.Mathlib.Omega.{arith}
use lib.ListN.{length}
use Rattle.lists.specs.Lists.{every, select, distinct, All}
use Rattle.metric_rules.specs.Row.{Row, IsRow, tag_of, is_live}
use Rattle.metric_rules.specs.declared.Space.{Space}
use Rattle.metric_rules.specs.Distance.{distance, valid_space}
use Rattle.tree_rules.specs.Layout.{is_layout}
use Rattle.table_rules.specs.Geometry.{valid_order, header_row, table_rows}
use Rattle.table_rules.specs.Table.{Table, row_at, order_of, table_space, header_of}
use Rattle.table_rules.proofs.Views.{Only, same_order, same_space}
use Rattle.table_rules.proofs.Puts.{Holds, held_built, kept_holds}
use Rattle.table_rules.proofs.Live.{Roomy}
use Rattle.image_rules.specs.Load.{fields_pass}
use Rattle.history.proofs.Invariant.{Weighed}

-- a bucket's slots: rows, live ones in the number given, valid fields and days, no tag twice, and a layout, marks aside
pub record Good (space : Space) (slots : List Row) (live : ℕ) : Type 0 where
  pub rows : All IsRow slots
  pub lives : length (select is_live slots) ≡ live
  pub fields : every fields_pass slots ≡ true
  pub days : All Weighed slots
  pub apart : distinct (map tag_of slots) ≡ true
  pub laid : is_layout (distance space) slots ≡ true

-- what bucket k holds, and that it is good
pub record GoodBucket (space : Space) (t : Table) (k : ℕ) : Type 0 where
  pub slots : List Row
  pub live : ℕ
  pub held : Holds t k slots live
  pub good : Good space slots live

pub record ByBucket (t : Table) : Type 0 where
  pub order : valid_order (order_of t) ≡ true
  pub space : valid_space (table_space t) ≡ true
  pub long : table_rows (order_of t) ≤ length t
  pub header : row_at t header_row ≡ header_of (order_of t) (table_space t)
  pub buckets : (k : ℕ) → k ≤ order_of t → GoodBucket (table_space t) t k

pub good_none : (space : Space) → Good space [] 0
unfolding select every distinct is_layout
good_none space = record { rows = tt; lives = refl; fields = refl; days = tt; apart = refl; laid = refl }

pub by_bucket_roomy : {t : Table} → ByBucket t → Roomy t
by_bucket_roomy s =
    record { long = s.long; within = λ k h. omega (arith, held_built (s.buckets k h).held, (s.buckets k h).held.fits) }

-- a change: each bucket is kept, or good in what it then holds
pub by_bucket_changed :
    {P : ℕ → Type 0} {t u : Table} → ByBucket t → Only P t u → ((j : ℕ) → j ≤ order_of t → P j ⊎ GoodBucket (table_space t) u j) → ByBucket u
by_bucket_changed {t = t} {u} s only each =
    let order : order_of u ≡ order_of t = same_order only.header in
    let space : table_space u ≡ table_space t = same_space only.header in
    record {
      order = ap valid_order order ∙ s.order;
      space = ap valid_space space ∙ s.space;
      long = rw order (omega (arith, s.long, only.long));
      header = only.header.row ∙ s.header ∙ ap₂ header_of (sym order) (sym space);
      buckets = λ j h.
          let below : j ≤ order_of t = omega (arith, h, order) in
          subst (λ (sp : Space). GoodBucket sp u j) (sym space)
          (elim (each j below) [
            | inl p ↦
                (let b : GoodBucket (table_space t) t j = s.buckets j below in
                record { slots = b.slots; live = b.live; held = kept_holds (only.others j below p) b.held; good = b.good })
            | inr b ↦ b
          ]);
    }
