-- What an accepted image makes of the table: its header put, and each bucket, which together write every row; and a refused one changes nothing.
use Prim.Native.Nat.{ℕ, zero, suc, ◌+◌, ◌-◌, ◌≤◌, ◌<◌}
use native.Mathlib.Omega.{arith}
use native.Mathlib.Decide.{dec_le}
use native.Mathlib.Nat.{lt_of_not-le}
use mathlib.Core.Path.{◌≡◌, refl, sym, ap, ◌∙◌}
use mathlib.Core.List.{List, [], foldl}
use lib.ListN.{length, drop, set, get_or, length-set}
use lib.Seq.{get_or-set_same, drop-set-lt, get_or-drop, ext_get_or}
use Rattle.lists.specs.Lists.{All}
use Rattle.metric_rules.specs.Row.{Row, word}
use Rattle.metric_rules.specs.Distance.{space_of}
use Rattle.table_rules.specs.Geometry.{room, buckets_of, header_row, first_slot, table_rows}
use Rattle.table_rules.specs.Table.{Table, row_at, order_of, table_space, header_of, put_bucket}
use Rattle.table_rules.proofs.Geometry.{row_by_row}
use Rattle.table_rules.proofs.Buckets.{order_most}
use Rattle.table_rules.proofs.Views.{room_of, same_order, same_space, room_row}
use Rattle.table_rules.proofs.Puts.{Holds, put_each, put_each_only, put_each_holds}
use Rattle.table_rules.proofs.Changes.{fresh_header, fresh_order, header_space}
use Rattle.image_rules.specs.Read.{order_in, space_in, live_in, bucket_in}
use Rattle.image_rules.specs.Load.{load_reply, load_refusal, loaded_table, table_after_load}
use Rattle.image_rules.specs.declared.Loaded.{Loaded}
use Rattle.image_rules.proofs.Accepting.{Accepted}
use Rattle.image_rules.proofs.EachBucket.{all_buckets, buckets_all}
use Rattle.image_rules.proofs.LoadedTable.{IsLoaded, length_bucket_in, four_weights, loaded, table_after_load_lem}
use Rattle.image_read.proofs.Places.{built_within}
use Rattle.table_buckets.specs.OfOrder.{OfOrder}

-- two tables with the same image loaded in the same area are the same, row by row
pub same_loaded : (image : List ℕ) (t u v : Table) → IsLoaded image t u → IsLoaded image t v → u ≡ v
unfolding row_at
same_loaded image t u v l m = ext_get_or [] u v (l.long ∙ sym m.long) (λ i h. elim (dec_le rows i) [ yes past ↦ behind i past | no own ↦ within i (lt_of_not-le own) ])
  where
    order : ℕ
    order = order_in image

    rows : ℕ
    rows = table_rows (order_in image)

    behind : (i : ℕ) → rows ≤ i → get_or u i [] ≡ get_or v i []
    behind i h =
        let e : rows + (i - rows) ≡ i = omega arith in
        ap (λ (n : ℕ). get_or u n []) (sym e)
        ∙ sym (get_or-drop rows u (i - rows) [])
        ∙ ap (λ (xs : Table). get_or xs (i - rows) []) (l.past ∙ sym m.past)
        ∙ get_or-drop rows v (i - rows) []
        ∙ ap (λ (n : ℕ). get_or v n []) e

    slot : (w : Table) → IsLoaded image t w → (k i : ℕ) → i < room k → row_at w (first_slot order k + i) ≡ get_or (room_of w k) i []
    slot w x k i h = ap (λ (o : ℕ). row_at w (first_slot o k + i)) (sym x.order) ∙ sym (room_row w k i h)

    within : (i : ℕ) → i < rows → row_at u i ≡ row_at v i
    within =
        row_by_row (λ r. row_at u r ≡ row_at v r) order (l.header ∙ sym m.header) (λ k h. (l.buckets k h).sizes ∙ sym (m.buckets k h).sizes)
        (λ k i h less. slot u l k i less ∙ ap (λ (xs : Table). get_or xs i []) ((l.buckets k h).rows ∙ sym (m.buckets k h).rows) ∙ sym (slot v m k i less))

-- a table with the image's header put first
module _ (image : List ℕ) (t : Table) (ok : Accepted (length t) image) where
  abbrev pub begun : Table
  begun = set t header_row (header_of (order_in image) (space_in image))

  some : header_row < length t
  unfolding header_row table_rows first_slot
  some = omega (arith, ok.roomy)

  begun_header : row_at begun header_row ≡ header_of (order_in image) (space_in image)
  unfolding row_at
  begun_header = get_or-set_same t header_row (header_of (order_in image) (space_in image)) [] some

  begun_order : order_of begun ≡ order_in image
  unfolding order_of
  begun_order =
      ap (λ (r : Row). word r 0) (begun_header ∙ sym (fresh_header (order_in image) (space_in image) t)) ∙ fresh_order (order_in image) (space_in image) t

  begun_space : table_space begun ≡ space_in image
  unfolding table_space
  begun_space = ap space_of begun_header ∙ header_space (order_in image) (space_in image) (four_weights image)

  begun_long : length begun ≡ length t
  begun_long = length-set t header_row (header_of (order_in image) (space_in image))

  begun_past : drop (table_rows (order_in image)) begun ≡ drop (table_rows (order_in image)) t
  unfolding header_row table_rows first_slot
  begun_past = drop-set-lt (table_rows (order_in image)) t header_row (header_of (order_in image) (space_in image)) (omega arith)

  pub begun_lent : OfOrder begun (order_in image)
  begun_lent = record { known = begun_order; most = order_most (order_in image) ok.order; long = rw begun_long ok.roomy }

  in_order : All (λ k. k ≤ order_of begun) (buckets_of (order_in image))
  in_order = rw begun_order (buckets_all (λ k. k ≤ order_in image) (order_in image) (λ k h. h))

  fits : All (λ k. length (bucket_in image k) ≤ room k) (buckets_of (order_in image))
  fits = buckets_all (λ k. length (bucket_in image k) ≤ room k) (order_in image) (λ k h. omega (arith, length_bucket_in image k, built_within (order_in image) image ok.sizes k h))

  long : table_rows (order_of begun) ≤ length begun
  long = rw (begun_order, begun_long) ok.roomy

  abbrev after : Table
  after = put_each (bucket_in image) (live_in image) (buckets_of (order_in image)) begun

  begun_loaded : IsLoaded image t after
  begun_loaded =
      let only = put_each_only (bucket_in image) (live_in image) (buckets_of (order_in image)) begun in_order fits long in
      record {
        header = only.header.row ∙ begun_header;
        order = same_order only.header ∙ begun_order;
        space = same_space only.header ∙ begun_space;
        long = only.long ∙ begun_long;
        past =
            ap (λ (n : ℕ). drop (table_rows n) after) (sym begun_order)
            ∙ only.past
            ∙ ap (λ (n : ℕ). drop (table_rows n) begun) begun_order
            ∙ begun_past;
        buckets = all_buckets (λ k. Holds after k (bucket_in image k) (live_in image k)) (order_in image) (put_each_holds (bucket_in image) (live_in image) (buckets_of (order_in image)) begun in_order fits long);
      }

  -- with each bucket put it is the table of an accepted load: what stood in its rows before does not matter
  pub load_puts : load_refusal (length t) image ≡ 0 → (last : Table)
      → last ≡ foldl (λ u k. put_bucket k (bucket_in image k) (live_in image k) u) begun (buckets_of (order_in image))
      → last ≡ table_after_load image t
  unfolding put_each
  load_puts e last put = put ∙ same_loaded image t _ (loaded_table image t) begun_loaded (loaded image t ok) ∙ sym (table_after_load_lem image t e)

-- a refusal changes nothing
pub load_stops : (image : List ℕ) (t : Table) (r : Loaded) → r ≡ load_reply (length t) image → (r.refusal ≡ 0 → ⊥) → t ≡ table_after_load image t
unfolding table_after_load load_refusal
load_stops image t r e some = go r.refusal some (ap (λ (x : Loaded). x.refusal) e)
  where
    go : (n : ℕ) → (n ≡ 0 → ⊥) → n ≡ (load_reply (length t) image).refusal → t ≡ elim (load_reply (length t) image).refusal [ zero ↦ loaded_table image t | suc m ↦ t ]
    go zero f d = absurd (f refl)
    go (suc n) f d = ap (λ (m : ℕ). elim m as (λ _. Table) [ zero ↦ loaded_table image t | suc k ↦ t ]) d
