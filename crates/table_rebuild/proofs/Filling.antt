-- A room whose front is built and whose rest is zeroed, and a work area whose front was used and is zero again.
use Prim.Native.Nat.{ℕ, ◌+◌, ◌-◌, ◌≤◌}
use native.Mathlib.Omega.{arith}
use mathlib.Core.Path.{◌≡◌, refl, sym, ◌∙◌, ap, ap₂}
use mathlib.Core.List.{List, ◌++◌, append_assoc}
use lib.ListN.{length, take, drop, replicate, length-take, length-drop, replicate-append-replicate}
use lib.Seq.{drop-drop, drop-append-add, sets, sets-eq}
use borrow.Rule.Slice.PartMut.{put_mid}
use Rattle.lists.specs.Lists.{All}
use Rattle.metric_rules.specs.Row.{Row, zero_row}
use Rattle.tree_rules.proofs.Parts.{part_behind, put_behind}
use Rattle.metric_rules.specs.declared.Space.{Space}
use Rattle.metric_rules.specs.Distance.{distance}
use Rattle.tree_rules.specs.Layout.{layout}
use Rattle.tree_rules.proofs.Layouts.{layout_length}
use Rattle.table_rules.specs.Geometry.{most_order, room, first_slot, table_rows}
use Rattle.table_rules.specs.Table.{Table, order_of, table_space, put_sizes, put_bucket, emptied, cleared}
use Rattle.table_rules.specs.Rebuild.{rebuilt}
use Rattle.table_rules.proofs.Views.{same_space}
use Rattle.table_rules.proofs.Puts.{emptied_only}
use Rattle.table_buckets.specs.OfOrder.{OfOrder}
use Rattle.table_buckets.proofs.Places.{room_inside, room_given_back}

-- the most items of any table
pub most_room : room most_order ≡ 4096
unfolding room
most_room = refl

-- the first n slots given back as `laid`, and then the rest as zeros
pub filled :
    (n : ℕ) (slots laid zeros : List Row) → length laid ≡ n
    → zeros ≡ replicate (length (take (length (laid ++ drop n slots) - n) (drop n (laid ++ drop n slots)))) zero_row
    → put_mid n (length (laid ++ drop n slots) - n) (laid ++ drop n slots) zeros ≡ laid ++ replicate (length slots - n) zero_row
filled n slots laid zeros fits z =
    let m : length (take (length (laid ++ drop n slots) - n) (drop n (laid ++ drop n slots))) ≡ length slots - n =
    ap length (part_behind n laid (drop n slots) fits) ∙ length-drop n slots in
    put_behind n laid (drop n slots) fits zeros ∙ ap (λ (r : List Row). laid ++ r) (z ∙ ap (λ (i : ℕ). replicate i zero_row) m)

-- n rows are zero, and those up to `end` are zeroed
pub zeroed :
    (n end : ℕ) (work zeros : List Row) → n ≤ end → end ≤ length work → take n work ≡ replicate n zero_row
    → zeros ≡ replicate (length (take (end - n) (drop n work))) zero_row → put_mid n (end - n) work zeros ≡ cleared zero_row end work
unfolding cleared
zeroed n end work zeros low high front z =
    let m : length (take (end - n) (drop n work)) ≡ end - n = omega (arith, length-take (end - n) (drop n work), length-drop n work) in
    let s : n + (end - n) ≡ end = omega arith in
    ap₂ (λ (a b : List Row). a ++ (b ++ drop (end - n) (drop n work))) front (z ∙ ap (λ (i : ℕ). replicate i zero_row) m)
    ∙ ap (λ (r : List Row). replicate n zero_row ++ (replicate (end - n) zero_row ++ r)) (drop-drop (end - n) n work ∙ ap (λ (i : ℕ). drop i work) s)
    ∙ sym (append_assoc (replicate n zero_row) (replicate (end - n) zero_row) (drop end work))
    ∙ ap (λ (r : List Row). r ++ drop end work) (replicate-append-replicate n (end - n) zero_row ∙ ap (λ (i : ℕ). replicate i zero_row) s)

-- to clear a work area whose front was used is to clear it as it was
pub cleared_again :
    (front work used : List Row) (n end : ℕ) → length front ≡ n → n ≤ end → used ≡ front ++ drop n work → cleared zero_row end used ≡ cleared zero_row end work
unfolding cleared
cleared_again front work used n end fits low e =
    let s : n + (end - n) ≡ end = omega arith in
    let f : length front + (end - n) ≡ end = omega (arith, fits) in
    ap (λ (r : List Row). replicate end zero_row ++ r)
    (ap (drop end) e
    ∙ ap (λ (i : ℕ). drop i (front ++ drop n work)) (sym f)
    ∙ drop-append-add front (drop n work) (end - n)
    ∙ drop-drop (end - n) n work
    ∙ ap (λ (i : ℕ). drop i work) s)

pub cleared_stored :
    (vs work used : List Row) (end : ℕ) → used ≡ sets work 0 vs → length vs ≤ end → end ≤ length work → cleared zero_row end used ≡ cleared zero_row end work
cleared_stored vs work used end e few long =
    cleared_again vs work used (0 + length vs) end (omega arith) (omega arith) (e ∙ sets-eq vs work 0 (omega arith))

-- the room of bucket k given back with the layout of these rows and zeros, and the sizes written
pub bucket_built :
    {t : Table} {order : ℕ} (lent : OfOrder t order) (k n first size : ℕ) (rows block : List Row) → k ≤ order → first ≡ first_slot order k → size ≡ room k
    → length rows ≡ n → n ≤ room k
    → block ≡ layout (distance (table_space t)) rows ++ replicate (length (take (first + size - first) (drop first t)) - n) zero_row
    → put_sizes k n n (put_mid first (first + size - first) t block) ≡ put_bucket k (layout (distance (table_space t)) rows) n t
bucket_built {t} {order} lent k n first size rows block in_order f e m fits b =
    let slots : List Row = layout (distance (table_space t)) rows in
    let long : length slots ≡ n = layout_length (distance (table_space t)) rows ∙ m in
    let part : length (take (first + size - first) (drop first t)) - n ≡ room k - length slots =
    omega (arith, length-take (first + size - first) (drop first t), length-drop first t, room_inside lent k in_order, f, e, long) in
    ap (λ (i : ℕ). put_sizes k i n (put_mid first (first + size - first) t block)) (sym long)
    ∙ room_given_back lent k slots n first (first + size - first) block f (omega (arith, e)) (omega (arith, long, fits))
    (b ∙ ap (λ (i : ℕ). slots ++ replicate i zero_row) part)

-- some buckets emptied and one built of the rows gathered: the rebuild
pub rebuilt_by :
    (t : Table) (ks : List ℕ) → All (λ k. k ≤ order_of t) ks → table_rows (order_of t) ≤ length t → (to n : ℕ) (rows taken : List Row) (u last : Table)
    → u ≡ emptied ks t → taken ≡ rows → n ≡ length rows → last ≡ put_bucket to (layout (distance (table_space u)) taken) n u
    → last ≡ (rebuilt t ks to rows).table
unfolding rebuilt
rebuilt_by t ks inside long to n rows taken u last f r m g =
    let space : table_space u ≡ table_space t = ap table_space f ∙ same_space (emptied_only ks t inside long).header in
    g
    ∙ ap₂ (λ (s : Space) (l : List Row). put_bucket to (layout (distance s) l) n u) space r
    ∙ ap₂ (λ (i : ℕ) (v : Table). put_bucket to (layout (distance (table_space t)) rows) i v) m f
