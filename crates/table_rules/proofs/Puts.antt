-- What the views show after sizes are put, after a bucket is put and after buckets are emptied: at the bucket itself what was put, elsewhere what was
-- there. A change of a sizes row or of a room lies between two places of the table.
use Prim.Native.Nat.{ℕ, suc, ◌+◌, ◌-◌, ◌≤◌, ◌<◌}
use mathlib.Core.Path.{◌≡◌, refl, sym, ◌∙◌, ap, ap₂, subst}
use mathlib.Core.Logic.{◌⊎◌, inl, inr}
use mathlib.Core.List.{List, [], ◌∷◌, ◌++◌, foldl}
use native.Mathlib.Omega.{arith}
use native.Mathlib.Decide.{ℕ_discrete}
use lib.ListN.{length, get_or, take, set, replicate, length-append, length-replicate, length-set, get_or-replicate}
use lib.Seq.{paste, take-set-le, drop-set-lt, get_or-set_same, take-append_seam, get_or-append-add}
use Rattle.lists.specs.Lists.{select, All}
use Rattle.lists.proofs.Lists.{all_weaken, all_always}
use Rattle.metric_rules.specs.Row.{Row, word, is_live, zero_row}
use Rattle.table_rules.specs.Geometry.{room, sizes_row, first_slot, table_rows}
use Rattle.table_rules.specs.Table.{Table, row_at, order_of, built_of, live_of, slots_of, live_slots, pair_row, put_sizes, put_bucket, emptied}
use Rattle.table_rules.proofs.Geometry.{sizes_before_slots, room_ends}
use Rattle.table_rules.proofs.Windows.{window, window-paste, before-paste, after-paste, paste-length}
use Rattle.table_rules.proofs.Views.{room_of, room_row, slots_of_room, same_order, Kept, Only, only_own, only_twice, only_fewer, Between, only-sizes}
use Rattle.table_rules.proofs.Views.{only-slots, sizes-room}

-- the sizes that a sizes row shows
module _ (u : Table) (k a b : ℕ) (row : row_at u (sizes_row k) ≡ pair_row a b) where
  pub pair_built : built_of u k ≡ a
  unfolding built_of pair_row word zero_row
  pair_built = ap (λ (r : Row). word r 0) row

  pub pair_live : live_of u k ≡ b
  unfolding live_of pair_row word zero_row
  pair_live = ap (λ (r : Row). word r 1) row

-- bucket k with these slots, `live` as its live size, and zeros in the rest of its room
unfoldable pub filled_room : ℕ → List Row → List Row
filled_room k slots = slots ++ replicate (room k - length slots) zero_row

pub record Holds (u : Table) (k : ℕ) (slots : List Row) (live : ℕ) : Type 0 where
  pub fits : length slots ≤ room k
  pub sizes : row_at u (sizes_row k) ≡ pair_row (length slots) live
  pub rows : room_of u k ≡ filled_room k slots

module _ {u : Table} {k : ℕ} {slots : List Row} {live : ℕ} (held : Holds u k slots live) where
  pub held_built : built_of u k ≡ length slots
  held_built = pair_built u k (length slots) live held.sizes

  pub held_live : live_of u k ≡ live
  held_live = pair_live u k (length slots) live held.sizes

  pub held_slots : slots_of u k ≡ slots
  unfolding filled_room
  held_slots =
      slots_of_room u k (omega (arith, held_built, held.fits))
      ∙ ap₂ (λ (n : ℕ) (rs : List Row). take n rs) held_built held.rows
      ∙ take-append_seam slots (replicate (room k - length slots) zero_row)

  pub held_live_slots : live_slots u k ≡ select is_live slots
  unfolding live_slots
  held_live_slots = ap (select is_live) held_slots

  pub held_zeros : (i : ℕ) → length slots ≤ i → i < room k → row_at u (first_slot (order_of u) k + i) ≡ zero_row
  unfolding filled_room
  held_zeros i low high =
      let zeros : List Row = replicate (room k - length slots) zero_row in
      let place : i ≡ length slots + (i - length slots) = omega arith in
      sym (room_row u k i high)
      ∙ ap₂ (λ (n : ℕ) (rs : List Row). get_or rs n []) place held.rows
      ∙ get_or-append-add slots zeros (i - length slots) []
      ∙ get_or-replicate (room k - length slots) (i - length slots) zero_row [] (omega arith)

-- a bucket that is kept holds what it held
pub kept_holds : {t u : Table} {k live : ℕ} {slots : List Row} → Kept t u k → Holds t k slots live → Holds u k slots live
kept_holds kept h = record { fits = h.fits; sizes = kept.sizes ∙ h.sizes; rows = kept.rows ∙ h.rows }

-- an element set is a change between its place and the next
set_between : (t : Table) (i : ℕ) (row : Row) → Between i (i + 1) t (set t i row)
set_between t i row =
    record { before = take-set-le i t i row (omega arith); after = drop-set-lt (i + 1) t i row (omega arith); long = length-set t i row }

module _ (t : Table) (k : ℕ) (in_order : k ≤ order_of t) (long : table_rows (order_of t) ≤ length t) where
  sizes_inside : sizes_row k < length t
  unfolding table_rows
  sizes_inside = omega (arith, sizes_before_slots (order_of t) k (suc (order_of t)) in_order)

  -- sizes put: the room is kept too
  module _ (built live : ℕ) where
    pub put-sizes-only : Only (λ j. j ≡ k → ⊥) t (put_sizes k built live t)
    unfolding put_sizes
    put-sizes-only = only-sizes k in_order (set_between t (sizes_row k) (pair_row built live))

    pub put-sizes-room : room_of (put_sizes k built live t) k ≡ room_of t k
    unfolding put_sizes
    put-sizes-room = sizes-room k in_order (set_between t (sizes_row k) (pair_row built live)) k

    pub put-sizes-row : row_at (put_sizes k built live t) (sizes_row k) ≡ pair_row built live
    unfolding row_at put_sizes
    put-sizes-row = get_or-set_same t (sizes_row k) (pair_row built live) [] sizes_inside

-- a bucket put
module _ (t : Table) (k : ℕ) (in_order : k ≤ order_of t) (long : table_rows (order_of t) ≤ length t) where
  room_inside : first_slot (order_of t) k + room k ≤ length t
  room_inside = omega (arith, room_ends (order_of t) k in_order)

  module _ (slots : List Row) (live : ℕ) (fits : length slots ≤ room k) where
    block_length : length (filled_room k slots) ≡ room k
    unfolding filled_room
    block_length =
        omega (arith, length-append slots (replicate (room k - length slots) zero_row), length-replicate (room k - length slots) zero_row)

    pasted : Table
    pasted = paste t (first_slot (order_of t) k) (filled_room k slots) (room k)

    paste_between : Between (first_slot (order_of t) k) (first_slot (order_of t) k + room k) t pasted
    unfolding pasted
    paste_between =
        record {
          before = before-paste t (filled_room k slots) (first_slot (order_of t) k) (room k) room_inside block_length;
          after = after-paste t (filled_room k slots) (first_slot (order_of t) k) (room k) room_inside block_length;
          long = paste-length t (filled_room k slots) (first_slot (order_of t) k) (room k) room_inside block_length;
        }

    pasted-order : order_of pasted ≡ order_of t
    pasted-order = same_order (only-slots k in_order paste_between).header

    pasted-room : room_of pasted k ≡ filled_room k slots
    unfolding room_of pasted
    pasted-room =
        ap (λ (n : ℕ). window (first_slot n k) (room k) pasted) pasted-order
        ∙ window-paste t (filled_room k slots) (first_slot (order_of t) k) (room k) room_inside block_length

    pasted_in : k ≤ order_of pasted
    pasted_in = omega (arith, in_order, pasted-order)

    pasted_long : table_rows (order_of pasted) ≤ length pasted
    pasted_long = rw pasted-order (omega (arith, long, paste_between.long))

    put-bucket-steps : put_bucket k slots live t ≡ put_sizes k (length slots) live pasted
    unfolding put_bucket pasted filled_room
    put-bucket-steps = refl

    pub put-bucket-only : Only (λ j. j ≡ k → ⊥) t (put_bucket k slots live t)
    put-bucket-only =
        rw put-bucket-steps
        (only_twice (only-slots k in_order paste_between) (put-sizes-only pasted k pasted_in pasted_long (length slots) live))

    pub put-bucket-holds : Holds (put_bucket k slots live t) k slots live
    put-bucket-holds =
        rw put-bucket-steps
        (record {
          fits = fits;
          sizes = put-sizes-row pasted k pasted_in pasted_long (length slots) live;
          rows = put-sizes-room pasted k pasted_in pasted_long (length slots) live ∙ pasted-room;
        })

-- a bucket put for each number of a list, by functions that give its slots and its live size
unfoldable pub put_each : (ℕ → List Row) → (ℕ → ℕ) → List ℕ → Table → Table
put_each slots live ks t = foldl (λ u k. put_bucket k (slots k) (live k) u) t ks

pub each_emptied : (ks : List ℕ) (t : Table) → emptied ks t ≡ put_each (λ k. []) (λ k. 0) ks t
unfolding emptied put_each
each_emptied ks t = refl

-- either j is none of the numbers, or what holds of all of them holds of j
pub apart_or : (P : ℕ → Type 0) (j : ℕ) (ks : List ℕ) → All P ks → All (λ k. j ≡ k → ⊥) ks ⊎ P j
apart_or P j [] h = inl tt
apart_or P j (k ∷ ks) h =
    elim (ℕ_discrete j k) [
      | yes e ↦ inr (subst P (sym e) h.0)
      | no ne ↦ elim (apart_or P j ks h.1) [ inl a ↦ inl (ne, a) | inr p ↦ inr p ]
    ]

module _ (slots : ℕ → List Row) (live : ℕ → ℕ) where
  pub put_each_only :
      (ks : List ℕ) (t : Table)
      → All (λ k. k ≤ order_of t) ks
      → All (λ k. length (slots k) ≤ room k) ks
      → table_rows (order_of t) ≤ length t
      → Only (λ j. All (λ k. j ≡ k → ⊥) ks) t (put_each slots live ks t)
  unfolding put_each
  put_each_only [] t in_order fits long = only_own
  put_each_only (k ∷ ks) t in_order fits long =
      let u : Table = put_bucket k (slots k) (live k) t in
      let first : Only (λ j. j ≡ k → ⊥) t u = put-bucket-only t k in_order.0 long (slots k) (live k) fits.0 in
      let order : order_of u ≡ order_of t = same_order first.header in
      let long' : table_rows (order_of u) ≤ length u = rw order (omega (arith, long, first.long)) in
      let rest : Only (λ j. All (λ i. j ≡ i → ⊥) ks) u (put_each slots live ks u) =
      put_each_only ks u (all_weaken (λ j h. rw order h) ks in_order.1) fits.1 long' in
      only_twice (only_fewer (λ j a. a.0) first) (only_fewer (λ j a. a.1) rest)

  pub put_each_holds :
      (ks : List ℕ) (t : Table)
      → All (λ k. k ≤ order_of t) ks
      → All (λ k. length (slots k) ≤ room k) ks
      → table_rows (order_of t) ≤ length t
      → All (λ k. Holds (put_each slots live ks t) k (slots k) (live k)) ks
  unfolding put_each
  put_each_holds [] t in_order fits long = tt
  put_each_holds (k ∷ ks) t in_order fits long =
      let u : Table = put_bucket k (slots k) (live k) t in
      let first : Only (λ j. j ≡ k → ⊥) t u = put-bucket-only t k in_order.0 long (slots k) (live k) fits.0 in
      let order : order_of u ≡ order_of t = same_order first.header in
      let long' : table_rows (order_of u) ≤ length u = rw order (omega (arith, long, first.long)) in
      let inOrder' : All (λ j. j ≤ order_of u) ks = all_weaken (λ j h. rw order h) ks in_order.1 in
      let v : Table = put_each slots live ks u in
      let rest : All (λ j. Holds v j (slots j) (live j)) ks = put_each_holds ks u inOrder' fits.1 long' in
      let still : k ≤ order_of u = rw order in_order.0 in (
        elim (apart_or (λ j. Holds v j (slots j) (live j)) k ks rest) [
          | inl a ↦ kept_holds ((put_each_only ks u inOrder' fits.1 long').others k still a) (put-bucket-holds t k in_order.0 long (slots k) (live k) fits.0)
          | inr h ↦ h
        ],
        rest,
      )

-- buckets emptied
module _ (ks : List ℕ) (t : Table) (in_order : All (λ k. k ≤ order_of t) ks) (long : table_rows (order_of t) ≤ length t) where
  none_fits : All (λ k. 0 ≤ room k) ks
  none_fits = all_always (λ k. omega arith) ks

  pub emptied_only : Only (λ j. All (λ k. j ≡ k → ⊥) ks) t (emptied ks t)
  emptied_only = rw (each_emptied ks t) (put_each_only (λ k. []) (λ k. 0) ks t in_order none_fits long)

  pub emptied_holds : All (λ k. Holds (emptied ks t) k [] 0) ks
  emptied_holds = rw (each_emptied ks t) (put_each_holds (λ k. []) (λ k. 0) ks t in_order none_fits long)
