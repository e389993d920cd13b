-- The potential behind the rebuild bound, over sizes as numbers: a live item of bucket k holds 4·(T - k) against the builds to come and a dead one 11,
-- all T times over. What add and remove pay, with what the buckets they clear held, covers the build and what the new bucket holds.
use Prim.Native.Nat.{ℕ, zero, suc, ◌+◌, ◌-◌, ◌*◌, ◌≤◌, ◌<◌}
use native.Mathlib.Omega.{arith}
use native.Mathlib.Nat.{mul-zero, mul-suc, mul-add, add-mul, mul-le-mul_left, mul-le-mul_right}
use mathlib.Core.Path.{◌≡◌, refl, ◌∙◌, ap, ap₂, subst⁻¹}
use mathlib.Core.Bool.{Bool, true, false}
use mathlib.Core.List.{List, [], ◌∷◌, map}
use lib.Pow.{pow_mono}
use lib.Dec.{ltb}
use Rattle.lists.specs.Lists.{count_from, total, All}
use Rattle.lists.proofs.Lists.{Pairs, all_both}
use Rattle.tree_rules.specs.Layout.{cost}
use Rattle.tree_rules.proofs.Cost.{cost_bound}
use Rattle.table_rules.specs.Geometry.{room}
use Rattle.table_rules.specs.Add.{add_bucket}
use Rattle.table_rules.proofs.Sizes.{Used, room_zero, room_next}
use Rattle.history.proofs.Amortized.{below, below_none, below_next, below_changed, Moved, moved_sum}

-- what bucket k holds, and the potential of a table of order T
unfoldable pub credit : ℕ → (ℕ → ℕ) → (ℕ → ℕ) → ℕ → ℕ
credit order built live k = 4 * (order - k) * live k + 11 * (built k - live k)

unfoldable pub potential : ℕ → (ℕ → ℕ) → (ℕ → ℕ) → ℕ
potential order built live = order * below (credit order built live) (suc order)

credit_of : (order k : ℕ) (built live : ℕ → ℕ) (b l : ℕ) → built k ≡ b → live k ≡ l → credit order built live k ≡ 4 * (order - k) * l + 11 * (b - l)
unfolding credit
credit_of order k built live b l x y = ap₂ (λ (c m : ℕ). 4 * (order - k) * m + 11 * (c - m)) x y

-- n items built in one bucket, the buckets they come from cleared: where they and what they then hold are covered by what was held there and by
-- what is paid, T times as much covers the build's distances
module _ {order : ℕ} {ks : List ℕ} {g n : ℕ} {built live built' live' : ℕ → ℕ} (in_order : All (λ k. k ≤ order) ks) (apart : Pairs (λ i j. i ≡ j → ⊥) ks) (reached : g ≤ order) (vacant : All (λ j. g ≡ j → ⊥) ks → (built g ≡ 0) × (live g ≡ 0)) (builtMoved : Moved order ks g n built built') (liveMoved : Moved order ks g n live live') where
  credit_moved : Moved order ks g (4 * (order - g) * n) (credit order built live) (credit order built' live')
  unfolding credit
  credit_moved =
      record {
        here = credit_of order g built' live' n n builtMoved.here liveMoved.here ∙ omega arith;
        gone =
            all_both {P = λ j. (j ≡ g → ⊥) → built' j ≡ 0} {Q = λ j. (j ≡ g → ⊥) → live' j ≡ 0}
            (λ j b l ne. credit_of order j built' live' 0 0 (b ne) (l ne) ∙ omega (arith, mul-zero (4 * (order - j)))) ks builtMoved.gone liveMoved.gone;
        kept = λ j h a. credit_of order j built' live' (built j) (live j) (builtMoved.kept j h a) (liveMoved.kept j h a);
      }

  pub rebuild_pays :
      n ≤ room g → (pay : ℕ) → n + 4 * (order - g) * n ≤ total (map (credit order built live) ks) + pay
      → cost n + potential order built' live' ≤ potential order built live + order * pay
  unfolding potential room
  rebuild_pays fits pay covered =
      let none : (a : All (λ j. g ≡ j → ⊥) ks) → credit order built live g ≡ 0 =
      λ a. credit_of order g built live 0 0 (vacant a).0 (vacant a).1 ∙ omega (arith, mul-zero (4 * (order - g)))
      in
      let sum = moved_sum in_order apart reached none credit_moved in
      let within : n + below (credit order built' live') (suc order) ≤ below (credit order built live) (suc order) + pay = omega (arith, sum, covered) in
      omega (
        arith,
        cost_bound order n (omega (arith, fits, pow_mono reached)),
        mul-le-mul_left order within,
        mul-add order n (below (credit order built' live') (suc order)),
        mul-add order (below (credit order built live) (suc order)) pay,
      )

-- one live item of bucket k becomes a dead one
pub mark_pays :
    {order k : ℕ} {built live built' live' : ℕ → ℕ} → k ≤ order → 0 < live k → live k ≤ built k → ((j : ℕ) → j ≤ order → built' j ≡ built j)
    → live' k ≡ live k - 1 → ((j : ℕ) → j ≤ order → (j ≡ k → ⊥) → live' j ≡ live j)
    → potential order built' live' ≤ potential order built live + order * 11
unfolding potential credit
mark_pays {order} {k} {built} {live} {built'} {live'} h some within b here others =
    let changed =
    below_changed (credit order built live) (credit order built' live') k (suc order) (omega arith)
    (λ i l ne. credit_of order i built' live' (built i) (live i) (b i (omega arith)) (others i (omega arith) ne))
    in
    let less : 4 * (order - k) * (live k - 1) ≤ 4 * (order - k) * live k = mul-le-mul_left (4 * (order - k)) (omega arith) in
    let sum : below (credit order built' live') (suc order) ≤ below (credit order built live) (suc order) + 11 =
    omega (arith, changed, credit_of order k built' live' (built k) (live k - 1) (b k h) here, credit_of order k built live (built k) (live k) refl refl, less)
    in
    omega (arith, mul-le-mul_left order sum, mul-add order (below (credit order built live) (suc order)) 11)

-- what an add's buckets hold
module _ (order : ℕ) (built live : ℕ → ℕ) where
  dead : ℕ → ℕ
  dead i = built i - live i

  -- buckets below m whose live items hold at least c each
  credit_below :
      (m c : ℕ) → ((i : ℕ) → i < m → c ≤ 4 * (order - i)) → c * below live m + 11 * below dead m ≤ below (credit order built live) m
  unfolding credit dead
  credit_below zero c h = omega (arith, below_none live, below_none dead, mul-zero c, ap (λ (n : ℕ). c * n) (below_none live))
  credit_below (suc m) c h =
      omega (
        arith,
        credit_below m c (λ i l. h i (omega arith)),
        below_next live m,
        below_next dead m,
        below_next (credit order built live) m,
        mul-le-mul_right (live m) (h m (omega arith)),
        mul-add c (below live m) (live m),
        ap (λ (n : ℕ). c * n) (below_next live m),
      )

  -- buckets in use, built more than half full, have half of the next room in live and dead items
  half_below :
      (m : ℕ) → ((j : ℕ) → j < m → Used j (built j) (live j)) → room m ≤ 2 * (below live m + below dead m) + 1
  unfolding dead
  half_below zero used = omega (arith, room_zero)
  half_below (suc m) used =
      let u = used m (omega arith) in
      omega (arith, half_below m (λ j l. used j (omega arith)), room_next m, u.half, u.live_built, below_next live m, below_next dead m)

  -- the new item and the live items of buckets 0 to e - 1, built in e: each moves up, the new one from below bucket 0
  up_credit : (e : ℕ) → e ≤ order → suc (below live e) + 4 * (order - e) * suc (below live e) ≤ below (credit order built live) e + 4 * (order + 1)
  up_credit e h =
      omega (
        arith,
        credit_below e (4 * (order - e) + 4) (λ i l. omega arith),
        add-mul (4 * (order - e)) 4 (below live e),
        mul-suc (4 * (order - e)) (below live e),
      )

  -- built in j, e = j + 1: bucket j's own stay, the lower ones and the new one move up, and their dead, of at least half the room, pay for the others
  level_credit :
      (j : ℕ) → j ≤ order → ((i : ℕ) → i < j → Used i (built i) (live i)) → suc (below live (suc j)) ≤ room j
      → suc (below live (suc j)) + 4 * (order - j) * suc (below live (suc j)) ≤ below (credit order built live) (suc j) + 4 * (order + 1)
  unfolding credit
  level_credit j h used fits =
      omega (
        arith,
        fits,
        credit_below j (4 * (order - j) + 4) (λ i l. omega arith),
        half_below j used,
        below_next live j,
        below_next (credit order built live) j,
        add-mul (4 * (order - j)) 4 (below live j),
        mul-suc (4 * (order - j)) (below live (suc j)),
        ap (λ (n : ℕ). 4 * (order - j) * n) (below_next live j),
        mul-add (4 * (order - j)) (below live j) (live j),
      )

  pub add_credit :
      (e n : ℕ) → ((i : ℕ) → i < e → Used i (built i) (live i)) → n ≡ suc (below live e) → add_bucket e n ≤ order → n ≤ room (add_bucket e n)
      → n + 4 * (order - add_bucket e n) * n ≤ total (map (credit order built live) (count_from 0 e)) + 4 * (order + 1)
  unfolding add_bucket below
  add_credit e n used is reached fits = go e (ltb (room e) (2 * n)) used is reached fits
    where
      go :
          (e : ℕ) (b : Bool) → ((i : ℕ) → i < e → Used i (built i) (live i)) → n ≡ suc (below live e)
          → elim b [ true ↦ e | false ↦ e - 1 ] ≤ order → n ≤ room (elim b [ true ↦ e | false ↦ e - 1 ])
          → n + 4 * (order - elim b [ true ↦ e | false ↦ e - 1 ]) * n ≤ below (credit order built live) e + 4 * (order + 1)
      go e true used is reached fits = rw is (up_credit e reached)
      go zero false used is reached fits = rw is (up_credit zero (omega arith))
      go (suc j) false used is reached fits =
          let same : suc j - 1 ≡ j = omega arith in
          rw is (subst⁻¹ (λ (g : ℕ). suc (below live (suc j)) + 4 * (order - g) * suc (below live (suc j)) ≤ below (credit order built live) (suc j) + 4 * (order + 1)) same
          (level_credit j (omega arith) (λ i l. used i (omega arith)) (omega (arith, fits, is, ap room same))))

-- what a removal's buckets hold: the q live items of bucket k, whose dead are more than q, go to bucket g, where an item holds a more; and the l items of
-- bucket r go there too, where an item held b more than that
module _ (order k : ℕ) (built live : ℕ → ℕ) (reached : k ≤ order) (sparse : 2 * live k < built k) where
  pub pair_credit :
      (g r a b : ℕ) → 4 * (order - g) ≡ 4 * (order - k) + a → 4 * (order - r) ≡ 4 * (order - k) + a + b
      → live k + live r + a * live k ≤ 11 * (built k - live k) + b * live r
      → live k + live r + 4 * (order - g) * (live k + live r) ≤ total (map (credit order built live) (k ∷ r ∷ []))
  unfolding credit total
  pair_credit g r a b up down h =
      omega (
        arith,
        h,
        ap (λ (c : ℕ). c * (live k + live r)) up,
        ap (λ (c : ℕ). c * live r) down,
        add-mul (4 * (order - k)) a (live k + live r),
        mul-add (4 * (order - k)) (live k) (live r),
        mul-add a (live k) (live r),
        add-mul (4 * (order - k) + a) b (live r),
        add-mul (4 * (order - k)) a (live r),
      )

  -- into bucket k itself, from the one below it
  pub same_credit : 2 ≤ k → live k + live (k - 1) + 4 * (order - k) * (live k + live (k - 1)) ≤ total (map (credit order built live) (k ∷ (k - 1) ∷ []))
  same_credit deep = pair_credit k (k - 1) 0 4 (omega arith) (omega arith) (omega (arith, sparse))

  -- into the next lower bucket, with what it has
  pub next_credit :
      2 ≤ k → live (k - 1) ≤ live k
      → live k + live (k - 1) + 4 * (order - (k - 1)) * (live k + live (k - 1)) ≤ total (map (credit order built live) (k ∷ (k - 1) ∷ []))
  next_credit deep few = pair_credit (k - 1) (k - 1) 4 0 (omega arith) (omega arith) (omega (arith, sparse, few))

  -- into the next lower bucket, with the one below that
  pub second_credit :
      2 ≤ k → live k + live (k - 2) + 4 * (order - (k - 1)) * (live k + live (k - 2)) ≤ total (map (credit order built live) (k ∷ (k - 2) ∷ []))
  second_credit deep = pair_credit (k - 1) (k - 2) 4 4 (omega arith) (omega arith) (omega (arith, sparse))

  -- alone, two buckets down
  pub alone_credit : 2 ≤ k → live k + 4 * (order - (k - 2)) * live k ≤ total (map (credit order built live) (k ∷ []))
  unfolding credit total
  alone_credit deep =
      let down : 4 * (order - (k - 2)) ≡ 4 * (order - k) + 8 = omega arith in
      omega (arith, sparse, ap (λ (c : ℕ). c * live k) down, add-mul (4 * (order - k)) 8 (live k))

-- at the start: no item holds more than an add pays, and no dead one more than a removal
module _ (order : ℕ) (built live : ℕ → ℕ) where
  begin_below :
      (m : ℕ) → ((k : ℕ) → k < m → live k ≤ built k)
      → below (credit order built live) m + 11 * below live m ≤ 4 * (order + 1) * below live m + 11 * below built m
  unfolding credit
  begin_below zero h =
      omega (arith, below_none live, below_none built, below_none (credit order built live), ap (λ (n : ℕ). 4 * (order + 1) * n) (below_none live), mul-zero (4 * (order + 1)))
  begin_below (suc m) h =
      let less : 4 * (order - m) ≤ 4 * (order + 1) = omega arith in
      omega (
        arith,
        begin_below m (λ k l. h k (omega arith)),
        h m (omega arith),
        below_next live m,
        below_next built m,
        below_next (credit order built live) m,
        mul-le-mul_right (live m) less,
        ap (λ (n : ℕ). 4 * (order + 1) * n) (below_next live m),
        mul-add (4 * (order + 1)) (below live m) (live m),
      )

  pub begin_pays :
      ((k : ℕ) → k ≤ order → live k ≤ built k)
      → potential order built live ≤ order * (4 * (order + 1) * below live (suc order) + 11 * (below built (suc order) - below live (suc order)))
  unfolding potential
  begin_pays h = mul-le-mul_left order (omega (arith, begin_below (suc order) (λ k l. h k (omega arith))))
