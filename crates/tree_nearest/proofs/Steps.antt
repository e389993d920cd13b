-- Steps of a nearest search on an area, one after the other: each starts from what the one before left, and both leave what the two definitions give.
-- Entries kept only grow in number, stay in order and fit 32 bits, so the area's front and the bound always stand for a tally.
use Prim.Native.Nat.{ℕ, zero, suc, ◌+◌, ◌-◌, ◌/◌, ◌≤◌, ◌<◌, ◌^◌}
use mathlib.Core.Path.{◌≡◌, refl, sym, ap, ap₂, subst, ◌∙◌}
use mathlib.Core.Bool.{Bool, true, false}
use mathlib.Core.List.Permᴰ
use mathlib.Core.List.{List, [], ◌∷◌, ◌++◌}
use lib.ListN.{length, take, drop, get_or, length-take, length-drop, length-append, take-append-drop}
use lib.Seq.{take-append_seam, drop-append-add, drop-drop}
use lib.Dec.{leb}
use borrow.Author.Tests.{le-leb, lt-leb}
use native.Mathlib.Omega.{arith}
use Rattle.lists.specs.Lists.{select}
use Rattle.lists.proofs.Lists.{all_take, all_perm, pairs_take}
use Rattle.metric_rules.specs.declared.Profile.{Profile}
use Rattle.metric_rules.specs.Row.{Row, threshold_of}
use Rattle.tree_rules.specs.Layout.{left_size}
use Rattle.tree_rules.proofs.Sorting.{NotAfter, sort_perm, sort_sorted, sort_of_sorted}
use Rattle.tree_rules.proofs.Parts.{left_size_lem, part_rest}
use Rattle.search_rules.specs.Range.{Entry, entry, entry_distance, entry_key, entry_of, ordered, to_query, enters_left, enters_right}
use Rattle.search_rules.specs.Nearest.{Tally, keep, opens, taken, enter_half, enter_halves, nearest_within, nearest_tree}
use Rattle.search_rules.proofs.NearestLaws.{nearest_step_lem, nearest_none, nearest_step, Counted, lives, own_live, nearest_counted, counted_half, counted_taken}
use Rattle.search_rules.proofs.Selecting.{select_append, select_all}
pub use Rattle.tree_leaf.proofs.Known.{short}
use Rattle.tree_nearest.specs.declared.Nearby.{Nearby}
use Rattle.tree_nearest.specs.Nearby.{bound_of, kept_of, in_front, tally_of, Leaves, reported_in, Ready, taken_at, near_in_halves}
use Rattle.tree_nearest.proofs.Bounds.{Near, under_bound, opens-always, opens_within, shut-beyond, held_few, held_front}

-- the same tally, written otherwise
pub leaves_as : (k : ℕ) {t u : Tally} (area after : List Entry) (r : Nearby) → t ≡ u → Leaves k t area after r → Leaves k u area after r
leaves_as k area after r e l = subst (λ (v : Tally). Leaves k v area after r) e l

-- entries in order whose distances fit 32 bits
pub record Fit (es : List Entry) : Type 0 where
  pub in_order : ordered es ≡ es
  pub near : Near es

keep_ordered : (k : ℕ) (es : List Entry) → ordered (keep k es) ≡ keep k es
unfolding keep ordered
keep_ordered k es = sort_of_sorted entry_key (keep k es) (pairs_take (NotAfter entry_key) k (ordered es) (sort_sorted entry_key es))

keep_near : (k : ℕ) (es : List Entry) → Near es → Near (keep k es)
unfolding keep ordered
keep_near k es h = all_take (λ e. entry_distance e < 2 ^ 32) k (ordered es) (all_perm (λ e. entry_distance e < 2 ^ 32) (Permᴰ.symm (sort_perm entry_key es)) h)

module _ (dist : Profile → Profile → ℕ) (query : Profile) (reports : Row → Bool) (k : ℕ) where
  -- a property of the entries kept that taking one slot's item in preserves is preserved by a whole search
  module _ (P : List Entry → Type 0) (own : (t : Tally) (s : Row) → P t.kept → P (taken dist query reports k t s).kept) where
    half_keeps : (enters : ℕ → Bool) (search : Tally → Tally) (t : Tally) → P t.kept → P (search t).kept → P (enter_half dist query reports k enters search t).kept
    unfolding enter_half
    half_keeps enters search t h g = go (opens k enters t.kept)
      where
        go : (b : Bool) → P (elim b as (λ _. Tally) [ true ↦ search t | false ↦ t ]).kept
        go true = g
        go false = h

    halves-keep : (d m : ℕ) (left right : Tally → Tally) → ((u : Tally) → P u.kept → P (left u).kept) → ((u : Tally) → P u.kept → P (right u).kept)
        → (t : Tally) → P t.kept → P (enter_halves dist query reports k d m left right t).kept
    unfolding enter_halves
    halves-keep d m left right f g t h = go (leb d m)
      where
        goL : (u : Tally) → P u.kept → P (enter_half dist query reports k (enters_left d m) left u).kept
        goL u e = half_keeps (enters_left d m) left u e (f u e)

        goR : (u : Tally) → P u.kept → P (enter_half dist query reports k (enters_right d m) right u).kept
        goR u e = half_keeps (enters_right d m) right u e (g u e)

        go : (b : Bool) → P (elim b as (λ _. Tally) [ true ↦ enter_half dist query reports k (enters_right d m) right (enter_half dist query reports k (enters_left d m) left t) | false ↦ enter_half dist query reports k (enters_left d m) left (enter_half dist query reports k (enters_right d m) right t) ]).kept
        go true = goR (enter_half dist query reports k (enters_left d m) left t) (goL t h)
        go false = goL (enter_half dist query reports k (enters_right d m) right t) (goR t h)

    within-keeps : (n : ℕ) (slots : List Row) (t : Tally) → P t.kept → P (nearest_within dist query reports k n t slots).kept
    unfolding nearest_within
    within-keeps zero slots t h = h
    within-keeps (suc n) [] t h = h
    within-keeps (suc n) (s ∷ rest) t h =
        let l = left_size (suc (length rest)) in
        halves-keep (to_query dist query s) (threshold_of s)
        (λ u. nearest_within dist query reports k n u (take l rest))
        (λ u. nearest_within dist query reports k n u (drop l rest))
        (λ u e. within-keeps n (take l rest) u e)
        (λ u e. within-keeps n (drop l rest) u e)
        (taken dist query reports k t s)
        (own t s h)

    tree-keeps : (slots : List Row) (t : Tally) → P t.kept → P (nearest_tree dist query reports k t slots).kept
    unfolding nearest_tree
    tree-keeps slots t h = within-keeps (length slots) slots t h

  -- what a step over n slots, so many of them to be reported, does to a tally
  pub record Sound (reported n : ℕ) (t r : Tally) : Type 0 where
    pub fit : Fit r.kept
    pub counted : Counted dist query reports k t r reported n

  module _ (short : (p q : Profile) → dist p q < 2 ^ 32) where
    own-fit : (t : Tally) (s : Row) → Fit t.kept → Fit (taken dist query reports k t s).kept
    unfolding taken to_query entry_of entry entry_distance
    own-fit t s h = go (reports s)
      where
        go : (b : Bool) → Fit (elim b [ true ↦ keep k (entry_of dist query s ∷ t.kept) | false ↦ t.kept ])
        go true = record { in_order = keep_ordered k (entry_of dist query s ∷ t.kept); near = keep_near k (entry_of dist query s ∷ t.kept) (short _ query, h.near) }
        go false = h

    pub sound-tree : (slots : List Row) (t : Tally) → Fit t.kept → length t.kept ≤ k → Sound (lives dist query reports k slots) (length slots) t (nearest_tree dist query reports k t slots)
    sound-tree slots t h few = record { fit = tree-keeps Fit own-fit slots t h; counted = nearest_counted dist query reports k t slots few }

    sound-half : (enters : ℕ → Bool) (half : List Row) (t : Tally) → Fit t.kept → length t.kept ≤ k
        → Sound (lives dist query reports k half) (length half) t (enter_half dist query reports k enters (λ u. nearest_tree dist query reports k u half) t)
    sound-half enters half t h few =
        record {
          fit = half_keeps Fit own-fit enters (λ u. nearest_tree dist query reports k u half) t h (tree-keeps Fit own-fit half t h);
          counted = counted_half dist query reports k enters (λ u. nearest_tree dist query reports k u half) t (lives dist query reports k half) (length half) few (nearest_counted dist query reports k t half few);
        }

    sound-taken : (s : Row) (t : Tally) → Fit t.kept → length t.kept ≤ k → Sound (own_live dist query reports k s) 1 t (taken_at reports k t s (to_query dist query s))
    unfolding taken_at taken entry_of
    sound-taken s t h few = record { fit = own-fit t s h; counted = counted_taken dist query reports k t s few }

-- a slot that may be reported, alone
pub one_reported : (reports : Row → Bool) (row : Row) → reports row ≡ true → reported_in reports (row ∷ []) ≡ 1
one_reported reports row e = ap length (select_all reports (row ∷ []) (e, tt))

pub reported_append : (reports : Row → Bool) (xs ys : List Row) → reported_in reports xs + reported_in reports ys ≡ reported_in reports (xs ++ ys)
reported_append reports xs ys = sym (length-append (select reports xs) (select reports ys)) ∙ ap length (sym (select_append reports xs ys))

-- the first slot and those behind it
pub first_reported : (reports : Row → Bool) (slots : List Row) → 0 < length slots → reported_in reports (get_or slots 0 [] ∷ []) + reported_in reports (take (length slots - 1) (drop 1 slots)) ≡ reported_in reports slots
first_reported reports [] h = absurd (omega arith)
first_reported reports (s ∷ rest) h = ap (λ (xs : List Row). reported_in reports (s ∷ []) + reported_in reports xs) (part_rest 1 (s ∷ rest)) ∙ reported_append reports (s ∷ []) rest

-- a step can start: what stands in the area is a tally
module _ {k reported n : ℕ} {area : List Entry} {near : Nearby} (p : Ready k reported n area near) where
  pub ready_fit : Fit (kept_of k area near.bound)
  ready_fit = record { in_order = p.held.in_order; near = p.held.near }

  pub ready_few : length (kept_of k area near.bound) ≤ k
  ready_few = held_few p.held

  -- a step that does nothing
  pub leaves_same : Leaves k (tally_of k area near) area area near
  leaves_same = (λ i. record { count = near.count; bound = p.held.bound_is i }, sym (held_front p.held))

pub ready_less : {k reported less n m : ℕ} {area : List Entry} {near : Nearby} → less ≤ reported → m ≤ n → Ready k reported n area near → Ready k less m area near
ready_less h g p = record { held = p.held; room = omega (arith, p.room); counts = omega (arith, p.counts) }

module _ (dist : Profile → Profile → ℕ) (query : Profile) (reports : Row → Bool) where
  -- a step over n slots was made and one over m more is to come
  module _ {k : ℕ} (reported more n m : ℕ) {area : List Entry} {near : Nearby} (p : Ready k (reported + more) (n + m) area near) {t : Tally} (s : Sound dist query reports k reported n (tally_of k area near) t)
      {mid : List Entry} {r : Nearby} (l : Leaves k t area mid r) where
    few : length t.kept ≤ k
    few = omega (arith, s.counted.size)

    fits : length t.kept ≤ length area
    fits = omega (arith, s.counted.size, p.room)

    same_size : length mid ≡ length area
    same_size = ap length l.1 ∙ length-append t.kept (drop (length t.kept) area) ∙ joined
      where
        joined : length t.kept + length (drop (length t.kept) area) ≡ length area
        joined = rw length-drop (omega (arith, fits))

    bound_is : r.bound ≡ bound_of k t.kept
    bound_is = ap (λ (x : Nearby). x.bound) l.0

    front : kept_of k mid r.bound ≡ t.kept
    front =
        ap₂ (λ (b : ℕ) (xs : List Entry). kept_of k xs b) bound_is l.1
        ∙ ap (λ (i : ℕ). take i (in_front t.kept area)) (under_bound k t.kept few s.fit.near)
        ∙ take-append_seam t.kept (drop (length t.kept) area)

    -- the next step starts from the tally
    pub tally-after : tally_of k mid r ≡ t
    tally-after = λ i. record { kept = front i; count = (l.0 i).count }

    pub ready-after : Ready k more m mid r
    ready-after =
        record {
          held =
              record {
                some = p.held.some;
                bound_is = bound_is ∙ ap (bound_of k) (sym front);
                in_order = ap ordered front ∙ s.fit.in_order ∙ sym front;
                near = subst Near (sym front) s.fit.near;
              };
          room = omega (arith, ap length front, same_size, s.counted.size, p.room);
          counts = omega (arith, ap (λ (x : Nearby). x.count) l.0, s.counted.most, p.counts);
        }

    -- what the next step leaves is left by both
    pub leaves-then : (u : Tally) (last : List Entry) (z : Nearby) → length t.kept ≤ length u.kept → Leaves k u mid last z → Leaves k u area last z
    leaves-then u last z grows q = (q.0, q.1 ∙ ap (λ (xs : List Entry). u.kept ++ xs) (beyond (length u.kept) grows))
      where
        beyond : (i : ℕ) → length t.kept ≤ i → drop i mid ≡ drop i area
        beyond i b =
            let e : i ≡ length t.kept + (i - length t.kept) = omega arith in
            ap₂ (λ (j : ℕ) (xs : List Entry). drop j xs) e l.1
            ∙ drop-append-add t.kept (drop (length t.kept) area) (i - length t.kept)
            ∙ drop-drop (i - length t.kept) (length t.kept) area
            ∙ ap (λ (j : ℕ). drop j area) (sym e)

-- the halves as the code cuts them
abbrev pub left_half : List Row → List Row
left_half rest = take (length rest - length rest / 2) rest

abbrev pub right_half : List Row → List Row
right_half rest = take (length rest - (length rest - length rest / 2)) (drop (length rest - length rest / 2) rest)

pub left_is : (rest : List Row) → left_half rest ≡ take (left_size (suc (length rest))) rest
left_is rest = ap (λ (l : ℕ). take l rest) (left_size_lem (length rest))

pub right_is : (rest : List Row) → right_half rest ≡ drop (left_size (suc (length rest))) rest
right_is rest = part_rest (length rest - length rest / 2) rest ∙ ap (λ (l : ℕ). drop l rest) (left_size_lem (length rest))

-- they share the slots, and those to be reported
pub halves_slots : (rest : List Row) → length (left_half rest) + length (right_half rest) ≡ length rest
halves_slots rest = simp (length-take, length-drop) (omega arith)

pub halves_reported : (reports : Row → Bool) (rest : List Row) → reported_in reports (left_half rest) + reported_in reports (right_half rest) ≡ reported_in reports rest
halves_reported reports rest =
    ap₂ (λ (xs ys : List Row). reported_in reports xs + reported_in reports ys) (left_is rest) (right_is rest)
    ∙ reported_append reports (take (left_size (suc (length rest))) rest) (drop (left_size (suc (length rest))) rest)
    ∙ ap (reported_in reports) (take-append-drop (left_size (suc (length rest))) rest)

module _ (dist : Profile → Profile → ℕ) (query : Profile) (reports : Row → Bool) (k : ℕ) where
  pub near_empty : (slots : List Row) (t : Tally) → length slots ≡ 0 → nearest_tree dist query reports k t slots ≡ t
  near_empty [] t e = nearest_none dist query reports k t
  near_empty (s ∷ rest) t e = absurd (omega arith)

  half_open : (enters : ℕ → Bool) (search : Tally → Tally) (t : Tally) → opens k enters t.kept ≡ true → enter_half dist query reports k enters search t ≡ search t
  unfolding enter_half
  half_open enters search t e = ap (λ (b : Bool). elim b [ true ↦ search t | false ↦ t ]) e

  half_shut : (enters : ℕ → Bool) (search : Tally → Tally) (t : Tally) → opens k enters t.kept ≡ false → enter_half dist query reports k enters search t ≡ t
  unfolding enter_half
  half_shut enters search t e = ap (λ (b : Bool). elim b [ true ↦ search t | false ↦ t ]) e

  -- the turn of a half without slots does nothing
  half_empty : (enters : ℕ → Bool) (half : List Row) (t : Tally) → length half ≡ 0 → enter_half dist query reports k enters (λ u. nearest_tree dist query reports k u half) t ≡ t
  unfolding enter_half
  half_empty enters half t e = go (opens k enters t.kept)
    where
      go : (b : Bool) → elim b [ true ↦ nearest_tree dist query reports k t half | false ↦ t ] ≡ t
      go true = near_empty half t e
      go false = refl

  -- a half on the query's side, and then the other, which is entered if a ≤ b + the worst distance kept by then
  abbrev pub near_then_far : (first second : List Row) (a b : ℕ) → Tally → Tally
  near_then_far first second a b t = enter_half dist query reports k (enters_left a b) (λ u. nearest_tree dist query reports k u second) (nearest_tree dist query reports k t first)

  module _ (short : (p q : Profile) → dist p q < 2 ^ 32) (first second : List Row) (a b : ℕ) (few : a < 2 ^ 32) {area : List Entry} {near : Nearby}
      (p : Ready k (reported_in reports first + reported_in reports second) (length first + length second) area near) {mid : List Entry} {r : Nearby}
      (l : Leaves k (nearest_tree dist query reports k (tally_of k area near) first) area mid r) where
    once : Sound dist query reports k (reported_in reports first) (length first) (tally_of k area near) (nearest_tree dist query reports k (tally_of k area near) first)
    once = sound-tree dist query reports k short first (tally_of k area near) (ready_fit p) (ready_few p)

    pub second-ready : Ready k (reported_in reports second) (length second) mid r
    second-ready = ready-after dist query reports (reported_in reports first) (reported_in reports second) (length first) (length second) p once l

    -- the other half has no slots, or is too far
    pub second_none : length second ≡ 0 → Leaves k (near_then_far first second a b (tally_of k area near)) area mid r
    second_none e = leaves_as k area mid r (sym (half_empty (enters_left a b) second (nearest_tree dist query reports k (tally_of k area near) first) e)) l

    pub second-far : (gap : ℕ) → gap ≡ a - b → r.bound < gap → Leaves k (near_then_far first second a b (tally_of k area near)) area mid r
    second-far gap e far =
        leaves_as k area mid r
        (sym (half_shut (enters_left a b) (λ u. nearest_tree dist query reports k u second) (nearest_tree dist query reports k (tally_of k area near) first)
        (shut-beyond k a b few _ r.bound (ap (λ (x : Nearby). x.bound) l.0) (omega arith))))
        l

    -- or it is visited
    pub second-within : (gap : ℕ) → gap ≡ a - b → gap ≤ r.bound → (last : List Entry) (z : Nearby) → Leaves k (nearest_tree dist query reports k (tally_of k mid r) second) mid last z
        → Leaves k (near_then_far first second a b (tally_of k area near)) area last z
    second-within gap e inside last z q =
        let t₁ = nearest_tree dist query reports k (tally_of k area near) first in
        let after : nearest_tree dist query reports k (tally_of k mid r) second ≡ near_then_far first second a b (tally_of k area near) =
        ap (λ (u : Tally). nearest_tree dist query reports k u second) (tally-after dist query reports (reported_in reports first) (reported_in reports second) (length first) (length second) p once l)
        ∙ sym (half_open (enters_left a b) (λ u. nearest_tree dist query reports k u second) t₁ (opens_within k a b few _ r.bound (ap (λ (x : Nearby). x.bound) l.0) (omega arith)))
        in
        let twice = sound-half dist query reports k short (enters_left a b) second t₁ once.fit (omega (arith, once.counted.size)) in
        leaves-then dist query reports (reported_in reports first) (reported_in reports second) (length first) (length second) p once l (near_then_far first second a b (tally_of k area near)) last z (omega (arith, once.counted.size, twice.counted.size))
        (leaves_as k mid last z after q)

  -- the halves as they are cut, in either order
  module _ (d m : ℕ) (rest : List Row) (t : Tally) {left right : List Row} (l : left ≡ take (left_size (suc (length rest))) rest) (r : right ≡ drop (left_size (suc (length rest))) rest) where
    abbrev goL : Tally → Tally
    goL = enter_half dist query reports k (enters_left d m) (λ u. nearest_tree dist query reports k u (take (left_size (suc (length rest))) rest))

    abbrev goR : Tally → Tally
    goR = enter_half dist query reports k (enters_right d m) (λ u. nearest_tree dist query reports k u (drop (left_size (suc (length rest))) rest))

    pub halves-near : d ≤ m → near_then_far left right m d t ≡ near_in_halves dist query reports k d m rest t
    unfolding near_in_halves enter_halves enters_left enters_right
    halves-near h =
        ap₂ (λ (xs ys : List Row). near_then_far xs ys m d t) l r
        ∙ ap goR (sym (half_open (enters_left d m) (λ u. nearest_tree dist query reports k u (take (left_size (suc (length rest))) rest)) t (opens-always k d m h t.kept)))
        ∙ sym (ap (λ (b : Bool). elim b [ true ↦ goR (goL t) | false ↦ goL (goR t) ]) (le-leb d m h))

    pub halves-far : m < d → near_then_far right left d m t ≡ near_in_halves dist query reports k d m rest t
    unfolding near_in_halves enter_halves enters_left enters_right
    halves-far h =
        ap₂ (λ (xs ys : List Row). near_then_far xs ys d m t) r l
        ∙ ap goL (sym (half_open (enters_right d m) (λ u. nearest_tree dist query reports k u (drop (left_size (suc (length rest))) rest)) t (opens-always k m d (omega arith) t.kept)))
        ∙ sym (ap (λ (b : Bool). elim b [ true ↦ goR (goL t) | false ↦ goL (goR t) ]) (lt-leb d m h))

  -- no slots, no halves
  pub halves_none : (d m : ℕ) (rest : List Row) (t : Tally) → length rest ≡ 0 → t ≡ near_in_halves dist query reports k d m rest t
  unfolding near_in_halves enter_halves
  halves_none d m rest t e = sym (go (leb d m))
    where
      left : List Row
      left = take (left_size (suc (length rest))) rest

      right : List Row
      right = drop (left_size (suc (length rest))) rest

      goL : (u : Tally) → enter_half dist query reports k (enters_left d m) (λ v. nearest_tree dist query reports k v left) u ≡ u
      goL u = half_empty (enters_left d m) left u (rw length-take (omega arith))

      goR : (u : Tally) → enter_half dist query reports k (enters_right d m) (λ v. nearest_tree dist query reports k v right) u ≡ u
      goR u = half_empty (enters_right d m) right u (rw length-drop (omega arith))

      go : (b : Bool)
          → elim b [
            | true ↦ enter_half dist query reports k (enters_right d m) (λ v. nearest_tree dist query reports k v right) (enter_half dist query reports k (enters_left d m) (λ v. nearest_tree dist query reports k v left) t)
            | false ↦ enter_half dist query reports k (enters_left d m) (λ v. nearest_tree dist query reports k v left) (enter_half dist query reports k (enters_right d m) (λ v. nearest_tree dist query reports k v right) t)
          ]
          ≡ t
      go true = goR (enter_half dist query reports k (enters_left d m) (λ v. nearest_tree dist query reports k v left) t) ∙ goL t
      go false = goL (enter_half dist query reports k (enters_right d m) (λ v. nearest_tree dist query reports k v right) t) ∙ goR t

  -- a tree is its first slot's own item, and then the halves
  pub near_first : (slots : List Row) (t : Tally) → 0 < length slots
      → near_in_halves dist query reports k (to_query dist query (get_or slots 0 [])) (threshold_of (get_or slots 0 [])) (take (length slots - 1) (drop 1 slots)) (taken_at reports k t (get_or slots 0 []) (to_query dist query (get_or slots 0 [])))
      ≡ nearest_tree dist query reports k t slots
  unfolding nearest_step_lem taken taken_at near_in_halves entry_of
  near_first [] t h = absurd (omega arith)
  near_first (s ∷ rest) t h =
      ap (λ (xs : List Row). near_in_halves dist query reports k (to_query dist query s) (threshold_of s) xs (taken_at reports k t s (to_query dist query s))) (part_rest 1 (s ∷ rest))
      ∙ sym (nearest_step dist query reports k s rest t)

  -- a tree's two steps, the first of which has been made at distance d
  module _ (short : (p q : Profile) → dist p q < 2 ^ 32) (slots : List Row) (some : 0 < length slots) {area : List Entry} {near : Nearby} (p : Ready k (reported_in reports slots) (length slots) area near)
      (d : ℕ) (at : d ≡ to_query dist query (get_or slots 0 [])) {mid : List Entry} {r : Nearby} (l : Leaves k (taken_at reports k (tally_of k area near) (get_or slots 0 []) d) area mid r) where
    rest : List Row
    rest = take (length slots - 1) (drop 1 slots)

    sum : 1 + length rest ≡ length slots
    unfolding rest
    sum = simp (length-take, length-drop) (omega arith)

    own : Tally
    own = taken_at reports k (tally_of k area near) (get_or slots 0 []) (to_query dist query (get_or slots 0 []))

    own-left : Leaves k own area mid r
    unfolding own
    own-left = leaves_as k area mid r (ap (taken_at reports k (tally_of k area near) (get_or slots 0 [])) at) l

    own-sound : Sound dist query reports k (reported_in reports (get_or slots 0 [] ∷ [])) 1 (tally_of k area near) own
    unfolding own own_live
    own-sound = sound-taken dist query reports k short (get_or slots 0 []) (tally_of k area near) (ready_fit p) (ready_few p)

    both-ready : Ready k (reported_in reports (get_or slots 0 [] ∷ []) + reported_in reports rest) (1 + length rest) area near
    unfolding rest
    both-ready = ready_less (omega (arith, first_reported reports slots some)) (omega (arith, sum)) p

    pub tree-ready : Ready k (reported_in reports (take (length slots - 1) (drop 1 slots))) (length (take (length slots - 1) (drop 1 slots))) mid r
    unfolding rest
    tree-ready = ready-after dist query reports (reported_in reports (get_or slots 0 [] ∷ [])) (reported_in reports rest) 1 (length rest) both-ready own-sound own-left

    pub tree-leave : (m : ℕ) → m ≡ threshold_of (get_or slots 0 []) → (last : List Entry) (z : Nearby)
        → Leaves k (near_in_halves dist query reports k d m (take (length slots - 1) (drop 1 slots)) (tally_of k mid r)) mid last z → Leaves k (nearest_tree dist query reports k (tally_of k area near) slots) area last z
    unfolding rest own
    tree-leave m mt last z q =
        let whole = nearest_tree dist query reports k (tally_of k area near) slots in
        let after : near_in_halves dist query reports k d m rest (tally_of k mid r) ≡ whole =
        ap (near_in_halves dist query reports k d m rest) (tally-after dist query reports (reported_in reports (get_or slots 0 [] ∷ [])) (reported_in reports rest) 1 (length rest) both-ready own-sound own-left)
        ∙ ap₂ (λ (x y : ℕ). near_in_halves dist query reports k x y rest own) at mt
        ∙ near_first slots (tally_of k area near) some
        in
        let all = sound-tree dist query reports k short slots (tally_of k area near) (ready_fit p) (ready_few p) in
        leaves-then dist query reports (reported_in reports (get_or slots 0 [] ∷ [])) (reported_in reports rest) 1 (length rest) both-ready own-sound own-left whole last z (omega (arith, own-sound.counted.size, all.counted.size, first_reported reports slots some))
        (leaves_as k mid last z after q)
