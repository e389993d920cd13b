-- Nearest over one tree: the depth does not matter, and over slots that guide the kept ones are `keep k` of those before and the live slots.
-- Each slot's entry is absorbed, a half that is skipped holds only entries that `keep` drops (Pruning), and the order of the halves does not matter.
use Prim.Native.Nat.{ℕ, zero, suc, ◌+◌, ◌≤◌, ◌<◌, min}
use mathlib.Core.Path.{◌≡◌, refl, sym, ap, ap₂, fun_ext, subst, ◌∙◌}
use mathlib.Core.Bool.{Bool, true, false, ◌||◌}
use mathlib.Core.List.Permᴰ
use mathlib.Core.List.{List, [], ◌∷◌, ◌++◌, map, map-append, append_assoc, append-nil}
use lib.ListN.{length, take, drop, length-take, length-drop, take-append-drop, length-append}
use lib.Dec.{leb, ltb}
use borrow.Author.Tests.{ltb-false}
use native.Mathlib.Omega.{arith}
use native.Mathlib.Nat.{add_comm}
use Rattle.lists.specs.Lists.{select, All}
use Rattle.lists.proofs.Lists.{all_weaken, all_always, all_append, all_map}
use Rattle.metric_rules.specs.declared.Profile.{Profile}
use Rattle.metric_rules.specs.Row.{Row, threshold_of}
use Rattle.metric_rules.specs.Distance.{Metric}
use Rattle.tree_rules.specs.Layout.{left_size}
use Rattle.tree_rules.specs.Guided.{from_slot, GuidedWithin, Guided}
use Rattle.search_rules.specs.Range.{Entry, entry, entry_distance, to_query, entry_of, enters_left, enters_right, Pair}
use Rattle.search_rules.specs.Nearest.{keep, Tally, worst, opens, taken, enter_half, enter_halves, nearest_within, nearest_tree}
use Rattle.search_rules.proofs.Selecting.{select_append}
use Rattle.search_rules.proofs.Pruning.{left_out, right-out}
use Rattle.search_rules.proofs.Keep.{Kept, keep_length, keep_kept, keep_of_kept, keep_permuted, keep_absorbs, keep_drops, append_swap}

module _ (dist : Profile → Profile → ℕ) (query : Profile) (reports : Row → Bool) (k : ℕ) where
  -- the first slot, and its halves in turn
  unfoldable pub nearest_step_lem : Row → (Tally → Tally) → (Tally → Tally) → Tally → Tally
  unfolding taken enter_halves to_query threshold_of
  nearest_step_lem s left right t = enter_halves dist query reports k (to_query dist query s) (threshold_of s) left right (taken dist query reports k t s)

  pub nearest_depth_enough : (n m : ℕ) (slots : List Row) → length slots ≤ n → length slots ≤ m → (t : Tally) → nearest_within dist query reports k n t slots ≡ nearest_within dist query reports k m t slots
  unfolding nearest_within nearest_step_lem
  nearest_depth_enough zero zero slots h g t = refl
  nearest_depth_enough zero (suc m) [] h g t = refl
  nearest_depth_enough zero (suc m) (s ∷ rest) h g t = absurd (omega arith)
  nearest_depth_enough (suc n) zero [] h g t = refl
  nearest_depth_enough (suc n) zero (s ∷ rest) h g t = absurd (omega arith)
  nearest_depth_enough (suc n) (suc m) [] h g t = refl
  nearest_depth_enough (suc n) (suc m) (s ∷ rest) h g t =
      let l = left_size (suc (length rest)) in
      ap₂
      (λ (a b : Tally → Tally). nearest_step_lem s a b t)
      (fun_ext (nearest_depth_enough n m (take l rest) (simp length-take (omega arith)) (simp length-take (omega arith))))
      (fun_ext (nearest_depth_enough n m (drop l rest) (simp length-drop (omega arith)) (simp length-drop (omega arith))))

  pub nearest_none : (t : Tally) → nearest_tree dist query reports k t [] ≡ t
  unfolding nearest_tree nearest_within
  nearest_none t = refl

  -- nearest over slots is their first slot's step on nearest over its halves
  pub nearest_step : (s : Row) (rest : List Row) (t : Tally)
      → nearest_tree dist query reports k t (s ∷ rest)
      ≡ nearest_step_lem s (λ u. nearest_tree dist query reports k u (take (left_size (suc (length rest))) rest)) (λ u. nearest_tree dist query reports k u (drop (left_size (suc (length rest))) rest)) t
  unfolding nearest_tree nearest_within nearest_step_lem
  nearest_step s rest t =
      let l = left_size (suc (length rest)) in
      ap₂
      (λ (a b : Tally → Tally). nearest_step_lem s a b t)
      (fun_ext (nearest_depth_enough (length rest) (length (take l rest)) (take l rest) (simp length-take (omega arith)) (omega arith)))
      (fun_ext (nearest_depth_enough (length rest) (length (drop l rest)) (drop l rest) (simp length-drop (omega arith)) (omega arith)))

  -- what a visit of some slots, n in all and so many of them live, does to the numbers of a tally
  pub record Counted (t r : Tally) (live n : ℕ) : Type 0 where
    pub size : length r.kept ≡ min k (length t.kept + live)
    pub least : t.count ≤ r.count
    pub most : r.count ≤ t.count + n
    pub all : length t.kept + live < k → r.count ≡ t.count + n

  counted_then : {t u r : Tally} {a b m n : ℕ} → Counted t u a m → Counted u r b n → Counted t r (a + b) (m + n)
  counted_then p q =
      record {
        size = omega (arith, p.size, q.size);
        least = omega (arith, p.least, q.least);
        most = omega (arith, p.most, q.most);
        all = λ few. omega (arith, p.all (omega arith), q.all (omega (arith, p.size)), p.size);
      }

  pub counted_half : (enters : ℕ → Bool) (search : Tally → Tally) (t : Tally) (live n : ℕ) → length t.kept ≤ k → Counted t (search t) live n → Counted t (enter_half dist query reports k enters search t) live n
  unfolding enter_half opens
  counted_half enters search t live n few h = go (ltb (length t.kept) k) refl (enters (worst t.kept))
    where
      go : (a : Bool) → ltb (length t.kept) k ≡ a → (b : Bool) → Counted t (elim (a || b) [ true ↦ search t | false ↦ t ]) live n
      go true e b = h
      go false e true = h
      go false e false =
          let full : k ≤ length t.kept = ltb-false _ _ e in
          record { size = omega arith; least = omega arith; most = omega arith; all = λ fewer. absurd (omega arith) }

  -- how many of some slots are live
  abbrev pub lives : List Row → ℕ
  lives slots = length (select reports slots)

  lives_parts : (l : ℕ) (rest : List Row) → lives (take l rest) + lives (drop l rest) ≡ lives rest
  lives_parts l rest = sym (length-append (select reports (take l rest)) (select reports (drop l rest))) ∙ ap length (sym (select_append reports (take l rest) (drop l rest)) ∙ ap (select reports) (take-append-drop l rest))

  unfoldable pub own_live : Row → ℕ
  own_live s = lives (s ∷ [])

  lives_cons : (s : Row) (rest : List Row) → lives (s ∷ rest) ≡ own_live s + lives rest
  unfolding own_live
  lives_cons s rest = ap length (select_append reports (s ∷ []) rest) ∙ length-append (select reports (s ∷ [])) (select reports rest)

  pub counted_taken : (t : Tally) (s : Row) → length t.kept ≤ k → Counted t (taken dist query reports k t s) (own_live s) 1
  unfolding taken own_live select
  counted_taken t s few = go (reports s)
    where
      go :
          (b : Bool) → Counted t
          (record { kept = elim b [ true ↦ keep k (entry_of dist query s ∷ t.kept) | false ↦ t.kept ]; count = suc t.count })
          (length {A = Row} (elim b [ true ↦ s ∷ [] | false ↦ [] ])) 1
      go true = record { size = omega (arith, keep_length k (entry_of dist query s ∷ t.kept)); least = omega arith; most = omega arith; all = λ fewer. omega arith }
      go false = record { size = omega arith; least = omega arith; most = omega arith; all = λ fewer. omega arith }

  -- the same numbers, written otherwise
  recounted : {t r : Tally} {a b m n : ℕ} → a ≡ b → m ≡ n → Counted t r a m → Counted t r b n
  recounted {t} {r} e f c =
      record {
        size = omega (arith, c.size);
        least = c.least;
        most = omega (arith, c.most);
        all = λ fewer. omega (arith, c.all (omega arith));
      }

  size_few : {t r : Tally} {a n : ℕ} → Counted t r a n → length r.kept ≤ k
  size_few c = omega (arith, c.size)

  counted_halves : (d m : ℕ) (left right : Tally → Tally) (t : Tally) (a b x y : ℕ) → length t.kept ≤ k
      → ((u : Tally) → length u.kept ≤ k → Counted u (left u) a x)
      → ((u : Tally) → length u.kept ≤ k → Counted u (right u) b y)
      → Counted t (enter_halves dist query reports k d m left right t) (a + b) (x + y)
  unfolding enter_halves
  counted_halves d m left right t a b x y few hl hr = go (leb d m)
    where
      go : (c : Bool) → Counted t (elim c [ true ↦ enter_half dist query reports k (enters_right d m) right (enter_half dist query reports k (enters_left d m) left t) | false ↦ enter_half dist query reports k (enters_left d m) left (enter_half dist query reports k (enters_right d m) right t) ]) (a + b) (x + y)
      go true =
          let u = counted_half (enters_left d m) left t a x few (hl t few) in
          counted_then u (counted_half (enters_right d m) right _ b y (size_few u) (hr _ (size_few u)))
      go false =
          let u = counted_half (enters_right d m) right t b y few (hr t few) in
          let r = counted_then u (counted_half (enters_left d m) left _ a x (size_few u) (hl _ (size_few u))) in
          recounted (add_comm b a) (add_comm y x) r

  counted_within_lem : (n : ℕ) (slots : List Row) (t : Tally) → length slots ≤ n → length t.kept ≤ k → Counted t (nearest_within dist query reports k n t slots) (lives slots) (length slots)
  unfolding nearest_within nearest_step_lem select
  counted_within_lem zero [] t h few = record { size = omega arith; least = omega arith; most = omega arith; all = λ fewer. omega arith }
  counted_within_lem zero (s ∷ rest) t h few = absurd (omega arith)
  counted_within_lem (suc n) [] t h few = record { size = omega arith; least = omega arith; most = omega arith; all = λ fewer. omega arith }
  counted_within_lem (suc n) (s ∷ rest) t h few =
      let l = left_size (suc (length rest)) in
      let own = counted_taken t s few in
      let halves =
      counted_halves (to_query dist query s) (threshold_of s)
      (λ u. nearest_within dist query reports k n u (take l rest))
      (λ u. nearest_within dist query reports k n u (drop l rest))
      (taken dist query reports k t s)
      _ _ _ _
      (size_few own)
      (λ u f. counted_within_lem n (take l rest) u (simp length-take (omega arith)) f)
      (λ u f. counted_within_lem n (drop l rest) u (simp length-drop (omega arith)) f)
      in
      let r = counted_then own halves in
      let live : own_live s + (lives (take l rest) + lives (drop l rest)) ≡ lives (s ∷ rest) = ap (λ (x : ℕ). own_live s + x) (lives_parts l rest) ∙ sym (lives_cons s rest) in
      let many : 1 + (length (take l rest) + length (drop l rest)) ≡ suc (length rest) = simp (length-take, length-drop) (omega arith) in
      recounted live many r

  -- over any slots: min k of those kept before and the live ones are kept, and at most every slot is visited
  pub nearest_counted : (t : Tally) (slots : List Row) → length t.kept ≤ k → Counted t (nearest_tree dist query reports k t slots) (lives slots) (length slots)
  unfolding nearest_tree
  nearest_counted t slots few = counted_within_lem (length slots) slots t (omega arith) few

  -- the entries of the live slots
  abbrev pub live_entries : List Row → List Entry
  live_entries slots = map (entry_of dist query) (select reports slots)

  pub entries_pairs : (rows : List Row) → All Pair (map (entry_of dist query) rows)
  unfolding entry_of entry
  entries_pairs rows = all_map (entry_of dist query) Pair rows (all_always (λ row. refl) rows)

  live_append : (xs ys : List Row) → live_entries (xs ++ ys) ≡ live_entries xs ++ live_entries ys
  live_append xs ys = ap (map (entry_of dist query)) (select_append reports xs ys) ∙ map-append (entry_of dist query) (select reports xs) (select reports ys)

  far_entries : (r : ℕ) (rows : List Row) → All (λ x. r < to_query dist query x) rows → All (λ e. r < entry_distance e) (live_entries rows)
  unfolding select entry_distance entry_of entry
  far_entries r [] h = tt
  far_entries r (x ∷ rows) h = go (reports x) (far_entries r rows h.1)
    where
      go :
          (b : Bool) → All (λ e. r < entry_distance e) (live_entries rows)
          → All (λ e. r < entry_distance e) (map (entry_of dist query) (elim b [ true ↦ x ∷ select reports rows | false ↦ select reports rows ]))
      go true g = (h.0, g)
      go false g = g

  kept_as : (t : Tally) (es : List Entry) → All Pair es → t.kept ≡ keep k es → Kept k t.kept
  kept_as t es h e = subst (Kept k) (sym e) (keep_kept k es h)

  own_kept : (t : Tally) (s : Row) → Kept k t.kept → (taken dist query reports k t s).kept ≡ keep k (t.kept ++ live_entries (s ∷ []))
  unfolding taken select
  own_kept t s h = go (reports s)
    where
      go :
          (b : Bool) → elim b [ true ↦ keep k (entry_of dist query s ∷ t.kept) | false ↦ t.kept ]
          ≡ keep k (t.kept ++ map (entry_of dist query) (elim b [ true ↦ s ∷ [] | false ↦ [] ]))
      go true = keep_permuted k (append_swap (entry_of dist query s ∷ []) t.kept) ((entries_pairs (s ∷ [])).0, h.pairs)
      go false = sym (keep_of_kept k t.kept h) ∙ ap (keep k) (sym (append-nil t.kept))

  -- a half's turn: entered or not, what is then kept is as if it had been searched whole
  enter_half_kept : (enters : ℕ → Bool) (search : Tally → Tally) (t : Tally) (half : List Row) → Kept k t.kept
      → (search t).kept ≡ keep k (t.kept ++ live_entries half)
      → (enters (worst t.kept) ≡ false → All (λ x. worst t.kept < to_query dist query x) half)
      → (enter_half dist query reports k enters search t).kept ≡ keep k (t.kept ++ live_entries half)
  unfolding enter_half opens
  enter_half_kept enters search t half h found out = go (ltb (length t.kept) k) refl (enters (worst t.kept)) refl
    where
      go :
          (a : Bool) → ltb (length t.kept) k ≡ a → (b : Bool) → enters (worst t.kept) ≡ b
          → (elim (a || b) as (λ _. Tally) [ true ↦ search t | false ↦ t ]).kept ≡ keep k (t.kept ++ live_entries half)
      go true e b f = found
      go false e true f = found
      go false e false f = sym (keep_drops k t.kept h (ltb-false _ _ e) (live_entries half) (entries_pairs (select reports half)) (far_entries _ half (out f)))

  -- two turns, the one after the other
  enter_halves_kept : (t u : Tally) (r : List Entry) (first second : List Row) → Kept k t.kept
      → u.kept ≡ keep k (t.kept ++ live_entries first) → r ≡ keep k (u.kept ++ live_entries second)
      → r ≡ keep k (t.kept ++ (live_entries first ++ live_entries second))
  enter_halves_kept t u r first second h e f =
      f
      ∙ ap (λ (l : List Entry). keep k (l ++ live_entries second)) e
      ∙ keep_absorbs k (t.kept ++ live_entries first) (live_entries second)
      (all_append Pair t.kept (live_entries first) h.pairs (entries_pairs (select reports first)))
      (entries_pairs (select reports second))
      ∙ ap (keep k) (append_assoc t.kept (live_entries first) (live_entries second))

  abbrev left_test : Row → ℕ → Bool
  left_test s = enters_left (to_query dist query s) (threshold_of s)

  abbrev right_test : Row → ℕ → Bool
  right_test s = enters_right (to_query dist query s) (threshold_of s)

  module _ (laws : Metric dist) where
    halves-kept : (s : Row) (left right : Tally → Tally) (near far : List Row) (t : Tally) → Kept k t.kept
        → All (λ x. from_slot dist s x ≤ threshold_of s) near → All (λ x. threshold_of s ≤ from_slot dist s x) far
        → ((u : Tally) → Kept k u.kept → (left u).kept ≡ keep k (u.kept ++ live_entries near))
        → ((u : Tally) → Kept k u.kept → (right u).kept ≡ keep k (u.kept ++ live_entries far))
        → (enter_halves dist query reports k (to_query dist query s) (threshold_of s) left right t).kept ≡ keep k (t.kept ++ (live_entries near ++ live_entries far))
    unfolding enter_halves
    halves-kept s left right near far t h hn hf fl fr = go (leb (to_query dist query s) (threshold_of s))
      where
        goL : (u : Tally) → Kept k u.kept → (enter_half dist query reports k (left_test s) left u).kept ≡ keep k (u.kept ++ live_entries near)
        goL u g = enter_half_kept (left_test s) left u near g (fl u g) (λ out. all_weaken (left_out dist laws query (worst u.kept) s out) near hn)

        goR : (u : Tally) → Kept k u.kept → (enter_half dist query reports k (right_test s) right u).kept ≡ keep k (u.kept ++ live_entries far)
        goR u g = enter_half_kept (right_test s) right u far g (fr u g) (λ out. all_weaken (right-out dist laws query (worst u.kept) s out) far hf)

        after : (u : Tally) (half : List Row) → u.kept ≡ keep k (t.kept ++ live_entries half) → Kept k u.kept
        after u half e =
            kept_as u (t.kept ++ live_entries half) (all_append Pair t.kept (live_entries half) h.pairs (entries_pairs (select reports half))) e

        go : (c : Bool) → (elim c as (λ _. Tally) [ true ↦ enter_half dist query reports k (right_test s) right (enter_half dist query reports k (left_test s) left t) | false ↦ enter_half dist query reports k (left_test s) left (enter_half dist query reports k (right_test s) right t) ]).kept ≡ keep k (t.kept ++ (live_entries near ++ live_entries far))
        go true =
            let u = enter_half dist query reports k (left_test s) left t in
            enter_halves_kept t u _ near far h (goL t h) (goR u (after u near (goL t h)))
        go false =
            let u = enter_half dist query reports k (right_test s) right t in
            enter_halves_kept t u _ far near h (goR t h) (goL u (after u far (goR t h)))
            ∙ keep_permuted k (Permᴰ.append_left t.kept (append_swap (live_entries far) (live_entries near)))
            (all_append Pair t.kept _ h.pairs (all_append Pair (live_entries far) (live_entries near) (entries_pairs (select reports far)) (entries_pairs (select reports near))))

    kept-within : (n : ℕ) (slots : List Row) (t : Tally) → length slots ≤ n → GuidedWithin dist n slots → Kept k t.kept
        → (nearest_within dist query reports k n t slots).kept ≡ keep k (t.kept ++ live_entries slots)
    unfolding nearest_within nearest_step_lem GuidedWithin select
    kept-within zero [] t h g kept = sym (keep_of_kept k t.kept kept) ∙ ap (keep k) (sym (append-nil t.kept))
    kept-within zero (s ∷ rest) t h g kept = absurd (omega arith)
    kept-within (suc n) [] t h g kept = sym (keep_of_kept k t.kept kept) ∙ ap (keep k) (sym (append-nil t.kept))
    kept-within (suc n) (s ∷ rest) t h g kept =
        let l = left_size (suc (length rest)) in
        let own = own_kept t s kept in
        let pairs = all_append Pair t.kept (live_entries (s ∷ [])) kept.pairs (entries_pairs (select reports (s ∷ []))) in
        let halves =
        halves-kept s
        (λ u. nearest_within dist query reports k n u (take l rest))
        (λ u. nearest_within dist query reports k n u (drop l rest))
        (take l rest)
        (drop l rest)
        (taken dist query reports k t s)
        (kept_as (taken dist query reports k t s) (t.kept ++ live_entries (s ∷ [])) pairs own)
        g.0
        g.1
        (λ u f. kept-within n (take l rest) u (simp length-take (omega arith)) g.2 f)
        (λ u f. kept-within n (drop l rest) u (simp length-drop (omega arith)) g.3 f)
        in
        halves
        ∙ ap₂ (λ (a b : List Entry). keep k (a ++ b)) own (sym (live_append (take l rest) (drop l rest)) ∙ ap live_entries (take-append-drop l rest))
        ∙ keep_absorbs k (t.kept ++ live_entries (s ∷ [])) (live_entries rest) pairs (entries_pairs (select reports rest))
        ∙ ap (keep k) (append_assoc t.kept (live_entries (s ∷ [])) (live_entries rest) ∙ ap (λ (l : List Entry). t.kept ++ l) (sym (live_append (s ∷ []) rest)))

    -- over slots that guide, the kept ones after a tree are the first k of those kept before and its live slots
    pub nearest-kept : (t : Tally) (slots : List Row) → Guided dist slots → Kept k t.kept
        → (nearest_tree dist query reports k t slots).kept ≡ keep k (t.kept ++ live_entries slots)
    unfolding nearest_tree Guided
    nearest-kept t slots g kept = kept-within (length slots) slots t (omega arith) g kept
