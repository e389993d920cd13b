-- The parts of an area, each with its own query's hits. A store inside one part leaves the others as they are; visits one after the other add up,
-- part by part.
use Prim.Native.Nat.{ℕ, suc, ◌+◌, ◌-◌, ◌*◌, ◌≤◌, ◌<◌}
use mathlib.Core.Path.{◌≡◌, refl, sym, ap, ap₂, subst, ◌∙◌}
use mathlib.Core.Bool.{Bool, true, false, ◌&&◌}
use mathlib.Core.List.{List, [], ◌∷◌, ◌++◌, append-nil}
use lib.ListN.{length, take, drop, get_or, set, length-append, length-take, length-drop, length-set, take-append-drop}
use lib.Seq.{sets, length-sets, length-take-le, drop_at, take_at, drop-drop, take-append-le, drop-append-le, take-set-lt, drop-set-add, drop-set-lt}
use lib.Seq.{take-set-le, get_or-set_same, get_or-set_other, set_out}
use lib.Dec.{eqb, ltb, leb}
use borrow.Author.Tests.{eqb-true, eqb-false, lt-ltb, le-ltb}
use native.Mathlib.Nat.{suc-mul, mul-le-mul_right, lt_of_not-le}
use native.Mathlib.Decide.{dec_le}
use native.Mathlib.Omega.{arith}
use Rattle.tree_rules.proofs.Stores.{sets_more}
use Rattle.metric_rules.specs.Row.{Row, tag_of}
use Rattle.search_rules.specs.Range.{Entry, Met, entry, to_query}
use Rattle.search_asked.specs.Asked.{distance_asked, query_asked, reports_asked, radius_asked}
use Rattle.tree_range.specs.declared.Found.{Found}
use Rattle.tree_range.specs.Collected.{found_after, collected, met_alone, range_asked}
use Rattle.tree_range_batch.specs.declared.Hits.{Hits}
use Rattle.tree_range_batch.specs.Together.{is_on, asked_at, part_at, only, hits_alone, alone_on, Fewer, Collects, Collected}

-- nothing is collected
pub collects_none : (size : ℕ) (hits : ℕ → List Entry) (found : List ℕ) (area : List Entry) → ((j : ℕ) → hits j ≡ []) → Collects size hits found area found area
collects_none size hits found area none =
    record {
      same = refl;
      numbers = λ j. omega (arith, ap length (none j));
      parts = λ j. sym (ap (sets (part_at size j area) (get_or found j 0)) (none j));
    }

-- hits of one query that are others
pub only_hits : (j : ℕ) (hits same : List Entry) → same ≡ hits → (i : ℕ) → only j same i ≡ only j hits i
only_hits j hits same e i = ap (λ (l : List Entry). only j l i) e

pub only_none : (j i : ℕ) → only j [] i ≡ []
unfolding only
only_none j i = go (eqb i j)
  where
    go : (b : Bool) → ◌≡◌ {A = List Entry} (elim b [ true ↦ [] | false ↦ [] ]) []
    go true = refl
    go false = refl

-- one visit after the other
pub collects_both : {size : ℕ} {first second : ℕ → List Entry} (hits : ℕ → List Entry) → ((j : ℕ) → hits j ≡ first j ++ second j)
    → {found found₁ found₂ : List ℕ} {area area₁ area₂ : List Entry}
    → Collects size first found area found₁ area₁ → Collects size second found₁ area₁ found₂ area₂ → Collects size hits found area found₂ area₂
collects_both {size} {first} {second} hits e {found} {found₁} {found₂} {area} {area₁} {area₂} a b =
    record {
      same = b.same ∙ a.same;
      numbers = λ j. omega (arith, a.numbers j, b.numbers j, ap length (e j), length-append (first j) (second j));
      parts = λ j.
          b.parts j
          ∙ ap₂ (λ (xs : List Entry) (n : ℕ). sets xs n (second j)) (a.parts j) (a.numbers j)
          ∙ sets_more (part_at size j area) (get_or found j 0) (get_or found j 0 + length (first j)) (first j) (second j) refl
          ∙ ap (sets (part_at size j area) (get_or found j 0)) (sym (e j));
    }

module _ (size j : ℕ) (area : List Entry) (at : ℕ) (x : Entry) (inside : at < size) where
  -- a store inside part j, seen in that part
  own_part : part_at size j (set area (j * size + at) x) ≡ set (part_at size j area) at x
  unfolding part_at
  own_part = ap (take size) (drop-set-add (j * size) area at x) ∙ take-set-lt size (drop (j * size) area) at x inside

  -- and in a part before it or behind it
  other_part : (i : ℕ) → (i ≡ j → ⊥) → part_at size i (set area (j * size + at) x) ≡ part_at size i area
  unfolding part_at
  other_part i apart =
      elim (dec_le (suc i) j) [
        | yes before ↦
            let far = mul-le-mul_right size before in
            let next = suc-mul i size in
            let place : j * size + at ≡ i * size + (j * size + at - i * size) = omega (arith, far, next) in
            ap (λ (k : ℕ). take size (drop (i * size) (set area k x))) place
            ∙ ap (take size) (drop-set-add (i * size) area (j * size + at - i * size) x)
            ∙ take-set-le size (drop (i * size) area) (j * size + at - i * size) x (omega (arith, far, next))
        | no h ↦
            let behind : suc j ≤ i = later (lt_of_not-le h) in
            ap (take size) (drop-set-lt (i * size) area (j * size + at) x (omega (arith, mul-le-mul_right size behind, suc-mul j size)))
      ]
    where
      later : j < suc i → suc j ≤ i
      later h = elim (dec_le (suc j) i) [ yes le ↦ le | no more ↦ absurd (apart (omega (arith, lt_of_not-le more))) ]

-- a run stored inside part j
pub run_own : (size j : ℕ) (area : List Entry) (at : ℕ) (xs : List Entry) → at + length xs ≤ size → part_at size j (sets area (j * size + at) xs) ≡ sets (part_at size j area) at xs
run_own size j area at [] h = refl
run_own size j area at (x ∷ xs) h =
    let next : suc (j * size + at) ≡ j * size + suc at = omega arith in
    ap (λ (k : ℕ). part_at size j (sets (set area (j * size + at) x) k xs)) next
    ∙ run_own size j (set area (j * size + at) x) (suc at) xs (omega arith)
    ∙ ap (λ (l : List Entry). sets l (suc at) xs) (own_part size j area at x (omega arith))

pub run_other : (size j : ℕ) (area : List Entry) (at : ℕ) (xs : List Entry) → at + length xs ≤ size → (i : ℕ) → (i ≡ j → ⊥) → part_at size i (sets area (j * size + at) xs) ≡ part_at size i area
run_other size j area at [] h i apart = refl
run_other size j area at (x ∷ xs) h i apart =
    let next : suc (j * size + at) ≡ j * size + suc at = omega arith in
    ap (λ (k : ℕ). part_at size i (sets (set area (j * size + at) x) k xs)) next
    ∙ run_other size j (set area (j * size + at) x) (suc at) xs (omega arith) i apart
    ∙ other_part size j area at x (omega arith) i apart

-- a hit of query j is put behind those that it found before, where its part has room, and is counted
module _ (size j : ℕ) (found : List ℕ) (area : List Entry) (x : Entry) (counted : j < length found) where
  abbrev at : ℕ
  at = get_or found j 0

  number_own : get_or (set found j (at + 1)) j 0 ≡ at + 1
  number_own = get_or-set_same found j (at + 1) 0 counted

  pub put_inside : at < size → Collects size (only j (x ∷ [])) found area (set found j (at + 1)) (set area (j * size + at) x)
  unfolding only
  put_inside inside =
      record { same = length-set found j (at + 1); numbers = λ i. (go i (eqb i j) refl).0; parts = λ i. (go i (eqb i j) refl).1 }
    where
      go :
          (i : ℕ) (b : Bool) → eqb i j ≡ b
          → (get_or (set found j (at + 1)) i 0 ≡ get_or found i 0 + length {A = Entry} (elim b [ true ↦ x ∷ [] | false ↦ [] ]))
          × (part_at size i (set area (j * size + at) x) ≡ sets (part_at size i area) (get_or found i 0) (elim b [ true ↦ x ∷ [] | false ↦ [] ]))
      go i true e =
          let is = eqb-true i j e in (
            ap (λ (k : ℕ). get_or (set found j (at + 1)) k 0) is ∙ number_own ∙ ap (λ (k : ℕ). get_or found k 0 + 1) (sym is),
            ap (λ (k : ℕ). part_at size k (set area (j * size + at) x)) is
                ∙ own_part size j area at x inside
                ∙ ap (λ (k : ℕ). set (part_at size k area) (get_or found k 0) x) (sym is),
          )
      go i false e = (get_or-set_other found j i (at + 1) 0 (eqb-false i j e) ∙ omega arith, other_part size j area at x inside i (eqb-false i j e))

  pub put_outside : size ≤ at → Collects size (only j (x ∷ [])) found area (set found j (at + 1)) area
  unfolding only part_at
  put_outside outside =
      record { same = length-set found j (at + 1); numbers = λ i. (go i (eqb i j) refl).0; parts = λ i. (go i (eqb i j) refl).1 }
    where
      go :
          (i : ℕ) (b : Bool) → eqb i j ≡ b
          → (get_or (set found j (at + 1)) i 0 ≡ get_or found i 0 + length {A = Entry} (elim b [ true ↦ x ∷ [] | false ↦ [] ]))
          × (part_at size i area ≡ sets (part_at size i area) (get_or found i 0) (elim b [ true ↦ x ∷ [] | false ↦ [] ]))
      go i true e =
          let is = eqb-true i j e in (
            ap (λ (k : ℕ). get_or (set found j (at + 1)) k 0) is ∙ number_own ∙ ap (λ (k : ℕ). get_or found k 0 + 1) (sym is),
            sym (set_out (part_at size i area) (get_or found i 0) x (omega (arith, length-take size (drop (i * size) area), ap (λ (k : ℕ). get_or found k 0) is, outside))),
          )
      go i false e = (get_or-set_other found j i (at + 1) 0 (eqb-false i j e) ∙ omega arith, refl)

-- the same hits by another name
pub collects_alike : {size : ℕ} {hits : ℕ → List Entry} (same : ℕ → List Entry) → ((j : ℕ) → same j ≡ hits j)
    → {found found₁ : List ℕ} {area area₁ : List Entry} → Collects size hits found area found₁ area₁ → Collects size same found area found₁ area₁
collects_alike {size} {hits} same e {found} {found₁} {area} {area₁} a =
    record {
      same = a.same;
      numbers = λ j. omega (arith, a.numbers j, ap length (e j));
      parts = λ j. a.parts j ∙ ap (sets (part_at size j area) (get_or found j 0)) (sym (e j));
    }

module _ (batch : List Row) (on : ℕ) (s : Row) where
  -- the hits at a slot of the queries before j
  unfoldable pub alone_below : ℕ → ℕ → List Entry
  alone_below j i = elim (ltb i j) [ true ↦ alone_on batch on s i | false ↦ [] ]

  pub below_none : (i : ℕ) → alone_below 0 i ≡ []
  unfolding alone_below
  below_none i = ap (λ (b : Bool). elim b as (λ _. List Entry) [ true ↦ alone_on batch on s i | false ↦ [] ]) (le-ltb i 0 (omega arith))

  below_at : (i j : ℕ) (b : Bool) → ltb i j ≡ b → alone_below j i ≡ elim b [ true ↦ alone_on batch on s i | false ↦ [] ]
  unfolding alone_below
  below_at i j b e = ap (λ (c : Bool). elim c as (λ _. List Entry) [ true ↦ alone_on batch on s i | false ↦ [] ]) e

  off : (i : ℕ) → is_on on i ≡ false → alone_on batch on s i ≡ []
  unfolding alone_on
  off i e = ap (λ (b : Bool). elim b as (λ _. List Entry) [ true ↦ hits_alone batch s i | false ↦ [] ]) e

  -- a slot alone has at most one hit for each query
  pub alone_one : (i : ℕ) → length (alone_on batch on s i) ≤ 1
  unfolding alone_on hits_alone met_alone
  alone_one i = go (is_on on i) (reports_asked (asked_at batch i) s && leb (to_query (distance_asked (asked_at batch i)) (query_asked (asked_at batch i)) s) (radius_asked (asked_at batch i)))
    where
      go :
          (a b : Bool) → length {A = Entry} (elim a [ true ↦ elim b [ true ↦ entry (tag_of s) (to_query (distance_asked (asked_at batch i)) (query_asked (asked_at batch i)) s) ∷ [] | false ↦ [] ] | false ↦ [] ]) ≤ 1
      go true true = omega arith
      go true false = omega arith
      go false b = omega arith

  pub below_one : (j i : ℕ) → length (alone_below j i) ≤ 1
  unfolding alone_below
  below_one j i = go (ltb i j)
    where
      go : (b : Bool) → length {A = Entry} (elim b [ true ↦ alone_on batch on s i | false ↦ [] ]) ≤ 1
      go true = alone_one i
      go false = omega arith

  -- a query that is not in the set adds nothing
  pub below_skip : (j : ℕ) → is_on on j ≡ false → (i : ℕ) → alone_below (j + 1) i ≡ alone_below j i
  below_skip j out i =
      elim (dec_le (suc i) j) [
        | yes before ↦ below_at i (j + 1) true (lt-ltb i (j + 1) (omega arith)) ∙ sym (below_at i j true (lt-ltb i j (omega arith)))
        | no h ↦ elim (dec_le i j) [
          | yes le ↦
              let is : i ≡ j = omega (arith, lt_of_not-le h) in
              below_at i (j + 1) true (lt-ltb i (j + 1) (omega arith)) ∙ off i (ap (is_on on) is ∙ out) ∙ sym (below_at i j false (le-ltb i j (omega arith)))
          | no more ↦ below_at i (j + 1) false (le-ltb i (j + 1) (omega (arith, lt_of_not-le more))) ∙ sym (below_at i j false (le-ltb i j (omega (arith, lt_of_not-le more))))
        ]
      ]

  -- one that is adds its own
  pub below_next : (j : ℕ) → is_on on j ≡ true → (i : ℕ) → alone_below (j + 1) i ≡ alone_below j i ++ only j (hits_alone batch s j) i
  unfolding only alone_on
  below_next j in' i = go (eqb i j) refl
    where
      go : (b : Bool) → eqb i j ≡ b → alone_below (j + 1) i ≡ alone_below j i ++ elim b [ true ↦ hits_alone batch s j | false ↦ [] ]
      go true e =
          let is = eqb-true i j e in
          below_at i (j + 1) true (lt-ltb i (j + 1) (omega arith))
          ∙ ap (λ (b : Bool). elim b as (λ _. List Entry) [ true ↦ hits_alone batch s i | false ↦ [] ]) (ap (is_on on) is ∙ in')
          ∙ ap (hits_alone batch s) is
          ∙ sym (ap (λ (l : List Entry). l ++ hits_alone batch s j) (below_at i j false (le-ltb i j (omega arith))))
      go false e =
          elim (dec_le j i) [
            | yes le ↦ below_at i (j + 1) false (le-ltb i (j + 1) (beyond le)) ∙ sym (ap (λ (l : List Entry). l ++ []) (below_at i j false (le-ltb i j le)))
            | no more ↦
                below_at i (j + 1) true (lt-ltb i (j + 1) (omega (arith, lt_of_not-le more)))
                ∙ sym (append-nil (alone_on batch on s i))
                ∙ sym (ap (λ (l : List Entry). l ++ []) (below_at i j true (lt-ltb i j (lt_of_not-le more))))
          ]
        where
          beyond : j ≤ i → j + 1 ≤ i
          beyond le = elim (dec_le (j + 1) i) [ yes h ↦ h | no h ↦ absurd (eqb-false i j e (omega (arith, lt_of_not-le h))) ]

  -- all of them are the set's
  pub below_all : (j : ℕ) → ((i : ℕ) → j ≤ i → is_on on i ≡ false) → (i : ℕ) → alone_on batch on s i ≡ alone_below j i
  below_all j none i =
      elim (dec_le j i) [
        | yes le ↦ off i (none i le) ∙ sym (below_at i j false (le-ltb i j le))
        | no more ↦ sym (below_at i j true (lt-ltb i j (lt_of_not-le more)))
      ]

-- a part with something else in its place
module _ (size j : ℕ) (area new : List Entry) (inside : suc j * size ≤ length area) (long : length new ≡ size) where
  abbrev put : List Entry
  put = take (j * size) area ++ (new ++ drop size (drop (j * size) area))

  front_long : length (take (j * size) area) ≡ j * size
  front_long = length-take-le (j * size) area (omega (arith, inside, suc-mul j size))

  put_own : part_at size j put ≡ new
  unfolding part_at
  put_own = ap (take size) (drop_at (take (j * size) area) (new ++ drop size (drop (j * size) area)) (j * size) front_long) ∙ take_at new (drop size (drop (j * size) area)) size long

  -- a part before it lies in the front, which both have
  front_part : (i : ℕ) (back : List Entry) → suc i ≤ j → part_at size i (take (j * size) area ++ back) ≡ part_at size i (take (j * size) area)
  unfolding part_at
  front_part i back before =
      let far = mul-le-mul_right size before in
      let next = suc-mul i size in
      ap (take size) (drop-append-le (i * size) (take (j * size) area) back (omega (arith, far, next, front_long)))
      ∙ take-append-le size (drop (i * size) (take (j * size) area)) back (omega (arith, far, next, front_long, length-drop (i * size) (take (j * size) area)))

  put_other : (i : ℕ) → (i ≡ j → ⊥) → part_at size i put ≡ part_at size i area
  unfolding part_at
  put_other i apart =
      elim (dec_le (suc i) j) [
        | yes before ↦
            front_part i (new ++ drop size (drop (j * size) area)) before ∙ sym (front_part i (drop (j * size) area) before)
            ∙ ap (part_at size i) (take-append-drop (j * size) area)
        | no h ↦ behind i (omega (arith, lt_of_not-le h, apart))
      ]
    where
      behind : (i : ℕ) → suc j ≤ i → part_at size i put ≡ part_at size i area
      behind i later =
          let far = mul-le-mul_right size later in
          let next = suc-mul j size in
          let k : ℕ = i * size - (j * size + size) in
          let at : i * size ≡ j * size + size + k = omega (arith, far, next) in
          let back : drop (j * size + size) put ≡ drop (j * size + size) area =
          sym (drop-drop size (j * size) put) ∙ ap (drop size) (drop_at (take (j * size) area) (new ++ drop size (drop (j * size) area)) (j * size) front_long)
          ∙ drop_at new (drop size (drop (j * size) area)) size long ∙ drop-drop size (j * size) area
          in
          ap (take size)
          (ap (λ (n : ℕ). drop n put) at ∙ sym (drop-drop k (j * size + size) put) ∙ ap (drop k) back ∙ drop-drop k (j * size + size) area ∙ ap (λ (n : ℕ). drop n area) (sym at))

-- the hits of query j alone, its part and its number being what its single search leaves
pub collects_alone : (size j : ℕ) (found : List ℕ) (area : List Entry) → j < length found → suc j * size ≤ length area
    → (hits : List Entry) (number : ℕ) (new : List Entry) → number ≡ get_or found j 0 + length hits → new ≡ sets (part_at size j area) (get_or found j 0) hits → length new ≡ size
    → Collects size (only j hits) found area (set found j number) (take (j * size) area ++ (new ++ drop size (drop (j * size) area)))
unfolding only
collects_alone size j found area counted inside hits number new n e long =
    record { same = length-set found j number; numbers = λ i. (go i (eqb i j) refl).0; parts = λ i. (go i (eqb i j) refl).1 }
  where
    go : (i : ℕ) (b : Bool) → eqb i j ≡ b
        → (get_or (set found j number) i 0 ≡ get_or found i 0 + length {A = Entry} (elim b [ true ↦ hits | false ↦ [] ]))
        × (part_at size i (take (j * size) area ++ (new ++ drop size (drop (j * size) area))) ≡ sets (part_at size i area) (get_or found i 0) (elim b [ true ↦ hits | false ↦ [] ]))
    go i true q =
        let is = eqb-true i j q in (
          ap (λ (k : ℕ). get_or (set found j number) k 0) is ∙ get_or-set_same found j number 0 counted ∙ n ∙ ap (λ (k : ℕ). get_or found k 0 + length hits) (sym is),
          ap (λ (k : ℕ). part_at size k (take (j * size) area ++ (new ++ drop size (drop (j * size) area)))) is ∙ put_own size j area new inside long ∙ e
              ∙ ap (λ (k : ℕ). sets (part_at size k area) (get_or found k 0) hits) (sym is),
        )
    go i false q =
        let apart = eqb-false i j q in
        (get_or-set_other found j i number 0 apart ∙ omega arith, put_other size j area new inside long i apart)

-- what a single search in part j leaves, as code hands it on: the query at place n of the batch, k entries of the area
pub collects_single : (size j n k : ℕ) (batch slots : List Row) (found : List ℕ) (area : List Entry) → n ≡ suc j → k ≡ size → j < length found → suc j * size ≤ length area
    → (f r : Found) (new : List Entry) → f.hits ≡ get_or found j 0
    → r ≡ found_after f (range_asked (get_or batch 0 [] ∷ get_or batch n [] ∷ []) slots) → new ≡ collected (take k (drop (j * size) area)) f (range_asked (get_or batch 0 [] ∷ get_or batch n [] ∷ []) slots)
    → (r.count ≡ f.count + (range_asked (asked_at batch j) slots).count)
    × Collects size (only j (range_asked (asked_at batch j) slots).hits) found area (set found j r.hits) (take (j * size) area ++ (new ++ drop k (drop (j * size) area)))
unfolding found_after collected part_at
collects_single size j n k batch slots found area at whole counted inside f r new h p q =
    let e : range_asked (get_or batch 0 [] ∷ get_or batch n [] ∷ []) slots ≡ range_asked (asked_at batch j) slots = ap (λ (i : ℕ). range_asked (get_or batch 0 [] ∷ get_or batch i [] ∷ []) slots) at in
    let is : new ≡ sets (take size (drop (j * size) area)) (get_or found j 0) (range_asked (asked_at batch j) slots).hits =
    q ∙ λ i. sets (take (whole i) (drop (j * size) area)) (h i) (e i).hits
    in
    let long : length new ≡ size =
    ap length is ∙ length-sets (take size (drop (j * size) area)) (get_or found j 0) (range_asked (asked_at batch j) slots).hits
    ∙ length-take-le size (drop (j * size) area) (omega (arith, length-drop (j * size) area, inside, suc-mul j size))
    in (
      ap (λ (x : Found). x.count) p ∙ ap (λ (m : Met). f.count + m.count) e,
      subst (λ (i : ℕ). Collects size (only j (range_asked (asked_at batch j) slots).hits) found area (set found j r.hits) (take (j * size) area ++ (new ++ drop i (drop (j * size) area)))) (sym whole)
          (collects_alone size j found area counted inside (range_asked (asked_at batch j) slots).hits r.hits new
          (ap (λ (x : Found). x.hits) p ∙ λ i. h i + length (e i).hits) is long),
    )

-- the same three of hits with the places they go to
pub collected_none : (hits : ℕ → List Entry) (to : Hits) → ((j : ℕ) → hits j ≡ []) → Collected to hits to
collected_none hits to none = record { collects = collects_none to.part hits to.found.now to.area.now none; part = refl; size = refl; names = (refl, refl) }

pub collected_alike : {hits : ℕ → List Entry} (same : ℕ → List Entry) → ((j : ℕ) → same j ≡ hits j)
    → {before after : Hits} → Collected before hits after → Collected before same after
collected_alike same e a = record { collects = collects_alike same e a.collects; part = a.part; size = a.size; names = a.names }

pub collected_both : {first second : ℕ → List Entry} (hits : ℕ → List Entry) → ((j : ℕ) → hits j ≡ first j ++ second j)
    → {before mid after : Hits} → Collected before first mid → Collected mid second after → Collected before hits after
collected_both {first} {second} hits e {before} {mid} {after} a b =
    record {
      collects = collects_both hits e a.collects
          (subst (λ (part : ℕ). Collects part second mid.found.now mid.area.now after.found.now after.area.now) a.part b.collects);
      part = b.part ∙ a.part;
      size = b.size ∙ a.size;
      names = (b.names.0 ∙ a.names.0, b.names.1 ∙ a.names.1);
    }

-- what a part has room for afterwards: its place is where it was, and the numbers have grown by the hits
module _ {before after : Hits} {hits : ℕ → List Entry} (c : Collected before hits after) where
  pub part_after : (j : ℕ) → suc j * before.part ≤ length before.area.now → suc j * after.part ≤ length after.area.now
  part_after j h = coe 0 1 (i. suc j * sym c.part i ≤ sym c.size i) h

  pub fewer_after : {more less : ℕ} → ((j : ℕ) → length (hits j) + less ≤ more) → Fewer more before.found.now → Fewer less after.found.now
  fewer_after le f = record { sixteen = c.collects.same ∙ f.sixteen; each = λ j. omega (arith, f.each j, c.collects.numbers j, le j) }
