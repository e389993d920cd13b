-- A set of queries as a number: bits of zero, of a number below a power of two, and of one to which a higher bit is added.
-- Each by halving.
use Prim.Native.Nat.{ℕ, zero, suc, ◌+◌, ◌-◌, ◌/◌, ◌%◌, ◌^◌, ◌≤◌, ◌<◌}
use mathlib.Core.Path.{◌≡◌, refl, sym, ap, ap₂, subst, ◌∙◌}
use mathlib.Core.Bool.{Bool, true, false, ◌&&◌, ◌||◌, false≢true}
use mathlib.Core.List.{List, [], ◌∷◌, ◌++◌}
use lib.ListN.{length, get_or}
use lib.Dec.{eqb, ltb, eqb-suc-suc, eqb-suc-zero, eqb-zero-suc}
use borrow.Author.Tests.{eqb-true, eqb-false, ltb-true, ltb-false, lt-ltb, le-ltb}
use native.Mathlib.Nat.{pow-suc, pow-zero, div-one, lt_of_not-le}
use native.Mathlib.Numerals.{add-one}
use lib.Pow.{pow_mono, shr_lt, shr-shr}
use lib.Count.{count_trailing_zeros, under}
use native.Mathlib.Decide.{dec_le}
use native.Mathlib.Omega.{arith}
use Rattle.lists.specs.Lists.{select}
use Rattle.metric_rules.specs.Row.{Row}
use Rattle.tree_range_batch.specs.Together.{is_on, Lowest, bit_if, chosen}

pub on_none : (j : ℕ) → is_on 0 j ≡ false
unfolding is_on
on_none zero = refl
on_none (suc j) = on_none j

-- a number below 2 to the w has no bit from w on
pub on_above : (w set j : ℕ) → set < 2 ^ w → w ≤ j → is_on set j ≡ false
unfolding is_on
on_above zero set j h g = let none : set ≡ 0 = omega (arith, pow-zero 2) in ap (λ (x : ℕ). is_on x j) none ∙ on_none j
on_above (suc w) set zero h g = absurd (omega arith)
on_above (suc w) set (suc j) h g = on_above w (set / 2) j (omega (arith, pow-suc 2 w)) (omega arith)

-- the bit above all others is added
on_put : (w set : ℕ) → set < 2 ^ w → (j : ℕ) → is_on (set + 2 ^ w) j ≡ (eqb j w || is_on set j)
unfolding is_on
on_put zero set h zero = let none : set ≡ 0 = omega (arith, pow-zero 2) in ap (λ (x : ℕ). is_on (x + 1) 0) none
on_put zero set h (suc j) =
    let none : set ≡ 0 = omega (arith, pow-zero 2) in
    ap (λ (x : ℕ). is_on (x + 1) (suc j)) none ∙ on_none j ∙ sym (ap₂ ◌||◌ (eqb-suc-zero j) (ap (λ (x : ℕ). is_on x (suc j)) none ∙ on_none (suc j)))
on_put (suc w) set h zero =
    let same : (set + 2 ^ suc w) % 2 ≡ set % 2 = omega (arith, pow-suc 2 w) in
    ap (λ (x : ℕ). eqb x 1) same ∙ sym (ap (λ (b : Bool). b || is_on set 0) (eqb-zero-suc w))
on_put (suc w) set h (suc j) =
    let half : (set + 2 ^ suc w) / 2 ≡ set / 2 + 2 ^ w = omega (arith, pow-suc 2 w) in
    ap (λ (x : ℕ). is_on x j) half ∙ on_put w (set / 2) (omega (arith, pow-suc 2 w)) j ∙ sym (ap (λ (b : Bool). b || is_on (set / 2) j) (eqb-suc-suc j w))

-- a number below 2 to the w that is not 0 has a bit below w
pub on_some : (w set : ℕ) → set < 2 ^ w → (set ≡ 0 → ⊥) → (queries : List Row) → w ≤ length queries → 0 < length (chosen (is_on set) queries)
unfolding is_on chosen
on_some zero set h some queries g = absurd (some (omega (arith, pow-zero 2)))
on_some (suc w) set h some [] g = absurd (omega arith)
on_some (suc w) set h some (query ∷ queries) g = go (eqb (set % 2) 1) refl (λ more. on_some w (set / 2) (omega (arith, pow-suc 2 w)) more queries (omega arith))
  where
    go :
        (b : Bool) → eqb (set % 2) 1 ≡ b → ((set / 2 ≡ 0 → ⊥) → 0 < length (chosen (is_on (set / 2)) queries))
        → 0 < length {A = Row} (elim b [ true ↦ query ∷ chosen (is_on (set / 2)) queries | false ↦ chosen (is_on (set / 2)) queries ])
    go true e more = omega arith
    go false e more = more (λ none. some (omega (arith, none, eqb-false (set % 2) 1 e)))

-- what a loop from bit 0 up has gathered: of a set whose bits are `w`, those below j
pub record Gathered (w : ℕ → Bool) (j set : ℕ) : Type 0 where
  pub bits : (i : ℕ) → is_on set i ≡ (ltb i j && w i)
  pub below : set < 2 ^ j

module _ (w : ℕ → Bool) where
  pub gathered_none : Gathered w 0 0
  gathered_none = record { bits = λ i. on_none i ∙ sym (ap (λ (b : Bool). b && w i) (le-ltb i 0 (omega arith))); below = omega arith }

  -- the next bit is not in the set
  pub gathered_skip : {j set : ℕ} → Gathered w j set → w j ≡ false → Gathered w (j + 1) set
  gathered_skip {j} {set} g out =
      record {
        bits = λ i. g.bits i ∙ go i (ltb i j) refl;
        below = omega (arith, g.below, pow-suc 2 j, ap (λ (k : ℕ). 2 ^ k) (add-one j));
      }
    where
      go : (i : ℕ) (b : Bool) → ltb i j ≡ b → (b && w i) ≡ (ltb i (j + 1) && w i)
      go i true e = sym (ap (λ (b : Bool). b && w i) (lt-ltb i (j + 1) (omega (arith, ltb-true i j e))))
      go i false e = elim (dec_le i j) [
        | yes same ↦ let is : i ≡ j = omega (arith, ltb-false i j e) in sym (ap₂ ◌&&◌ (lt-ltb i (j + 1) (omega arith)) (ap w is ∙ out))
        | no more ↦ sym (ap (λ (b : Bool). b && w i) (le-ltb i (j + 1) (omega (arith, lt_of_not-le more))))
      ]

  -- or it is, and is added
  gathered_put : {j set : ℕ} → Gathered w j set → w j ≡ true → Gathered w (j + 1) (set + 2 ^ j)
  gathered_put {j} {set} g in' =
      record {
        bits = λ i. on_put j set g.below i ∙ ap (λ (b : Bool). eqb i j || b) (g.bits i) ∙ go i (eqb i j) refl;
        below = omega (arith, g.below, pow-suc 2 j, ap (λ (k : ℕ). 2 ^ k) (add-one j));
      }
    where
      go : (i : ℕ) (b : Bool) → eqb i j ≡ b → (b || (ltb i j && w i)) ≡ (ltb i (j + 1) && w i)
      go i true e = let is : i ≡ j = eqb-true i j e in sym (ap₂ ◌&&◌ (lt-ltb i (j + 1) (omega arith)) (ap w is ∙ in'))
      go i false e = elim (dec_le j i) [
        | yes le ↦ ap (λ (b : Bool). b && w i) (le-ltb i j le ∙ sym (le-ltb i (j + 1) (omega (arith, beyond le))))
        | no more ↦ ap (λ (b : Bool). b && w i) (lt-ltb i j (lt_of_not-le more) ∙ sym (lt-ltb i (j + 1) (omega (arith, lt_of_not-le more))))
      ]
        where
          beyond : j ≤ i → j + 1 ≤ i
          beyond le = elim (dec_le (j + 1) i) [ yes h ↦ h | no h ↦ absurd (eqb-false i j e (omega (arith, lt_of_not-le h))) ]

  pub gathered_next : {j set : ℕ} (bit : ℕ) → bit ≡ 2 ^ j → Gathered w j set → (test : Bool) → w j ≡ test → (more : ℕ) → more ≡ bit_if test bit → Gathered w (j + 1) (set + more)
  unfolding bit_if
  gathered_next {j} {set} bit e g true is more m = subst (λ (n : ℕ). Gathered w (j + 1) (set + n)) (sym (m ∙ e)) (gathered_put g is)
  gathered_next {j} {set} bit e g false is more m = subst (λ (n : ℕ). Gathered w (j + 1) n) (omega (arith, m)) (gathered_skip g is)

  -- no bit is left
  pub gathered_all : {j set : ℕ} → Gathered w j set → ((i : ℕ) → j ≤ i → w i ≡ false) → (i : ℕ) → is_on set i ≡ w i
  gathered_all {j} {set} g none i = elim (dec_le j i) [
    | yes le ↦ g.bits i ∙ ap (λ (b : Bool). b && w i) (le-ltb i j le) ∙ sym (none i le)
    | no more ↦ g.bits i ∙ ap (λ (b : Bool). b && w i) (lt-ltb i j (lt_of_not-le more))
  ]

-- a set without its n lowest bits
on_behind : (n set i : ℕ) → is_on (set / 2 ^ n) i ≡ is_on set (n + i)
unfolding is_on
on_behind zero set i = let at : i ≡ 0 + i = omega arith in ap₂ is_on (div-one set) at
on_behind (suc n) set i =
    let place : suc (n + i) ≡ suc n + i = omega arith in
    let power : 1 + n ≡ suc n = omega arith in
    ap (λ (x : ℕ). is_on x i) (sym (shr-shr set 1 n ∙ ap (λ (k : ℕ). set / 2 ^ k) power)) ∙ on_behind n (set / 2) i ∙ ap (is_on set) place

-- the lowest bit that is set
lowest : (w set : ℕ) → set < 2 ^ w → (set ≡ 0 → ⊥) → (is_on set (count_trailing_zeros w set) ≡ true) × ((i : ℕ) → i < count_trailing_zeros w set → is_on set i ≡ false)
unfolding is_on count_trailing_zeros
lowest zero set h some = absurd (some (omega (arith, pow-zero 2)))
lowest (suc w) set h some = go (set % 2) refl (λ more. lowest w (set / 2) (omega (arith, pow-suc 2 w)) more)
  where
    t : ℕ
    t = count_trailing_zeros w (set / 2)

    go :
        (r : ℕ) → set % 2 ≡ r → ((set / 2 ≡ 0 → ⊥) → (is_on (set / 2) t ≡ true) × ((i : ℕ) → i < t → is_on (set / 2) i ≡ false))
        → (is_on set (under r t) ≡ true) × ((i : ℕ) → i < under r t → is_on set i ≡ false)
    go zero e rest =
        let more = rest (λ none. some (omega (arith, none, e))) in
        (more.0, before more.1)
      where
        before : ((i : ℕ) → i < t → is_on (set / 2) i ≡ false) → (i : ℕ) → i < suc t → is_on set i ≡ false
        before off zero less = ap (λ (x : ℕ). eqb x 1) e
        before off (suc i) less = off i (omega arith)
    go (suc r) e rest = let odd : set % 2 ≡ 1 = omega (arith, e) in (ap (λ (x : ℕ). eqb x 1) odd, λ i less. absurd (omega (arith, less)))

pub lowest_of : (set j : ℕ) → set < 2 ^ 16 → (set ≡ 0 → ⊥) → j ≡ count_trailing_zeros 32 set → Lowest set j
lowest_of set j h some e =
    let l = lowest 32 set (omega arith) some in
    let present : is_on set j ≡ true = ap (is_on set) e ∙ l.0 in
    record {
      present = present;
      before = λ i less. l.1 i (omega (arith, less, e));
      few = elim (dec_le 16 j) [ yes le ↦ absurd (false≢true (sym (on_above 16 set j h le) ∙ present)) | no more ↦ lt_of_not-le more ];
    }

-- what a loop from the lowest query up has left of a set behind query j - 1
pub record Remaining (on j rest : ℕ) : Type 0 where
  pub bits : (i : ℕ) → is_on rest i ≡ is_on on (j + i)
  pub few : j ≤ 16
  pub below : rest < 2 ^ (16 - j)

pub remaining_all : (on : ℕ) → on < 2 ^ 16 → Remaining on 0 on
remaining_all on h = record { bits = λ i. ap (is_on on) (omega arith); few = omega arith; below = h }

module _ {on j rest : ℕ} (r : Remaining on j rest) where
  pub remaining_none : rest ≡ 0 → (i : ℕ) → j ≤ i → is_on on i ≡ false
  remaining_none none i h =
      let at : j + (i - j) ≡ i = omega arith in
      sym (ap (is_on on) at) ∙ sym (r.bits (i - j)) ∙ ap (λ (x : ℕ). is_on x (i - j)) none ∙ on_none (i - j)

  -- the next query of the set, n places on
  module _ {n : ℕ} (l : Lowest rest n) where
    pub next_few : j + n < 16
    next_few = elim (dec_le (16 - j) n) [
      | yes le ↦ absurd (false≢true (sym (on_above (16 - j) rest n r.below le) ∙ l.present))
      | no h ↦ omega (arith, lt_of_not-le h)
    ]

    pub next-on : is_on on (j + n) ≡ true
    next-on = sym (r.bits n) ∙ l.present

    pub next-off : (i : ℕ) → i < n → is_on on (j + i) ≡ false
    next-off i h = sym (r.bits i) ∙ l.before i h

    pub remaining-next : (behind : ℕ) → behind ≡ rest / 2 ^ n / 2 → Remaining on (j + n + 1) behind
    unfolding is_on
    remaining-next behind e =
        let less = next_few in
        let power : 16 - (j + n + 1) + (n + 1) ≡ 16 - j = omega (arith, less) in
        let small = shr_lt {n = rest} (16 - (j + n + 1)) (n + 1) (omega (arith, r.below, ap (λ (k : ℕ). 2 ^ k) power)) in
        record {
          bits = λ i. let at : j + (n + suc i) ≡ j + n + 1 + i = omega arith in ap (λ (x : ℕ). is_on x i) e ∙ half i ∙ on_behind n rest (suc i) ∙ r.bits (n + suc i) ∙ ap (is_on on) at;
          few = omega (arith, less);
          below = omega (arith, e, small, shr-shr rest n 1);
        }
      where
        half : (i : ℕ) → is_on (rest / 2 ^ n / 2) i ≡ is_on (rest / 2 ^ n) (suc i)
        half i = refl

-- the set's queries that pass a test
pub chosen_selected : (test : Row → Bool) (queries : List Row) (on some : ℕ → Bool) → ((j : ℕ) → j < length queries → some j ≡ (on j && test (get_or queries j [])))
    → chosen some queries ≡ select test (chosen on queries)
unfolding chosen select
chosen_selected test [] on some h = refl
chosen_selected test (query ∷ queries) on some h =
    ap (λ (b : Bool). elim b as (λ _. List Row) [ true ↦ query ∷ chosen (λ j. some (suc j)) queries | false ↦ chosen (λ j. some (suc j)) queries ]) (h 0 (omega arith))
    ∙ go (on 0) (test query) refl (chosen_selected test queries (λ j. on (suc j)) (λ j. some (suc j)) (λ j g. h (suc j) (omega arith)))
  where
    rest : List Row
    rest = chosen (λ j. on (suc j)) queries

    go :
        (b t : Bool) → test query ≡ t → chosen (λ j. some (suc j)) queries ≡ select test rest
        → elim (b && t) as (λ _. List Row) [ true ↦ query ∷ chosen (λ j. some (suc j)) queries | false ↦ chosen (λ j. some (suc j)) queries ]
        ≡ select test (elim b as (λ _. List Row) [ true ↦ query ∷ rest | false ↦ rest ])
    go true true e k = ap (λ (l : List Row). query ∷ l) k ∙ sym (ap (λ (b : Bool). elim b as (λ _. List Row) [ true ↦ query ∷ select test rest | false ↦ select test rest ]) e)
    go true false e k = k ∙ sym (ap (λ (b : Bool). elim b as (λ _. List Row) [ true ↦ query ∷ select test rest | false ↦ select test rest ]) e)
    go false t e k = k

-- with a bit below 16 a set still fits its word
pub put_fits : (j set bit : ℕ) (test : Bool) (more : ℕ) → j < 16 → set < 2 ^ j → bit ≡ 2 ^ j → more ≡ bit_if test bit → set + more < 2 ^ 32
unfolding bit_if
put_fits j set bit true more few below e m = omega (arith, pow_mono {i = j} {j = 15} (omega arith))
put_fits j set bit false more few below e m = omega (arith, pow_mono {i = j} {j = 15} (omega arith))

-- no query is in the set 0
pub chosen_none : (queries : List Row) (on : ℕ → Bool) → ((j : ℕ) → on j ≡ false) → chosen on queries ≡ []
unfolding chosen
chosen_none [] on none = refl
chosen_none (query ∷ queries) on none =
    ap (λ (b : Bool). elim b as (λ _. List Row) [ true ↦ query ∷ chosen (λ j. on (suc j)) queries | false ↦ chosen (λ j. on (suc j)) queries ]) (none 0)
    ∙ chosen_none queries (λ j. on (suc j)) (λ j. none (suc j))

-- the set of the first n queries
pub on_all : (n all : ℕ) → all + 1 ≡ 2 ^ n → (j : ℕ) → is_on all j ≡ ltb j n
unfolding is_on
on_all zero all e j = let none : all ≡ 0 = omega (arith, pow-zero 2) in ap (λ (x : ℕ). is_on x j) none ∙ on_none j ∙ sym (le-ltb j 0 (omega arith))
on_all (suc n) all e zero =
    let odd : all % 2 ≡ 1 = omega (arith, e, pow-suc 2 n) in
    ap (λ (x : ℕ). eqb x 1) odd ∙ sym (lt-ltb 0 (suc n) (omega arith))
on_all (suc n) all e (suc j) = on_all n (all / 2) (omega (arith, e, pow-suc 2 n)) j ∙ next (ltb j n) refl
  where
    next : (b : Bool) → ltb j n ≡ b → ltb j n ≡ ltb (suc j) (suc n)
    next true h = h ∙ sym (lt-ltb (suc j) (suc n) (omega (arith, ltb-true j n h)))
    next false h = h ∙ sym (le-ltb (suc j) (suc n) (omega (arith, ltb-false j n h)))

pub chosen_first : (queries others : List Row) (on : ℕ → Bool) → ((j : ℕ) → on j ≡ ltb j (length queries)) → chosen on (queries ++ others) ≡ queries
unfolding chosen
chosen_first [] others on first = chosen_none others on (λ j. first j ∙ le-ltb j 0 (omega arith))
chosen_first (query ∷ queries) others on first =
    ap (λ (b : Bool). elim b as (λ _. List Row) [ true ↦ query ∷ chosen (λ j. on (suc j)) (queries ++ others) | false ↦ chosen (λ j. on (suc j)) (queries ++ others) ]) (first 0 ∙ lt-ltb 0 (suc (length queries)) (omega arith))
    ∙ ap (λ (l : List Row). query ∷ l) (chosen_first queries others (λ j. on (suc j)) (λ j. first (suc j) ∙ next j (ltb j (length queries)) refl))
  where
    next : (j : ℕ) (b : Bool) → ltb j (length queries) ≡ b → ltb (suc j) (suc (length queries)) ≡ ltb j (length queries)
    next j true h = lt-ltb (suc j) (suc (length queries)) (omega (arith, ltb-true j (length queries) h)) ∙ sym h
    next j false h = le-ltb (suc j) (suc (length queries)) (omega (arith, ltb-false j (length queries) h)) ∙ sym h

-- one query alone is in a set: it is the lowest, and nothing is left behind it
pub record Single (on j : ℕ) : Type 0 where
  pub present : is_on on j ≡ true
  pub others : (i : ℕ) → (i ≡ j → ⊥) → is_on on i ≡ false

pub single_alone : (on j rest : ℕ) → on < 2 ^ 16 → Lowest on j → rest ≡ on / 2 ^ j / 2 → rest ≡ 0 → Single on j
single_alone on j rest few low e none = record { present = low.present; others = others }
  where
    left : Remaining on (0 + j + 1) rest
    left = remaining-next (remaining_all on few) low rest e

    others : (i : ℕ) → (i ≡ j → ⊥) → is_on on i ≡ false
    others i apart =
        elim (dec_le j i) [
          | yes le ↦ remaining_none left none i (omega (arith, le, apart))
          | no less ↦ low.before i (lt_of_not-le less)
        ]

pub chosen_one : (queries : List Row) (on : ℕ → Bool) (j : ℕ) → j < length queries → on j ≡ true → ((i : ℕ) → (i ≡ j → ⊥) → on i ≡ false) → chosen on queries ≡ get_or queries j [] ∷ []
unfolding chosen
chosen_one [] on j inside present others = absurd (omega arith)
chosen_one (q ∷ queries) on zero inside present others =
    ap (λ (b : Bool). elim b as (λ _. List Row) [ true ↦ q ∷ chosen (λ k. on (suc k)) queries | false ↦ chosen (λ k. on (suc k)) queries ]) present
    ∙ ap (λ (xs : List Row). q ∷ xs) (chosen_none queries (λ k. on (suc k)) (λ k. others (suc k) (λ e. omega (arith, e))))
chosen_one (q ∷ queries) on (suc j) inside present others =
    ap (λ (b : Bool). elim b as (λ _. List Row) [ true ↦ q ∷ chosen (λ k. on (suc k)) queries | false ↦ chosen (λ k. on (suc k)) queries ]) (others 0 (λ e. omega (arith, e)))
    ∙ chosen_one queries (λ k. on (suc k)) j (omega arith) present (λ i apart. others (suc i) (λ e. apart (omega (arith, e))))
