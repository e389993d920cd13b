-- What a range search hands on adds up: the numbers and the area after two visits are those after both at once.
-- A slot's visit and its halves' are two visits, and so are the two halves'.
use Prim.Native.Nat.{ℕ, suc, ◌+◌, ◌-◌, ◌^◌, ◌<◌, ◌≤◌}
use mathlib.Core.Path.{◌≡◌, refl, sym, ap, ap₂, ◌∙◌}
use mathlib.Core.Bool.{Bool, true, false, ◌&&◌, and-false}
use mathlib.Core.List.{List, [], ◌∷◌, ◌++◌}
use lib.ListN.{length, take, drop, get_or, set, length-append}
use lib.Seq.{sets, sets-eq, length-sets, length-take-le, take_at}
use lib.Dec.{leb}
use borrow.Author.Tests.{le-leb, lt-leb}
use native.Mathlib.Omega.{arith}
use Rattle.metric_rules.specs.declared.Profile.{Profile}
use Rattle.metric_rules.specs.Row.{Row, tag_of, threshold_of}
use Rattle.search_rules.specs.Range.{Entry, entry, to_query, entry_of, isHit, visited, Met, nothing, both, rangeTree}
use Rattle.tree_rules.proofs.Parts.{part_rest}
use Rattle.search_rules.proofs.RangeLaws.{if_entered, range_step_lem, range_none, range_step}
use Rattle.tree_range.specs.declared.Found.{Found}
use Rattle.tree_range.specs.Collected.{found_after, collected, met_alone, met_in_halves}

pub found_eq : {a b c d : ℕ} → a ≡ b → c ≡ d → ◌≡◌ {A = Found} (record { hits = a; count = c }) (record { hits = b; count = d })
found_eq p q = λ i. record { hits = p i; count = q i }

-- stores one after the other
sets_append : (area : List Entry) (i j : ℕ) (xs ys : List Entry) → j ≡ i + length xs → sets (sets area i xs) j ys ≡ sets area i (xs ++ ys)
sets_append area i j [] ys e = ap (λ (k : ℕ). sets area k ys) (omega arith)
sets_append area i j (x ∷ xs) ys e = sets_append (set area i x) (suc i) j xs ys (omega arith)

pub found_both : (f : Found) (a b : Met) → found_after (found_after f a) b ≡ found_after f (both a b)
unfolding found_after both
found_both f a b = found_eq (rw length-append (omega arith)) (omega arith)

collected_both : (area : List Entry) (f : Found) (a b : Met) → collected (collected area f a) (found_after f a) b ≡ collected area f (both a b)
unfolding collected found_after both
collected_both area f a b = sets_append area f.hits (f.hits + length a.hits) a.hits b.hits refl

-- two visits, the one after the other
pub two_steps : (f : Found) (area : List Entry) (a b : Met) (g : Found) (next : List Entry) → g ≡ found_after f a → next ≡ collected area f a
    → (r : Found) (last : List Entry) → r ≡ found_after g b → last ≡ collected next g b
    → (r ≡ found_after f (both a b)) × (last ≡ collected area f (both a b))
two_steps f area a b g next e n r last p q = (
  p ∙ ap (λ (x : Found). found_after x b) e ∙ found_both f a b,
  q ∙ ap₂ (λ (x : List Entry) (y : Found). collected x y b) n e ∙ collected_both area f a b,
)

pub collected_length : (area : List Entry) (f : Found) (met : Met) → length (collected area f met) ≡ length area
unfolding collected
collected_length area f met = length-sets area f.hits met.hits

-- a visit that met nothing
pub found_nothing : (f : Found) → found_after f nothing ≡ f
unfolding found_after nothing
found_nothing f = found_eq (omega arith) (omega arith)

pub collected_nothing : (area : List Entry) (f : Found) → collected area f nothing ≡ area
unfolding collected nothing
collected_nothing area f = refl

-- a visit of n slots without a hit
pub found_without_hits : (f : Found) (met : Met) (n : ℕ) → met.hits ≡ [] → n ≡ met.count → record { hits = f.hits; count = f.count + n } ≡ found_after f met
unfolding found_after
found_without_hits f met n e q = found_eq (omega (arith, ap length e)) (omega (arith, q))

pub collected_without_hits : (area : List Entry) (f : Found) (met : Met) → met.hits ≡ [] → area ≡ collected area f met
unfolding collected
collected_without_hits area f met e = sym (ap (sets area f.hits) e)

module _ (reports : Row → Bool) (row : Row) (d radius : ℕ) where
  pub missed_hits : reports row && leb d radius ≡ false → (met_alone reports row d radius).hits ≡ []
  unfolding met_alone
  missed_hits e = ap (λ (b : Bool). elim b as (λ _. List Entry) [ true ↦ entry (tag_of row) d ∷ [] | false ↦ [] ]) e

  pub missed : reports row && leb d radius ≡ false → (f : Found) → found_after f (met_alone reports row d radius) ≡ record { hits = f.hits; count = f.count + 1 }
  unfolding met_alone found_after
  missed e f = found_eq (omega (arith, ap length (missed_hits e))) refl

  pub missed_area : reports row && leb d radius ≡ false → (area : List Entry) (f : Found) → collected area f (met_alone reports row d radius) ≡ area
  unfolding collected
  missed_area e area f = ap (sets area f.hits) (missed_hits e)

  pub unreported_no_hit : reports row ≡ false → reports row && leb d radius ≡ false
  unreported_no_hit e = ap (λ (b : Bool). b && leb d radius) e

  pub far_no_hit : radius < d → reports row && leb d radius ≡ false
  far_no_hit h = ap (λ (b : Bool). reports row && b) (lt-leb d radius h) ∙ and-false (reports row)

  hit : reports row ≡ true → d ≤ radius → reports row && leb d radius ≡ true
  hit e h = ap₂ ◌&&◌ e (le-leb d radius h)

  pub alone_hits : reports row ≡ true → d ≤ radius → (met_alone reports row d radius).hits ≡ entry (tag_of row) d ∷ []
  unfolding met_alone
  alone_hits e h = ap (λ (b : Bool). elim b as (λ _. List Entry) [ true ↦ entry (tag_of row) d ∷ [] | false ↦ [] ]) (hit e h)

  pub alone_hit : reports row ≡ true → d ≤ radius → (f : Found) → found_after f (met_alone reports row d radius) ≡ record { hits = f.hits + 1; count = f.count + 1 }
  unfolding met_alone found_after
  alone_hit e h f = found_eq (omega (arith, ap length (alone_hits e h))) refl

  pub alone_hit_area : reports row ≡ true → d ≤ radius → (area : List Entry) (f : Found) → collected area f (met_alone reports row d radius) ≡ set area f.hits (entry (tag_of row) d)
  unfolding collected
  alone_hit_area e h area f = ap (sets area f.hits) (alone_hits e h)

module _ (dist : Profile → Profile → ℕ) (query : Profile) (reports : Row → Bool) (radius : ℕ) where
  pub tree_empty : (slots : List Row) → length slots ≡ 0 → rangeTree dist query reports radius slots ≡ nothing
  tree_empty [] e = range_none dist query reports radius
  tree_empty (s ∷ rest) e = absurd (omega arith)

  -- a tree is its first slot and the halves below
  pub tree_first : (slots : List Row) → 0 < length slots
      → rangeTree dist query reports radius slots
      ≡ both (met_alone reports (get_or slots 0 []) (to_query dist query (get_or slots 0 [])) radius) (met_in_halves dist query reports radius (to_query dist query (get_or slots 0 [])) (threshold_of (get_or slots 0 [])) (drop 1 slots))
  unfolding range_step_lem visited met_alone met_in_halves isHit entry_of
  tree_first [] h = absurd (omega arith)
  tree_first (s ∷ rest) h = range_step dist query reports radius s rest

pub entered : (b : Bool) (met : Met) → b ≡ true → if_entered b met ≡ met
unfolding if_entered
entered b met e = ap (λ (c : Bool). if_entered c met) e

pub skipped : (b : Bool) (met : Met) → b ≡ false → if_entered b met ≡ nothing
unfolding if_entered
skipped b met e = ap (λ (c : Bool). if_entered c met) e

-- how far a half moves the numbers on
pub half_found : (f : Found) (b : Bool) (met : Met) (n k : ℕ) → length met.hits ≤ met.count → met.count ≤ n
    → f.hits + (n + k) < 2 ^ 32 → f.count + (n + k) < 2 ^ 32
    → ((found_after f (if_entered b met)).hits + k < 2 ^ 32) × ((found_after f (if_entered b met)).count + k < 2 ^ 32)
unfolding found_after if_entered
half_found f true met n k h g p q = (omega arith, omega arith)
half_found f false met n k h g p q = (omega arith, omega arith)

-- a slot alone moves the numbers on by one at most
pub alone_found : (reports : Row → Bool) (f : Found) (row : Row) (d radius n : ℕ) → 0 < n → f.hits + n < 2 ^ 32 → f.count + n < 2 ^ 32
    → ((found_after f (met_alone reports row d radius)).hits + (n - 1) < 2 ^ 32) × ((found_after f (met_alone reports row d radius)).count + (n - 1) < 2 ^ 32)
unfolding found_after met_alone
alone_found reports f row d radius n z p q = go (reports row && leb d radius)
  where
    go :
        (b : Bool) → (f.hits + length {A = Entry} (elim b [ true ↦ entry (tag_of row) d ∷ [] | false ↦ [] ]) + (n - 1) < 2 ^ 32)
        × (f.count + 1 + (n - 1) < 2 ^ 32)
    go true = (omega arith, omega arith)
    go false = (omega arith, omega arith)

-- a slot's visit and then its halves' leave what the tree's visit does
pub tree_visit : (dist : Profile → Profile → ℕ) (query : Profile) (reports : Row → Bool) (radius : ℕ) (slots : List Row) (f : Found) (area : List Entry) → 0 < length slots
    → (d m : ℕ) → d ≡ to_query dist query (get_or slots 0 []) → m ≡ threshold_of (get_or slots 0 [])
    → (g : Found) (next : List Entry) → g ≡ found_after f (met_alone reports (get_or slots 0 []) d radius) → next ≡ collected area f (met_alone reports (get_or slots 0 []) d radius)
    → (r : Found) (last : List Entry)
    → r ≡ found_after g (met_in_halves dist query reports radius d m (take (length slots - 1) (drop 1 slots)))
    → last ≡ collected next g (met_in_halves dist query reports radius d m (take (length slots - 1) (drop 1 slots)))
    → (r ≡ found_after f (rangeTree dist query reports radius slots)) × (last ≡ collected area f (rangeTree dist query reports radius slots))
tree_visit dist query reports radius slots f area z d m dq mt g next p q r last u v =
    let row = get_or slots 0 [] in
    let whole : both (met_alone reports row d radius) (met_in_halves dist query reports radius d m (take (length slots - 1) (drop 1 slots))) ≡ rangeTree dist query reports radius slots =
    ap (λ (xs : List Row). both (met_alone reports row d radius) (met_in_halves dist query reports radius d m xs)) (part_rest 1 slots)
    ∙ ap₂ (λ (x y : ℕ). both (met_alone reports row x radius) (met_in_halves dist query reports radius x y (drop 1 slots))) dq mt
    ∙ sym (tree_first dist query reports radius slots z)
    in
    let both-steps = two_steps f area (met_alone reports row d radius) (met_in_halves dist query reports radius d m (take (length slots - 1) (drop 1 slots))) g next p q r last u v in
    (both-steps.0 ∙ ap (found_after f) whole, both-steps.1 ∙ ap (collected area f) whole)

-- where the area holds all hits, they stand one after the other from the first free place on
pub collected_front : (area : List Entry) (f : Found) (met : Met) → f.hits + length met.hits ≤ length area
    → take (f.hits + length met.hits) (collected area f met) ≡ take f.hits area ++ met.hits
unfolding collected
collected_front area f met h =
    ap (take (f.hits + length met.hits)) (sets-eq met.hits area f.hits h)
    ∙ take_at (take f.hits area ++ met.hits) (drop (f.hits + length met.hits) area) (f.hits + length met.hits)
    (length-append (take f.hits area) met.hits ∙ ap (λ (n : ℕ). n + length met.hits) (length-take-le f.hits area (omega arith)))

-- a half without slots gives nothing, entered or not
pub empty_half : (dist : Profile → Profile → ℕ) (query : Profile) (reports : Row → Bool) (radius : ℕ) (b : Bool) (slots : List Row) → length slots ≡ 0 → if_entered b (rangeTree dist query reports radius slots) ≡ nothing
unfolding if_entered
empty_half dist query reports radius true slots e = tree_empty dist query reports radius slots e
empty_half dist query reports radius false slots e = refl
