-- The model's own figures and the definitions of the calls say the same: of tags and measures, of what a weight pays, of a list's weights, of a batch's
-- queries, and of how lots are told. Test by test; a listing lot by lot.
use Prim.Native.Nat.{ℕ, suc, ◌+◌, ◌-◌, ◌*◌, ◌/◌, ◌%◌, ◌≤◌, ◌<◌, max}
use native.Mathlib.Omega.{arith}
use mathlib.Core.Path.{◌≡◌, refl, sym, ◌∙◌, ap, ap₂}
use mathlib.Core.Bool.{Bool, true, false, not, ◌&&◌, ◌||◌, false≢true}
use mathlib.Core.List.{List, [], ◌∷◌, ◌++◌, map, flatten}
use mathlib.Core.Option.{Option, none, some}
use lib.IntN.{ℤ, pos, negsuc}
use lib.Dec.{leb, ltb}
use lib.ListN.{length, get_or}
use borrow.Author.Tests.{ltb-true, ltb-false, leb-true, leb-false}
use Rattle.lists.specs.Lists.{every, any, count_from}
use Rattle.lists.proofs.Lists.{map_alike}
use Rattle.metric_rules.specs.declared.Profile.{Profile}
use Rattle.metric_rules.specs.Row.{Row, profile_of}
use Rattle.metric_rules.specs.Validity.{measure_limit, valid_measure, valid_measures}
use Rattle.search_rules.specs.Range.{entry}
use Rattle.table_rules.specs.Refusals.{not_live, no_room, bad_measure, unless, when, or_else}
use Rattle.dues_rules.specs.Board.{board, rate_by, dues_at, dues_by}
use Rattle.dues_rules.specs.Listed.{no_dues, is_found, is_weight, pays, weights_refusal, dues_of}
use Rattle.dues_rules.proofs.Rates.{light, middle, heavy}
use Rattle.batch_rules.specs.Batch.{bad_batch, most_queries, valid_number, queries_refusal}
use Rattle.lots_rules.specs.Lots.{largest_of, numbered, listing_of}
use Rattle.lots_rules.specs.Drafting.{most_radii, radii_pass}
use Rattle.history.specs.Figures.{measure_within, measures_within, cents_aKilo, in_cents, is_missing, is_below_zero, pays_for, greatest}
use Rattle.history.specs.Model.{dues_refusal_of}
use Rattle.history.proofs.LoadTests.{most_above, not_any, every_not_any, test_all, stops_alike, stops_if}

measure_within_lem : (m : ℤ) → valid_measure m ≡ measure_within m
unfolding valid_measure measure_limit measure_within
measure_within_lem (pos n) = refl
measure_within_lem (negsuc n) = refl

pub measures_within_lem : (p : Profile) → valid_measures p ≡ measures_within p
unfolding valid_measures measures_within
measures_within_lem p = test_all valid_measure measure_within measure_within_lem p.measures

-- dues: the band of a weight, its cents, and what each tag pays
rate_is : (w : ℕ) → rate_by board w ≡ cents_aKilo w
unfolding cents_aKilo
rate_is w = go (ltb w 40_000) (ltb w 60_000) refl refl
  where
    go : (low mid : Bool) → ltb w 40_000 ≡ low → ltb w 60_000 ≡ mid → rate_by board w ≡ elim low [ true ↦ 2 | false ↦ elim mid [ true ↦ 3 | false ↦ 4 ] ]
    go true mid e f = light w (ltb-true w 40_000 e)
    go false true e f = middle w (ltb-false w 40_000 e) (ltb-true w 60_000 f)
    go false false e f = heavy w (ltb-false w 60_000 f)

rounded : (n : ℕ) → (n + 50) / 100 ≡ in_cents n
unfolding in_cents
rounded n = go (leb 50 (n % 100)) refl
  where
    go : (up : Bool) → leb 50 (n % 100) ≡ up → (n + 50) / 100 ≡ n / 100 + elim up [ true ↦ 1 | false ↦ 0 ]
    go true e = let h : 50 ≤ n % 100 = leb-true 50 (n % 100) e in omega arith
    go false e = let h : n % 100 < 50 = leb-false 50 (n % 100) e in omega arith

pub board_figured : (w : ℕ) → dues_by board w ≡ in_cents (w * cents_aKilo w)
unfolding dues_by dues_at
board_figured w = ap (λ (rate : ℕ). (w * rate + 50) / 100) (rate_is w) ∙ rounded (w * cents_aKilo w)

pays_is : (weight : Option ℤ) → pays weight ≡ pays_for weight
unfolding pays pays_for
pays_is none = refl
pays_is (some (pos w)) = board_figured w
pays_is (some (negsuc w)) = refl

pub dues_are : (weights : List (Option ℤ)) → dues_of weights ≡ map pays_for weights
dues_are weights = map_alike pays_is weights

found_is : (weight : Option ℤ) → is_found weight ≡ not (is_missing weight)
unfolding is_found is_missing
found_is none = refl
found_is (some weight) = refl

-- where all are found, those that weigh no less than 0 are those that do not weigh below it
weight_is : (weight : Option ℤ) → is_missing weight ≡ false → is_weight weight ≡ not (is_below_zero weight)
unfolding is_missing is_weight is_below_zero
weight_is none e = sym e
weight_is (some (pos w)) e = refl
weight_is (some (negsuc w)) e = refl

none_of : (p q : Bool) → (p || q) ≡ false → (p ≡ false) × (q ≡ false)
none_of false q e = (refl, e)
none_of true q e = absurd (false≢true (sym e))

weights_are : (weights : List (Option ℤ)) → any is_missing weights ≡ false → every is_weight weights ≡ not (any is_below_zero weights)
unfolding any every
weights_are [] e = refl
weights_are (w ∷ ws) e =
    let there = none_of (is_missing w) (any is_missing ws) e in
    ap₂ ◌&&◌ (weight_is w there.0) (weights_are ws there.1) ∙ not_any (is_below_zero w) (any is_below_zero ws)

pub dues_figured : (weights : List (Option ℤ)) (area : ℕ) → weights_refusal weights area ≡ dues_refusal_of weights area
unfolding weights_refusal dues_refusal_of
dues_figured weights area =
    let n = length weights in
    stops_if (any is_missing weights) not_live (every_not_any is_found is_missing found_is weights)
    (λ e.
    stops_alike (ltb 4_096 n || any is_below_zero weights) no_dues
    (ap₂ ◌&&◌ (most_above n 4_096) (weights_are weights e) ∙ not_any (ltb 4_096 n) (any is_below_zero weights))
    (stops_alike (ltb area n) no_room (most_above n area) refl))

-- a batch: 40, 2, and what is asked after these
pub batch_figured : (queries : List Row) (fit : Bool) (longer : Bool) → fit ≡ not longer
    → or_else (queries_refusal queries) (unless fit no_room 0)
    ≡ when (ltb (length queries) 1 || ltb 16 (length queries)) bad_batch
    (unless (every (λ query. measures_within (profile_of query)) queries) bad_measure (when longer no_room 0))
unfolding queries_refusal valid_number most_queries
batch_figured queries fit longer e =
    let n = length queries in
    go (ltb n 1 || ltb 16 n) (every (λ query. measures_within (profile_of query)) queries)
    (ap₂ ◌&&◌ (most_above 1 n) (most_above n 16) ∙ not_any (ltb n 1) (ltb 16 n))
    (test_all (λ query. valid_measures (profile_of query)) (λ query. measures_within (profile_of query)) (λ query. measures_within_lem (profile_of query)) queries)
  where
    go : {number measures : Bool} (many valid : Bool) → number ≡ not many → measures ≡ valid
        → or_else (unless number bad_batch (unless measures bad_measure 0)) (unless fit no_room 0)
        ≡ when many bad_batch (unless valid bad_measure (when longer no_room 0))
    go {number} {measures} true valid f g =
        ap (λ (b : Bool). or_else (unless b bad_batch (unless measures bad_measure 0)) (unless fit no_room 0)) f
    go {number} {measures} false true f g =
        ap₂ (λ (b c : Bool). or_else (unless b bad_batch (unless c bad_measure 0)) (unless fit no_room 0)) f g ∙ stops_alike longer no_room e refl
    go {number} {measures} false false f g =
        ap₂ (λ (b c : Bool). or_else (unless b bad_batch (unless c bad_measure 0)) (unless fit no_room 0)) f g

-- lots: 41; the largest size; the listing
pub radii_figured : (radii : List ℕ) (chosen : ℕ)
    → radii_pass radii chosen ≡ not (ltb (length radii) 1 || ltb 32 (length radii) || (ltb chosen 1 || ltb (length radii) chosen))
unfolding radii_pass most_radii
radii_figured radii chosen =
    let n = length radii in
    ap₂ ◌&&◌
    (ap₂ ◌&&◌ (most_above 1 n) (most_above n 32) ∙ not_any (ltb n 1) (ltb 32 n))
    (ap₂ ◌&&◌ (most_above 1 chosen) (most_above chosen n) ∙ not_any (ltb chosen 1) (ltb n chosen))
    ∙ not_any (ltb n 1 || ltb 32 n) (ltb chosen 1 || ltb n chosen)

pub greatest_is : (ns : List ℕ) → largest_of ns ≡ greatest ns
unfolding largest_of greatest
greatest_is [] = refl
greatest_is (n ∷ ns) = ap (max n) (greatest_is ns)

-- lots from number a + 1 on, each by its number
numbered_by : {A : Type 0} (tag : A → ℕ) (lot : ℕ → List A) (ls : List (List A)) (a : ℕ) → ((j : ℕ) → j < length ls → get_or ls j [] ≡ lot (a + j))
    → numbered tag (suc a) ls ≡ flatten (map (λ n. map (λ i. tag i ∷ suc n ∷ []) (lot n)) (count_from a (length ls)))
unfolding numbered flatten count_from entry
numbered_by tag lot [] a h = refl
numbered_by tag lot (l ∷ ls) a h =
    let here : a + 0 ≡ a = omega arith in
    ap₂ ◌++◌ (ap (map (λ i. tag i ∷ suc a ∷ [])) (h 0 (omega arith) ∙ ap lot here))
    (numbered_by tag lot ls (suc a) (λ j l. let next : a + suc j ≡ suc a + j = omega arith in h (suc j) (omega arith) ∙ ap lot next))

pub listing_figured : {A : Type 0} (tag : A → ℕ) (ls : List (List A))
    → listing_of tag ls ≡ flatten (map (λ n. map (λ i. tag i ∷ suc n ∷ []) (get_or ls n [])) (count_from 0 (length ls)))
unfolding listing_of
listing_figured tag ls = numbered_by tag (λ n. get_or ls n []) ls 0 (λ j l. let at : j ≡ 0 + j = omega arith in ap (λ (n : ℕ). get_or ls n []) at)
