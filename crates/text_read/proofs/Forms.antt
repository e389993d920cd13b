-- What a part's tests and reads come to: a size by its two parts, the sign before it, and four measures in turn.
use Prim.Native.Nat.{ℕ, suc, ◌+◌, ◌*◌, ◌≤◌, ◌<◌, ◌^◌}
use mathlib.Core.Path.{◌≡◌, refl, ap, ap₂, sym, ◌∙◌}
use mathlib.Core.Bool.{Bool, true, false, ◌&&◌, false≢true}
use mathlib.Core.List.{List, [], ◌∷◌}
use native.Mathlib.Omega.{arith}
use native.Mathlib.Nat.{add-zero}
use lib.Dec.{eqb}
use lib.IntN.{ℤ, pos, neg_ℤ}
use lib.ListN.{length, get_or, take, drop, length-drop}
use lib.Seq.{drop-drop, get_or-drop}
use borrow.Author.Tests.{eq-eqb, ne_eqb, eqb-true, eqb-false}
use Rattle.std.proofs.Common.{Option, Some, None, Bor}
use Rattle.std.proofs.lemmas.Bool.Decides.{nat_tests}
use Rattle.std.specs.Bool.{then_some}
use Rattle.std.specs.Cmp.Lexicographic.{pointwise}
use Rattle.std.specs.List.{starts_with}
use Rattle.std.specs.Option.{MatchOption, unwrap_or}
use Rattle.lists.proofs.Tests.{and_second}
use Rattle.text_rules.specs.Text.{digit_of, is_digit, parted, part_at, parts_in, is_numeral, numeral}
use Rattle.text_rules.specs.Fields.{is_negative, unsigned, is_measure, hundredths, measure_in}
use Rattle.text_rules.proofs.Digits.{digit_below}
use Rattle.text_rules.proofs.Signs.{measure_minus, measure_plain, hundredths_below, unsigned_minus, unsigned_plain}
use Rattle.text_read.specs.declared.MeasureRead.{MeasureRead}
use Rattle.text_read.specs.declared.MeasuresRead.{MeasuresRead}
use Rattle.text_read.specs.Parts.{parts_behind}
use Rattle.text_read.specs.Found.{digit_in, number_in, is_size, size_in, signed, MeasureAt, four_measures, MeasuresAt}
use Rattle.text_read.proofs.Finding.{none_behind}

-- a value where a test says that there is one
pub none_if : {A : Type 0} {t : Bool} (x : A) → t ≡ false → None ≡ then_some t x
none_if x e = ap (λ t. then_some t x) (sym e)

pub some_if : {A : Type 0} {t : Bool} {x y : A} → t ≡ true → y ≡ x → Some y ≡ then_some t x
some_if {x = x} e f = ap Some f ∙ ap (λ t. then_some t x) (sym e)

-- and what such a value tells of the test
module _ {A : Type 0} where
  pub none_told : (t : Bool) (x : A) → None ≡ then_some t x → t ≡ false
  none_told true x e = cc
  none_told false x e = refl

  pub some_told : (t : Bool) (x : A) {y : A} → Some y ≡ then_some t x → (t ≡ true) × (y ≡ x)
  some_told true x e = (refl, cc)
  some_told false x e = cc

pub no_digit : (base b : ℕ) → None ≡ digit_in base b → is_digit base b ≡ false
unfolding digit_in
no_digit base b e = none_told _ _ e

pub a_digit : (base b : ℕ) {d : ℕ} → Some d ≡ digit_in base b → (is_digit base b ≡ true) × (d ≡ digit_of b) × (d < base)
unfolding digit_in
a_digit base b e =
    let k = some_told (is_digit base b) (digit_of b) e in
    (k.0, k.1, omega (arith, k.1, digit_below base b k.0))

pub no_number : (base least most : ℕ) (text : List ℕ) → None ≡ number_in base least most text → is_numeral base least most text ≡ false
unfolding number_in
no_number base least most text e = none_told _ _ e

pub a_number : (base least most : ℕ) (text : List ℕ) {n : ℕ} → Some n ≡ number_in base least most text → (is_numeral base least most text ≡ true) × (n ≡ numeral base text)
unfolding number_in
a_number base least most text e = some_told _ _ e

-- a size by its parts
module _ (mark : ℕ) (size : List ℕ) where
  pub not_two_size : (parts_in mark size ≡ 2 → ⊥) → None ≡ size_in mark size
  unfolding size_in is_size
  not_two_size h =
      none_if (hundredths mark size)
      (ap (λ t. (t && is_numeral 10 1 5 (part_at mark size 0)) && is_numeral 10 2 2 (part_at mark size 1)) (ne_eqb (parts_in mark size) 2 h))

  pub by_two : {x y : List ℕ} {s t : Bool} → parted mark size ≡ x ∷ y ∷ [] → is_numeral 10 1 5 x ≡ s → is_numeral 10 2 2 y ≡ t
      → then_some (s && t) (100 * numeral 10 x + numeral 10 y) ≡ size_in mark size
  unfolding size_in is_size hundredths parts_in part_at
  by_two {x} {y} parts e f =
      ap₂ (λ s t. then_some (s && t) (100 * numeral 10 x + numeral 10 y)) (sym e) (sym f)
      ∙ ap
      (λ ps. then_some ((eqb (length ps) 2 && is_numeral 10 1 5 (get_or ps 0 [])) && is_numeral 10 2 2 (get_or ps 1 [])) (100 * numeral 10 (get_or ps 0 []) + numeral 10 (get_or ps 1 [])))
      (sym parts)

-- the sign of a measure
pub starts_negative : (text : List ℕ) → starts_with eqb text (45 ∷ []) ≡ is_negative text
unfolding is_negative
starts_negative [] = refl
starts_negative (b ∷ bs) = grind (arith, nat_tests)

strips_negative : (text : List ℕ) → pointwise eqb (take 1 text) (45 ∷ []) ≡ is_negative text
unfolding is_negative
strips_negative [] = refl
strips_negative (b ∷ bs) = grind (arith, nat_tests)

pub stripped : (text : Bor (List ℕ)) (P : Bor (List ℕ) → Type 0) (r : Option (Bor (List ℕ)))
    → MatchOption r (pointwise eqb (take 1 text.now) (45 ∷ []) ≡ false) (λ x. (pointwise eqb (take 1 text.now) (45 ∷ []) ≡ true) × (x.now ≡ drop 1 text.now) × P x)
    → (unwrap_or r text).now ≡ unsigned text.now
stripped text P None h = unsigned_plain text.now (sym (strips_negative text.now) ∙ h)
stripped text P (Some x) h = h.1 ∙ unsigned_minus text.now (sym (strips_negative text.now) ∙ h.0)

-- no part is no measure
pub no_measure : (mark : ℕ) → is_measure mark [] ≡ false
unfolding is_measure unsigned is_negative parts_in part_at parted
no_measure mark = refl

-- a part as a measure
module _ (mark : ℕ) (p : List ℕ) where
  size_measure : is_size mark (unsigned p) ≡ is_measure mark p
  unfolding is_size is_measure
  size_measure = refl

  -- one sign covers all digits
  sign_covers : signed (is_negative p) (hundredths mark (unsigned p)) ≡ measure_in mark p
  unfolding signed
  sign_covers = by (is_negative p) refl
    where
      by : (t : Bool) → is_negative p ≡ t → elim t [ true ↦ neg_ℤ (pos (hundredths mark (unsigned p))) | false ↦ pos (hundredths mark (unsigned p)) ] ≡ measure_in mark p
      by true e = measure_minus mark p (hundredths mark (unsigned p)) refl e
      by false e = measure_plain mark p (hundredths mark (unsigned p)) refl e

  pub size_fits : {n : ℕ} → Some n ≡ size_in mark p → n < 10 ^ 7
  unfolding size_in is_size
  size_fits e =
      let k = some_told _ _ e in
      omega (arith, k.1, hundredths_below mark p k.0)

  -- the first of the parts behind a place
  module _ (separator : ℕ) (text : List ℕ) (next : ℕ) {parts : List (List ℕ)} (first : parts ≡ p ∷ parts_behind separator text next) where
    first_is : is_size mark (unsigned p) ≡ is_measure mark (get_or parts 0 [])
    first_is = size_measure ∙ ap (λ ps. is_measure mark (get_or ps 0 [])) (sym first)

    pub no_measure_first : None ≡ size_in mark (unsigned p) → MeasureAt separator mark text parts None
    unfolding size_in
    no_measure_first e = sym first_is ∙ none_told _ _ e

    pub measure_first : {n : ℕ} {v : ℤ} → Some n ≡ size_in mark (unsigned p) → v ≡ signed (is_negative p) n
        → MeasureAt separator mark text parts (Some (record { value = v; end = next }))
    unfolding size_in
    measure_first e f =
        let k = some_told _ _ e in (
          sym first_is ∙ k.0,
          f ∙ ap (signed (is_negative p)) k.1 ∙ sign_covers ∙ ap (λ ps. measure_in mark (get_or ps 0 [])) (sym first),
          sym (ap (drop 1) first),
        )

pub none_measured : (separator mark : ℕ) (text : List ℕ) (end : ℕ) → length text ≤ end → MeasureAt separator mark text (parts_behind separator text end) None
none_measured separator mark text end h = ap (λ ps. is_measure mark (get_or ps 0 [])) (none_behind separator text end h) ∙ no_measure mark

-- four in turn: each begins where the one before it ends
module _ (separator mark : ℕ) (text : List ℕ) (begin : ℕ) where
  abbrev ps : List (List ℕ)
  ps = parts_behind separator text begin

  abbrev is : ℕ → Bool
  is n = is_measure mark (get_or ps n [])

  module _ (n end : ℕ) (here : parts_behind separator text end ≡ drop n ps) where
    here-part : get_or (parts_behind separator text end) 0 [] ≡ get_or ps n []
    here-part = ap (λ qs. get_or qs 0 []) here ∙ get_or-drop n ps 0 [] ∙ ap (λ k. get_or ps k []) (add-zero n)

    pub no-measure-here : MeasureAt separator mark text (parts_behind separator text end) None → is n ≡ false
    no-measure-here known = ap (is_measure mark) (sym here-part) ∙ known

    pub measure-here : (m : MeasureRead) → MeasureAt separator mark text (parts_behind separator text end) (Some m)
        → (is n ≡ true) × (m.value ≡ measure_in mark (get_or ps n [])) × (parts_behind separator text m.end ≡ drop (n + 1) ps)
    measure-here m k =
        (ap (is_measure mark) (sym here-part) ∙ k.0, k.1 ∙ ap (measure_in mark) here-part, k.2 ∙ ap (drop 1) here ∙ drop-drop 1 n ps)

  pub four_by : {s t u v : Bool} → is 0 ≡ s → is 1 ≡ t → is 2 ≡ u → is 3 ≡ v → four_measures mark ps ≡ (((s && t) && u) && v)
  unfolding four_measures
  four_by e f g h = λ i. ((e i && f i) && g i) && h i

-- how many parts there are
pub one_more : (n m : ℕ) → eqb (suc n) (suc m) ≡ eqb n m
one_more n m = by (eqb n m) refl
  where
    by : (t : Bool) → eqb n m ≡ t → eqb (suc n) (suc m) ≡ t
    by true e = eq-eqb (suc n) (suc m) (ap suc (eqb-true n m e))
    by false e = ne_eqb (suc n) (suc m) (λ f. eqb-false n m e (omega arith))

some_fourth : (mark : ℕ) (ps : List (List ℕ)) → is_measure mark (get_or ps 3 []) ≡ true → 4 ≤ length ps
some_fourth mark [] e = absurd (false≢true (sym (no_measure mark) ∙ e))
some_fourth mark (a ∷ []) e = absurd (false≢true (sym (no_measure mark) ∙ e))
some_fourth mark (a ∷ b ∷ []) e = absurd (false≢true (sym (no_measure mark) ∙ e))
some_fourth mark (a ∷ b ∷ c ∷ []) e = absurd (false≢true (sym (no_measure mark) ∙ e))
some_fourth mark (a ∷ b ∷ c ∷ d ∷ ps) e = omega arith

-- the parts behind the four, and that there are four
pub left_over : (separator mark : ℕ) (text : List ℕ) (ps : List (List ℕ)) (m : MeasuresRead) → MeasuresAt separator mark text ps (Some m)
    → length ps ≡ length (parts_behind separator text m.end) + 4
unfolding four_measures
left_over separator mark text ps m known =
    let fourth = and_second ((is_measure mark (get_or ps 0 []) && is_measure mark (get_or ps 1 [])) && is_measure mark (get_or ps 2 [])) (is_measure mark (get_or ps 3 [])) known.0 in
    omega (arith, some_fourth mark ps fourth, ap length known.2, length-drop 4 ps)
