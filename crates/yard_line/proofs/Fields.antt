-- The fields of a line in turn: a number below a bound, a code, the fields behind the second one, the day behind these,
-- and the command of a letter. Each law has the tests in the order of the code.
use Prim.Native.Nat.{ℕ, suc, ◌+◌, ◌-◌, ◌^◌, ◌≤◌, ◌<◌}
use mathlib.Core.Path.{◌≡◌, refl, ap, ap₂, sym, subst, ◌∙◌}
use mathlib.Core.Bool.{Bool, true, false, ◌&&◌, ◌||◌, false≢true}
use mathlib.Core.List.{List, [], ◌∷◌}
use native.Mathlib.Omega.{arith}
use lib.Dec.{leb, ltb, eqb}
use lib.ListN.{length, get_or, take, drop, length-take, length-drop, take-append-drop}
use lib.Seq.{get_or-drop, drop-drop}
use borrow.Author.Tests.{eq-eqb, ne_eqb, eqb-true, eqb-false, leb-true, leb-false}
use Rattle.std.proofs.Common.{Option, Some, None}
use Rattle.std.specs.Bool.{then_some}
use Rattle.std.specs.Cmp.Lexicographic.{pointwise}
use Rattle.std.specs.Option.{IsSome}
use Rattle.lists.specs.Lists.{every, All}
use Rattle.lists.proofs.Lists.{all_append, all_take, all_drop}
use Rattle.lists.proofs.Tests.{and_second, every_all, all_every}
use Rattle.text_rules.specs.Text.{space, point, minus, parted, part_at, parts_in, is_digit, is_numeral, numeral}
use Rattle.text_rules.specs.Fields.{is_tag, is_measure, measure_in}
use Rattle.text_rules.proofs.Digits.{length_passes, numeral_digits, numeral_longest, numeral_shortest}
use Rattle.text_read.specs.declared.MeasuresRead.{MeasuresRead}
use Rattle.text_read.specs.Parts.{parts_behind, PartEnd}
use Rattle.text_read.specs.Found.{four_measures, measures_of, MeasuresAt}
use Rattle.text_read.proofs.Finding.{first_part, next_part, none_behind, some_behind}
use Rattle.text_read.proofs.Forms.{one_more, none_if, some_if, none_told, some_told}
use Rattle.yard_rules.specs.declared.Command.{Command}
use Rattle.yard_rules.specs.declared.Command.TheVariants as command
use Rattle.yard_rules.specs.Line.{only_byte, is_below, is_number, is_day, is_code, code_in, has_day, has_profile, profile_in, header_in, opens, day_or, command_in, letter_a}
use Rattle.yard_rules.specs.Line.{letter_n, letter_r, letter_w}
use Rattle.yard_line.specs.declared.ProfileRead.{ProfileRead}
use Rattle.yard_line.specs.Found.{word_in, code_at, are_profile, profile_of, ProfileAt, day_in, usual_day, day_for, command_by, command_of}
use Rattle.yard_line.proofs.Lines.{header_by, ended, profile-seven, command_by_lem}

pub fails : (t : Bool) → (t ≡ true → ⊥) → t ≡ false
fails true h = absurd (h refl)
fails false h = refl

and_false : (t : Bool) → (t && false) ≡ false
and_false true = refl
and_false false = refl

two_more : (n m : ℕ) → eqb (suc (suc n)) (suc (suc m)) ≡ eqb n m
two_more n m = one_more (suc n) (suc m) ∙ one_more n m

-- a number below a bound
module _ (most bound : ℕ) (text : List ℕ) where
  pub word_by : {s t : Bool} {n : ℕ} → is_numeral 10 1 most text ≡ s → n ≡ numeral 10 text → ltb n bound ≡ t → then_some (s && t) n ≡ word_in most bound text
  unfolding word_in is_below
  word_by {s} {t} {n} e f g = ap (λ u. then_some (s && u) n) (sym g) ∙ (λ i. then_some (sym e i && ltb (f i) bound) (f i))

  pub no_word : None ≡ word_in most bound text → is_below most bound text ≡ false
  unfolding word_in
  no_word e = none_told _ _ e

  pub a_word : {n : ℕ} → Some n ≡ word_in most bound text → (is_below most bound text ≡ true) × (n ≡ numeral 10 text)
  unfolding word_in
  a_word e = some_told _ _ e

-- the first line
pub two_by : (line : List ℕ) {x y : List ℕ} {s t : Bool} {n m : ℕ} → parted space line ≡ x ∷ y ∷ [] → is_number x ≡ s → is_number y ≡ t → n ≡ numeral 10 x → m ≡ numeral 10 y
    → elim (s && t) [ true ↦ Some (record { order = n; metric = m }) | false ↦ None ] ≡ header_in line
unfolding parts_in part_at
two_by line parts e f g h =
    (λ i. elim (sym e i && sym f i) [ true ↦ Some (record { order = g i; metric = h i }) | false ↦ None ])
    ∙ (λ i. elim (is_number (get_or (sym parts i) 0 []) && is_number (get_or (sym parts i) 1 [])) [
      | true ↦ Some (record { order = numeral 10 (get_or (sym parts i) 0 []); metric = numeral 10 (get_or (sym parts i) 1 []) })
      | false ↦ None
    ])
    ∙ header_by line (ap (λ ps. eqb (length ps) 2) parts) refl refl

-- a code is a minus or 32 digits
module _ (text : List ℕ) where
  pub only_one : length text ≡ 1 → get_or text 0 0 ≡ only_byte text
  unfolding only_byte
  only_one h = ap (λ t. elim t [ true ↦ get_or text 0 0 | false ↦ 0 ]) (sym (eq-eqb (length text) 1 h))

  pub only_other : (length text ≡ 1 → ⊥) → 0 ≡ only_byte text
  unfolding only_byte
  only_other h = ap (λ t. elim t [ true ↦ get_or text 0 0 | false ↦ 0 ]) (sym (ne_eqb (length text) 1 h))

  pub digits_code : (only_byte text ≡ minus → ⊥) → is_numeral 16 32 32 text ≡ is_code text
  unfolding is_code
  digits_code h = ap (λ t. t || is_numeral 16 32 32 text) (sym (ne_eqb (only_byte text) minus h))

  other_length : (length text ≡ 32 → ⊥) → is_numeral 16 32 32 text ≡ false
  other_length h = fails (is_numeral 16 32 32 text) (λ e. h (omega (arith, numeral_shortest 16 32 32 text e, numeral_longest 16 32 32 text e)))

  pub no_code_at : is_code text ≡ false → None ≡ code_at text
  unfolding code_at
  no_code_at e = none_if _ e

  -- a minus alone
  minus_alone : pointwise eqb text (minus ∷ []) ≡ eqb (only_byte text) minus
  unfolding only_byte
  minus_alone = by text
    where
      and-true : (t : Bool) → (t && true) ≡ t
      and-true true = refl
      and-true false = refl

      by : (xs : List ℕ) → pointwise eqb xs (minus ∷ []) ≡ eqb (elim (eqb (length xs) 1) [ true ↦ get_or xs 0 0 | false ↦ 0 ]) minus
      by [] = refl
      by (x ∷ []) = and-true (eqb x minus)
      by (x ∷ y ∷ xs) =
          and_false (eqb x minus) ∙ ap (λ t. eqb (elim t [ true ↦ x | false ↦ 0 ]) minus) (sym (ne_eqb (suc (suc (length xs))) 1 (λ e. omega arith)))

  pub minus_told : {r : Bool} {one : List ℕ} → one ≡ minus ∷ [] → r ≡ pointwise eqb text one → eqb (only_byte text) minus ≡ r
  minus_told e f = sym (f ∙ ap (pointwise eqb text) e ∙ minus_alone)

  pub one_minus : eqb (only_byte text) minus ≡ true → Some (0 ∷ 0 ∷ []) ≡ code_at text
  unfolding code_at is_code code_in
  one_minus is =
      some_if (ap (λ t. t || is_numeral 16 32 32 text) is) (ap (λ t. elim t [ true ↦ 0 ∷ 0 ∷ [] | false ↦ numeral 16 (take 16 text) ∷ numeral 16 (drop 16 text) ∷ [] ]) (sym is))

  module _ (no_minus : only_byte text ≡ minus → ⊥) where
    pub wrong-length : (length text ≡ 32 → ⊥) → is_code text ≡ false
    wrong-length h = sym (digits_code no_minus) ∙ other_length h

    -- sixteen digits and sixteen
    module _ (long : length text ≡ 32) where
      half : (xs : List ℕ) → length xs ≡ 16 → every (is_digit 16) xs ≡ is_numeral 16 16 16 xs
      half xs h = length_passes 16 16 16 xs (omega arith) (omega arith)

      pub first-wrong : is_numeral 16 16 16 (take 16 text) ≡ false → is_code text ≡ false
      first-wrong e =
          sym (digits_code no_minus)
          ∙ fails (is_numeral 16 32 32 text) (λ f.
          false≢true (sym e ∙ sym (half (take 16 text) (omega (arith, length-take 16 text)))
          ∙ all_every (is_digit 16) (take 16 text) (all_take (λ x. is_digit 16 x ≡ true) 16 text (every_all (is_digit 16) text (numeral_digits 16 32 32 text f)))))

      pub second-wrong : is_numeral 16 16 16 (drop 16 text) ≡ false → is_code text ≡ false
      second-wrong e =
          sym (digits_code no_minus)
          ∙ fails (is_numeral 16 32 32 text) (λ f.
          false≢true (sym e ∙ sym (half (drop 16 text) (omega (arith, length-drop 16 text)))
          ∙ all_every (is_digit 16) (drop 16 text) (all_drop (λ x. is_digit 16 x ≡ true) 16 text (every_all (is_digit 16) text (numeral_digits 16 32 32 text f)))))

      pub both_halves : {a b : ℕ} → is_numeral 16 16 16 (take 16 text) ≡ true → is_numeral 16 16 16 (drop 16 text) ≡ true → a ≡ numeral 16 (take 16 text) → b ≡ numeral 16 (drop 16 text)
          → Some (a ∷ b ∷ []) ≡ code_at text
      unfolding code_at code_in
      both_halves e f g h =
          some_if
          (sym (digits_code no_minus)
          ∙ sym (length_passes 16 32 32 text (omega arith) (omega arith))
          ∙ all_every (is_digit 16) text (subst (All (λ x. is_digit 16 x ≡ true)) (take-append-drop 16 text)
          (all_append (λ x. is_digit 16 x ≡ true) (take 16 text) (drop 16 text)
          (every_all (is_digit 16) (take 16 text) (numeral_digits 16 16 16 (take 16 text) e))
          (every_all (is_digit 16) (drop 16 text) (numeral_digits 16 16 16 (drop 16 text) f)))))
          (ap₂ (λ a b. a ∷ b ∷ []) g h
          ∙ ap (λ t. elim t [ true ↦ 0 ∷ 0 ∷ [] | false ↦ numeral 16 (take 16 text) ∷ numeral 16 (drop 16 text) ∷ [] ]) (sym (ne_eqb (only_byte text) minus no_minus)))

-- the fields behind the second: a profile
no_code : is_code [] ≡ false
unfolding is_code only_byte is_numeral
no_code = refl

fields_by : (ps : List (List ℕ)) {s t : Bool} → four_measures point ps ≡ s → is_code (get_or ps 4 []) ≡ t → are_profile ps ≡ (s && t)
unfolding are_profile
fields_by ps e f = λ i. e i && f i

module _ (line : List ℕ) (ps : List (List ℕ)) where
  pub measures_wrong : four_measures point ps ≡ false → are_profile ps ≡ false
  measures_wrong f = fields_by ps f refl

  module _ (m : MeasuresRead) (known : MeasuresAt space point line ps (Some m)) where
    fifth : get_or ps 4 [] ≡ get_or (parts_behind space line m.end) 0 []
    fifth = sym (get_or-drop 4 ps 0 []) ∙ ap (λ qs. get_or qs 0 []) (sym known.2)

    pub code-missing : length line ≤ m.end → are_profile ps ≡ false
    code-missing h = fields_by ps known.0 (ap is_code (fifth ∙ ap (λ qs. get_or qs 0 []) (none_behind space line m.end h)) ∙ no_code)

    module _ (last : ℕ) (within : m.end < length line) (p : PartEnd space line (m.end + 1) last) where
      abbrev coded : List ℕ
      coded = take (last - (m.end + 1)) (drop (m.end + 1) line)

      behind : parts_behind space line m.end ≡ coded ∷ parts_behind space line last
      behind = next_part space line m.end last within p

      here : get_or ps 4 [] ≡ coded
      here = fifth ∙ ap (λ qs. get_or qs 0 []) behind

      pub code_wrong : None ≡ code_at coded → are_profile ps ≡ false
      unfolding code_at
      code_wrong e = fields_by ps known.0 (ap is_code here ∙ none_told _ _ e)

      pub code_here : {words : List ℕ} → Some words ≡ code_at coded
          → ProfileAt line ps (Some (record { profile = record { measures = m.measures; code = words }; end = last }))
      unfolding code_at profile_of
      code_here e =
          let k = some_told _ _ e in (
            fields_by ps known.0 (ap is_code here ∙ k.0),
            ap₂ (λ ms ws. record { measures = ms; code = ws }) known.1 (k.1 ∙ ap code_in (sym here)),
            ap (drop 1) (sym behind ∙ known.2) ∙ drop-drop 1 4 ps,
          )

-- the day of a line that has none
pub usual_of_item : (letter : ℕ) → letter ≡ letter_a → 1 ≡ usual_day letter
unfolding usual_day
usual_of_item letter e = ap (λ t. elim t [ true ↦ 1 | false ↦ 0 ]) (sym (eq-eqb letter letter_a e))

pub usual_of_search : (letter : ℕ) → (letter ≡ letter_a → ⊥) → 0 ≡ usual_day letter
unfolding usual_day
usual_of_search letter h = ap (λ t. elim t [ true ↦ 1 | false ↦ 0 ]) (sym (ne_eqb letter letter_a h))

-- the fields behind a profile: its day
module _ (line : List ℕ) (end usual : ℕ) where
  pub no_day : length line ≤ end → Some usual ≡ day_in usual (parts_behind space line end)
  unfolding day_in
  no_day h = ap (day_in usual) (sym (none_behind space line end h))

  module _ {last : ℕ} (within : end < length line) (p : PartEnd space line (end + 1) last) where
    pub more-than-a-day : last < length line → None ≡ day_in usual (parts_behind space line end)
    unfolding day_in
    more-than-a-day h = several _ (parts_behind space line last) (some_behind space line last h) ∙ ap (day_in usual) (sym (next_part space line end last within p))
      where
        several : (text : List ℕ) (qs : List (List ℕ)) → 0 < length qs → None ≡ day_in usual (text ∷ qs)
        several text [] k = absurd (omega arith)
        several text (q ∷ qs) k = refl

    pub day-here : length line ≤ last → {a : Option ℕ} → a ≡ word_in 5 (2 ^ 16) (take (last - (end + 1)) (drop (end + 1) line))
        → a ≡ day_in usual (parts_behind space line end)
    unfolding day_in
    day-here h e =
        e
        ∙ ap (λ qs. day_in usual (take (last - (end + 1)) (drop (end + 1) line) ∷ qs)) (sym (none_behind space line last h))
        ∙ ap (day_in usual) (sym (next_part space line end last within p))

-- a line's day by all of its fields: seven, or eight with a day
abbrev in_eighth : List (List ℕ) → Bool
in_eighth qs = eqb (length qs) 8 && is_day (get_or qs 7 [])

abbrev day_by_lem : ℕ → List (List ℕ) → Option ℕ
day_by_lem usual qs = then_some (eqb (length qs) 7 || in_eighth qs) (elim (in_eighth qs) [ true ↦ numeral 10 (get_or qs 7 []) | false ↦ usual ])

module _ (usual : ℕ) (x y a b c d e : List ℕ) where
  day_by : (qs : List (List ℕ)) → day_in usual qs ≡ day_by_lem usual (x ∷ y ∷ a ∷ b ∷ c ∷ d ∷ e ∷ qs)
  unfolding day_in word_in
  day_by [] = refl
  day_by (text ∷ []) = by (is_day text)
    where
      by : (t : Bool) → then_some t (numeral 10 text) ≡ then_some t (elim t [ true ↦ numeral 10 text | false ↦ usual ])
      by true = refl
      by false = refl
  day_by (text ∷ next ∷ qs) =
      let n : ℕ = suc (suc (suc (suc (suc (suc (suc (suc (suc (length qs))))))))) in
      ap₂ (λ s t. then_some (s || t && is_day text) (elim (t && is_day text) [ true ↦ numeral 10 text | false ↦ usual ]))
      (sym (ne_eqb n 7 (λ k. omega arith))) (sym (ne_eqb n 8 (λ k. omega arith)))

-- a line whose third field begins ps
module _ (line : List ℕ) {x y : List ℕ} {ps : List (List ℕ)} (parts : parted space line ≡ x ∷ y ∷ ps) where
  has_profile_lem : has_profile line ≡ (ended line && are_profile ps)
  unfolding has_profile are_profile four_measures part_at
  has_profile_lem =
      ap (λ qs. ((((ended line && is_measure point (get_or qs 2 [])) && is_measure point (get_or qs 3 [])) && is_measure point (get_or qs 4 [])) && is_measure point (get_or qs 5 [])) && is_code (get_or qs 6 [])) parts
      ∙ by (ended line)
    where
      by : (t : Bool)
          → (((((t && is_measure point (get_or ps 0 [])) && is_measure point (get_or ps 1 [])) && is_measure point (get_or ps 2 [])) && is_measure point (get_or ps 3 [])) && is_code (get_or ps 4 []))
          ≡ (t && ((((is_measure point (get_or ps 0 []) && is_measure point (get_or ps 1 [])) && is_measure point (get_or ps 2 [])) && is_measure point (get_or ps 3 [])) && is_code (get_or ps 4 [])))
      by true = refl
      by false = refl

  pub are_profile_lem : has_profile line ≡ true → are_profile ps ≡ true
  are_profile_lem e = and_second (ended line) (are_profile ps) (sym has_profile_lem ∙ e)

  -- behind a profile stands a day or nothing, or else the line is of another form
  day_behind : (usual : ℕ) → are_profile ps ≡ true → day_in usual (drop 5 ps) ≡ then_some (has_profile line) (day_or usual line)
  unfolding are_profile day_or has_day parts_in part_at
  day_behind usual e =
      go ps parts (and_second (four_measures point ps) (is_code (get_or ps 4 [])) e)
      ∙ ap (λ t. then_some t (day_or usual line)) (whole (ended line) ∙ ap (λ t. ended line && t) (sym e) ∙ sym has_profile_lem)
    where
      whole : (t : Bool) → t ≡ (t && true)
      whole true = refl
      whole false = refl

      go : (qs : List (List ℕ)) → parted space line ≡ x ∷ y ∷ qs → is_code (get_or qs 4 []) ≡ true → day_in usual (drop 5 qs) ≡ then_some (ended line) (day_or usual line)
      go [] f g = absurd (false≢true (sym no_code ∙ g))
      go (a ∷ []) f g = absurd (false≢true (sym no_code ∙ g))
      go (a ∷ b ∷ []) f g = absurd (false≢true (sym no_code ∙ g))
      go (a ∷ b ∷ c ∷ []) f g = absurd (false≢true (sym no_code ∙ g))
      go (a ∷ b ∷ c ∷ d ∷ []) f g = absurd (false≢true (sym no_code ∙ g))
      go (a ∷ b ∷ c ∷ d ∷ e ∷ qs) f g = day_by usual x y a b c d e qs ∙ ap (day_by_lem usual) (sym f)

  pub profile_in_lem : profile_of ps ≡ profile_in line
  unfolding profile_in profile_of measures_of part_at
  profile_in_lem =
      ap (λ qs. record {
        measures = measure_in point (get_or qs 2 []) ∷ measure_in point (get_or qs 3 []) ∷ measure_in point (get_or qs 4 []) ∷ measure_in point (get_or qs 5 []) ∷ [];
        code = code_in (get_or qs 6 []);
      }) (sym parts)

-- the first two fields, by where they end
module _ (line : List ℕ) {end : ℕ} (p : PartEnd space line 0 end) where
  pub several_fields : has_profile line ≡ true → end + 1 ≤ length line
  unfolding parts_in
  several_fields e = by (leb (end + 1) (length line)) refl
    where
      by : (t : Bool) → leb (end + 1) (length line) ≡ t → end + 1 ≤ length line
      by true f = leb-true (end + 1) (length line) f
      by false f =
          let short = leb-false (end + 1) (length line) f in
          absurd (omega (arith, profile-seven line e, ap length (first_part space line end p), ap length (none_behind space line end (omega arith))))

  pub two_fields : {last : ℕ} → end < length line → PartEnd space line (end + 1) last
      → parted space line ≡ take end line ∷ take (last - (end + 1)) (drop (end + 1) line) ∷ parts_behind space line last
  two_fields {last} h q = first_part space line end p ∙ ap (λ ps. take end line ∷ ps) (next_part space line end last h q)

-- what a letter asks for
module _ (letter : ℕ) (ps : List (List ℕ)) where
  for_by : {r p : Bool} → eqb letter letter_r ≡ r → are_profile ps ≡ p
      → elim r [ true ↦ then_some (eqb (length ps) 0) 0 | false ↦ elim p [ true ↦ day_in (usual_day letter) (drop 5 ps) | false ↦ None ] ] ≡ day_for letter ps
  unfolding day_for
  for_by e f = λ i. elim (sym e i) [ true ↦ then_some (eqb (length ps) 0) 0 | false ↦ elim (sym f i) [ true ↦ day_in (usual_day letter) (drop 5 ps) | false ↦ None ] ]

  module _ (no-removal : letter ≡ letter_r → ⊥) where
    pub no-profile-for : are_profile ps ≡ false → None ≡ day_for letter ps
    no-profile-for e = for_by (ne_eqb letter letter_r no-removal) e

    pub profile-for : are_profile ps ≡ true → day_in (usual_day letter) (drop 5 ps) ≡ day_for letter ps
    profile-for e = for_by (ne_eqb letter letter_r no-removal) e

module _ (letter : ℕ) (line : List ℕ) (end : ℕ) (removal : letter ≡ letter_r) where
  abbrev after : List (List ℕ)
  after = parts_behind space line end

  removal_by : {t : Bool} → eqb (length after) 0 ≡ t → then_some t 0 ≡ day_for letter after
  removal_by e = ap (λ t. then_some t 0) (sym e) ∙ for_by letter after (eq-eqb letter letter_r removal) refl

  pub removal_day : then_some (leb (length line) end) 0 ≡ day_for letter after
  removal_day = by (leb (length line) end) refl
    where
      by : (t : Bool) → leb (length line) end ≡ t → then_some t 0 ≡ day_for letter after
      by true e = removal_by (eq-eqb (length after) 0 (ap length (none_behind space line end (leb-true (length line) end e))))
      by false e = removal_by (ne_eqb (length after) 0 (λ f. omega (arith, f, some_behind space line end (leb-false (length line) end e))))

-- the command of a letter
other_letter : (letter other : ℕ) (t : Bool) → (letter ≡ other → ⊥) → (eqb letter other && t) ≡ false
other_letter letter other t h = ap (λ s. s && t) (ne_eqb letter other h)

this_letter : (letter other : ℕ) {s t : Bool} → letter ≡ other → t ≡ s → (eqb letter other && t) ≡ s
this_letter letter other h e = ap₂ ◌&&◌ (eq-eqb letter other h) e

module _ (letter : ℕ) (text : List ℕ) (day : ℕ) where
  of_by : {a w n r : Bool} {v : ℕ} → (eqb letter letter_a && is_tag text) ≡ a → (eqb letter letter_w && is_number text) ≡ w → (eqb letter letter_n && is_number text) ≡ n
      → (eqb letter letter_r && is_tag text) ≡ r → v ≡ numeral 10 text → command_by a w n r v day ≡ command_of letter text day
  unfolding command_of
  of_by e f g h k = λ i. command_by (sym e i) (sym f i) (sym g i) (sym h i) (k i) day

  module _ {t : Bool} {v : ℕ} (value : v ≡ numeral 10 text) where
    pub within-is : letter ≡ letter_w → is_number text ≡ t → command_by false t false false v day ≡ command_of letter text day
    within-is e f =
        of_by (other_letter letter letter_a _ (λ k. omega arith)) (this_letter letter letter_w e f) (other_letter letter letter_n _ (λ k. omega arith))
        (other_letter letter letter_r _ (λ k. omega arith)) value

    pub nearest-is : letter ≡ letter_n → is_number text ≡ t → command_by false false t false v day ≡ command_of letter text day
    nearest-is e f =
        of_by (other_letter letter letter_a _ (λ k. omega arith)) (other_letter letter letter_w _ (λ k. omega arith)) (this_letter letter letter_n e f)
        (other_letter letter letter_r _ (λ k. omega arith)) value

    pub add_is : letter ≡ letter_a → is_tag text ≡ t → command_by t false false false v day ≡ command_of letter text day
    add_is e f =
        of_by (this_letter letter letter_a e f) (other_letter letter letter_w _ (λ k. omega arith)) (other_letter letter letter_n _ (λ k. omega arith))
        (other_letter letter letter_r _ (λ k. omega arith)) value

    pub remove-is : letter ≡ letter_r → is_tag text ≡ t → command_by false false false t v day ≡ command_of letter text day
    remove-is e f =
        of_by (other_letter letter letter_a _ (λ k. omega arith)) (other_letter letter letter_w _ (λ k. omega arith)) (other_letter letter letter_n _ (λ k. omega arith))
        (this_letter letter letter_r e f) value

  module _ (no_within : letter ≡ letter_w → ⊥) (no-nearest : letter ≡ letter_n → ⊥) where
    pub no-tag-is : is_tag text ≡ false → None ≡ command_of letter text day
    no-tag-is e =
        of_by (ap (λ t. eqb letter letter_a && t) e ∙ and_false (eqb letter letter_a)) (other_letter letter letter_w _ no_within) (other_letter letter letter_n _ no-nearest)
        (ap (λ t. eqb letter letter_r && t) e ∙ and_false (eqb letter letter_r)) refl

    pub neither-is : (letter ≡ letter_a → ⊥) → (letter ≡ letter_r → ⊥) → None ≡ command_of letter text day
    neither-is h k =
        of_by (other_letter letter letter_a _ h) (other_letter letter letter_w _ no_within) (other_letter letter letter_n _ no-nearest) (other_letter letter letter_r _ k) refl

-- the letter of a first field of one byte
pub first_byte : (line : List ℕ) → 1 ≤ length line → get_or line 0 0 ≡ only_byte (take 1 line)
unfolding only_byte
first_byte [] h = absurd (omega arith)
first_byte (b ∷ bs) h = refl

-- a later line
module _ (line : List ℕ) where
  other_command : has_profile line ≡ false → opens letter_r is_tag line ≡ false → None ≡ command_in line
  other_command e r =
      ap (λ t. elim t as (λ _. Option Command) [ true ↦ Some (command.Remove (numeral 10 (part_at space line 1))) | false ↦ None ]) (sym (and_false (eqb (parts_in space line) 2)))
      ∙ command_by_lem line e refl refl refl refl r

  none_open : opens letter_a is_tag line ≡ false → opens letter_w is_number line ≡ false → opens letter_n is_number line ≡ false → opens letter_r is_tag line ≡ false
      → None ≡ command_in line
  none_open a w n r = by (has_profile line) refl
    where
      by : (t : Bool) → has_profile line ≡ t → None ≡ command_in line
      by true e = command_by_lem line e a w n refl refl
      by false e = other_command e r

  pub long_letter : {end : ℕ} → PartEnd space line 0 end → (end ≡ 1 → ⊥) → None ≡ command_in line
  unfolding opens part_at
  long_letter {end} p h = none_open (closed letter_a is_tag (omega arith)) (closed letter_w is_number (omega arith)) (closed letter_n is_number (omega arith)) (closed letter_r is_tag (omega arith))
    where
      letter : 0 ≡ only_byte (part_at space line 0)
      letter = only_other (take end line) (λ e. h (omega (arith, e, length-take end line, p.within))) ∙ ap (λ ps. only_byte (get_or ps 0 [])) (sym (first_part space line end p))

      closed : (b : ℕ) (form : List ℕ → Bool) → 0 < b → opens b form line ≡ false
      closed b form l = other_letter (only_byte (part_at space line 0)) b (form (part_at space line 1)) (λ e. omega (arith, letter, e))

  pub one_field : {end : ℕ} → PartEnd space line 0 end → length line ≤ end → None ≡ command_in line
  unfolding parts_in
  one_field {end} p h =
      let one : parts_in space line ≡ 1 = ap length (first_part space line end p ∙ ap (λ ps. take end line ∷ ps) (none_behind space line end h)) in
      command_by_lem line (fails (has_profile line) (λ e. omega (arith, one, profile-seven line e))) refl refl refl (ne_eqb (parts_in space line) 2 (λ e. omega (arith, one, e))) refl

  -- a letter, the second field, and the fields behind it
  module _ {x y : List ℕ} {ps : List (List ℕ)} (parts : parted space line ≡ x ∷ y ∷ ps) {b : ℕ} (letter : b ≡ only_byte x) where
    opens_as : (l : ℕ) (form : List ℕ → Bool) → opens l form line ≡ (eqb b l && form y)
    unfolding opens part_at
    opens_as l form = ap (λ qs. eqb (only_byte (get_or qs 0 [])) l && form (get_or qs 1 [])) parts ∙ ap (λ k. eqb k l && form y) (sym letter)

    second : numeral 10 y ≡ numeral 10 (part_at space line 1)
    unfolding part_at
    second = ap (λ qs. numeral 10 (get_or qs 1 [])) (sym parts)

    count : eqb (parts_in space line) 2 ≡ eqb (length ps) 0
    unfolding parts_in
    count = ap (λ qs. eqb (length qs) 2) parts ∙ two_more (length ps) 0

    not_opened : (l : ℕ) (form : List ℕ → Bool) → (b ≡ l → ⊥) → opens l form line ≡ false
    not_opened l form h = opens_as l form ∙ other_letter b l (form y) h

    -- what the code makes of the day that it finds
    abbrev told : Option ℕ → Option Command
    told None = None
    told (Some day) = command_of b y day

    -- a removal has a tag and nothing behind it
    removed : b ≡ letter_r → (t : Bool) → eqb (length ps) 0 ≡ t → told (then_some t 0) ≡ command_in line
    unfolding parts_in
    removed f true e =
        let two : parts_in space line ≡ 2 = ap length parts ∙ ap (λ n. suc (suc n)) (eqb-true (length ps) 0 e) in
        sym (remove-is b y 0 refl f refl)
        ∙ ap (λ v. command_by false false false (is_tag y) v 0) second
        ∙ command_by_lem line (fails (has_profile line) (λ k. omega (arith, two, profile-seven line k))) refl refl refl (count ∙ e) (opens_as letter_r is_tag ∙ this_letter b letter_r f refl)
    removed f false e = by (has_profile line) refl
      where
        by : (p : Bool) → has_profile line ≡ p → None ≡ command_in line
        by true k =
            command_by_lem line k (not_opened letter_a is_tag (λ l. omega arith)) (not_opened letter_w is_number (λ l. omega arith)) (not_opened letter_n is_number (λ l. omega arith)) refl
            refl
        by false k = command_by_lem line k refl refl refl (count ∙ e) refl

    module _ (no-removal : b ≡ letter_r → ⊥) where
      day-for : day_for b ps ≡ then_some (has_profile line) (day_or (usual_day b) line)
      day-for = by (are_profile ps) refl
        where
          by : (t : Bool) → are_profile ps ≡ t → day_for b ps ≡ then_some (has_profile line) (day_or (usual_day b) line)
          by true e = sym (profile-for b ps no-removal e) ∙ day_behind line parts (usual_day b) e
          by false e =
              sym (no-profile-for b ps no-removal e)
              ∙ ap (λ t. then_some t (day_or (usual_day b) line)) (sym (has_profile_lem line parts ∙ ap (λ t. ended line && t) e ∙ and_false (ended line)))

      -- an item's day, or the first day of a search
      dated : has_profile line ≡ true → command_of b y (day_or (usual_day b) line) ≡ command_in line
      unfolding usual_day
      dated e = by (eqb b letter_a) refl
        where
          by : (t : Bool) → eqb b letter_a ≡ t → command_of b y (day_or (elim t [ true ↦ 1 | false ↦ 0 ]) line) ≡ command_in line
          by true f =
              let add : b ≡ letter_a = eqb-true b letter_a f in
              sym (add_is b y (day_or 1 line) refl add refl)
              ∙ ap (λ v. command_by (is_tag y) false false false v (day_or 1 line)) second
              ∙ command_by_lem line e (opens_as letter_a is_tag ∙ this_letter b letter_a add refl) (not_opened letter_w is_number (λ l. omega arith))
              (not_opened letter_n is_number (λ l. omega arith)) refl refl
          by false f =
              sym (of_by b y (day_or 0 line) (other_letter b letter_a _ (eqb-false b letter_a f)) refl refl (other_letter b letter_r _ no-removal) refl)
              ∙ ap (λ v. command_by false (eqb b letter_w && is_number y) (eqb b letter_n && is_number y) false v (day_or 0 line)) second
              ∙ command_by_lem line e (not_opened letter_a is_tag (eqb-false b letter_a f)) (opens_as letter_w is_number) (opens_as letter_n is_number) refl refl

      serves : (t : Bool) → has_profile line ≡ t → told (then_some t (day_or (usual_day b) line)) ≡ command_in line
      serves true e = dated e
      serves false e = other_command e (not_opened letter_r is_tag no-removal)

    -- the grammar's choice, by the tests that the code makes
    pub whole_is : (a : Option ℕ) → a ≡ day_for b ps → told a ≡ command_in line
    whole_is a e = by (eqb b letter_r) refl
      where
        by : (t : Bool) → eqb b letter_r ≡ t → told a ≡ command_in line
        by true f = ap told (e ∙ sym (for_by b ps f refl)) ∙ removed (eqb-true b letter_r f) (eqb (length ps) 0) refl
        by false f = ap told (e ∙ day-for (eqb-false b letter_r f)) ∙ serves (eqb-false b letter_r f) (has_profile line) refl

-- a profile that is there is found
pub some_profile : (line : List ℕ) (ps : List (List ℕ)) (r : Option ProfileRead) → are_profile ps ≡ true → ProfileAt line ps r → IsSome r
some_profile line ps None e h = absurd (false≢true (sym h ∙ e))
some_profile line ps (Some r) e h = refl
