-- A line by its parts in turn: the tag, four measures, and nothing behind them. A list's first line ends at its first
-- line feed, and without one it is not of the form.
use Prim.Native.Nat.{ℕ, suc, ◌+◌, ◌-◌, ◌≤◌, ◌<◌}
use mathlib.Core.Path.{◌≡◌, refl, ap, ap₂, sym, ◌∙◌}
use mathlib.Core.Bool.{Bool, true, false, ◌&&◌}
use mathlib.Core.List.{List, [], ◌∷◌}
use native.Mathlib.Omega.{arith}
use native.Mathlib.Numerals.{add-one}
use lib.Dec.{eqb}
use lib.ListN.{length, get_or, take, drop, length-take, length-drop}
use borrow.Author.Tests.{eq-eqb, ne_eqb}
use Rattle.std.proofs.Common.{Some}
use Rattle.metric_rules.specs.declared.Profile.{Profile}
use Rattle.text_rules.specs.Text.{line_feed, parted, part_at, parts_in, numeral}
use Rattle.text_rules.specs.Fields.{is_tag, is_measure, measure_in}
use Rattle.text_rules.proofs.Parts.{parted_some}
use Rattle.text_read.specs.Parts.{PartEnd}
use Rattle.text_read.specs.Found.{four_measures, measures_of}
use Rattle.text_read.proofs.Finding.{more_behind, none_behind}
use Rattle.text_read.proofs.Forms.{one_more}
use Rattle.list_rules.specs.Lines.{ListLine, comma, semicolon, is_item_line, item_tag, item_profile, line_of, lines_from, lines_of}
use Rattle.list_rules.specs.Lines.ListLine.{an_item, malformed}
use Rattle.list_line.specs.Places.{Broken, LineAt}

-- the grammar's tests in the order of the code
in_order : (n t a b c d : Bool) → (((((n && t) && a) && b) && c) && d) ≡ (t && ((((a && b) && c) && d) && n))
in_order true true a b c d = sym (and-true (((a && b) && c) && d))
  where
    and-true : (t : Bool) → (t && true) ≡ t
    and-true true = refl
    and-true false = refl
in_order true false a b c d = refl
in_order false true a b c d = sym (and_false (((a && b) && c) && d))
  where
    and_false : (t : Bool) → (t && false) ≡ false
    and_false true = refl
    and_false false = refl
in_order false false a b c d = refl

-- a line whose first part is t and whose other parts are ps
module _ (line : List ℕ) {t : List ℕ} {ps : List (List ℕ)} (parts : parted semicolon line ≡ t ∷ ps) where
  is_by : {s u v : Bool} → is_tag t ≡ s → four_measures comma ps ≡ u → eqb (length ps) 4 ≡ v → is_item_line line ≡ (s && (u && v))
  unfolding is_item_line parts_in part_at four_measures
  is_by e f g =
      ap (λ qs. ((((eqb (length qs) 5 && is_tag (get_or qs 0 [])) && is_measure comma (get_or qs 1 [])) && is_measure comma (get_or qs 2 [])) && is_measure comma (get_or qs 3 [])) && is_measure comma (get_or qs 4 [])) parts
      ∙ ap (λ n. ((((n && is_tag t) && is_measure comma (get_or ps 0 [])) && is_measure comma (get_or ps 1 [])) && is_measure comma (get_or ps 2 [])) && is_measure comma (get_or ps 3 [])) (one_more (length ps) 4)
      ∙ in_order (eqb (length ps) 4) (is_tag t) (is_measure comma (get_or ps 0 [])) (is_measure comma (get_or ps 1 [])) (is_measure comma (get_or ps 2 [])) (is_measure comma (get_or ps 3 []))
      ∙ ap₂ ◌&&◌ e (ap₂ ◌&&◌ f g)

  pub tag_wrong : is_tag t ≡ false → is_item_line line ≡ false
  tag_wrong e = is_by e refl refl

  pub measures_wrong : is_tag t ≡ true → four_measures comma ps ≡ false → is_item_line line ≡ false
  measures_wrong e f = is_by e f refl

  module _ {n : ℕ} (tagged : is_tag t ≡ true) (four : four_measures comma ps ≡ true) (left : length ps ≡ n + 4) where
    pub too_many : 0 < n → is_item_line line ≡ false
    too_many h = is_by tagged four (ne_eqb (length ps) 4 (λ e. omega arith))

    pub just-four : n ≡ 0 → is_item_line line ≡ true
    just-four h = is_by tagged four (eq-eqb (length ps) 4 (omega arith))

  pub of_the_form : {tag : ℕ} {measures : _} → is_item_line line ≡ true → tag ≡ numeral 10 t → measures ≡ measures_of comma ps
      → an_item tag (record { measures = measures; code = 0 ∷ 0 ∷ [] }) ≡ line_of line
  unfolding line_of item_tag item_profile part_at measures_of
  of_the_form e f g =
      ap₂ (λ n ms. an_item n (record { measures = ms; code = 0 ∷ 0 ∷ [] })) f g
      ∙ ap
      (λ qs. an_item (numeral 10 (get_or qs 0 [])) (record { measures = measure_in comma (get_or qs 1 []) ∷ measure_in comma (get_or qs 2 []) ∷ measure_in comma (get_or qs 3 []) ∷ measure_in comma (get_or qs 4 []) ∷ []; code = 0 ∷ 0 ∷ [] }))
      (sym parts)
      ∙ ap (λ t. elim t [ true ↦ an_item (item_tag line) (item_profile line) | false ↦ malformed ]) (sym e)

pub not_of_the_form : (line : List ℕ) → is_item_line line ≡ false → malformed ≡ line_of line
unfolding line_of
not_of_the_form line e = ap (λ t. elim t [ true ↦ an_item (item_tag line) (item_profile line) | false ↦ malformed ]) (sym e)

-- what stands at a place
module _ (list : List ℕ) (at end : ℕ) (within : at < length list) (p : PartEnd line_feed list at end) where
  abbrev text : List ℕ
  text = take (end - at) (drop at list)

  -- no line feed
  pub feed-missing : length list ≤ end → Broken (drop at list)
  unfolding lines_of lines_from
  feed-missing h =
      by text (omega (arith, length-take (end - at) (drop at list), length-drop at list)) (p.part ∙ ap (λ ps. text ∷ ps) (none_behind line_feed list end h))
    where
      by : (xs : List ℕ) → 0 < length xs → parted line_feed (drop at list) ≡ xs ∷ [] → Broken (drop at list)
      by [] k f = absurd (omega arith)
      by (x ∷ xs) k f = record { others = []; same = ap lines_from f }

  first-line : end < length list → lines_of (drop at list) ≡ line_of text ∷ lines_of (drop (end + 1) list)
  unfolding lines_of lines_from
  first-line h =
      let some = parted_some line_feed (drop (suc end) list) in
      ap lines_from (p.part ∙ ap (λ ps. text ∷ ps) (more_behind line_feed list end h ∙ some.same))
      ∙ ap (λ ps. line_of text ∷ lines_from ps) (sym some.same)
      ∙ ap (λ k. line_of text ∷ lines_from (parted line_feed (drop k list))) (sym (add-one end))

  module _ (h : end < length list) where
    line_is : {l : ListLine} → l ≡ line_of text → lines_of (drop at list) ≡ l ∷ lines_of (drop (end + 1) list)
    line_is e = first-line h ∙ ap (λ l. l ∷ lines_of (drop (end + 1) list)) (sym e)

    pub malformed-here : malformed ≡ line_of text → Broken (drop at list)
    malformed-here e = record { others = lines_of (drop (end + 1) list); same = line_is e }

    pub item-here : (tag : ℕ) (profile : Profile) → an_item tag profile ≡ line_of text
        → LineAt list at (Some (record { tag = tag; profile = profile; next = end + 1 }))
    item-here tag profile e = (line_is e, record { later = omega (arith, p.after); within = omega arith })
