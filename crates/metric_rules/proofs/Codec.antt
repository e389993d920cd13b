-- The row codec: the row of a row's fields is that row, the fields of a row of given fields are those fields, and tags are in the order of their words.
-- Word by word: two words make a number and come apart again by division, and a measure's bits are read back (`to_z`, `of_z`).
use Prim.Native.Nat.{ℕ, ◌/◌, ◌%◌, ◌^◌, ◌≤◌, ◌<◌}
use native.Mathlib.Omega.{arith}
use mathlib.Core.Path.{◌≡◌, refl, ap₂, ◌∙◌}
use mathlib.Core.Bool.{Bool, true, false}
use mathlib.Core.List.{map}
use lib.IntN.{pos}
use lib.ListN.{length, set, length-set}
use lib.Seq.{get_or-set_same, get_or-set_other}
use mir.Syntax.{w32}
use mir.Val.{to_z, of_z}
use lib.Dec.{ltb, lit<, lit≤}
use borrow.Author.Tests.{ltb-true, ltb-false, lt-ltb, le-ltb}
use mir.Facts.{to_z-of_z, of_z-to_z, Fits-of_z, Fits-of_lt}
use Rattle.lists.specs.Lists.{count_from}
use Rattle.metric_rules.specs.declared.Profile.{Profile}
use Rattle.metric_rules.specs.Row.{Row, IsRow, IsProfile, row_width, threshold_at, mark_at, day_at, word, wide, measure, code_word}
use Rattle.metric_rules.specs.Row.{tag_of, profile_of, threshold_of, mark_of, day_of, row_of, with_threshold, with_mark}
use Rattle.metric_rules.proofs.Elements.{elements, each_at, at_set}

-- the words of a number of two words, and the number of a number's words
pub low_word : (a b : ℕ) → a < 2 ^ 32 → wide a b % 2 ^ 32 ≡ a
unfolding wide
low_word a b h = omega arith

pub high_word : (a b : ℕ) → a < 2 ^ 32 → wide a b / 2 ^ 32 ≡ b
unfolding wide
high_word a b h = omega arith

pub wide_words : (n : ℕ) → wide (n % 2 ^ 32) (n / 2 ^ 32) ≡ n
unfolding wide
wide_words n = omega arith

-- two tags are told apart and put in order by their words, the high word first
module _ (x y : Row) where
  pub tags_by_high : IsRow x → IsRow y → (word x 1 ≡ word y 1 → ⊥) → (tag_of x ≡ tag_of y → ⊥) × (ltb (tag_of x) (tag_of y) ≡ ltb (word x 1) (word y 1))
  unfolding tag_of wide
  tags_by_high is_x is_y n = (λ e. n (omega (arith, is_x.fits 0, is_y.fits 0)), go (ltb (word x 1) (word y 1)) refl)
    where
      go : (b : Bool) → ltb (word x 1) (word y 1) ≡ b → ltb (tag_of x) (tag_of y) ≡ b
      go true e = lt-ltb (tag_of x) (tag_of y) (omega (arith, is_x.fits 0, is_y.fits 0, ltb-true (word x 1) (word y 1) e))
      go false e = back (ltb (word y 1) (word x 1)) refl
        where
          back : (b : Bool) → ltb (word y 1) (word x 1) ≡ b → ltb (tag_of x) (tag_of y) ≡ false
          back true f = le-ltb (tag_of x) (tag_of y) (omega (arith, is_x.fits 0, is_y.fits 0, ltb-true (word y 1) (word x 1) f))
          back false f = absurd (n (omega (arith, ltb-false (word x 1) (word y 1) e, ltb-false (word y 1) (word x 1) f)))

  pub tags_by_low : word x 1 ≡ word y 1 → (tag_of x ≡ tag_of y → word x 0 ≡ word y 0) × (ltb (tag_of x) (tag_of y) ≡ ltb (word x 0) (word y 0))
  unfolding tag_of wide
  tags_by_low h = (λ e. omega arith, go (ltb (word x 0) (word y 0)) refl)
    where
      go : (b : Bool) → ltb (word x 0) (word y 0) ≡ b → ltb (tag_of x) (tag_of y) ≡ b
      go true e = lt-ltb (tag_of x) (tag_of y) (omega (arith, ltb-true (word x 0) (word y 0) e))
      go false e = le-ltb (tag_of x) (tag_of y) (omega (arith, ltb-false (word x 0) (word y 0) e))

  pub tags_alike : word x 1 ≡ word y 1 → word x 0 ≡ word y 0 → tag_of x ≡ tag_of y
  unfolding tag_of
  tags_alike h l = ap₂ wide l h

module _ (row : Row) (is : IsRow row) where
  -- a row is the list of its words
  by_words : map (word row) (count_from 0 row_width) ≡ row
  unfolding word row_width
  by_words = elements 0 row_width row is.width

  low : (i b : ℕ) → wide (word row i) b % 2 ^ 32 ≡ word row i
  low i b = low_word (word row i) b (is.fits i)

  high : (i b : ℕ) → wide (word row i) b / 2 ^ 32 ≡ b
  high i b = high_word (word row i) b (is.fits i)

  bits : (i : ℕ) → of_z w32 (to_z w32 (word row i)) ≡ word row i
  bits i = of_z-to_z {w = w32} (Fits-of_lt (is.fits i))

  -- the row of a row's fields
  pub row_of_fields : row_of (tag_of row) (profile_of row) (threshold_of row) (mark_of row) (day_of row) ≡ row
  unfolding row_width row_of tag_of profile_of threshold_of mark_of day_of count_from
  row_of_fields =
      cc (
        low 0 (word row 1),
        high 0 (word row 1),
        bits 2,
        bits 3,
        bits 4,
        bits 5,
        low 6 (word row 7),
        high 6 (word row 7),
        low 8 (word row 9),
        high 8 (word row 9),
        by_words,
      )

-- the fields of a row of given fields
module _ (tag : ℕ) (p : Profile) (threshold mark day : ℕ) where
  pub tag_of_row : tag_of (row_of tag p threshold mark day) ≡ tag
  unfolding row_of tag_of
  tag_of_row = wide_words tag

  pub threshold_of_row : threshold_of (row_of tag p threshold mark day) ≡ threshold
  unfolding row_of threshold_of
  threshold_of_row = refl

  pub mark_of_row : mark_of (row_of tag p threshold mark day) ≡ mark
  unfolding row_of mark_of
  mark_of_row = refl

  pub day_of_row : day_of (row_of tag p threshold mark day) ≡ day
  unfolding row_of day_of
  day_of_row = refl

  module _ (is : IsProfile p) where
    back : (i : ℕ) → to_z w32 (of_z w32 (measure p i)) ≡ measure p i
    back i = to_z-of_z (is.signed i)

    written : (i : ℕ) → of_z w32 (measure p i) < 2 ^ 32
    written i = (Fits-of_z {w = w32} (is.signed i)).fits

    same-measures : (profile_of (row_of tag p threshold mark day)).measures ≡ p.measures
    unfolding row_of profile_of count_from measure
    same-measures = cc (back 0, back 1, back 2, back 3, elements (pos 0) 4 p.measures is.four)

    same_code : (profile_of (row_of tag p threshold mark day)).code ≡ p.code
    unfolding row_of profile_of count_from code_word
    same_code = cc (wide_words (code_word p 0), wide_words (code_word p 1), elements 0 2 p.code is.two)

    pub profile-of-row : profile_of (row_of tag p threshold mark day) ≡ p
    profile-of-row = λ i. record { measures = same-measures i; code = same_code i }

    pub row_fits : tag < 2 ^ 64 → threshold < 2 ^ 32 → mark < 2 ^ 32 → day < 2 ^ 32 → IsRow (row_of tag p threshold mark day)
    unfolding row_of word row_width
    row_fits ht hm hk hd =
        record {
          width = refl;
          fits = each_at (λ n. n < 2 ^ 32) 0 (lit< tt) (row_of tag p threshold mark day)
              (omega (arith, written 0, written 1, written 2, written 3, is.wide 0, is.wide 1));
        }

-- A row with another threshold or mark. A word past the tag's and the profile's is written, which keeps both of them, and the last three words are apart.
module _ (row : Row) (n : ℕ) where
  module _ (at : ℕ) (past : threshold_at ≤ at) where
    early : (i : ℕ) → i < threshold_at → word (set row at n) i ≡ word row i
    unfolding word
    early i h = get_or-set_other row at i n 0 (omega arith)

    pub tag-past : tag_of (set row at n) ≡ tag_of row
    unfolding tag_of threshold_at
    tag-past = cc (early 0 (lit< tt), early 1 (lit< tt))

    pub profile-past : profile_of (set row at n) ≡ profile_of row
    unfolding profile_of threshold_at
    profile-past =
        cc (
          early 2 (lit< tt),
          early 3 (lit< tt),
          early 4 (lit< tt),
          early 5 (lit< tt),
          early 6 (lit< tt),
          early 7 (lit< tt),
          early 8 (lit< tt),
          early 9 (lit< tt),
        )

  pub set_fits : IsRow row → n < 2 ^ 32 → (at : ℕ) → IsRow (set row at n)
  unfolding word
  set_fits is h at = record { width = length-set row at n ∙ is.width; fits = at_set (λ k. k < 2 ^ 32) 0 h row at is.fits }

  -- with another threshold
  pub threshold_with_threshold : length row ≡ row_width → threshold_of (with_threshold n row) ≡ n
  unfolding threshold_of with_threshold row_width
  threshold_with_threshold e = get_or-set_same row threshold_at n 0 (omega arith)

  pub tag_with_threshold : tag_of (with_threshold n row) ≡ tag_of row
  unfolding with_threshold
  tag_with_threshold = tag-past threshold_at (lit≤ tt)

  pub profile_with_threshold : profile_of (with_threshold n row) ≡ profile_of row
  unfolding with_threshold
  profile_with_threshold = profile-past threshold_at (lit≤ tt)

  pub mark_with_threshold : mark_of (with_threshold n row) ≡ mark_of row
  unfolding mark_of with_threshold
  mark_with_threshold = get_or-set_other row threshold_at mark_at n 0 (omega arith)

  pub day_with_threshold : day_of (with_threshold n row) ≡ day_of row
  unfolding day_of with_threshold
  day_with_threshold = get_or-set_other row threshold_at day_at n 0 (omega arith)

  pub with_threshold_fits : IsRow row → n < 2 ^ 32 → IsRow (with_threshold n row)
  unfolding with_threshold
  with_threshold_fits is h = set_fits is h threshold_at

  -- with another mark
  pub mark_with_mark : length row ≡ row_width → mark_of (with_mark n row) ≡ n
  unfolding mark_of with_mark row_width
  mark_with_mark e = get_or-set_same row mark_at n 0 (omega arith)

  pub tag_with_mark : tag_of (with_mark n row) ≡ tag_of row
  unfolding with_mark threshold_at
  tag_with_mark = tag-past mark_at (lit≤ tt)

  pub profile_with_mark : profile_of (with_mark n row) ≡ profile_of row
  unfolding with_mark threshold_at
  profile_with_mark = profile-past mark_at (lit≤ tt)

  pub threshold_with_mark : threshold_of (with_mark n row) ≡ threshold_of row
  unfolding threshold_of with_mark
  threshold_with_mark = get_or-set_other row mark_at threshold_at n 0 (omega arith)

  pub day_with_mark : day_of (with_mark n row) ≡ day_of row
  unfolding day_of with_mark
  day_with_mark = get_or-set_other row mark_at day_at n 0 (omega arith)

  pub with_mark_fits : IsRow row → n < 2 ^ 32 → IsRow (with_mark n row)
  unfolding with_mark
  with_mark_fits is h = set_fits is h mark_at
