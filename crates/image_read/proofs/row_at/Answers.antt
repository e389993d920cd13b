-- `image_read::row_at` meets its contract: each word is its field, two after two.
use Rattle.std.proofs.Common.{ℕ, ◌+◌, ◌≤◌, List, ◌∷◌, ◌++◌, length, refl, sym, ap₂, ◌∙◌, arith}
use Rattle.lists.specs.Lists.{total}
use Rattle.image_rules.specs.Bytes.{tag_fields, record_fields, tag_bytes, record_bytes}
use Rattle.image_rules.specs.Read.{day_as}
use Rattle.image_read.proofs.Numbers.{tag_fields_lem, record_fields_lem}
use Rattle.image_read.proofs.row_at.Goals as goal

-- the words of a tag and of a record are there
tag_words_there : (l : List ℕ) (t : ℕ) → t + tag_bytes ≤ length l → t + 8 ≤ length l
unfolding tag_bytes tag_fields total
tag_words_there l t h = omega arith

words_there : (l : List ℕ) (form r : ℕ) → r + record_bytes form ≤ length l → r + 40 ≤ length l
unfolding record_bytes record_fields total
words_there l form r h = omega arith

pub two_from-tag_low-requires : goal.two_from-tag_low-requires
two_from-tag_low-requires c = (refl, refl, omega (arith, tag_words_there _ c.args.t c.requires.0))

pub two_from-first-requires : goal.two_from-first-requires
two_from-first-requires c = (refl, refl, omega (arith, words_there _ _ c.args.r c.requires.1))

pub two_from-third-requires : goal.two_from-third-requires
two_from-third-requires c = (refl, refl, omega (arith, words_there _ _ c.args.r c.requires.1))

pub two_from-code_0_low-requires : goal.two_from-code_0_low-requires
two_from-code_0_low-requires c = (refl, refl, omega (arith, words_there _ _ c.args.r c.requires.1))

pub two_from-code_1_low-requires : goal.two_from-code_1_low-requires
two_from-code_1_low-requires c = (refl, refl, omega (arith, words_there _ _ c.args.r c.requires.1))

pub two_from-threshold-requires : goal.two_from-threshold-requires
two_from-threshold-requires c = (refl, refl, omega (arith, words_there _ _ c.args.r c.requires.1))

pub returns : goal.returns
returns c =
    let a = c.args in
    (λ i.
    c.two_from-tag_low.ensures.0 i
    ∷ c.two_from-tag_low.ensures.1 i
    ∷ c.two_from-first.ensures.0 i
    ∷ c.two_from-first.ensures.1 i
    ∷ c.two_from-third.ensures.0 i
    ∷ c.two_from-third.ensures.1 i
    ∷ c.two_from-code_0_low.ensures.0 i
    ∷ c.two_from-code_0_low.ensures.1 i
    ∷ c.two_from-code_1_low.ensures.0 i
    ∷ c.two_from-code_1_low.ensures.1 i
    ∷ c.two_from-threshold.ensures.0 i
    ∷ c.two_from-threshold.ensures.1 i
    ∷ c.day_at-day.ensures i)
    ∙ sym (ap₂ (λ (x y : List ℕ). x ++ y ++ day_as a.form.number) (tag_fields_lem a.image.now a.t) (record_fields_lem a.image.now a.form.number a.r))
