-- Every item that a line of a herd list gives is a value of the add's machine types, whatever the bytes: a numeral of w digits is below 10^w, so a tag is
-- below 10^15 and a measure's hundredths are below 10^7.
use Prim.Native.Nat.{ℕ, ◌^◌, ◌<◌}
use mathlib.Core.Path.{◌≡◌, refl}
use mathlib.Core.Bool.{Bool, true, false, ◌&&◌}
use mathlib.Core.List.{List, [], ◌∷◌}
use native.Mathlib.Omega.{arith}
use lib.Dec.{eqb}
use lib.IntN.{pos}
use mir.Syntax.{w32}
use mir.Val.{SFits}
use mir.Facts.{sfits_lit}
use Rattle.lists.specs.Lists.{All}
use Rattle.lists.proofs.Tests.{and_first, and_second}
use Rattle.metric_rules.specs.Row.{IsProfile, measure, code_word}
use Rattle.metric_rules.proofs.Elements.{each_at}
use Rattle.text_rules.specs.Text.{parts_in}
use Rattle.text_rules.specs.Fields.{is_tag, is_measure, measure_in}
use Rattle.text_rules.proofs.Digits.{numeral_below}
use Rattle.text_rules.proofs.Signs.{measure_fits}
use Rattle.list_rules.specs.Lines.{ListLine, comma, semicolon, field, is_item_line, item_tag, item_profile, line_of, lines_from, lines_of, item_lines}
use Rattle.list_rules.specs.Lines.ListLine.{an_item, malformed}

-- a line's item as an add may be asked it
abbrev pub LineFits : ListLine → Type 0
LineFits (an_item tag p) = (tag < 2 ^ 64) × IsProfile p
LineFits malformed = Unit {0}

item_fits : (line : List ℕ) → is_item_line line ≡ true → (item_tag line < 2 ^ 64) × IsProfile (item_profile line)
unfolding is_item_line item_tag item_profile measure code_word
item_fits line e =
    let five = eqb (parts_in semicolon line) 5 in
    let tag = is_tag (field line 0) in
    let is : ℕ → Bool = λ n. is_measure comma (field line n) in
    let three = and_first (five && tag && is 1 && is 2 && is 3) (is 4) e in
    let two = and_first (five && tag && is 1 && is 2) (is 3) three in
    let one = and_first (five && tag && is 1) (is 2) two in
    let none = and_first (five && tag) (is 1) one in
    let fits : (n : ℕ) → is n ≡ true → SFits w32 (measure_in comma (field line n)) = λ n h. measure_fits comma (field line n) h in (
      omega (arith, numeral_below 15 15 (field line 0) (and_second five tag none)),
      record {
        four = refl;
        two = refl;
        signed =
            each_at (SFits w32) (pos 0) (sfits_lit tt) (item_profile line).measures (
              fits 1 (and_second (five && tag) (is 1) one),
              (
                fits 2 (and_second (five && tag && is 1) (is 2) two),
                (fits 3 (and_second (five && tag && is 1 && is 2) (is 3) three), (fits 4 (and_second (five && tag && is 1 && is 2 && is 3) (is 4) e), tt)),
              ),
            );
        wide = each_at (λ (n : ℕ). n < 2 ^ 64) 0 (omega arith) (item_profile line).code (omega arith, (omega arith, tt));
      },
    )

line_fits : (line : List ℕ) → LineFits (line_of line)
unfolding line_of
line_fits line = go (is_item_line line) refl
  where
    go : (b : Bool) → is_item_line line ≡ b → LineFits (elim b as (λ _. ListLine) [ true ↦ an_item (item_tag line) (item_profile line) | false ↦ malformed ])
    go true e = item_fits line e
    go false e = tt

lines_from_fit : (lines : List (List ℕ)) → All LineFits (lines_from lines)
unfolding lines_from
lines_from_fit [] = tt
lines_from_fit ([] ∷ []) = tt
lines_from_fit ((b ∷ bs) ∷ []) = (tt, tt)
lines_from_fit (line ∷ next ∷ lines) = (line_fits line, lines_from_fit (next ∷ lines))

pub lines_fit : (list : List ℕ) → All LineFits (item_lines list)
unfolding item_lines lines_of
lines_fit list = lines_from_fit _
