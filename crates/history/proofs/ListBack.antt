-- A line that reads as an item is the print of one: its parts put together again are the line, and each part that
-- passes its test is digits, or a sign and digits. So a list is printed lines up to its end or up to its first line
-- not of the form.
use Prim.Native.Nat.{ℕ, ◌-◌, ◌≤◌, ◌<◌}
use mathlib.Core.Path.{◌≡◌, refl, sym, ap, ap₂, subst, ◌∙◌}
use mathlib.Core.Logic.{◌⊎◌, inl, inr}
use mathlib.Core.Bool.{Bool, true, false, ◌&&◌, false≢true}
use mathlib.Core.List.{List, [], ◌∷◌, ◌++◌, map, append_assoc, append-nil}
use native.Mathlib.Omega.{arith}
use lib.Dec.{eqb, ltb}
use lib.ListN.{length, get_or, take, drop, take-append-drop}
use borrow.Author.Tests.{eqb-true, ltb-true, ltb-false}
use Rattle.lists.specs.Lists.{All, same_numbers}
use Rattle.lists.proofs.Tests.{and_first, and_second, every_all, alike-equal}
use Rattle.text_rules.specs.Text.{parted, is_digit, is_numeral}
use Rattle.text_rules.specs.Fields.{is_tag, is_negative, is_measure}
use Rattle.text_rules.proofs.Parts.{joined, parted_back}
use Rattle.text_rules.proofs.Digits.{high_value, digit_below, digit_from, letter_from}
use Rattle.text_rules.proofs.Digits.{numeral_digits, numeral_longest, numeral_shortest}
use Rattle.text_rules.proofs.Signs.{unsigned_minus, unsigned_plain}
use Rattle.list_rules.specs.Lines.{ListLine, line_of, lines_from, lines_of, list_header, has_header, item_lines}
use Rattle.list_rules.specs.Lines.ListLine.{malformed}
use Rattle.history.specs.ListForm.{header_text, digits_text, Value, IsValue, minus_text, value_text}
use Rattle.history.specs.ListForm.{Line, IsLine, line_text, item_in, lines_text, ReadsTo, ReadsPrinted}
use Rattle.history.specs.Demands.{ListForm}
use Rattle.history.proofs.ListPrinted.{Digit, text_length, size_test, by_parts, line_test, line_by, line_by_parts}
use Rattle.history.proofs.ListPrinted.{line_reads, lines_read}

-- a byte that is a decimal digit
digit_byte : (b : ℕ) → is_digit 10 b ≡ true → (48 ≤ b) × (b < 58)
digit_byte b e = (digit_from 10 b e, by (ltb b 58) refl)
  where
    by : (t : Bool) → ltb b 58 ≡ t → b < 58
    by true f = ltb-true b 58 f
    by false f =
        let high = ltb-false b 58 f in
        absurd (omega (arith, high, letter_from 10 b e high, high_value b high, digit_below 10 b e))

-- digits, from their bytes
pub record Numeral (text : List ℕ) : Type 0 where
  pub digits : List ℕ
  pub are : All Digit digits
  pub same : text ≡ digits_text digits

numeral_back : (text : List ℕ) → All (λ b. is_digit 10 b ≡ true) text → Numeral text
numeral_back [] h = record { digits = []; are = tt; same = refl }
numeral_back (b ∷ bs) h =
    let rest = numeral_back bs h.1 in
    let byte = digit_byte b h.0 in
    record {
      digits = (b - 48) ∷ rest.digits;
      are = (omega (arith, byte.0, byte.1), rest.are);
      same = ap₂ ◌∷◌ (omega (arith, byte.0)) rest.same;
    }

is_numeral_lem : (least most : ℕ) (text : List ℕ) → is_numeral 10 least most text ≡ true → Numeral text
is_numeral_lem least most text e = numeral_back text (every_all (is_digit 10) text (numeral_digits 10 least most text e))

numeral_length : (text : List ℕ) (n : Numeral text) → length n.digits ≡ length text
numeral_length text n = sym (text_length n.digits) ∙ ap length (sym n.same)

-- lists of two, and of five, from their lengths
two_of : {A : Type 0} (z : A) (xs : List A) → length xs ≡ 2 → xs ≡ get_or xs 0 z ∷ get_or xs 1 z ∷ []
two_of z [] e = absurd (omega arith)
two_of z (x ∷ []) e = absurd (omega arith)
two_of z (x ∷ y ∷ []) e = refl
two_of z (x ∷ y ∷ w ∷ xs) e = absurd (omega arith)

five_of : (ps : List (List ℕ)) → length ps ≡ 5
    → ps ≡ get_or ps 0 [] ∷ get_or ps 1 [] ∷ get_or ps 2 [] ∷ get_or ps 3 [] ∷ get_or ps 4 [] ∷ []
five_of [] e = absurd (omega arith)
five_of (a ∷ []) e = absurd (omega arith)
five_of (a ∷ b ∷ []) e = absurd (omega arith)
five_of (a ∷ b ∷ c ∷ []) e = absurd (omega arith)
five_of (a ∷ b ∷ c ∷ d ∷ []) e = absurd (omega arith)
five_of (a ∷ b ∷ c ∷ d ∷ f ∷ []) e = refl
five_of (a ∷ b ∷ c ∷ d ∷ f ∷ g ∷ ps) e = absurd (omega arith)

-- a value, from its bytes
pub record Written (text : List ℕ) : Type 0 where
  pub value : Value
  pub is : IsValue value
  pub same : text ≡ value_text value

-- what stands behind the sign
module _ (minus : Bool) (size : List ℕ) (e : size_test (parted 44 size) ≡ true) where
  abbrev whole_part : List ℕ
  whole_part = get_or (parted 44 size) 0 []

  abbrev last_part : List ℕ
  last_part = get_or (parted 44 size) 1 []

  size_written : (text : List ℕ) → text ≡ minus_text minus ++ size → Written text
  unfolding joined
  size_written text t =
      let twoParts = eqb (length (parted 44 size)) 2 in
      let whole = is_numeral 10 1 5 whole_part in
      let last = is_numeral 10 2 2 last_part in
      let e-whole : whole ≡ true = and_second twoParts whole (and_first (twoParts && whole) last e) in
      let e-last : last ≡ true = and_second (twoParts && whole) last e in
      let e-two : length (parted 44 size) ≡ 2 =
      eqb-true (length (parted 44 size)) 2 (and_first twoParts whole (and_first (twoParts && whole) last e)) in
      let front = is_numeral_lem 1 5 whole_part e-whole in
      let back = is_numeral_lem 2 2 last_part e-last in
      let Front-length = numeral_length whole_part front in
      let back-two : length back.digits ≡ 2 =
      omega (
        arith,
        numeral_length last_part back,
        numeral_longest 10 2 2 last_part e-last,
        numeral_shortest 10 2 2 last_part e-last,
      ) in
      let back-same : back.digits ≡ get_or back.digits 0 0 ∷ get_or back.digits 1 0 ∷ [] =
      two_of 0 back.digits back-two in
      let back-are : All Digit (get_or back.digits 0 0 ∷ get_or back.digits 1 0 ∷ []) =
      subst (All Digit) back-same back.are in
      record {
        value =
            record {
              minus = minus;
              whole = front.digits;
              tenths = get_or back.digits 0 0;
              hundredths = get_or back.digits 1 0;
            };
        is =
            record {
              digits = front.are;
              least = omega (arith, Front-length, numeral_shortest 10 1 5 whole_part e-whole);
              most = omega (arith, Front-length, numeral_longest 10 1 5 whole_part e-whole);
              tenths = back-are.0;
              hundredths = back-are.1.0;
            };
        same =
            t
            ∙ ap (λ (s : List ℕ). minus_text minus ++ s)
            (sym (parted_back 44 size)
            ∙ ap (joined 44) (two_of [] (parted 44 size) e-two)
            ∙ ap₂ (λ (a b : List ℕ). a ++ 44 ∷ b) front.same (back.same ∙ ap digits_text back-same));
      }

signed_text : (text : List ℕ) → eqb (get_or text 0 0) 45 ≡ true → text ≡ 45 ∷ drop 1 text
signed_text [] e = absurd (false≢true e)
signed_text (b ∷ bs) e = ap (λ (x : ℕ). x ∷ bs) (eqb-true b 45 e)

value_back : (text : List ℕ) → is_measure 44 text ≡ true → Written text
unfolding is_negative
value_back text e = by (is_negative text) refl
  where
    by : (b : Bool) → is_negative text ≡ b → Written text
    by true f =
        size_written true (drop 1 text)
        (ap (λ size. size_test (parted 44 size)) (unsigned_minus text f) ∙ sym (by_parts text) ∙ e)
        text (signed_text text f)
    by false f =
        size_written false text
        (ap (λ size. size_test (parted 44 size)) (unsigned_plain text f) ∙ sym (by_parts text) ∙ e)
        text refl

-- a line, from its bytes
pub record Printed (text : List ℕ) : Type 0 where
  pub line : Line
  pub is : IsLine line
  pub same : text ≡ line_text line
  pub reads : line_of text ≡ item_in line

module _ (text : List ℕ) where
  abbrev part : ℕ → List ℕ
  part n = get_or (parted 59 text) n []

  line_printed : line_test (parted 59 text) ≡ true → Printed text
  unfolding line_text joined
  line_printed e =
      let five = eqb (length (parted 59 text)) 5 in
      let tagged = is_tag (part 0) in
      let is : ℕ → Bool = λ n. is_measure 44 (part n) in
      let three = and_first (five && tagged && is 1 && is 2 && is 3) (is 4) e in
      let two = and_first (five && tagged && is 1 && is 2) (is 3) three in
      let one = and_first (five && tagged && is 1) (is 2) two in
      let none = and_first (five && tagged) (is 1) one in
      let e-tag : tagged ≡ true = and_second five tagged none in
      let tag = is_numeral_lem 15 15 (part 0) e-tag in
      let kg = value_back (part 1) (and_second (five && tagged) (is 1) one) in
      let hip = value_back (part 2) (and_second (five && tagged && is 1) (is 2) two) in
      let girth = value_back (part 3) (and_second (five && tagged && is 1 && is 2) (is 3) three) in
      let gain = value_back (part 4) (and_second (five && tagged && is 1 && is 2 && is 3) (is 4) e) in
      let l : Line =
      record { tag = tag.digits; kg = kg.value; hip = hip.value; girth = girth.value; gain = gain.value } in
      let h : IsLine l =
      record {
        digits = tag.are;
        fifteen =
            omega (
              arith,
              numeral_length (part 0) tag,
              numeral_longest 10 15 15 (part 0) e-tag,
              numeral_shortest 10 15 15 (part 0) e-tag,
            );
        kg = kg.is;
        hip = hip.is;
        girth = girth.is;
        gain = gain.is;
      } in
      let same : text ≡ line_text l =
      sym (parted_back 59 text)
      ∙ ap (joined 59) (five_of (parted 59 text) (eqb-true (length (parted 59 text)) 5 (and_first five tagged none)))
      ∙ (λ i. tag.same i ++ (59 ∷ kg.same i ++ (59 ∷ hip.same i ++ (59 ∷ girth.same i ++ (59 ∷ gain.same i))))) in
      record { line = l; is = h; same = same; reads = ap line_of same ∙ line_reads l h }

  pub line_back : Printed text ⊎ (line_of text ≡ malformed)
  line_back = by (line_test (parted 59 text)) refl
    where
      by : (b : Bool) → line_test (parted 59 text) ≡ b → Printed text ⊎ (line_of text ≡ malformed)
      by true e = inl (line_printed e)
      by false e = inr (line_by_parts text ∙ ap (line_by (parted 59 text)) e)

-- the same of a text without the header, and what is read of it
pub record ReadsLines (text : List ℕ) (read : List ListLine) : Type 0 where
  pub lines : List Line
  pub rest : List ℕ
  pub form : All IsLine lines
  pub same : text ≡ lines_text lines ++ rest
  pub reads : ReadsTo lines rest read

-- a printed line before others
one_more :
    (l : Line) (lines : List Line) (rest : List ℕ) (first : ListLine) (read : List ListLine) → first ≡ item_in l
    → ReadsTo lines rest read → ReadsTo (l ∷ lines) rest (first ∷ read)
one_more l lines rest first read e (inl h) = inl (h.0, ap₂ ◌∷◌ e h.1)
one_more l lines rest first read e (inr h) = inr (h.0, ap₂ ◌∷◌ e h.1)

line_before :
    (text others : List ℕ) (read : List ListLine) → Printed text → ReadsLines others read
    → ReadsLines (text ++ 10 ∷ others) (line_of text ∷ read)
unfolding lines_text
line_before text others read p later =
    record {
      lines = p.line ∷ later.lines;
      rest = later.rest;
      form = (p.is, later.form);
      same =
          ap₂ (λ (a b : List ℕ). a ++ 10 ∷ b) p.same later.same
          ∙ sym (append_assoc (line_text p.line) (10 ∷ lines_text later.lines) later.rest);
      reads = one_more p.line later.lines later.rest (line_of text) read p.reads later.reads;
    }

lines_back : (ps : List (List ℕ)) → ReadsLines (joined 10 ps) (lines_from ps)
unfolding joined lines_from lines_text
lines_back [] = record { lines = []; rest = []; form = tt; same = refl; reads = inl (refl, refl) }
lines_back ([] ∷ []) = record { lines = []; rest = []; form = tt; same = refl; reads = inl (refl, refl) }
lines_back ((b ∷ bs) ∷ []) = record { lines = []; rest = b ∷ bs; form = tt; same = refl; reads = inr ([], refl) }
lines_back (line ∷ next ∷ lines) = by (line_back line) (lines_back (next ∷ lines))
  where
    by : Printed line ⊎ (line_of line ≡ malformed) → ReadsLines (joined 10 (next ∷ lines)) (lines_from (next ∷ lines))
        → ReadsLines (line ++ 10 ∷ joined 10 (next ∷ lines)) (line_of line ∷ lines_from (next ∷ lines))
    by (inl p) later = line_before line (joined 10 (next ∷ lines)) (lines_from (next ∷ lines)) p later
    by (inr e) later =
        record {
          lines = [];
          rest = line ++ 10 ∷ joined 10 (next ∷ lines);
          form = tt;
          same = refl;
          reads = inr (lines_from (next ∷ lines), ap (λ (l : ListLine). l ∷ lines_from (next ∷ lines)) e);
        }

text_back : (text : List ℕ) → ReadsLines text (lines_of text)
unfolding lines_of
text_back text = subst (λ (t : List ℕ). ReadsLines t (lines_of text)) (parted_back 10 text) (lines_back (parted 10 text))

-- the header
header_front : (list : List ℕ) → has_header list ≡ true → list ≡ header_text ++ drop 22 list
unfolding has_header list_header same_numbers
header_front list e =
    sym (take-append-drop 22 list)
    ∙ ap (λ (front : List ℕ). front ++ drop 22 list) (alike-equal eqb eqb-true (take 22 list) header_text e)

header_passes_lem : (rest : List ℕ) → has_header (header_text ++ rest) ≡ true
unfolding has_header list_header same_numbers
header_passes_lem rest = refl

behind_header : (list : List ℕ) → item_lines list ≡ lines_of (drop 22 list)
unfolding item_lines list_header
behind_header list = refl

header_off : (rest : List ℕ) → item_lines (header_text ++ rest) ≡ lines_of rest
header_off rest = behind_header (header_text ++ rest)

list_back : (list : List ℕ) → has_header list ≡ true → ReadsPrinted list
list_back list e =
    let found = text_back (drop 22 list) in
    record {
      lines = found.lines;
      rest = found.rest;
      form = found.form;
      same = header_front list e ∙ ap (λ (text : List ℕ). header_text ++ text) found.same;
      reads = subst (ReadsTo found.lines found.rest) (sym (behind_header list)) found.reads;
    }

no_lines : lines_of [] ≡ []
unfolding lines_of lines_from parted
no_lines = refl

-- the lines alone, with nothing behind them
all_read : (lines : List Line) → All IsLine lines → item_lines (header_text ++ lines_text lines) ≡ map item_in lines
all_read lines are =
    header_off (lines_text lines)
    ∙ ap lines_of (sym (append-nil (lines_text lines)))
    ∙ lines_read lines are []
    ∙ ap (λ (read : List ListLine). map item_in lines ++ read) no_lines
    ∙ append-nil (map item_in lines)

pub list_form : ListForm
list_form = (
  (λ list e. (drop 22 list, header_front list e)),
  header_passes_lem,
  all_read,
  (λ lines are rest.
      header_off (lines_text lines ++ rest)
      ∙ lines_read lines are rest
      ∙ ap (λ (read : List ListLine). map item_in lines ++ read) (sym (header_off rest))),
  list_back,
)
