-- The part from a place on: it ends at the next separator, or at the end of the text. And the parts behind it.
use Prim.Native.Nat.{ℕ, zero, suc, ◌+◌, ◌-◌, ◌≤◌, ◌<◌}
use mathlib.Core.Path.{◌≡◌, ap, sym, subst, ◌∙◌}
use mathlib.Core.Bool.{true, false}
use mathlib.Core.List.{List, [], ◌∷◌, ◌++◌}
use native.Mathlib.Omega.{arith}
use native.Mathlib.Numerals.{add-one}
use lib.ListN.{length, get_or, take, drop, length-drop, take-append-drop}
use lib.Seq.{drop-cons, take_all, drop-drop}
use borrow.Author.Tests.{lt-ltb, le-ltb}
use Rattle.text_rules.specs.Text.{parted, parts_in}
use Rattle.text_rules.proofs.Parts.{Free, parted_some, parted_one, parted_first}
use Rattle.text_read.specs.Parts.{parts_behind, PartEnd}

-- what is left of a text from a place on
pub rest_whole : (n : ℕ) (xs : List ℕ) → take (length xs - n) (drop n xs) ≡ drop n xs
rest_whole n xs = take_all (length xs - n) (drop n xs) (omega (arith, length-drop n xs))

-- no separator stands before a place
pub free_before : (separator : ℕ) (xs : List ℕ) (n : ℕ) → ((k d : ℕ) → 0 ≤ k → k < n → get_or xs k d ≡ separator → ⊥) → Free separator (take n xs)
free_before separator xs zero h = tt
free_before separator [] (suc n) h = tt
free_before separator (x ∷ xs) (suc n) h = (h 0 0 (omega arith) (omega arith), free_before separator xs n (λ k d l m. h (suc k) d (omega arith) (omega arith)))

module _ (separator : ℕ) (text : List ℕ) where
  -- the parts behind one that ends at a place
  pub more_behind : (end : ℕ) → end < length text → parts_behind separator text end ≡ parted separator (drop (suc end) text)
  unfolding parts_behind
  more_behind end h = ap (λ t. elim t [ true ↦ parted separator (drop (suc end) text) | false ↦ [] ]) (lt-ltb end (length text) h)

  pub none_behind : (end : ℕ) → length text ≤ end → parts_behind separator text end ≡ []
  unfolding parts_behind
  none_behind end h = ap (λ t. elim t [ true ↦ parted separator (drop (suc end) text) | false ↦ [] ]) (le-ltb end (length text) h)

  pub some_behind : (end : ℕ) → end < length text → 0 < length (parts_behind separator text end)
  some_behind end h = omega (arith, ap length (more_behind end h), ap length (parted_some separator (drop (suc end) text)).same)

  -- a part ends at the first separator from its place on, or at the end of the text
  module _ (from : ℕ) where
    abbrev rest : List ℕ
    rest = drop from text

    pub ends_at_separator : (n : ℕ) → from ≤ length text → n < length rest → get_or rest n 0 ≡ separator → Free separator (take n rest)
        → PartEnd separator text from (from + n)
    ends_at_separator n h l e f =
        let at : from + n - from ≡ n = omega arith in
        let next : from + suc n ≡ suc (from + n) = omega arith in
        let whole : take n rest ++ separator ∷ drop (suc (from + n)) text ≡ rest =
        ap (λ xs. take n rest ++ separator ∷ xs) (ap (λ k. drop k text) (sym next) ∙ sym (drop-drop (suc n) from text))
        ∙ ap (λ b. take n rest ++ b ∷ drop (suc n) rest) (sym e)
        ∙ ap (λ xs. take n rest ++ xs) (sym (drop-cons rest n 0 l))
        ∙ take-append-drop n rest in
        record {
          after = omega arith;
          within = omega (arith, length-drop from text);
          part =
              ap (parted separator) (sym whole)
              ∙ parted_first separator (take n rest) (drop (suc (from + n)) text) f
              ∙ ap (λ ps. take n rest ∷ ps) (sym (more_behind (from + n) (omega (arith, length-drop from text))))
              ∙ ap (λ k. take k rest ∷ parts_behind separator text (from + n)) (sym at);
        }

    pub ends_at_end : from ≤ length text → Free separator (take (length rest) rest) → PartEnd separator text from (length text)
    ends_at_end h f =
        record {
          after = h;
          within = omega arith;
          part =
              parted_one separator rest (subst (Free separator) (take_all (length rest) rest (omega arith)) f)
              ∙ ap (λ xs. xs ∷ []) (sym (rest_whole from text))
              ∙ ap (λ ps. take (length text - from) rest ∷ ps) (sym (none_behind (length text) (omega arith)));
        }

  -- the first part of a text
  pub first_part : (end : ℕ) → PartEnd separator text 0 end → parted separator text ≡ take end text ∷ parts_behind separator text end
  first_part end p =
      let all : end - 0 ≡ end = omega arith in
      p.part ∙ ap (λ k. take k text ∷ parts_behind separator text end) all

  -- the next part, which ends at `last`
  pub next_part : (end last : ℕ) → end < length text → PartEnd separator text (end + 1) last
      → parts_behind separator text end ≡ take (last - (end + 1)) (drop (end + 1) text) ∷ parts_behind separator text last
  next_part end last h p = more_behind end h ∙ ap (λ k. parted separator (drop k text)) (sym (add-one end)) ∙ p.part

-- there are two parts where the second, the rest of the text, ends with the text
module _ (separator : ℕ) (text rest : List ℕ) (end last : ℕ) (same : rest ≡ drop (suc end) text) (some : end < length text)
    (p : PartEnd separator text 0 end) (q : PartEnd separator rest 0 last) where
  next_parted : parted separator text ≡ take end text ∷ take last rest ∷ parts_behind separator rest last
  next_parted =
      first_part separator text end p
      ∙ ap (λ ps. take end text ∷ ps) (more_behind separator text end some ∙ ap (parted separator) (sym same) ∙ first_part separator rest last q)

  pub three_at_least : last < length rest → parts_in separator text ≡ 2 → ⊥
  unfolding parts_in
  three_at_least h e = omega (arith, e, ap length next_parted, some_behind separator rest last h)

  pub are_two : length rest ≤ last → parted separator text ≡ take end text ∷ rest ∷ []
  are_two h =
      next_parted
      ∙ ap (λ ps. take end text ∷ take last rest ∷ ps) (none_behind separator rest last h)
      ∙ ap (λ xs. take end text ∷ xs ∷ []) (take_all last rest h)

pub only_one : (separator : ℕ) (text : List ℕ) (end : ℕ) → length text ≤ end → PartEnd separator text 0 end → parts_in separator text ≡ 2 → ⊥
unfolding parts_in
only_one separator text end h p e = omega (arith, e, ap length (first_part separator text end p), ap length (none_behind separator text end h))
