-- A reply's fields are its letter and its printed numbers, which read back: printed digits hold no space, so each field is a part of the reply.
use Prim.Native.Nat.{ℕ, ◌<◌}
use mathlib.Core.Path.{◌≡◌, refl, ap, ap₂, ◌∙◌}
use mathlib.Core.List.{List, [], ◌∷◌, ◌++◌, map, append-nil}
use native.Mathlib.Omega.{arith}
use lib.ListN.{drop}
use Rattle.text_rules.specs.Text.{space, parted, numeral, decimal, width}
use Rattle.text_rules.proofs.Numerals.{decimal_back}
use Rattle.text_rules.proofs.Parts.{Free, parted_one, parted_first, digits_free}
use Rattle.yard_rules.specs.Reply.{spaced}

pub decimal_free : (separator n : ℕ) → separator < 48 → Free separator (decimal n)
unfolding decimal
decimal_free separator n h = digits_free separator (width n) n h

-- the fields after a field are the numbers printed after it
fields_after : (xs : List ℕ) (ns : List ℕ) → Free space xs → parted space (xs ++ spaced ns) ≡ xs ∷ map decimal ns
unfolding spaced
fields_after xs [] h = ap (parted space) (append-nil xs) ∙ parted_one space xs h
fields_after xs (n ∷ ns) h = parted_first space xs (decimal n ++ spaced ns) h ∙ ap (λ ps. xs ∷ ps) (fields_after (decimal n) ns (decimal_free space n (omega arith)))

numbers_back : (ns : List ℕ) → map (numeral 10) (map decimal ns) ≡ ns
numbers_back [] = refl
numbers_back (n ∷ ns) = ap₂ ◌∷◌ (decimal_back n) (numbers_back ns)

-- a printed reply reads back as its numbers
pub reply_back : (letter : ℕ) (ns : List ℕ) → (letter ≡ space → ⊥) → map (numeral 10) (drop 1 (parted space (letter ∷ spaced ns))) ≡ ns
reply_back letter ns h = ap (λ ps. map (numeral 10) (drop 1 ps)) (fields_after (letter ∷ []) ns (h, tt)) ∙ numbers_back ns
