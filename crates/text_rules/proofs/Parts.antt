-- The parts between separators: a part that has no separator in it, followed by one, is the first part and the rest is parted on.
use Prim.Native.Nat.{ℕ, zero, suc, ◌/◌, ◌<◌}
use mathlib.Core.Path.{◌≡◌, refl, ap, ap₂, sym, ◌∙◌}
use mathlib.Core.List.{List, [], ◌∷◌, ◌++◌}
use native.Mathlib.Omega.{arith}
use mathlib.Core.Bool.{Bool, true, false}
use lib.Dec.{eqb}
use borrow.Author.Tests.{ne_eqb, eq-eqb, eqb-true}
use Rattle.lists.specs.Lists.{All}
use Rattle.lists.proofs.Lists.{all_append}
use Rattle.text_rules.specs.Text.{onto, parted, digits}

-- no separator among some bytes
abbrev pub Free : ℕ → List ℕ → Type 0
Free separator xs = All (λ b. b ≡ separator → ⊥) xs

module _ (separator : ℕ) where
  pub parted_separator : (b : ℕ) (bs : List ℕ) → eqb b separator ≡ true → parted separator (b ∷ bs) ≡ [] ∷ parted separator bs
  unfolding parted
  parted_separator b bs e = ap (λ t. elim t [ true ↦ [] ∷ parted separator bs | false ↦ onto b (parted separator bs) ]) e

  pub parted_byte : (b : ℕ) (bs : List ℕ) → eqb b separator ≡ false → parted separator (b ∷ bs) ≡ onto b (parted separator bs)
  unfolding parted
  parted_byte b bs e = ap (λ t. elim t [ true ↦ [] ∷ parted separator bs | false ↦ onto b (parted separator bs) ]) e

  pub parted_one : (xs : List ℕ) → Free separator xs → parted separator xs ≡ xs ∷ []
  unfolding parted onto
  parted_one [] h = refl
  parted_one (x ∷ xs) h = parted_byte x xs (ne_eqb x separator h.0) ∙ ap (onto x) (parted_one xs h.1)

  pub parted_first : (xs ys : List ℕ) → Free separator xs → parted separator (xs ++ separator ∷ ys) ≡ xs ∷ parted separator ys
  unfolding onto
  parted_first [] ys h = parted_separator separator ys (eq-eqb separator separator refl)
  parted_first (x ∷ xs) ys h =
      parted_byte x (xs ++ separator ∷ ys) (ne_eqb x separator h.0) ∙ ap (onto x) (parted_first xs ys h.1)

-- there is always a part
pub record SomeParts (ps : List (List ℕ)) : Type 0 where
  pub first : List ℕ
  pub rest : List (List ℕ)
  pub same : ps ≡ first ∷ rest

some_onto : (b : ℕ) (ps : List (List ℕ)) → SomeParts (onto b ps)
unfolding onto
some_onto b [] = record { first = b ∷ []; rest = []; same = refl }
some_onto b (p ∷ ps) = record { first = b ∷ p; rest = ps; same = refl }

pub parted_some : (separator : ℕ) (text : List ℕ) → SomeParts (parted separator text)
unfolding parted
parted_some separator [] = record { first = []; rest = []; same = refl }
parted_some separator (b ∷ bs) = by (eqb b separator)
  where
    by : (t : Bool) → SomeParts (elim t [ true ↦ [] ∷ parted separator bs | false ↦ onto b (parted separator bs) ])
    by true = record { first = []; rest = parted separator bs; same = refl }
    by false = some_onto b (parted separator bs)

-- the parts put together again, a separator between any two
unfoldable pub joined : ℕ → List (List ℕ) → List ℕ
joined separator [] = []
joined separator (p ∷ []) = p
joined separator (p ∷ q ∷ qs) = p ++ separator ∷ joined separator (q ∷ qs)

joined_onto : (separator b : ℕ) (ps : List (List ℕ)) → joined separator (onto b ps) ≡ b ∷ joined separator ps
unfolding joined onto
joined_onto separator b [] = refl
joined_onto separator b (p ∷ []) = refl
joined_onto separator b (p ∷ q ∷ qs) = refl

joined_none : (separator : ℕ) {ps : List (List ℕ)} → SomeParts ps → joined separator ([] ∷ ps) ≡ separator ∷ joined separator ps
unfolding joined
joined_none separator s = ap (λ ps. joined separator ([] ∷ ps)) s.same ∙ ap (λ ps. separator ∷ joined separator ps) (sym s.same)

pub parted_back : (separator : ℕ) (text : List ℕ) → joined separator (parted separator text) ≡ text
unfolding joined parted
parted_back separator [] = refl
parted_back separator (b ∷ bs) = by (eqb b separator) refl (parted_back separator bs)
  where
    by : (t : Bool) → eqb b separator ≡ t → joined separator (parted separator bs) ≡ bs → joined separator (parted separator (b ∷ bs)) ≡ b ∷ bs
    by true e h =
        ap (joined separator) (parted_separator separator b bs e)
        ∙ joined_none separator (parted_some separator bs)
        ∙ ap₂ ◌∷◌ (sym (eqb-true b separator e)) h
    by false e h = ap (joined separator) (parted_byte separator b bs e) ∙ joined_onto separator b (parted separator bs) ∙ ap (λ xs. b ∷ xs) h

-- printed digits are no separator
pub digits_free : (separator w n : ℕ) → separator < 48 → Free separator (digits w n)
unfolding digits
digits_free separator zero n h = tt
digits_free separator (suc w) n h = all_append (λ b. b ≡ separator → ⊥) (digits w (n / 10)) _ (digits_free separator w (n / 10) h) ((λ e. omega arith), tt)
