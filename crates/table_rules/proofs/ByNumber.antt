-- Lists given by a number each, put end to end over the numbers from a on: what holds of each number, and two such families that differ at one number
-- only. Each by the count of numbers.
use Prim.Native.Nat.{ℕ, zero, suc, ◌+◌, ◌≤◌, ◌<◌}
use mathlib.Core.Path.{◌≡◌, refl, sym, ◌∙◌, ap, ap₂, subst}
use mathlib.Core.List.Permᴰ
use mathlib.Core.List.{List, [], ◌∷◌, ◌++◌, map, flatten, append_assoc, Permᴰ}
use native.Mathlib.Omega.{arith}
use native.Mathlib.Decide.{ℕ_discrete}
use lib.ListN.{length, length-append}
use Rattle.lists.specs.Lists.{count_from, total, All}
use Rattle.lists.proofs.Lists.{Pairs, perm_of_eq}

module _ (P : ℕ → Type 0) where
  pub all_count : (a n : ℕ) → ((j : ℕ) → a ≤ j → j < a + n → P j) → All P (count_from a n)
  unfolding count_from
  all_count a zero h = tt
  all_count a (suc n) h = (h a (omega arith) (omega arith), all_count (suc a) n (λ j l m. h j (omega arith) (omega arith)))

  pub count_all : (a n : ℕ) → All P (count_from a n) → (j : ℕ) → a ≤ j → j < a + n → P j
  unfolding count_from
  count_all a zero h j low high = absurd (omega arith)
  count_all a (suc n) h j low high =
      elim (ℕ_discrete j a) [ yes e ↦ subst P (sym e) h.0 | no ne ↦ count_all (suc a) n h.1 j (omega arith) (omega arith) ]

-- no number twice
pub count_apart : (a n : ℕ) → Pairs (λ i j. i ≡ j → ⊥) (count_from a n)
unfolding count_from
count_apart a zero = tt
count_apart a (suc n) = (all_count (λ j. a ≡ j → ⊥) (suc a) n (λ j l m e. absurd (omega arith)), count_apart (suc a) n)

pub map_count : {A : Type 0} (f g : ℕ → A) (a n : ℕ) → ((j : ℕ) → a ≤ j → j < a + n → f j ≡ g j) → map f (count_from a n) ≡ map g (count_from a n)
unfolding count_from
map_count f g a zero h = refl
map_count f g a (suc n) h =
    ap₂ ◌∷◌ (h a (omega arith) (omega arith)) (map_count f g (suc a) n (λ j l m. h j (omega arith) (omega arith)))

module _ {A : Type 0} where
  pub length_flatten : (f : ℕ → List A) (ks : List ℕ) → length (flatten (map f ks)) ≡ total (map (λ k. length (f k)) ks)
  unfolding flatten total
  length_flatten f [] = refl
  length_flatten f (k ∷ ks) = length-append (f k) (flatten (map f ks)) ∙ ap (λ (n : ℕ). length (f k) + n) (length_flatten f ks)

  -- two families over the same numbers that differ at number k only: what stands before and after it is the same in both
  pub record Around (f g : ℕ → List A) (ks : List ℕ) (k : ℕ) : Type 0 where
    pub front : List A
    pub back : List A
    pub first : flatten (map f ks) ≡ front ++ (f k ++ back)
    pub second : flatten (map g ks) ≡ front ++ (g k ++ back)

  module _ (f g : ℕ → List A) (k : ℕ) where
    pub around : (a n : ℕ) → a ≤ k → k < a + n → ((j : ℕ) → a ≤ j → j < a + n → (j ≡ k → ⊥) → g j ≡ f j) → Around f g (count_from a n) k
    unfolding flatten count_from
    around a zero low high same = absurd (omega arith)
    around a (suc n) low high same =
        elim (ℕ_discrete a k) [
          | yes e ↦
              record {
                front = [];
                back = flatten (map f (count_from (suc a) n));
                first = ap (λ (j : ℕ). f j ++ flatten (map f (count_from (suc a) n))) e;
                second =
                    ap₂ (λ (j : ℕ) (ls : List (List A)). g j ++ flatten ls) e
                    (map_count g f (suc a) n (λ j l m. same j (omega arith) (omega arith) (λ q. absurd (omega arith))));
              }
          | no ne ↦
              (let rest = around (suc a) n (omega arith) (omega arith) (λ j l m. same j (omega arith) (omega arith)) in
              record {
                front = f a ++ rest.front;
                back = rest.back;
                first = ap (λ (l : List A). f a ++ l) rest.first ∙ sym (append_assoc (f a) rest.front (f k ++ rest.back));
                second =
                    ap₂ (λ (x l : List A). x ++ l) (same a (omega arith) (omega arith) ne) rest.second
                    ∙ sym (append_assoc (f a) rest.front (g k ++ rest.back));
              })
        ]

  -- a part taken to the front
  pub perm_front : (front part back : List A) → Permᴰ (front ++ (part ++ back)) (part ++ (front ++ back))
  perm_front front part back =
      Permᴰ.trans (perm_of_eq (sym (append_assoc front part back)))
      (Permᴰ.trans (Permᴰ.append_right back (Permᴰ.append_comm front part)) (perm_of_eq (append_assoc part front back)))
