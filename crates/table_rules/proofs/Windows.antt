-- A window of a list: its m elements from place f on. Lists that agree before a place, or from a place on, have the same windows there;
-- an element set or a block pasted inside a window changes that window alone. Each from the laws of `take` and `drop`.
use Prim.Native.Nat.{ℕ, zero, suc, ◌+◌, ◌-◌, ◌≤◌, ◌<◌}
use mathlib.Core.Path.{◌≡◌, sym, ◌∙◌, ap}
use mathlib.Core.List.{List, [], ◌∷◌, ◌++◌, append_assoc}
use native.Mathlib.Nat.{zero-add, suc-add}
use native.Mathlib.Omega.{arith}
use lib.ListN.{length, get_or, take, drop, set, length-take, length-drop}
use lib.Seq.{paste, take-nil, take_all, get_or-take, get_or-drop, take-take, take_at, drop_at, drop-drop, take-set-lt, drop-set-add, length-take-le, length-paste}
use lib.Seq.{drop-paste}

module _ {A : Type 0} where
  unfoldable pub window : ℕ → ℕ → List A → List A
  window f m xs = take m (drop f xs)

  drop_take : (f m : ℕ) (xs : List A) → drop f (take (f + m) xs) ≡ take m (drop f xs)
  drop_take zero m xs = ap (λ (n : ℕ). take n xs) (zero-add m)
  drop_take (suc f) m [] = ap (drop (suc f)) (take-nil (suc f + m)) ∙ sym (take-nil m)
  drop_take (suc f) m (x ∷ xs) = ap (λ (n : ℕ). drop (suc f) (take n (x ∷ xs))) (suc-add f m) ∙ drop_take f m xs

  pub window_get_or : (f m i : ℕ) (xs : List A) (d : A) → i < m → get_or (window f m xs) i d ≡ get_or xs (f + i) d
  unfolding window
  window_get_or f m i xs d h = get_or-take m (drop f xs) i d h ∙ get_or-drop f xs i d

  -- the first n elements of a window
  pub take_window : (f m n : ℕ) (xs : List A) → n ≤ m → take n (window f m xs) ≡ take n (drop f xs)
  unfolding window
  take_window f m n xs h = take-take n m (drop f xs) h

  pub length_window : (f m : ℕ) (xs : List A) → f + m ≤ length xs → length (window f m xs) ≡ m
  unfolding window
  length_window f m xs h = omega (arith, length-take m (drop f xs), length-drop f xs)

  -- lists that agree up to place p, or from place p on
  module _ (p : ℕ) (xs ys : List A) where
    pub getD-before : take p xs ≡ take p ys → (i : ℕ) (d : A) → i < p → get_or xs i d ≡ get_or ys i d
    getD-before e i d h = sym (get_or-take p xs i d h) ∙ ap (λ (l : List A). get_or l i d) e ∙ get_or-take p ys i d h

    pub window-before : take p xs ≡ take p ys → (f m : ℕ) → f + m ≤ p → window f m xs ≡ window f m ys
    unfolding window
    window-before e f m h =
        let cut : (l : List A) → drop f (take (f + m) (take p l)) ≡ take m (drop f l) =
        λ l. ap (drop f) (take-take (f + m) p l h) ∙ drop_take f m l in
        sym (cut xs) ∙ ap (λ (l : List A). drop f (take (f + m) l)) e ∙ cut ys

    pub drop-after : drop p xs ≡ drop p ys → (f : ℕ) → p ≤ f → drop f xs ≡ drop f ys
    drop-after e f h =
        let place : p + (f - p) ≡ f = omega arith in
        let cut : (l : List A) → drop (f - p) (drop p l) ≡ drop f l =
        λ l. drop-drop (f - p) p l ∙ ap (λ (n : ℕ). drop n l) place in
        sym (cut xs) ∙ ap (drop (f - p)) e ∙ cut ys

    pub get_d_after : drop p xs ≡ drop p ys → (i : ℕ) (d : A) → p ≤ i → get_or xs i d ≡ get_or ys i d
    get_d_after e i d h =
        let place : p + (i - p) ≡ i = omega arith in
        let cut : (l : List A) → get_or (drop p l) (i - p) d ≡ get_or l i d =
        λ l. get_or-drop p l (i - p) d ∙ ap (λ (n : ℕ). get_or l n d) place in
        sym (cut xs) ∙ ap (λ (l : List A). get_or l (i - p) d) e ∙ cut ys

    pub window-after : drop p xs ≡ drop p ys → (f m : ℕ) → p ≤ f → window f m xs ≡ window f m ys
    unfolding window
    window-after e f m h = ap (take m) (drop-after e f h)

  -- an element set inside a window
  pub window_set : (f m i : ℕ) (xs : List A) (a : A) → i < m → window f m (set xs (f + i) a) ≡ set (window f m xs) i a
  unfolding window
  window_set f m i xs a h = ap (take m) (drop-set-add f xs i a) ∙ take-set-lt m (drop f xs) i a h

  -- a block pasted over a window
  module _ (xs block : List A) (f m : ℕ) (inside : f + m ≤ length xs) (fits : length block ≡ m) where
    front_fits : length (take f xs) ≡ f
    front_fits = length-take-le f xs (omega arith)

    block-whole : take m block ≡ block
    block-whole = take_all m block (omega arith)

    pub window-paste : window f m (paste xs f block m) ≡ block
    unfolding window
    window-paste =
        ap (λ (l : List A). take m (drop f l)) (append_assoc (take f xs) (take m block) (drop (f + m) xs))
        ∙ ap (take m) (drop_at (take f xs) (take m block ++ drop (f + m) xs) f front_fits)
        ∙ take_at (take m block) (drop (f + m) xs) m (length-take-le m block (omega arith))
        ∙ block-whole

    pub before-paste : take f (paste xs f block m) ≡ take f xs
    before-paste =
        ap (take f) (append_assoc (take f xs) (take m block) (drop (f + m) xs)) ∙ take_at (take f xs) (take m block ++ drop (f + m) xs) f front_fits

    pub after-paste : drop (f + m) (paste xs f block m) ≡ drop (f + m) xs
    after-paste = drop-paste xs f block m (omega arith) (omega arith)

    pub paste-length : length (paste xs f block m) ≡ length xs
    paste-length = length-paste xs f block m inside (omega arith)
