-- A list written place by place is the list that the elements come from; a room's rows are slots and then zeros.
use Prim.Native.Nat.{ℕ, zero, suc, ◌+◌, ◌≤◌, ◌<◌}
use mathlib.Core.Path.{◌≡◌, refl, sym, ap, ap₂, ◌∙◌}
use mathlib.Core.List.{List, [], ◌∷◌, ◌++◌, append-nil}
use native.Mathlib.Numerals.{add-one}
use native.Mathlib.Omega.{arith}
use lib.ListN.{length, get_or, set, replicate, get_or-replicate, drop_of_length-le}
use lib.Seq.{paste, paste-suc, take_all}

-- the element at a place of a list followed by z over and over
pub padded_at : {A : Type 0} (xs : List A) (n i : ℕ) (z d : A) → i < length xs + n → get_or (xs ++ replicate n z) i d ≡ get_or xs i z
padded_at [] n i z d h = get_or-replicate n i z d (omega arith)
padded_at (x ∷ xs) n zero z d h = refl
padded_at (x ∷ xs) n (suc i) z d h = padded_at xs n i z d (omega arith)

-- a turn of the loop: place i of old is written with element i of new
pub written_more : {A : Type 0} (old new before : List A) (i : ℕ) (d x : A) → i < length old → length old ≤ length new → x ≡ get_or new i d
    → before ≡ paste old 0 new i → set before i x ≡ paste old 0 new (i + 1)
written_more old new before i d x h same e was =
    let place : 0 + i ≡ i = omega arith in
    ap (λ (l : List _). set l i x) was
    ∙ ap (set (paste old 0 new i) i) e
    ∙ ap (λ (k : ℕ). set (paste old 0 new i) k (get_or new i d)) (sym place)
    ∙ paste-suc old 0 new i d (omega arith) (omega arith)
    ∙ ap (paste old 0 new) (sym (add-one i))

pub written_all : {A : Type 0} (old new : List A) (i : ℕ) → length old ≤ i → length new ≤ i → paste old 0 new i ≡ new
written_all old new i h k =
    ap₂ (λ (a b : List _). a ++ b) (take_all i new k) (drop_of_length-le old {i = 0 + i} (omega arith)) ∙ append-nil new
