-- The last of some keys: no key is after it, it is not after what none of them is after, and it does not depend on their order.
-- `later` has these laws for two keys, and they pass along the list.
use Prim.Native.Nat.{ℕ, zero, suc}
use native.Mathlib.Omega.{arith}
use mathlib.Core.Path.{◌≡◌, refl, sym, ◌∙◌, ap, ap₂}
use mathlib.Core.Bool.{Bool, true, false}
use mathlib.Core.List.{List, [], ◌∷◌, foldl, map, foldl-map, Permᴰ}
use Rattle.lists.specs.Lists.{All}
use Rattle.metric_rules.specs.declared.Profile.{Profile}
use Rattle.metric_rules.specs.Row.{Row, tag_of}
use Rattle.tree_rules.specs.Sorting.{key_le}
use Rattle.tree_rules.specs.Guided.{from_slot}
use Rattle.tree_rules.proofs.Sorting.{key_le_refl, key_le_trans, key_le_flip, key_le_antisym, key_le_less, key_le_same}

-- the key that stands later in the order
unfoldable pub later : List ℕ → List ℕ → List ℕ
unfolding key_le
later a b = elim (key_le a b) [ true ↦ b | false ↦ a ]

module _ (dist : Profile → Profile → ℕ) where
  -- a slot's place in the order of v's rest
  unfoldable pub slot_key : Row → Row → List ℕ
  unfolding from_slot tag_of
  slot_key v x = from_slot dist v x ∷ tag_of x ∷ []

  -- the last key of some slots; of none it is distance 0 and tag 0, after which every key stands
  unfoldable pub last_key : Row → List Row → List ℕ
  unfolding later slot_key
  last_key v xs = foldl (λ k x. later k (slot_key v x)) (0 ∷ 0 ∷ []) xs

pub later_known : (a b : List ℕ) → key_le a b ≡ true → later a b ≡ b
unfolding later
later_known a b h = ap (λ (p : Bool). elim p [ true ↦ b | false ↦ a ]) h

-- what holds of a key that is the one and of a key that is the other holds of the later of them
by_later : (P : List ℕ → Type 0) (a b : List ℕ) → (key_le a b ≡ true → P b) → (key_le b a ≡ true → P a) → P (later a b)
unfolding later
by_later P a b f g = go (key_le a b) refl
  where
    go : (p : Bool) → key_le a b ≡ p → P (elim p [ true ↦ b | false ↦ a ])
    go true e = f e
    go false e = g (key_le_flip a b e)

later_first : (a b : List ℕ) → key_le a (later a b) ≡ true
later_first a b = by_later (λ k. key_le a k ≡ true) a b (λ h. h) (λ h. key_le_refl a)

later_second : (a b : List ℕ) → key_le b (later a b) ≡ true
later_second a b = by_later (λ k. key_le b k ≡ true) a b (λ h. key_le_refl b) (λ h. h)

later_least : (a b c : List ℕ) → key_le a c ≡ true → key_le b c ≡ true → key_le (later a b) c ≡ true
later_least a b c h k = by_later (λ j. key_le j c ≡ true) a b (λ _. k) (λ _. h)

later_le : (s a b : List ℕ) → key_le (later (later s a) b) (later (later s b) a) ≡ true
later_le s a b =
    let z : List ℕ = later (later s b) a in
    later_least (later s a) b z
    (later_least s a z (key_le_trans s (later s b) z (later_first s b) (later_first (later s b) a)) (later_second (later s b) a))
    (key_le_trans b (later s b) z (later_second s b) (later_first (later s b) a))

later_swap : (s a b : List ℕ) → later (later s a) b ≡ later (later s b) a
later_swap s a b = key_le_antisym (later (later s a) b) (later (later s b) a) (later_le s a b) (later_le s b a)

-- the last of some keys, from a first one
abbrev pub last_of : List ℕ → List (List ℕ) → List ℕ
last_of s ks = foldl later s ks

pub last_perm : {ks js : List (List ℕ)} → Permᴰ ks js → (s : List ℕ) → last_of s ks ≡ last_of s js
last_perm Permᴰ.nil s = refl
last_perm (Permᴰ.cons {l₁ = l₁} e p) s = ap (λ (k : List ℕ). last_of (later s k) l₁) e ∙ last_perm p (later s _)
last_perm (Permᴰ.swap {a = a} {b = b} {l = l} e f) s =
    ap (λ (k : List ℕ). last_of k l) (later_swap s a b ∙ ap₂ (λ (j k : List ℕ). later (later s j) k) f e)
last_perm (Permᴰ.trans p q) s = last_perm p s ∙ last_perm q s

pub last_start : (s : List ℕ) (ks : List (List ℕ)) → key_le s (last_of s ks) ≡ true
last_start s [] = key_le_refl s
last_start s (k ∷ ks) = key_le_trans s (later s k) (last_of (later s k) ks) (later_first s k) (last_start (later s k) ks)

pub last_upper : (s : List ℕ) (ks : List (List ℕ)) → All (λ k. key_le k (last_of s ks) ≡ true) ks
last_upper s [] = tt
last_upper s (k ∷ ks) =
    (key_le_trans k (later s k) (last_of (later s k) ks) (later_second s k) (last_start (later s k) ks), last_upper (later s k) ks)

pub last_least : (s : List ℕ) (ks : List (List ℕ)) (c : List ℕ) → key_le s c ≡ true → All (λ k. key_le k c ≡ true) ks → key_le (last_of s ks) c ≡ true
last_least s [] c h a = h
last_least s (k ∷ ks) c h a = last_least (later s k) ks c (later_least s k c h a.0) a.1

-- every key of a distance and a tag is after the one that a search for the last starts from
pub least_key : (d t : ℕ) → key_le (0 ∷ 0 ∷ []) (d ∷ t ∷ []) ≡ true
least_key zero zero = key_le_refl (0 ∷ 0 ∷ [])
least_key zero (suc t) = key_le_same 0 0 (0 ∷ []) (suc t ∷ []) refl (key_le_less 0 (suc t) [] [] (omega arith))
least_key (suc d) t = key_le_less 0 (suc d) (0 ∷ []) (t ∷ []) (omega arith)

pub last_key_of : (dist : Profile → Profile → ℕ) (v : Row) (xs : List Row) → last_key dist v xs ≡ last_of (0 ∷ 0 ∷ []) (map (slot_key dist v) xs)
unfolding last_key
last_key_of dist v xs = sym (foldl-map (slot_key dist v) later xs (0 ∷ 0 ∷ []))
