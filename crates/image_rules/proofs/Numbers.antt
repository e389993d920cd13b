-- The other direction of the codec, number by number: bytes are those of the number that they are read as, so fields read at a place are
-- written as the bytes that stand there.
use Prim.Native.Nat.{ℕ, zero, suc, ◌+◌, ◌*◌, ◌/◌, ◌%◌, ◌^◌, ◌≤◌, ◌<◌}
use mathlib.Core.Path.{◌≡◌, refl, sym, ap, ap₂, ◌∙◌}
use mathlib.Core.List.{List, [], ◌∷◌, ◌++◌}
use native.Mathlib.Nat.{pow-suc, one-le-pow, zero-lt-suc, le_of_suc-le-suc, not-suc-le-zero}
use native.Mathlib.Omega.{arith}
use lib.ListN.{length, take, drop, length-take, length-drop}
use lib.Seq.{length-take-le, drop-drop, take-add}
use Rattle.lists.specs.Lists.{total, All}
use Rattle.lists.proofs.Lists.{all_take, all_drop}
use Rattle.image_rules.specs.Bytes.{bytes_of, number_of, bytes_of_fields}
use Rattle.image_rules.specs.Read.{number_at, fields_at}

pub bytes_number : (bs : List ℕ) → All (λ b. b < 2 ^ 8) bs → bytes_of (length bs) (number_of bs) ≡ bs
unfolding bytes_of number_of
bytes_number [] h = refl
bytes_number (b ∷ bs) h =
    let low : (b + 256 * number_of bs) % 256 ≡ b = omega (arith, h.0) in
    let high : (b + 256 * number_of bs) / 256 ≡ number_of bs = omega (arith, h.0) in
    ap₂ ◌∷◌ low (rw high (bytes_number bs h.1))

pub number_fits : (w : ℕ) (bs : List ℕ) → length bs ≤ w → All (λ b. b < 2 ^ 8) bs → number_of bs < 256 ^ w
unfolding number_of
number_fits w [] l h = one-le-pow w 256 (zero-lt-suc 255)
number_fits zero (b ∷ bs) l h = absurd (not-suc-le-zero l)
number_fits (suc w) (b ∷ bs) l h = omega (arith, h.0, number_fits w bs (le_of_suc-le-suc l) h.1, pow-suc 256 w)

pub length_fields_at : (image ws : List ℕ) (at : ℕ) → length (fields_at image ws at) ≡ length ws
unfolding fields_at
length_fields_at image [] at = refl
length_fields_at image (w ∷ ws) at = ap suc (length_fields_at image ws (at + w))

module _ (image : List ℕ) (bytes : All (λ b. b < 2 ^ 8) image) where
  here_bytes : (w at : ℕ) → All (λ b. b < 2 ^ 8) (take w (drop at image))
  here_bytes w at = all_take (λ b. b < 2 ^ 8) w (drop at image) (all_drop (λ b. b < 2 ^ 8) at image bytes)

  pub number_at_fits : (w at : ℕ) → number_at image w at < 256 ^ w
  unfolding number_at
  number_at_fits w at = number_fits w (take w (drop at image)) (omega (arith, length-take w (drop at image))) (here_bytes w at)

  pub bytes_at : (w at : ℕ) → at + w ≤ length image → bytes_of w (number_at image w at) ≡ take w (drop at image)
  unfolding number_at
  bytes_at w at h =
      let long : length (take w (drop at image)) ≡ w = length-take-le w (drop at image) (omega (arith, length-drop at image)) in
      ap (λ (n : ℕ). bytes_of n (number_of (take w (drop at image)))) (sym long) ∙ bytes_number (take w (drop at image)) (here_bytes w at)

  pub bytes_of_fields_at : (ws : List ℕ) (at : ℕ) → at + total ws ≤ length image
      → bytes_of_fields ws (fields_at image ws at) ≡ take (total ws) (drop at image)
  unfolding fields_at bytes_of_fields total
  bytes_of_fields_at [] at h = refl
  bytes_of_fields_at (w ∷ ws) at h =
      rw (take-add w (total ws) (drop at image), drop-drop w at image)
      (ap₂ ◌++◌ (bytes_at w at (omega arith)) (bytes_of_fields_at ws (at + w) (omega arith)))
