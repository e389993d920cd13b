-- The bytes of a piece before its first line feed: they have none, and the piece is they, the line feed and the rest, or they alone.
use Prim.Native.Nat.{ℕ, suc, ◌<◌}
use mathlib.Core.Path.{◌≡◌, refl, ap, ◌∙◌}
use mathlib.Core.Bool.{Bool, true, false}
use mathlib.Core.List.{List, [], ◌∷◌, ◌++◌}
use native.Mathlib.Omega.{arith}
use lib.Dec.{eqb}
use lib.ListN.{length, drop}
use borrow.Author.Tests.{eqb-true, eqb-false, eq-eqb, ne_eqb}
use Rattle.text_rules.specs.Text.{line_feed}
use Rattle.text_rules.proofs.Parts.{Free}
use Rattle.yard_lines.specs.Held.{until_feed}

pub until_feed_lem : (b : ℕ) (bs : List ℕ) → b ≡ line_feed → until_feed (b ∷ bs) ≡ []
unfolding until_feed
until_feed_lem b bs e = ap (λ t. elim t [ true ↦ [] | false ↦ b ∷ until_feed bs ]) (eq-eqb b line_feed e)

pub until_byte : (b : ℕ) (bs : List ℕ) → (b ≡ line_feed → ⊥) → until_feed (b ∷ bs) ≡ b ∷ until_feed bs
unfolding until_feed
until_byte b bs e = ap (λ t. elim t [ true ↦ [] | false ↦ b ∷ until_feed bs ]) (ne_eqb b line_feed e)

-- the bytes before a line feed have none
pub until_free : (bs : List ℕ) → Free line_feed (until_feed bs)
unfolding until_feed
until_free [] = tt
until_free (b ∷ bs) = by (eqb b line_feed) refl (until_free bs)
  where
    by : (t : Bool) → eqb b line_feed ≡ t → Free line_feed (until_feed bs) → Free line_feed (elim t [ true ↦ [] | false ↦ b ∷ until_feed bs ])
    by true e h = tt
    by false e h = (eqb-false b line_feed e, h)

-- a piece is what stands before its line feed, the line feed, and the rest; or it has none
pub feed_after : (bs : List ℕ) → length (until_feed bs) < length bs → bs ≡ until_feed bs ++ line_feed ∷ drop (suc (length (until_feed bs))) bs
feed_after [] h = absurd (omega arith)
feed_after (b ∷ bs) h = by (eqb b line_feed) refl (feed_after bs)
  where
    by : (t : Bool) → eqb b line_feed ≡ t → (length (until_feed bs) < length bs → bs ≡ until_feed bs ++ line_feed ∷ drop (suc (length (until_feed bs))) bs)
        → b ∷ bs ≡ until_feed (b ∷ bs) ++ line_feed ∷ drop (suc (length (until_feed (b ∷ bs)))) (b ∷ bs)
    by true e k = rw (until_feed_lem b bs (eqb-true b line_feed e)) (ap (λ x. x ∷ bs) (eqb-true b line_feed e))
    by false e k =
        let next : until_feed (b ∷ bs) ≡ b ∷ until_feed bs = until_byte b bs (eqb-false b line_feed e) in
        rw next (ap (λ xs. b ∷ xs) (k (omega (arith, ap length next))))

pub no_feed : (bs : List ℕ) → length (until_feed bs) ≡ length bs → until_feed bs ≡ bs
unfolding until_feed
no_feed [] h = refl
no_feed (b ∷ bs) h = by (eqb b line_feed) refl (no_feed bs)
  where
    by : (t : Bool) → eqb b line_feed ≡ t → (length (until_feed bs) ≡ length bs → until_feed bs ≡ bs) → until_feed (b ∷ bs) ≡ b ∷ bs
    by true e k = absurd (omega (arith, ap length (until_feed_lem b bs (eqb-true b line_feed e))))
    by false e k =
        let next : until_feed (b ∷ bs) ≡ b ∷ until_feed bs = until_byte b bs (eqb-false b line_feed e) in
        next ∙ ap (λ xs. b ∷ xs) (k (omega (arith, ap length next)))
